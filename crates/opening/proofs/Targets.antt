-- The named places: all of them are kept where there is room, they are as many as T says and one for the entry, and the keys are
-- those and no others.
use mathlib.Core.Bool.{true}
use mathlib.Core.List.{List, [], ◌∷◌, ◌++◌, append_assoc, append-nil}
use mathlib.Core.Path.{◌≡◌, refl, sym, ap, ◌∙◌}
use Prim.Native.Nat.{ℕ, ◌+◌, ◌≤◌, ◌<◌}
use native.Mathlib.Omega.{arith}
use borrow.Author.Tests.{le-leb}
use lib.Dec.{leb}
use lib.ListN.{length, get_or, length-append}
use Rattle.code.specs.Layout.{among}
use Rattle.code.proofs.Among.{among_member, member_among}
use Rattle.order.specs.Order.{Rising, below}
use Rattle.order.proofs.Laws.{rises, all_there, no_other, no_longer, found, found_in}
use Rattle.demand.specs.Span.{Span, chunk_starts, T, E}
use Rattle.rules.specs.Edges.{degree, targets}
use Rattle.machine.specs.Lists.{sum_of}
use Rattle.demand.specs.Chunk.{all_targets}
use Rattle.rules.specs.Script.{Script}
use Rattle.opening.specs.Listing.{keep_all, opening}
use Rattle.opening.specs.Records.{named, keys}

pub length_all : (S : Script) (ps : List ℕ) → length (all_targets S ps) ≡ sum_of (λ p. length (targets S p)) ps
unfolding all_targets sum_of
length_all S [] = refl
length_all S (p ∷ ps) = length-append (targets S p) (all_targets S ps) ∙ ap (λ (n : ℕ). length (targets S p) + n) (length_all S ps)

-- where all targets have room behind what is kept, all are kept
keep_all_lem : (S : Script) (words : ℕ) (kept ps : List ℕ) → length kept + sum_of (λ p. length (targets S p)) ps ≤ words
    → keep_all S words kept ps ≡ kept ++ all_targets S ps
unfolding keep_all all_targets sum_of
keep_all_lem S words kept [] h = sym (append-nil kept)
keep_all_lem S words kept (p ∷ ps) h =
    let room : leb (length kept + length (targets S p)) words ≡ true = le-leb (length kept + length (targets S p)) words (omega arith) in
    rw room (keep_all_lem S words (kept ++ targets S p) ps (omega (arith, length-append kept (targets S p))) ∙ append_assoc kept (targets S p) (all_targets S ps))

-- an instruction has at least as many edges as targets
sum_below : (f g : ℕ → ℕ) → ((p : ℕ) → f p ≤ g p) → (ps : List ℕ) → sum_of f ps ≤ sum_of g ps
unfolding sum_of
sum_below f g h [] = omega arith
sum_below f g h (p ∷ ps) = omega (arith, h p, sum_below f g h ps)

module _ (S : Script) (span : Span) where
  pub targets_below_edges : T S span ≤ E S span
  unfolding T E degree
  targets_below_edges = sum_below (λ p. length (targets S p)) (degree S) (λ p. omega arith) (chunk_starts S span)

  -- what listing keeps is what is named, where so many words have room for it
  pub all_kept_named : (words : ℕ) → 1 + T S span ≤ words
      → keep_all S words (opening words span.entry) (chunk_starts S span) ≡ named S span
  unfolding T opening
  all_kept_named words h =
      let room : leb 1 words ≡ true = le-leb 1 words (omega arith) in
      rw room (keep_all_lem S words (span.entry ∷ []) (chunk_starts S span) (omega arith))

  pub length_named : length (named S span) ≡ 1 + T S span
  unfolding T
  length_named = omega (arith, length_all S (chunk_starts S span))

  pub keys_rise : Rising (keys S span)
  unfolding keys
  keys_rise = rises (named S span)

  pub few_keys : length (keys S span) ≤ 1 + T S span
  unfolding keys
  few_keys = omega (arith, no_longer (named S span), length_named)

  -- a place is among the keys exactly if it is named
  pub named_key : (p : ℕ) → among p (named S span) ≡ true → among p (keys S span) ≡ true
  unfolding keys
  named_key p e = member_among p (keys S span) (all_there (named S span) p (among_member p (named S span) e))

  pub key_named : (p : ℕ) → among p (keys S span) ≡ true → among p (named S span) ≡ true
  unfolding keys
  key_named p e = member_among p (named S span) (no_other (named S span) p (among_member p (keys S span) e))

  -- where a key stands
  pub key_there : (p : ℕ) → among p (keys S span) ≡ true → (below (keys S span) p < length (keys S span)) × (get_or (keys S span) (below (keys S span) p) 0 ≡ p)
  key_there p e = found (keys S span) p keys_rise (among_member p (keys S span) e)

  pub there_key : (p : ℕ) → below (keys S span) p < length (keys S span) → get_or (keys S span) (below (keys S span) p) 0 ≡ p → among p (keys S span) ≡ true
  there_key p h e = member_among p (keys S span) (found_in (keys S span) p h e)
