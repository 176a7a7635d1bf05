-- Records recall what the log recalls: the walk over them is the walk of the definition.
use mathlib.Core.Bool.{Bool, true, false, cond}
use mathlib.Core.List.{List, [], ◌∷◌, ◌++◌}
use mathlib.Core.Logic.{◌⊎◌, inl, inr}
use mathlib.Core.Option.{none, some}
use mathlib.Core.Path.{◌≡◌, refl, sym, ap, ◌∙◌}
use Prim.Native.Nat.{ℕ, zero, suc, ◌+◌, ◌-◌, ◌*◌, ◌≤◌, ◌<◌}
use native.Mathlib.Decide.{dec_lt}
use native.Mathlib.Omega.{arith}
use lib.ListN.{length, get_or, set, take, replicate, length-append, length-replicate}
use lib.Seq.{sets, take-set-le, take_at, get_or-append-add}
use Rattle.code.specs.Layout.{among}
use Rattle.order.specs.Order.{below}
use Rattle.answer.specs.declared.Depths.{Depths}
use Rattle.answer.specs.Depths.{Item}
use Rattle.demand.specs.Span.{Span, T}
use Rattle.demand.specs.Chunk.{machine}
use Rattle.rules.specs.Script.{Script}
use Rattle.machine.proofs.Stores.{Noting, Faithful}
use Rattle.words.specs.Seen.{seen_at, note_at}
use Rattle.words.proofs.Notes.{length_note, kept_behind, seen_before, seen_behind, seen_noted, none_seen}
use Rattle.opening.specs.Records.{named, keys, laid}
use Rattle.walk.specs.Records.{slot_of, seen_store}
use Rattle.opening.proofs.Targets.{few_keys, named_key, key_there}

take_sets : (vs l : List ℕ) (n i : ℕ) → n ≤ i → take n (sets l i vs) ≡ take n l
take_sets [] l n i h = refl
take_sets (v ∷ vs) l n i h = take_sets vs (set l i v) n (suc i) (omega arith) ∙ take-set-le n l i v h

pub take_note : (words : List ℕ) (n at : ℕ) (d : Depths) → n ≤ at → take n (note_at words at d) ≡ take n words
unfolding note_at
take_note words n at d h = take_sets ((d.operands + 1) ∷ d.iterators ∷ d.handlers ∷ []) words n at h

-- zeros wherever one looks
get_d_zeros : (n i : ℕ) → ◌≡◌ {A = ℕ} (get_or (replicate n 0) i 0) 0
get_d_zeros zero i = refl
get_d_zeros (suc n) zero = refl
get_d_zeros (suc n) (suc i) = get_d_zeros n i

pub behind_zeros : (xs : List ℕ) (n i : ℕ) → length xs ≤ i → ◌≡◌ {A = ℕ} (get_or (xs ++ replicate n 0) i 0) 0
behind_zeros xs n i h =
    let same : length xs + (i - length xs) ≡ i = omega arith in
    rw same at (get_or-append-add xs (replicate n 0) (i - length xs) 0 ∙ get_d_zeros n (i - length xs))

module _ (S : Script) (span : Span) (words : ℕ) where
  -- so many words: the keys in front, and nothing behind the room that a chunk has
  pub record Fit (s : List ℕ) : Type 0 where
    pub front : take (length (keys S span)) s ≡ keys S span
    pub as_long : length s ≡ words
    pub behind : (i : ℕ) → 4 * (1 + T S span) ≤ i → get_or s i 0 ≡ 0

  module _ (room : 4 * (1 + T S span) ≤ words) where
    -- the depths of a key lie in that room, behind the keys
    pub record Placed (at : ℕ) : Type 0 where
      pub from : 1 + T S span ≤ at
      pub within : at + 3 ≤ 4 * (1 + T S span)

    pub placed : (p : ℕ) → among p (keys S span) ≡ true → Placed (slot_of S span p)
    unfolding slot_of
    placed p e = let h = (key_there S span p e).0 in record { from = omega arith; within = omega (arith, few_keys S span) }

    -- two keys have words of their own
    apart : (p q : ℕ) → among p (keys S span) ≡ true → among q (keys S span) ≡ true → ¬ (p ≡ q)
        → (slot_of S span p + 3 ≤ slot_of S span q) ⊎ (slot_of S span q + 3 ≤ slot_of S span p)
    unfolding slot_of
    apart p q a b n = go (dec_lt (below (keys S span) p) (below (keys S span) q)) (dec_lt (below (keys S span) q) (below (keys S span) p))
      where
        go : Dec (below (keys S span) p < below (keys S span) q) → Dec (below (keys S span) q < below (keys S span) p)
            → (slot_of S span p + 3 ≤ slot_of S span q) ⊎ (slot_of S span q + 3 ≤ slot_of S span p)
        go (yes l) r = inl (omega arith)
        go (no k) (yes l) = inr (omega arith)
        go (no k) (no l) =
            let same : below (keys S span) p ≡ below (keys S span) q = omega arith in
            absurd (n (sym (key_there S span p a).1 ∙ ap (λ (i : ℕ). get_or (keys S span) i 0) same ∙ (key_there S span q b).1))

    fit_noted : (s : List ℕ) → Fit s → (p : ℕ) (d : Depths) (b : Bool) → among p (keys S span) ≡ b → Fit (cond b (note_at s (slot_of S span p) d) s)
    fit_noted s f p d true e =
        let at = placed p e in
        record {
          front = take_note s (length (keys S span)) (slot_of S span p) d (omega (arith, at.from, few_keys S span)) ∙ f.front;
          as_long = length_note s (slot_of S span p) d ∙ f.as_long;
          behind = λ i h. kept_behind s (slot_of S span p) d i (omega (arith, at.within)) ∙ f.behind i h;
        }
    fit_noted s f p d false e = f

    pub faithful : Faithful (machine S span) (seen_store S span) Fit
    faithful = record {
      fits = λ s it n. fit_noted s n.fit it.place it.depths (among it.place (keys S span)) refl;
      recalls_new = new;
      recalls_old = old;
    }
      where
        new : (s : List ℕ) (it : Item) → Noting (machine S span) (seen_store S span) Fit s it → among it.place (named S span) ≡ true
            → seen_at (cond (among it.place (keys S span)) (note_at s (slot_of S span it.place) it.depths) s) (slot_of S span it.place) ≡ some it.depths
        new s it n e =
            rw (named_key S span it.place e) (seen_noted s (slot_of S span it.place) it.depths (omega (arith, (placed it.place (named_key S span it.place e)).within, n.fit.as_long)))

        old : (s : List ℕ) (it : Item) → Noting (machine S span) (seen_store S span) Fit s it → (p : ℕ) → among p (named S span) ≡ true → ¬ (p ≡ it.place)
            → seen_at (cond (among it.place (keys S span)) (note_at s (slot_of S span it.place) it.depths) s) (slot_of S span p) ≡ seen_at s (slot_of S span p)
        old s it n p e d = go (among it.place (keys S span)) refl
          where
            beside : (slot_of S span p + 3 ≤ slot_of S span it.place) ⊎ (slot_of S span it.place + 3 ≤ slot_of S span p)
                → seen_at (note_at s (slot_of S span it.place) it.depths) (slot_of S span p) ≡ seen_at s (slot_of S span p)
            beside (inl h) = seen_before s (slot_of S span it.place) it.depths (slot_of S span p) h
            beside (inr h) = seen_behind s (slot_of S span it.place) it.depths (slot_of S span p) h

            go : (b : Bool) → among it.place (keys S span) ≡ b
                → seen_at (cond b (note_at s (slot_of S span it.place) it.depths) s) (slot_of S span p) ≡ seen_at s (slot_of S span p)
            go true q = beside (apart p it.place (named_key S span p e) q d)
            go false q = refl

    -- before the first item
    pub laid_fit : Fit (laid S span words)
    unfolding laid
    laid_fit = record {
      front = take_at (keys S span) (replicate (words - length (keys S span)) 0) (length (keys S span)) refl;
      as_long = length-append (keys S span) _ ∙ omega (arith, length-replicate {A = ℕ} (words - length (keys S span)) 0, few_keys S span);
      behind = λ i h. behind_zeros (keys S span) (words - length (keys S span)) i (omega (arith, few_keys S span));
    }

    pub laid_empty : (p : ℕ) → among p (named S span) ≡ true → seen_at (laid S span words) (slot_of S span p) ≡ none
    unfolding laid
    laid_empty p e =
        none_seen (laid S span words) (slot_of S span p)
        (behind_zeros (keys S span) (words - length (keys S span)) (slot_of S span p) (omega (arith, (placed p (named_key S span p e)).from, few_keys S span)))
