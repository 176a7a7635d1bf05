-- The jumps of an instruction in turn: what is left to judge from the target at hand on is what there was to judge from the
-- first.
use mathlib.Core.List.{List, ◌∷◌, map}
use mathlib.Core.Option.{Option, none}
use mathlib.Core.Path.{◌≡◌, refl, sym, ap, ◌∙◌}
use Prim.Native.Nat.{ℕ, ◌+◌, ◌≤◌, ◌<◌}
use native.Mathlib.Numerals.{add-one}
use native.Mathlib.Omega.{arith}
use lib.ListN.{length, get_or, drop}
use lib.Seq.{drop-cons, drop-length}
use Rattle.listing.specs.Starts.{starts}
use Rattle.marks.specs.Places.{Holds}
use Rattle.answer.specs.declared.Refusal.{Refusal}
use Rattle.answer.specs.declared.Depths.{Depths}
use Rattle.answer.specs.Depths.{Item}
use Rattle.demand.specs.Chunk.{judge}
use Rattle.rules.specs.Script.{Script}
use Rattle.demand.specs.Span.{Span}
use Rattle.machine.specs.Walk.{first_bad_jump}
use Rattle.std.specs.Prelude.{Result, Ok, Err}
use Rattle.answer.specs.Answer.{told}
use Rattle.ruling.specs.Ruling.{jump_test}
use Rattle.ruling.proofs.Jump.{judged}

abbrev span : (entry end declared : ℕ) → Span
span entry end declared = record { entry = entry; end = end; declared = declared }

-- a jump to each of these targets, with the same depths
abbrev jumps : Depths → List ℕ → List Item
jumps d targets = map (λ (t : ℕ). record { place = t; depths = d }) targets

-- one jump, then those after it
module _ (test : ℕ → Option Refusal) (d : Depths) {t : ℕ} (ts : List ℕ) {r : Result (Unit {0}) Refusal} (e : told r ≡ test t) where
  goes_on : r ≡ Ok tt → first_bad_jump test (jumps d (t ∷ ts)) ≡ first_bad_jump test (jumps d ts)
  unfolding first_bad_jump told
  goes_on p = rw (← e, p)

  stops : {answer : Refusal} → r ≡ Err answer → told r ≡ first_bad_jump test (jumps d (t ∷ ts))
  unfolding first_bad_jump told
  stops p = rw (← e, p)

-- the targets before the one at hand are good
pub record Good (marks targets : List ℕ) (entry end at k : ℕ) : Type 0 where
  pub within : k ≤ length targets
  pub left : (S : Script) (declared : ℕ) (d : Depths) → Holds marks (starts S.code)
      → first_bad_jump (judge S (span entry end declared) at) (jumps d (drop k targets))
      ≡ first_bad_jump (judge S (span entry end declared) at) (jumps d targets)

pub none_yet : (marks targets : List ℕ) (entry end at : ℕ) → Good marks targets entry end at 0
none_yet marks targets entry end at = record { within = omega arith; left = λ S declared d h. refl }

module _ {marks targets : List ℕ} {entry end at k : ℕ} (inv : Good marks targets entry end at k) where
  -- past the last one none is refused
  pub all_good : length targets ≤ k → (S : Script) (declared : ℕ) (d : Depths) → Holds marks (starts S.code)
      → none ≡ first_bad_jump (judge S (span entry end declared) at) (jumps d targets)
  unfolding first_bad_jump
  all_good l S declared d h =
      let past : k ≡ length targets = omega arith in
      rw (past, drop-length) at (inv.left S declared d h)

  module _ (l : k < length targets) {t : ℕ} (e : t ≡ get_or targets k 0) where
    -- the one at hand, then those after it
    here : t ∷ drop (k + 1) targets ≡ drop k targets
    here = rw (e, add-one, drop-cons targets k 0 l)

    in_turn : (S : Script) (declared : ℕ) (d : Depths) → Holds marks (starts S.code)
        → first_bad_jump (judge S (span entry end declared) at) (jumps d (t ∷ drop (k + 1) targets))
        ≡ first_bad_jump (judge S (span entry end declared) at) (jumps d targets)
    in_turn S declared d h =
        ap (λ (ts : List ℕ). first_bad_jump (judge S (span entry end declared) at) (jumps d ts)) here ∙ inv.left S declared d h

    module _ {r : Result (Unit {0}) Refusal} (tested : told r ≡ jump_test marks entry end at t) where
      pub one_more : r ≡ Ok tt → Good marks targets entry end at (k + 1)
      one_more p = record {
        within = omega arith;
        left = λ S declared d h.
            sym (goes_on (judge S (span entry end declared) at) d (drop (k + 1) targets) (tested ∙ judged S (span entry end declared) at t h) p) ∙ in_turn S declared d h;
      }

      pub refused : {answer : Refusal} → r ≡ Err answer → (S : Script) (declared : ℕ) (d : Depths) → Holds marks (starts S.code)
          → told r ≡ first_bad_jump (judge S (span entry end declared) at) (jumps d targets)
      refused p S declared d h =
          stops (judge S (span entry end declared) at) d (drop (k + 1) targets) (tested ∙ judged S (span entry end declared) at t h) p ∙ in_turn S declared d h
