-- The constants upward: what is left to test from the constant at hand on is what there was to test from the first.
use mathlib.Core.List.{List, [], ◌∷◌}
use mathlib.Core.Option.{none, some}
use mathlib.Core.Path.{◌≡◌, refl, sym, ◌∙◌}
use Prim.Native.Nat.{ℕ, ◌+◌, ◌≤◌, ◌<◌}
use native.Mathlib.Numerals.{add-one}
use native.Mathlib.Omega.{arith}
use lib.ListN.{length, get_or, drop}
use lib.Seq.{drop-cons, drop-length}
use Rattle.answer.specs.declared.Refusal.{Refusal}
use Rattle.before.specs.Before.{first, rights_test, constants_test}
use Rattle.before.proofs.Tests.{last}

-- the constants before the one at hand are granted
pub record Granted (rights : ℕ) (words : List ℕ) (i : ℕ) : Type 0 where
  pub within : i ≤ length words
  pub left : constants_test rights (drop i words) ≡ constants_test rights words

pub none_yet : (rights : ℕ) (words : List ℕ) → Granted rights words 0
none_yet rights words = record { within = omega arith; left = refl }

module _ {rights : ℕ} {words : List ℕ} {i : ℕ} (inv : Granted rights words i) where
  -- past the last one none lacks anything
  pub all_granted : length words ≤ i → none ≡ constants_test rights words
  unfolding constants_test
  all_granted h =
      let end : i ≡ length words = omega arith in
      rw (end, drop-length) at inv.left

  module _ (h : i < length words) where
    -- the one at hand, then those after it
    pub in_turn : constants_test rights words
        ≡ first (rights_test (get_or words i 0) rights ∷ constants_test rights (drop (i + 1) words) ∷ [])
    unfolding constants_test
    in_turn = sym inv.left ∙ rw (drop-cons words i 0 h, add-one)

    pub one_more : none ≡ rights_test (get_or words i 0) rights → Granted rights words (i + 1)
    unfolding first
    one_more e = record { within = omega arith; left = sym (in_turn ∙ rw (← e) (last _)) }

    pub lacks : {answer : Refusal} → some answer ≡ rights_test (get_or words i 0) rights
        → some answer ≡ constants_test rights words
    unfolding first
    lacks e = sym (in_turn ∙ rw (← e) refl)
