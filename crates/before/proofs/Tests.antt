-- Several tests in their order.
use mathlib.Core.Bool.{Bool, true, false, cond}
use mathlib.Core.List.{List, [], ◌∷◌}
use mathlib.Core.Option.{none, some}
use mathlib.Core.Path.{◌≡◌, refl}
use Rattle.answer.specs.declared.Refusal.{Refusal}
use Rattle.answer.proofs.Apart.{zero≢one}
use Rattle.before.specs.Before.{Test, first}

-- a test that passes leaves it to the others, and one that refuses does not
pub goes_on : {test : Test} (tests : List Test) → none ≡ test → first tests ≡ first (test ∷ tests)
unfolding first
goes_on tests e = rw (← e) refl

pub stops : {test : Test} {answer : Refusal} (tests : List Test) → some answer ≡ test
    → some answer ≡ first (test ∷ tests)
unfolding first
stops tests e = rw (← e) refl

-- the last is told for itself
pub last : (test : Test) → first (test ∷ []) ≡ test
unfolding first
last none = refl
last (some answer) = refl

-- where none refuses, the first does not, nor any of the others
pub record Both (test : Test) (tests : List Test) : Type 0 where
  pub this : test ≡ none
  pub others : first tests ≡ none

pub both : (test : Test) (tests : List Test) → first (test ∷ tests) ≡ none → Both test tests
unfolding first
both none tests e = record { this = refl; others = e }
both (some answer) tests e = record { this = e; others = absurd (zero≢one (cc)) }

-- what has to hold, where a test that asks it does not refuse
pub not_refused : (b : Bool) (answer : Refusal) → cond b none (some answer) ≡ none → b ≡ true
not_refused true answer e = refl
not_refused false answer e = absurd (zero≢one (cc))
