-- The test of depths tells whether they are equal.
use mathlib.Core.Path.{◌≡◌, refl}
use mathlib.Core.Bool.{Bool, true, false, ◌&&◌}
use lib.Dec.{eqb}
use borrow.Author.Tests.{eqb-true, eq-eqb}
use Rattle.answer.specs.Depths.{agree}
use Rattle.answer.specs.declared.Depths.{Depths}
use Rattle.answer.proofs.Apart.{zero≢one}

and_left : (a b : Bool) → (a && b) ≡ true → a ≡ true
and_left true b e = refl
and_left false b e = e

and_right : (a b : Bool) → (a && b) ≡ true → b ≡ true
and_right true b e = e
and_right false b e = absurd (zero≢one (cc))

pub agree_refl : (d : Depths) → agree d d ≡ true
unfolding agree
agree_refl d = rw (eq-eqb d.operands _ refl, eq-eqb d.iterators _ refl, eq-eqb d.handlers _ refl)

pub agree_true : (d e : Depths) → agree d e ≡ true → d ≡ e
unfolding agree
agree_true d e h = λ i. record { operands = operands i; iterators = iterators i; handlers = handlers i }
  where
    first_two : (eqb d.operands e.operands && eqb d.iterators e.iterators) ≡ true
    first_two = and_left _ _ h

    operands : d.operands ≡ e.operands
    operands = eqb-true _ _ (and_left _ _ first_two)

    iterators : d.iterators ≡ e.iterators
    iterators = eqb-true _ _ (and_right (eqb d.operands e.operands) _ first_two)

    handlers : d.handlers ≡ e.handlers
    handlers = eqb-true _ _ (and_right (eqb d.operands e.operands && eqb d.iterators e.iterators) _ h)

pub agree_false : (d e : Depths) → ¬ (d ≡ e) → agree d e ≡ false
agree_false d e n = go (agree d e) refl
  where
    go : (t : Bool) → agree d e ≡ t → agree d e ≡ false
    go true h = absurd (n (agree_true d e h))
    go false h = h
