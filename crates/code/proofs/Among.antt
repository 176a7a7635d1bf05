-- A number is among others exactly if it is a member of their list.
use mathlib.Core.Bool.{Bool, true, false, ◌||◌}
use mathlib.Core.List.{List, [], ◌∷◌, Memᴰ}
use mathlib.Core.Path.{◌≡◌, refl}
use Prim.Native.Nat.{ℕ}
use native.Mathlib.Omega.{arith}
use borrow.Author.Tests.{eqb-true, eq-eqb}
use lib.Dec.{eqb}
use Rattle.code.specs.Layout.{among}

pub false_is : {A : Type 0} → false ≡ true → A
false_is e = let z : ◌≡◌ {A = ℕ} 0 1 = cc in absurd (omega arith)

pub or_true : (a : Bool) → a || true ≡ true
or_true true = refl
or_true false = refl

pub among_member : (x : ℕ) (xs : List ℕ) → among x xs ≡ true → Memᴰ x xs
unfolding among
among_member x [] e = false_is e
among_member x (y ∷ ys) e = go (eqb x y) refl e (λ rest. among_member x ys rest)
  where
    go : (b : Bool) → eqb x y ≡ b → b || among x ys ≡ true → (among x ys ≡ true → Memᴰ x ys) → Memᴰ x (y ∷ ys)
    go true q p rest = Memᴰ.head (eqb-true x y q)
    go false q p rest = Memᴰ.tail (rest p)

pub member_among : (x : ℕ) (xs : List ℕ) → Memᴰ x xs → among x xs ≡ true
unfolding among
member_among x [] x'' = elim x'' [ ]
member_among x (y ∷ ys) (Memᴰ.head e) = rw (eq-eqb x y e)
member_among x (y ∷ ys) (Memᴰ.tail m) = go (eqb x y) (member_among x ys m)
  where
    go : (b : Bool) → among x ys ≡ true → b || among x ys ≡ true
    go true e = refl
    go false e = e
