-- Laws of lists: membership under `map`, and sums over lists without repeats.
use mathlib.Core.Path.{◌≡◌, refl, sym, ap, ◌∙◌}
use mathlib.Core.List.{List, [], ◌∷◌, map}
pub use mathlib.Core.List.Memᴰ.{cases_cons as ∈-cases}
pub use mathlib.Core.List.Memᴰ.{not-nil as ∉-nil}
use Prim.Native.Nat.{ℕ, ◌+◌, ◌≤◌}
use native.Mathlib.Nat.{le_antisymm}
use native.Mathlib.Omega.{arith}
use lib.ListN.{length}
use Rattle.machine.specs.Lists.{◌∈◌, here, there, NoRepeats, sum_of}

-- ---- membership under `map`

module _ {A B : Type 0} (f : A → B) where
  pub ∈-map : {a : A} (l : List A) → a ∈ l → f a ∈ map f l
  ∈-map {a = a} [] x' = elim x' [ ]
  ∈-map (x ∷ l) (here e) = here (ap f e)
  ∈-map (x ∷ l) (there m) = there (∈-map l m)

  pub map_∈ : {b : B} (l : List A) → b ∈ map f l → (a : A) × (a ∈ l) × (f a ≡ b)
  map_∈ {b = b} [] x' = elim x' [ ]
  map_∈ (x ∷ l) (here e) = (x, here refl, sym e)
  map_∈ (x ∷ l) (there m) = let r = map_∈ l m in (r.0, there r.1, r.2)

-- ---- sums

-- The list without the element that the membership points at.
without : {x : ℕ} (ys : List ℕ) → x ∈ ys → List ℕ
without [] x'' = elim x'' [ ]
without (y ∷ ys) (here e) = ys
without (y ∷ ys) (there m) = y ∷ without ys m

sum_without : (f : ℕ → ℕ) {x : ℕ} (ys : List ℕ) (m : x ∈ ys) → sum_of f ys ≡ f x + sum_of f (without ys m)
unfolding sum_of without
sum_without f [] m = elim m [ ]
sum_without f (y ∷ ys) (here e) = rw e
sum_without f (y ∷ ys) (there m) = omega (arith, sum_without f ys m)

∈-without : {x z : ℕ} (ys : List ℕ) (m : x ∈ ys) → z ∈ ys → ¬ (z ≡ x) → z ∈ without ys m
unfolding without
∈-without {z = z} [] m _ n = elim m [ ]
∈-without (y ∷ ys) (here e) (here q) n = absurd (n (q ∙ sym e))
∈-without (y ∷ ys) (here e) (there k) n = k
∈-without (y ∷ ys) (there m) (here q) n = here q
∈-without (y ∷ ys) (there m) (there k) n = there (∈-without ys m k n)

-- A list without repeats has no larger sum than any list that holds its elements.
pub sum_le : (f : ℕ → ℕ) (xs ys : List ℕ) → NoRepeats xs → ((x : ℕ) → x ∈ xs → x ∈ ys) → sum_of f xs ≤ sum_of f ys
unfolding sum_of
sum_le f [] ys nr sub = omega arith
sum_le f (x ∷ xs) ys nr sub =
    let m : x ∈ ys = sub x (here refl) in
    let rest = sum_le f xs (without ys m) nr.1 (λ y k. ∈-without ys m (sub y (there k)) (λ e. nr.0 (rw e at k))) in
    omega (arith, sum_without f ys m)

-- So two lists without repeats that hold the same elements have the same sum.
pub sum_same : (f : ℕ → ℕ) (xs ys : List ℕ)
    → NoRepeats xs
    → NoRepeats ys
    → ((x : ℕ) → x ∈ xs → x ∈ ys)
    → ((x : ℕ) → x ∈ ys → x ∈ xs)
    → sum_of f xs ≡ sum_of f ys
sum_same f xs ys nx ny to fro = le_antisymm (sum_le f xs ys nx to) (sum_le f ys xs ny fro)

-- The length is a sum.
pub sum_ones : (xs : List ℕ) → sum_of (λ x. 1) xs ≡ length xs
unfolding sum_of
sum_ones [] = refl
sum_ones (x ∷ xs) = omega (arith, sum_ones xs)
