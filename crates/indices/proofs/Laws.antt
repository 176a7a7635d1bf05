-- The first bad reference: of a list that goes on after another, as code finds it, and what it means that there is
-- none.
use mathlib.Core.Bool.{Bool, true, false, cond}
use mathlib.Core.List.{List, [], ◌∷◌, ◌++◌, Memᴰ}
use mathlib.Core.Path.{◌≡◌, refl, sym, ap, ◌∙◌}
use Prim.Native.Nat.{ℕ, ◌<◌, ◌≤◌}
use native.Mathlib.Omega.{arith}
use borrow.Author.Tests.{lt-ltb, ltb-true, ltb-false}
use lib.Dec.{eqb, ltb}
use Rattle.std.specs.Prelude.{Result, Ok, Err}
use Rattle.std.specs.Result.{IsErr, IsErrAnd}
use Rattle.pools.specs.Told.{Told, fine}
use Rattle.indices.specs.Indices.{Ref, into, bad_ref, first_bad_ref}
use Rattle.indices.specs.Checks.{checked_by, checked_told}
use Rattle.indices.specs.declared.BadIndex.{BadIndex}
use Rattle.indices.specs.declared.Pool.{Pool}

-- a refusal is not the answer that all is fine
not_fine : {r : Ref} → bad_ref r ≡ fine → ⊥
not_fine e = omega (arith, ap (λ (t : Told). t.kind) e)

-- ---- each is below the size of its pool

module _ (size : ℕ → ℕ) where
  abbrev pub AllBelow : List Ref → Type 0
  AllBelow rs = (r : Ref) → Memᴰ r rs → r.index < size r.pool

  -- where that is so, nothing is bad
  pub below_fine : (rs : List Ref) → AllBelow rs → first_bad_ref size rs ≡ fine
  unfolding first_bad_ref
  below_fine [] b = refl
  below_fine (r ∷ rs) b =
      rw (lt-ltb r.index (size r.pool) (b r (Memᴰ.head refl)))
      (below_fine rs (λ s m. b s (Memᴰ.tail m)))

  -- and only there
  pub fine_below : (rs : List Ref) → first_bad_ref size rs ≡ fine → AllBelow rs
  unfolding first_bad_ref
  fine_below [] e s m = elim m [ ]
  fine_below (r ∷ rs) e s m = go (ltb r.index (size r.pool)) refl (fine_below rs) e m
    where
      go : (t : Bool) → ltb r.index (size r.pool) ≡ t → (first_bad_ref size rs ≡ fine → AllBelow rs)
          → cond t (first_bad_ref size rs) (bad_ref r) ≡ fine → Memᴰ s (r ∷ rs) → s.index < size s.pool
      go true l rest e (Memᴰ.head q) = rw q (ltb-true r.index (size r.pool) l)
      go true l rest e (Memᴰ.tail m) = rest e s m
      go false l rest e m = absurd (not_fine e)

  -- a reference that is told is one of them, and is not below
  pub told_bad : (rs : List Ref) {r : Ref} → first_bad_ref size rs ≡ bad_ref r
      → Memᴰ r rs × (size r.pool ≤ r.index)
  unfolding first_bad_ref
  told_bad [] e = absurd (not_fine (sym e))
  told_bad (s ∷ rs) {r} e = go (ltb s.index (size s.pool)) refl (told_bad rs) e
    where
      go : (t : Bool) → ltb s.index (size s.pool) ≡ t
          → (first_bad_ref size rs ≡ bad_ref r → Memᴰ r rs × (size r.pool ≤ r.index))
          → cond t (first_bad_ref size rs) (bad_ref s) ≡ bad_ref r → Memᴰ r (s ∷ rs) × (size r.pool ≤ r.index)
      go true l rest e = let found = rest e in (Memᴰ.tail found.0, found.1)
      go false l rest e =
          let same : r ≡ s = ap (λ (t : Told). into t.q t.p) (sym e) in
          (Memᴰ.head same, rw same (ltb-false s.index (size s.pool) l))

-- ---- one list after another

-- an answer, unless it is that all is fine: then another
infixl 20 ◌then◌
abbrev ◌then◌ : Told → Told → Told
first then next = cond (eqb first.kind 0) next first

module _ (size : ℕ → ℕ) (ys : List Ref) where
  both : (xs : List Ref) → first_bad_ref size (xs ++ ys) ≡ first_bad_ref size xs then first_bad_ref size ys
  unfolding first_bad_ref
  both [] = refl
  both (x ∷ xs) = go (ltb x.index (size x.pool)) (both xs)
    where
      go : (t : Bool) → first_bad_ref size (xs ++ ys) ≡ first_bad_ref size xs then first_bad_ref size ys
          → cond t (first_bad_ref size (xs ++ ys)) (bad_ref x)
          ≡ cond t (first_bad_ref size xs) (bad_ref x) then first_bad_ref size ys
      go true rest = rest
      go false rest = refl

  -- both are fine only where the first is
  pub fine_first : (xs : List Ref) → first_bad_ref size (xs ++ ys) ≡ fine → first_bad_ref size xs ≡ fine
  fine_first xs e = below_fine size xs (λ r m. fine_below size (xs ++ ys) e r (among xs m))
    where
      among : {r : Ref} (xs : List Ref) → Memᴰ r xs → Memᴰ r (xs ++ ys)
      among {r = r} [] x' = elim x' [ ]
      among (x ∷ xs) (Memᴰ.head q) = Memᴰ.head q
      among (x ∷ xs) (Memᴰ.tail m) = Memᴰ.tail (among xs m)

  module _ (xs : List Ref) where
    -- where code finds the first list fine, the second's answer is that of both
    pub goes_on : (x : Unit) {t : Told} → checked_told (Ok x) ≡ first_bad_ref size xs
        → t ≡ first_bad_ref size ys → t ≡ first_bad_ref size (xs ++ ys)
    unfolding checked_by
    goes_on x found e = e ∙ sym (rw (both xs, ← found))

    -- where it finds one of the first bad, that is what it hands on
    pub stops : (bad : BadIndex Pool) (r : Result Unit (BadIndex Pool))
        → checked_told (Err bad) ≡ first_bad_ref size xs → IsErr r × IsErrAnd r (λ a. a ≡ bad)
        → checked_told r ≡ first_bad_ref size (xs ++ ys)
    unfolding checked_by
    stops bad (Ok x) found same = absurd same.1
    stops bad (Err a) found same = rw (same.1, both xs, ← found)
