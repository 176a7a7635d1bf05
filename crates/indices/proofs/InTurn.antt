-- A loop over the entries of a table: what is left to find from the entry at hand on is what there was to find from the
-- first. One law for the start, one for a turn, and one for each way out.
use mathlib.Core.List.{List, ◌++◌, flat_map}
use mathlib.Core.Path.{◌≡◌, refl, sym, ap, ◌∙◌}
use Prim.Native.Nat.{ℕ, zero, suc, ◌+◌, ◌-◌, ◌<◌, ◌≤◌}
use native.Mathlib.Omega.{arith}
use Rattle.std.specs.Prelude.{Result, Ok, Err}
use Rattle.std.specs.Result.{IsErr, IsErrAnd}
use Rattle.pools.specs.Pools.{entries}
use Rattle.pools.specs.Told.{Told, fine}
use Rattle.indices.specs.Indices.{Ref, first_bad_ref}
use Rattle.indices.specs.Checks.{checked_told}
use Rattle.indices.specs.declared.BadIndex.{BadIndex}
use Rattle.indices.specs.declared.Pool.{Pool}
use Rattle.indices.proofs.Laws.{goes_on, stops}

module _ (size : ℕ → ℕ) {A : Type 0} (entry : ℕ → A) (refsOf : A → List Ref) where
  -- the references of some entries
  abbrev of : (first count : ℕ) → List Ref
  of first count = flat_map refsOf (entries entry first count)

  -- the entry at hand is i of those from `first` to `end`
  pub record Turn (first count end i : ℕ) : Type 0 where
    pub left : first_bad_ref size (of i (end - i)) ≡ first_bad_ref size (of first count)
    pub ends : end ≡ first + count
    pub within : i ≤ end

  pub starts : (first count : ℕ) → Turn first count (first + count) first
  starts first count =
      let all : first + count - first ≡ count = omega arith in
      record { left = ap (λ (n : ℕ). first_bad_ref size (of first n)) all; ends = refl; within = omega arith }

  one_more : (i n : ℕ) → of i (suc n) ≡ refsOf (entry i) ++ of (i + 1) n
  unfolding flat_map entries
  one_more i n = refl

  -- the entry at hand, and those after it
  split : (end i : ℕ) → i < end → of i (end - i) ≡ refsOf (entry i) ++ of (i + 1) (end - (i + 1))
  split end i h =
      let n : end - i ≡ suc (end - (i + 1)) = omega arith in
      ap (of i) n ∙ one_more i (end - (i + 1))

  none : (i : ℕ) → fine ≡ first_bad_ref size (of i 0)
  unfolding flat_map entries first_bad_ref
  none i = refl

  module _ {first count end i : ℕ} (turn : Turn first count end i) where
    -- past the last entry nothing was bad
    pub done : end ≤ i → fine ≡ first_bad_ref size (of first count)
    done h =
        let n : end - i ≡ 0 = omega arith in
        none i ∙ sym (ap (λ (n : ℕ). first_bad_ref size (of i n)) n) ∙ turn.left

    all : i < end → first_bad_ref size (refsOf (entry i) ++ of (i + 1) (end - (i + 1)))
        ≡ first_bad_ref size (of first count)
    all h = sym (ap (first_bad_ref size) (split end i h)) ∙ turn.left

    module _ (h : i < end) where
      -- one that is fine is passed
      pub next : (x : Unit) → checked_told (Ok x) ≡ first_bad_ref size (refsOf (entry i))
          → Turn first count end (i + 1)
      next x found = record {
        left = goes_on size (of (i + 1) (end - (i + 1))) (refsOf (entry i)) x found refl ∙ all h;
        ends = turn.ends;
        within = omega arith;
      }

      -- one that is bad is the answer
      pub bad_here : (bad : BadIndex Pool) (r : Result Unit (BadIndex Pool))
          → checked_told (Err bad) ≡ first_bad_ref size (refsOf (entry i)) → IsErr r × IsErrAnd r (λ a. a ≡ bad)
          → checked_told r ≡ first_bad_ref size (of first count)
      bad_here bad r found same =
          stops size (of (i + 1) (end - (i + 1))) (refsOf (entry i)) bad r found same ∙ all h

-- the references of entries are the same where each entry has its own list of them
module _ {A : Type 0} (entry : ℕ → A) (refsOf : A → List Ref) where
  each_named : (first count : ℕ) → flat_map (λ rs. rs) (entries (λ i. refsOf (entry i)) first count)
      ≡ flat_map refsOf (entries entry first count)
  unfolding flat_map entries
  each_named first zero = refl
  each_named first (suc n) = ap (λ (rest : List Ref). refsOf (entry first) ++ rest) (each_named (first + 1) n)

  pub each_found : (size : ℕ → ℕ) (first count : ℕ) {t : Told}
      → t ≡ first_bad_ref size (flat_map (λ rs. rs) (entries (λ i. refsOf (entry i)) first count))
      → t ≡ first_bad_ref size (flat_map refsOf (entries entry first count))
  each_found size first count e = e ∙ ap (first_bad_ref size) (each_named first count)
