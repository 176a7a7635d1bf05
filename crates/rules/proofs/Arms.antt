-- The arms of a switch in their order: how many there are, and the one of each number.
use mathlib.Core.List.{List, [], ◌∷◌, ◌++◌, map, append_assoc}
use mathlib.Core.Path.{◌≡◌, refl, sym, ap, ◌∙◌}
use Prim.Native.Nat.{ℕ, zero, suc, ◌+◌, ◌-◌, ◌≤◌, ◌<◌}
use native.Mathlib.Nat.{le_of_suc-le-suc, not-suc-le-zero, add-zero}
use native.Mathlib.Omega.{arith}
use lib.ListN.{length, get_or, length-append, get_or-append}
use lib.Seq.{get_or-append-add}
use Rattle.pools.specs.Pools.{Switch, case_at, ranges_of, entries}
use Rattle.rules.specs.Edges.{arms_of}

-- entries from a first one on
pub entries_map : {A B : Type 0} (f : A → B) (entry : ℕ → A) (first n : ℕ) → map f (entries entry first n) ≡ entries (λ i. f (entry i)) first n
unfolding entries
entries_map f entry first zero = refl
entries_map f entry first (suc n) = ap (λ xs. f (entry first) ∷ xs) (entries_map f entry (first + 1) n)

pub entries_length : {A : Type 0} (entry : ℕ → A) (first n : ℕ) → length (entries entry first n) ≡ n
unfolding entries
entries_length entry first zero = refl
entries_length entry first (suc n) = ap suc (entries_length entry (first + 1) n)

pub entries_at : (entry : ℕ → ℕ) (first n k : ℕ) → k < n → get_or (entries entry first n) k 0 ≡ entry (first + k)
unfolding entries
entries_at entry first zero k h = absurd (not-suc-le-zero h)
entries_at entry first (suc n) zero h = rw add-zero refl
entries_at entry first (suc n) (suc k) h =
    let next : first + 1 + k ≡ first + suc k = omega arith in
    entries_at entry (first + 1) n k (le_of_suc-le-suc h) ∙ ap entry next

module _ (cases ranges : List ℕ) (s : Switch) where
  targets : List ℕ
  targets = entries (λ i. (case_at cases i).target) s.first_case s.cases

  tail : List ℕ
  tail = ranges_of ranges s ++ (s.default ∷ [])

  arms_split : arms_of cases ranges s ≡ targets ++ tail
  unfolding arms_of targets tail
  arms_split = rw (entries_map, append_assoc) refl

  pub arms_length : length (arms_of cases ranges s) ≡ s.cases + s.ranges + 1
  unfolding targets tail
  arms_length = rw arms_split (simp (length-append, entries_length) (omega arith))

  module _ (k : ℕ) where
    pub case_arm : k < s.cases → (case_at cases (s.first_case + k)).target ≡ get_or (arms_of cases ranges s) k 0
    unfolding targets
    case_arm h =
        let in_cases : k < length targets = rw entries_length h in
        sym (rw (arms_split, get_or-append targets tail 0 k in_cases, entries_at _ s.first_case s.cases k h) refl)

    -- past the cases
    module _ (h : s.cases ≤ k) where
      past_cases : get_or (arms_of cases ranges s) k 0 ≡ get_or tail (k - s.cases) 0
      unfolding targets
      past_cases =
          let at : k ≡ length targets + (k - s.cases) = rw entries_length (omega arith) in
          rw arms_split (ap (λ (i : ℕ). get_or (targets ++ tail) i 0) at ∙ get_or-append-add targets tail (k - s.cases) 0)

      pub range_arm : k - s.cases < s.ranges → get_or ranges (s.first_range + (k - s.cases)) 0 ≡ get_or (arms_of cases ranges s) k 0
      unfolding tail
      range_arm l =
          let in_ranges : k - s.cases < length (ranges_of ranges s) = rw entries_length l in
          sym (past_cases ∙ get_or-append (ranges_of ranges s) (s.default ∷ []) 0 (k - s.cases) in_ranges
          ∙ entries_at (λ i. get_or ranges i 0) s.first_range s.ranges (k - s.cases) l)

      pub default_arm : s.ranges ≤ k - s.cases → k < length (arms_of cases ranges s) → s.default ≡ get_or (arms_of cases ranges s) k 0
      unfolding tail
      default_arm l below =
          let at : k - s.cases ≡ length (ranges_of ranges s) + 0 = rw entries_length (omega (arith, arms_length)) in
          sym (past_cases ∙ ap (λ (i : ℕ). get_or tail i 0) at ∙ get_or-append-add (ranges_of ranges s) (s.default ∷ []) 0 0)
