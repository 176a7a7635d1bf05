-- Tests in their order: what is told where one of several refuses, how a loop that takes them upward comes to it, and
-- what it says of each of them. Every loop over the entries of a table rests on these laws.
use mathlib.Core.Bool.{Bool, true, false, cond}
use mathlib.Core.List.{List, [], ◌∷◌}
use mathlib.Core.Path.{◌≡◌, refl, sym, ap, ◌∙◌}
use Prim.Native.Nat.{ℕ, zero, suc, ◌+◌, ◌-◌, ◌≤◌, ◌<◌}
use native.Mathlib.Decide.{ℕ_discrete}
use native.Mathlib.Omega.{arith}
use borrow.Author.Tests.{eq-eqb, ne_eqb}
use Rattle.std.specs.Prelude.{Result, Ok, Err}
use Rattle.std.specs.Result.{IsErr, IsErrAnd}
use Rattle.pools.specs.Pools.{entries}
use Rattle.pools.specs.Told.{Told, fine, first_told, first_from}

-- a test that passes leaves it to the others, and one that refuses does not
pub passes_on : (test : Told) (tests : List Told) → test.kind ≡ 0 → first_told (test ∷ tests) ≡ first_told tests
unfolding first_told
passes_on test tests e = simp (eq-eqb test.kind 0 e)

pub refuses_here : (test : Told) (tests : List Told) → 0 < test.kind → first_told (test ∷ tests) ≡ test
unfolding first_told
refuses_here test tests h = simp (ne_eqb test.kind 0 (λ e. omega arith))

-- ---- tests as code takes them, one `?` after another

-- what a result tells: nothing where it is fine, and a refusal of some kind where it is not
pub record Tells {E : Type 0} (told : Result Unit E → Told) : Type 0 where
  pub of_ok : (x : Unit) → told (Ok x) ≡ fine
  pub of_err : (e : E) → 0 < (told (Err e)).kind

module _ {E : Type 0} (told : Result Unit E → Told) (tells : Tells told) (test : Told) (tests : List Told) where
  -- a test that passes leaves it to those after it
  pub after : (x : Unit) {t : Told} → told (Ok x) ≡ test → t ≡ first_told tests → t ≡ first_told (test ∷ tests)
  after x e h = h ∙ sym (passes_on test tests (ap (λ (t : Told). t.kind) (sym e ∙ tells.of_ok x)))

  -- and one that refuses is what is handed on
  pub handed_on : (e : E) (r : Result Unit E) → told (Err e) ≡ test → IsErr r × IsErrAnd r (λ a. a ≡ e)
      → told r ≡ first_told (test ∷ tests)
  handed_on e (Ok x) is same = absurd same.1
  handed_on e (Err a) is same =
      rw same.1 (is ∙ sym (refuses_here test tests (rw is at (tells.of_err e))))

module _ {E : Type 0} (told : Result Unit E → Told) (tells : Tells told) (test : Told) where
  -- the last tells for itself
  pub last : (r : Result Unit E) → told r ≡ test → told r ≡ first_told (test ∷ [])
  unfolding first_told
  last (Ok x) is = rw (← is, tells.of_ok x)
  last (Err e) is = is ∙ sym (refuses_here test [] (rw is at (tells.of_err e)))

-- ---- a loop over n tests, upward

-- the tests before i are passed: those from i on tell what all of them tell
pub record Passed (refusal : ℕ → Told) (bad : ℕ → Bool) (n i : ℕ) : Type 0 where
  pub within : i ≤ n
  pub so_far : first_from refusal i (entries bad i (n - i)) ≡ first_from refusal 0 (entries bad 0 n)

-- the test at hand, and those after it
taken_off : (bad : ℕ → Bool) (n i : ℕ) → i < n → entries bad i (n - i) ≡ bad i ∷ entries bad (i + 1) (n - (i + 1))
unfolding entries
taken_off bad n i h =
    let some : n - i ≡ suc (n - (i + 1)) = omega arith in
    rw some

module _ {refusal : ℕ → Told} {bad : ℕ → Bool} {n : ℕ} where
  pub none_yet : Passed refusal bad n 0
  none_yet =
      let all : n - 0 ≡ n = omega arith in
      record { within = omega arith; so_far = rw all }

  module _ {i : ℕ} (inv : Passed refusal bad n i) where
    pub one_more : i < n → bad i ≡ false → Passed refusal bad n (i + 1)
    unfolding first_from
    one_more h e = record { within = omega arith; so_far = rw (taken_off bad n i h, e) at inv.so_far }

    pub at_bad : i < n → bad i ≡ true → refusal i ≡ first_from refusal 0 (entries bad 0 n)
    unfolding first_from
    at_bad h e = rw (taken_off bad n i h, e) at inv.so_far

    pub past_last : n ≤ i → fine ≡ first_from refusal 0 (entries bad 0 n)
    unfolding entries first_from
    past_last h =
        let none : n - i ≡ 0 = omega arith in
        rw none at inv.so_far

-- ---- what they tell

-- i is the first of n tests that finds something bad
pub record FirstAt (bad : ℕ → Bool) (n i : ℕ) : Type 0 where
  pub within : i < n
  pub is_bad : bad i ≡ true
  pub good_before : (k : ℕ) → k < i → bad k ≡ false

-- none of n tests does, or one is the first
pub data Upward (refusal : ℕ → Told) (bad : ℕ → Bool) (n : ℕ) (t : Told) : Type 0 where
  none : ((i : ℕ) → i < n → bad i ≡ false) → t ≡ fine → Upward refusal bad n t
  first_at : (i : ℕ) → FirstAt bad n i → t ≡ refusal i → Upward refusal bad n t

module _ (refusal : ℕ → Told) (bad : ℕ → Bool) where
  -- the same of the tests from one on
  data From (from count : ℕ) (t : Told) : Type 0 where
    all_good : ((i : ℕ) → from ≤ i → i < from + count → bad i ≡ false) → t ≡ fine → From from count t
    one_bad : (i : ℕ) → i < from + count → bad i ≡ true → ((k : ℕ) → from ≤ k → k < i → bad k ≡ false) → t ≡ refusal i
        → From from count t

  -- one test in front of others
  in_front : (from count : ℕ) (t : Told) (b : Bool) → bad from ≡ b → From (from + 1) count t
      → From from (suc count) (cond b (refusal from) t)
  in_front from count t true p told = one_bad from (omega arith) p (λ k m o. absurd (omega arith)) refl
  in_front from count t false p (all_good each e) =
      all_good (λ i l m. elim (ℕ_discrete i from) [ yes q ↦ rw q p | no d ↦ each i (omega arith) (omega arith) ]) e
  in_front from count t false p (one_bad j l r before e) =
      one_bad j (omega arith) r
      (λ i m o. elim (ℕ_discrete i from) [ yes q ↦ rw q p | no d ↦ before i (omega arith) o ])
      e

  told_from : (from count : ℕ) → From from count (first_from refusal from (entries bad from count))
  unfolding entries first_from
  told_from from zero = all_good (λ i l m. absurd (omega arith)) refl
  told_from from (suc count) = in_front from count _ (bad from) refl (told_from (from + 1) count)

  pub told_upward : (n : ℕ) → Upward refusal bad n (first_from refusal 0 (entries bad 0 n))
  told_upward n = go (told_from 0 n)
    where
      go : {t : Told} → From 0 n t → Upward refusal bad n t
      go (all_good each e) = none (λ i h. each i (omega arith) (omega arith)) e
      go (one_bad i h b before e) =
          first_at i (record { within = omega arith; is_bad = b; good_before = λ k l. before k (omega arith) l }) e
