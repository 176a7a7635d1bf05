-- What the limits tell: none is exceeded exactly where each count is within its limit, and otherwise the first that is
-- exceeded is named. All but the last part holds of any list of limits, so that it does not change with them.
use mathlib.Core.Bool.{Bool, true, false}
use mathlib.Core.List.{List, [], ◌∷◌, ◌++◌, map, Memᴰ}
use mathlib.Core.Path.{◌≡◌, refl, ap, ◌∙◌}
use Prim.Native.Nat.{ℕ, zero, suc, ◌≤◌, ◌<◌}
use native.Mathlib.Nat.{le_of_suc-le-suc}
use native.Mathlib.Omega.{arith}
use borrow.Author.Tests.{ltb-false}
use lib.ListN.{length, get_or}
use Rattle.pools.specs.Answers.{limits_told}
use Rattle.pools.specs.Sizes.{Tested, max_code, max_entries, max_chunks, limits, tells, first_over, first_exceeded}
use Rattle.pools.specs.Good.{AllKept, Within}
use Rattle.pools.specs.Told.{Told, fine, over_limit, first_told}
use Rattle.pools.specs.declared.limits.Sizes.{Sizes}
use Rattle.pools.proofs.First.{passes_on, refuses_here, Tells}

-- ---- one limit

kept_tells : (l : Tested) → l.1 ≡ false → tells l ≡ fine
unfolding tells
kept_tells l e = rw e

exceeded_tells : (l : Tested) → l.1 ≡ true → tells l ≡ over_limit l.0
unfolding tells
exceeded_tells l e = rw e

-- in front of others
kept_first : (l : Tested) (ls : List Tested) → l.1 ≡ false → first_over (l ∷ ls) ≡ first_over ls
unfolding first_over
kept_first l ls e = passes_on (tells l) (map tells ls) (ap (λ (t : Told). t.kind) (kept_tells l e))

exceeded_first : (l : Tested) (ls : List Tested) → l.1 ≡ true → first_over (l ∷ ls) ≡ over_limit l.0
unfolding first_over
exceeded_first l ls e =
    let told = exceeded_tells l e in
    refuses_here (tells l) (map tells ls) (omega (arith, ap (λ (t : Told). t.kind) told)) ∙ told

-- what a test of one answers, as `First` takes it
pub limits_tell : Tells limits_told
unfolding limits_told
limits_tell = record { of_ok = λ x. refl; of_err = λ e. omega arith }

-- ---- what they tell

-- a limit is the first of these that is exceeded
pub record FirstIs (ls : List Tested) (l : Tested) : Type 0 where
  pub before : List Tested
  pub after : List Tested
  pub stands : ls ≡ before ++ (l ∷ after)
  pub kept_before : AllKept before
  pub exceeded : l.1 ≡ true

-- none of them is exceeded, or one is the first
pub data Outcome (ls : List Tested) (t : Told) : Type 0 where
  none : AllKept ls → t ≡ fine → Outcome ls t
  first_is : (l : Tested) → FirstIs ls l → t ≡ over_limit l.0 → Outcome ls t

all_kept_more : (l : Tested) (ls : List Tested) → l.1 ≡ false → AllKept ls → AllKept (l ∷ ls)
all_kept_more l ls e k m (Memᴰ.head q) = rw q e
all_kept_more l ls e k m (Memᴰ.tail r) = k m r

pub told_by : (ls : List Tested) → Outcome ls (first_over ls)
unfolding first_over first_told
told_by [] = none (λ l m. elim m [ ]) refl
told_by (l ∷ ls) = go l.1 refl (told_by ls)
  where
    go : (b : Bool) → l.1 ≡ b → Outcome ls (first_over ls) → Outcome (l ∷ ls) (first_over (l ∷ ls))
    go true e o =
        first_is l
        (record { before = []; after = ls; stands = refl; kept_before = λ k m. elim m [ ]; exceeded = e })
        (exceeded_first l ls e)
    go false e (none k f) = none (all_kept_more l ls e k) (kept_first l ls e ∙ f)
    go false e (first_is m f g) =
        first_is m
        (record {
          before = l ∷ f.before;
          after = f.after;
          stands = ap (λ (rest : List Tested). l ∷ rest) f.stands;
          kept_before = all_kept_more l f.before e f.kept_before;
          exceeded = f.exceeded;
        })
        (kept_first l ls e ∙ g)

-- a number is told exactly where a limit is exceeded
pub kept_within : (s : Sizes) → (first_exceeded s).kind ≡ 0 → Within s
kept_within s z = go (told_by (limits s))
  where
    go : Outcome (limits s) (first_exceeded s) → Within s
    go (none k e) = record { kept = k }
    go (first_is l f e) = absurd (omega (arith, ap (λ (t : Told). t.kind) e))

all_kept_tell : (ls : List Tested) → AllKept ls → first_over ls ≡ fine
unfolding first_over first_told
all_kept_tell [] k = refl
all_kept_tell (l ∷ ls) k =
    kept_first l ls (k l (Memᴰ.head refl)) ∙ all_kept_tell ls (λ m r. k m (Memᴰ.tail r))

pub within_kept : (s : Sizes) → Within s → first_exceeded s ≡ fine
within_kept s w = all_kept_tell (limits s) w.kept

-- ---- the counts that others build on

-- of limits that are all kept, the one at an index is
kept_at : (ls : List Tested) → AllKept ls → (i : ℕ) → i < length ls → (get_or ls i (0, false)).1 ≡ false
kept_at [] k i h = absurd (omega arith)
kept_at (l ∷ ls) k zero h = k l (Memᴰ.head refl)
kept_at (l ∷ ls) k (suc i) h = kept_at ls (λ m r. k m (Memᴰ.tail r)) i (le_of_suc-le-suc h)

module _ {s : Sizes} (w : Within s) where
  pub code_kept : s.code ≤ max_code
  unfolding limits
  code_kept = ltb-false max_code s.code (kept_at (limits s) w.kept 0 (omega arith))

  pub cases_kept : s.cases ≤ max_entries
  unfolding limits
  cases_kept = ltb-false max_entries s.cases (kept_at (limits s) w.kept 6 (omega arith))

  pub ranges_kept : s.ranges ≤ max_entries
  unfolding limits
  ranges_kept = ltb-false max_entries s.ranges (kept_at (limits s) w.kept 7 (omega arith))

  pub chunks_kept : s.chunks ≤ max_chunks
  unfolding limits
  chunks_kept = ltb-false max_chunks s.chunks (kept_at (limits s) w.kept 10 (omega arith))
