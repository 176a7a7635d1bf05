-- A rule of a table from one computed test: where the test passes at every entry and its index, the rule holds at each.
use mathlib.Core.Bool.{Bool, true, false, ◌&&◌}
use mathlib.Core.List.{List, [], ◌∷◌}
use mathlib.Core.Path.{◌≡◌, refl}
use Prim.Native.Nat.{ℕ, zero, suc, ◌+◌, ◌≤◌, ◌<◌}
use native.Mathlib.Nat.{add-zero, zero-add, add-suc, suc-add, le_of_suc-le-suc, not-suc-le-zero}
use lib.Dec.{T}
use lib.ListN.{length, get_or}

-- the test at each entry, the first of which has the index i
abbrev pub every : (ℕ → ℕ → Bool) → ℕ → List ℕ → Bool
every test i [] = true
every test i (x ∷ xs) = test i x && every test (suc i) xs

pub left : (a b : Bool) → T (a && b) → T a
left true b t = tt
left false b t = t

pub right : (a b : Bool) → T (a && b) → T b
right true b t = t
right false b t = absurd t

from : (test : ℕ → ℕ → Bool) (xs : List ℕ) (i : ℕ) → T (every test i xs) → (k : ℕ) → k < length xs
    → T (test (i + k) (get_or xs k 0))
from test [] i t k h = absurd (not-suc-le-zero h)
from test (x ∷ xs) i t zero h = rw add-zero (left (test i x) (every test (suc i) xs) t)
from test (x ∷ xs) i t (suc k) h =
    rw (add-suc, ← suc-add) (from test xs (suc i) (right (test i x) (every test (suc i) xs) t) k (le_of_suc-le-suc h))

pub each : (test : ℕ → ℕ → Bool) (xs : List ℕ) → T (every test 0 xs) → (k : ℕ) → k < length xs
    → T (test k (get_or xs k 0))
each test xs t k h = rw zero-add at (from test xs 0 t k h)

-- past the end of a list there is nothing
pub past : (xs : List ℕ) (k : ℕ) → length xs ≤ k → get_or xs k 0 ≡ 0
past [] k h = refl
past (x ∷ xs) zero h = absurd (not-suc-le-zero h)
past (x ∷ xs) (suc k) h = past xs k (le_of_suc-le-suc h)
