-- Numbers of several bytes: told exactly where the bytes are there.
use mathlib.Core.List.{List}
use mathlib.Core.Path.{◌≡◌}
use Prim.Native.Nat.{ℕ, ◌+◌, ◌≤◌, ◌<◌}
use borrow.Author.Tests.{le-leb, lt-leb}
use lib.ListN.{length}
use Rattle.std.specs.Prelude.{Some, None}
use Rattle.code.specs.Answers.{number_at}
use Rattle.code.specs.Layout.{little}

-- where the bytes are there, the number is told
pub number_there : (n : ℕ) (code : List ℕ) (at : ℕ) → at + n ≤ length code
    → Some (little n code at) ≡ number_at n code at
unfolding number_at
number_there n code at h = rw (le-leb (at + n) (length code) h)

-- where they are cut off, none is
pub number_cut : (n : ℕ) (code : List ℕ) (at : ℕ) → length code < at + n → None ≡ number_at n code at
unfolding number_at
number_cut n code at h = rw (lt-leb (at + n) (length code) h)
