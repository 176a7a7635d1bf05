-- The digits of a number are those that the library writes.
use mathlib.Core.Path.{◌≡◌, refl, sym}
use Prim.Native.Nat.{ℕ, ◌+◌, ◌^◌, ◌<◌}
use borrow.Author.Tests.{lt-ltb, le-ltb}
use Rattle.std.specs.Fmt.{decimal as written}
use Rattle.std.proofs.lemmas.Fmt.{decimal_from_appends, AppendsLastDigit, length-decimal-le_succ}
use Rattle.list.specs.Text.{decimal_digits, decimal}

appends : AppendsLastDigit decimal_digits
unfolding decimal_digits
appends = record { one = λ k n h. rw (lt-ltb n 10 h) refl; more = λ k n h. rw (le-ltb n 10 h) refl }

pub decimal_written : (n : ℕ) → n < 2 ^ 64 → written n ≡ decimal n
unfolding decimal
decimal_written n h = sym (decimal_from_appends decimal_digits appends (n + 1) n h (length-decimal-le_succ n h))
