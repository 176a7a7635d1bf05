-- `marks::set_start` meets its contract: its mask is the power of two that `marked` has.
use mathlib.Core.Path.{◌≡◌, ◌∙◌}
use mathlib.Core.List.{List}
use Prim.Native.Nat.{ℕ, ◌*◌, ◌/◌, ◌%◌, ◌^◌, ◌<◌}
use native.Mathlib.Nat.{one-mul}
use native.Mathlib.Omega.{arith}
use lib.Bits.{bit_or}
use lib.Dec.{lit<}
use lib.ListN.{get_or, set}
use lib.Pow.{shl_exact}
use Rattle.marks.specs.Marks.{marked}
use Rattle.marks.proofs.set_start.Goals as goal

-- 1 shifted within a word loses nothing
one_shifted : (k : ℕ) → k < 64 → (1 * 2 ^ k) % 2 ^ 64 ≡ 2 ^ k
one_shifted k h = shl_exact {a = 1} 1 k 64 (lit< tt) (omega arith) ∙ one-mul (2 ^ k)

-- so the code's mask sets the bit of the place
masked : (marks : List ℕ) (at : ℕ)
    → set marks (at / 64) (bit_or (get_or marks (at / 64) 0) ((1 * 2 ^ (at % 64)) % 2 ^ 64)) ≡ marked marks at
unfolding marked
masked marks at = rw (one_shifted (at % 64) (omega arith))

pub returns : goal.returns
returns c = masked c.args.marks.now c.args.at
