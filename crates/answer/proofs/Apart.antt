-- Two constructors are apart.
use mathlib.Core.Path.{◌≡◌}
use Prim.Native.Nat.{ℕ}
use native.Mathlib.Omega.{arith}

-- Where two constructors are said to be equal, `cc` proves that 0 is 1.
pub zero≢one : ◌≡◌ {A = ℕ} 0 1 → ⊥
zero≢one e = omega arith
