-- Tables whose entries are packed into numbers, several to a number, the lowest first: one computed test that each
-- entry is where it is looked for gives the law at each.
use mathlib.Core.Bool.{Bool}
use mathlib.Core.List.{List}
use mathlib.Core.Path.{◌≡◌, sym}
use Prim.Native.Nat.{ℕ, zero, suc, ◌<◌, ◌≤◌, ◌/◌, ◌%◌, ◌^◌, ◌*◌, zero-le}
use native.Mathlib.Omega.{arith}
use lib.Dec.{T, eqb, eqb→eq}
use lib.ListN.{length, get_or}
use Rattle.code.proofs.Table.{every, each, past}

-- the entry of an index, where each number has so many of so many bits
abbrev pub entry : (many bits : ℕ) → List ℕ → ℕ → ℕ
entry many bits packed i = get_or packed (i / many) 0 / 2 ^ (i % many * bits) % 2 ^ bits

abbrev pub is_entry : (many bits : ℕ) → List ℕ → ℕ → ℕ → Bool
is_entry many bits packed i x = eqb (entry many bits packed i) x

pub packed_at : (many bits : ℕ) (packed xs : List ℕ) → T (every (is_entry many bits packed) 0 xs)
    → (i : ℕ) → i < length xs → entry many bits packed i ≡ get_or xs i 0
packed_at many bits packed xs t i h = eqb→eq _ _ (each (is_entry many bits packed) xs t i h)

-- what a match with the arms 0 to n - 1 tells of a number that comes to none of them
abbrev pub NoneOf : ℕ → ℕ → Type 0
NoneOf g zero = Unit {0}
NoneOf g (suc n) = NoneOf g n × (g ≡ n → ⊥)

above : (g n : ℕ) → NoneOf g n → n ≤ g
above g zero none = zero-le
above g (suc n) none = omega (arith, above g n none.0, none.1)

-- there the list of the arms' numbers is over
pub no_arm : (xs : List ℕ) (g : ℕ) → NoneOf g (length xs) → 0 ≡ get_or xs g 0
no_arm xs g none = sym (past xs g (above g (length xs) none))
