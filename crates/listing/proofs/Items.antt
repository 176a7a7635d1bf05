-- What is listed at an offset, from what is told of the width there.
use mathlib.Core.List.{List}
use mathlib.Core.Path.{◌≡◌}
use Prim.Native.Nat.{ℕ}
use native.Mathlib.Omega.{arith}
use borrow.Author.Tests.{le-leb, lt-leb, ne_eqb}
use lib.ListN.{length, get_or}
use Rattle.std.specs.Prelude.{Ok, Err, ◌≢◌}
use Rattle.code.specs.Answers.{found_by}
use Rattle.code.specs.declared.NoWidth.{NoWidth}
use Rattle.code.specs.declared.NoWidth.TheVariants.{NoByte}
use Rattle.code.proofs.Widths.{wide, told_width, told_past, told_byte}
use Rattle.listing.specs.Listing.{instruction, ending_at, listed_by}
use Rattle.listing.specs.declared.Ending.TheVariants.{End, NoWidth as Bare}

module _ (table : ℕ → ℕ) (code : List ℕ) (at : ℕ) where
  pub listed_there : (w : ℕ) → Ok w ≡ found_by table code at
      → Ok (instruction at (get_or code at 0) w) ≡ listed_by table code at
  unfolding listed_by
  listed_there w e =
      let v = wide table code at w e in
      rw (told_width table code at e, ne_eqb w 0 (λ z. omega (arith, v.some)))

  pub listed_end : Err NoByte ≡ found_by table code at → Err End ≡ listed_by table code at
  unfolding listed_by ending_at
  listed_end e = rw (told_width table code at e, le-leb (length code) at (told_past table code at e))

  pub listed_none : (why : NoWidth) → why ≢ NoByte → Err why ≡ found_by table code at
      → Err (Bare at) ≡ listed_by table code at
  unfolding listed_by ending_at
  listed_none why other e =
      rw (told_width table code at e, lt-leb (length code) at (told_byte table code at why other e))
