-- A bit crosses the boundary as 0 or 1.
use mathlib.Core.Bool.{Bool, true, false}
use mathlib.Core.List.{List}
use mathlib.Core.Logic.{⊎_elim}
use mathlib.Core.Path.{◌≡◌, sym}
use Prim.Native.Nat.{ℕ}
use borrow.Author.Tests.{eqb-true, eqb-false}
use mir.Val.{bool_byte}
use Rattle.marks.specs.Places.{bit_at, is_one}
use Rattle.marks.proofs.Laws.{bit_either}

pub bit : (marks : List ℕ) (at : ℕ) {b : Bool} → b ≡ is_one (bit_at marks at) → bool_byte b ≡ bit_at marks at
bit marks at {b} e = go b e
  where
    go : (b : Bool) → b ≡ is_one (bit_at marks at) → bool_byte b ≡ bit_at marks at
    go true e = sym (eqb-true (bit_at marks at) 1 (sym e))
    go false e = ⊎_elim (λ z. sym z) (λ o. absurd (eqb-false (bit_at marks at) 1 (sym e) o)) (bit_either marks at)
