-- Marks that hold the starts of a code, or any other places: a bit tells whether a place is among them.
use mathlib.Core.Bool.{Bool, true, false, true≢false}
use mathlib.Core.List.{List}
use mathlib.Core.Path.{◌≡◌, refl, sym, ◌∙◌}
use Prim.Native.Nat.{ℕ}
use borrow.Author.Tests.{eq-eqb, eqb-true}
use Rattle.code.specs.Layout.{among}
use Rattle.code.proofs.Among.{among_member, member_among}
use Rattle.marks.specs.Places.{Holds, bit_at, is_one}

pub told_by_marks : {marks ats : List ℕ} → Holds marks ats → (i : ℕ) → is_one (bit_at marks i) ≡ among i ats
told_by_marks {marks} {ats} h i = by_member (among i ats) refl
  where
    by_bit : among i ats ≡ false → (b : Bool) → is_one (bit_at marks i) ≡ b → b ≡ false
    by_bit q false e = refl
    by_bit q true e = absurd (true≢false (sym (member_among i ats (h.only i (eqb-true (bit_at marks i) 1 e))) ∙ q))

    by_member : (b : Bool) → among i ats ≡ b → is_one (bit_at marks i) ≡ b
    by_member true q = eq-eqb (bit_at marks i) 1 (h.set i (among_member i ats q))
    by_member false q = by_bit q (is_one (bit_at marks i)) refl
