-- An instruction that is listed: where its operands end.
use mathlib.Core.List.{List}
use mathlib.Core.Path.{◌≡◌, sym, ap, ◌∙◌}
use Prim.Native.Nat.{ℕ, ◌+◌, ◌≤◌, ◌<◌}
use native.Mathlib.Omega.{arith}
use lib.ListN.{length, get_or}
use Rattle.std.specs.Prelude.{Ok}
use Rattle.code.specs.Layout.{layout}
use Rattle.code.specs.Width.{width_of, width_at}
use Rattle.code.proofs.Layouts.{sizes, filled, tag_byte}
use Rattle.code.proofs.Widths.{width_there}
use Rattle.listing.specs.Listing.{instruction, listed_at}
use Rattle.listing.specs.declared.Item.{Item}
use Rattle.reader.proofs.Reading.{wide, listed_wide}

-- the operands of an instruction that is listed end within the code
pub operands_there : (code : List ℕ) (at : ℕ) (item : Item) → Ok item ≡ listed_at code at
    → item.at + 1 + sizes (layout item.tag) ≤ length code
operands_there code at item e =
    let p : 0 < width_at code at = wide width_of code at (sym e) in
    let there = width_there width_of code at p in
    let listed = instruction at (get_or code at 0) (width_at code at) in
    let told : Ok item ≡ Ok listed = e ∙ listed_wide width_of code at p in
    let is : item ≡ listed = cc in
    let place : item.at ≡ at = ap (λ (i : Item). i.at) is in
    let tag : item.tag ≡ get_or code at 0 = ap (λ (i : Item). i.tag) is in
    let some : 0 < width_of item.tag = rw tag (omega (arith, there.tag)) in
    let fills = filled item.tag (tag_byte item.tag some) some in
    let same : width_at code at ≡ width_of item.tag = rw tag there.tag in
    omega (arith, there.within)
