-- Document 01's lists of tags against the definitions, by computed tests: the names run upward from 0x01 in the
-- document's order and have the widths of their lists; each row of the layouts holds of each of its tags, and a tag's
-- fields fill its width.
use mathlib.Core.Bool.{Bool, true, false, cond}
use mathlib.Core.List.{List, [], ◌∷◌, ◌++◌, Memᴰ}
use mathlib.Core.Path.{◌≡◌, refl, sym}
use Prim.Native.Nat.{ℕ, zero, suc, ◌+◌, ◌≤◌, ◌<◌}
use native.Mathlib.Omega.{arith}
use borrow.Author.Tests.{ne_eqb, lt-leb, leb-true, leb-false}
use lib.Dec.{eqb, leb, eqb→eq}
use lib.ListN.{replicate}
use Rattle.code.specs.Tags.{Row, among, look_up}
use Rattle.code.specs.Layout.{Field, layouts, layout}
use Rattle.code.specs.TagLists.{widths}
use Rattle.code.specs.Width.{width_of}
use Rattle.code.proofs.ByTag.{tags_of, once, row_holds}
use Rattle.code.proofs.Table.{each}
use Rattle.code.specs.Sizes.{size}

abbrev upward : ℕ → ℕ → List ℕ
upward zero from = []
upward (suc n) from = from ∷ upward n (suc from)

-- from 0x01 upward in the order of the lists; IMPORT, the last of its list, stands apart
pub in_order : tags_of widths ≡ upward 51 0x01 ++ (0x4f ∷ []) ++ upward 20 0x34
unfolding tags_of
in_order = refl

is_width : ℕ → ℕ → Bool
unfolding width_of look_up among
is_width tag x = eqb (width_of tag) (look_up widths 0 tag)

-- the runs of widths are the lists of names, and every byte not named has width 0
pub widths_of_names : (tag : ℕ) → tag < 256 → width_of tag ≡ look_up widths 0 tag
unfolding is_width
widths_of_names tag h = eqb→eq (width_of tag) (look_up widths 0 tag) (each is_width (replicate 256 0) tt tag h)

-- no tag is in two rows of the layouts, so that each row holds of its tags
pub layout_row : {row : Row (List Field)} → Memᴰ row layouts → (tag : ℕ) → among tag row.tags ≡ true
    → layout tag ≡ row.says
unfolding layout once tags_of
layout_row = row_holds layouts [] tt

unfoldable pub sizes : List Field → ℕ
sizes [] = 0
sizes (field ∷ fields) = size field + sizes fields

fills : ℕ → ℕ → Bool
unfolding width_of layout sizes
fills tag x = eqb (width_of tag) (cond (eqb (width_of tag) 0) 0 (1 + sizes (layout tag)))

-- a tag's fields fill its width
pub filled : (tag : ℕ) → tag < 256 → 0 < width_of tag → 1 + sizes (layout tag) ≡ width_of tag
unfolding fills
filled tag h p =
    let full = each fills (replicate 256 0) tt tag h in
    sym (rw (ne_eqb (width_of tag) 0 (λ z. omega arith)) at (eqb→eq (width_of tag) _ full))

-- a tag that has a width is a byte
pub tag_byte : (tag : ℕ) → 0 < width_of tag → tag < 256
unfolding width_of
tag_byte tag h = go (leb 256 tag) refl
  where
    none : 256 ≤ tag → width_of tag ≡ 0
    none l =
        rw (
          ne_eqb tag 0x00 (λ e. omega arith),
          lt-leb tag 0x14 (omega arith),
          lt-leb tag 0x1a (omega arith),
          lt-leb tag 0x33 (omega arith),
          lt-leb tag 0x37 (omega arith),
          lt-leb tag 0x41 (omega arith),
          lt-leb tag 0x44 (omega arith),
          lt-leb tag 0x47 (omega arith),
          ne_eqb tag 0x4f (λ e. omega arith),
        )

    go : (b : Bool) → leb 256 tag ≡ b → tag < 256
    go true e = absurd (omega (arith, none (leb-true 256 tag e)))
    go false e = leb-false 256 tag e
