-- The count n, read at the place that the tag's word names.
use mathlib.Core.Bool.{cond}
use mathlib.Core.List.{List, [], ◌∷◌}
use mathlib.Core.Path.{◌≡◌, refl, sym, ◌∙◌}
use Prim.Native.Nat.{ℕ, ◌+◌, ◌-◌, ◌≤◌, ◌<◌}
use native.Mathlib.Nat.{add_assoc}
use native.Mathlib.Omega.{arith}
use borrow.Author.Tests.{ne_eqb, lt-ltb, le-ltb}
use lib.Dec.{eqb, ltb}
use lib.ListN.{length, get_or}
use Rattle.code.proofs.Layouts.{sizes}
use Rattle.code.specs.Layout.{Field, target, count8, count16, slot, index, layout, count_from, count_at, tag_at, little}
use Rattle.code.specs.Width.{width_at}
use Rattle.rules.specs.Shapes.{place_from}
use Rattle.rules.proofs.Operands.{few_bytes, reach, count_there}

-- the number at a place
counted : (place : ℕ) (code : List ℕ) (at : ℕ) → ℕ
counted place code at = cond (eqb place 0) 0 (cond (ltb place 8) (get_or code (at + place) 0) (little 2 code (at + (place - 8))))

module _ (code : List ℕ) (at : ℕ) where
  -- over the fields from an offset on, all of which lie in the first 8 bytes
  placed : (fields : List Field) (from : ℕ) → 0 < from → from + sizes fields ≤ 8
      → count_from fields code (at + from) ≡ counted (place_from fields from) code at
  unfolding count_from place_from sizes counted
  placed [] from p h = refl
  placed (count8 ∷ fields) from p h = rw (ne_eqb from 0 (λ z. omega arith), lt-ltb from 8 (omega arith))
  placed (count16 ∷ fields) from p h =
      let same : from + 8 - 8 ≡ from = omega arith in
      rw (ne_eqb (from + 8) 0 (λ z. omega arith), le-ltb (from + 8) 8 (omega arith), same)
  placed (target ∷ fields) from p h = rw add_assoc (placed fields (from + 4) (omega arith) (omega arith))
  placed (slot ∷ fields) from p h = rw add_assoc (placed fields (from + 2) (omega arith) (omega arith))
  placed (index pool ∷ fields) from p h = rw add_assoc (placed fields (from + 2) (omega arith) (omega arith))

-- the count of the instruction at an offset stands at this place
pub record Placed (code : List ℕ) (at place : ℕ) : Type 0 where
  pub wide : 0 < width_at code at
  pub told : place ≡ place_from (layout (tag_at code at)) 1

module _ {code : List ℕ} {at place : ℕ} (P : Placed code at place) where
  number : count_at code at ≡ counted place code at
  number = rw P.told (placed code at (layout (tag_at code at)) 1 (omega arith) (few_bytes code at P.wide))

  reached : at + reach place ≤ length code
  reached = rw P.told (count_there code at P.wide)

  -- the three cases of a place: the number, and that what is read for it is there
  pub count_none : place ≡ 0 → 0 ≡ count_at code at
  unfolding counted
  count_none z = sym (number ∙ rw z)

  pub count_byte : (place ≡ 0 → ⊥) → place < 8 → get_or code (at + place) 0 ≡ count_at code at
  unfolding counted
  count_byte n l = sym (number ∙ rw (ne_eqb place 0 n, lt-ltb place 8 l))

  pub byte_there : (place ≡ 0 → ⊥) → place < 8 → at + place < length code
  byte_there n l = omega (arith, rw (ne_eqb place 0 n, lt-ltb place 8 l) at reached)

  pub count_word : (place ≡ 0 → ⊥) → 8 ≤ place → little 2 code (at + (place - 8)) ≡ count_at code at
  unfolding counted
  count_word n l = sym (number ∙ rw (ne_eqb place 0 n, le-ltb place 8 l))

  pub word_there : (place ≡ 0 → ⊥) → 8 ≤ place → at + (place - 8) + 2 ≤ length code
  word_there n l = omega (arith, rw (ne_eqb place 0 n, le-ltb place 8 l) at reached)
