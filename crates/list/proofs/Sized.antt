-- The operands as they are printed, by their sizes and by the fields of the layout.
use mathlib.Core.List.{List, [], ◌∷◌, ◌++◌, map, append-nil, append_assoc}
use mathlib.Core.Path.{◌≡◌, refl, sym, ap, ◌∙◌}
use Prim.Native.Nat.{ℕ, ◌+◌, ◌≤◌, ◌<◌}
use lib.ListN.{length, drop, get_or}
use Rattle.std.specs.List.{sum_by}
use Rattle.std.proofs.lemmas.List.{at_drop_more, at_drop_all}
use Rattle.std.proofs.lemmas.List.Sums.{sum_by-cons, sum_by-drop_more}
use Rattle.code.specs.Layout.{Field, little}
use Rattle.code.specs.Sizes.{size}
use Rattle.code.proofs.Layouts.{sizes}
use Rattle.list.specs.Lines.{operands_from, fields}
use Rattle.list.specs.Text.{space, decimal}

-- the operands of these sizes as they are printed, one behind the other
unfoldable pub shown : List ℕ → List ℕ → ℕ → List ℕ
shown [] code from = []
shown (n ∷ ns) code from = (space ∷ decimal (little n code from)) ++ shown ns code (from + n)

shown_fields : (fs : List Field) (code : List ℕ) (from : ℕ)
    → shown (map size fs) code from ≡ fields (operands_from fs code from)
unfolding shown fields operands_from
shown_fields [] code from = refl
shown_fields (f ∷ fs) code from =
    ap (λ (l : List ℕ). (space ∷ decimal (little (size f) code from)) ++ l) (shown_fields fs code (from + size f))

-- how many bytes operands of these sizes take
abbrev pub taken : List ℕ → ℕ
taken = sum_by (λ n. n)

pub taken_fields : (fs : List Field) → taken (map size fs) ≡ sizes fs
unfolding sizes
taken_fields [] = refl
taken_fields (f ∷ fs) =
    sum_by-cons (λ n. n) (size f) (map size fs) ∙ ap (λ (n : ℕ). size f + n) (taken_fields fs)

module _ (ns : List ℕ) (i : ℕ) (h : i < length ns) where
  pub taken_left : taken (drop i ns) ≡ get_or ns i 0 + taken (drop (i + 1) ns)
  taken_left = sum_by-drop_more (λ n. n) ns i 0 h

  -- one operand more is put, and the others are left
  pub one_put : (before code : List ℕ) (at : ℕ) {after whole : List ℕ} {number : ℕ}
      → after ≡ before ++ (space ∷ decimal number) → number ≡ little (get_or ns i 0) code at
      → before ++ shown (drop i ns) code at ≡ whole
      → after ++ shown (drop (i + 1) ns) code (at + get_or ns i 0) ≡ whole
  unfolding shown
  one_put before code at put read e =
      rw (put, read)
      (append_assoc before (space ∷ decimal (little (get_or ns i 0) code at)) _
      ∙ ap (λ (l : List ℕ). before ++ l) (sym (at_drop_more (λ (l : List ℕ). shown l code at) ns i 0 h)) ∙ e)

-- where none is left, all are put
pub all_put : (before text code : List ℕ) (fs : List Field) (i at from : ℕ) {ns : List ℕ}
    → ns ≡ map size fs → length ns ≤ i → before ++ shown (drop i ns) code at ≡ text ++ shown ns code from
    → before ≡ text ++ fields (operands_from fs code from)
unfolding shown
all_put before text code fs i at from {ns} s h e =
    sym (ap (λ (l : List ℕ). before ++ l) (at_drop_all (λ (l : List ℕ). shown l code at) ns i h) ∙ append-nil before)
    ∙ e ∙ ap (λ (l : List ℕ). text ++ l) (ap (λ (l : List ℕ). shown l code from) s ∙ shown_fields fs code from)
