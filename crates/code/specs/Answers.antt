-- The answers of `code`, for its contracts and those who call it: what stands at an offset, and the numbers by which an
-- answer is told to whoever knows no enum. Document 01, "Forms to follow in each place": "For each answer that is an
-- enum, a definition gives this paper's number and values for every case of that enum"; "Modules": "Width 0 or operands
-- cut off: no width". A number whose bytes are cut off is none.
use Rattle.std.specs.Prelude.{cond, List, ℕ, ◌+◌, leb, eqb, length, get_or, Option, Some, None, Result, Ok, Err}
use Rattle.code.specs.Layout.{little}
use Rattle.code.specs.Width.{width_of}
use Rattle.code.specs.declared.NoWidth.{NoWidth}
use Rattle.code.specs.declared.NoWidth.TheVariants.{NoByte, UnknownTag, CutOff}

-- ---- widths

-- the width at an offset of the code, or why there is none, by any table of widths
unfoldable pub found_by : (table : ℕ → ℕ) → List ℕ → ℕ → Result ℕ NoWidth
found_by table code at =
    cond (leb (length code) at) (Err NoByte)
    (cond (eqb (table (get_or code at 0)) 0) (Err UnknownTag)
    (cond (leb (at + table (get_or code at 0)) (length code)) (Ok (table (get_or code at 0)))
    (Err CutOff)))

-- by document 01's table
abbrev pub found_at : List ℕ → ℕ → Result ℕ NoWidth
found_at = found_by width_of

-- ---- numbers

-- the number of so many bytes, where all of them are there
unfoldable pub number_at : ℕ → List ℕ → ℕ → Option ℕ
number_at n code at = cond (leb (at + n) (length code)) (Some (little n code at)) None

-- ---- answers in numbers: which case an answer is, and the value that it holds, 0 where it holds none

pub record Found : Type 0 where
  pub number : ℕ
  pub value : ℕ

-- a value was found: case 0
abbrev pub found : ℕ → Found
found v = record { number = 0; value = v }

-- none was, for the reason of this number
abbrev pub without : ℕ → Found
without why = record { number = why; value = 0 }

-- the cases of a width, by number: 0 a width; 1 no byte at the offset; 2 a tag without a width; 3 operands cut off
unfoldable pub width_told : Result ℕ NoWidth → Found
width_told (Ok w) = found w
width_told (Err NoByte) = without 1
width_told (Err UnknownTag) = without 2
width_told (Err CutOff) = without 3

-- the cases of a number, by number: 0 the number; 1 bytes cut off
unfoldable pub number_told : Option ℕ → Found
number_told (Some v) = found v
number_told None = without 1
