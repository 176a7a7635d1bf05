-- The lines of the listing. Document 01, "Modules": "offset, tag and width in turn. Added: the end says whether it came
-- at the code's end or at a byte without a width"; the operands stand beside them, by the layout of the tag.
use Rattle.std.specs.Prelude.{List, [], ◌∷◌, ◌++◌, ◌≡◌, ℕ, ◌+◌, length, Result, Ok, Err}
use Rattle.code.specs.Layout.{Field, layout, little}
use Rattle.code.specs.Sizes.{size}
use Rattle.listing.specs.Listing.{listed_at}
use Rattle.listing.specs.declared.Item.{Item}
use Rattle.listing.specs.declared.Ending.{Ending}
use Rattle.listing.specs.declared.Ending.TheVariants.{End, NoWidth}
use Rattle.reader.specs.Reading.{place_after}
use Rattle.list.specs.declared.lines.Written.{Written}
use Rattle.list.specs.Names.{name_of}
use Rattle.list.specs.Text.{letters, space, newline, decimal}

-- the numbers of fields that stand one behind the other, from an offset of the code on
unfoldable pub operands_from : List Field → List ℕ → ℕ → List ℕ
operands_from [] code from = []
operands_from (field ∷ fields) code from =
    little (size field) code from ∷ operands_from fields code (from + size field)

-- numbers in decimal, with a space before each
unfoldable pub fields : List ℕ → List ℕ
fields [] = []
fields (number ∷ numbers) = (space ∷ decimal number) ++ fields numbers

-- an instruction's line: `OFFSET NAME WIDTH OPERAND..`
unfoldable pub item_line : List ℕ → Item → List ℕ
item_line code item =
    decimal item.at ++ (space ∷ name_of item.tag) ++ (space ∷ decimal item.width)
    ++ fields (operands_from (layout item.tag) code (item.at + 1)) ++ (newline ∷ [])

-- a last line: words, and an offset
unfoldable pub ending_line : List ℕ → ℕ → List ℕ
ending_line words at = words ++ decimal at ++ (newline ∷ [])

-- the line of what is listed: an instruction, `end at OFFSET`, or `no width at OFFSET`
unfoldable pub line_of : List ℕ → Result Item Ending → List ℕ
line_of code (Ok item) = item_line code item
line_of code (Err End) = ending_line (letters "end at ") (length code)
line_of code (Err (NoWidth at)) = ending_line (letters "no width at ") at

-- what was written is the line of an offset, and the place after what was read there
pub record Writes (code : List ℕ) (at : ℕ) (w : Written) : Type 0 where
  pub text : w.line.bytes ≡ line_of code (listed_at code at)
  pub next : w.next ≡ place_after (listed_at code at) at
