-- The listing, for its contracts and those who call it: what stands at an offset, and what is met where the starts
-- stop; and the numbers by which it is told to whoever knows no enum. Document 01, "Modules": "offset, tag and width in
-- turn. Added: the end says whether it came at the code's end or at a byte without a width".
use Rattle.std.specs.Prelude.{cond, List, ℕ, ◌+◌, leb, eqb, length, get_or, Result, Ok, Err}
use Rattle.code.specs.Width.{width_of, width_by}
use Rattle.listing.specs.Starts.{in_turn}
use Rattle.listing.specs.declared.Item.{Item}
use Rattle.listing.specs.declared.Ending.{Ending}
use Rattle.listing.specs.declared.Ending.TheVariants.{End, NoWidth}

abbrev pub instruction : (at tag width : ℕ) → Item
instruction at tag width = record { at = at; tag = tag; width = width; next = at + width }

-- an offset without an instruction is past the code's last byte, or has a byte without a width
unfoldable pub ending_at : List ℕ → ℕ → Ending
ending_at code at = cond (leb (length code) at) End (NoWidth at)

-- by any table of widths
module _ (table : ℕ → ℕ) (code : List ℕ) where
  -- what stands at an offset: an instruction, with its offset, its tag, its width and the offset after it, or an ending
  unfoldable pub listed_by : ℕ → Result Item Ending
  listed_by at =
      cond (eqb (width_by table code at) 0) (Err (ending_at code at))
      (Ok (instruction at (get_or code at 0) (width_by table code at)))

  -- the offset at which the starts stop
  unfoldable pub stop_by : ℕ → ℕ
  stop_by at = in_turn (width_by table code) (λ i end. end) (λ i. i) (length code) at

-- by document 01's table: what stands at an offset, and what is met where the starts stop
abbrev pub listed_at : List ℕ → ℕ → Result Item Ending
listed_at = listed_by width_of

abbrev pub ending : List ℕ → Ending
ending code = ending_at code (stop_by width_of code 0)

-- what an answer tells, in numbers: 0 an instruction, with its offset, its tag, its width and the offset after it;
-- 1 the code's end; 2 a byte without a width, with its offset
pub record ListedTold : Type 0 where
  pub number : ℕ
  pub at : ℕ
  pub tag : ℕ
  pub width : ℕ
  pub next : ℕ

unfoldable pub item_told : Result Item Ending → ListedTold
item_told (Ok i) = record { number = 0; at = i.at; tag = i.tag; width = i.width; next = i.next }
item_told (Err End) = record { number = 1; at = 0; tag = 0; width = 0; next = 0 }
item_told (Err (NoWidth at)) = record { number = 2; at = at; tag = 0; width = 0; next = 0 }
