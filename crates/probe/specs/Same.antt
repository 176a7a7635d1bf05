-- What crosses the boundary are the numbers of a definition, field by field; and what the exports do where the
-- functions behind them ask something of their caller.
use Rattle.std.specs.Prelude.{cond, List, ◌≡◌, ℕ, ◌/◌, leb, ltb, length}
use Rattle.code.specs.Answers as code
use Rattle.listing.specs.Listing as listing
use Rattle.marks.specs.Marks.{marked, total}
use Rattle.probe.specs.declared.ListedTold.{ListedTold}
use Rattle.probe.specs.declared.Told.{Told}

pub record SameTold (r : Told) (told : code.Found) : Type 0 where
  pub number : r.number ≡ told.number
  pub value : r.value ≡ told.value

pub record SameListed (r : ListedTold) (told : listing.ListedTold) : Type 0 where
  pub number : r.number ≡ told.number
  pub at : r.at ≡ told.at
  pub tag : r.tag ≡ told.tag
  pub width : r.width ≡ told.width
  pub next : r.next ≡ told.next

-- a place past the words is not set, and nothing changes
pub record SetStart (before : List ℕ) (at : ℕ) (after : List ℕ) (r : ℕ) : Type 0 where
  pub answer : r ≡ cond (leb (length before) (at / 64)) 0 1
  pub marks : after ≡ cond (leb (length before) (at / 64)) before (marked before at)

-- the ones in the words, of 65,536 words at most
unfoldable pub count_of : List ℕ → ℕ
count_of marks = cond (ltb 65536 (length marks)) 0 (total marks)
