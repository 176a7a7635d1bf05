-- What stands at an offset, as it crosses the boundary: the listing's own numbers. Document 01, "Modules": "offset, tag and
-- width in turn. Added: the end says whether it came at the code's end or at a byte without a width".
use Rattle.std.specs.Prelude.{ℕ}
use Rattle.listing.specs.Listing.{ListedTold}
use Rattle.grain.specs.declared.item.Item.{Item}

-- the numbers of an item: each field is one of them, so only one item tells what the listing tells
abbrev pub item_numbers : Item → ListedTold
item_numbers i = record { number = i.kind; at = i.at; tag = i.tag; width = i.width; next = i.next }

-- an item that is no instruction
abbrev pub ending_of : (kind at : ℕ) → Item
ending_of kind at = record { kind = kind; tag = 0; at = at; width = 0; next = 0 }
