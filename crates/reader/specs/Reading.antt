-- Reading: what is met where each item's next place is read in turn. Document 01, "What has to change shape": "The
-- listing iterator: a reader that keeps the lent code and its own place".
use Rattle.std.specs.Prelude.{List, [], ◌∷◌, ◌≡◌, ℕ, Result, Ok, Err}
use Rattle.listing.specs.Listing.{listed_by}
use Rattle.listing.specs.declared.Item.{Item}
use Rattle.listing.specs.declared.Ending.{Ending}

-- the place after an item that was read: past an instruction, and the same place where there is none
unfoldable pub place_after : Result Item Ending → ℕ → ℕ
place_after (Ok item) at = item.next
place_after (Err ending) at = at

module _ (table : ℕ → ℕ) (code : List ℕ) where
  -- from a place on, the offsets of the instructions that are read and the ending that is read after them: an ending at
  -- once, or an instruction, and then whatever is read from the place after it
  pub data Reads : ℕ → List ℕ → Ending → Type 0 where
    ends : {at : ℕ} {ending : Ending} → listed_by table code at ≡ Err ending → Reads at [] ending
    goes_on : {at : ℕ} {item : Item} {offsets : List ℕ} {ending : Ending} → listed_by table code at ≡ Ok item
        → Reads (place_after (Ok item) at) offsets ending
        → Reads at (item.at ∷ offsets) ending
