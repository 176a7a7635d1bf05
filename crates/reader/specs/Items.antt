-- The instructions from a place on, in turn: what a reader gives as an iterator. Document 01, "Modules": "offset, tag
-- and width in turn".
use Rattle.std.specs.Prelude.{List, [], ◌∷◌, ℕ, length, get_or}
use Rattle.code.specs.Width.{width_of, width_by}
use Rattle.listing.specs.Listing.{instruction}
use Rattle.listing.specs.Starts.{in_turn}
use Rattle.listing.specs.declared.Item.{Item}

unfoldable pub items_by : (table : ℕ → ℕ) → List ℕ → ℕ → List Item
items_by table code at =
    in_turn (width_by table code)
    (λ i rest. instruction i (get_or code i 0) (width_by table code i) ∷ rest)
    (λ i. []) (length code) at

-- by document 01's table
abbrev pub items_from : List ℕ → ℕ → List Item
items_from = items_by width_of
