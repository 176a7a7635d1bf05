-- Work as words: a stack of items, four words each. Document 01, "Flat pools and sizes": "work, 4 × (1 + E), in 32-bit
-- words"; "Order of the tests": "takes the work item pushed last".
use Rattle.std.specs.Prelude.{List, [], ◌∷◌, ◌≡◌, ℕ, zero, suc, ◌+◌, ◌*◌, ◌≤◌, get_or}
use Rattle.std.proofs.lemmas.List.Edits.{sets}
use Rattle.answer.specs.Depths.{Item, zeros}

-- the item of this number, counted from the bottom
unfoldable pub item_at : List ℕ → ℕ → Item
item_at words i = record {
  place = get_or words (i * 4) 0;
  depths = record {
    operands = get_or words (i * 4 + 1) 0;
    iterators = get_or words (i * 4 + 2) 0;
    handlers = get_or words (i * 4 + 3) 0;
  };
}

-- so many items from the bottom, the last one first
unfoldable pub items : List ℕ → ℕ → List Item
items words zero = []
items words (suc n) = item_at words n ∷ items words n

-- the four words of an item
abbrev pub words_of : Item → List ℕ
words_of it = it.place ∷ it.depths.operands ∷ it.depths.iterators ∷ it.depths.handlers ∷ []

-- the words with this item at this number
unfoldable pub put : List ℕ → ℕ → Item → List ℕ
put words i it = sets words (i * 4) (words_of it)

-- the words with these items from a number on
unfoldable pub put_all : List ℕ → ℕ → List Item → List ℕ
put_all words i [] = words
put_all words i (it ∷ its) = put_all (put words i it) (i + 1) its

-- the words without the item of a number: four zeros
abbrev pub cleared : List ℕ → ℕ → List ℕ
cleared words i = put words i (record { place = 0; depths = zeros })

-- above so many items all words are zero
pub record Clear (words : List ℕ) (n : ℕ) : Type 0 where
  pub clear : (i : ℕ) → n * 4 ≤ i → get_or words i 0 ≡ 0
