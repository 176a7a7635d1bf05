-- The words that have the bits of places set, and how many bits are set in words. Document 01: "marks, one bit for each
-- code byte in 64-bit words"; "all of marks holds the starts' bits"; "counted as the ones in the marks".
use Rattle.std.specs.Prelude.{List, [], ◌∷◌, ℕ, ◌+◌, ◌/◌, ◌%◌, ◌^◌, get_or, set}
use Rattle.std.specs.Int.Bits.{bit_or}
use Rattle.std.specs.Int.Count.{ones}

-- the marks with the bit of a place set: in word `at / 64`, the lowest bit first
unfoldable pub marked : List ℕ → ℕ → List ℕ
marked marks at = set marks (at / 64) (bit_or (get_or marks (at / 64) 0) (2 ^ (at % 64)))

-- with the bits of several places set, one after the other
unfoldable pub marked_all : List ℕ → List ℕ → List ℕ
marked_all marks [] = marks
marked_all marks (at ∷ ats) = marked_all (marked marks at) ats

-- how many bits are set in all the words
unfoldable pub total : List ℕ → ℕ
total [] = 0
total (word ∷ words) = ones word + total words
