-- What the bits of a list of words say of places, and how many places there are, for whoever tests a place, and for the
-- laws of marks. Document 01: "marks, one bit for each code byte in 64-bit words".
use Rattle.std.specs.Prelude.{Bool, ◌≡◌, ℕ, zero, suc, ◌+◌, ◌/◌, ◌%◌, ◌^◌, ◌≤◌, ◌<◌, eqb, length, get_or}
use mathlib.Core.List.{List, [], ◌∷◌, Memᴰ, filter}
use Rattle.std.proofs.Math.Decide.{dec_lt}

-- the bit of a place, 0 or 1: in word `at / 64`, the lowest bit first; 0 past the words
unfoldable pub bit_at : List ℕ → ℕ → ℕ
bit_at marks at = get_or marks (at / 64) 0 / 2 ^ (at % 64) % 2

-- is a bit set?
abbrev pub is_one : ℕ → Bool
is_one bit = eqb bit 1

-- exactly these places are set
pub record Holds (marks ats : List ℕ) : Type 0 where
  pub set : (i : ℕ) → Memᴰ i ats → bit_at marks i ≡ 1
  pub only : (i : ℕ) → bit_at marks i ≡ 1 → Memᴰ i ats

-- the places rise: the first is at least `from`, and each of the others is above the one before it
pub data RisesFrom : ℕ → List ℕ → Type 0 where
  empty : {from : ℕ} → RisesFrom from []
  next : {from at : ℕ} {ats : List ℕ} → from ≤ at → RisesFrom (suc at) ats → RisesFrom from (at ∷ ats)

-- each of the places lies within n words
abbrev pub InWords : ℕ → List ℕ → Type 0
InWords n ats = (i : ℕ) → Memᴰ i ats → i / 64 < n

-- every element fits a word
abbrev pub Words : List ℕ → Type 0
Words marks = (i : ℕ) → get_or marks i 0 < 2 ^ 64

-- how many places below n are set
unfoldable pub ones_below : List ℕ → ℕ → ℕ
ones_below marks zero = 0
ones_below marks (suc n) = ones_below marks n + bit_at marks n

-- how many of the places lie below n
unfoldable pub places_below : List ℕ → ℕ → ℕ
places_below ats n = length (filter (λ at. dec_lt at n) ats)
