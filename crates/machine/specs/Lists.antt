-- Lists as sets, and sums over them, for document 01's "the starts on some path from the entry; 1 + the edges out of
-- those", and for E, the "outgoing edges" of a chunk. Membership is the library's, under a short sign.
use mathlib.Core.List.{List, [], ◌∷◌, Memᴰ}
pub use mathlib.Core.List.Memᴰ.{head as here}
pub use mathlib.Core.List.Memᴰ.{tail as there}
use Rattle.std.specs.Prelude.{ℕ, ◌+◌}

infix 50 ◌∈◌
abbrev pub ◌∈◌ : {A : Type 0} → A → List A → Type 0
x ∈ xs = Memᴰ x xs

-- No element stands twice.
abbrev pub NoRepeats : List ℕ → Type 0
NoRepeats [] = Unit {0}
NoRepeats (x ∷ xs) = (¬ (x ∈ xs)) × NoRepeats xs

-- The sum of f x over the elements x.
unfoldable pub sum_of : (ℕ → ℕ) → List ℕ → ℕ
sum_of f [] = 0
sum_of f (x ∷ xs) = f x + sum_of f xs
