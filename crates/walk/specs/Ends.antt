-- The ends of a walk: what is cleared, tested and stored when no item is left, or one is refused. Document 01, "What
-- comes back": "Every later return zeroes all of records and work"; "heights hold a measured height for each chunk".
use Rattle.std.specs.Prelude.{cond, List, ◌++◌, ◌≡◌, ℕ, Result, ltb, set, drop, replicate}
use Rattle.answer.specs.Answer.{told}
use Rattle.answer.specs.declared.Refusal.{Refusal}
use Rattle.demand.specs.Chunk.{height_test}

-- the words with so many zeros in front
abbrev pub zeroed : ℕ → List ℕ → List ℕ
zeroed n words = replicate n 0 ++ drop n words

-- so many words of records and of work were cleared
pub record Abandoned (used waited : ℕ) (records work records' work' : List ℕ) : Type 0 where
  pub records_zeroed : records' ≡ zeroed used records
  pub work_zeroed : work' ≡ zeroed waited work

-- so many words of records were cleared, and the height is stored where it passes
module _ (used height declared chunk : ℕ) (heights records : List ℕ) where
  pub record Closed (r : Result (Unit {0}) Refusal) (heights' records' : List ℕ) : Type 0 where
    pub answer : told r ≡ height_test height declared
    pub stored : heights' ≡ cond (ltb declared height) heights (set heights chunk height)
    pub records_zeroed : records' ≡ zeroed used records
