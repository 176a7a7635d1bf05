-- What the call for several chunks comes to, with what it leaves in the buffers. Document 01, "What comes back": "Every
-- later return zeroes all of records and work", and "reached and taken, summed over the chunks".
use Rattle.std.specs.Prelude.{List, ◌≡◌, ℕ, Result, ◌^◌, replicate}
use Rattle.demand.specs.Span.{Span}
use Rattle.rules.specs.Script.{Script}
use Rattle.judging.specs.declared.Refused.{Refused}
use Rattle.judging.specs.declared.Sums.{Sums}
use Rattle.judging.specs.Judging.{judge_all}

-- where so many words of records and of work are lent: this answer, these heights, and nothing left in records and work
module _ (S : Script) (records work : ℕ) (spans : List Span) (first : ℕ) (heights : List ℕ) where
  pub record Judges (r : Result Sums Refused) (heights' records' work' : List ℕ) : Type 0 where
    pub answer : r ≡ (judge_all S records work spans first 0 0 heights).answer
    pub measured : heights' ≡ (judge_all S records work spans first 0 0 heights).heights
    pub records_zero : records' ≡ replicate records 0
    pub work_zero : work' ≡ replicate work 0

-- one chunk counts no more than these: it has as many instructions as bytes at most, and 1 + E is below 2^40
abbrev pub most_reached : ℕ
most_reached = 2 ^ 21

abbrev pub most_taken : ℕ
most_taken = 2 ^ 40
