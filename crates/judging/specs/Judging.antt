-- The chunks judged, upward. Document 01, "Order of the tests": "chunks upward. The first refusal met ends the whole
-- call"; "What comes back": "heights hold a measured height for each chunk before the one refused (all, if accepted),
-- the others untouched"; "reached and taken, summed over the chunks".
use Rattle.std.specs.Prelude.{List, [], ◌∷◌, ℕ, Result, Ok, Err, ◌+◌, set}
use Rattle.demand.specs.Chunk.{passes, fails, judge_chunk}
use Rattle.demand.specs.Span.{Span}
use Rattle.rules.specs.Script.{Script}
use Rattle.judging.specs.declared.Refused.{Refused}
use Rattle.judging.specs.declared.Sums.{Sums}

-- chunks judged one after the other: the answer, and what heights hold with it
pub record JudgedAll : Type 0 where
  pub answer : Result Sums Refused
  pub heights : List ℕ

-- where so many words of records and of work are lent: from the chunk of a number on, with what the chunks before it
-- come to
module _ (S : Script) (records work : ℕ) where
  unfoldable pub judge_all : List Span → (number reached taken : ℕ) → (heights : List ℕ) → JudgedAll
  judge_all [] number reached taken heights =
      record { answer = Ok (record { reached = reached; taken = taken }); heights = heights }
  judge_all (span ∷ spans) number reached taken heights =
      elim (judge_chunk S span records work) [
        | passes height r t ↦ judge_all spans (number + 1) (reached + r) (taken + t) (set heights number height)
        | fails a ↦ record { answer = Err (record { chunk = number; refusal = a }); heights = heights }
      ]
