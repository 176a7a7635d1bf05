-- The whole call: the order of all tests, the verdict, and what the lent memory holds on return. Document 01, "Order of
-- the tests", and "What comes back": "Kinds 1, 2, and 3 for marks or heights come before any store. Every later return
-- zeroes all of records and work; all of marks holds the starts' bits after acceptance, zeros after refusal; heights
-- hold a measured height for each chunk before the one refused (all, if accepted), the others untouched."
use Rattle.std.specs.Prelude.{List, ◌≡◌, ℕ, length, replicate}
use Rattle.std.specs.Prelude as std
use Rattle.std.proofs.Math.Option.{none, some}
use Rattle.answer.specs.Answer.{no_chunk, numbered, refused}
use Rattle.answer.specs.declared.verdict.Verdict.{Verdict}
use Rattle.before.specs.Before.{Test, before_stores, after_stores, marks_of}
use Rattle.before.specs.Input.{Input}
use Rattle.demand.specs.Span.{Span}
use Rattle.judging.specs.declared.Refused.{Refused}
use Rattle.judging.specs.declared.Sums.{Sums}
use Rattle.judging.specs.Judging.{JudgedAll, judge_all}
use Rattle.marks.specs.Marks.{total}
use Rattle.verify.specs.Accounts.{Accounted}

-- the lent memory
pub record Memory : Type 0 where
  pub marks : List ℕ
  pub heights : List ℕ
  pub records : List ℕ
  pub work : List ℕ

-- a verdict, and the memory with it
pub record Result : Type 0 where
  pub verdict : Verdict
  pub memory : Memory

-- the verdict on judged chunks, with the ones in the marks counted, and what marks hold with it
unfoldable pub verdict_on : std.Result Sums Refused → (marks : List ℕ) → Verdict
verdict_on (std.Ok sums) marks =
    numbered no_chunk (std.Ok (record { instructions = total marks; reached = sums.reached; taken = sums.taken }))
verdict_on (std.Err failed) marks = refused failed.chunk failed.refusal

unfoldable pub marks_on : std.Result Sums Refused → (marks : List ℕ) → List ℕ
marks_on (std.Ok sums) marks = marks
marks_on (std.Err failed) marks = replicate (length marks) 0

module _ (I : Input) (spans : List Span) (before : Memory) where
  -- the memory once there was a store: these marks and heights, and nothing in records and work
  abbrev pub after_first_store : (marks heights : List ℕ) → Memory
  after_first_store marks heights = record {
    marks = marks;
    heights = heights;
    records = replicate (length before.records) 0;
    work = replicate (length before.work) 0;
  }

  -- the starts' bits in all words of marks
  abbrev pub start_bits : List ℕ
  start_bits = marks_of I.script.code none (length before.marks)

  -- the result once the chunks are judged
  unfoldable pub after_chunks : JudgedAll → Result
  after_chunks judged = record {
    verdict = verdict_on judged.answer start_bits;
    memory = after_first_store (marks_on judged.answer start_bits) judged.heights;
  }

  -- once the tests after the first store came to this: a refusal, or the chunks are judged
  unfoldable pub after_late_tests : Test → Result
  after_late_tests (some a) = record {
    verdict = refused no_chunk a;
    memory = after_first_store (replicate (length before.marks) 0) before.heights;
  }
  after_late_tests none =
      after_chunks
      (judge_all I.script (length before.records) (length before.work) spans 0 0 0 before.heights)

  -- once the tests before any store came to this: a refusal, or the tests after the first store are made
  unfoldable pub after_early_tests : Test → Result
  after_early_tests (some a) = record { verdict = refused no_chunk a; memory = before }
  after_early_tests none = after_late_tests (after_stores I)

  abbrev pub result : Result
  result = after_early_tests (before_stores I (length before.marks) (length before.heights))

  -- what a call comes to; and an acceptance, kind 0, answers for every chunk
  pub record Calls (r : Verdict) (after : Memory) : Type 0 where
    pub verdict : r ≡ result.verdict
    pub memory : after ≡ result.memory
    pub accepted : r.kind ≡ 0 → Accounted I.script spans after.heights r
