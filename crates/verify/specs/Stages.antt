-- The whole call in stages. Document 01, "Order of the tests": what stands before the chunks there, then "chunks
-- upward. The first refusal met ends the whole call"; "What comes back": "Kinds 1, 2, and 3 for marks or heights come
-- before any store. Every later return zeroes all of records and work", and "reached and taken, summed over the
-- chunks".
use Rattle.std.specs.Prelude.{cond, List, [], ◌∷◌, ◌≡◌, ℕ, Result, Ok, Err, ◌+◌, ◌*◌, ◌^◌, ◌≤◌, ◌<◌, leb, length}
use Rattle.std.specs.Prelude.{replicate}
use Rattle.std.proofs.Math.Option.{none, some}
use Rattle.answer.specs.Answer.{no_chunk, numbered, refused}
use Rattle.answer.specs.declared.Accepted.{Accepted}
use Rattle.answer.specs.declared.verdict.Verdict.{Verdict}
use Rattle.before.specs.Before.{Test}
use Rattle.before.specs.Calls.{before_chunks, marks_after}
use Rattle.before.specs.Input.{Input}
use Rattle.demand.specs.Span.{Span}
use Rattle.judging.specs.declared.Refused.{Refused}
use Rattle.judging.specs.declared.Sums.{Sums}
use Rattle.judging.specs.Judges.{most_reached, most_taken}
use Rattle.judging.specs.Judging.{JudgedAll, judge_all}
use Rattle.marks.specs.Marks.{total}
use Rattle.opening.specs.Ready.{Ready, Marked}
use Rattle.pools.specs.Sizes.{max_chunks}
use Rattle.rules.specs.Script.{Script}
use Rattle.verify.specs.Call.{marks_on}

-- a call between two stages: it goes on, with what is counted so far, or it has ended with its verdict
abbrev pub State : Type 0
State = Result Accepted Verdict

-- ---- before the chunks

-- the state after these tests, with so many instructions marked
unfoldable pub opened : Test → (instructions : ℕ) → State
opened none instructions = Ok (record { instructions = instructions; reached = 0; taken = 0 })
opened (some a) instructions = Err (refused no_chunk a)

-- what records or work hold then
unfoldable pub words_on : Test → List ℕ → List ℕ
words_on none words = replicate (length words) 0
words_on (some a) words = cond (leb (refused no_chunk a).kind 3) words (replicate (length words) 0)

-- records and work are zeroed
pub record BothClear (records work records' work' : List ℕ) : Type 0 where
  pub records_zero : records' ≡ replicate (length records) 0
  pub work_zero : work' ≡ replicate (length work) 0

-- what a call for everything before the chunks comes to, with room for so many heights
module _ (I : Input) (heights : ℕ) (marks records work : List ℕ) where
  pub record Begins (r : State) (marks' records' work' : List ℕ) : Type 0 where
    pub state : r ≡ opened (before_chunks I (length marks) heights) (total marks')
    pub bits : marks' ≡ marks_after I heights marks
    pub records_on : records' ≡ words_on (before_chunks I (length marks) heights) records
    pub work_on : work' ≡ words_on (before_chunks I (length marks) heights) work

-- ---- the chunks

-- the state after more chunks are judged; a call that has ended stays as it ended
unfoldable pub advanced : State → Result Sums Refused → State
advanced (Ok counted) (Ok more) = Ok (record {
  instructions = counted.instructions;
  reached = counted.reached + more.reached;
  taken = counted.taken + more.taken;
})
advanced (Ok counted) (Err failed) = Err (refused failed.chunk failed.refusal)
advanced (Err verdict) judgement = Err verdict

-- and what marks hold then
unfoldable pub marks_then : State → Result Sums Refused → (marks : List ℕ) → List ℕ
marks_then (Ok counted) judgement marks = marks_on judgement marks
marks_then (Err verdict) judgement marks = marks

module _ (state : State) (judgement : Result Sums Refused) (marks : List ℕ) where
  pub record Advances (r : State) (marks' : List ℕ) : Type 0 where
    pub next : r ≡ advanced state judgement
    pub bits : marks' ≡ marks_then state judgement marks

-- the sums fit a `u64`
unfoldable pub Fits : State → Result Sums Refused → Type 0
Fits (Ok counted) (Ok more) = (counted.reached + more.reached < 2 ^ 64) × (counted.taken + more.taken < 2 ^ 64)
Fits (Ok counted) (Err failed) = Unit {0}
Fits (Err verdict) judgement = Unit {0}

-- the counts are those of so many chunks at most
unfoldable pub Few : State → (chunks : ℕ) → Type 0
Few (Ok counted) chunks = (counted.reached ≤ chunks * most_reached) × (counted.taken ≤ chunks * most_taken)
Few (Err verdict) chunks = Unit {0}

-- what a call for one chunk builds on
pub record ReadyForChunk (S : Script) (number : ℕ) (state : State) (marks heights records work : List ℕ)
    : Type 0 where
  pub ready : Ready S
  pub marked : Marked marks S.code
  pub records_zero : records ≡ replicate (length records) 0
  pub work_zero : work ≡ replicate (length work) 0
  pub room : number < length heights
  pub low : number ≤ max_chunks
  pub few : Few state number

-- and what it comes to, where so many words of records and of work are lent
module _ (S : Script) (records work : ℕ) (span : Span) (number : ℕ) (state : State) (marks heights : List ℕ) where
  abbrev pub judged : JudgedAll
  judged = judge_all S records work (span ∷ []) number 0 0 heights

  pub record Takes (r : State) (marks' heights' records' work' : List ℕ) : Type 0 where
    pub advances : Advances state judged.answer marks r marks'
    pub measured : heights' ≡ judged.heights
    pub records_zero : records' ≡ replicate records 0
    pub work_zero : work' ≡ replicate work 0

-- ---- the end

unfoldable pub finished : State → Verdict
finished (Ok counted) = numbered no_chunk (Ok counted)
finished (Err verdict) = verdict
