-- The five frauds of document 01, "Holding the promises to account": "a verifier that refuses everything, one that
-- answers one height always, one that stores nothing [...]; one that judges only the first chunk (each height is its
-- own chunk's); counts invented (reached and taken are defined by paths)". Each is said of a verifier, by what it
-- gives for every input, or, where one input is enough, for one.
use Rattle.std.specs.Prelude.{List, ◌∷◌, ◌≢◌, ◌≡◌, ℕ, ◌<◌, length, get_or}
use Rattle.answer.specs.declared.verdict.Verdict.{Verdict}
use Rattle.before.specs.Input.{Input}
use Rattle.demand.specs.Span.{Span}
use Rattle.listing.specs.Starts.{starts}
use Rattle.rules.specs.Script.{Script}
use Rattle.verify.specs.Accounts.{sum_below, Measured}
use Rattle.verify.specs.Call.{Memory, Result, Calls}
use Rattle.bench.specs.Bench.{BenchRow, asked_by, lent}

-- a call on what a row asks may come to this verdict and this memory
abbrev pub CallsOn : BenchRow → Verdict → Memory → Type 0
CallsOn row r after = Calls (asked_by row) row.spans lent r after

-- no buffer is as it was
pub record ChangesAll (before after : Memory) : Type 0 where
  pub marks : after.marks ≢ before.marks
  pub heights : after.heights ≢ before.heights
  pub records : after.records ≢ before.records
  pub work : after.work ≢ before.work

-- counts that are not those of the code and of the paths of its chunks, whatever these are measured by
pub data OtherCounts (S : Script) (spans : List Span) (r : Verdict) : Type 0 where
  of_instructions : r.instructions ≢ length (starts S.code) → OtherCounts S spans r
  of_reached : {heights : List ℕ} (m : Measured S spans (length spans) heights)
      → r.reached ≢ sum_below m.reached_in (length spans) → OtherCounts S spans r
  of_taken : {heights : List ℕ} (m : Measured S spans (length spans) heights)
      → r.taken ≢ sum_below m.taken_in (length spans) → OtherCounts S spans r

-- a verifier: its verdict, and the memory with it, for whatever is asked and lent
abbrev pub Verifier : Type 0
Verifier = Input → List Span → Memory → Result

module _ (ask : Verifier) where
  -- it meets the contract of the call, wherever the input says how many chunks there are
  abbrev pub Meets : Type 0
  Meets = (I : Input) (spans : List Span) (before : Memory) → I.chunks ≡ length spans
      → Calls I spans before (ask I spans before).verdict (ask I spans before).memory

  -- it refuses everything
  abbrev pub RefusesEverything : Type 0
  RefusesEverything = (I : Input) (spans : List Span) (before : Memory) → (ask I spans before).verdict.kind ≢ 0

  -- it answers one height always
  pub record OneHeight : Type 0 where
    pub height : ℕ
    pub always : (I : Input) (spans : List Span) (before : Memory) → (ask I spans before).verdict.kind ≡ 0
        → (i : ℕ) → i < length spans → get_or (ask I spans before).memory.heights i 0 ≡ height

  -- it stores nothing: marks and heights are after every call what they were before it
  pub record StoresNothing : Type 0 where
    pub marks_kept : (I : Input) (spans : List Span) (before : Memory)
        → (ask I spans before).memory.marks ≡ before.marks
    pub heights_kept : (I : Input) (spans : List Span) (before : Memory)
        → (ask I spans before).memory.heights ≡ before.heights

  -- it judges only the first chunk: whichever others stand behind it, the kind is the same, or the heights are
  pub data FirstOnly : Type 0 where
    in_kinds : ((I : Input) (span : Span) (spans spans' : List Span) (before : Memory) → length spans ≡ length spans'
        → (ask I (span ∷ spans) before).verdict.kind ≡ (ask I (span ∷ spans') before).verdict.kind) → FirstOnly
    in_heights : ((I : Input) (span : Span) (spans spans' : List Span) (before : Memory) → length spans ≡ length spans'
        → (ask I (span ∷ spans) before).memory.heights ≡ (ask I (span ∷ spans') before).memory.heights) → FirstOnly

  -- it invents counts, of one call at least that it accepts
  pub record Invents : Type 0 where
    pub asked : Input
    pub spans : List Span
    pub before : Memory
    pub every_chunk : asked.chunks ≡ length spans
    pub accepted : (ask asked spans before).verdict.kind ≡ 0
    pub invented : OtherCounts asked.script spans (ask asked spans before).verdict
