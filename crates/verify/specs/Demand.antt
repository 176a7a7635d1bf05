-- When a call accepts and when it refuses, what a refusal tells of the chunk that it names and of those before it,
-- and what a call leaves in heights. Document 01, "Order of the tests": all that comes before the chunks, then of
-- each chunk "7; 8 if the entry is neither a start nor the code's length; room for records, work; walk; 14"; "What
-- comes back": "A kind is given exactly when its test, in its turn, is the first to fail". What the walk and 14 have
-- to come to is the customer's third demand: Writing.
use Rattle.std.specs.Prelude.{List, ◌⊎◌, ◌≡◌, ℕ, ◌+◌, ◌*◌, ◌≤◌, ◌<◌, length}
use Rattle.std.proofs.Math.Option.{none}
use Rattle.answer.specs.Answer.{refused}
use Rattle.answer.specs.declared.Refusal.{Refusal}
use Rattle.answer.specs.declared.verdict.Verdict.{Verdict}
use Rattle.before.specs.Before.{before_stores, after_stores}
use Rattle.before.specs.Input.{Input}
use Rattle.code.specs.Width.{width_of}
use Rattle.demand.specs.Span.{Span, chunk_at, InCode, T, E}
use Rattle.demand.specs.Writing.{Writing, Real, Exceeds}
use Rattle.listing.specs.Starts.{Start}
use Rattle.rules.specs.Script.{Script}
use Rattle.verify.specs.Accounts.{Filled}
use Rattle.verify.specs.Call.{Memory}

-- ---- one chunk

-- a chunk passes its own tests before its walk, where so many words of records and of work are lent; this holds
-- exactly where `open_test` refuses nothing (`opens_exactly` in proofs/Chunks)
pub record Opens (S : Script) (span : Span) (records work : ℕ) : Type 0 where
  -- 7 and 8
  pub in_code : InCode S.code span.entry span.end
  -- "records, 4 × (1 + T), and work, 4 × (1 + E)"
  pub records_room : 4 * (1 + T S span) ≤ records
  pub work_room : 4 * (1 + E S span) ≤ work

module _ (S : Script) (span : Span) (records work : ℕ) where
  -- it does not open: one of these tests fails, with this answer, and those before it pass (`shut_really` and
  -- `shut_not_open` there)
  pub data Shut : Refusal → Type 0 where
    -- 7: it ends before its entry, or past the code
    out_of_range : (span.end < span.entry) ⊎ (length S.code < span.end)
        → Shut (Refusal.ChunkOutOfRange span.entry span.end)
    -- 8: its entry is neither a start nor the code's length
    misaligned : span.entry ≤ span.end → span.end ≤ length S.code → ¬ Start width_of S.code span.entry
        → ¬ (span.entry ≡ length S.code) → Shut (Refusal.Misaligned span.entry)
    -- 3: there is no room for records; or there is, and none for work
    few_records : InCode S.code span.entry span.end → records < 4 * (1 + T S span)
        → Shut (Refusal.NoRoom (4 * (1 + T S span)) 3)
    little_work : InCode S.code span.entry span.end → 4 * (1 + T S span) ≤ records → work < 4 * (1 + E S span)
        → Shut (Refusal.NoRoom (4 * (1 + E S span)) 4)

  -- it opens, and its walk or 14 refuses it: an instruction on its paths really fails that test, or the largest depth
  -- on them is above the declared height
  pub record FailsWalk (answer : Refusal) : Type 0 where
    pub opens : Opens S span records work
    pub real : Real S span answer ⊎ Exceeds S span answer

-- the kinds of the tests before a walk, and those of a walk and of 14
abbrev pub OpeningKind : ℕ → Type 0
OpeningKind kind = (kind ≡ 3) ⊎ ((7 ≤ kind) × (kind ≤ 8))

abbrev pub WalkKind : ℕ → Type 0
WalkKind kind = (kind ≡ 4) ⊎ ((9 ≤ kind) × (kind ≤ 16))

-- ---- the whole call

-- all tests before the chunks pass
pub record ComesToChunks (I : Input) (before : Memory) : Type 0 where
  pub early : before_stores I (length before.marks) (length before.heights) ≡ none
  pub late : after_stores I ≡ none

module _ (I : Input) (spans : List Span) (before : Memory) where
  -- the chunk of a number opens; it does not open; it opens and fails its walk; it is one of these two that fails it
  abbrev pub OpensAt : ℕ → Type 0
  OpensAt i = Opens I.script (chunk_at spans i) (length before.records) (length before.work)

  abbrev pub ShutAt : ℕ → Refusal → Type 0
  ShutAt i = Shut I.script (chunk_at spans i) (length before.records) (length before.work)

  abbrev pub FailsWalkAt : ℕ → Refusal → Type 0
  FailsWalkAt i = FailsWalk I.script (chunk_at spans i) (length before.records) (length before.work)

  abbrev pub FailsAt : ℕ → Refusal → Type 0
  FailsAt i answer = ShutAt i answer ⊎ FailsWalkAt i answer

  -- it is sound: it opens, and depths can be written beside its starts
  pub record Good (i : ℕ) : Type 0 where
    pub opens : OpensAt i
    pub written : Writing I.script (chunk_at spans i)

  -- a call that has to be accepted
  pub record Acceptable : Type 0 where
    pub begins : ComesToChunks I before
    pub chunks : (i : ℕ) → i < length spans → Good i

  -- a verdict that refuses the chunk of a number: the call comes to it, those before it are sound, and it fails for
  -- this reason, which the verdict tells with its very numbers
  pub record RefusedFor (i : ℕ) (Reason : Refusal → Type 0) (r : Verdict) : Type 0 where
    pub begins : ComesToChunks I before
    pub there : i < length spans
    pub sound_before : (j : ℕ) → j < i → Good j
    pub answer : Refusal
    pub numbers : r ≡ refused i answer
    pub reason : Reason answer

  -- "heights hold a measured height for each chunk before the one refused (all, if accepted), the others untouched"
  pub record Fills (r : Verdict) (heights' : List ℕ) : Type 0 where
    pub accepting : r.kind ≡ 0 → Filled I.script spans (length spans) before.heights heights'
    pub refusing : ¬ (r.kind ≡ 0) → Filled I.script spans r.chunk before.heights heights'
