-- The answer in document 01's numbers: kind, chunk, at, p, q and three counts. Document 01, "What comes back": "`at` is
-- an offset for 5, 6, 9 to 12, 15, 16 and a walk's 4; unused are 0", and the table of kinds.
use Rattle.std.proofs.Math.Option.{Option, none, some}
use Rattle.std.specs.Prelude.{ℕ, Result, Ok, Err}
use Rattle.answer.specs.declared.Accepted.{Accepted}
use Rattle.answer.specs.declared.Refusal.{Refusal}
use Rattle.answer.specs.declared.Refusal.TheVariants.{TooLarge, BadTable, NoRoom, MissingCaps, Undecodable, BadIndex}
use Rattle.answer.specs.declared.Refusal.TheVariants.{ChunkOutOfRange, Misaligned, JumpOutOfRange}
use Rattle.answer.specs.declared.Refusal.TheVariants.{JumpIntoAnInstruction, DepthConflict, Underflow, FallsOffTheEnd}
use Rattle.answer.specs.declared.Refusal.TheVariants.{StackExceedsDeclared, IteratorUnderflow, HandlerUnderflow}
use Rattle.answer.specs.declared.verdict.Verdict.{Verdict}

-- the chunk of an answer that is about none: before the chunks, and on acceptance
abbrev pub no_chunk : ℕ
no_chunk = 4294967295

-- a refusal counts nothing
abbrev pub refusal : (kind chunk at p q : ℕ) → Verdict
refusal kind chunk at p q =
    record { kind = kind; chunk = chunk; at = at; p = p; q = q; instructions = 0; reached = 0; taken = 0 }

-- the numbers of a refusal about a chunk; `no_chunk` where it came before the chunks
unfoldable pub refused : (chunk : ℕ) → Refusal → Verdict
refused chunk (TooLarge limit) = refusal 1 chunk 0 limit 0
refused chunk (BadTable table entry) = refusal 2 chunk 0 table entry
refused chunk (NoRoom needed buffer) = refusal 3 chunk 0 needed buffer
refused chunk (MissingCaps at missing) = refusal 4 chunk at missing 0
refused chunk (Undecodable at) = refusal 5 chunk at 0 0
refused chunk (BadIndex at index pool) = refusal 6 chunk at index pool
refused chunk (ChunkOutOfRange entry end) = refusal 7 chunk 0 entry end
refused chunk (Misaligned entry) = refusal 8 chunk 0 entry 0
refused chunk (JumpOutOfRange at target) = refusal 9 chunk at target 0
refused chunk (JumpIntoAnInstruction at target) = refusal 10 chunk at target 0
refused chunk (DepthConflict at expected found) = refusal 11 chunk at expected.operands found.operands
refused chunk (Underflow at need have) = refusal 12 chunk at need have
refused chunk FallsOffTheEnd = refusal 13 chunk 0 0 0
refused chunk (StackExceedsDeclared needed declared) = refusal 14 chunk 0 needed declared
refused chunk (IteratorUnderflow at) = refusal 15 chunk at 0 0
refused chunk (HandlerUnderflow at) = refusal 16 chunk at 0 0

-- the numbers of an answer: kind 0 with its counts, or those of the refusal
unfoldable pub numbered : (chunk : ℕ) → Result Accepted Refusal → Verdict
numbered chunk (Ok accepted) = record {
  kind = 0;
  chunk = no_chunk;
  at = 0;
  p = 0;
  q = 0;
  instructions = accepted.instructions;
  reached = accepted.reached;
  taken = accepted.taken;
}
numbered chunk (Err refusal) = refused chunk refusal

-- the cases of a test's outcome: it passes, or refuses
unfoldable pub told : Result (Unit {0}) Refusal → Option Refusal
told (Ok passed) = none
told (Err refusal) = some refusal

-- a test comes first: its refusal, in the form that is asked for, or what comes after the test
unfoldable pub unless : {B : Type 0} → (Refusal → B) → Option Refusal → B → B
unless refuse none rest = rest
unless refuse (some refusal) rest = refuse refusal
