-- One chunk judged: the rule of one instruction, the chunk's machine, the tests before its walk, the walk, and 14.
-- Document 01, "Order of the tests": "A chunk: 7; 8 if the entry is neither a start nor the code's length; room for
-- records, work; walk; 14"; "rights (kind 4, p only what lacks); 12; 15 for ITER_DROP, 16 for POP_HANDLER; then edges,
-- each target tested for 9, then 10, and the fall-through pushed last. ITER_NEXT* tests 15 before its target [...]. A
-- plain instruction whose successor is not before the end gives 13."
use Rattle.std.specs.Prelude.{◌&&◌, ◌||◌, cond, not, List, [], ◌∷◌, ◌++◌, map, ℕ, ◌+◌, ◌*◌, ltb, leb, eqb, length}
use Rattle.std.proofs.Math.Option.{Option, none, some}
use Rattle.answer.specs.Answer.{unless}
use Rattle.answer.specs.declared.Refusal.{Refusal}
use Rattle.answer.specs.declared.Depths.{Depths}
use Rattle.code.specs.Layout.{among}
use Rattle.listing.specs.Starts.{starts}
use Rattle.machine.specs.Walk.{Ruling, denies, gives, Machine, Run, accepted, refused, unfinished, walk, Log, log}
use Rattle.rules.specs.Edges.{falls, plain, targets, after, jumped, next}
use Rattle.rules.specs.Needs.{iterators_needed, handlers_needed, lacks, operands_needed}
use Rattle.rules.specs.Script.{Script, tag_of}
use Rattle.demand.specs.Span.{Span, chunk_starts, T, E}

-- ---- one instruction

-- all targets that these instructions name, in order
unfoldable pub all_targets : Script → List ℕ → List ℕ
all_targets S [] = []
all_targets S (p ∷ ps) = targets S p ++ all_targets S ps

-- the tests of what an instruction needs: kind 4, where so much lacks; then 12, 15 and 16, of a tag that needs so
-- many operands
unfoldable pub needs_test : (lacks tag needs at : ℕ) → Depths → Option Refusal
needs_test lacks tag needs at d =
    cond (ltb 0 lacks) (some (Refusal.MissingCaps at lacks))
    (cond (ltb d.operands needs) (some (Refusal.Underflow at needs d.operands))
    (cond (ltb d.iterators (iterators_needed tag)) (some (Refusal.IteratorUnderflow at))
    (cond (ltb d.handlers (handlers_needed tag)) (some (Refusal.HandlerUnderflow at)) none)))

module _ (S : Script) (span : Span) where
  -- the rule: the first test that fails denies; else control goes to each target, and falls through
  unfoldable pub rule : ℕ → Depths → Ruling Refusal
  rule p d =
      unless denies (needs_test (lacks S p) (tag_of S p) (operands_needed S p) p d)
      (cond (plain (tag_of S p) && leb span.end (next S p)) (denies Refusal.FallsOffTheEnd)
      (gives (after S p d).operands (cond (falls (tag_of S p)) (some (after S p d)) none)
      (map (λ (t : ℕ). record { place = t; depths = jumped S p d }) (targets S p))))

  -- the tests of a jump from a place to a target
  unfoldable pub judge : ℕ → ℕ → Option Refusal
  judge p t =
      cond (ltb t span.entry || leb span.end t) (some (Refusal.JumpOutOfRange p t))
      (cond (among t (starts S.code)) none (some (Refusal.JumpIntoAnInstruction p t)))

  abbrev pub machine : Machine Refusal
  machine = record {
    entry = span.entry;
    end = span.end;
    start = λ p. leb span.entry p && among p (starts S.code);
    next = next S;
    named = λ p. among p (span.entry ∷ all_targets S (chunk_starts S span));
    rule = rule;
    judge = judge;
    off = Refusal.FallsOffTheEnd;
    clash = Refusal.DepthConflict;
  }

-- ---- the tests before the walk

-- 7, then 8
unfoldable pub span_test : (code : List ℕ) (entry end : ℕ) → Option Refusal
span_test code entry end =
    cond (ltb end entry || ltb (length code) end) (some (Refusal.ChunkOutOfRange entry end))
    (cond (not (among entry (starts code) || eqb entry (length code))) (some (Refusal.Misaligned entry)) none)

-- 3, of so many targets and edges: room for records, then for work
unfoldable pub room_test : (targets edges records work : ℕ) → Option Refusal
room_test targets edges records work =
    cond (ltb records (4 * (1 + targets))) (some (Refusal.NoRoom (4 * (1 + targets)) 3))
    (cond (ltb work (4 * (1 + edges))) (some (Refusal.NoRoom (4 * (1 + edges)) 4)) none)

-- all of them, of a chunk, where so many words of records and of work are lent
unfoldable pub open_test : Script → Span → (records work : ℕ) → Option Refusal
open_test S span records work =
    unless some (span_test S.code span.entry span.end) (room_test (T S span) (E S span) records work)

-- ---- the walk, and 14

-- a chunk passes with its height and its two counts, or fails with an answer
pub data Judged : Type 0 where
  passes : (height reached taken : ℕ) → Judged
  fails : Refusal → Judged

-- 14, of a walk that refuses nothing
unfoldable pub height_test : (height declared : ℕ) → Option Refusal
height_test height declared = cond (ltb declared height) (some (Refusal.StackExceedsDeclared height declared)) none

-- What a walk comes to. The last line, of a walk that is out of units, is there since a definition has to answer for
-- every run. It is never used: a walk has as many units as there can be items, so that no item of a chunk that passed
-- the checks before its walk is left when they are spent. `walk_ends` in proofs/Demand says so, and `walk_told`
-- there, that such a chunk is judged by one of the two lines before it.
unfoldable pub measured : (declared : ℕ) → Run Refusal Log → Judged
measured declared (accepted b) =
    unless fails (height_test b.height declared) (passes b.height b.reached b.taken)
measured declared (refused r spent) = fails r
measured declared (unfinished w b) = fails Refusal.FallsOffTheEnd

module _ (S : Script) (span : Span) where
  -- the walk has as many units as there can be items, so it ends
  unfoldable pub walked : Judged
  walked = measured span.declared (walk (machine S span) log (1 + E S span) [])

  module _ (records work : ℕ) where
    -- the tests, then the walk, where so many words of records and of work are lent
    unfoldable pub judge_chunk : Judged
    judge_chunk = unless fails (open_test S span records work) walked
