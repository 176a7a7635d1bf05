-- What the code says of one instruction of a chunk, as the rule of its machine says it: the tests of its needs, then
-- the edges; and the tests of one jump. Document 01, "Order of the tests": "rights (kind 4, p only what lacks); 12; 15
-- for ITER_DROP, 16 for POP_HANDLER; then edges, each target tested for 9, then 10, and the fall-through pushed last.
-- ITER_NEXT* tests 15 before its target [...]. A plain instruction whose successor is not before the end gives 13."
use Rattle.std.specs.Prelude.{◌&&◌, ◌||◌, cond, List, ℕ, ◌+◌, ◌^◌, ◌≤◌, ◌<◌, ltb, leb, Result, Ok, Err}
use Rattle.std.proofs.Math.Option.{Option, none, some}
use Rattle.answer.specs.Answer.{unless}
use Rattle.answer.specs.declared.Refusal.{Refusal}
use Rattle.answer.specs.declared.Depths.{Depths}
use Rattle.demand.specs.Chunk.{needs_test, rule}
use Rattle.demand.specs.Span.{Span}
use Rattle.machine.specs.Walk as machine
use Rattle.marks.specs.Places.{bit_at, is_one}
use Rattle.rules.specs.declared.Effect.{Effect}
use Rattle.rules.specs.Edges.{falls, plain, after_of, jumped_of, after, jumped, next}
use Rattle.rules.specs.Script.{Script, tag_of}
use Rattle.rules.specs.Shapes.{Flows}
use Rattle.rules.specs.declared.shapes.Flow.{Flow}
use Rattle.ruling.specs.declared.Edges.{Edges}

-- ---- an instruction, in numbers

-- the edges of an instruction of a tag that pops and pushes so many, with the place after it
abbrev pub edges_from : (tag pops pushes next : ℕ) → Depths → Edges
edges_from tag pops pushes next d = record {
  after = after_of tag pops pushes d;
  jumped = jumped_of tag d (after_of tag pops pushes d);
  next = next;
  falls = falls tag;
}

-- 13 where it is plain and the place after it is not before the end; else the edges
unfoldable pub leaving : (tag pops pushes next end : ℕ) → Depths → Result Edges Refusal
leaving tag pops pushes next end d =
    cond (plain tag && leb end next) (Err Refusal.FallsOffTheEnd)
    (Ok (edges_from tag pops pushes next d))

-- the tests of its needs, then the way on, of an instruction of a tag with this effect
abbrev pub settled : (lacks tag : ℕ) → Effect → (at next end : ℕ) → Depths → Result Edges Refusal
settled lacks tag effect at next end d =
    unless Err (needs_test lacks tag effect.needs at d)
    (leaving tag effect.pops effect.pushes next end d)

-- what settling builds on: a tag of this flow, an effect that pops what is needed at most and pushes one at most, and
-- depths of which one more fits a word of 32 bits
pub record Settles (flow : Flow) (effect : Effect) (d : Depths) : Type 0 where
  pub tag : ℕ
  pub flows : Flows tag flow
  pub pops_needed : effect.pops ≤ effect.needs
  pub pushes_one : effect.pushes ≤ 1
  pub operands_fit : d.operands + 1 < 2 ^ 32
  pub iterators_fit : d.iterators + 1 < 2 ^ 32
  pub handlers_fit : d.handlers + 1 < 2 ^ 32

-- 9, then 10, of a jump, where a bit of the marks tells a start
unfoldable pub jump_test : (marks : List ℕ) (entry end at target : ℕ) → Option Refusal
jump_test marks entry end at target =
    cond (ltb target entry || leb end target) (some (Refusal.JumpOutOfRange at target))
    (cond (is_one (bit_at marks target)) none (some (Refusal.JumpIntoAnInstruction at target)))

-- ---- the rule's answer

-- a denial as it is, and what the rule gives as edges
unfoldable pub answers : machine.Ruling Refusal → Edges → Result Edges Refusal
answers (machine.denies answer) edges = Err answer
answers (machine.gives post fall jumps) edges = Ok edges

-- the edges of the instruction at a place
abbrev pub edges_of : Script → ℕ → Depths → Edges
edges_of S p d = record { after = after S p d; jumped = jumped S p d; next = next S p; falls = falls (tag_of S p) }

-- what the rule says of it in a chunk, as the code's answer
unfoldable pub ruled : Script → Span → ℕ → Depths → Result Edges Refusal
ruled S span p d = answers (rule S span p d) (edges_of S p d)
