-- The customer's third demand, of a chunk that passed every check before its walk: "operand, iterator and handler
-- depths can be written beside some of its instruction starts so that the entry has zeros, each edge leads to an
-- in-chunk start bearing precisely the depths the rule gives, each written instruction has the depths and rights it
-- needs, and no operand depth at or just after one exceeds the declared height. The height answered is then the largest
-- such depth on any path from the entry, and some path attains it." With it, of document 01's "What comes back": "the
-- starts on some path from the entry; 1 + the edges out of those", and when a refusal of a walk is real, for "A kind is
-- given exactly when its test, in its turn, is the first to fail". Nothing here knows how a chunk is walked.
use Rattle.std.specs.Prelude.{List, ◌↔◌, ◌⊎◌, ◌≡◌, ℕ, ◌+◌, ◌≤◌, ◌<◌, length}
use Rattle.std.proofs.Math.Option.{Option, some}
use Rattle.answer.specs.declared.Refusal.{Refusal}
use Rattle.answer.specs.declared.Depths.{Depths}
use Rattle.answer.specs.Depths.{zeros, Item}
use Rattle.code.specs.Width.{width_of}
use Rattle.listing.specs.Starts.{Start}
use Rattle.machine.specs.Lists.{◌∈◌, NoRepeats, sum_of}
use Rattle.rules.specs.Edges.{after, edges, degree, targets}
use Rattle.rules.specs.Needs.{iterators_needed, handlers_needed, lacks, operands_needed, Able}
use Rattle.rules.specs.Script.{Script, tag_of}
use Rattle.demand.specs.Span.{Span, InChunk}

module _ (S : Script) (span : Span) where
  -- the depths written beside a place, if any are, and the clauses of the demand in its order
  pub record Writing : Type 0 where
    pub written : ℕ → Option Depths
    pub beside_starts : (p : ℕ) (d : Depths) → written p ≡ some d → InChunk S span p
    pub entry_zeros : written span.entry ≡ some zeros
    pub edges_agree : (p : ℕ) (d : Depths) → written p ≡ some d
        → (e : Item) → e ∈ edges S p d → written e.place ≡ some e.depths
    pub able : (p : ℕ) (d : Depths) → written p ≡ some d → Able S p d
    pub height_at : (p : ℕ) (d : Depths) → written p ≡ some d → d.operands ≤ span.declared
    pub height_after : (p : ℕ) (d : Depths) → written p ≡ some d → (after S p d).operands ≤ span.declared

  -- control can arrive at a place with these depths: it is the entry with zeros, or an edge leads there from an
  -- instruction of the chunk on a path, which has what it needs
  pub data Path : Item → Type 0 where
    enters : Path (record { place = span.entry; depths = zeros })
    follows : {i e : Item} → Path i → InChunk S span i.place → Able S i.place i.depths
        → e ∈ edges S i.place i.depths → Path e

  -- an operand depth at an instruction on a path, or just after it
  pub data DepthOnPath : ℕ → Type 0 where
    at : {i : Item} → Path i → InChunk S span i.place → DepthOnPath i.depths.operands
    just_after : {i : Item} → Path i → InChunk S span i.place → Able S i.place i.depths
        → DepthOnPath (after S i.place i.depths).operands

  -- a start on some path
  pub record OnPath (p : ℕ) : Type 0 where
    pub depths : Depths
    pub path : Path (record { place = p; depths = depths })
    pub start : InChunk S span p

  -- what an accepted chunk is answered with: the starts on some path, each once, with the edges out of them; the height
  pub record Measures (height reached taken : ℕ) : Type 0 where
    pub places : List ℕ
    pub no_repeats : NoRepeats places
    pub on_paths : (p : ℕ) → p ∈ places ↔ OnPath p
    pub counted : reached ≡ length places
    pub edges_out : taken ≡ 1 + sum_of (degree S) places
    pub attained : DepthOnPath height
    pub largest : (h : ℕ) → DepthOnPath h → h ≤ height

  -- an instruction of the chunk, with the depths that a path from the entry brings to it
  pub record Met (p : ℕ) (d : Depths) : Type 0 where
    pub path : Path (record { place = p; depths = d })
    pub inside : InChunk S span p

  -- the answer of a walk that is real: an instruction on a path fails the test, with these values
  pub data Real : Refusal → Type 0 where
    -- 4: it lacks these rights
    lacks_rights : {p : ℕ} {d : Depths} → Met p d → 0 < lacks S p → Real (Refusal.MissingCaps p (lacks S p))
    -- 9: it has what it needs, and names a target outside the chunk
    leaves : {p t : ℕ} {d : Depths} → Met p d → Able S p d → t ∈ targets S p → (t < span.entry) ⊎ (span.end ≤ t)
        → Real (Refusal.JumpOutOfRange p t)
    -- 10: it has what it needs, and names a target in the chunk at which no instruction starts
    splits : {p t : ℕ} {d : Depths} → Met p d → Able S p d → t ∈ targets S p → span.entry ≤ t → t < span.end
        → ¬ Start width_of S.code t → Real (Refusal.JumpIntoAnInstruction p t)
    -- 11: two paths bring different depths to it
    disagrees : {p : ℕ} {d e : Depths} → Met p d → Met p e → ¬ (d ≡ e) → Real (Refusal.DepthConflict p d e)
    -- 12: it has its rights, and needs more operands than there are
    underflows : {p : ℕ} {d : Depths} → Met p d → lacks S p ≡ 0 → d.operands < operands_needed S p
        → Real (Refusal.Underflow p (operands_needed S p) d.operands)
    -- 13: a path runs off the end
    runs_off : {i : Item} → Path i → span.end ≤ i.place → Real Refusal.FallsOffTheEnd
    -- 15, 16: it has its rights and its operands, and needs an iterator, or a handler, where there is none
    no_iterator : {p : ℕ} {d : Depths} → Met p d → lacks S p ≡ 0 → operands_needed S p ≤ d.operands
        → d.iterators < iterators_needed (tag_of S p) → Real (Refusal.IteratorUnderflow p)
    no_handler : {p : ℕ} {d : Depths} → Met p d → lacks S p ≡ 0 → operands_needed S p ≤ d.operands
        → d.handlers < handlers_needed (tag_of S p) → Real (Refusal.HandlerUnderflow p)

  -- 14: a whole walk refuses nothing, and the largest depth on the paths is above the declared height
  pub record Exceeds (a : Refusal) : Type 0 where
    pub height : ℕ
    pub reached : ℕ
    pub taken : ℕ
    pub measures : Measures height reached taken
    pub above : span.declared < height
    pub answer : a ≡ Refusal.StackExceedsDeclared height span.declared
