-- What is known at any moment of a walk: the words are fit, and the bounds of theorem 1 hold. So no test at run time is needed
-- for room, and no depth overflows.
use mathlib.Core.List.{List, [], ◌∷◌}
use mathlib.Core.Path.{◌≡◌, refl}
use Prim.Native.Nat.{ℕ, ◌+◌, ◌*◌, ◌≤◌, ◌<◌}
use native.Mathlib.Omega.{arith}
use lib.ListN.{length}
use Rattle.code.specs.Width.{width_of}
use Rattle.listing.proofs.Before.{before_few}
use Rattle.demand.specs.BeforeWalk.{BeforeWalk}
use Rattle.demand.specs.Span.{Span, chunk_starts, E}
use Rattle.rules.specs.Edges.{degree}
use Rattle.machine.specs.Lists.{here}
use Rattle.demand.specs.Chunk.{machine}
use Rattle.rules.specs.Script.{Script}
use Rattle.demand.specs.Span as spans
use Rattle.machine.specs.Walk.{Book, unfinished, walk, Log, log}
use Rattle.machine.proofs.Ends.{Bounded}
use Rattle.demand.proofs.Inside.{inside}
use Rattle.demand.proofs.Keeps.{keeps_laws}
use Rattle.machine.proofs.Once.{item_inside}
use Rattle.machine.proofs.Sound.{sound_unfinished}
use Rattle.machine.proofs.Stores.{Tells, same_unfinished, store_bounded, store_roomy}
use Rattle.machine.proofs.Turn.{New}
use Rattle.words.specs.Stack.{items}
use Rattle.words.proofs.Items.{length_items}
use Rattle.walk.specs.declared.Hand.{Hand}
use Rattle.opening.specs.declared.Room.{Room}
use Rattle.walk.specs.Records.{seen_store}
use Rattle.walk.specs.Turn.{room_span, WalkAt}
use Rattle.walk.specs.Hand.{item_of, book_of}
use Rattle.walk.proofs.Store.{Fit, faithful, laid_fit, laid_empty}

module _ (S : Script) (room : Room) (records work : List ℕ) (B : BeforeWalk S (room_span room) (length records) (length work)) (h : Hand) (G : WalkAt S room h records work) where
  abbrev span : Span
  span = room_span room

  -- what the walk over the log knows of this moment
  over_log : (l : Book Log) × (walk (machine S span) log h.counts.taken [] ≡ unfinished (item_of h ∷ items work h.waiting) l) × Tells (machine S span) (seen_store S span) (Fit S span (length records)) (book_of h records) l
  over_log =
      same_unfinished (machine S span) (seen_store S span) (Fit S span (length records)) (faithful S span (length records) B.records_room)
      (laid_fit S span (length records) B.records_room) (laid_empty S span (length records) B.records_room) h.counts.taken G.ran

  pub fit : Fit S span (length records) records
  fit = over_log.2.fit

  -- an item before the end is at an instruction of the chunk
  pub in_chunk : h.place < span.end → spans.InChunk S span h.place
  in_chunk below =
      inside S span (item_inside (machine S span) (sound_unfinished (machine S span) (degree S) (keeps_laws S span B) h.counts.taken over_log.1).holds.once below)

  bounds : Bounded (E S span) (length (chunk_starts S span)) (item_of h ∷ items work h.waiting) (book_of h records)
  unfolding E
  bounds =
      store_bounded (machine S span) (seen_store S span) (Fit S span (length records)) (faithful S span (length records) B.records_room)
      (laid_fit S span (length records) B.records_room) (laid_empty S span (length records) B.records_room) h.counts.taken (keeps_laws S span B) G.ran

  -- what waits has its room, and so has every number
  pub record Small : Type 0 where
    pub waits : h.counts.taken + 1 + h.waiting ≤ 1 + E S span
    pub work_room : 4 * (1 + E S span) ≤ length work
    pub few : h.counts.reached ≤ length S.code
    pub operands : h.depths.operands ≤ h.counts.reached
    pub iterators : h.depths.iterators ≤ h.counts.reached
    pub handlers : h.depths.handlers ≤ h.counts.reached
    pub low : h.counts.height ≤ h.counts.reached

  pub small : Small
  small =
      let at_most = bounds.shallow (item_of h) (here refl) in
      record {
        waits = omega (arith, bounds.room, length_items work h.waiting);
        work_room = B.work_room;
        few = omega (arith, bounds.few, before_few width_of S.code span.end span.entry);
        operands = at_most.operands;
        iterators = at_most.iterators;
        handlers = at_most.handlers;
        low = bounds.low;
      }

  -- before a new item enters there is room for all its edges
  pub roomy : New (machine S span) (seen_store S span) (item_of h) (book_of h records) → h.counts.taken + 1 + h.waiting + degree S h.place ≤ 1 + E S span
  unfolding E
  roomy new =
      let r = store_roomy (machine S span) (seen_store S span) (Fit S span (length records)) (faithful S span (length records) B.records_room)
      (laid_fit S span (length records) B.records_room) (laid_empty S span (length records) B.records_room) h.counts.taken (keeps_laws S span B) G.ran new in
      omega (arith, r.room, length_items work h.waiting)
