-- `judging::judge_spans` meets its contract: the loop over the chunks, and within it the loop over the items of one.
use mathlib.Core.List.{List}
use mathlib.Core.Path.{◌≡◌, refl, sym, ap, ◌∙◌}
use Prim.Native.Nat.{ℕ, ◌≤◌, ◌<◌}
use native.Mathlib.Omega.{arith}
use lib.ListN.{length, replicate, length-replicate}
use Rattle.std.specs.Prelude.{min}
use Rattle.answer.specs.declared.Refusal.{Refusal}
use Rattle.opening.proofs.Passed.{marked}
use Rattle.opening.specs.declared.Room.{Room}
use Rattle.opening.specs.Opens.{Readies, Refuses}
use Rattle.pools.proofs.Most.{code_small, room_small}
use Rattle.rules.specs.Script.{Script}
use Rattle.demand.specs.Span.{Span}
use Rattle.demand.proofs.Demand.{fails_by, passes_to, judged_shut}
use Rattle.judging.specs.Spans.{spans_of}
use Rattle.judging.proofs.Chain.{span_count, span_there, judging_done}
use Rattle.judging.proofs.Chain.{judging_fails, judging_passes}
use Rattle.judging.proofs.Walking.{few_edges, records_long, work_long, opened_rises, opened_keys}
use Rattle.judging.proofs.Walking.{first_walking_here, judged_here, lent, walking_on, few_taken}
use Rattle.judging.proofs.Walking.{waits_within, stopped_zero, stopped_judged, ended_judged, ended_few}
use Rattle.judging.proofs.Walking.{ended_records, ended_work, closed_well, closed_above}
use Rattle.judging.proofs.judge_spans.Goals as goal

-- the least length is the number of spans: a chunk is left, or none
module _ (entries ends declared : List ℕ) {count at : ℕ}
    (least : count ≡ min (length entries) (min (length ends) (length declared))) where
  more : at < count → at < length (spans_of entries ends declared)
  more h = omega (arith, span_count entries ends declared)

  no_more : count ≤ at → length (spans_of entries ends declared) ≤ at
  no_more h = omega (arith, span_count entries ends declared)

zeros_long : {words : List ℕ} {n : ℕ} → words ≡ replicate n 0 → length words ≡ n
zeros_long {n = n} e = ap length e ∙ length-replicate n 0

-- what opening came to, said of as many words as the call was lent
module _ {S : Script} {span : Span} {words rooms : ℕ} {before waiting records work : List ℕ}
    (e : before ≡ replicate words 0) (f : waiting ≡ replicate rooms 0) where
  readied : {room : Room} → Readies S span (length before) (length waiting) room records work
      → Readies S span words rooms room records work
  readied o = rw (zeros_long e, zeros_long f) at o

  refused : {a : Refusal} → Refuses S span (length before) (length waiting) a records work
      → Refuses S span words rooms a records work
  refused o = rw (zeros_long e, zeros_long f) at o

pub first_item-hand-requires-clause-keys_in_bounds : goal.first_item-hand-requires-clause-keys_in_bounds
first_item-hand-requires-clause-keys_in_bounds c =
    let o = readied c.loop-at.invariant.records_zero c.loop-at.invariant.work_zero (c.in-Ok.ensures 0) in
    opened_keys _ c.args.checked.now.ready _ _ o

pub first_item-hand-requires-clause-rising : goal.first_item-hand-requires-clause-rising
first_item-hand-requires-clause-rising c =
    let o = readied c.loop-at.invariant.records_zero c.loop-at.invariant.work_zero (c.in-Ok.ensures 0) in
    opened_rises _ c.args.checked.now.ready _ _ o

pub items-init : goal.items-init
items-init c =
    let o = readied c.loop-at.invariant.records_zero c.loop-at.invariant.work_zero (c.in-Ok.ensures 0) in
    let R = c.args.checked.now.ready in
    rw (records_long _ R _ _ o, work_long _ R _ _ o) at (first_walking_here _ R _ _ o c.first_item-hand.ensures)

pub items-smaller : goal.items-smaller
items-smaller c =
    let on = walking_on c.items.invariant (rw c.in-Next.is at c.in-Ok-take_item.ensures)
    (omega (arith, c.items.invariant.records_long)) (omega (arith, c.items.invariant.work_long)) in
    omega (arith, on.1, few_taken c.items.invariant)

pub items-preserved : goal.items-preserved
items-preserved c =
    let on = walking_on c.items.invariant (rw c.in-Next.is at c.in-Ok-take_item.ensures)
    (omega (arith, c.items.invariant.records_long)) (omega (arith, c.items.invariant.work_long)) in
    on.0

pub abandon-requires-clause-waiting_in_bounds : goal.abandon-requires-clause-waiting_in_bounds
abandon-requires-clause-waiting_in_bounds c =
    omega (arith, waits_within c.items.invariant, c.items.invariant.work_long)

pub close_chunk-closed-requires-clause-chunk_in_bounds : goal.close_chunk-closed-requires-clause-chunk_in_bounds
close_chunk-closed-requires-clause-chunk_in_bounds c =
    let left = more c.args.entries.now c.args.ends.now _ c.least-count.ensures c.loop-at-test.true in
    omega (arith, left, c.requires.declared_in_bounds, c.loop-at.invariant.long)

pub overflow_add-reached : goal.overflow_add-reached
overflow_add-reached c =
    let left = more c.args.entries.now c.args.ends.now _ c.least-count.ensures c.loop-at-test.true in
    let few = ended_few c.items.invariant (rw c.in-Done.is at c.in-Ok-take_item.ensures) in
    let R = c.args.checked.now.ready in
    let all = c.loop-at.invariant.few_reached in
    omega (arith, code_small, few.reached, R.listable.small, all, left, c.requires.declared_len_bound)

pub overflow_add-taken : goal.overflow_add-taken
overflow_add-taken c =
    let left = more c.args.entries.now c.args.ends.now _ c.least-count.ensures c.loop-at-test.true in
    let few = ended_few c.items.invariant (rw c.in-Done.is at c.in-Ok-take_item.ensures) in
    let edges = few_edges _ c.args.checked.now.ready _ (lent c.items.invariant) in
    let all = c.loop-at.invariant.few_taken in
    omega (arith, room_small, few.taken, edges, all, left, c.requires.declared_len_bound)

pub loop-at-preserved : goal.loop-at-preserved
loop-at-preserved c =
    let I = c.loop-at.invariant in
    let W = c.items.invariant in
    let R = c.args.checked.now.ready in
    let left = more c.args.entries.now c.args.ends.now _ c.least-count.ensures c.loop-at-test.true in
    let o = readied I.records_zero I.work_zero (c.in-Ok.ensures 0) in
    let ended = rw c.in-Done.is at c.in-Ok-take_item.ensures in
    let closed = closed_well c.close_chunk-closed.ensures c.in_default.is in
    let few = ended_few W ended in
    judging_passes _ _ _ _ _ _ I left (span_there _ _ _ _ left)
    (sym (judged_here _ R _ _ o _) ∙ ended_judged W ended _ ∙ passes_to _ closed.low)
    (omega (arith, code_small, few.reached, R.listable.small))
    (omega (arith, room_small, few.taken, few_edges _ R _ (lent W))) closed.stored
    (ended_records W ended (omega (arith, W.records_long)) c.close_chunk-closed.ensures.records_zeroed)
    (ended_work W ended (omega (arith, W.work_long)))

pub returns-in-Err : goal.returns-in-Err
returns-in-Err c =
    let I = c.loop-at.invariant in
    let left = more c.args.entries.now c.args.ends.now _ c.least-count.ensures c.loop-at-test.true in
    let shut = refused I.records_zero I.work_zero (c.in-Err.ensures _) in
    judging_fails _ _ _ _ _ _ I left (span_there _ _ _ _ left) (judged_shut _ _ _ _ shut.tested) refl
    shut.records_cleared shut.work_cleared

pub returns-in-Err-take_item : goal.returns-in-Err-take_item
returns-in-Err-take_item c =
    let I = c.loop-at.invariant in
    let left = more c.args.entries.now c.args.ends.now _ c.least-count.ensures c.loop-at-test.true in
    let o = readied I.records_zero I.work_zero (c.in-Ok.ensures 0) in
    let stopped = c.in-Err-take_item.ensures in
    let zero = stopped_zero c.items.invariant stopped.same_records stopped.same_work c.abandon.ensures in
    judging_fails _ _ _ _ _ _ I left (span_there _ _ _ _ left)
    (sym (judged_here _ c.args.checked.now.ready _ _ o _) ∙ stopped_judged c.items.invariant stopped.turned _)
    refl zero.0 zero.1

pub returns-in-Err-closed : goal.returns-in-Err-closed
returns-in-Err-closed c =
    let I = c.loop-at.invariant in
    let W = c.items.invariant in
    let left = more c.args.entries.now c.args.ends.now _ c.least-count.ensures c.loop-at-test.true in
    let o = readied I.records_zero I.work_zero (c.in-Ok.ensures 0) in
    let ended = rw c.in-Done.is at c.in-Ok-take_item.ensures in
    let above = closed_above c.close_chunk-closed.ensures c.in-Err-closed.is in
    judging_fails _ _ _ _ _ _ I left (span_there _ _ _ _ left)
    (sym (judged_here _ c.args.checked.now.ready _ _ o _) ∙ ended_judged W ended _ ∙ fails_by _ above.high) above.kept
    (ended_records W ended (omega (arith, W.records_long)) c.close_chunk-closed.ensures.records_zeroed)
    (ended_work W ended (omega (arith, W.work_long)))

pub returns-after-loop-at : goal.returns-after-loop-at
returns-after-loop-at c =
    judging_done _ _ _ _ _ _ c.loop-at.invariant
    (no_more c.args.entries.now c.args.ends.now _ c.least-count.ensures (omega (arith, c.loop-at-test.false)))

pub open_span-requires-clause-marked : goal.open_span-requires-clause-marked
open_span-requires-clause-marked c = marked c.args.checked.now.marked
