-- `opening::list_instruction` meets its contract. In each answer `n` tells that the count is that of the targets, and
-- `e` that the edges are these and the fall-through.
use native.Mathlib.Omega.{arith}
use Rattle.opening.proofs.Storing.{listed_without, listed_with}
use Rattle.opening.proofs.list_instruction.Goals as goal

pub returns-then-count-records : goal.returns-then-count-records
returns-then-count-records c =
    let n = c.target_count-count.ensures.count in
    let e = c.edge_count-edges.ensures _ c.flow.ensures in
    listed_with _ _ _ _ _ _ n (rw n at e) (omega (arith, n, c.requires.stored_in_bounds, c.if-count-records.true))
    (omega (arith, n)) c.store_targets.ensures

pub returns-else-count-records : goal.returns-else-count-records
returns-else-count-records c =
    let n = c.target_count-count.ensures.count in
    let e = c.edge_count-edges.ensures _ c.flow.ensures in
    listed_without _ _ _ _ _ _ n (rw n at e) (omega (arith, n, c.requires.stored_in_bounds, c.if-count-records.false))
