-- `indices::records::check_each` meets its contract: what is left to find is what there was to find from the first.
use native.Mathlib.Omega.{arith}
use Rattle.indices.specs.Checks.{checked_by}
use Rattle.indices.proofs.InTurn.{starts, next, bad_here, done}
use Rattle.indices.proofs.records.check_each.Goals as goal

pub loop-entry-init : goal.loop-entry-init
loop-entry-init g c = λ size named is. starts _ _ _ _ _

pub returns-in_err-check : goal.returns-in_err-check
returns-in_err-check g c = λ size named is.
    let turn = c.loop-entry.invariant size named is in
    bad_here _ _ _ turn c.loop-entry-test.true _ _ (is _ _ (omega (arith, turn.ends)) c.in_err-check.ensures)
    c.from_residual.ensures

pub loop-entry-preserved : goal.loop-entry-preserved
loop-entry-preserved g c = λ size named is.
    let turn = c.loop-entry.invariant size named is in
    next _ _ _ turn c.loop-entry-test.true _ (is _ _ (omega (arith, turn.ends)) c.in_ok-check.ensures)

pub returns : goal.returns
unfolding checked_by
returns g c = λ size named is. done _ _ _ (c.loop-entry.invariant size named is) c.loop-entry-test.false
