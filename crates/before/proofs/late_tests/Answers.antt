-- `before::late_tests` meets its contract: a test that passes leaves the answer to the next, and a refusal leaves no
-- mark.
use Rattle.std.proofs.Common.{rules}
use Rattle.before.specs.Before.{late_tests}
use Rattle.before.proofs.Held.{refuses, passes, pass_refuses, pass_settled}
use Rattle.before.proofs.late_tests.Goals as goal

pub returns-in_err-settle : goal.returns-in_err-settle
unfolding late_tests
returns-in_err-settle c = refuses _ _ c.check_constants.ensures c.in_err-settle.ensures (search rules)

pub returns-in_err-first_pass : goal.returns-in_err-first_pass
unfolding late_tests
returns-in_err-first_pass c =
    passes _ _ c.check_constants.ensures c.in_ok-settle.ensures (
    pass_refuses _ _ _ (rw (c.from.ensures, c.sizes.ensures) at c.in_err-first_pass.ensures) (search rules))

pub returns : goal.returns
unfolding late_tests
returns c =
    passes _ _ c.check_constants.ensures c.in_ok-settle.ensures (
    pass_settled _ _ (rw (c.from.ensures, c.sizes.ensures) at c.in_ok-first_pass.ensures) c.check_function.ensures
    c.settle-2.ensures)
