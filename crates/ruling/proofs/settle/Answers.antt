-- `ruling::settle` meets its contract: the tests decide, or else the way on is left to say.
use Rattle.ruling.proofs.Tests.{enough, held_by, pops_there, pushes_fit, stops, goes_on}
use Rattle.std.proofs.lemmas.Result.{err_from_is_err_and}
use Rattle.ruling.proofs.settle.Goals as goal

pub returns-in_err-check_needs : goal.returns-in_err-check_needs
returns-in_err-check_needs c =
    let p = err_from_is_err_and c.from_residual.result c.from_residual.ensures.1 in
    λ tag f. rw (p.1, p.2) (stops _ (c.check_needs.ensures tag f) c.in_err-check_needs.was)

pub leave-requires : goal.leave-requires
leave-requires c =
    let there = enough _ _ _ _ _ (c.check_needs.ensures c.requires.tag c.requires.flows) c.in_ok-check_needs.was in
    record {
      held_by = held_by c.requires there;
      pops_le_operands = pops_there c.requires there;
      pushes_bound = pushes_fit c.requires there;
    }

pub returns : goal.returns
returns c =
    λ tag f. rw (← c.leave.ensures tag f) (goes_on _ (c.check_needs.ensures tag f) c.in_ok-check_needs.was)
