-- `opening::check_room` meets its contract.
use mathlib.Core.Path.{◌∙◌}
use Rattle.answer.specs.Answer.{told}
use Rattle.std.proofs.lemmas.Result.{err_from_is_err_and}
use Rattle.opening.proofs.Tests.{no_records, records_there}
use Rattle.opening.proofs.check_room.Goals as goal

pub returns-in_err-enough : goal.returns-in_err-enough
unfolding told
returns-in_err-enough c =
    let p = err_from_is_err_and c.from_residual.result c.from_residual.ensures.1 in
    rw (p.1, p.2) (no_records _ _ _ _ (c.in_err-enough.ensures))

pub returns : goal.returns
unfolding told
returns c = c.enough-2.ensures ∙ records_there _ _ _ _ (c.in_ok-enough.ensures)
