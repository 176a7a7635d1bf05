-- `before::first_pass` meets its contract: all of the code is passed over cleared marks.
use Rattle.before.proofs.Held.{over_zeros}
use Rattle.before.proofs.first_pass.Goals as goal

pub returns : goal.returns
returns c = over_zeros _ _ c.clear.ensures c.mark_all-outcome.ensures c.settle.ensures
