-- `before::check_constants` meets its contract: the constants before the one at hand are granted.
use Rattle.before.proofs.Constants.{Granted}
use Rattle.before.proofs.check_constants.Given as goal

abbrev pub invariant-loop-constant : goal.invariant-loop-constant
invariant-loop-constant l = Granted l.rights l.constants l.constant-index
