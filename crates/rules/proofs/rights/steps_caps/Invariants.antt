-- `rules::rights::steps_caps` meets its contract. The loop's invariant: the steps from `i` on are joined.
use Rattle.rules.proofs.Joined.{Rest}
use Rattle.rules.proofs.rights.steps_caps.Given as goal

abbrev pub invariant-loop-i : goal.invariant-loop-i
invariant-loop-i l = Rest l.steps l.first l.count l.joined l.i
