-- `rules::rights::steps_caps` meets its contract. The loop's invariant: the steps from `i` on are joined.
use native.Mathlib.Omega.{arith}
use Rattle.rules.proofs.Joined.{none_joined, one_joined, all_joined}
use Rattle.rules.proofs.rights.steps_caps.Goals as goal

pub loop-i-init : goal.loop-i-init
loop-i-init c = none_joined _ _ _

pub loop-i-preserved : goal.loop-i-preserved
loop-i-preserved c = one_joined _ _ _ c.loop-i.invariant c.loop-i-test.true _ c.step_caps-joined.ensures

pub returns : goal.returns
returns c = all_joined _ _ _ c.loop-i.invariant (omega arith)
