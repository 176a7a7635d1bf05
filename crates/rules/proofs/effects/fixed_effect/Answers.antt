-- `rules::effects::fixed_effect` meets its contract: a simple word has no count, and is no CHAIN's.
use Rattle.rules.proofs.Simple.{simple_acts}
use Rattle.rules.proofs.effects.fixed_effect.Goals as goal

pub returns : goal.returns
returns c = λ code chains at shape is wide. rw c.counted.ensures (simple_acts code chains at shape is wide)
