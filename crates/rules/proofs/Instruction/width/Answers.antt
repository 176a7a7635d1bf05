-- `rules::Instruction::width` meets its contract: the width is a digit of the word.
use mathlib.Core.Path.{◌∙◌}
use Rattle.rules.proofs.Operands.{width_here}
use Rattle.rules.proofs.Instruction.width.Goals as goal

pub returns : goal.returns
returns c = c.width_in.ensures _ c.args.self.now.shape ∙ width_here _ _ c.args.self.now.wide
