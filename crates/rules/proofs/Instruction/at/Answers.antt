-- `rules::Instruction::at` meets its contract: an instruction that has its width has its tag.
use Rattle.rules.proofs.Operands.{tag_there}
use Rattle.rules.proofs.Instruction.at.Goals as goal

pub bounds-script-at : goal.bounds-script-at
bounds-script-at c = tag_there _ _ c.requires
