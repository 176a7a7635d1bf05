-- `words::stack::item_at` meets its contract: four words read.
use mathlib.Core.Path.{refl}
use Rattle.words.specs.Stack.{item_at}
use Rattle.words.proofs.stack.item_at.Goals as goal

pub returns : goal.returns
unfolding item_at
returns c = refl
