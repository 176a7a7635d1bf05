-- `rules::shapes::Flow::jumped` meets its contract: the flow tells what becomes of the depths at a target.
use borrow.Author.Rules.{rules}
use Rattle.rules.specs.declared.shapes.Flow.TheVariants.{IterNext, PushHandler}
use Rattle.rules.proofs.Flows.{jumped_flow, jumped_rest}
use Rattle.rules.proofs.shapes.Flow.jumped.Goals as goal

pub returns-in-IterNext : goal.returns-in-IterNext
returns-in-IterNext c = λ tag f. jumped_flow _ _ f IterNext c.in-IterNext.is

pub returns-in-PushHandler : goal.returns-in-PushHandler
returns-in-PushHandler c = λ tag f. jumped_flow _ _ f PushHandler c.in-PushHandler.is

pub returns-in_default : goal.returns-in_default
returns-in_default c = λ tag f. jumped_rest _ _ _ f (search rules) (search rules)
