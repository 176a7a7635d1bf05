-- `rules::shapes::Flow::after` meets its contract: the flow tells what becomes of the depths.
use borrow.Author.Rules.{rules}
use Rattle.rules.specs.declared.shapes.Flow.TheVariants.{IterInit, IterDrop, PushHandler, PopHandler}
use Rattle.rules.proofs.Flows.{after_flow, after_rest}
use Rattle.rules.proofs.shapes.Flow.after.Goals as goal

pub returns-in-IterInit : goal.returns-in-IterInit
returns-in-IterInit c = λ tag f. after_flow _ _ _ f IterInit c.in-IterInit.is

pub returns-in-IterDrop : goal.returns-in-IterDrop
returns-in-IterDrop c = λ tag f. after_flow _ _ _ f IterDrop c.in-IterDrop.is

pub returns-in-PushHandler : goal.returns-in-PushHandler
returns-in-PushHandler c = λ tag f. after_flow _ _ _ f PushHandler c.in-PushHandler.is

pub returns-in-PopHandler : goal.returns-in-PopHandler
returns-in-PopHandler c = λ tag f. after_flow _ _ _ f PopHandler c.in-PopHandler.is

pub returns-in_default : goal.returns-in_default
returns-in_default c =
    λ tag f. after_rest _ _ _ _ f (search rules) (search rules) (search rules) (search rules)
