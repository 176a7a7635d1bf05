-- `ruling::is_outside` meets its contract: a target that is not before the entry is left to the end.
use Rattle.ruling.proofs.Jump.{before_entry, by_end}
use Rattle.ruling.proofs.is_outside.Goals as goal

pub returns-then-target-entry : goal.returns-then-target-entry
returns-then-target-entry c = before_entry _ _ _ c.if-target-entry.true

pub returns-else-target-entry : goal.returns-else-target-entry
returns-else-target-entry c = by_end _ _ _ c.if-target-entry.false
