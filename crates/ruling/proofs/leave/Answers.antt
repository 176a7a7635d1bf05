-- `ruling::leave` meets its contract: nothing is left to go to, or the edges are those of the tag.
use mathlib.Core.Logic.{inl, inr}
use Rattle.ruling.proofs.Tests.{falls_off, goes}
use Rattle.ruling.proofs.leave.Goals as goal
use Rattle.ruling.proofs.leave.Goals.{else-plain-via-then-plain+else-end-next, else-plain-via-else-plain}

pub returns-then-end-next : goal.returns-then-end-next
returns-then-end-next c = λ tag f. falls_off _ _ _ _ _ _ (c.plain.ensures tag f) c.if-plain.true c.if-end-next.true

-- it is not plain, or the next place is before the end
pub returns : goal.returns
returns c =
    λ tag f. goes _ _ _ _ _ _ (c.plain.ensures tag f)
    (elim c.else-plain.branch [
      | else-plain-via-then-plain+else-end-next w ↦ inr w.if-end-next.false
      | else-plain-via-else-plain w ↦ inl w.if-plain.false
    ])
    (c.after-after.ensures tag f) (c.jumped-jumped.ensures tag f) (c.falls-falls.ensures tag f)
