-- `guards::has_switch` meets its contract: its tests are those of the definition, in the same order.
use mathlib.Core.Path.{◌∙◌, sym}
use native.Mathlib.Omega.{arith}
use Rattle.rules.proofs.Operands.{tag_there, switch_there}
use Rattle.guards.proofs.Found.{no_switch_asked, switch_past, cases_past, switch_within}
use Rattle.guards.proofs.has_switch.Goals as goal

pub bounds-code-at : goal.bounds-code-at
bounds-code-at c = tag_there _ _ c.requires

pub returns-then-code-at-ne-SWITCH : goal.returns-then-code-at-ne-SWITCH
returns-then-code-at-ne-SWITCH c = no_switch_asked _ _ _ _ _ c.if-code-at-ne-SWITCH.true

pub overflow_add-at : goal.overflow_add-at
overflow_add-at c = omega (arith, switch_there _ _ c.requires c.if-code-at-ne-SWITCH.false)

pub read-i-requires : goal.read-i-requires
read-i-requires c = omega (arith, switch_there _ _ c.requires c.if-code-at-ne-SWITCH.false)

pub returns-then-switches-i : goal.returns-then-switches-i
returns-then-switches-i c =
    switch_past _ _ _ _ _ c.if-code-at-ne-SWITCH.false _ c.read-i.ensures c.if-switches-i.true

pub returns-then-lie_within : goal.returns-then-lie_within
returns-then-lie_within c =
    c.lie_within-then-lie_within.ensures
    ∙ switch_within _ _ _ _ _ c.if-code-at-ne-SWITCH.false _ c.read-i.ensures c.if-switches-i.false
    (sym c.lie_within.ensures ∙ c.if-lie_within.true)

pub returns-else-lie_within : goal.returns-else-lie_within
returns-else-lie_within c =
    c.if-lie_within.false
    ∙ cases_past _ _ _ _ _ c.if-code-at-ne-SWITCH.false _ c.read-i.ensures c.if-switches-i.false
    (sym c.lie_within.ensures ∙ c.if-lie_within.false)
