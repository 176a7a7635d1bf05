-- `guards::has_chain` meets its contract: its tests are those of the definition, in the same order.
use mathlib.Core.Path.{◌∙◌}
use native.Mathlib.Omega.{arith}
use Rattle.rules.proofs.Operands.{tag_there, chain_there}
use Rattle.guards.proofs.Found.{no_chain_asked, chain_past, chain_within}
use Rattle.guards.proofs.has_chain.Goals as goal

pub bounds-code-at : goal.bounds-code-at
bounds-code-at c = tag_there _ _ c.requires

pub returns-then-code-at-ne-CHAIN : goal.returns-then-code-at-ne-CHAIN
returns-then-code-at-ne-CHAIN c = no_chain_asked _ _ _ _ c.if-code-at-ne-CHAIN.true

pub overflow_add-at : goal.overflow_add-at
overflow_add-at c = omega (arith, chain_there _ _ c.requires c.if-code-at-ne-CHAIN.false)

pub read-i-requires : goal.read-i-requires
read-i-requires c = omega (arith, chain_there _ _ c.requires c.if-code-at-ne-CHAIN.false)

pub returns-then-chains-i : goal.returns-then-chains-i
returns-then-chains-i c = chain_past _ _ _ _ c.if-code-at-ne-CHAIN.false _ c.read-i.ensures (omega arith)

pub returns : goal.returns
returns c =
    c.lie_within.ensures
    ∙ chain_within _ _ _ _ c.if-code-at-ne-CHAIN.false _ c.read-i.ensures c.if-chains-i.false
