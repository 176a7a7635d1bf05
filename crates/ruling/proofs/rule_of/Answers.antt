-- `ruling::rule_of` meets its contract: what is settled is the rule. A simple word says all that is settled from.
use mathlib.Core.Bool.{true}
use mathlib.Core.Path.{◌≡◌, sym, ◌∙◌}
use native.Mathlib.Omega.{arith}
use Rattle.pools.proofs.Most.{code_small}
use Rattle.rules.specs.Shapes.{simple}
use Rattle.rules.proofs.Amounts.{chain_entry_of}
use Rattle.rules.proofs.Simple.{simple_flow, simple_lacks}
use Rattle.ruling.proofs.Tests.{next_within, settles, rule_settled}
use Rattle.ruling.proofs.rule_of.Goals as goal

pub overflow_add-next : goal.overflow_add-next
overflow_add-next c =
    omega (arith, next_within _ _ c.args.instruction.now.wide c.width.ensures, c.requires.code_len_bound, code_small)

pub overflow_cast-next : goal.overflow_cast-next
overflow_cast-next c =
    omega (arith, next_within _ _ c.args.instruction.now.wide c.width.ensures, c.requires.code_len_bound, code_small)

-- a simple word
is : (c : goal.After-fixed_effect-effect) → simple c.args.instruction.now.word ≡ true
is c = sym c.is_simple.ensures ∙ c.if-is_simple.true

pub settle-requires : goal.settle-requires
settle-requires c =
    settles {chains = c.args.instruction.now.script.now.pools.chains.now} c.args.instruction.now.wide (simple_flow c.args.instruction.now.shape (is c))
    (c.fixed_effect-effect.ensures _ _ _ c.args.instruction.now.shape (is c) c.args.instruction.now.wide) c.requires.operands_bound c.requires.iterators_bound c.requires.handlers_bound

pub returns-then-is_simple : goal.returns-then-is_simple
returns-then-is_simple c =
    let simply : simple c.args.instruction.now.word ≡ true = sym c.is_simple.ensures ∙ c.if-is_simple.true in
    let shape = c.args.instruction.now.shape in
    λ entry declared.
    rule_settled _ _ _ _ (simple_lacks _ _ _ shape simply _ _ _) (c.fixed_effect-effect.ensures _ _ _ shape simply c.args.instruction.now.wide) c.width.ensures
    (c.settle.ensures _ (simple_flow shape simply))

-- any other
pub settle-requires-2 : goal.settle-requires-2
settle-requires-2 c =
    settles c.args.instruction.now.wide c.flow-flow.ensures c.effect-effect.ensures
    c.requires.operands_bound c.requires.iterators_bound c.requires.handlers_bound

pub returns : goal.returns
returns c =
    λ entry declared.
    rule_settled _ _ _ _ (rw c.required_caps-needed.ensures at c.lacking-missing.ensures) c.effect-effect.ensures
    c.width.ensures (c.settle-2.ensures _ c.flow-flow.ensures)

pub effect-effect-requires : goal.effect-effect-requires
effect-effect-requires c = chain_entry_of c.requires.has_chain
