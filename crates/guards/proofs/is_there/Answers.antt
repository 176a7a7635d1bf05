-- `guards::is_there` meets its contract: its tests are those of the definition, in the same order.
use mathlib.Core.Path.{◌∙◌, sym}
use Rattle.guards.specs.Guards.{is_there}
use Rattle.guards.proofs.Ready.{wide_of}
use Rattle.guards.proofs.is_there.Goals as goal

pub has_name-requires : goal.has_name-requires
has_name-requires c = wide_of _ _ (sym c.has_width.ensures ∙ c.if-has_width.true)

pub has_chain-requires : goal.has_chain-requires
has_chain-requires c = wide_of _ _ (sym c.has_width.ensures ∙ c.if-has_width.true)

pub has_switch-requires : goal.has_switch-requires
has_switch-requires c = wide_of _ _ (sym c.has_width.ensures ∙ c.if-has_width.true)

pub returns-then-has_chain : goal.returns-then-has_chain
unfolding is_there
returns-then-has_chain c =
    simp (
      sym c.has_width.ensures ∙ c.if-has_width.true,
      sym c.has_name.ensures ∙ c.if-has_name.true,
      sym c.has_chain.ensures ∙ c.if-has_chain.true,
    ) c.has_switch.ensures

pub returns-else-has_chain : goal.returns-else-has_chain
unfolding is_there
returns-else-has_chain c =
    c.if-has_chain.false
    ∙ simp (
      sym c.has_width.ensures ∙ c.if-has_width.true,
      sym c.has_name.ensures ∙ c.if-has_name.true,
      sym c.has_chain.ensures ∙ c.if-has_chain.false,
    )

pub returns-else-has_name : goal.returns-else-has_name
unfolding is_there
returns-else-has_name c =
    c.if-has_name.false
    ∙ simp (sym c.has_width.ensures ∙ c.if-has_width.true, sym c.has_name.ensures ∙ c.if-has_name.false)

pub returns-else-has_width : goal.returns-else-has_width
unfolding is_there
returns-else-has_width c = c.if-has_width.false ∙ simp (sym c.has_width.ensures ∙ c.if-has_width.false)
