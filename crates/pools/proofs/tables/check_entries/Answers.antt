-- `pools::tables::check_entries` meets its contract: the entries before the one at hand are good.
use mathlib.Core.Path.{sym, ◌∙◌}
use Rattle.pools.specs.Answers.{tables_told}
use Rattle.pools.proofs.First.{one_more, at_bad, past_last}
use Rattle.pools.proofs.tables.check_entries.Goals as goal

pub returns-then-is_bad : goal.returns-then-is_bad
unfolding tables_told
returns-then-is_bad g c = λ bad is.
    at_bad (c.loop-entry.invariant bad is) c.loop-entry-test.true
    (sym (is _ _ c.loop-entry-test.true c.is_bad.ensures) ∙ c.if-is_bad.true)

pub loop-entry-preserved : goal.loop-entry-preserved
loop-entry-preserved g c = λ bad is.
    one_more (c.loop-entry.invariant bad is) c.loop-entry-test.true
    (sym (is _ _ c.loop-entry-test.true c.is_bad.ensures) ∙ c.if-is_bad.false)

pub returns : goal.returns
unfolding tables_told
returns g c = λ bad is. past_last (c.loop-entry.invariant bad is) c.loop-entry-test.false
