-- `opening::store_targets` meets its contract.
use mathlib.Core.Path.{sym, ◌∙◌}
use native.Mathlib.Omega.{arith}
use Rattle.std.proofs.lemmas.List.{take_all}
use Rattle.opening.proofs.store_targets.Goals as goal

pub returns : goal.returns
returns c =
    sym (take_all _ _ (omega (arith, c.loop-k.auto.slots, c.loop-k-test.false)))
    ∙ c.loop-k.invariant
    ∙ take_all _ _ (omega (arith, c.requires.as_many, c.loop-k-test.false))
