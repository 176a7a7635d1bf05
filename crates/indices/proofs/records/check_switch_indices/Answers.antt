-- `indices::records::check_switch_indices` meets its contract: a switch names what its cases name.
use native.Mathlib.Omega.{arith}
use Rattle.std.proofs.Common.{rules}
use Rattle.pools.specs.Pools.{case_at, switch_at}
use Rattle.indices.specs.Indices.{case_refs, switch_refs}
use Rattle.indices.proofs.InTurn.{each_found}
use Rattle.indices.proofs.records.check_switch_indices.Goals as goal

pub check_each-requires : goal.check_each-requires
unfolding switch_at
check_each-requires c = λ i h. omega (arith, c.requires.cases_within)

pub returns : goal.returns
unfolding switch_at switch_refs
returns c =
    each_found (case_at c.args.cases.now) case_refs _ _ _ (c.check_each.ensures _ _ (λ i r h p. search rules))
