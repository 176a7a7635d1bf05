-- `rules::edges::arm` meets its contract: the words of the entry are the switch's, and its cases and ranges are in
-- their tables.
use native.Mathlib.Omega.{arith}
use Rattle.pools.specs.Pools.{switch_at, case_at}
use Rattle.rules.proofs.Arms.{case_arm, range_arm, default_arm}
use Rattle.rules.proofs.edges.arm.Goals as goal

pub bounds-pools-case : goal.bounds-pools-case
unfolding switch_at
bounds-pools-case c = omega (arith, c.requires.switch_whole.cases_within)

pub returns-then-k-case_count : goal.returns-then-k-case_count
unfolding switch_at case_at
returns-then-k-case_count c = case_arm _ _ (switch_at c.args.pools.now.switches.now c.args.i) _ c.if-k-case_count.true

pub bounds-pools-range : goal.bounds-pools-range
unfolding switch_at
bounds-pools-range c = omega (arith, c.requires.switch_whole.ranges_within)

pub returns-then-past-range_count : goal.returns-then-past-range_count
unfolding switch_at
returns-then-past-range_count c =
    range_arm _ _ (switch_at c.args.pools.now.switches.now c.args.i) _ c.if-k-case_count.false
    c.if-past-range_count.true

pub returns : goal.returns
unfolding switch_at
returns c =
    default_arm _ _ (switch_at c.args.pools.now.switches.now c.args.i) _ c.if-k-case_count.false
    c.if-past-range_count.false c.requires.k_in_bounds
