-- The lent pools as the record that the definitions speak of.
use Rattle.pools.specs.Pools.{Pools}
use Rattle.pools.specs.declared.Pools as lent

abbrev pub pools_of : lent.Pools → Pools
pools_of p = record {
  constants = p.constants.now;
  names = p.names.now;
  tokens = p.tokens;
  op_assignments = p.op_assignments;
  chains = p.chains.now;
  steps = p.steps.now;
  switches = p.switches.now;
  cases = p.cases.now;
  ranges = p.ranges.now;
}
