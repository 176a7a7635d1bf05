-- `rules::rights::chain_caps` meets its contract: the words of the entry are the chain's, and its steps are in their
-- table.
use Rattle.pools.specs.Pools.{chain_at}
use Rattle.rules.proofs.Joined.{this_root, other_root}
use Rattle.rules.proofs.rights.chain_caps.Goals as goal

pub steps_caps-joined-requires : goal.steps_caps-joined-requires
unfolding chain_at
steps_caps-joined-requires c = c.requires.within

pub returns-then-root-eq2 : goal.returns-then-root-eq2
returns-then-root-eq2 c = this_root _ _ _ _ c.steps_caps-joined.ensures c.if-root-eq2.true

pub returns-else-root-eq2 : goal.returns-else-root-eq2
returns-else-root-eq2 c = other_root _ _ _ _ c.steps_caps-joined.ensures c.if-root-eq2.false
