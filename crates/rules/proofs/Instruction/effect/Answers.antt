-- `rules::Instruction::effect` meets its contract: a CHAIN's operands stand in its table, any other's effect in its
-- tag's word.
use mathlib.Core.Path.{ap}
use Prim.Native.Nat.{ℕ, ◌+◌, ◌*◌}
use native.Mathlib.Omega.{arith}
use lib.ListN.{get_or}
use Rattle.pools.specs.Pools.{chain_at}
use Rattle.rules.specs.FromLists.{script_of}
use Rattle.rules.proofs.Amounts.{chain_acts, word_acts, chain_entry}
use Rattle.rules.proofs.Operands.{tag_there, chain_there}
use Rattle.rules.proofs.Instruction.effect.Goals as goal

pub bounds-script-self : goal.bounds-script-self
bounds-script-self c = tag_there _ _ c.args.self.now.wide

pub index-i-requires : goal.index-i-requires
index-i-requires c = chain_there _ _ c.args.self.now.wide c.if-script-self-eq-CHAIN.true

pub bounds-script-i : goal.bounds-script-i
bounds-script-i c =
    let S = script_of c.args.self.now.script.now in
    omega (arith, chain_entry S _ c.requires c.if-script-self-eq-CHAIN.true _ c.index-i.ensures)

pub returns-then-script-self-eq-CHAIN : goal.returns-then-script-self-eq-CHAIN
unfolding chain_at
returns-then-script-self-eq-CHAIN c =
    chain_acts _ _ _ c.if-script-self-eq-CHAIN.true _
    (ap (λ (i : ℕ). get_or c.args.self.now.script.now.pools.chains.now (i * 7 + 2) 0) c.index-i.ensures)

pub returns : goal.returns
returns c =
    rw c.counted.ensures
    (word_acts _ _ _ c.if-script-self-eq-CHAIN.false _ c.args.self.now.shape _ c.count_at.ensures)
