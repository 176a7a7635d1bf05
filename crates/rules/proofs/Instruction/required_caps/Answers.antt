-- `rules::Instruction::required_caps` meets its contract: the rights in the tag's word say all, or a name decides, or
-- a chain does.
use mathlib.Core.Path.{ap, ◌∙◌, sym, subst}
use Prim.Native.Nat.{ℕ}
use native.Mathlib.Omega.{arith}
use borrow.Author.Rules.{rules}
use Rattle.pools.specs.Pools.{chain_at}
use Rattle.rules.specs.Rights.{of_name, of_chain}
use Rattle.rules.specs.There.{ChainWhole}
use Rattle.rules.specs.FromLists.{script_of}
use Rattle.rules.proofs.Joined.{word_rights, name_index, named_there, name_rights, chain_index, chained_there}
use Rattle.rules.proofs.Joined.{chain_rights}
use Rattle.rules.proofs.Instruction.required_caps.Goals as goal

pub returns-in-0 : goal.returns-in-0
returns-in-0 c =
    word_rights (script_of c.args.self.now.script.now) _ (c.asks_of-asked.ensures _ c.args.self.now.shape) c.in-0.is

pub index-requires : goal.index-requires
index-requires c =
    name_index (script_of c.args.self.now.script.now) _ (c.asks_of-asked.ensures _ c.args.self.now.shape) c.in-1.is
    c.args.self.now.wide

pub name_caps-requires : goal.name_caps-requires
name_caps-requires c =
    let asks = c.asks_of-asked.ensures _ c.args.self.now.shape in
    omega (
      arith,
      c.index.ensures,
      named_there (script_of c.args.self.now.script.now) _ asks c.in-1.is c.requires.has_name,
    )

pub returns-in-1 : goal.returns-in-1
returns-in-1 c =
    name_rights (script_of c.args.self.now.script.now) _ (c.asks_of-asked.ensures _ c.args.self.now.shape) c.in-1.is _
    (c.name_caps.ensures ∙ ap (λ (i : ℕ). of_name c.args.self.now.script.now.pools.names.now i) c.index.ensures)

pub index-requires-in_default : goal.index-requires-in_default
index-requires-in_default c =
    chain_index (script_of c.args.self.now.script.now) _ (c.asks_of-asked.ensures _ c.args.self.now.shape)
    (search rules) (search rules) c.args.self.now.wide

pub chain_caps-requires : goal.chain_caps-requires
chain_caps-requires c =
    let pools = c.args.self.now.script.now.pools in
    subst (λ (i : ℕ). ChainWhole pools.chains.now pools.steps.now i) (sym c.index-in_default.ensures)
    (chained_there (script_of c.args.self.now.script.now) _ (c.asks_of-asked.ensures _ c.args.self.now.shape)
    (search rules) (search rules) c.requires.has_chain)

pub returns-in_default : goal.returns-in_default
returns-in_default c =
    let pools = c.args.self.now.script.now.pools in
    chain_rights (script_of c.args.self.now.script.now) _ (c.asks_of-asked.ensures _ c.args.self.now.shape)
    (search rules) (search rules) _
    (c.chain_caps.ensures
    ∙ ap (λ (i : ℕ). of_chain pools.steps.now (chain_at pools.chains.now i)) c.index-in_default.ensures)
