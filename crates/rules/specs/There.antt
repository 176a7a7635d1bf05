-- What a caller knows of an instruction before its rule is asked: that the entries which it names are there, and the
-- iterators and handlers that it needs. The checks of tables and indices that come before any walk establish the
-- entries at every start of the code.
use Rattle.std.specs.Prelude.{true, List, ◌≡◌, ℕ, ◌+◌, ◌^◌, ◌≤◌, ◌<◌, length}
use Rattle.answer.specs.declared.Depths.{Depths}
use Rattle.code.specs.Layout.{among, tag_at, index_at}
use Rattle.code.specs.Tags.{byte, bytes, CHAIN, SWITCH}
use Rattle.code.specs.Width.{width_at}
use Rattle.pools.specs.Good.{StepsWithin, CasesWithin, RangesWithin}
use Rattle.pools.specs.Pools.{chain_at, switch_at, chains_in, steps_in, switches_in, cases_in}
use Rattle.rules.specs.Asks.{qualifiable}
use Rattle.rules.specs.declared.shapes.Flow.{Flow}
use Rattle.rules.specs.Needs.{iterators_needed, handlers_needed}
use Rattle.rules.specs.Script.{Script}
use Rattle.rules.specs.Shapes.{Flows}

-- the chain of this number is in its table, and its steps are in theirs
pub record ChainWhole (chains steps : List ℕ) (i : ℕ) : Type 0 where
  pub entry : i < chains_in chains
  pub within : StepsWithin (steps_in steps) (chain_at chains i)

-- the switch of this number is in its table, and its cases and ranges are in theirs
pub record SwitchWhole (switches cases ranges : List ℕ) (i : ℕ) : Type 0 where
  pub entry : i < switches_in switches
  pub cases_within : CasesWithin (cases_in cases) (switch_at switches i)
  pub ranges_within : RangesWithin (length ranges) (switch_at switches i)

-- of the instruction at a place: the name, the chain or the switch that it names
pub record NameThere (code names : List ℕ) (p : ℕ) : Type 0 where
  pub name : among (tag_at code p) (bytes qualifiable) ≡ true → index_at code p < length names

pub record ChainEntry (code chains : List ℕ) (p : ℕ) : Type 0 where
  pub entry : tag_at code p ≡ byte CHAIN → index_at code p < chains_in chains

pub record ChainThere (code chains steps : List ℕ) (p : ℕ) : Type 0 where
  pub chain : tag_at code p ≡ byte CHAIN → ChainWhole chains steps (index_at code p)

pub record SwitchEntry (code switches : List ℕ) (p : ℕ) : Type 0 where
  pub entry : tag_at code p ≡ byte SWITCH → index_at code p < switches_in switches

pub record SwitchThere (code switches cases ranges : List ℕ) (p : ℕ) : Type 0 where
  pub switch : tag_at code p ≡ byte SWITCH → SwitchWhole switches cases ranges (index_at code p)

-- the same of an instruction of a script
module _ (S : Script) (p : ℕ) where
  abbrev pub HasName : Type 0
  HasName = NameThere S.code S.pools.names p

  abbrev pub HasChainEntry : Type 0
  HasChainEntry = ChainEntry S.code S.pools.chains p

  abbrev pub HasChain : Type 0
  HasChain = ChainThere S.code S.pools.chains S.pools.steps p

  abbrev pub HasSwitchEntry : Type 0
  HasSwitchEntry = SwitchEntry S.code S.pools.switches p

  abbrev pub HasSwitch : Type 0
  HasSwitch = SwitchThere S.code S.pools.switches S.pools.cases S.pools.ranges p

  -- it has its width, and all that it names is there
  pub record Stands : Type 0 where
    pub wide : 0 < width_at S.code p
    pub name : HasName
    pub chain : HasChain
    pub switch : HasSwitch

-- a tag finds the iterators and handlers that it needs, and one more of each fits a word of 32 bits
pub record Held (tag : ℕ) (d : Depths) : Type 0 where
  pub iterators : iterators_needed tag ≤ d.iterators
  pub handlers : handlers_needed tag ≤ d.handlers
  pub iterators_fit : d.iterators + 1 < 2 ^ 32
  pub handlers_fit : d.handlers + 1 < 2 ^ 32

-- a tag of this flow does
pub record HeldBy (flow : Flow) (d : Depths) : Type 0 where
  pub tag : ℕ
  pub flows : Flows tag flow
  pub held : Held tag d
