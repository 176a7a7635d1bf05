-- What passed as facts, for whoever builds on it: each count keeps its limit; the words of a table make whole entries,
-- each number of an entry means something, and each span that an entry names lies within its table. Document 01, "Flat
-- pools and sizes", and kinds 1 and 2.
use Rattle.std.specs.Prelude.{false, ◌≡◌, ℕ, ◌+◌, ◌*◌, ◌≤◌, ◌<◌, length}
use mathlib.Core.List.{List, Memᴰ}
use Rattle.pools.specs.Pools.{Chain, Step, Switch, chain_at, step_at, switch_at}
use Rattle.pools.specs.Pools.{chain_words, step_words, switch_words, case_words}
use Rattle.pools.specs.Pools.{whole, chains_in, steps_in, switches_in, cases_in}
use Rattle.pools.specs.Sizes.{Tested, limits, max_entries}
use Rattle.pools.specs.declared.limits.Sizes.{Sizes}

-- ---- limits

-- none of them is exceeded
abbrev pub AllKept : List Tested → Type 0
AllKept ls = (l : Tested) → Memᴰ l ls → l.1 ≡ false

pub record Within (s : Sizes) : Type 0 where
  pub kept : AllKept (limits s)

-- the most targets of one instruction: those of a switch with every case, every range and its default
abbrev pub max_targets : ℕ
max_targets = max_entries + max_entries + 1

-- ---- entries

-- no word is left over, where an entry has so many
abbrev pub Whole : ℕ → List ℕ → Type 0
Whole size words = length words ≡ size * whole size words

-- of the entries of a table each is so
abbrev pub EachChain : (Chain → Type 0) → List ℕ → Type 0
EachChain P chains = (i : ℕ) → i < chains_in chains → P (chain_at chains i)

abbrev pub EachStep : (Step → Type 0) → List ℕ → Type 0
EachStep P steps = (i : ℕ) → i < steps_in steps → P (step_at steps i)

abbrev pub EachSwitch : (Switch → Type 0) → List ℕ → Type 0
EachSwitch P switches = (i : ℕ) → i < switches_in switches → P (switch_at switches i)

-- ---- what an entry names lies within its table

-- the steps of a chain, where there are so many; the cases of a switch, and its ranges
abbrev pub StepsWithin : (steps : ℕ) → Chain → Type 0
StepsWithin steps c = c.first_step + c.steps ≤ steps

abbrev pub CasesWithin : (cases : ℕ) → Switch → Type 0
CasesWithin cases s = s.first_case + s.cases ≤ cases

abbrev pub RangesWithin : (ranges : ℕ) → Switch → Type 0
RangesWithin ranges s = s.first_range + s.ranges ≤ ranges

-- each chain's steps
pub record ChainsWithin (chains steps : List ℕ) : Type 0 where
  pub steps_within : EachChain (StepsWithin (steps_in steps)) chains

-- each switch's cases and ranges
pub record SwitchesWithin (switches cases ranges : List ℕ) : Type 0 where
  pub cases_within : EachSwitch (CasesWithin (cases_in cases)) switches
  pub ranges_within : EachSwitch (RangesWithin (length ranges)) switches

-- ---- a good entry

pub record GoodChain (steps : ℕ) (c : Chain) : Type 0 where
  pub root : c.root ≤ 3
  pub tail : c.tail ≤ 2
  pub within : StepsWithin steps c

pub record GoodStep (s : Step) : Type 0 where
  pub kind : s.kind ≤ 2

pub record GoodSwitch (cases ranges : ℕ) (s : Switch) : Type 0 where
  pub cases_within : CasesWithin cases s
  pub ranges_within : RangesWithin ranges s

-- ---- all of them

pub record AllWhole (chains steps switches cases : List ℕ) : Type 0 where
  pub chains_whole : Whole chain_words chains
  pub steps_whole : Whole step_words steps
  pub switches_whole : Whole switch_words switches
  pub cases_whole : Whole case_words cases

abbrev pub GoodChains : (chains steps : List ℕ) → Type 0
GoodChains chains steps = EachChain (GoodChain (steps_in steps)) chains

abbrev pub GoodSteps : (steps : List ℕ) → Type 0
GoodSteps steps = EachStep GoodStep steps

abbrev pub GoodSwitches : (switches cases ranges : List ℕ) → Type 0
GoodSwitches switches cases ranges = EachSwitch (GoodSwitch (cases_in cases) (length ranges)) switches

pub record GoodTables (chains steps switches cases ranges : List ℕ) : Type 0 where
  pub all_whole : AllWhole chains steps switches cases
  pub good_chains : GoodChains chains steps
  pub good_steps : GoodSteps steps
  pub good_switches : GoodSwitches switches cases ranges
