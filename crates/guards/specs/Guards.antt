-- Whether an instruction can be asked about: it has its width, and what it names is there. Document 01, "Order of the
-- tests": the checks of width, indices and tables that stand before the chunks establish it of every instruction of the
-- code.
use Rattle.std.specs.Prelude.{Bool, true, ◌&&◌, cond, List, ℕ, ◌+◌, eqb, leb, ltb, length}
use Rattle.code.specs.Layout.{among, tag_at, index_at}
use Rattle.code.specs.Tags.{byte, bytes, CHAIN, SWITCH}
use Rattle.code.specs.Width.{width_at}
use Rattle.pools.specs.Pools.{Chain, Switch, chain_at, switch_at, chains_in, steps_in, switches_in, cases_in}
use Rattle.rules.specs.Asks.{qualifiable}
use Rattle.rules.specs.Script.{Script}

module _ (code : List ℕ) (at : ℕ) where
  unfoldable pub has_width : Bool
  has_width = ltb 0 (width_at code at)

  -- the name, for the tags whose rights go by its flag
  unfoldable pub has_name : (names : List ℕ) → Bool
  has_name names = cond (among (tag_at code at) (bytes qualifiable)) (ltb (index_at code at) (length names)) true

  -- the chain that a CHAIN names, and its steps
  unfoldable pub has_chain : (chains steps : List ℕ) → Bool
  has_chain chains steps =
      cond (eqb (tag_at code at) (byte CHAIN))
      (ltb (index_at code at) (chains_in chains) && leb (c.first_step + c.steps) (steps_in steps))
      true
    where
      c : Chain
      c = chain_at chains (index_at code at)

  -- the switch that a SWITCH names, its cases and its ranges
  unfoldable pub has_switch : (switches cases ranges : List ℕ) → Bool
  has_switch switches cases ranges =
      cond (eqb (tag_at code at) (byte SWITCH))
      (ltb (index_at code at) (switches_in switches)
      && (leb (s.first_case + s.cases) (cases_in cases) && leb (s.first_range + s.ranges) (length ranges)))
      true
    where
      s : Switch
      s = switch_at switches (index_at code at)

module _ (code : List ℕ) (at : ℕ) (names chains steps switches cases ranges : List ℕ) where
  unfoldable pub is_there : Bool
  is_there =
      has_width code at && (has_name code at names
      && (has_chain code at chains steps && has_switch code at switches cases ranges))

-- the same of a script
abbrev pub there : Script → ℕ → Bool
there S p =
    is_there S.code p S.pools.names S.pools.chains S.pools.steps S.pools.switches S.pools.cases S.pools.ranges
