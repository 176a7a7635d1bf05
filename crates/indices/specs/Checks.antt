-- What the contracts of `indices` say besides, for whoever calls it: the cases of its answer in numbers, what has to
-- hold of the tables, and what the check of an instruction tells of all that is lent. Document 01, "Forms to follow in
-- each place": "For each answer that is an enum, a definition gives this paper's number and values for every case of
-- that enum."
use Rattle.std.specs.Prelude.{List, ◌≡◌, ℕ, length, Result, Ok, Err}
use Rattle.pools.specs.Good.{EachSwitch, CasesWithin, ChainsWithin}
use Rattle.pools.specs.Pools.{Pools, chains_in, switches_in, cases_in}
use Rattle.pools.specs.Told.{Told, fine}
use Rattle.indices.specs.Indices.{Tables, into, bad_ref, first_bad_ref, size_of, refs, tables_of}
use Rattle.indices.specs.declared.BadIndex.{BadIndex}
use Rattle.indices.specs.declared.Pool.{Pool}
use Rattle.indices.specs.declared.Pool.TheVariants.{Constant, Name, Operator, OpAssignment, Chain, Switch, Site}
use Rattle.indices.specs.declared.Sizes.{Sizes}

-- "pool (constant 1, name, operator, op-assignment, chain, switch, site 7)"
unfoldable pub pool_number : Pool → ℕ
pool_number Constant = 1
pool_number Name = 2
pool_number Operator = 3
pool_number OpAssignment = 4
pool_number Chain = 5
pool_number Switch = 6
pool_number Site = 7

-- an answer, where a pool goes by so many
unfoldable pub checked_by : {P : Type 0} → (P → ℕ) → Result Unit (BadIndex P) → Told
checked_by number (Ok x) = fine
checked_by number (Err bad) = bad_ref (into (number bad.pool) bad.index)

abbrev pub checked_told : Result Unit (BadIndex Pool) → Told
checked_told r = checked_by pool_number r

-- the tables that the parameters of a call lend
abbrev pub tables : (chains steps switches cases : List ℕ) → Tables
tables chains steps switches cases = record { chains = chains; steps = steps; switches = switches; cases = cases }

-- the sizes are those of the tables, and every chain's steps and every switch's cases lie within theirs
pub record Sound (sizes : Sizes) (t : Tables) : Type 0 where
  pub chains_counted : sizes.chains ≡ chains_in t.chains
  pub switches_counted : sizes.switches ≡ switches_in t.switches
  pub chains_within : ChainsWithin t.chains t.steps
  pub cases_within : EachSwitch (CasesWithin (cases_in t.cases)) t.switches

-- how many entries the pools have that an index can point into
abbrev pub pool_counts : Pools → Sizes
pool_counts p = record {
  constants = length p.constants;
  names = length p.names;
  tokens = p.tokens;
  op_assignments = p.op_assignments;
  chains = chains_in p.chains;
  switches = switches_in p.switches;
}

-- what the check of the instruction at an offset tells
abbrev pub checked_at : Pools → List ℕ → ℕ → Told
checked_at p code at = first_bad_ref (size_of (pool_counts p)) (refs (tables_of p) code at)
