-- The references of one instruction, in the order of their tests, and the first that is bad. Document 01, "Tags":
-- "Index checks are those of `check_indices` in 000, in its order and at its offsets"; "What comes back": "6 BadIndex |
-- index, pool (constant 1, name, operator, op-assignment, chain, switch, site 7)"; "Flat pools and sizes": "Custom
-- syntax sites: 0 for now", and what roots, tails and kinds of steps there are.
use Rattle.std.specs.Prelude.{cond, ℕ, ◌+◌, eqb, leb, ltb}
use mathlib.Core.List.{List, [], ◌∷◌, ◌++◌, map, flat_map}
use Rattle.code.specs.Layout.{Index, indices, tag_at, index_at, little}
use Rattle.code.specs.Layout.{constants, names, operators, op_assignments, chains, switches}
use Rattle.code.specs.Tags.{byte, CHAIN, SWITCH}
use Rattle.pools.specs.Pools.{Pools, Chain, Step, Switch, Case, chain_at, switch_at, steps_of, cases_of}
use Rattle.pools.specs.Told.{Told, fine}
use Rattle.pools.specs.declared.limits.Sizes as counted
use Rattle.indices.specs.declared.Sizes.{Sizes}

-- ---- one reference

-- an index, and the number of the pool that it points into
pub record Ref : Type 0 where
  pub index : ℕ
  pub pool : ℕ

abbrev pub into : (pool index : ℕ) → Ref
into pool index = record { index = index; pool = pool }

-- how many entries the pool of a number holds; of sites there are none
unfoldable pub size_of : Sizes → ℕ → ℕ
size_of s pool =
    cond (eqb pool constants) s.constants
    (cond (eqb pool names) s.names
    (cond (eqb pool operators) s.tokens
    (cond (eqb pool op_assignments) s.op_assignments
    (cond (eqb pool chains) s.chains
    (cond (eqb pool switches) s.switches 0)))))

-- the same from all counts
abbrev pub pool_sizes : counted.Sizes → Sizes
pool_sizes all = record {
  constants = all.constants;
  names = all.names;
  tokens = all.tokens;
  op_assignments = all.op_assignments;
  chains = all.chains;
  switches = all.switches;
}

-- ---- the references of an instruction

-- the tables of the records that an instruction can name
pub record Tables : Type 0 where
  pub chains : List ℕ
  pub steps : List ℕ
  pub switches : List ℕ
  pub cases : List ℕ

abbrev pub tables_of : Pools → Tables
tables_of p = record { chains = p.chains; steps = p.steps; switches = p.switches; cases = p.cases }

-- those among its bytes
abbrev pub ref_at : List ℕ → ℕ → Index → Ref
ref_at code at i = into i.pool (little 2 code (at + i.offset))

unfoldable pub in_code : List ℕ → ℕ → List Ref
in_code code at = map (ref_at code at) (indices (tag_at code at))

-- those of a chain: the name of a root that is Local or Named, the names of the steps, the operator of a tail that has
-- one
unfoldable pub root_refs : (root name : ℕ) → List Ref
root_refs root name = cond (leb root 1) (into names name ∷ []) []

unfoldable pub step_refs : Step → List Ref
step_refs s =
    cond (eqb s.kind 1) (into names s.name ∷ into names s.getter ∷ into names s.setter ∷ [])
    (cond (eqb s.kind 2) (into names s.name ∷ [])
    [])

unfoldable pub tail_refs : (tail operator : ℕ) → List Ref
tail_refs tail operator = cond (eqb tail 2) (into op_assignments operator ∷ []) []

unfoldable pub chain_refs : List ℕ → Chain → List Ref
chain_refs steps c =
    root_refs c.root c.name ++ (flat_map step_refs (steps_of steps c) ++ tail_refs c.tail c.operator)

-- those of a switch: the constants of its cases
unfoldable pub case_refs : Case → List Ref
case_refs c = into constants c.constant ∷ []

unfoldable pub switch_refs : List ℕ → Switch → List Ref
switch_refs cases s = flat_map case_refs (cases_of cases s)

-- those of the record that it names; its index is tested before them, so what a record that is not there holds never
-- matters
unfoldable pub in_record : Tables → List ℕ → ℕ → List Ref
in_record t code at =
    cond (eqb (tag_at code at) (byte CHAIN)) (chain_refs t.steps (chain_at t.chains (index_at code at)))
    (cond (eqb (tag_at code at) (byte SWITCH)) (switch_refs t.cases (switch_at t.switches (index_at code at)))
    [])

-- all of them
abbrev pub refs : Tables → List ℕ → ℕ → List Ref
refs t code at = in_code code at ++ in_record t code at

-- ---- the answer

-- BadIndex: kind 6, with the index and the pool
abbrev pub bad_ref : Ref → Told
bad_ref r = record { kind = 6; p = r.index; q = r.pool }

-- the first reference whose index is not below the size of its pool
unfoldable pub first_bad_ref : (ℕ → ℕ) → List Ref → Told
first_bad_ref size [] = fine
first_bad_ref size (r ∷ rs) = cond (ltb r.index (size r.pool)) (first_bad_ref size rs) (bad_ref r)
