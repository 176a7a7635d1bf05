-- The tables' tests and their order. Document 01, "What comes back": "ragged table, unknown root, tail or kind, first +
-- count past its table", "table (1 chain, 2 step, 3 switch, 4 case), entry (if ragged, the number of whole ones)";
-- "Order of the tests": "ragged tables; table entries, tables and entries upward".
use Rattle.std.specs.Prelude.{Bool, ◌||◌, cond, List, [], ◌∷◌, ℕ, ◌+◌, ◌%◌, ltb, length}
use Rattle.pools.specs.Pools.{Chain, Step, Switch, chain_at, step_at, switch_at, entries}
use Rattle.pools.specs.Pools.{chain_words, step_words, switch_words, case_words}
use Rattle.pools.specs.Pools.{whole, chains_in, steps_in, switches_in, cases_in}
use Rattle.pools.specs.Told.{Told, fine, bad_table, first_told, first_from}

-- a table with words left over, where an entry has so many
unfoldable pub ragged : ℕ → List ℕ → Bool
ragged size words = ltb 0 (length words % size)

-- so many from a first one on, where a table has no more than this many: the sum is a number, and wraps nowhere
abbrev pub past : (entries first count : ℕ) → Bool
past entries first count = ltb entries (first + count)

-- a chain of an unknown root or tail, or with steps past those that there are
unfoldable pub bad_chain : (steps : ℕ) → Chain → Bool
bad_chain steps c = ltb 3 c.root || ltb 2 c.tail || past steps c.first_step c.steps

-- a step of an unknown kind
unfoldable pub bad_step : Step → Bool
bad_step s = ltb 2 s.kind

-- a switch with cases or ranges past those that there are
unfoldable pub bad_switch : (cases ranges : ℕ) → Switch → Bool
bad_switch cases ranges s = past cases s.first_case s.cases || past ranges s.first_range s.ranges

-- a table whose words make whole entries
unfoldable pub whole_table : (table size : ℕ) → List ℕ → Told
whole_table table size words = cond (ragged size words) (bad_table table (whole size words)) fine

-- the entries of a table upward
abbrev pub good_entries : (table : ℕ) → (ℕ → Bool) → (count : ℕ) → Told
good_entries table bad count = first_from (bad_table table) 0 (entries bad 0 count)

abbrev pub good_chains : List ℕ → (steps : ℕ) → Told
good_chains chains steps = good_entries 1 (λ i. bad_chain steps (chain_at chains i)) (chains_in chains)

abbrev pub good_steps : List ℕ → Told
good_steps steps = good_entries 2 (λ i. bad_step (step_at steps i)) (steps_in steps)

abbrev pub good_switches : List ℕ → (cases ranges : ℕ) → Told
good_switches switches cases ranges =
    good_entries 3 (λ i. bad_switch cases ranges (switch_at switches i)) (switches_in switches)

unfoldable pub first_bad_table : (chains steps switches cases ranges : List ℕ) → Told
first_bad_table chains steps switches cases ranges =
    first_told (
    whole_table 1 chain_words chains ∷ whole_table 2 step_words steps ∷ whole_table 3 switch_words switches ∷
    whole_table 4 case_words cases ∷
    good_chains chains (steps_in steps) ∷ good_steps steps ∷
    good_switches switches (cases_in cases) (length ranges) ∷ [])
