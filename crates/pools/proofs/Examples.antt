-- Small tables and counts, judged by the definitions: where document 01 is easily read another way, this is the
-- reading.
use mathlib.Core.List.{List, [], ◌∷◌}
use mathlib.Core.Path.{◌≡◌, refl}
use Prim.Native.Nat.{ℕ}
use Rattle.pools.specs.Pools.{entries, chain_at, step_at, switch_at}
use Rattle.pools.specs.Sizes.{max_code, limits, tells, first_over, first_exceeded}
use Rattle.pools.specs.Tables.{ragged, bad_chain, bad_step, bad_switch, whole_table, first_bad_table}
use Rattle.pools.specs.Told.{fine, bad_table, first_told, first_from}
use Rattle.pools.specs.declared.limits.Sizes.{Sizes}

-- ---- first + count

-- one switch of no ranges, that names so many cases from a first one on
abbrev naming : (first count : ℕ) → List ℕ
naming first count = first ∷ count ∷ 0 ∷ 0 ∷ 0 ∷ []

-- where there is one case, none from the end on is good
at_the_end : first_bad_table [] [] (naming 1 0) (0 ∷ 0 ∷ []) [] ≡ fine
unfolding first_bad_table whole_table ragged first_told first_from entries switch_at bad_switch
at_the_end = refl

-- and none from past the end on is bad, though it names nothing
past_the_end : first_bad_table [] [] (naming 2 0) (0 ∷ 0 ∷ []) [] ≡ record { kind = 2; p = 3; q = 0 }
unfolding first_bad_table whole_table ragged first_told first_from entries switch_at bad_switch
past_the_end = refl

-- a sum that would be 0 in 32 bits is bad
past_32_bits : first_bad_table [] [] (naming 4294967295 1) (0 ∷ 0 ∷ []) [] ≡ bad_table 3 0
unfolding first_bad_table whole_table ragged first_told first_from entries switch_at bad_switch
past_32_bits = refl

-- ---- which is told

-- a chain of an unknown root
rooted : List ℕ
rooted = 4 ∷ 0 ∷ 0 ∷ 0 ∷ 0 ∷ 0 ∷ 0 ∷ []

-- a bad entry is told by the table that it stands in, also where it reaches past another
by_its_own_table : first_bad_table (0 ∷ 0 ∷ 0 ∷ 0 ∷ 0 ∷ 0 ∷ 1 ∷ []) [] [] [] [] ≡ bad_table 1 0
unfolding first_bad_table whole_table ragged first_told first_from entries chain_at bad_chain
by_its_own_table = refl

-- a ragged table before any bad entry, with the number of its whole ones
ragged_before_entries : first_bad_table rooted [] [] (0 ∷ 0 ∷ 0 ∷ []) [] ≡ bad_table 4 1
unfolding first_bad_table whole_table ragged first_told first_from entries chain_at bad_chain rooted
ragged_before_entries = refl

-- a bad chain before a bad step
chains_before_steps : first_bad_table rooted (3 ∷ 0 ∷ 0 ∷ 0 ∷ []) [] [] [] ≡ bad_table 1 0
unfolding first_bad_table whole_table ragged first_told first_from entries chain_at bad_chain rooted
chains_before_steps = refl

-- the first bad step, and not the last
first_step : first_bad_table [] (2 ∷ 0 ∷ 0 ∷ 0 ∷ 3 ∷ 0 ∷ 0 ∷ 0 ∷ 4 ∷ 0 ∷ 0 ∷ 0 ∷ []) [] [] [] ≡ bad_table 2 1
unfolding first_bad_table whole_table ragged first_told first_from entries step_at bad_step
first_step = refl

-- ---- limits

-- one chain and one chunk too many, and so many cases
abbrev sized : (cases : ℕ) → Sizes
sized n = record {
  code = 0;
  constants = 0;
  names = 0;
  tokens = 0;
  op_assignments = 0;
  steps = 0;
  cases = n;
  ranges = 0;
  chains = 4097;
  switches = 0;
  chunks = 1025;
}

-- of several limits that are exceeded the first in the order is told
chains_before_chunks : first_exceeded (sized 65536) ≡ record { kind = 1; p = 9; q = 0 }
unfolding first_over tells limits first_told max_code
chains_before_chunks = refl

cases_before_chains : (first_exceeded (sized 65537)).p ≡ 7
unfolding first_over tells limits first_told max_code
cases_before_chains = refl
