-- The limits. Document 01, "Flat pools and sizes": "At most: code 65,536 bytes; constants, names, tokens,
-- op-assignments, steps, cases, ranges 65,536 each; chains, switches 4,096; chunks 1,024"; "What comes back": "which
-- limit, from 1 in the order above".
use Rattle.std.specs.Prelude.{Bool, cond, List, [], ◌∷◌, map, ℕ, ltb, length}
use Rattle.pools.specs.Pools.{Pools, chains_in, steps_in, switches_in, cases_in}
use Rattle.pools.specs.Told.{Told, fine, over_limit, first_told}
use Rattle.pools.specs.declared.limits.Sizes.{Sizes}

-- the most bytes of code, shut: proofs/Most has what is known of it
unfoldable pub max_code : ℕ
max_code = 65536

-- the most constants, names, tokens, op-assignments, steps, cases, ranges, of each
abbrev pub max_entries : ℕ
max_entries = 65536

abbrev pub max_chains : ℕ
max_chains = 4096

abbrev pub max_switches : ℕ
max_switches = 4096

abbrev pub max_chunks : ℕ
max_chunks = 1024

-- the counts of all that is lent, tables by whole entries, where there is so much code, and so many chunks
abbrev pub sizes_with : (code : ℕ) → Pools → (chunks : ℕ) → Sizes
sizes_with code p chunks = record {
  code = code;
  constants = length p.constants;
  names = length p.names;
  tokens = p.tokens;
  op_assignments = p.op_assignments;
  steps = steps_in p.steps;
  cases = cases_in p.cases;
  ranges = length p.ranges;
  chains = chains_in p.chains;
  switches = switches_in p.switches;
  chunks = chunks;
}

-- a limit: its number, and whether the count is over the most that there may be
abbrev pub Tested : Type 0
Tested = ℕ × Bool

-- the limits in the order of their tests
unfoldable pub limits : Sizes → List Tested
limits s =
    (1, ltb max_code s.code) ∷
    (2, ltb max_entries s.constants) ∷
    (3, ltb max_entries s.names) ∷
    (4, ltb max_entries s.tokens) ∷
    (5, ltb max_entries s.op_assignments) ∷
    (6, ltb max_entries s.steps) ∷
    (7, ltb max_entries s.cases) ∷
    (8, ltb max_entries s.ranges) ∷
    (9, ltb max_chains s.chains) ∷
    (10, ltb max_switches s.switches) ∷
    (11, ltb max_chunks s.chunks) ∷ []

-- what one tells, and what several do, in their order
unfoldable pub tells : Tested → Told
tells l = cond l.1 (over_limit l.0) fine

unfoldable pub first_over : List Tested → Told
first_over ls = first_told (map tells ls)

abbrev pub first_exceeded : Sizes → Told
first_exceeded s = first_over (limits s)
