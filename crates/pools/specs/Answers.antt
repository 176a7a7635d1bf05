-- The cases of the answers of `pools` by document 01's numbers, for its contracts and those who call it. Document 01,
-- "Forms to follow in each place": "For each answer that is an enum, a definition gives this paper's number and values
-- for every case of that enum."
use Rattle.std.specs.Prelude.{ℕ, Result, Ok, Err}
use Rattle.pools.specs.Told.{Told, fine, over_limit, bad_table}
use Rattle.pools.specs.declared.limits.Limit.{Limit}
use Rattle.pools.specs.declared.limits.Limit.TheVariants as limit
use Rattle.pools.specs.declared.tables.BadEntry.{BadEntry}
use Rattle.pools.specs.declared.tables.Table.{Table}
use Rattle.pools.specs.declared.tables.Table.TheVariants.{Chains, Steps, Switches, Cases}

-- "which limit, from 1 in the order above"
unfoldable pub limit_number : Limit → ℕ
limit_number limit.Code = 1
limit_number limit.Constants = 2
limit_number limit.Names = 3
limit_number limit.Tokens = 4
limit_number limit.OpAssignments = 5
limit_number limit.Steps = 6
limit_number limit.Cases = 7
limit_number limit.Ranges = 8
limit_number limit.Chains = 9
limit_number limit.Switches = 10
limit_number limit.Chunks = 11

unfoldable pub limits_told : Result Unit Limit → Told
limits_told (Ok x) = fine
limits_told (Err exceeded) = over_limit (limit_number exceeded)

-- "table (1 chain, 2 step, 3 switch, 4 case)"
unfoldable pub table_number : Table → ℕ
table_number Chains = 1
table_number Steps = 2
table_number Switches = 3
table_number Cases = 4

unfoldable pub tables_told : Result Unit BadEntry → Told
tables_told (Ok x) = fine
tables_told (Err bad) = bad_table (table_number bad.table) bad.entry
