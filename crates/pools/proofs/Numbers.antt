-- What is told of a limit or a table: its discriminant is its number.
use Prim.Native.Nat.{◌+◌}
use mathlib.Core.Path.{◌≡◌, refl}
use denote.Enum.Declared.{tag_of}
use Rattle.pools.specs.Answers.{limit_number, table_number}
use Rattle.pools.specs.contracts.limits.Limit as limit_type
use Rattle.pools.specs.contracts.tables.Table as table_type
use Rattle.pools.specs.declared.limits.Limit.{Limit}
use Rattle.pools.specs.declared.limits.Limit.TheVariants as limit
use Rattle.pools.specs.declared.tables.Table.{Table}
use Rattle.pools.specs.declared.tables.Table.TheVariants as table

pub limit_numbered : (x : Limit) → tag_of limit_type.the_type x + 1 ≡ limit_number x
unfolding limit_number
limit_numbered limit.Code = refl
limit_numbered limit.Constants = refl
limit_numbered limit.Names = refl
limit_numbered limit.Tokens = refl
limit_numbered limit.OpAssignments = refl
limit_numbered limit.Steps = refl
limit_numbered limit.Cases = refl
limit_numbered limit.Ranges = refl
limit_numbered limit.Chains = refl
limit_numbered limit.Switches = refl
limit_numbered limit.Chunks = refl

pub table_numbered : (x : Table) → tag_of table_type.the_type x + 1 ≡ table_number x
unfolding table_number
table_numbered table.Chains = refl
table_numbered table.Steps = refl
table_numbered table.Switches = refl
table_numbered table.Cases = refl
