-- The whole input but the chunks' spans, and its counts. Document 01, "Flat pools and sizes", and "Order of the tests":
-- "Limits, over whole entries".
use Rattle.std.specs.Prelude.{ℕ, length}
use Rattle.pools.specs.Sizes.{sizes_with}
use Rattle.pools.specs.declared.limits.Sizes.{Sizes}
use Rattle.rules.specs.Script.{Script}

-- a script, how many functions it has, and how many chunks
pub record Input : Type 0 where
  pub script : Script
  pub functions : ℕ
  pub chunks : ℕ

-- the counts that have limits, "over whole entries"
abbrev pub sizes_of : Input → Sizes
sizes_of I = sizes_with (length I.script.code) I.script.pools I.chunks
