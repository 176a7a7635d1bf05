-- What a chunk is judged by: the script that all chunks share, and the chunk's own span. Document 01, "Modules":
-- "spans: entry, end, declared height".
use Rattle.std.specs.Prelude.{List, ℕ}
use Rattle.code.specs.Layout.{tag_at}
use Rattle.pools.specs.Pools.{Pools}

pub record Script : Type 0 where
  pub code : List ℕ
  pub pools : Pools
  pub rights : ℕ

-- the tag of the instruction at a place
abbrev pub tag_of : Script → ℕ → ℕ
tag_of S p = tag_at S.code p
