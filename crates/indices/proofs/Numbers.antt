-- What is told of a pool: its discriminant is its number.
use Prim.Native.Nat.{◌+◌}
use mathlib.Core.Path.{◌≡◌, refl}
use denote.Enum.Declared.{tag_of}
use Rattle.indices.specs.Checks.{pool_number}
use Rattle.indices.specs.contracts.Pool as pool_type
use Rattle.indices.specs.declared.Pool.{Pool}
use Rattle.indices.specs.declared.Pool.TheVariants as pool

pub pool_numbered : (x : Pool) → tag_of pool_type.the_type x + 1 ≡ pool_number x
unfolding pool_number
pool_numbered pool.Constant = refl
pool_numbered pool.Name = refl
pool_numbered pool.Operator = refl
pool_numbered pool.OpAssignment = refl
pool_numbered pool.Chain = refl
pool_numbered pool.Switch = refl
pool_numbered pool.Site = refl
