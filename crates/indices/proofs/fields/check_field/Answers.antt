-- `indices::fields::check_field` meets its contract: the digits say where the index stands and how large its pool is.
use Rattle.indices.specs.Indices.{first_bad_ref}
use Rattle.indices.specs.Checks.{pool_number}
use Rattle.indices.proofs.fields.check_field.Goals as goal

pub returns : goal.returns
unfolding first_bad_ref
returns c = rw (← c.read-index.ensures, ← c.pool_of-pool.ensures, ← c.of.ensures) (c.bounded.ensures.told pool_number)
