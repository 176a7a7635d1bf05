-- One outcome for each input: two answers that tell the same numbers are the same answer.
use mathlib.Core.Bool.{cond}
use mathlib.Core.Path.{◌≡◌, refl, sym, ap, ◌∙◌}
use Prim.Native.Nat.{ℕ}
use lib.Dec.{eqb}
use Rattle.std.specs.Prelude.{Result, Ok, Err}
use Rattle.pools.specs.Told.{Told}
use Rattle.indices.specs.Checks.{checked_by, checked_told, pool_number}
use Rattle.indices.specs.declared.BadIndex.{BadIndex}
use Rattle.indices.specs.declared.Pool.{Pool}
use Rattle.indices.specs.declared.Pool.TheVariants.{Constant, Name, Operator, OpAssignment, Chain, Switch, Site}

pool_of : ℕ → Pool
pool_of n =
    cond (eqb n 1) Constant (cond (eqb n 2) Name (cond (eqb n 3) Operator
    (cond (eqb n 4) OpAssignment (cond (eqb n 5) Chain (cond (eqb n 6) Switch Site)))))

back : Told → Result Unit (BadIndex Pool)
back t = cond (eqb t.kind 0) (Ok tt) (Err (record { index = t.p; pool = pool_of t.q }))

pool_same : (p : Pool) → pool_of (pool_number p) ≡ p
unfolding pool_number pool_of
pool_same Constant = refl
pool_same Name = refl
pool_same Operator = refl
pool_same OpAssignment = refl
pool_same Chain = refl
pool_same Switch = refl
pool_same Site = refl

same : (c : Result Unit (BadIndex Pool)) → back (checked_told c) ≡ c
unfolding checked_by back
same (Ok tt) = refl
same (Err bad) = rw (pool_same bad.pool)

pub one_checked : (a b : Result Unit (BadIndex Pool)) → checked_told a ≡ checked_told b → a ≡ b
one_checked a b e = sym (same a) ∙ ap back e ∙ same b
