-- `before::mark_all` meets its contract. The loop's measure is how many bytes are left.
use Prim.Native.Nat.{◌-◌}
use lib.ListN.{length}
use Rattle.indices.specs.Indices.{tables_of}
use Rattle.pools.specs.Lent.{pools_of}
use Rattle.before.proofs.Pass.{Going}
use Rattle.before.proofs.mark_all.Given as goal

abbrev pub invariant-loop-after : goal.invariant-loop-after
invariant-loop-after l =
    Going l.source.sizes (tables_of (pools_of l.source.pools.now)) l.source.code.now l.initial.marks l.marks l.at

abbrev pub decreases-loop-after : goal.decreases-loop-after
decreases-loop-after l = length l.source.code.now - l.at
