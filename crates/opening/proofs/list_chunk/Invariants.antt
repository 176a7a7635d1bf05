-- `opening::list_chunk` meets its contract. The loop's measure is how much of the chunk is left.
use Prim.Native.Nat.{◌-◌}
use lib.ListN.{length}
use Rattle.rules.specs.FromLists.{script_of}
use Rattle.opening.proofs.Kept.{Kept}
use Rattle.opening.proofs.list_chunk.Given as goal

abbrev pub invariant-loop-at : goal.invariant-loop-at
invariant-loop-at l =
    Kept (script_of l.script) l.entry l.end (length l.initial.records) l.records l.listed l.at

abbrev pub decreases-loop-at : goal.decreases-loop-at
decreases-loop-at l = l.end - l.at
