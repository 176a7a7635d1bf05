-- `opening::store_targets` meets its contract. So many targets are stored.
use mathlib.Core.Path.{◌≡◌}
use lib.ListN.{take}
use Rattle.rules.specs.Edges.{targets}
use Rattle.rules.specs.FromLists.{script_of}
use Rattle.opening.proofs.store_targets.Given as goal

abbrev pub invariant-loop-k : goal.invariant-loop-k
invariant-loop-k l = take l.k l.slots ≡ take l.k (targets (script_of l.instruction.script.now) l.instruction.at)
