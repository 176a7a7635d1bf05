-- `walk::item::push_jumps` meets its contract: after k turns the first k targets are pushed.
use Rattle.rules.specs.Edges.{targets}
use Rattle.rules.specs.FromLists.{script_of}
use Rattle.walk.proofs.Parts.{Pushing}
use Rattle.walk.proofs.item.push_jumps.Given as goal

abbrev pub invariant-loop-k : goal.invariant-loop-k
invariant-loop-k l =
    Pushing (targets (script_of l.instruction.script.now) l.instruction.at) l.d l.waiting l.initial.work l.work l.k
