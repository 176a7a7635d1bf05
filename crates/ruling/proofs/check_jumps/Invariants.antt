-- `ruling::check_jumps` meets its contract: the targets before the one at hand are good.
use Rattle.rules.specs.Edges.{targets}
use Rattle.rules.specs.FromLists.{script_of}
use Rattle.ruling.proofs.Jumps.{Good}
use Rattle.ruling.proofs.check_jumps.Given as goal

abbrev pub invariant-loop-k : goal.invariant-loop-k
invariant-loop-k l =
    Good l.marks (targets (script_of l.instruction.script.now) l.instruction.at) l.entry l.end l.instruction.at l.k
