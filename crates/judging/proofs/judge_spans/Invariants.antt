-- `judging::judge_spans` meets its contract: the loop over the chunks, and within it the loop over the items of one,
-- whose measure is how many items more there can be.
use Prim.Native.Nat.{◌-◌}
use lib.ListN.{length}
use Rattle.rules.specs.FromLists.{script_of}
use Rattle.judging.specs.Spans.{spans_of}
use Rattle.judging.proofs.Chain.{Judging}
use Rattle.judging.proofs.Walking.{Walking}
use Rattle.judging.proofs.judge_spans.Given as goal

abbrev pub invariant-items : goal.invariant-items
invariant-items l =
    Walking (script_of l.checked.script.now) (length l.fn.records) (length l.fn.work) l.room l.hand l.records l.work

abbrev pub decreases-items : goal.decreases-items
decreases-items l = length l.fn.work - l.hand.counts.taken

abbrev pub invariant-loop-at : goal.invariant-loop-at
invariant-loop-at l =
    Judging (script_of l.checked.script.now) (length l.fn.records) (length l.fn.work)
    (spans_of l.entries l.ends l.declared) l.first l.fn.heights l.heights l.records l.work l.at l.reached l.taken
