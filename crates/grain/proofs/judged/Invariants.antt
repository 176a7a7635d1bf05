-- `grain::judged` meets its contract: between two chunks a call stands as the laws of its stages say. This file is
-- printed: gen/src/grain_verify/ has its text and the list of parameters, and gen/src/lib.rs says how to print it
-- again.
use Rattle.before.specs.Parameters.{input_of}
use Rattle.grain.specs.Chunks.{spans_from}
use Rattle.verify.proofs.Between.{OnTheWay}
use Rattle.grain.proofs.judged.Given as goal

abbrev pub invariant-loop-number : goal.invariant-loop-number
invariant-loop-number l =
    OnTheWay (input_of l.input) (spans_from l.chunks)
    (record { marks = l.fn.marks; heights = l.fn.heights; records = l.fn.records; work = l.fn.work })
    l.counted l.number l.marks l.heights l.records l.work
