-- `verify::stages::take_span` meets its contract: one chunk judged, and the state after it.
use Rattle.opening.proofs.Passed.{tells}
use Rattle.verify.proofs.Between.{judged_fits}
use Rattle.verify.proofs.stages.take_span.Goals as goal

pub invariant_of-checked : goal.invariant_of-checked
invariant_of-checked c = record { ready = c.requires.ready; marked = tells c.requires.marked }

pub advance-requires : goal.advance-requires
advance-requires c =
    judged_fits c.verify_span-judgement.ensures c.requires.ready c.requires.low _ c.requires.few
