-- `verify::verify` meets its contract: all stages, and the end. There are as many chunks as spans.
use mathlib.Core.Path.{sym, ◌∙◌}
use Rattle.judging.proofs.Chain.{span_count}
use Rattle.verify.proofs.verify.Goals as goal

pub judged-requires : goal.judged-requires
judged-requires c = c.least-chunks.ensures ∙ sym (span_count _ _ _)

pub returns : goal.returns
returns c = rw c.finish.ensures (rw (c.least-chunks.ensures ∙ sym (span_count _ _ _)) at c.judged.ensures)
