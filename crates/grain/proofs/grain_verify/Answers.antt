-- `grain::grain_verify` meets its contract: all stages, and the end. There are as many chunks as spans.
use mathlib.Core.Path.{sym}
use Rattle.grain.proofs.Spans.{spans_count}
use Rattle.grain.proofs.grain_verify.Goals as goal

pub judged-requires : goal.judged-requires
judged-requires c = sym (spans_count _)

pub returns : goal.returns
returns c = rw c.finish.ensures (rw (sym (spans_count c.args.chunks.now)) at c.judged.ensures)
