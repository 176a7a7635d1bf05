-- `judging::verify_span` meets its contract: three lists of one number each are one span.
use native.Mathlib.Omega.{arith}
use Rattle.judging.specs.Spans.{spans_of}
use Rattle.judging.proofs.verify_span.Goals as goal

pub judge_spans-requires-clause-declared_len_bound : goal.judge_spans-requires-clause-declared_len_bound
unfolding spans_of
judge_spans-requires-clause-declared_len_bound c = omega arith

pub judge_spans-requires-clause-declared_in_bounds : goal.judge_spans-requires-clause-declared_in_bounds
unfolding spans_of
judge_spans-requires-clause-declared_in_bounds c = omega (arith, c.requires.number_in_bounds)

pub returns : goal.returns
unfolding spans_of
returns c = c.judge_spans.ensures
