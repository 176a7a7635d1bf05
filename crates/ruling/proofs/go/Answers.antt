-- `ruling::go` meets its contract: a way out for each answer of its tests.
use borrow.Author.Rules.{rules}
use mathlib.Core.Bool.{not}
use mathlib.Core.Path.{ap}
use Rattle.answer.specs.Answer.{told}
use Rattle.ruling.proofs.Jump.{out_of_range, at_start}
use Rattle.ruling.specs.Ruling.{jump_test}
use Rattle.ruling.proofs.go.Goals as goal

pub returns-then-outside : goal.returns-then-outside
unfolding told
returns-then-outside c = out_of_range _ _ _ _ _ c.is_outside-outside.ensures c.if-outside.true

pub returns-then-not-starts : goal.returns-then-not-starts
unfolding told jump_test
returns-then-not-starts c = search rules

pub returns : goal.returns
unfolding told
returns c =
    at_start _ _ _ _ _ c.is_outside-outside.ensures c.if-outside.false c.starts_at-starts.ensures
    (ap not c.if-not-starts.false)
