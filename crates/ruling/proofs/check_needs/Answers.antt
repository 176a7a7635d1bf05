-- `ruling::check_needs` meets its contract: a way out for each test.
use borrow.Author.Rules.{rules}
use Rattle.answer.specs.Answer.{told}
use Rattle.ruling.proofs.Tests.{no_rights, no_operands, no_iterator, no_handler, all_there}
use Rattle.ruling.proofs.check_needs.Goals as goal

pub returns-then-missing-gt0 : goal.returns-then-missing-gt0
unfolding told
returns-then-missing-gt0 c = λ tag f. no_rights _ _ _ _ _ c.if-missing-gt0.true

pub returns-then-have-needs : goal.returns-then-have-needs
unfolding told
returns-then-have-needs c = λ tag f. search (rules, no_operands)

pub returns-then-d-iterators_needed : goal.returns-then-d-iterators_needed
unfolding told
returns-then-d-iterators_needed c =
    λ tag f. no_iterator _ _ _ _ _ c.if-missing-gt0.false c.if-have-needs.false (c.iterators_needed.ensures tag f)
    c.if-d-iterators_needed.true

pub returns-then-d-handlers_needed : goal.returns-then-d-handlers_needed
unfolding told
returns-then-d-handlers_needed c =
    λ tag f. no_handler _ _ _ _ _ c.if-missing-gt0.false c.if-have-needs.false (c.iterators_needed.ensures tag f)
    c.if-d-iterators_needed.false (c.handlers_needed.ensures tag f) c.if-d-handlers_needed.true

pub returns : goal.returns
unfolding told
returns c =
    λ tag f. all_there _ _ _ _ _ c.if-missing-gt0.false c.if-have-needs.false (c.iterators_needed.ensures tag f)
    c.if-d-iterators_needed.false (c.handlers_needed.ensures tag f) c.if-d-handlers_needed.false
