-- `before::before_chunks` meets its contract: the tests before any store establish what those after it ask for.
use mathlib.Core.Path.{refl, sym}
use native.Mathlib.Omega.{arith}
use Rattle.std.proofs.Common.{rules}
use Rattle.answer.specs.Answer.{told}
use Rattle.before.proofs.Held.{untouched, touched}
use Rattle.before.proofs.Order.{opened, sound}
use Rattle.before.proofs.before_chunks.Goals as goal

pub returns-in_err-early_tests : goal.returns-in_err-early_tests
returns-in_err-early_tests c = untouched _ _ _ c.in_err-early_tests.ensures (search rules)

pub late_tests-requires-clause-sound : goal.late_tests-requires-clause-sound
unfolding told
late_tests-requires-clause-sound c =
    sound _ refl refl (opened _ _ _ _ _ _ _ _ (sym c.in_ok-early_tests.ensures)).good

pub late_tests-requires-clause-code_in_bounds : goal.late_tests-requires-clause-code_in_bounds
unfolding told
late_tests-requires-clause-code_in_bounds c =
    omega (arith, (opened _ _ _ _ _ _ _ _ (sym c.in_ok-early_tests.ensures)).marks_lent)

pub returns : goal.returns
returns c = touched _ _ _ c.in_ok-early_tests.ensures c.late_tests.ensures
