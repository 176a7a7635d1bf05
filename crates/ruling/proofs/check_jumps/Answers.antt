-- `ruling::check_jumps` meets its contract. The caller has counted the targets, so in a turn there is a target of this
-- number.
use native.Mathlib.Omega.{arith}
use Rattle.answer.specs.Answer.{told}
use Rattle.rules.specs.FromLists.{script_of}
use Rattle.std.proofs.lemmas.Result.{err_from_is_err_and}
use Rattle.ruling.proofs.Jumps.{none_yet, one_more, refused, all_good}
use Rattle.ruling.proofs.check_jumps.Goals as goal

pub loop-k-init : goal.loop-k-init
loop-k-init c = none_yet _ _ _ _ _

pub returns-in_err-go : goal.returns-in_err-go
returns-in_err-go c =
    let p = err_from_is_err_and c.from_residual.result c.from_residual.ensures.1 in
    λ declared d. rw (p.1, p.2, ← c.in_err-go.was)
    (refused c.loop-k.invariant (omega (arith, c.loop-k-test.true, c.requires.count_value)) c.target-target.ensures
    c.go.ensures c.in_err-go.was (script_of c.args.instruction.now.script.now) declared d c.requires.holds)

pub loop-k-preserved : goal.loop-k-preserved
loop-k-preserved c =
    one_more c.loop-k.invariant (omega (arith, c.loop-k-test.true, c.requires.count_value)) c.target-target.ensures
    c.go.ensures c.in_ok-go.was

pub returns : goal.returns
unfolding told
returns c =
    λ declared d.
    all_good c.loop-k.invariant (omega (arith, c.loop-k-test.false, c.requires.count_value))
    (script_of c.args.instruction.now.script.now) declared d c.requires.holds
