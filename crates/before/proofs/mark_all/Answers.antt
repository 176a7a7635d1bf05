-- `before::mark_all` meets its contract: a turn goes forward within the code, and the loop ends with all of it or with
-- a refusal.
use mathlib.Core.Path.{refl, ap}
use native.Mathlib.Omega.{arith}
use Rattle.std.proofs.Common.{rules}
use Rattle.std.specs.Prelude.{Ok}
use Rattle.before.proofs.Pass.{going_next, all_passed, refused_here}
use Rattle.before.proofs.mark_all.Goals as goal

pub returns-in_err-after : goal.returns-in_err-after
returns-in_err-after c = refused_here _ _ _ c.loop-after.invariant c.in_err-after.ensures refl (search rules)

pub loop-after-smaller : goal.loop-after-smaller
loop-after-smaller c =
    let next = going_next _ _ _ c.loop-after.invariant c.in_ok-after.ensures (ap Ok c.in-Some.is) in
    omega (arith, next.more, next.inside)

pub loop-after-preserved : goal.loop-after-preserved
loop-after-preserved c = (going_next _ _ _ c.loop-after.invariant c.in_ok-after.ensures (ap Ok c.in-Some.is)).goes

pub returns : goal.returns
returns c = all_passed _ _ _ c.loop-after.invariant c.in_ok-after.ensures (ap Ok c.in_default.is)
