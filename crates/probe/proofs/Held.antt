-- Depths that pass their tests are such as the rules ask for, and the tests in the code's own terms are those of the
-- definition.
use mathlib.Core.Bool.{Bool, true, false}
use mathlib.Core.Path.{◌≡◌, refl, sym}
use Prim.Native.Nat.{ℕ, ◌+◌, ◌-◌, ◌^◌, ◌≤◌, ◌<◌}
use native.Mathlib.Omega.{arith}
use borrow.Author.Tests.{lt-ltb, le-ltb, ltb-true, ltb-false, leb-true}
use lib.Dec.{ltb}
use Rattle.answer.specs.declared.Depths.{Depths}
use Rattle.rules.specs.Shapes.{Flows}
use Rattle.rules.specs.There.{HeldBy}
use Rattle.rules.specs.declared.shapes.Flow.{Flow}
use Rattle.probe.specs.Depths.{holds, fits}
use Rattle.guards.proofs.Ready.{both}

-- one more fits a word
pub one_more : (n : ℕ) → ltb n 0xffff_ffff ≡ ltb (n + 1) (2 ^ 32)
one_more n = go (ltb n 0xffff_ffff) refl
  where
    go : (t : Bool) → ltb n 0xffff_ffff ≡ t → t ≡ ltb (n + 1) (2 ^ 32)
    go true e = let l = ltb-true n 0xffff_ffff e in sym (lt-ltb (n + 1) (2 ^ 32) (omega arith))
    go false e = let l = ltb-false n 0xffff_ffff e in sym (le-ltb (n + 1) (2 ^ 32) (omega arith))

pub held_by : {tag : ℕ} {flow : Flow} → Flows tag flow → {d : Depths} → true ≡ holds tag d.iterators d.handlers
    → HeldBy flow d
unfolding holds
held_by {tag} f {d} e =
    let p = both _ _ (sym e) in
    let q = both _ _ p.1 in
    let r = both _ _ q.1 in
    record {
      tag = tag;
      flows = f;
      held = record {
        iterators = leb-true _ _ p.0;
        handlers = leb-true _ _ q.0;
        iterators_fit = ltb-true _ _ r.0;
        handlers_fit = ltb-true _ _ r.1;
      };
    }

module _ (pops pushes operands : ℕ) (e : true ≡ fits pops pushes operands) where
  pub popped : pops ≤ operands
  unfolding fits
  popped = leb-true _ _ (both _ _ (sym e)).0

  pub pushed : operands - pops + pushes < 2 ^ 32
  unfolding fits
  pushed = ltb-true _ _ (both _ _ (sym e)).1
