-- `list::operands::put_operands` meets its contract: each operand is put in turn.
use mathlib.Core.Path.{refl, ap}
use native.Mathlib.Omega.{arith}
use Rattle.code.specs.Layout.{layout}
use Rattle.list.proofs.Sized.{taken, taken_fields, taken_left, one_put, all_put}
use Rattle.list.proofs.operands.put_operands.Goals as goal

pub loop-size-init : goal.loop-size-init
loop-size-init c = record {
  within = omega (arith, ap taken c.sizes_of-size-items.ensures.value, taken_fields (layout c.args.tag));
  short = omega arith;
  written = refl;
}

pub number_of-requires : goal.number_of-requires
number_of-requires c = record {
  size_value = c.sizes_of-size-items.ensures.each _ _ c.loop-size-test.true;
  size_in_bounds = omega (arith, taken_left _ _ c.loop-size-test.true, c.loop-size.invariant.within);
}

pub overflow_add-at : goal.overflow_add-at
overflow_add-at c = omega (arith, taken_left _ _ c.loop-size-test.true, c.loop-size.invariant.within)

pub loop-size-preserved : goal.loop-size-preserved
loop-size-preserved c =
    let i = c.loop-size.invariant in
    record {
      within = omega (arith, taken_left _ _ c.loop-size-test.true, i.within);
      short = omega arith;
      written = one_put _ _ c.loop-size-test.true _ _ _ c.put_field.ensures.puts c.number_of.ensures i.written;
    }

pub returns-clause-puts : goal.returns-clause-puts
returns-clause-puts c =
    let fields = c.sizes_of-size-items.ensures.value in
    all_put _ _ _ (layout c.args.tag) _ _ _ fields (omega arith) c.loop-size.invariant.written
