-- `opening::list_chunk` meets its contract. In each answer `k` tells what is kept so far, and `s` that an instruction
-- starts here.
use native.Mathlib.Omega.{arith}
use Rattle.code.specs.Width.{width_of}
use Rattle.code.proofs.Widths.{width_there}
use Rattle.listing.proofs.Starts.{start_wide}
use Rattle.rules.specs.FromLists.{script_of}
use Rattle.pools.proofs.Most.{code_small}
use Rattle.opening.proofs.Kept.{few_targets, first_kept, next_kept, kept_length, all_kept, opened_length}
use Rattle.opening.proofs.list_chunk.Goals as goal

pub loop-at-init : goal.loop-at-init
loop-at-init c = first_kept _ c.requires.listable c.requires.in_code _ _ c.store_entry.ensures

-- few instructions of few targets each
pub list_instruction-listed-requires : goal.list_instruction-listed-requires
list_instruction-listed-requires c =
    let here = c.at-instruction.ensures in
    let k = c.loop-at.invariant in
    let s = k.on_start c.loop-at-test.true in
    let few = few_targets (script_of c.args.script.now) c.requires.listable s in
    let end = c.requires.in_code.in_code in
    rw (here.script, here.at) (record {
      has_switch = c.requires.listable.switch_there _ s;
      stored_in_bounds = omega (arith, k.stored, k.fits, kept_length _ _ _ _ k);
      at_bound = omega (arith, k.few_targets, few, code_small, c.loop-at-test.true, c.requires.listable.small, end);
      at_bound_2 = omega (arith, k.few_edges, few, code_small, c.loop-at-test.true, c.requires.listable.small, end);
    })

pub overflow_add-at : goal.overflow_add-at
overflow_add-at c =
    let here = c.at-instruction.ensures in
    let s = c.loop-at.invariant.on_start c.loop-at-test.true in
    let w = width_there width_of _ _ (start_wide width_of _ s) in
    omega (arith, (rw (here.script, here.at) at c.width-at.ensures), w.within, c.requires.listable.small, code_small)

pub loop-at-preserved : goal.loop-at-preserved
loop-at-preserved c =
    let here = c.at-instruction.ensures in
    next_kept _ c.requires.listable c.requires.in_code _ _ c.loop-at.invariant c.loop-at-test.true
    (rw (here.script, here.at) at c.list_instruction-listed.ensures)
    (rw (here.script, here.at) at c.width-at.ensures)

pub returns : goal.returns
returns c =
    all_kept _ _ _ _ c.requires.listable.small (opened_length c.store_entry.ensures) c.loop-at.invariant
    c.loop-at-test.false

pub at-instruction-requires : goal.at-instruction-requires
at-instruction-requires c = start_wide width_of _ (c.loop-at.invariant.on_start c.loop-at-test.true)
