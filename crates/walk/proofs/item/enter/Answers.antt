-- `walk::item::enter` meets its contract: its rule, the tests of its jumps, and its edges.
use mathlib.Core.Path.{sym}
use native.Mathlib.Omega.{arith}
use Rattle.answer.specs.Answer.{told}
use Rattle.rules.specs.Edges.{jumped}
use Rattle.rules.specs.FromLists.{script_of}
use Rattle.std.proofs.lemmas.Result.{err_from_is_err_and}
use Rattle.opening.proofs.Passed.{marked}
use Rattle.rules.proofs.Targets.{switch_entry_of}
use Rattle.ruling.proofs.Laws.{denied, given_edges, given_rule}
use Rattle.walk.proofs.Taking.{stopped, left_took}
use Rattle.walk.proofs.Turns.{standing, fitting, leaves, denied_turn, bad_turn}
use Rattle.walk.proofs.item.enter.Goals as goal

pub at-instruction-requires : goal.at-instruction-requires
at-instruction-requires c =
    (standing _ _ _ _ _ c.requires.at_item c.requires.unseen.below_end c.args.checked.now.ready).wide

pub rule_of-requires-clause-has_name : goal.rule_of-requires-clause-has_name
rule_of-requires-clause-has_name c =
    let here = c.at-instruction.ensures in
    rw (here.script, here.at)
    (standing _ _ _ _ _ c.requires.at_item c.requires.unseen.below_end c.args.checked.now.ready).name

pub rule_of-requires-clause-has_chain : goal.rule_of-requires-clause-has_chain
rule_of-requires-clause-has_chain c =
    let here = c.at-instruction.ensures in
    rw (here.script, here.at)
    (standing _ _ _ _ _ c.requires.at_item c.requires.unseen.below_end c.args.checked.now.ready).chain

pub target_count-count-requires : goal.target_count-count-requires
target_count-count-requires c =
    let here = c.at-instruction.ensures in
    let whole = standing _ _ _ _ _ c.requires.at_item c.requires.unseen.below_end c.args.checked.now.ready in
    rw (here.script, here.at) (switch_entry_of whole.switch)

pub check_jumps-requires-clause-has_switch : goal.check_jumps-requires-clause-has_switch
check_jumps-requires-clause-has_switch c =
    let here = c.at-instruction.ensures in
    rw (here.script, here.at)
    (standing _ _ _ _ _ c.requires.at_item c.requires.unseen.below_end c.args.checked.now.ready).switch

pub leave-requires-clause-has_switch : goal.leave-requires-clause-has_switch
leave-requires-clause-has_switch c =
    let here = c.at-instruction.ensures in
    rw (here.script, here.at)
    (standing _ _ _ _ _ c.requires.at_item c.requires.unseen.below_end c.args.checked.now.ready).switch

pub rule_of-requires-clause-operands_bound : goal.rule_of-requires-clause-operands_bound
rule_of-requires-clause-operands_bound c =
    (fitting _ _ _ _ _ c.requires.at_item c.args.checked.now.ready).operands

pub rule_of-requires-clause-iterators_bound : goal.rule_of-requires-clause-iterators_bound
rule_of-requires-clause-iterators_bound c =
    (fitting _ _ _ _ _ c.requires.at_item c.args.checked.now.ready).iterators

pub rule_of-requires-clause-handlers_bound : goal.rule_of-requires-clause-handlers_bound
rule_of-requires-clause-handlers_bound c =
    (fitting _ _ _ _ _ c.requires.at_item c.args.checked.now.ready).handlers

pub returns-in_err-edges : goal.returns-in_err-edges
returns-in_err-edges c =
    let p = err_from_is_err_and c.from_residual.result c.from_residual.ensures.1 in
    let here = c.at-instruction.ensures in
    rw (p.1, p.2)
    (stopped _ _ c.args.hand _ _
    (denied_turn _ _ _ _ _ c.requires.at_item c.requires.unseen
    (denied _ _ _ _ (sym (rw (here.script, here.at) at (c.in_err-edges.ensures c.args.room.entry 0))))))

pub check_jumps-requires-clause-holds : goal.check_jumps-requires-clause-holds
check_jumps-requires-clause-holds c =
    rw c.at-instruction.ensures.script (marked c.args.checked.now.marked)

pub returns-in_err-check_jumps : goal.returns-in_err-check_jumps
unfolding told
returns-in_err-check_jumps c =
    let p = err_from_is_err_and c.from_residual-in_err-check_jumps.result c.from_residual-in_err-check_jumps.ensures.1 in
    let here = c.at-instruction.ensures in
    let depths = jumped (script_of c.args.checked.now.script.now) c.args.hand.place c.args.hand.depths in
    rw (p.1, p.2)
    (stopped _ _ c.args.hand _ _
    (bad_turn _ _ _ _ _ c.requires.at_item c.requires.unseen
    (given_rule _ _ _ _ (sym (rw (here.script, here.at) at (c.in_ok-edges.ensures c.args.room.entry 0))))
    (sym (rw (here.script, here.at) at (c.in_err-check_jumps.ensures 0 depths)))))

pub leave-requires-clause-room_to_leave : goal.leave-requires-clause-room_to_leave
leave-requires-clause-room_to_leave c =
    let here = c.at-instruction.ensures in
    let edges = given_edges _ _ _ _ (sym (rw (here.script, here.at) at (c.in_ok-edges.ensures c.args.room.entry 0))) in
    rw (here.script, here.at, edges)
    (leaves _ _ _ _ _ c.requires.at_item c.requires.unseen c.args.checked.now.ready (omega arith))

pub returns : goal.returns
unfolding told
returns c =
    let here = c.at-instruction.ensures in
    let depths = jumped (script_of c.args.checked.now.script.now) c.args.hand.place c.args.hand.depths in
    let ruled = sym (rw (here.script, here.at) at (c.in_ok-edges.ensures c.args.room.entry 0)) in
    left_took _ _ _ _ _ c.requires.at_item c.requires.unseen (given_rule _ _ _ _ ruled)
    (sym (rw (here.script, here.at) at (c.in_ok-check_jumps.ensures 0 depths)))
    (leaves _ _ _ _ _ c.requires.at_item c.requires.unseen c.args.checked.now.ready (omega arith))
    (given_edges _ _ _ _ ruled) (rw (here.script, here.at) at c.leave.ensures)
