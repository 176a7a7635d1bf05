-- `rules::Instruction::target_count` meets its contract: the flow tells the number of targets, and for a SWITCH its
-- entry does.
use native.Mathlib.Omega.{arith}
use Rattle.rules.specs.FromLists.{script_of}
use Rattle.rules.proofs.Targets.{is_switch, switch_index, switch_entry, one_target, no_target, switch_targets}
use Rattle.rules.proofs.Instruction.target_count.Goals as goal

pub index-requires : goal.index-requires
index-requires c =
    let S = script_of c.args.self.now.script.now in
    switch_index S _ c.args.self.now.wide (is_switch S _ _ c.flow.ensures c.in-Switch.is)

pub bounds-switches-words : goal.bounds-switches-words
bounds-switches-words c =
    let S = script_of c.args.self.now.script.now in
    omega (arith, switch_entry S _ c.requires (is_switch S _ _ c.flow.ensures c.in-Switch.is) _ c.index.ensures)

pub bounds-switches-words-in-Switch : goal.bounds-switches-words-in-Switch
bounds-switches-words-in-Switch c =
    let S = script_of c.args.self.now.script.now in
    omega (arith, switch_entry S _ c.requires (is_switch S _ _ c.flow.ensures c.in-Switch.is) _ c.index.ensures)

pub returns-in-IterNext-clause-count : goal.returns-in-IterNext-clause-count
returns-in-IterNext-clause-count c = one_target (script_of c.args.self.now.script.now) _ _ c.flow.ensures c.in-IterNext.is

pub returns-in-Switch-clause-count : goal.returns-in-Switch-clause-count
returns-in-Switch-clause-count c =
    switch_targets (script_of c.args.self.now.script.now) _ _ c.flow.ensures c.in-Switch.is _ c.index.ensures

pub returns-in_default-clause-count : goal.returns-in_default-clause-count
returns-in_default-clause-count c =
    let n = c.in_default in
    no_target (script_of c.args.self.now.script.now) _ _ c.flow.ensures
    n.not-IterNext n.not-PushHandler n.not-Branch n.not-Jump n.not-Switch
