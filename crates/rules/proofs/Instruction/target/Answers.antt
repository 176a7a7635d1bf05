-- `rules::Instruction::target` meets its contract. A SWITCH's targets are its arms, and any other has only the one in
-- the code.
use mathlib.Core.Path.{◌∙◌}
use native.Mathlib.Omega.{arith}
use Rattle.rules.specs.FromLists.{script_of}
use Rattle.rules.proofs.Operands.{tag_there}
use Rattle.rules.proofs.Targets.{switch_index, arm_whole, arm_below, arm_target, target_index, only_target}
use Rattle.rules.proofs.Instruction.target.Goals as goal

pub bounds-script-self : goal.bounds-script-self
bounds-script-self c = tag_there _ _ c.args.self.now.wide

pub index-requires : goal.index-requires
index-requires c =
    switch_index (script_of c.args.self.now.script.now) _ c.args.self.now.wide c.if-script-self-eq-SWITCH.true

pub arm-requires : goal.arm-requires
arm-requires c =
    let S = script_of c.args.self.now.script.now in
    record {
      switch_whole =
          arm_whole S _ c.requires.below c.if-script-self-eq-SWITCH.true _ c.index.ensures c.requires.has_switch;
      k_in_bounds = arm_below S _ c.requires.below c.if-script-self-eq-SWITCH.true _ c.index.ensures;
    }

pub overflow_add-self : goal.overflow_add-self
overflow_add-self c =
    let S = script_of c.args.self.now.script.now in
    omega (arith, target_index S _ c.requires.below c.if-script-self-eq-SWITCH.false c.args.self.now.wide)

pub read-requires : goal.read-requires
read-requires c =
    let S = script_of c.args.self.now.script.now in
    omega (arith, target_index S _ c.requires.below c.if-script-self-eq-SWITCH.false c.args.self.now.wide)

pub returns-then-script-self-eq-SWITCH : goal.returns-then-script-self-eq-SWITCH
returns-then-script-self-eq-SWITCH c =
    arm_target (script_of c.args.self.now.script.now) _ c.requires.below c.if-script-self-eq-SWITCH.true
    _ c.index.ensures _ c.arm.ensures

pub returns-else-script-self-eq-SWITCH : goal.returns-else-script-self-eq-SWITCH
returns-else-script-self-eq-SWITCH c =
    c.read.ensures
    ∙ only_target (script_of c.args.self.now.script.now) _ c.requires.below c.if-script-self-eq-SWITCH.false
