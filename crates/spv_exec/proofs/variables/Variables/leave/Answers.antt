use Rattle.std.proofs.Common.{◌∙◌, subst}
use Rattle.spirv_model.specs.declared.module.Words.{Words}
use Rattle.spv_exec.specs.Variables.{IsVariables}
use Rattle.spv_exec.proofs.OutputsLeft.{position_is, slots_are}
use Rattle.spv_exec.proofs.variables.Variables.leave.Goals as goal

pub returns-clause-position : goal.returns-clause-position
returns-clause-position c = λ held shows.
    let is = subst (λ (w : Words). IsVariables w c.self.inside.fills.items c.self.inside.outputs) c.self.view_is c.self.invariant in
    c.put_position.ensures ∙ position_is c.args.self.now is.valid c.args.memory.now held c.self.inside.outputs is.left_in shows

pub returns-clause-slots : goal.returns-clause-slots
returns-clause-slots c = λ held shows.
    let is = subst (λ (w : Words). IsVariables w c.self.inside.fills.items c.self.inside.outputs) c.self.view_is c.self.invariant in
    c.put_slots.ensures ∙ slots_are c.args.self.now is.valid c.args.memory.now held c.self.inside.outputs is.left_in shows
