use Rattle.std.proofs.Common.{◌≡◌, ℕ, ◌<◌, List, length, ap, ◌∙◌, subst}
use Rattle.spirv_model.specs.declared.module.Words.{Words}
use Rattle.frame_model.proofs.FirstTruths.{first_truths}
use Rattle.spv_exec.specs.declared.variables.Fill.{Fill}
use Rattle.spv_exec.specs.Variables.{IsVariables, filled}
use Rattle.spv_exec.proofs.OutputsLeft.{shows_filled}
use Rattle.spv_exec.proofs.variables.Variables.fill.Goals as goal

pub returns : goal.returns
returns c =
    let is = subst (λ (w : Words). IsVariables w c.self.inside.fills.items c.self.inside.outputs) c.self.view_is c.self.invariant in
    shows_filled c.args.self.now.insts c.self.inside.fills.items c.args.inputs.now c.args.buffers.now c.args.memory.now c.fill_in.new.memory (first_truths c.args.self.now is.valid c.args.inputs.now c.args.buffers.now) c.fill_in.auto.memory c.requires is.filled_in
    (λ at less. c.fill_in.ensures at less ∙ ap (λ (l : List Fill). filled c.args.inputs.now c.args.buffers.now l at) c.as_slice.ensures.value)
