use Rattle.std.proofs.Common.{ap, sym, ◌∙◌}
use Rattle.frame_model.specs.Frame.{variable_words}
use Rattle.stage_model.specs.Program.{program_of}
use Rattle.spv_exec.proofs.FirstOutputs.{outputs_kept_by, outputs_added_by}
use Rattle.spv_exec.proofs.outputs.with_output.Goals as goal

pub returns-then-not-is_output : goal.returns-then-not-is_output
returns-then-not-is_output c =
    outputs_kept_by c.args.of.now.insts c.args.place c.inst-inst.result.now c.args.outputs c.is_output.result c.requires.within c.inst-inst.ensures c.is_output.ensures c.if-not-is_output.true c.requires.before

pub returns : goal.returns
returns c =
    outputs_added_by c.args.of.now.insts c.args.place c.inst-inst.result.now c.args.outputs _ _ c.is_output.result c.word.result c.word-2.result c.built_in.result c.location.result c.requires.within c.inst-inst.ensures
    c.is_output.ensures c.if-not-is_output.false c.memory_place.ensures (c.memory_words.ensures ∙ ap (variable_words (program_of c.args.of.now.insts)) (sym c.inst-inst.ensures)) c.requires.before
    c.word.ensures c.built_in.ensures c.word-2.ensures c.location.ensures c.with_position.ensures c.with_slot.ensures.length c.with_slot.ensures.first
