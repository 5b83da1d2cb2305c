use Rattle.std.proofs.Common.{ap, ◌∙◌, length}
use Rattle.std.specs.Fmt.{decimal}
use Rattle.std.specs.Prelude.{codes}
use Rattle.spirv_model.specs.Module.{module_words}
use Rattle.state_model.specs.declared.iface.Iface.{Iface}
use Rattle.check_model.specs.declared.stage.Stage.{Stage}
use Rattle.check_model.specs.Interfaces.{inputs_of, outputs_of, stage_of}
use Rattle.trace_model.specs.PlayText.{location_count, stage_text}
use Rattle.trace_model.specs.SpecIds.{spec_ids_of}
use Rattle.trace_text.proofs.PrintedLines.{named, numbered, six_fields}
use Rattle.trace_text.proofs.print_modules.push_module.Goals as goal

pub returns : goal.returns
returns c =
    let m = c.args.«module».now in
    six_fields c.args.text.now.items (codes "code") (decimal c.args.number) (stage_text (stage_of m.insts))
    (decimal (location_count (inputs_of m.insts))) (decimal (location_count (outputs_of m.insts)))
    (decimal (length (spec_ids_of m.insts))) (decimal (length (module_words m.insts m.bound)))
    _ _ _ _ _ _ _ _ c.in_ok-extend_from_slice.ensures.items c.in_ok-push_number.ensures
    (named _ c.in_ok-push_field.ensures (c.stage_name.ensures ∙ ap (λ (s : Stage). stage_text s) c.stage.ensures))
    (numbered _ c.in_ok-push_number-2.ensures (c.location_count.ensures ∙ ap (λ (i : Iface). location_count i) c.inputs.ensures))
    (numbered _ c.in_ok-push_number-3.ensures (c.location_count-2.ensures ∙ ap (λ (i : Iface). location_count i) c.outputs.ensures))
    (numbered _ c.in_ok-push_number-4.ensures c.spec_id_count.ensures) (numbered _ c.in_ok-push_number-5.ensures c.word_count.ensures)
    c.in_ok-push.ensures.items
