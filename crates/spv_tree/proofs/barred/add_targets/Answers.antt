use Rattle.std.proofs.Common.{ap, ◌∙◌}
use Rattle.body_model.specs.Switches.{cases_of}
use Rattle.spv_tree.proofs.TargetTables.{switch_told}
use Rattle.spv_tree.proofs.barred.add_targets.Goals as goal

pub returns : goal.returns
returns c =
    switch_told c.add_cases.result c.args.targets.now c.add_pair.new.targets c.add_cases.new.targets c.args.place c.word.result c.args.inst.now c.in_ok-cases.cases.items c.as_slice-2.result.now
    c.if-inst-ne-SWITCH.false c.word.ensures c.as_slice-2.ensures.value (c.in_ok-cases.ensures ∙ ap cases_of c.as_slice.ensures) c.in_ok-add_pair.ensures c.add_cases.ensures
