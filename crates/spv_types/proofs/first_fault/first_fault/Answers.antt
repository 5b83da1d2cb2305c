use Rattle.std.proofs.Common.{List, length, ◌∙◌, subst}
use Rattle.spirv_model.specs.declared.module.Inst.{Inst}
use Rattle.spv_types.specs.FirstBad.{FindsFirstBad}
use Rattle.spv_types.specs.Tables.{FindsFirst}
use Rattle.spv_types.proofs.FirstFaults.{with_found, without}
use Rattle.spv_types.proofs.first_fault.first_fault.Goals as goal

pub returns-in_ok-bad-in-Some : goal.returns-in_ok-bad-in-Some
returns-in_ok-bad-in-Some c =
    c.bad_or.ensures
    ∙ with_found c.args.words.now c.in-Some.found c.in_ok-bad-in-Some.bad
    (subst (FindsFirst c.args.words.now (length c.args.words.now.insts)) c.in-Some.is c.requires.over.found)
    (subst (λ (insts : List Inst). FindsFirstBad insts c.in-Some.found.place c.in_ok-bad-in-Some.bad) c.as_slice-insts.ensures c.in_ok-bad-in-Some.ensures)

pub returns-in_ok-bad-in-None : goal.returns-in_ok-bad-in-None
returns-in_ok-bad-in-None c =
    c.bad_or-in-None.ensures
    ∙ without c.args.words.now c.in_ok-bad-in-None.bad
    (subst (FindsFirst c.args.words.now (length c.args.words.now.insts)) c.in-None.is c.requires.over.found)
    (subst (λ (insts : List Inst). FindsFirstBad insts (length insts) c.in_ok-bad-in-None.bad) c.as_slice-insts.ensures c.in_ok-bad-in-None.ensures)
