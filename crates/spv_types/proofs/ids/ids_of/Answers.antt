use Rattle.std.proofs.Common.{List, sym, subst, ◌∙◌}
use Rattle.spirv_model.specs.declared.module.Inst.{Inst}
use Rattle.spv_types.specs.Decorated.{AreDecorationsOf}
use Rattle.spv_types.specs.Tables.{HasPlaces}
use Rattle.spv_types.proofs.FirstFaults.{fails_by, meanings, sizes}
use Rattle.spv_types.proofs.ids.ids_of.Goals as goal

pub returns-in-Some : goal.returns-in-Some
returns-in-Some c = fails_by c.args.words.now c.in-Some.fault (sym c.in_ok-fault.ensures ∙ c.in-Some.is)

pub returns-in-None : goal.returns-in-None
returns-in-None c =
    let are : AreDecorationsOf c.args.words.now.insts c.in_ok-decorations.decorations =
    subst (λ (insts : List Inst). AreDecorationsOf insts c.in_ok-decorations.decorations) c.as_slice-insts.ensures c.in_ok-decorations.ensures in
    record {
      sound = sym c.in_ok-fault.ensures ∙ c.in-None.is;
      meanings = meanings c.args.words.now c.in_ok-pass.pass c.in_ok-pass.ensures;
      places =
          subst (λ (insts : List Inst). HasPlaces c.in_ok-places.places insts) c.as_slice-insts.ensures c.in_ok-places.ensures;
      sizes = sizes c.args.words.now c.in_ok-pass.pass c.in_ok-pass.ensures;
      decorations = are.words;
      offsets = are.offsets;
    }
