use Rattle.std.proofs.Common.{◌≡◌, ◌<◌, List, length, refl, ap, sym, ◌∙◌, arith}
use Rattle.spirv_model.specs.declared.module.Inst.{Inst}
use Rattle.valid_model.specs.Definitions.{inst_at}
use Rattle.check_model.specs.Storage.{is_in_function}
use Rattle.check_model.specs.Validity.{first_use_fault, use_fault_at, use_fault}
use Rattle.spv_check.proofs.UsePasses.{found_at, first_at, one_more, inside_more}
use Rattle.spv_check.proofs.uses.use_fault.Goals as goal

pub loop-place-init : goal.loop-place-init
unfolding is_in_function
loop-place-init c = record {
  told = record { insts = c.as_slice-insts.ensures; ids = c.requires.ids; vertex = c.requires.vertex };
  inside = refl;
  faultless = λ intervals are. refl;
}

pub loop-place-preserved : goal.loop-place-preserved
loop-place-preserved c =
    let within : c.loop-place.place < length c.args.words.now.insts = omega (arith, ap length c.as_slice-insts.ensures) in
    let here = c.inst_at-inst.ensures ∙ ap (λ (insts : List Inst). inst_at insts c.loop-place.place) c.as_slice-insts.ensures in
    record {
      told = c.loop-place.invariant.told;
      inside = c.is_behind_function-in_function.ensures ∙ inside_more c.args.words.now.insts c.loop-place.place c.loop-place.in_function c.inst_at-inst.result.now within c.loop-place.invariant.inside here;
      faultless = λ intervals are.
          one_more (use_fault_at intervals c.args.words.now.insts) c.loop-place.place (c.loop-place.invariant.faultless intervals are)
          (sym (found_at c.args.words.now _ intervals c.args.hidden.now c.loop-place.place _ _ _ _ c.loop-place.invariant.told are within here c.hidden_at-hidden.ensures
          c.loop-place.invariant.inside c.use_fault_at.ensures) ∙ c.in_default.is);
    }

pub returns-in-Some : goal.returns-in-Some
unfolding use_fault
returns-in-Some c = λ intervals are.
    let within : c.loop-place.place < length c.args.words.now.insts = omega (arith, ap length c.as_slice-insts.ensures) in
    let here = c.inst_at-inst.ensures ∙ ap (λ (insts : List Inst). inst_at insts c.loop-place.place) c.as_slice-insts.ensures in
    first_at (use_fault_at intervals c.args.words.now.insts) c.loop-place.place (length c.args.words.now.insts) c.in-Some.fault within
    (c.loop-place.invariant.faultless intervals are)
    (sym (found_at c.args.words.now _ intervals c.args.hidden.now c.loop-place.place _ _ _ _ c.loop-place.invariant.told are within here c.hidden_at-hidden.ensures
    c.loop-place.invariant.inside c.use_fault_at.ensures) ∙ c.in-Some.is)

pub returns : goal.returns
unfolding use_fault
returns c = λ intervals are.
    let all : length c.args.words.now.insts ≡ c.loop-place.place = omega (arith, ap length c.as_slice-insts.ensures, c.loop-place-test.false, c.loop-place.auto.place-end) in
    sym (ap (first_use_fault (use_fault_at intervals c.args.words.now.insts)) all ∙ c.loop-place.invariant.faultless intervals are)
