use Rattle.std.proofs.Common.{ℕ, List, ap, ◌∙◌}
use Rattle.spirv_model.specs.declared.module.Inst.{Inst}
use Rattle.spec_fold.proofs.Turns.{settled_valid, specialised}
use Rattle.spec_fold.proofs.specialiser.specialise.Goals as goal

pub valid_module-requires : goal.valid_module-requires
valid_module-requires c = settled_valid c.args.of.now c.bound-bound.ensures.valid c.args.values.now c.bound-bound.result c.in_ok-insts.insts c.bound-bound.ensures.is c.in_ok-insts.ensures

pub returns : goal.returns
returns c =
    let words = c.args.of.now in
    let made = c.in_ok-first.ensures ∙ ap (λ (n : ℕ). record { bound = n; insts = c.in_ok-insts.insts }) c.bound-bound.ensures.is
    ∙ ap (λ (l : List Inst). record { bound = words.bound; insts = l }) c.in_ok-insts.ensures in
    specialised c.straightened.result words c.bound-bound.ensures.valid c.args.zeros.now c.args.values.now c.in_ok-first.first made c.straightened.ensures
