use Rattle.std.proofs.Common.{false}
use Rattle.spec_fold.proofs.Turns.{by_parts, made_valid}
use Rattle.spec_fold.proofs.specialiser.changed_by.Goals as goal

pub valid_module-requires : goal.valid_module-requires
valid_module-requires c =
    let words = c.args.of.now in let walk = c.args.walk.now in
    let is = by_parts words walk c.as_slice.result.now c.as_slice-2.result.now c.in_ok-insts.insts (c.in_ok-insts.ensures (λ _. false)) c.as_slice.ensures.value c.as_slice-2.ensures.value in
    made_valid words c.bound-bound.ensures.valid c.args.zeros.now walk c.requires c.bound-bound.result c.in_ok-insts.insts c.bound-bound.ensures.is is
