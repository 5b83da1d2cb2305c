use Rattle.std.proofs.Common.{◌≤◌, List, length, subst}
use Rattle.spirv_model.specs.declared.module.Inst.{Inst}
use Rattle.spec_fold.proofs.Passed.{passed}
use Rattle.spec_fold.proofs.pass.pass_with.Goals as goal

pub returns : goal.returns
returns c =
    passed c.args.facts.now c.loop-place.walk c.loop-place.place (subst (λ (l : List Inst). length l ≤ c.loop-place.place) c.insts-place-end.ensures.are c.loop-place-test.false) c.loop-place.invariant
