use Rattle.std.proofs.Common.{◌∙◌, ap, Some}
use Rattle.scalar_model.specs.declared.scalar_value.Scalar.{Scalar}
use Rattle.spec_fold.proofs.Switched.{switched}
use Rattle.spec_fold.proofs.scalars.switched_target.Goals as goal

pub returns : goal.returns
returns c =
    switched c.args.known c.in-Word.selector c.target_for-target.result c.word.result c.words_from.result.now c.args.inst.now
    (c.in_ok-selector.was ∙ ap (λ (s : Scalar). Some s) c.in-Word.is) c.target_for-target.ensures c.word.ensures c.words_from.ensures
