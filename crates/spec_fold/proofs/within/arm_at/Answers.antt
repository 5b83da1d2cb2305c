use Rattle.std.proofs.Common.{◌<◌, sym, ◌∙◌, subst, ℕ}
use Rattle.typed_model.proofs.ValidTypes.{defined_within}
use Rattle.spec_fold.proofs.within.arm_at.Goals as goal

pub bounds-limits-first : goal.bounds-limits-first
bounds-limits-first c =
    subst (λ (n : ℕ). c.in_ok-first.first < n) (sym c.requires.limits.for_each)
    (defined_within c.args.of.now.insts c.word-2.result c.in_ok-first.first (sym c.definition_of.ensures ∙ c.in_ok-first.was))
