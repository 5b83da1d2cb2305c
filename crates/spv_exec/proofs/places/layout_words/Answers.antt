use Rattle.std.proofs.Common.{◌∙◌, subst, sym, ℕ, ◌≤◌}
use Rattle.limits.specs.declared.TheConstants.{TYPE_WORDS}
use Rattle.frame_model.proofs.KnownSizes.{known_size, known_few}
use Rattle.spv_exec.proofs.places.layout_words.Goals as goal

pub returns-clause-is : goal.returns-clause-is
returns-clause-is c = c.size.ensures ∙ (c.ids.ensures.sizes c.args.ty ∙ known_size c.args.of.now.insts c.args.ty)

pub returns-clause-few : goal.returns-clause-few
returns-clause-few c = subst (λ (n : ℕ). n ≤ TYPE_WORDS) (sym (c.size.ensures ∙ c.ids.ensures.sizes c.args.ty)) (known_few c.args.of.now.insts c.args.ty)
