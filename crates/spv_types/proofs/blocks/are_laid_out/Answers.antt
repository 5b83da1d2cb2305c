use Rattle.std.proofs.Common.{◌∙◌, sym}
use Rattle.spv_types.specs.FactsIn.{facts_in}
use Rattle.spv_types.proofs.Layouts.{laid_more, laid_not}
use Rattle.spv_types.proofs.blocks.are_laid_out.Goals as goal

pub returns-then-not-is_laid_out : goal.returns-then-not-is_laid_out
returns-then-not-is_laid_out c =
    sym (laid_not (facts_in c.args.whole.now) c.args.id c.args.types.now c.loop-member.member c.loop-member-test.true c.loop-member.invariant
    (sym c.is_laid_out.ensures ∙ c.if-not-is_laid_out.true))

pub loop-member-preserved : goal.loop-member-preserved
loop-member-preserved c =
    laid_more (facts_in c.args.whole.now) c.args.id c.args.types.now c.loop-member.member c.loop-member-test.true c.loop-member.invariant
    (sym c.is_laid_out.ensures ∙ c.if-not-is_laid_out.false)
