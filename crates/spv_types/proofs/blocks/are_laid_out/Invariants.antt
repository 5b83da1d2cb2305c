use Rattle.std.proofs.Common.{◌≡◌, drop}
use Rattle.valid_model.specs.Blocks.{are_laid_out}
use Rattle.spv_types.specs.FactsIn.{facts_in}
use Rattle.spv_types.proofs.blocks.are_laid_out.Given as goal

abbrev pub invariant-loop-member : goal.invariant-loop-member
invariant-loop-member l = are_laid_out (facts_in l.whole) l.id 0 l.types ≡ are_laid_out (facts_in l.whole) l.id l.member (drop l.member l.types)
