use Rattle.std.proofs.Common.{arith}
use Rattle.std.proofs.lemmas.Grind.{common_steps}
use Rattle.valid_model.specs.Definitions.{definition}
use Rattle.spv_types.proofs.Passing.{definition_more}
use Rattle.spv_types.proofs.definitions.definitions.Goals as goal

pub loop-place-init : goal.loop-place-init
unfolding definition
loop-place-init c = λ id. grind (arith, common_steps)

pub loop-place-preserved : goal.loop-place-preserved
loop-place-preserved c = λ id.
    definition_more c.args.insts.now id c.loop-place.place _ _ c.inst_at.result.now (omega arith) (c.loop-place.invariant id) c.inst_at.ensures (c.in_ok-define_place.ensures id)
