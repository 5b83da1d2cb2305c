use Rattle.std.proofs.Common.{arith}
use Rattle.std.proofs.Math.Path.{fun_ext}
use Rattle.std.proofs.lemmas.Grind.{common_steps}
use Rattle.valid_model.specs.Meanings.{known_by}
use Rattle.spv_types.proofs.Passing.{known_step}
use Rattle.spv_types.proofs.pass.go_over.Goals as goal

pub loop-place-init : goal.loop-place-init
unfolding known_by
loop-place-init c = record {
  known = fun_ext (λ id. grind (arith, common_steps));
  first = λ place below. absurd (omega (arith, below));
}

pub loop-place-preserved : goal.loop-place-preserved
loop-place-preserved c = record {
  known = known_step c.as_slice-insts.result.now c.loop-place.place _ _ c.inst_at.result.now (omega arith) c.loop-place.invariant.known c.inst_at.ensures c.in_ok-define.ensures;
  first = c.earlier-found.ensures c.args.words.now c.loop-place.invariant.first c.in_ok-fault.ensures;
}
