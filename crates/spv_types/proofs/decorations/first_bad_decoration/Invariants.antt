use Rattle.std.proofs.Common.{◌≡◌, ℕ, ◌<◌, false, take}
use Rattle.valid_model.specs.Decorations.{bad_decoration}
use Rattle.spv_types.specs.FactsIn.{facts_in, before_in}
use Rattle.spv_types.specs.Standing.{StandsFor}
use Rattle.spv_types.proofs.decorations.first_bad_decoration.Given as goal

abbrev pub invariant-loop-place : goal.invariant-loop-place
invariant-loop-place l = record {
  stands : StandsFor (facts_in l.whole) (take l.place l.whole.insts.now) (before_in l.seen);
  sound : (at : ℕ) → at < l.place → bad_decoration l.whole.insts.now at ≡ false;
}
