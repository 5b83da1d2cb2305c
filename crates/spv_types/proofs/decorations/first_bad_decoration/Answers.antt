use Rattle.std.proofs.Common.{◌≡◌, ◌<◌, length, false, ◌∙◌, arith, below_more}
use Rattle.valid_model.specs.Decorations.{bad_decoration}
use Rattle.spv_types.specs.FactsIn.{facts_in, before_in}
use Rattle.spv_types.proofs.Standings.{bad_here, stands_more}
use Rattle.spv_types.proofs.decorations.first_bad_decoration.Goals as goal

pub loop-place-init : goal.loop-place-init
loop-place-init c = record {
  stands = c.no_earlier_facts-seen.ensures (facts_in c.args.whole.now);
  sound = λ at below. absurd (omega arith);
}

pub returns-then-breaks_decorations : goal.returns-then-breaks_decorations
returns-then-breaks_decorations c =
    let within : c.loop-place.place < length c.args.whole.now.insts.now = omega (arith, c.requires.within) in
    record {
      within = omega arith;
      bad =
          bad_here c.args.whole.now (before_in c.loop-place.seen) c.loop-place.place c.index-whole-place.result c.breaks_decorations.result c.requires.whole within
          c.loop-place.invariant.stands c.breaks_decorations.ensures ∙ c.if-breaks_decorations.true;
      before = c.loop-place.invariant.sound;
    }

pub loop-place-preserved : goal.loop-place-preserved
loop-place-preserved c =
    let within : c.loop-place.place < length c.args.whole.now.insts.now = omega (arith, c.requires.within) in
    record {
      stands =
          stands_more (facts_in c.args.whole.now) c.args.whole.now.insts.now c.loop-place.place c.index-whole-place.result
          (before_in c.loop-place.seen) (before_in c.add_inst.new.seen) within c.loop-place.invariant.stands c.in_ok-add_inst.ensures;
      sound =
          below_more (λ at. bad_decoration c.args.whole.now.insts.now at ≡ false) c.loop-place.place c.loop-place.invariant.sound
          (bad_here c.args.whole.now (before_in c.loop-place.seen) c.loop-place.place c.index-whole-place.result c.breaks_decorations.result c.requires.whole within
          c.loop-place.invariant.stands c.breaks_decorations.ensures ∙ c.if-breaks_decorations.false);
    }
