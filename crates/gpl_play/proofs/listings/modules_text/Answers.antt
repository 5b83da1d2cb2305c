use Rattle.std.proofs.Common.{ap, length, arith}
use Rattle.std.specs.List.{flat_map, enumerate_from}
use Rattle.listing_model.specs.ModuleTexts.{module_text}
use Rattle.gpl_play.proofs.SeveralModules.{one_more}
use Rattle.gpl_play.proofs.listings.modules_text.Goals as goal

pub loop-module-preserved : goal.loop-module-preserved
loop-module-preserved c = record {
  same = one_more c.loop-module.text.items c.push_module.new.text.items (flat_map module_text (enumerate_from 0 c.args.modules.now)) c.loop-module.number
      c.in-Some.«module».now c.loop-module.rest.now c.in-Some.others.now c.in-Some.ensures.cases.0 c.loop-module.invariant.same c.in_ok-push_module.ensures;
  place = omega (arith, ap length c.in-Some.ensures.cases.0, c.loop-module.invariant.place);
}
