use Rattle.std.proofs.Common.{rules}
use Rattle.std.proofs.lemmas.List.FromFn.{fill_by_all}
use Rattle.limits.specs.declared.TheConstants.{COMPONENTS}
use Rattle.draw_model.specs.Pixel.{stored_component, stored_pixel}
use Rattle.output_lib.proofs.store_pixel.Goals as goal

pub returns : goal.returns
unfolding stored_pixel
returns c =
    fill_by_all (stored_component c.args.op c.args.mask c.args.s c.args.d) c.loop-i.pixel COMPONENTS 0 c.loop-i.invariant.0 (search rules)
