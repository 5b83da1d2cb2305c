use Rattle.std.proofs.Common.{rules}
use Rattle.std.proofs.lemmas.List.FromFn.{fill_by_all}
use Rattle.limits.specs.declared.TheConstants.{COMPONENTS}
use Rattle.draw_model.specs.Fetch.{attribute_component}
use Rattle.vertex_lib.proofs.read_components.Goals as goal

pub returns : goal.returns
returns c =
    fill_by_all (attribute_component c.args.buffers.now c.args.number c.args.attribute c.args.start) c.loop-i.words COMPONENTS 0 c.loop-i.invariant.0 (search rules)
