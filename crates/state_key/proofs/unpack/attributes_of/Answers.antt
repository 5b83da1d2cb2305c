use Rattle.std.proofs.Common.{None, rules}
use Rattle.std.proofs.lemmas.List.FromFn.{fill_by_all}
use Rattle.state_key.specs.Unpacked.{attribute_at, attributes_of}
use Rattle.limits.specs.declared.TheConstants.{LOCATIONS}
use Rattle.state_key.proofs.unpack.attributes_of.Goals as goal

pub returns : goal.returns
unfolding attributes_of
returns c =
    fill_by_all (attribute_at c.args.key.now) c.loop-i.attributes LOCATIONS None c.loop-i.invariant.count (search rules)
