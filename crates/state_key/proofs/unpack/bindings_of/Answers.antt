use Rattle.std.proofs.Common.{None, rules}
use Rattle.std.proofs.lemmas.List.FromFn.{fill_by_all}
use Rattle.state_key.specs.Unpacked.{binding_at, bindings_of}
use Rattle.limits.specs.declared.TheConstants.{VERTEX_BINDINGS}
use Rattle.state_key.proofs.unpack.bindings_of.Goals as goal

pub returns : goal.returns
unfolding bindings_of
returns c =
    fill_by_all (binding_at c.args.key.now) c.loop-i.bindings VERTEX_BINDINGS None c.loop-i.invariant.count (search rules)
