use Rattle.std.proofs.Common.{None, rules}
use Rattle.std.proofs.lemmas.List.FromFn.{fill_by_all}
use Rattle.state_key.specs.Unpacked.{set_of, layout_of}
use Rattle.limits.specs.declared.TheConstants.{DESCRIPTOR_SETS}
use Rattle.state_key.proofs.unpack.layout_of.Goals as goal

pub returns : goal.returns
unfolding layout_of
returns c =
    let same = fill_by_all (set_of c.field-defined.result c.field-masks.result) c.loop-set.sets DESCRIPTOR_SETS None c.loop-set.invariant.count (search rules) in
    search (rules, same)
