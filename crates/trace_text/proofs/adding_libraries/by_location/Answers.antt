use Rattle.std.proofs.Common.{None, arith}
use Rattle.std.proofs.lemmas.List.FromFn.{fill_by_all}
use Rattle.trace_text.specs.LibraryLines.{attribute_at}
use Rattle.trace_text.proofs.adding_libraries.by_location.Goals as goal

pub returns : goal.returns
returns c = fill_by_all (attribute_at c.args.attributes.now) c.loop-i.places _ None c.loop-i.invariant.count (λ k within. c.loop-i.invariant.filled k None (omega (arith, within)))
