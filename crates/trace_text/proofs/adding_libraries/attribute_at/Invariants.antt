use Rattle.std.proofs.Common.{◌≡◌, drop}
use Rattle.trace_text.specs.LibraryLines.{attribute_at}
use Rattle.trace_text.proofs.adding_libraries.attribute_at.Given as goal

abbrev pub invariant-loop-a : goal.invariant-loop-a
invariant-loop-a l = attribute_at (drop l.a-index l.attributes) l.location ≡ attribute_at l.attributes l.location
