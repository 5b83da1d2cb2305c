use Rattle.std.proofs.Common.{◌≡◌, length}
use Rattle.trace_text.specs.Taking.{repeat_locations}
use Rattle.trace_text.proofs.adding_libraries.repeat_locations.Given as goal

abbrev pub invariant-loop-first : goal.invariant-loop-first
invariant-loop-first l = repeat_locations l.rest ≡ repeat_locations l.attributes

abbrev pub decreases-loop-first : goal.decreases-loop-first
decreases-loop-first l = length l.rest
