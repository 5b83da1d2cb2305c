use Rattle.std.proofs.Common.{◌≡◌, length}
use Rattle.std.specs.Prelude.{map}
use Rattle.body_model.specs.Switches.{repeat}
use Rattle.trace_text.proofs.module_parts.repeat_ids.Given as goal

abbrev pub invariant-loop-first : goal.invariant-loop-first
invariant-loop-first l = repeat (map (λ e. e.id) l.rest) ≡ repeat (map (λ e. e.id) l.entries)

abbrev pub decreases-loop-first : goal.decreases-loop-first
decreases-loop-first l = length l.rest
