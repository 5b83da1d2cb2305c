use Rattle.std.proofs.Common.{◌≡◌, ◌++◌, take}
use Rattle.std.specs.List.{flat_map}
use Rattle.trace_model.specs.PlayText.{refused_text}
use Rattle.trace_text.proofs.print_rules.push_refusals.Given as goal

abbrev pub invariant-loop-draw : goal.invariant-loop-draw
invariant-loop-draw l = l.text.items ≡ l.fn.text.items ++ flat_map refused_text (take l.draw-index l.refused)
