use Rattle.std.proofs.Common.{◌≡◌, ◌+◌, ◌++◌, length}
use Rattle.std.specs.List.{flat_map, enumerate_from}
use Rattle.trace_model.specs.PlayText.{module_text}
use Rattle.trace_text.specs.Printed.{module_lines}
use Rattle.trace_text.proofs.print_modules.check_text.Given as goal

-- what is printed, and the modules that are left
abbrev pub invariant-loop-module : goal.invariant-loop-module
invariant-loop-module l = record {
  same : l.text.items ++ flat_map module_text (enumerate_from l.number l.rest) ≡ module_lines l.modules;
  place : l.number + length l.rest ≡ length l.modules;
}

abbrev pub decreases-loop-module : goal.decreases-loop-module
decreases-loop-module l = length l.rest
