use Rattle.std.proofs.Common.{◌≡◌, ◌+◌, length, take}
use Rattle.std.specs.List.{flat_map}
use Rattle.spirv_model.specs.Module.{words_of}
use Rattle.trace_text.proofs.print_modules.words_of.Given as goal

abbrev pub invariant-loop-inst : goal.invariant-loop-inst
invariant-loop-inst l = l.count ≡ 5 + length (flat_map words_of (take l.inst-index l.insts))
