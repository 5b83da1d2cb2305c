use Rattle.std.proofs.Common.{◌≡◌, ℕ, ◌<◌, ◌^◌, drop, Some}
use Rattle.stage_model.specs.Value.{Layout, part_along}
use Rattle.stage_model.specs.Program.{program_of}
use Rattle.spv_exec.proofs.PartStarts.{Reaches}
use Rattle.spv_exec.proofs.composites.part_start.Given as goal

-- the other literals lead on to the part
abbrev pub invariant-loop-literal : goal.invariant-loop-literal
invariant-loop-literal l = (layout part : Layout) (start : ℕ) → (program_of l.of.insts).layout l.ty ≡ Some layout → start < 2 ^ 64 → part_along layout l.literals ≡ Some (start, part)
    → Reaches (program_of l.of.insts) l.whole (drop l.literal-index l.literals) start part l.start
