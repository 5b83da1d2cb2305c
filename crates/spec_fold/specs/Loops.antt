-- Which loops an instruction tells of.
use Rattle.std.specs.Prelude.{ℕ, ◌==◌, ◌&&◌, not, Bool}
use Rattle.spirv_model.specs.declared.module.Inst.{Inst}
use Rattle.spirv_model.specs.declared.op.TheConstants.{LOOP_MERGE}
use Rattle.spirv_model.specs.Operands.{word_at}
use Rattle.spec_fold.specs.Sets.{has}
use Rattle.spec_fold.specs.declared.marks.Marks.{Marks}

-- an OpLoopMerge with this merge block
abbrev pub merges_to : Inst → ℕ → Bool
merges_to inst label = (inst.op == LOOP_MERGE) && (word_at 0 inst == label)

-- an OpLoopMerge in the block with this label, whose loop isn't in the set
abbrev pub heads_to : Marks → ℕ → Inst → ℕ → Bool
heads_to left own inst label = (inst.op == LOOP_MERGE) && (own == label) && not (has left (word_at 0 inst))
