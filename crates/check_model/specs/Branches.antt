-- The blocks of a function, and which of them branch to which.
use Rattle.std.specs.Prelude.{ℕ, ◌+◌, ◌==◌, Bool, if◌then◌else◌, List, [], ◌∷◌, map, filter, Option}
use Rattle.std.specs.List.{find}
use Rattle.std.specs.Option.{option_map}
use Rattle.spirv_model.specs.declared.module.Inst.{Inst}
use Rattle.spirv_model.specs.declared.op.TheConstants.{LABEL}
use Rattle.spirv_model.specs.Operands.{word_at}
use Rattle.body_model.specs.Classes.{is_terminator}
use Rattle.body_model.specs.Switches.{is_among}
use Rattle.body_model.specs.Targets.{targets}

-- a block: its label, the place of its terminator, and the labels that this names
pub record Block : Type 0 where
  pub label : ℕ
  pub end : ℕ
  pub targets : List ℕ

-- the blocks that end in these instructions, the first of which stands at a place, in the block with this label
abbrev pub blocks_from : ℕ → ℕ → List Inst → List Block
blocks_from label place [] = []
blocks_from label place (inst ∷ insts) =
    if inst.op == LABEL then blocks_from (word_at 0 inst) (place + 1) insts
    else if is_terminator inst.op then record { label = label; end = place; targets = targets inst } ∷ blocks_from label (place + 1) insts
    else blocks_from label (place + 1) insts

unfoldable pub blocks_of : List Inst → List Block
blocks_of insts = blocks_from 0 0 insts

abbrev pub leads_to : ℕ → Block → Bool
leads_to label block = is_among label block.targets

-- the labels of the blocks that branch to a block, each once
unfoldable pub predecessors : List Inst → ℕ → List ℕ
predecessors insts label = map (λ (block : Block). block.label) (filter (leads_to label) (blocks_of insts))

abbrev pub is_labelled : ℕ → Block → Bool
is_labelled label block = block.label == label

-- the place of a block's terminator
unfoldable pub block_end_of : List Inst → ℕ → Option ℕ
block_end_of insts label = option_map (λ (block : Block). block.end) (find (is_labelled label) (blocks_of insts))

-- the label of the block that these instructions end in
abbrev pub label_behind : ℕ → List Inst → ℕ
label_behind label [] = label
label_behind label (inst ∷ insts) = label_behind (if inst.op == LABEL then word_at 0 inst else label) insts
