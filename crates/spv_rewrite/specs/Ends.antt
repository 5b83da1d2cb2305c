-- Where blocks end, as the program keeps it.
use Rattle.std.specs.Prelude.{◌≡◌, ℕ, ◌<◌, ◌&&◌, ◌==◌, true, if◌then◌else◌, List, length, take, Some}
use Rattle.spirv_model.specs.declared.module.Inst.{Inst}
use Rattle.spirv_model.specs.declared.op.TheConstants.{LABEL}
use Rattle.spirv_model.specs.Operands.{word_at}
use Rattle.body_model.specs.Classes.{is_terminator}
use Rattle.valid_model.specs.Definitions.{inst_at}
use Rattle.check_model.specs.Branches.{label_behind}
use Rattle.id_table.specs.declared.table.IdTable.{IdTable}
use Rattle.id_table.specs.Tables.{at}

-- the label behind one more instruction
abbrev pub next_label : Inst → ℕ → ℕ
next_label inst label = if inst.op == LABEL then word_at 0 inst else label

-- the table has the terminators of the first instructions, by the labels of their blocks
abbrev pub AreEndsUpTo : ℕ → List Inst → IdTable ℕ → Type 0
AreEndsUpTo count insts ends =
    (place : ℕ) → place < count → is_terminator (inst_at insts place).op ≡ true → at ends (label_behind 0 (take place insts)) ≡ Some place

abbrev pub AreEnds : List Inst → IdTable ℕ → Type 0
AreEnds insts ends = AreEndsUpTo (length insts) insts ends

-- the block with a label ends at a place, if the instruction there is a terminator
abbrev pub AddsEnd : ℕ → Inst → ℕ → IdTable ℕ → IdTable ℕ → Type 0
AddsEnd label inst place old new =
    (other : ℕ) → at new other ≡ (if is_terminator inst.op && (label == other) then Some place else at old other)
