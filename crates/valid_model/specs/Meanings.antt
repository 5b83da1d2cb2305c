-- What the ids of a module mean, by the first instruction with that result.
use Rattle.std.specs.Prelude.{ℕ, Bool, ◌&&◌, ◌||◌, ◌==◌, if◌then◌else◌, List, true, false, is_none, Option, Some, take}
use Rattle.std.specs.List.{fold}
use Rattle.std.specs.Option.{unwrap_or}
use Rattle.spirv_model.specs.declared.class.Class.{Class}
use Rattle.spirv_model.specs.declared.class.Class.TheVariants as class
use Rattle.spirv_model.specs.declared.module.Inst.{Inst}
use Rattle.valid_model.specs.declared.meaning.IdFacts.{IdFacts}
use Rattle.valid_model.specs.declared.meaning.Meaning.{Meaning}
use Rattle.valid_model.specs.declared.meaning.Meaning.TheVariants.{Constant, Variable, Value, Label, Other}
use Rattle.spirv_model.specs.Operands.{word_at, class_of}
use Rattle.valid_model.specs.Definitions.{gives}
use Rattle.valid_model.specs.Knowledge.{Knowledge, is_storage_class, meaning_in, means, nothing_known}
use Rattle.valid_model.specs.Types.{array_length, is_type, type_of}
use Rattle.spirv_model.specs.declared.op.TheConstants as op

abbrev pub is_constant_class : Option Class → Bool
is_constant_class (Some class.Constant) = true
is_constant_class (Some class.SpecConstant) = true
is_constant_class (Some class.SpecConstantResult) = true
is_constant_class other = false

-- the instruction makes a constant or a specialization constant
abbrev pub is_constant : ℕ → Bool
is_constant opcode = is_constant_class (class_of opcode)

abbrev pub constant_known : Knowledge → ℕ → ℕ → ℕ → IdFacts
constant_known known opcode type word = record {
  meaning = Constant type;
  size = 0;
  length = array_length opcode (meaning_in (known type)) word;
}

abbrev pub variable_meaning : ℕ → ℕ → Meaning
variable_meaning type class = if is_storage_class class then Variable type class else Other

abbrev pub other_meaning : ℕ → ℕ → Meaning
other_meaning opcode type =
    if opcode == op.LABEL then Label
    else if (opcode == op.FUNCTION) || (opcode == op.EXT_INST_IMPORT) then Other
    else Value type

-- what is known of the result of an instruction, by what is known before it
unfoldable pub known_of : Knowledge → Inst → IdFacts
known_of known inst =
    if is_type inst.op then unwrap_or (type_of known inst) (means Other)
    else if is_constant inst.op then constant_known known inst.op (word_at 0 inst) (word_at 2 inst)
    else if inst.op == op.VARIABLE then means (variable_meaning (word_at 0 inst) (word_at 2 inst))
    else means (other_meaning inst.op (word_at 0 inst))

-- what is known after one more instruction: more of its result, where that isn't defined yet
unfoldable pub known_after : Knowledge → Inst → Knowledge
known_after known inst id =
    if gives id inst && is_none (known id) then Some (known_of known inst) else known id

-- what is known after instructions
unfoldable pub known_by : List Inst → Knowledge
known_by insts = fold known_after nothing_known insts

-- what is known of the ids that are defined before a place
abbrev pub known_before : List Inst → ℕ → Knowledge
known_before insts place = known_by (take place insts)

-- what an id means in a module with these instructions
abbrev pub meaning : List Inst → ℕ → Meaning
meaning insts id = meaning_in (known_by insts id)
