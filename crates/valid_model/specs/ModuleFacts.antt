-- What a whole module says, as far as the rules of decorations ask.
use Rattle.std.specs.Prelude.{ℕ, Bool, true, false, ◌==◌, List, Option, None, Some, is_some}
use Rattle.std.specs.List.{find}
use Rattle.std.specs.Option.{option_map, option_and_then}
use Rattle.spirv_model.specs.declared.class.Class.{Class}
use Rattle.spirv_model.specs.declared.class.Class.TheVariants.{SpecConstant}
use Rattle.spirv_model.specs.declared.decoration.TheConstants.{BUILT_IN}
use Rattle.spirv_model.specs.declared.execution_model.TheConstants.{VERTEX}
use Rattle.spirv_model.specs.declared.module.Inst.{Inst}
use Rattle.valid_model.specs.declared.meaning.Meaning.{Meaning}
use Rattle.spirv_model.specs.Operands.{word_at, class_of}
use Rattle.valid_model.specs.DecorationWords.{decoration_of, offset_of}
use Rattle.valid_model.specs.Definitions.{definition, inst_at}
use Rattle.valid_model.specs.Meanings.{meaning}
use Rattle.spirv_model.specs.declared.builtin.TheConstants as builtin
use Rattle.spirv_model.specs.declared.op.TheConstants as op

-- the opcode of the instruction at a place
abbrev pub opcode_at : List Inst → ℕ → ℕ
opcode_at insts place = (inst_at insts place).op

-- the opcode of the id's definition
unfoldable pub opcode_of : List Inst → ℕ → Option ℕ
opcode_of insts id = option_map (opcode_at insts) (definition insts id)

abbrev pub is_entry : Inst → Bool
is_entry inst = inst.op == op.ENTRY_POINT

-- the execution model of the first entry point
unfoldable pub model_of : List Inst → Option ℕ
model_of insts = option_map (word_at 0) (find is_entry insts)

-- what a whole module says, as far as the rules ask
pub record ModuleFacts : Type 0 where
  pub decoration : ℕ → ℕ → Option ℕ
  pub offset : ℕ → ℕ → Option ℕ
  pub opcode : ℕ → Option ℕ
  pub model : Option ℕ
  pub meaning : ℕ → Meaning

unfoldable pub facts_of : List Inst → ModuleFacts
facts_of insts = record {
  decoration = decoration_of insts;
  offset = offset_of insts;
  opcode = opcode_of insts;
  model = model_of insts;
  meaning = meaning insts;
}

abbrev pub is_decorated : ModuleFacts → ℕ → ℕ → Bool
is_decorated facts id decoration = is_some (facts.decoration id decoration)

abbrev pub is_word : ℕ → Option ℕ → Bool
is_word number None = false
is_word number (Some own) = own == number

-- the first entry point is that of a vertex shader
abbrev pub is_vertex : ModuleFacts → Bool
is_vertex facts = is_word VERTEX facts.model

-- the id has the built-in Position
abbrev pub has_position : ModuleFacts → ℕ → Bool
has_position facts id = is_word builtin.POSITION (facts.decoration id BUILT_IN)

abbrev pub is_spec_class : Option Class → Bool
is_spec_class (Some SpecConstant) = true
is_spec_class class = false

-- a specialization constant of its own
abbrev pub is_spec_op : Option ℕ → Bool
is_spec_op opcode = is_spec_class (option_and_then class_of opcode)
