-- The entry point of a module (SPIR-V specification, section 2.16.2 "Validation Rules for Shader Capabilities"), and the fault
-- EntryCount: a module has one, which is that of a vertex or a fragment shader and names the function.
use Rattle.std.specs.Prelude.{ℕ, ◌==◌, Bool, false, ◌&&◌, ◌||◌, if◌then◌else◌, List, [], ◌∷◌, length, filter, Option, None, Some}
use Rattle.std.specs.List.{find}
use Rattle.std.specs.Option.{option_map}
use Rattle.spirv_model.specs.declared.module.Inst.{Inst}
use Rattle.spirv_model.specs.declared.op.TheConstants as op
use Rattle.spirv_model.specs.declared.execution_model.TheConstants.{VERTEX, FRAGMENT}
use Rattle.spirv_model.specs.Operands.{word_at}
use Rattle.valid_model.specs.ModuleFacts.{is_entry, is_word}

abbrev pub entry_points : List Inst → List Inst
entry_points insts = filter is_entry insts

abbrev pub is_op_function : Inst → Bool
is_op_function inst = inst.op == op.FUNCTION

-- the function's id
abbrev pub function_id : List Inst → Option ℕ
function_id insts = option_map (word_at 1) (find is_op_function insts)

-- an entry point of one of the two stages, into this function
abbrev pub is_shader_entry : Option ℕ → Inst → Bool
is_shader_entry function inst = ((word_at 0 inst == VERTEX) || (word_at 0 inst == FRAGMENT)) && is_word (word_at 1 inst) function

-- there is one entry point, and it is such a one
abbrev pub is_one_entry : Option ℕ → List Inst → Bool
is_one_entry function (entry ∷ []) = is_shader_entry function entry
is_one_entry function entries = false

-- the number of entry points, where they aren't that
unfoldable pub bad_entry_count : List Inst → Option ℕ
bad_entry_count insts =
    if is_one_entry (function_id insts) (entry_points insts) then None else Some (length (entry_points insts))
