-- Results that are used.
use Rattle.std.specs.Prelude.{ℕ, ◌==◌, Bool, true, not, ◌&&◌, ◌||◌, List, Option, None, Some}
use Rattle.std.specs.List.{list_all, list_any}
use Rattle.spirv_model.specs.declared.module.Inst.{Inst}
use Rattle.spirv_model.specs.declared.op.TheConstants as op
use Rattle.spirv_model.specs.Operands.{ids, result}
use Rattle.body_model.specs.Switches.{is_among}
use Rattle.valid_model.specs.Definitions.{inst_at}
use Rattle.unit_model.specs.ConstantScalars.{function_places}

-- an instruction of the function other than the one at this place names the id
abbrev pub is_used_elsewhere : List Inst → (place id : ℕ) → Bool
is_used_elsewhere insts place id =
    list_any (λ other. not (other == place) && is_among id (ids (inst_at insts other))) (function_places insts)

-- it has no result, or its result is used by another instruction
abbrev pub is_result_used : List Inst → ℕ → Option ℕ → Bool
is_result_used insts place None = true
is_result_used insts place (Some id) = is_used_elsewhere insts place id

-- a label, which only names its block, and the function itself
abbrev pub is_no_value : ℕ → Bool
is_no_value opcode = (opcode == op.LABEL) || (opcode == op.FUNCTION)

-- each result of an instruction in a block is used by another instruction of the function
abbrev pub uses_all_results : List Inst → Bool
uses_all_results insts = list_all
    (λ place. is_no_value (inst_at insts place).op || is_result_used insts place (result (inst_at insts place)))
    (function_places insts)
