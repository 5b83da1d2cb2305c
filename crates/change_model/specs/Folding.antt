-- The next change: a scalar operation on constants becomes a constant with its id, at the end of the module's level (SPIR-V specification,
-- sections 3.49.7 "Constant-Creation Instructions" and 3.49.11 to 3.49.15).
use Rattle.std.specs.Prelude.{ℕ, suc, ◌-◌, List, [], ◌∷◌, ◌++◌, take, drop, Option, None, Some}
use Rattle.std.specs.Option.{option_map, option_and_then}
use Rattle.std.specs.List.{position_or_len}
use Rattle.spirv_model.specs.declared.module.Inst.{Inst}
use Rattle.spirv_model.specs.Operands.{word_at, words_from}
use Rattle.scalar_model.specs.declared.scalar_value.Scalar.{Scalar}
use Rattle.scalar_model.specs.Scalars.{scalar_result}
use Rattle.valid_model.specs.Definitions.{inst_at}
use Rattle.check_model.specs.EntryPoints.{is_op_function}
use Rattle.stage_model.specs.Value.{Value}
use Rattle.stage_model.specs.Start.{of_scalar}
use Rattle.change_model.specs.Constants.{scalar_constant}

-- where OpFunction stands
abbrev pub function_at : List Inst → ℕ
function_at insts = position_or_len is_op_function insts

-- the list in which the instruction at a place of the function is gone, and this constant stands before OpFunction
unfoldable pub moved_up : (place : ℕ) → Inst → List Inst → List Inst
moved_up place constant insts =
    take (function_at insts) insts ++ (constant ∷ (take (place - function_at insts) (drop (function_at insts) insts) ++ drop (suc place) insts))

-- the scalars that these ids are, if each is one
abbrev pub all_constants : (ℕ → Option Scalar) → List ℕ → Option (List Scalar)
all_constants constant [] = Some []
all_constants constant (id ∷ ids) = option_and_then (λ first. option_map (λ rest. first ∷ rest) (all_constants constant ids)) (constant id)

-- the value of a scalar operation whose operands are constants
abbrev pub folded_value : (ℕ → Option Scalar) → Inst → Option Value
folded_value constant inst = option_map of_scalar (option_and_then (scalar_result inst.op) (all_constants constant (words_from 2 inst)))

abbrev pub with_folded : ℕ → List Inst → Option Inst → List Inst
with_folded place insts None = insts
with_folded place insts (Some constant) = moved_up place constant insts

-- the list in which the operation at a place is folded, where ids are these constants
unfoldable pub folded_at : (ℕ → Option Scalar) → ℕ → List Inst → List Inst
folded_at constant place insts =
    with_folded place insts (scalar_constant (word_at 0 (inst_at insts place)) (word_at 1 (inst_at insts place)) (folded_value constant (inst_at insts place)))
