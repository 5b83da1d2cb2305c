-- Which instruction defines an id, and the faults IdTwice and IdOutOfBound (SPIR-V specification, sections 2.2.1
-- "Instructions" and 2.16 "Validation Rules").
use Rattle.std.specs.Prelude.{ℕ, suc, Bool, false, ◌&&◌, ◌==◌, nat_lt, if◌then◌else◌, List, [], ◌∷◌, Option, None, Some, not, slice_index_or}
use Rattle.std.specs.List.{list_all}
use Rattle.std.specs.Option.{option_map}
use Rattle.spirv_model.specs.declared.module.Inst.{Inst}
use Rattle.spirv_model.specs.Operands.{result, ids}
use Rattle.spirv_model.specs.declared.op.TheConstants as op

-- ---- places

-- what stands past the end
abbrev pub no_instruction : Inst
no_instruction = record { op = op.NOP; words = [] }

abbrev pub inst_at : List Inst → ℕ → Inst
inst_at insts place = slice_index_or insts place no_instruction

-- ---- which instruction defines an id

-- the instruction has this result
abbrev pub has_result : ℕ → Option ℕ → Bool
has_result id None = false
has_result id (Some own) = own == id

abbrev pub gives : ℕ → Inst → Bool
gives id inst = has_result id (result inst)

-- the place of the id's definition, which is the first instruction with this result
unfoldable pub definition : List Inst → ℕ → Option ℕ
definition [] id = None
definition (inst ∷ insts) id = if gives id inst then Some 0 else option_map (λ place. suc place) (definition insts id)

-- ---- IdTwice: the result of the instruction is that of an earlier one

abbrev pub is_earlier : Option ℕ → ℕ → Bool
is_earlier None place = false
is_earlier (Some at) place = nat_lt at place

abbrev pub twice_by : List Inst → ℕ → Option ℕ → Option ℕ
twice_by insts place None = None
twice_by insts place (Some id) = if is_earlier (definition insts id) place then Some id else None

-- the id that the instruction gives a meaning for the second time
unfoldable pub id_twice : List Inst → ℕ → Option ℕ
id_twice insts place = twice_by insts place (result (inst_at insts place))

-- ---- IdOutOfBound: an id of the instruction is 0 or isn't below the bound

unfoldable pub id_out_of_bound : ℕ → Inst → Bool
id_out_of_bound bound inst = not (list_all (λ id. nat_lt 0 id && nat_lt id bound) (ids inst))
