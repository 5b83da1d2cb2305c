-- What a module uses of its layout, part by part.
use Rattle.std.specs.Prelude.{ℕ, ◌+◌, ◌*◌, Bool, nat_lt, List, [], map, Option, None, Some, unwrap_or}
use Rattle.std.specs.List.{list_any, range_with_len}
use Rattle.spirv_model.specs.declared.decoration.TheConstants.{ARRAY_STRIDE}
use Rattle.spirv_model.specs.declared.module.Inst.{Inst}
use Rattle.valid_model.specs.declared.meaning.Meaning.{Meaning}
use Rattle.valid_model.specs.declared.meaning.Meaning.TheVariants.{Shape, Variable}
use Rattle.valid_model.specs.declared.meaning.Shape.TheVariants.{Array, Struct}
use Rattle.stage_model.specs.Program.{Program, program_of, shifted, component_offsets, member_offsets, members_offsets}

-- a word at this offset ends behind the limit, in bytes
abbrev pub is_behind : ℕ → ℕ → Bool
is_behind limit offset = nat_lt limit (offset + 4)

-- some of these words does
abbrev pub are_behind : ℕ → List ℕ → Bool
are_behind limit offsets = list_any (is_behind limit) offsets

-- the same of the words of an integer or a vector of integers at an offset
abbrev pub components_behind : ℕ → ℕ → Meaning → Bool
components_behind limit base meaning = are_behind limit (shifted base (component_offsets meaning))

-- the same of so many integers
abbrev pub vector_behind : (limit base count : ℕ) → Bool
vector_behind limit base count = are_behind limit (shifted base (map (λ i. 4 * i) (range_with_len 0 count)))

-- the same of so many elements from an offset on
abbrev pub elements_behind : (limit base count stride : ℕ) → Meaning → Bool
elements_behind limit base count stride meaning = list_any (λ i. components_behind limit (base + i * stride) meaning) (range_with_len 0 count)

-- the same of a member of a block
abbrev pub member_behind : List Inst → (limit base type : ℕ) → Bool
member_behind insts limit base type = are_behind limit (shifted base (member_offsets (program_of insts) type ((program_of insts).meaning type)))

-- the same of the members of a block from one on
abbrev pub members_behind : List Inst → (limit block member : ℕ) → List ℕ → Bool
members_behind insts limit block member types = are_behind limit (members_offsets (program_of insts) block member types)

-- ---- parts of a meaning

abbrev pub variable_type : Meaning → Option ℕ
variable_type (Variable type class) = Some type
variable_type meaning = None

abbrev pub members_of : Meaning → List ℕ
members_of (Shape (Struct members)) = members.list
members_of meaning = []

abbrev pub array_of : Meaning → Option (ℕ × ℕ)
array_of (Shape (Array element count)) = Some (element, count)
array_of meaning = None

-- from an element of an array to the next, in bytes
abbrev pub stride_in : Program → ℕ → ℕ
stride_in program type = unwrap_or (program.decoration type ARRAY_STRIDE) 0
