-- Worked lists: the first bad decoration, by computing.
use Rattle.std.proofs.Common.{◌≡◌, ℕ, true, false, List, [], ◌∷◌, ◌++◌, map, refl}
use Rattle.spirv_model.specs.declared.module.Inst.{Inst}
use Rattle.spirv_model.specs.declared.op.TheConstants as op
use Rattle.spirv_model.specs.declared.storage_class.TheConstants as storage_class
use Rattle.spirv_model.specs.declared.builtin.TheConstants as builtin
use Rattle.spirv_model.specs.declared.decoration.TheConstants as decoration
use Rattle.spirv_model.specs.Operands.{entry_of, class_of, result}
use Rattle.valid_model.specs.Definitions.{definition}
use Rattle.valid_model.specs.Meanings.{known_of, known_after, known_by}
use Rattle.valid_model.specs.Types.{type_of}
use Rattle.valid_model.specs.DecorationWords.{decoration_of, offset_of}
use Rattle.valid_model.specs.Decorations.{bad_decorate, bad_member_decorate, breaks_decorations, bad_decoration}
use Rattle.valid_model.specs.EarlierFacts.{before_of}
use Rattle.valid_model.specs.ModuleFacts.{opcode_of, model_of, facts_of}
use Rattle.valid_model.specs.Variables.{bad_variable}

abbrev inst : ℕ → List ℕ → Inst
inst opcode words = record { op = opcode; words = words }

-- a signed integer with the id 1, four of them with the id 2, and pointers to both
abbrev types : List Inst
types =
    inst op.TYPE_INT (1 ∷ 32 ∷ 1 ∷ []) ∷ inst op.TYPE_VECTOR (2 ∷ 1 ∷ 4 ∷ [])
    ∷ inst op.TYPE_POINTER (3 ∷ storage_class.INPUT ∷ 1 ∷ []) ∷ inst op.TYPE_POINTER (4 ∷ storage_class.OUTPUT ∷ 2 ∷ []) ∷ []

abbrev decorate : ℕ → ℕ → ℕ → Inst
decorate id decoration word = inst op.DECORATE (id ∷ decoration ∷ word ∷ [])

abbrev variable : ℕ → ℕ → ℕ → Inst
variable type id storage = inst op.VARIABLE (type ∷ id ∷ storage ∷ [])

abbrev vertex : Inst
vertex = inst op.ENTRY_POINT (0 ∷ 9 ∷ 0 ∷ [])

-- a position, an input with a location, and one without a place
abbrev interface : List Inst
interface =
    vertex ∷ decorate 5 decoration.BUILT_IN builtin.POSITION ∷ decorate 6 decoration.LOCATION 7
    ∷ (types ++ variable 4 5 storage_class.OUTPUT ∷ variable 3 6 storage_class.INPUT ∷ variable 3 7 storage_class.INPUT ∷ [])

pub interface-faults : map (bad_decoration interface) (0 ∷ 1 ∷ 2 ∷ 3 ∷ 7 ∷ 8 ∷ 9 ∷ 10 ∷ [])
    ≡ false ∷ false ∷ false ∷ false ∷ false ∷ false ∷ true ∷ false ∷ []
unfolding entry_of class_of result definition type_of known_of known_after known_by decoration_of offset_of opcode_of model_of facts_of before_of bad_decorate bad_member_decorate bad_variable breaks_decorations bad_decoration
interface-faults = refl

-- a structure of two integers at 0 and 4 in set 1 at binding 2, and the same slot again
abbrev block : List Inst
block =
    inst op.DECORATE (2 ∷ decoration.BLOCK ∷ []) ∷ inst op.MEMBER_DECORATE (2 ∷ 0 ∷ decoration.OFFSET ∷ 0 ∷ [])
    ∷ inst op.MEMBER_DECORATE (2 ∷ 1 ∷ decoration.OFFSET ∷ 4 ∷ [])
    ∷ decorate 4 decoration.DESCRIPTOR_SET 1 ∷ decorate 4 decoration.BINDING 2 ∷ decorate 5 decoration.DESCRIPTOR_SET 1
    ∷ decorate 5 decoration.BINDING 2 ∷ decorate 1 decoration.SPEC_ID 0 ∷ decorate 2 decoration.BLOCK 0
    ∷ inst op.TYPE_INT (1 ∷ 32 ∷ 1 ∷ []) ∷ inst op.TYPE_STRUCT (2 ∷ 1 ∷ 1 ∷ []) ∷ inst op.TYPE_POINTER (3 ∷ storage_class.UNIFORM ∷ 2 ∷ [])
    ∷ variable 3 4 storage_class.UNIFORM ∷ variable 3 5 storage_class.UNIFORM ∷ []

pub block-faults : map (bad_decoration block) (0 ∷ 1 ∷ 2 ∷ 3 ∷ 6 ∷ 7 ∷ 8 ∷ 12 ∷ 13 ∷ [])
    ≡ false ∷ false ∷ false ∷ false ∷ false ∷ true ∷ true ∷ false ∷ true ∷ []
unfolding entry_of class_of result definition type_of known_of known_after known_by decoration_of offset_of opcode_of model_of facts_of before_of bad_decorate bad_member_decorate bad_variable breaks_decorations bad_decoration
block-faults = refl

-- a decoration with the greatest word that it may have, and with one more, on two ids
abbrev limits : List Inst
limits =
    decorate 1 decoration.LOCATION 7 ∷ decorate 2 decoration.LOCATION 8 ∷ decorate 1 decoration.DESCRIPTOR_SET 3 ∷ decorate 2 decoration.DESCRIPTOR_SET 4
    ∷ decorate 1 decoration.BINDING 7 ∷ decorate 2 decoration.BINDING 8 ∷ []

pub limit-faults : map (bad_decoration limits) (0 ∷ 1 ∷ 2 ∷ 3 ∷ 4 ∷ 5 ∷ []) ≡ false ∷ true ∷ false ∷ true ∷ false ∷ true ∷ []
unfolding entry_of class_of result definition type_of known_of known_after known_by decoration_of offset_of opcode_of model_of facts_of before_of bad_decorate bad_member_decorate bad_variable breaks_decorations bad_decoration
limit-faults = refl
