-- Worked modules: what ids mean in them, and their faults, by computing.
use Rattle.std.proofs.Common.{◌≡◌, ℕ, true, List, [], ◌∷◌, ◌++◌, map, refl}
use Rattle.std.specs.Prelude.{None, Some, drop}
use Rattle.spirv_model.specs.declared.module.Inst.{Inst}
use Rattle.spirv_model.specs.declared.module.Words.{Words}
use Rattle.valid_model.specs.declared.meaning.Shape.TheVariants as shape
use Rattle.valid_model.specs.declared.meaning.Meaning.TheVariants as means
use Rattle.valid_model.specs.declared.type_fault.TypeFault.TheVariants.{IdTwice, IdOutOfBound, BadType, BadConstant}
use Rattle.spirv_model.specs.declared.op.TheConstants as op
use Rattle.spirv_model.specs.Module.{cut}
use Rattle.spirv_model.specs.Operands.{entry_of, class_of, kinds, ids, result}
use Rattle.valid_model.specs.Definitions.{definition, id_twice, id_out_of_bound}
use Rattle.valid_model.specs.Meanings.{known_of, known_after, known_by, meaning}
use Rattle.valid_model.specs.Types.{type_of, result_type, has_later_type, breaks_types}
use Rattle.valid_model.specs.Constants.{constant_fits}
use Rattle.valid_model.specs.FirstFault.{bad_type, bad_constant, rule_fault, type_fault}
use Rattle.valid_model.specs.DecorationWords.{decoration_of}
use Rattle.valid_model.specs.Decorations.{bad_decorate, breaks_decorations, bad_decoration}
use Rattle.valid_model.specs.EarlierFacts.{before_of}
use Rattle.valid_model.specs.ModuleFacts.{model_of, facts_of}
use Rattle.valid_model.specs.Variables.{bad_variable}
use Rattle.spirv_model.proofs.Samples.{point_module}

abbrev point_insts : List Inst
point_insts = (cut (drop 5 point_module)).insts

-- the ids below the bound of the vertex module of one point: eleven of them have a meaning
pub point-meanings : map (meaning point_insts) (0 ∷ 1 ∷ 2 ∷ 3 ∷ 4 ∷ 5 ∷ 6 ∷ 7 ∷ 8 ∷ 9 ∷ 10 ∷ 11 ∷ [])
    ≡ means.Absent
    ∷ means.Shape shape.Void
    ∷ means.Shape shape.Function
    ∷ means.Shape (shape.Int true)
    ∷ means.Shape (shape.IntVector 4 true)
    ∷ means.Shape (shape.Pointer 3 4)
    ∷ means.Variable 5 3
    ∷ means.Constant 3
    ∷ means.Constant 3
    ∷ means.Constant 4
    ∷ means.Other
    ∷ means.Label
    ∷ []
unfolding entry_of class_of kinds ids result definition type_of known_of known_after known_by
point-meanings = refl

pub point-sound : type_fault (record { bound = 12; insts = point_insts }) ≡ None
unfolding entry_of class_of kinds ids result definition type_of known_of known_after known_by id_twice id_out_of_bound result_type has_later_type breaks_types bad_type constant_fits bad_constant rule_fault type_fault decoration_of model_of facts_of before_of bad_decorate bad_variable breaks_decorations bad_decoration
point-sound = refl

-- the module with these instructions
abbrev module_with : List Inst → Words
module_with insts = record { bound = 12; insts = insts }

abbrev inst : ℕ → List ℕ → Inst
inst opcode words = record { op = opcode; words = words }

-- a signed and an unsigned integer type, with the ids 1 and 2
abbrev integers : List Inst
integers = inst op.TYPE_INT (1 ∷ 32 ∷ 1 ∷ []) ∷ inst op.TYPE_INT (2 ∷ 32 ∷ 0 ∷ []) ∷ []

-- an array of as many integers as this word says, by its signed reading
abbrev array_of : ℕ → Words
array_of length = module_with (integers ++ inst op.CONSTANT (1 ∷ 3 ∷ length ∷ []) ∷ inst op.TYPE_ARRAY (4 ∷ 1 ∷ 3 ∷ []) ∷ [])

-- of two faults that at the lower place, and at one place the order of the faults
pub first-faults : map type_fault (
    module_with (integers ++ inst op.TYPE_BOOL (2 ∷ []) ∷ inst op.TYPE_BOOL (1 ∷ []) ∷ [])
    ∷ module_with (inst op.TYPE_INT (13 ∷ 16 ∷ 0 ∷ []) ∷ inst op.TYPE_INT (13 ∷ 16 ∷ 0 ∷ []) ∷ []) ∷ [])
    ≡ Some (IdTwice 2) ∷ Some (IdOutOfBound 0) ∷ []
unfolding entry_of class_of kinds ids result definition type_of known_of known_after known_by id_twice id_out_of_bound result_type has_later_type breaks_types bad_type constant_fits bad_constant rule_fault type_fault breaks_decorations bad_decoration
first-faults = refl

-- faults, each with the module that it is in
pub faults : map type_fault (
    module_with (integers ++ inst op.TYPE_BOOL (2 ∷ []) ∷ [])
    ∷ module_with (integers ++ inst op.TYPE_BOOL (12 ∷ []) ∷ [])
    ∷ module_with (integers ++ inst op.TYPE_STRUCT (3 ∷ 3 ∷ []) ∷ [])
    ∷ module_with (integers ++ inst op.UNDEF (3 ∷ 4 ∷ []) ∷ inst op.TYPE_BOOL (3 ∷ []) ∷ [])
    ∷ array_of 4096 ∷ array_of 4097 ∷ array_of 0 ∷ array_of 4294967295
    ∷ module_with (integers ++ inst op.CONSTANT (1 ∷ 3 ∷ 4096 ∷ []) ∷ inst op.CONSTANT (2 ∷ 4 ∷ 4294967295 ∷ [])
    ∷ inst op.TYPE_ARRAY (5 ∷ 1 ∷ 3 ∷ []) ∷ inst op.TYPE_ARRAY (6 ∷ 5 ∷ 4 ∷ []) ∷ [])
    ∷ module_with (integers ++ inst op.TYPE_VECTOR (3 ∷ 1 ∷ 2 ∷ []) ∷ inst op.CONSTANT_COMPOSITE (3 ∷ 4 ∷ 4 ∷ 4 ∷ []) ∷ [])
    ∷ module_with (integers ++ inst op.SPEC_CONSTANT (1 ∷ 3 ∷ 7 ∷ []) ∷ inst op.SPEC_CONSTANT_OP (2 ∷ 4 ∷ op.I_ADD ∷ 3 ∷ 3 ∷ []) ∷ [])
    ∷ module_with (integers ++ inst op.SPEC_CONSTANT (1 ∷ 3 ∷ 7 ∷ []) ∷ inst op.SPEC_CONSTANT_OP (1 ∷ 4 ∷ op.BITCAST ∷ 3 ∷ []) ∷ [])
    ∷ [])
    ≡ Some (IdTwice 2) ∷ Some (IdOutOfBound 2) ∷ Some (BadType 2) ∷ Some (BadType 2)
    ∷ None ∷ Some (BadType 3) ∷ Some (BadType 3) ∷ Some (BadType 3)
    ∷ Some (BadType 5) ∷ Some (BadConstant 3) ∷ None ∷ Some (BadConstant 3) ∷ []
unfolding entry_of class_of kinds ids result definition type_of known_of known_after known_by id_twice id_out_of_bound result_type has_later_type breaks_types bad_type constant_fits bad_constant rule_fault type_fault breaks_decorations bad_decoration
faults = refl

-- an array of as many arrays of 64 integers, and a structure of an integer and an array of as many integers
abbrev arrays_of : ℕ → Words
arrays_of length =
    module_with (integers ++ inst op.CONSTANT (1 ∷ 3 ∷ 64 ∷ []) ∷ inst op.CONSTANT (1 ∷ 4 ∷ length ∷ [])
    ∷ inst op.TYPE_ARRAY (5 ∷ 1 ∷ 3 ∷ []) ∷ inst op.TYPE_ARRAY (6 ∷ 5 ∷ 4 ∷ []) ∷ [])

abbrev structure_of : ℕ → Words
structure_of length =
    module_with (integers ++ inst op.CONSTANT (1 ∷ 3 ∷ length ∷ []) ∷ inst op.TYPE_ARRAY (4 ∷ 1 ∷ 3 ∷ [])
    ∷ inst op.TYPE_STRUCT (5 ∷ 1 ∷ 4 ∷ []) ∷ [])

-- a vector of as many integers, and the type with the id
abbrev vector_of : ℕ → Words
vector_of count = module_with (integers ++ inst op.TYPE_VECTOR (3 ∷ 1 ∷ count ∷ []) ∷ [])

abbrev id_of : ℕ → Words
id_of id = module_with (integers ++ inst op.TYPE_BOOL (id ∷ []) ∷ [])

-- types of 4,096 words and of more, vectors of one to five components, and ids from 0 to the bound
pub limits : map type_fault (arrays_of 64 ∷ arrays_of 65 ∷ structure_of 4095 ∷ structure_of 4096
    ∷ vector_of 1 ∷ vector_of 2 ∷ vector_of 4 ∷ vector_of 5 ∷ id_of 0 ∷ id_of 11 ∷ id_of 12 ∷ [])
    ≡ None ∷ Some (BadType 5) ∷ None ∷ Some (BadType 4)
    ∷ Some (BadType 2) ∷ None ∷ None ∷ Some (BadType 2) ∷ Some (IdOutOfBound 2) ∷ None ∷ Some (IdOutOfBound 2) ∷ []
unfolding entry_of class_of kinds ids result definition type_of known_of known_after known_by id_twice id_out_of_bound result_type has_later_type breaks_types bad_type constant_fits bad_constant rule_fault type_fault breaks_decorations bad_decoration
limits = refl
