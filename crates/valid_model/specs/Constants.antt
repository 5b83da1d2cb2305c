-- Which constants fit their type (SPIR-V specification, section 3.49.7 "Constant-Creation Instructions"), and the fault
-- BadConstant.
use Rattle.std.specs.Prelude.{ℕ, Bool, false, ◌&&◌, ◌||◌, ◌==◌, if◌then◌else◌, List, not, length}
use Rattle.std.specs.List.{list_all, zip}
use Rattle.basics.specs.Word.{are_equal}
use Rattle.valid_model.specs.declared.meaning.Meaning.{Meaning}
use Rattle.valid_model.specs.declared.meaning.Meaning.TheVariants.{Shape as OfShape}
use Rattle.valid_model.specs.declared.meaning.Shape.{Shape}
use Rattle.valid_model.specs.declared.meaning.Shape.TheVariants.{Int, BoolVector, IntVector, Array, Struct}
use Rattle.valid_model.specs.Knowledge.{Knowledge, constant_type, is_bool, is_constant_of, is_data, is_integer, meaning_in}
use Rattle.valid_model.specs.Meanings.{is_constant}
use Rattle.valid_model.specs.Operations.{operation_fits}
use Rattle.spirv_model.specs.declared.module.Inst.{Inst}
use Rattle.spirv_model.specs.declared.op.TheConstants as op
use Rattle.spirv_model.specs.Operands.{word_at, words_from}

abbrev pub is_integer_like : Bool → Meaning → Bool
is_integer_like signed (OfShape (Int own)) = are_equal own signed
is_integer_like signed meaning = false

-- truth values
abbrev pub are_truths : Knowledge → List ℕ → Bool
are_truths known parts = list_all (λ part. is_bool (constant_type known part)) parts

-- integers of this signedness
abbrev pub are_words_like : Knowledge → Bool → List ℕ → Bool
are_words_like known signed parts = list_all (λ part. is_integer_like signed (constant_type known part)) parts

-- constants of the type with this id
abbrev pub are_constants_of : Knowledge → ℕ → List ℕ → Bool
are_constants_of known type parts = list_all (λ part. is_constant_of type (meaning_in (known part))) parts

-- constants, each of the type in its place
abbrev pub are_constants_of_each : Knowledge → List ℕ → List ℕ → Bool
are_constants_of_each known types parts = list_all (λ pair. is_constant_of pair.0 (meaning_in (known pair.1))) (zip types parts)

-- constants, one for each member, of the members' types
abbrev pub are_members : Knowledge → List ℕ → List ℕ → Bool
are_members known types parts = (length parts == length types) && are_constants_of_each known types parts

-- the parts of a constant of this shape: constants that are defined before, as many as the shape has
abbrev pub are_parts : Knowledge → Shape → List ℕ → Bool
are_parts known (BoolVector count) parts = (length parts == count) && are_truths known parts
are_parts known (IntVector count signed) parts = (length parts == count) && are_words_like known signed parts
are_parts known (Array element count) parts = (length parts == count) && are_constants_of known element parts
are_parts known (Struct members) parts = are_members known members.list parts
are_parts known shape parts = false

abbrev pub composite_fits : Knowledge → Meaning → List ℕ → Bool
composite_fits known (OfShape shape) parts = are_parts known shape parts
composite_fits known meaning parts = false

-- a composite of the type with this id
abbrev pub composite_constant_fits : Knowledge → ℕ → List ℕ → Bool
composite_constant_fits known type parts = composite_fits known (meaning_in (known type)) parts

-- the type and the parts of a constant fit
unfoldable pub constant_fits : Knowledge → Inst → Bool
constant_fits known inst =
    if (inst.op == op.CONSTANT) || (inst.op == op.SPEC_CONSTANT) then is_integer (meaning_in (known (word_at 0 inst)))
    else if (inst.op == op.CONSTANT_COMPOSITE) || (inst.op == op.SPEC_CONSTANT_COMPOSITE) then composite_constant_fits known (word_at 0 inst) (words_from 2 inst)
    else if inst.op == op.CONSTANT_NULL then is_data (meaning_in (known (word_at 0 inst)))
    else if inst.op == op.SPEC_CONSTANT_OP then operation_fits known (word_at 0 inst) (word_at 2 inst) (words_from 3 inst)
    else is_bool (meaning_in (known (word_at 0 inst)))

-- the instruction is a constant that doesn't fit, where so much is known before it
abbrev pub breaks_constants : Knowledge → Inst → Bool
breaks_constants known inst = is_constant inst.op && not (constant_fits known inst)
