-- The constants that stand for specialization constants are of the same type, and have the same id.
use Rattle.std.proofs.Common.{◌≡◌, ℕ, ◌==◌, ◌||◌, Bool, true, false, if◌then◌else◌, refl, ap, ◌∙◌, Option, None, Some}
use Rattle.std.specs.Option.{unwrap_or}
use Rattle.spirv_model.specs.declared.module.Inst.{Inst}
use Rattle.spirv_model.specs.declared.op.TheConstants as op
use Rattle.spirv_model.specs.Operands.{word_at, entry_of, class_of}
use Rattle.stage_model.specs.Value.{Value, Truth, Word, Composite, Pointer, Outside}
use Rattle.stage_model.specs.Start.{Values}
use Rattle.change_model.specs.Constants.{scalar_constant, is_spec_scalar, settled}
use Rattle.change_model.specs.Settling.{is_spec_class, is_plain_constant_class, StandsFor, same, settles}
use Rattle.change_model.proofs.Settlings.{Settles, op_is}

-- the classes of these opcodes
record TheirClasses : Type 0 where
  spec_true : is_spec_class (class_of op.SPEC_CONSTANT_TRUE) ≡ true
  spec_false : is_spec_class (class_of op.SPEC_CONSTANT_FALSE) ≡ true
  spec_number : is_spec_class (class_of op.SPEC_CONSTANT) ≡ true
  spec_operation : is_spec_class (class_of op.SPEC_CONSTANT_OP) ≡ true
  spec_composite : is_spec_class (class_of op.SPEC_CONSTANT_COMPOSITE) ≡ true
  truth : is_plain_constant_class (class_of op.CONSTANT_TRUE) ≡ true
  untruth : is_plain_constant_class (class_of op.CONSTANT_FALSE) ≡ true
  number : is_plain_constant_class (class_of op.CONSTANT) ≡ true
  composite : is_plain_constant_class (class_of op.CONSTANT_COMPOSITE) ≡ true

their_classes : TheirClasses
unfolding class_of entry_of
their_classes = record { spec_true = refl; spec_false = refl; spec_number = refl; spec_operation = refl; spec_composite = refl; truth = refl; untruth = refl; number = refl; composite = refl }

abbrev is_spec_op : ℕ → Bool
is_spec_op opcode = is_spec_class (class_of opcode)

as_is : (own opcode : ℕ) → opcode == own ≡ true → is_spec_op own ≡ true → is_spec_op opcode ≡ true
as_is own opcode equal is = ap is_spec_op (op_is opcode own equal) ∙ is

pub scalar_is_spec : (opcode : ℕ) → is_spec_scalar opcode ≡ true → is_spec_op opcode ≡ true
scalar_is_spec opcode is = by_tests (opcode == op.SPEC_CONSTANT_TRUE) (opcode == op.SPEC_CONSTANT_FALSE) (opcode == op.SPEC_CONSTANT) (opcode == op.SPEC_CONSTANT_OP) refl refl refl refl is
  where
    by_tests : (a b c d : Bool) → opcode == op.SPEC_CONSTANT_TRUE ≡ a → opcode == op.SPEC_CONSTANT_FALSE ≡ b → opcode == op.SPEC_CONSTANT ≡ c → opcode == op.SPEC_CONSTANT_OP ≡ d
        → (((a || b) || c) || d) ≡ true → is_spec_op opcode ≡ true
    by_tests true b c d is_true is_false is_number is_operation some = as_is op.SPEC_CONSTANT_TRUE opcode is_true their_classes.spec_true
    by_tests false true c d is_true is_false is_number is_operation some = as_is op.SPEC_CONSTANT_FALSE opcode is_false their_classes.spec_false
    by_tests false false true d is_true is_false is_number is_operation some = as_is op.SPEC_CONSTANT opcode is_number their_classes.spec_number
    by_tests false false false true is_true is_false is_number is_operation some = as_is op.SPEC_CONSTANT_OP opcode is_operation their_classes.spec_operation
    by_tests false false false false is_true is_false is_number is_operation some = cc

scalar_stands : (inst : Inst) → is_spec_op inst.op ≡ true → (value : Option Value) → StandsFor (unwrap_or (scalar_constant (word_at 0 inst) (word_at 1 inst) value) inst) inst
scalar_stands inst spec None = same refl
scalar_stands inst spec (Some (Truth true)) = settles spec their_classes.truth refl refl
scalar_stands inst spec (Some (Truth false)) = settles spec their_classes.untruth refl refl
scalar_stands inst spec (Some (Word word)) = settles spec their_classes.number refl refl
scalar_stands inst spec (Some (Composite parts)) = same refl
scalar_stands inst spec (Some (Pointer variable indices)) = same refl
scalar_stands inst spec (Some Outside) = same refl

pub settled_stands : (values : Values) → Settles (settled values)
unfolding settled
settled_stands values = λ inst. by_tests inst (inst.op == op.SPEC_CONSTANT_COMPOSITE) (is_spec_scalar inst.op) refl refl
  where
    by_tests : (inst : Inst) (composite scalar : Bool) → inst.op == op.SPEC_CONSTANT_COMPOSITE ≡ composite → is_spec_scalar inst.op ≡ scalar
        → StandsFor (if composite then record inst { op = op.CONSTANT_COMPOSITE } else if scalar then unwrap_or (scalar_constant (word_at 0 inst) (word_at 1 inst) (values (word_at 1 inst))) inst else inst) inst
    by_tests inst true scalar is of = settles (as_is op.SPEC_CONSTANT_COMPOSITE inst.op is their_classes.spec_composite) their_classes.composite refl refl
    by_tests inst false true isnt is = scalar_stands inst (scalar_is_spec inst.op is) (values (word_at 1 inst))
    by_tests inst false false isnt plain = same refl
