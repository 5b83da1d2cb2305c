-- With constants for its specialization constants a valid module has none.
use Rattle.std.proofs.Common.{◌≡◌, ℕ, zero, suc, ◌<◌, ◌==◌, ◌&&◌, ◌||◌, Bool, true, false, not, if◌then◌else◌, List, [], ◌∷◌, length, map, filter, refl, ap, sym, ◌∙◌, arith, Option, None, Some}
use Rattle.std.specs.List.{list_all}
use Rattle.std.specs.Option.{unwrap_or}
use Rattle.spirv_model.specs.declared.module.Inst.{Inst}
use Rattle.spirv_model.specs.declared.module.Words.{Words}
use Rattle.spirv_model.specs.declared.class.Class.{Class}
use Rattle.spirv_model.specs.declared.class.Class.TheVariants as class
use Rattle.spirv_model.specs.declared.table.TheConstants.{ROWS}
use Rattle.spirv_model.specs.declared.op.TheConstants as op
use Rattle.spirv_model.specs.Operands.{word_at, entry_of, class_in, class_of}
use Rattle.scalar_model.specs.declared.scalar_value.Scalar.{Scalar}
use Rattle.scalar_model.specs.declared.scalar_value.Scalar.TheVariants.{Bool as TruthOf, Word as WordOf}
use Rattle.state_model.specs.declared.parts.SpecValues.{SpecValues}
use Rattle.valid_model.specs.Constants.{breaks_constants}
use Rattle.valid_model.specs.Definitions.{inst_at}
use Rattle.valid_model.specs.FirstFault.{bad_constant}
use Rattle.valid_model.specs.Meanings.{known_before}
use Rattle.check_model.specs.Validity.{IsValidList}
use Rattle.stage_model.specs.Value.{Value}
use Rattle.stage_model.specs.Program.{program_of}
use Rattle.stage_model.specs.Start.{Values, defined_by, of_scalar}
use Rattle.typed_model.proofs.BlockParts.{clash}
use Rattle.typed_model.proofs.ResultIds.{in_rows}
use Rattle.unit_model.specs.ConstantScalars.{is_spec_class, is_specialization, is_specialized}
use Rattle.change_model.specs.Constants.{is_spec_id, is_spec_scalar, scalar_constant, settled, constants}
use Rattle.change_model.proofs.ConstantsFit.{scalar_there}
use Rattle.change_model.proofs.ConstantsSound.{keeps_all}

-- ---- the opcodes of specialization constants

abbrev is_spec : ℕ → Bool
is_spec opcode = (opcode == op.SPEC_CONSTANT_COMPOSITE) || is_spec_scalar opcode

abbrev spec_by : Option Class → ℕ → Bool
spec_by (Some class.SpecConstant) opcode = is_spec opcode
spec_by (Some class.SpecConstantResult) opcode = is_spec opcode
spec_by of opcode = true

all_spec : list_all (λ row. spec_by (class_in (Some row.entry)) row.op) ROWS ≡ true
all_spec = refl

spec_right : (opcode : ℕ) → spec_by (class_of opcode) opcode ≡ true
unfolding class_of entry_of
spec_right opcode = in_rows (λ opcode entry. spec_by (class_in entry) opcode) (λ opcode. refl) ROWS opcode all_spec

spec_class : (opcode : ℕ) (of : Option Class) → class_of opcode ≡ of → is_spec opcode ≡ false → is_spec_class of ≡ false
spec_class opcode (Some class.SpecConstant) of isnt = absurd (clash (is_spec opcode) (sym (ap (λ (c : Option Class). spec_by c opcode) of) ∙ spec_right opcode) isnt)
spec_class opcode (Some class.SpecConstantResult) of isnt = absurd (clash (is_spec opcode) (sym (ap (λ (c : Option Class). spec_by c opcode) of) ∙ spec_right opcode) isnt)
spec_class opcode None of isnt = refl
spec_class opcode (Some other) of isnt = refl

-- ---- what stands for an instruction

abbrev IsPlainOne : Inst → Type 0
IsPlainOne inst = is_specialization inst ≡ false

constant_ops : (words : List ℕ) → IsPlainOne (record { op = op.CONSTANT_COMPOSITE; words = words }) × IsPlainOne (record { op = op.CONSTANT_TRUE; words = words })
    × IsPlainOne (record { op = op.CONSTANT_FALSE; words = words }) × IsPlainOne (record { op = op.CONSTANT; words = words })
unfolding class_of entry_of
constant_ops words = (refl, refl, refl, refl)

scalar_plain : (inst : Inst) (scalar : Scalar) → IsPlainOne (unwrap_or (scalar_constant (word_at 0 inst) (word_at 1 inst) (Some (of_scalar scalar))) inst)
scalar_plain inst (TruthOf true) = (constant_ops (word_at 0 inst ∷ word_at 1 inst ∷ [])).1
scalar_plain inst (TruthOf false) = (constant_ops (word_at 0 inst ∷ word_at 1 inst ∷ [])).2
scalar_plain inst (WordOf word) = (constant_ops (word_at 0 inst ∷ word_at 1 inst ∷ word ∷ [])).3

neither : (a b : Bool) → a ≡ false → b ≡ false → (a || b) ≡ false
neither true b is also = cc
neither false true is also = cc
neither false false is also = refl

settled_plain : (values : Values) (inst : Inst) → is_spec_id inst ≡ false → (is_spec_scalar inst.op ≡ true → (scalar : Scalar) × (values (word_at 1 inst) ≡ Some (of_scalar scalar))) → IsPlainOne (settled values inst)
unfolding settled
settled_plain values inst numbers known = by_tests (inst.op == op.SPEC_CONSTANT_COMPOSITE) (is_spec_scalar inst.op) refl refl known
  where
    by_tests : (composite scalar : Bool) → inst.op == op.SPEC_CONSTANT_COMPOSITE ≡ composite → is_spec_scalar inst.op ≡ scalar → (scalar ≡ true → (s : Scalar) × (values (word_at 1 inst) ≡ Some (of_scalar s)))
        → IsPlainOne (if composite then record inst { op = op.CONSTANT_COMPOSITE } else if scalar then unwrap_or (scalar_constant (word_at 0 inst) (word_at 1 inst) (values (word_at 1 inst))) inst else inst)
    by_tests true scalar is of known = (constant_ops inst.words).0
    by_tests false true isnt is known =
        let k = known refl in
        ap (λ (value : Option Value). is_specialization (unwrap_or (scalar_constant (word_at 0 inst) (word_at 1 inst) value) inst)) k.1 ∙ scalar_plain inst k.0
    by_tests false false isnt also known = neither (is_spec_class (class_of inst.op)) (is_spec_id inst) (spec_class inst.op (class_of inst.op) refl (neither (inst.op == op.SPEC_CONSTANT_COMPOSITE) (is_spec_scalar inst.op) isnt also)) numbers

-- ---- of all

all_made : (q : Inst → Bool) (f : Inst → Inst) (p : Inst → Bool) (insts : List Inst) → ((k : ℕ) → k < length insts → q (inst_at insts k) ≡ true → p (f (inst_at insts k)) ≡ true) → list_all p (map f (filter q insts)) ≡ true
all_made q f p [] each = refl
all_made q f p (inst ∷ insts) each = by_test (q inst) refl (all_made q f p insts (λ k less is. each (suc k) (omega (arith, less)) is))
  where
    both : (a b : Bool) → a ≡ true → b ≡ true → (a && b) ≡ true
    both true true is also = refl
    both true false is also = cc
    both false b is also = cc

    by_test : (b : Bool) → q inst ≡ b → list_all p (map f (filter q insts)) ≡ true → list_all p (map f (if b then inst ∷ filter q insts else filter q insts)) ≡ true
    by_test true is rest = both (p (f inst)) (list_all p (map f (filter q insts))) (each zero (omega arith) is) rest
    by_test false is rest = rest

unnumbered : (b : Bool) → not b ≡ true → b ≡ false
unnumbered true is = cc
unnumbered false is = refl

unbroken : (words : Words) (k : ℕ) → bad_constant words.insts k ≡ false → breaks_constants (known_before words.insts k) (inst_at words.insts k) ≡ false
unfolding bad_constant
unbroken words k good = good

pub constants_specialized : (words : Words) (v : IsValidList words) (entries : SpecValues) → is_specialized (constants entries words.insts) ≡ true
unfolding constants
constants_specialized words v entries =
    let values = defined_by (program_of words.insts) entries words.insts in
    all_made (λ inst. not (is_spec_id inst)) (settled values) (λ inst. not (is_specialization inst)) words.insts
    (λ k within is. ap not (settled_plain values (inst_at words.insts k) (unnumbered (is_spec_id (inst_at words.insts k)) is)
    (λ scalar. scalar_there words v entries k within (unbroken words k (keeps_all words v.sound k within).constants) scalar)))
