-- A constant of a valid module that is a scalar is of its type.
use Rattle.std.proofs.Common.{◌≡◌, ℕ, ◌==◌, ◌&&◌, Bool, true, false, not, if◌then◌else◌, List, refl, ap, sym, ◌∙◌, Option, None, Some}
use Rattle.spirv_model.specs.declared.module.Inst.{Inst}
use Rattle.spirv_model.specs.declared.op.TheConstants as op
use Rattle.spirv_model.specs.Operands.{word_at, class_of}
use Rattle.scalar_model.specs.declared.scalar_value.Scalar.{Scalar}
use Rattle.scalar_model.specs.declared.scalar_value.Scalar.TheVariants.{Bool as TruthOf, Word as WordOf}
use Rattle.valid_model.specs.declared.meaning.IdFacts.{IdFacts}
use Rattle.valid_model.specs.declared.meaning.Meaning.{Meaning}
use Rattle.valid_model.specs.declared.meaning.Meaning.TheVariants.{Absent, Shape as OfShape, Constant}
use Rattle.valid_model.specs.declared.meaning.Shape.{Shape}
use Rattle.valid_model.specs.declared.meaning.Shape.TheVariants.{Bool as TruthType, Int}
use Rattle.valid_model.specs.Constants.{constant_fits, breaks_constants}
use Rattle.valid_model.specs.Definitions.{definition, inst_at}
use Rattle.valid_model.specs.FirstFault.{bad_constant}
use Rattle.valid_model.specs.Knowledge.{Knowledge, is_bool, is_integer, meaning_in}
use Rattle.valid_model.specs.Meanings.{is_constant, known_before, meaning}
use Rattle.typed_model.proofs.EffectsRun.{instruction}
use Rattle.typed_model.proofs.ModuleValues.{meaning_at}
use Rattle.typed_model.proofs.PlainRuns.{at_op}
use Rattle.typed_model.proofs.ValidTypes.{stays_known, defined_within}
use Rattle.unit_model.specs.ConstantScalars.{null_scalar, scalar_by}
use Rattle.change_model.proofs.AlikeTypes.{ByShape, bool_by, integer_by}
use Rattle.change_model.proofs.ChangedScalars.{scalar_constant_class}
use Rattle.change_model.proofs.ConstantsSound.{keeps_all}
use Rattle.change_model.proofs.Planned.{Planned}
use Rattle.change_model.proofs.SettledMeanings.{known_constant, constant_is_no_type, constant_is_constant}

-- the type is that of the scalar
abbrev pub is_type_of : Scalar → Meaning → Bool
is_type_of (TruthOf b) m = is_bool m
is_type_of (WordOf word) m = is_integer m

pub type_of_by : (scalar : Scalar) → ByShape (is_type_of scalar)
type_of_by (TruthOf b) = bool_by
type_of_by (WordOf word) = integer_by

-- ---- what is known early stays known

-- a test that only shapes pass is passed by a shape
pub passed_by_shape : (says : Meaning → Bool) → ByShape says → says Absent ≡ false → (m : Meaning) → says m ≡ true → (shape : Shape) × (m ≡ OfShape shape)
passed_by_shape says by none (OfShape shape) is = (shape, refl)
passed_by_shape says by none m is = absurd (both (says m) is (by m ∙ none))
  where
    both : (b : Bool) → b ≡ true → b ≡ false → ⊥
    both true is isnt = cc
    both false is isnt = cc

stays_so : (says : Meaning → Bool) → ByShape says → says Absent ≡ false → (insts : List Inst) (place id : ℕ) → says (meaning_in (known_before insts place id)) ≡ true → says (meaning insts id) ≡ true
stays_so says by none insts place id is =
    let s = passed_by_shape says by none (meaning_in (known_before insts place id)) is in
    ap says (stays_known insts place id s.0 (known_before insts place id) refl s.1) ∙ ap says (sym s.1) ∙ is

-- ---- constants fit their types

number_words : (known : Knowledge) (words : List ℕ) → constant_fits known (instruction op.CONSTANT words) ≡ true → is_integer (meaning_in (known (word_at 0 (instruction op.CONSTANT words)))) ≡ true
unfolding constant_fits
number_words known words fits = fits

true_words : (known : Knowledge) (words : List ℕ) → constant_fits known (instruction op.CONSTANT_TRUE words) ≡ true → is_bool (meaning_in (known (word_at 0 (instruction op.CONSTANT_TRUE words)))) ≡ true
unfolding constant_fits
true_words known words fits = fits

false_words : (known : Knowledge) (words : List ℕ) → constant_fits known (instruction op.CONSTANT_FALSE words) ≡ true → is_bool (meaning_in (known (word_at 0 (instruction op.CONSTANT_FALSE words)))) ≡ true
unfolding constant_fits
false_words known words fits = fits

one : (a b : Scalar) → ◌≡◌ {A = Option Scalar} (Some a) (Some b) → a ≡ b
one a b is = cc

-- the null of a type is of the type
pub null_fits : (m : Meaning) (scalar : Scalar) → null_scalar m ≡ Some scalar → is_type_of scalar m ≡ true
null_fits (OfShape TruthType) scalar is = ap (λ (s : Scalar). is_type_of s (OfShape TruthType)) (sym (one (TruthOf false) scalar is))
null_fits (OfShape (Int signed)) scalar is = ap (λ (s : Scalar). is_type_of s (OfShape (Int signed))) (sym (one (WordOf 0) scalar is))
null_fits m scalar is = cc

fits_of : (a b : Bool) → a ≡ true → (a && not b) ≡ false → b ≡ true
fits_of true true is good = refl
fits_of true false is good = cc
fits_of false b is good = cc

constant_good : (insts : List Inst) (place : ℕ) → bad_constant insts place ≡ false → breaks_constants (known_before insts place) (inst_at insts place) ≡ false
unfolding bad_constant
constant_good insts place good = good

-- a scalar constant, and the type of its id
pub record LevelScalar (insts : List Inst) (id place : ℕ) (scalar : Scalar) : Type 0 where
  pub means : meaning insts id ≡ Constant (word_at 0 (inst_at insts place))
  pub fits : is_type_of scalar (meaning insts (word_at 0 (inst_at insts place))) ≡ true

type_fits : (insts : List Inst) (place : ℕ) (scalar : Scalar) → constant_fits (known_before insts place) (inst_at insts place) ≡ true → scalar_by insts (inst_at insts place) ≡ Some scalar
    → is_type_of scalar (meaning insts (word_at 0 (inst_at insts place))) ≡ true
type_fits insts place scalar fits is = by_tests (inst.op == op.CONSTANT) refl (inst.op == op.CONSTANT_TRUE) refl (inst.op == op.CONSTANT_FALSE) refl (inst.op == op.CONSTANT_NULL) refl is
  where
    inst : Inst
    inst = inst_at insts place

    type : ℕ
    type = word_at 0 (inst_at insts place)

    known : Knowledge
    known = known_before insts place

    by_tests : (a : Bool) → inst.op == op.CONSTANT ≡ a → (b : Bool) → inst.op == op.CONSTANT_TRUE ≡ b → (c : Bool) → inst.op == op.CONSTANT_FALSE ≡ c → (d : Bool) → inst.op == op.CONSTANT_NULL ≡ d
        → (if a then Some (WordOf (word_at 2 inst)) else if b then Some (TruthOf true) else if c then Some (TruthOf false) else if d then null_scalar (meaning insts (word_at 0 inst)) else None) ≡ Some scalar
        → is_type_of scalar (meaning insts type) ≡ true
    by_tests true same b _ c _ d _ found =
        ap (λ (s : Scalar). is_type_of s (meaning insts type)) (sym (one _ scalar found))
        ∙ stays_so is_integer integer_by refl insts place type (at_op (λ inst. constant_fits known inst ≡ true → is_integer (meaning_in (known (word_at 0 inst))) ≡ true) inst op.CONSTANT same (number_words known inst.words) fits)
    by_tests false _ true same c _ d _ found =
        ap (λ (s : Scalar). is_type_of s (meaning insts type)) (sym (one _ scalar found))
        ∙ stays_so is_bool bool_by refl insts place type (at_op (λ inst. constant_fits known inst ≡ true → is_bool (meaning_in (known (word_at 0 inst))) ≡ true) inst op.CONSTANT_TRUE same (true_words known inst.words) fits)
    by_tests false _ false _ true same d _ found =
        ap (λ (s : Scalar). is_type_of s (meaning insts type)) (sym (one _ scalar found))
        ∙ stays_so is_bool bool_by refl insts place type (at_op (λ inst. constant_fits known inst ≡ true → is_bool (meaning_in (known (word_at 0 inst))) ≡ true) inst op.CONSTANT_FALSE same (false_words known inst.words) fits)
    by_tests false _ false _ false _ true same found = null_fits (meaning insts type) scalar found
    by_tests false _ false _ false _ false _ found = cc

pub level_scalar : (g : Planned) (id place : ℕ) (scalar : Scalar) → definition g.words.insts id ≡ Some place → scalar_by g.words.insts (inst_at g.words.insts place) ≡ Some scalar → LevelScalar g.words.insts id place scalar
level_scalar g id place scalar at is =
    let insts = g.words.insts in
    let inst = inst_at insts place in
    let plain = scalar_constant_class insts inst scalar is in
    let constant = constant_is_constant (class_of inst.op) plain in
    record {
      means = meaning_at insts place id at ∙ ap (λ (f : IdFacts). f.meaning) (known_constant (known_before insts place) inst (constant_is_no_type (class_of inst.op) plain) constant);
      fits = type_fits insts place scalar
          (fits_of (is_constant inst.op) (constant_fits (known_before insts place) inst) constant (constant_good insts place (keeps_all g.words g.valid.sound place (defined_within insts id place at)).constants)) is;
    }
