-- A scalar operation on constant scalars is folded: the list does the same, in fewer steps and no more words, with the same interface.
use Rattle.std.proofs.Common.{◌≡◌, ℕ, ◌+◌, ◌-◌, ◌<◌, ◌≤◌, ◌==◌, inl, inr, Bool, true, false, if◌then◌else◌, List, [], ◌∷◌, length, take, map, refl, ap, ◌∙◌, subst, arith, Option, None, Some}
use Rattle.std.specs.Option.{option_map, option_and_then}
use Rattle.std.proofs.lemmas.Bool.{cases_lt}
use Rattle.spirv_model.specs.declared.module.Inst.{Inst}
use Rattle.spirv_model.specs.declared.module.Words.{Words}
use Rattle.spirv_model.specs.declared.class.Class.{Class}
use Rattle.spirv_model.specs.declared.class.Class.TheVariants as class
use Rattle.spirv_model.specs.declared.op.TheConstants as op
use Rattle.spirv_model.specs.Operands.{word_at, words_from, entry_of, class_of}
use Rattle.scalar_model.specs.declared.scalar_value.Scalar.{Scalar}
use Rattle.scalar_model.specs.declared.scalar_value.Scalar.TheVariants.{Bool as TruthOf, Word as WordOf}
use Rattle.scalar_model.specs.Scalars.{selected, scalar_result}
use Rattle.body_model.specs.Classes.{is_module_level_class, is_module_level}
use Rattle.body_model.specs.Grammar.{Derives}
use Rattle.state_model.specs.declared.parts.SpecValues.{SpecValues}
use Rattle.valid_model.specs.Definitions.{inst_at}
use Rattle.check_model.specs.Validity.{IsValidList}
use Rattle.stage_model.specs.Value.{Value}
use Rattle.stage_model.specs.Program.{program_of}
use Rattle.stage_model.specs.Start.{all_values, of_scalar, defined_by}
use Rattle.stage_model.specs.Operations.{chosen, operation}
use Rattle.typed_model.proofs.BlockParts.{clash}
use Rattle.unit_model.specs.ConstantScalars.{constant_scalar}
use Rattle.change_model.specs.Constants.{scalar_constant}
use Rattle.change_model.specs.Folding.{all_constants, folded_value, with_folded, folded_at}
use Rattle.change_model.specs.Keeping.{Keeps, HasInterfaceOf, IsChange}
use Rattle.change_model.proofs.Composing.{keeps_same}
use Rattle.change_model.proofs.ConstantOperands.{HoldScalars, hold_scalars}
use Rattle.change_model.proofs.FoldedInterface.{interface_folded}
use Rattle.change_model.proofs.FoldedKeeps.{ComputesTo, function_op}
use Rattle.change_model.proofs.FoldedOperations.{is_folded, fold_keeps}
use Rattle.change_model.proofs.FoldedRuns.{is_scalar_class, is_scalar}
use Rattle.change_model.proofs.FoldedWords.{fold_shortens}
use Rattle.change_model.proofs.Followed.{same_insts}
use Rattle.change_model.proofs.MovedUp.{level_inst}

-- ---- an operation on scalars

chosen_is : (condition : Bool) (x y scalar : Scalar) → selected condition x y ≡ Some scalar → Some (chosen condition (of_scalar x) (of_scalar y)) ≡ Some (of_scalar scalar)
chosen_is true (WordOf a) (WordOf b) scalar is = ap (option_map of_scalar) is
chosen_is false (WordOf a) (WordOf b) scalar is = ap (option_map of_scalar) is
chosen_is true (TruthOf a) (TruthOf b) scalar is = ap (option_map of_scalar) is
chosen_is false (TruthOf a) (TruthOf b) scalar is = ap (option_map of_scalar) is
chosen_is condition (WordOf a) (TruthOf b) scalar is = cc
chosen_is condition (TruthOf a) (WordOf b) scalar is = cc

select_is : (is_select condition : Bool) (x y scalar : Scalar) → (if is_select then selected condition x y else None) ≡ Some scalar → (if is_select then Some (chosen condition (of_scalar x) (of_scalar y)) else None) ≡ Some (of_scalar scalar)
select_is true condition x y scalar is = chosen_is condition x y scalar is
select_is false condition x y scalar is = cc

-- it gives what the scalar operation gives
pub operation_on : (opcode : ℕ) (scalars : List Scalar) (scalar : Scalar) → scalar_result opcode scalars ≡ Some scalar → operation opcode (map of_scalar scalars) ≡ Some (of_scalar scalar)
unfolding operation scalar_result
operation_on opcode [] scalar is = cc
operation_on opcode (WordOf a ∷ []) scalar is = ap (option_map of_scalar) is
operation_on opcode (TruthOf a ∷ []) scalar is = ap (option_map of_scalar) is
operation_on opcode (WordOf a ∷ WordOf b ∷ []) scalar is = ap (option_map of_scalar) is
operation_on opcode (TruthOf a ∷ TruthOf b ∷ []) scalar is = ap (option_map of_scalar) is
operation_on opcode (WordOf a ∷ TruthOf b ∷ []) scalar is = cc
operation_on opcode (TruthOf a ∷ WordOf b ∷ []) scalar is = cc
operation_on opcode (TruthOf a ∷ WordOf b ∷ y ∷ []) scalar is = select_is (opcode == op.SELECT) a (WordOf b) y scalar is
operation_on opcode (TruthOf a ∷ TruthOf b ∷ y ∷ []) scalar is = select_is (opcode == op.SELECT) a (TruthOf b) y scalar is
operation_on opcode (WordOf a ∷ WordOf b ∷ y ∷ []) scalar is = cc
operation_on opcode (WordOf a ∷ TruthOf b ∷ y ∷ []) scalar is = cc
operation_on opcode (WordOf a ∷ WordOf b ∷ y ∷ z ∷ scalars) scalar is = cc
operation_on opcode (WordOf a ∷ TruthOf b ∷ y ∷ z ∷ scalars) scalar is = cc
operation_on opcode (TruthOf a ∷ WordOf b ∷ y ∷ z ∷ scalars) scalar is = cc
operation_on opcode (TruthOf a ∷ TruthOf b ∷ y ∷ z ∷ scalars) scalar is = cc

-- ---- the value of a folded operation

-- the scalars of its operands, and its own
record FoldsTo (constant : ℕ → Option Scalar) (inst : Inst) (value : Value) : Type 0 where
  scalars : List Scalar
  scalar : Scalar
  operands : all_constants constant (words_from 2 inst) ≡ Some scalars
  result_is : scalar_result inst.op scalars ≡ Some scalar
  value_is : of_scalar scalar ≡ value

folds_to : (constant : ℕ → Option Scalar) (inst : Inst) (value : Value) → folded_value constant inst ≡ Some value → FoldsTo constant inst value
folds_to constant inst value is = by_operands (all_constants constant (words_from 2 inst)) refl is
  where
    same_value : (a b : Value) → ◌≡◌ {A = Option Value} (Some a) (Some b) → a ≡ b
    same_value a b is = cc

    by_result : (scalars : List Scalar) → all_constants constant (words_from 2 inst) ≡ Some scalars → (found : Option Scalar) → scalar_result inst.op scalars ≡ found → option_map of_scalar found ≡ Some value → FoldsTo constant inst value
    by_result scalars are None found some = cc
    by_result scalars are (Some scalar) found some = record { scalars = scalars; scalar = scalar; operands = are; result_is = found; value_is = same_value (of_scalar scalar) value some }

    by_operands : (found : Option (List Scalar)) → all_constants constant (words_from 2 inst) ≡ found → option_map of_scalar (option_and_then (scalar_result inst.op) found) ≡ Some value → FoldsTo constant inst value
    by_operands None are some = cc
    by_operands (Some scalars) are some = by_result scalars are (scalar_result inst.op scalars) refl some

computes_to : (words : Words) (v : IsValidList words) (gone : ℕ) (value : Value) (entries : SpecValues) → (f : FoldsTo (constant_scalar words.insts) (inst_at words.insts (v.derivation.before + 1 + gone)) value)
    → HoldScalars words v entries (words_from 2 (inst_at words.insts (v.derivation.before + 1 + gone))) f.scalars → ComputesTo words v gone value entries
computes_to words v gone value entries f h =
    let insts = words.insts in
    let x = inst_at insts (v.derivation.before + 1 + gone) in
    record {
      reads = map of_scalar f.scalars;
      are = ap (λ (l : List Inst). all_values (defined_by (program_of insts) entries (take (v.derivation.before + 1) l)) (words_from 2 x)) (same_insts insts) ∙ h.are;
      is = operation_on x.op f.scalars f.scalar f.result_is ∙ ap (λ (value : Value). Some value) f.value_is;
    }

-- ---- where it stands

no_scalar_function : is_scalar op.FUNCTION ≡ false
unfolding class_of entry_of
no_scalar_function = refl

-- ---- the list with it folded

-- with this constant, if it has a value
abbrev with_constant : Words → (place : ℕ) → Option Inst → Words
with_constant words place constant = record { bound = words.bound; insts = with_folded place words.insts constant }

-- a list keeps what the one before does, and its interface
abbrev KeepsBoth : List ℕ → Words → SpecValues → Words → Type 0
KeepsBoth zeros new entries old = (Keeps zeros new entries old entries) × (HasInterfaceOf new.insts old.insts)

one_folded : (zeros : List ℕ) (words : Words) (v : IsValidList words) (gone : ℕ) → v.derivation.before + 1 + gone < length words.insts → is_scalar (inst_at words.insts (v.derivation.before + 1 + gone)).op ≡ true → (entries : SpecValues)
    → (value : Value) → folded_value (constant_scalar words.insts) (inst_at words.insts (v.derivation.before + 1 + gone)) ≡ Some value → (constant : Inst)
    → scalar_constant (word_at 0 (inst_at words.insts (v.derivation.before + 1 + gone))) (word_at 1 (inst_at words.insts (v.derivation.before + 1 + gone))) (Some value) ≡ Some constant
    → KeepsBoth zeros (with_constant words (v.derivation.before + 1 + gone) (Some constant)) entries words
one_folded zeros words v gone within scalar entries value folds constant is =
    let x = inst_at words.insts (v.derivation.before + 1 + gone) in
    let f = folds_to (constant_scalar words.insts) x value folds in
    let h = hold_scalars words v entries (words_from 2 x) f.scalars f.operands in (
      record {
        does = λ inputs buffers zero. fold_keeps words v gone constant value within scalar is h.level entries (computes_to words v gone value entries f h) inputs buffers;
        words = fold_shortens words v gone constant value within scalar is;
      },
      interface_folded words v gone (word_at 1 x) (word_at 0 x) constant value (is_folded words v gone constant value within scalar is h.level),
    )

with_value_of : (zeros : List ℕ) (words : Words) (v : IsValidList words) (gone : ℕ) → v.derivation.before + 1 + gone < length words.insts → is_scalar (inst_at words.insts (v.derivation.before + 1 + gone)).op ≡ true → (entries : SpecValues)
    → (found : Option Value) → folded_value (constant_scalar words.insts) (inst_at words.insts (v.derivation.before + 1 + gone)) ≡ found → (constant : Option Inst)
    → scalar_constant (word_at 0 (inst_at words.insts (v.derivation.before + 1 + gone))) (word_at 1 (inst_at words.insts (v.derivation.before + 1 + gone))) found ≡ constant
    → KeepsBoth zeros (with_constant words (v.derivation.before + 1 + gone) constant) entries words
with_value_of zeros words v gone within scalar entries found folds None is = let same = keeps_same zeros words entries in (record { does = same.does; words = same.words }, record { stage = refl; inputs = refl; outputs = refl })
with_value_of zeros words v gone within scalar entries None folds (Some constant) is = cc
with_value_of zeros words v gone within scalar entries (Some value) folds (Some constant) is = one_folded zeros words v gone within scalar entries value folds constant is

abbrev pub with_fold : Words → ℕ → Words
with_fold words place = record { bound = words.bound; insts = folded_at (constant_scalar words.insts) place words.insts }

fold_behind : (zeros : List ℕ) (words : Words) (v : IsValidList words) (gone : ℕ) → v.derivation.before + 1 + gone < length words.insts → is_scalar (inst_at words.insts (v.derivation.before + 1 + gone)).op ≡ true → (entries : SpecValues)
    → KeepsBoth zeros (with_fold words (v.derivation.before + 1 + gone)) entries words
unfolding folded_at
fold_behind zeros words v gone within scalar entries =
    let x = inst_at words.insts (v.derivation.before + 1 + gone) in
    let found = folded_value (constant_scalar words.insts) x in
    with_value_of zeros words v gone within scalar entries found refl (scalar_constant (word_at 0 x) (word_at 1 x) found) refl

no_level_class : (of : Option Class) → is_scalar_class of ≡ true → is_module_level_class of ≡ false
no_level_class None is = cc
no_level_class (Some (class.Scalar operation)) is = refl
no_level_class (Some other) is = cc

behind_function : (insts : List Inst) (d : Derives insts) (place : ℕ) → is_scalar (inst_at insts place).op ≡ true → d.before + 1 ≤ place
behind_function insts d place is = elim (cases_lt place d.before) [
  | inl early ↦ absurd (clash (is_module_level (inst_at insts place).op) (level_inst insts d place early) (no_level_class (class_of (inst_at insts place).op) is))
  | inr late ↦ elim (cases_lt d.before place) [
    | inl more ↦ omega (arith, more)
    | inr upto ↦ let e : d.before ≡ place = omega (arith, late, upto) in
        absurd (clash (is_scalar (inst_at insts place).op) is (subst (λ n. is_scalar (inst_at insts n).op ≡ false) e (ap is_scalar (function_op insts d) ∙ no_scalar_function)))
  ]
]

both_kept : (zeros : List ℕ) (words : Words) (v : IsValidList words) (place : ℕ) → place < length words.insts → is_scalar (inst_at words.insts place).op ≡ true → (entries : SpecValues) → KeepsBoth zeros (with_fold words place) entries words
both_kept zeros words v place within scalar entries =
    let low = behind_function words.insts v.derivation place scalar in
    let first = v.derivation.before + 1 in
    let e : first + (place - first) ≡ place = omega (arith, low) in
    subst (λ (n : ℕ). KeepsBoth zeros (with_fold words n) entries words) e
    (fold_behind zeros words v (place - first) (omega (arith, low, within)) (ap (λ (n : ℕ). is_scalar (inst_at words.insts n).op) e ∙ scalar) entries)

-- A valid module keeps what it does, in no more words, where a scalar operation on constant scalars is folded; any other stays as it is.
pub constant_fold_keeps : (zeros : List ℕ) (words : Words) (v : IsValidList words) (place : ℕ) → place < length words.insts → is_scalar (inst_at words.insts place).op ≡ true → (entries : SpecValues)
    → Keeps zeros (with_fold words place) entries words entries
constant_fold_keeps zeros words v place within scalar entries = (both_kept zeros words v place within scalar entries).0

-- it is a change, if what comes of it is a valid module
pub constant_fold_changes : (zeros : List ℕ) (words : Words) (v : IsValidList words) (place : ℕ) → place < length words.insts → is_scalar (inst_at words.insts place).op ≡ true → (entries : SpecValues)
    → IsValidList (with_fold words place) → IsChange zeros (with_fold words place) entries words entries
constant_fold_changes zeros words v place within scalar entries valid =
    let kept = both_kept zeros words v place within scalar entries in record { valid = valid; keeps = kept.0; interface = kept.1 }
