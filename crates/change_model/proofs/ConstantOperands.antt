-- In a valid module a constant scalar has its value where the function begins, and keeps it there.
use Rattle.std.proofs.Common.{◌≡◌, ℕ, ◌+◌, ◌<◌, ◌≤◌, ◌==◌, ◌||◌, inl, inr, Bool, true, false, if◌then◌else◌, List, [], ◌∷◌, length, take, drop, map, refl, ap, sym, ◌∙◌, subst, arith, length-drop, Option, None, Some, is_some}
use Rattle.std.specs.Option.{option_map, option_and_then}
use Rattle.std.proofs.lemmas.Bool.{cases_lt}
use Rattle.std.proofs.lemmas.Bool.Decides.{nat_tests}
use Rattle.std.proofs.lemmas.List.{get_or-drop}
use Rattle.spirv_model.specs.declared.module.Inst.{Inst}
use Rattle.spirv_model.specs.declared.module.Words.{Words}
use Rattle.spirv_model.specs.declared.op.TheConstants as op
use Rattle.spirv_model.specs.Operands.{word_at, entry_of, class_of, kinds, result}
use Rattle.scalar_model.specs.declared.scalar_value.Scalar.{Scalar}
use Rattle.scalar_model.specs.declared.scalar_value.Scalar.TheVariants.{Bool as TruthOf, Word as WordOf}
use Rattle.body_model.specs.Grammar.{Derives}
use Rattle.body_model.specs.Switches.{is_among}
use Rattle.state_model.specs.declared.parts.SpecValues.{SpecValues}
use Rattle.valid_model.specs.declared.meaning.Meaning.{Meaning}
use Rattle.valid_model.specs.declared.meaning.Meaning.TheVariants.{Shape as OfShape}
use Rattle.valid_model.specs.declared.meaning.Shape.TheVariants.{Bool as TruthType, Int}
use Rattle.valid_model.specs.Definitions.{gives, inst_at, no_instruction, definition}
use Rattle.valid_model.specs.Meanings.{meaning, is_constant}
use Rattle.check_model.specs.Validity.{IsValidList}
use Rattle.stage_model.specs.Value.{Value, zero_of}
use Rattle.stage_model.specs.Program.{Program, program_of}
use Rattle.stage_model.specs.Start.{Values, all_values, of_scalar, constant_of, defined_by}
use Rattle.typed_model.specs.Types.{HasTypes}
use Rattle.typed_model.proofs.BlockParts.{clash}
use Rattle.typed_model.proofs.EffectsRun.{instruction}
use Rattle.typed_model.proofs.PlainRuns.{at_op}
use Rattle.typed_model.proofs.ResultIds.{defined_id}
use Rattle.typed_model.proofs.SilentSteps.{given_id}
use Rattle.typed_model.proofs.TypedSteps.{gives_at}
use Rattle.typed_model.proofs.ValidModules.{valid_sound}
use Rattle.typed_model.proofs.ValidTypes.{defined_within, valid_types}
use Rattle.unit_model.specs.ConstantScalars.{null_scalar, scalar_by, constant_scalar}
use Rattle.change_model.specs.Folding.{all_constants}
use Rattle.change_model.specs.Settling.{is_plain_constant_class}
use Rattle.change_model.proofs.FoldedKeeps.{program_has, function_op}
use Rattle.change_model.proofs.FoldedOperations.{function_alone, function_is_alone, IsAlone}
use Rattle.change_model.proofs.FoldedRuns.{IsOfLevel}
use Rattle.change_model.proofs.SettledMeanings.{constant_is_constant}
use Rattle.change_model.proofs.SettledValues.{only_there, value_at_end, by_parts, values_stay}
use Rattle.change_model.proofs.Settlings.{constant_defines}

-- ---- the instruction of a constant scalar

-- it is a constant, and gives the scalar as its value
record GivesScalar (insts : List Inst) (entries : SpecValues) (values : Values) (inst : Inst) (scalar : Scalar) : Type 0 where
  class_is : is_plain_constant_class (class_of inst.op) ≡ true
  value : constant_of (program_of insts) entries values inst.op inst.words ≡ Some (of_scalar scalar)

abbrev IsScalar : List Inst → SpecValues → Values → Inst → Type 0
IsScalar insts entries values inst = is_some (kinds inst) ≡ true → (scalar : Scalar) → scalar_by insts inst ≡ Some scalar → GivesScalar insts entries values inst scalar

number_scalar : (insts : List Inst) (entries : SpecValues) (values : Values) (words : List ℕ) → IsScalar insts entries values (instruction op.CONSTANT words)
unfolding kinds class_of entry_of constant_of
number_scalar insts entries values [] has scalar is = cc
number_scalar insts entries values (type ∷ []) has scalar is = cc
number_scalar insts entries values (type ∷ id ∷ words) has scalar is = record { class_is = refl; value = ap (option_map of_scalar) is }

true_scalar : (insts : List Inst) (entries : SpecValues) (values : Values) (words : List ℕ) → IsScalar insts entries values (instruction op.CONSTANT_TRUE words)
unfolding kinds class_of entry_of constant_of
true_scalar insts entries values [] has scalar is = cc
true_scalar insts entries values (type ∷ []) has scalar is = cc
true_scalar insts entries values (type ∷ id ∷ words) has scalar is = record { class_is = refl; value = ap (option_map of_scalar) is }

false_scalar : (insts : List Inst) (entries : SpecValues) (values : Values) (words : List ℕ) → IsScalar insts entries values (instruction op.CONSTANT_FALSE words)
unfolding kinds class_of entry_of constant_of
false_scalar insts entries values [] has scalar is = cc
false_scalar insts entries values (type ∷ []) has scalar is = cc
false_scalar insts entries values (type ∷ id ∷ words) has scalar is = record { class_is = refl; value = ap (option_map of_scalar) is }

null_is : (program : Program) → HasTypes program → (type : ℕ) (m : Meaning) → program.meaning type ≡ m → (scalar : Scalar) → null_scalar m ≡ Some scalar → option_map zero_of (program.layout type) ≡ Some (of_scalar scalar)
null_is program types type (OfShape TruthType) is scalar some = ap (option_map zero_of) (types.shaped type TruthType is) ∙ ap (option_map of_scalar) some
null_is program types type (OfShape (Int signed)) is scalar some = ap (option_map zero_of) (types.shaped type (Int signed) is) ∙ ap (option_map of_scalar) some
null_is program types type m is scalar some = cc

null_gives : (insts : List Inst) (entries : SpecValues) (values : Values) → HasTypes (program_of insts) → (words : List ℕ) → IsScalar insts entries values (instruction op.CONSTANT_NULL words)
unfolding kinds class_of entry_of constant_of
null_gives insts entries values types [] has scalar is = cc
null_gives insts entries values types (type ∷ []) has scalar is = cc
null_gives insts entries values types (type ∷ id ∷ words) has scalar is = record {
  class_is = refl;
  value = null_is (program_of insts) types type (meaning insts type) (ap (λ (m : ℕ → Meaning). m type) (program_has insts).0) scalar is;
}

gives_scalar : (insts : List Inst) (entries : SpecValues) (values : Values) → HasTypes (program_of insts) → (inst : Inst) → IsScalar insts entries values inst
gives_scalar insts entries values types inst has scalar is = by_tests (inst.op == op.CONSTANT) (inst.op == op.CONSTANT_TRUE) (inst.op == op.CONSTANT_FALSE) (inst.op == op.CONSTANT_NULL) refl refl refl refl is
  where
    at : (own : ℕ) → inst.op == own ≡ true → IsScalar insts entries values (instruction own inst.words) → GivesScalar insts entries values inst scalar
    at own same gives_it = at_op (IsScalar insts entries values) inst own same gives_it has scalar is

    by_tests : (a b c d : Bool) → inst.op == op.CONSTANT ≡ a → inst.op == op.CONSTANT_TRUE ≡ b → inst.op == op.CONSTANT_FALSE ≡ c → inst.op == op.CONSTANT_NULL ≡ d
        → (if a then Some (WordOf (word_at 2 inst)) else if b then Some (TruthOf true) else if c then Some (TruthOf false) else if d then null_scalar (meaning insts (word_at 0 inst)) else None) ≡ Some scalar
        → GivesScalar insts entries values inst scalar
    by_tests true b c d number truth untruth null some = at op.CONSTANT number (number_scalar insts entries values inst.words)
    by_tests false true c d number truth untruth null some = at op.CONSTANT_TRUE truth (true_scalar insts entries values inst.words)
    by_tests false false true d number truth untruth null some = at op.CONSTANT_FALSE untruth (false_scalar insts entries values inst.words)
    by_tests false false false true number truth untruth null some = at op.CONSTANT_NULL null (null_gives insts entries values types inst.words)
    by_tests false false false false number truth untruth null some = cc

-- ---- where it stands

-- from OpFunction on there are no types and no constants
pub alone_behind : (insts : List Inst) (d : Derives insts) (k : ℕ) → d.before ≤ k → k < length insts → IsAlone (inst_at insts k).op
alone_behind insts d k low within = elim (cases_lt d.before k) [
  | inl more ↦ function_is_alone insts d k (omega (arith, more)) within
  | inr upto ↦ let e : d.before ≡ k = omega (arith, low, upto) in subst (λ n. IsAlone (inst_at insts n).op) e (subst IsAlone (sym (function_op insts d)) function_alone)
]

pub before_function : (insts : List Inst) (d : Derives insts) (k : ℕ) → k < length insts → is_constant (inst_at insts k).op ≡ true → k < d.before
before_function insts d k within is = elim (cases_lt k d.before) [
  | inl early ↦ early
  | inr late ↦ absurd (clash (is_constant (inst_at insts k).op) is (alone_behind insts d k late within).1)
]

-- the values of ids where the function begins
abbrev pub first_values : (words : Words) → IsValidList words → SpecValues → Values
first_values words v entries = defined_by (program_of words.insts) entries (take (v.derivation.before + 1) words.insts)

-- what the module's level gives a value has it at the end of the list, too
pub at_end : (words : Words) (v : IsValidList words) (entries : SpecValues) (id : ℕ) → IsOfLevel words v id → first_values words v entries id ≡ defined_by (program_of words.insts) entries words.insts id
at_end words v entries id level =
    let insts = words.insts in let p = program_of words.insts in let n = v.derivation.before + 1 in
    sym (ap (λ (values : Values). values id) (by_parts p entries insts n)
    ∙ values_stay p entries (drop n insts) (defined_by p entries (take n insts)) id (λ k less.
    ap (gives id) (get_or-drop n insts k no_instruction) ∙ level (n + k) (omega arith) (let e = length-drop n insts in omega (arith, less, e))))

-- an id of the module's level with this scalar as its value
pub record HoldsScalar (words : Words) (v : IsValidList words) (entries : SpecValues) (id : ℕ) (scalar : Scalar) : Type 0 where
  pub level : IsOfLevel words v id
  pub value : first_values words v entries id ≡ Some (of_scalar scalar)

at_place : (words : Words) (v : IsValidList words) (entries : SpecValues) (id : ℕ) (scalar : Scalar) (place : ℕ) → definition words.insts id ≡ Some place → scalar_by words.insts (inst_at words.insts place) ≡ Some scalar
    → HoldsScalar words v entries id scalar
at_place words v entries id scalar place defined is =
    let insts = words.insts in let d = v.derivation in
    let inst = inst_at insts place in
    let p = program_of insts in
    let within = defined_within insts id place defined in
    let g = gives_scalar insts entries (defined_by p entries (take place insts)) (valid_types words v.sound) inst ((valid_sound words v).shaped place within) scalar is in
    let early = before_function insts d place within (constant_is_constant (class_of inst.op) g.class_is) in
    let result_is : result inst ≡ Some id = given_id id (result inst) (gives_at insts id place defined) in
    let own_is : result inst ≡ Some (word_at 1 inst) = defined_id inst (constant_defines (class_of inst.op) g.class_is) in
    let same : word_at 1 inst ≡ id = one (result inst) (word_at 1 inst) id own_is result_is in
    let level : IsOfLevel words v id = λ k low within'. only_there words v.sound place k id within within' result_is (λ equal. absurd (omega (arith, equal, early, low))) in
    record {
      level = level;
      value = at_end words v entries id level ∙ ap (defined_by p entries insts) (sym same) ∙ value_at_end p entries words v.sound place within own_is ∙ g.value;
    }
  where
    one : (found : Option ℕ) (a b : ℕ) → found ≡ Some a → found ≡ Some b → a ≡ b
    one found a b is also = cc

pub holds_scalar : (words : Words) (v : IsValidList words) (entries : SpecValues) (id : ℕ) (scalar : Scalar) → constant_scalar words.insts id ≡ Some scalar → HoldsScalar words v entries id scalar
unfolding constant_scalar
holds_scalar words v entries id scalar is = by_place (definition words.insts id) refl is
  where
    by_place : (found : Option ℕ) → definition words.insts id ≡ found → option_and_then (λ (place : ℕ). scalar_by words.insts (inst_at words.insts place)) found ≡ Some scalar → HoldsScalar words v entries id scalar
    by_place None defined is = cc
    by_place (Some place) defined is = at_place words v entries id scalar place defined is

-- ---- all operands

-- ids of the module's level with these scalars as their values
pub record HoldScalars (words : Words) (v : IsValidList words) (entries : SpecValues) (ids : List ℕ) (scalars : List Scalar) : Type 0 where
  pub level : (id : ℕ) → is_among id ids ≡ true → IsOfLevel words v id
  pub are : all_values (first_values words v entries) ids ≡ Some (map of_scalar scalars)

pub hold_scalars : (words : Words) (v : IsValidList words) (entries : SpecValues) (ids : List ℕ) (scalars : List Scalar) → all_constants (constant_scalar words.insts) ids ≡ Some scalars → HoldScalars words v entries ids scalars
hold_scalars words v entries [] scalars is = record { level = λ id among k low within. cc; are = ap (option_map (map of_scalar)) is }
hold_scalars words v entries (id ∷ ids) scalars is = by_first (hold_scalars words v entries ids) (constant_scalar words.insts id) refl (all_constants (constant_scalar words.insts) ids) refl is
  where
    same_id : (a b : ℕ) → a == b ≡ true → a ≡ b
    same_id a b is = grind (arith, nat_tests)

    of_either : (other : ℕ) (b : Bool) → id == other ≡ b → IsOfLevel words v id → (is_among other ids ≡ true → IsOfLevel words v other) → (b || is_among other ids) ≡ true → IsOfLevel words v other
    of_either other true equal level rest among = subst (IsOfLevel words v) (same_id id other equal) level
    of_either other false equal level rest among = rest among

    by_first : ((more : List Scalar) → all_constants (constant_scalar words.insts) ids ≡ Some more → HoldScalars words v entries ids more)
        → (first : Option Scalar) → constant_scalar words.insts id ≡ first → (rest : Option (List Scalar)) → all_constants (constant_scalar words.insts) ids ≡ rest
        → option_and_then (λ (first : Scalar). option_map (λ (rest : List Scalar). first ∷ rest) rest) first ≡ Some scalars → HoldScalars words v entries (id ∷ ids) scalars
    by_first further None one rest are some = cc
    by_first further (Some scalar) one None are some = cc
    by_first further (Some scalar) one (Some more) are some =
        let h = holds_scalar words v entries id scalar one in
        let r = further more are in
        let values = first_values words v entries in
        record {
          level = λ other among. of_either other (id == other) refl h.level (r.level other) among;
          are = ap (option_and_then (λ (a : Value). option_map (λ (l : List Value). a ∷ l) (all_values values ids))) h.value
              ∙ ap (option_map (λ (l : List Value). of_scalar scalar ∷ l)) r.are ∙ ap (option_map (map of_scalar)) some;
        }
