-- A scalar that stands for an id is of the id's type: what an operation on constants folds to fits the operation's type.
use Rattle.std.proofs.Common.{◌≡◌, ℕ, zero, suc, ◌<◌, ◌≤◌, ◌&&◌, Bool, true, false, List, [], ◌∷◌, map, refl, ap, sym, ◌∙◌, subst, arith, Option, None, Some}
use Rattle.std.specs.Option.{option_map, option_and_then}
use Rattle.basics.proofs.Bools.{first_of_both, second_of_both}
use Rattle.spirv_model.specs.declared.module.Inst.{Inst}
use Rattle.spirv_model.specs.declared.class.Class.{Class}
use Rattle.spirv_model.specs.declared.class.Class.TheVariants as class
use Rattle.spirv_model.specs.declared.class.ScalarClass.{ScalarClass}
use Rattle.spirv_model.specs.declared.class.ScalarClass.TheVariants.{Bitcast, WordFromWord, WordFromWords, TruthFromWords, TruthFromTruth, TruthFromTruths}
use Rattle.spirv_model.specs.Operands.{word_at, words_from, class_of}
use Rattle.scalar_model.specs.declared.scalar_value.Scalar.{Scalar}
use Rattle.scalar_model.specs.declared.scalar_value.Scalar.TheVariants.{Bool as TruthOf, Word as WordOf}
use Rattle.scalar_model.specs.Scalars.{scalar_result}
use Rattle.body_model.specs.Classes.{is_plain}
use Rattle.valid_model.specs.declared.meaning.IdFacts.{IdFacts}
use Rattle.valid_model.specs.declared.meaning.Meaning.{Meaning}
use Rattle.valid_model.specs.declared.meaning.Meaning.TheVariants.{Shape as OfShape}
use Rattle.valid_model.specs.declared.meaning.Shape.TheVariants.{Bool as OneBool, Int, BoolVector, IntVector}
use Rattle.valid_model.specs.Definitions.{definition, inst_at}
use Rattle.valid_model.specs.Knowledge.{is_bool, is_integer}
use Rattle.valid_model.specs.Meanings.{known_before, meaning}
use Rattle.check_model.specs.declared.components.Components.{Components}
use Rattle.check_model.specs.Intervals.{intervals_of}
use Rattle.check_model.specs.ScalarOperands.{match_in, operand_fits, unary_fits, binary_fits, condition_fits, is_select, select_fits, scalar_operands_fit}
use Rattle.check_model.specs.Typing.{Typing, type_id, constant_word, type_of, has_type, components_in}
use Rattle.check_model.specs.Visibility.{is_defined_for}
use Rattle.stage_model.specs.Value.{Value, Truth, Word, OneTruth, OneWord}
use Rattle.stage_model.specs.Program.{Program, program_of}
use Rattle.stage_model.specs.Start.{of_scalar}
use Rattle.stage_model.specs.Operations.{operation}
use Rattle.typed_model.specs.Types.{HasTypes, typing_in, Suits, AllSuit}
use Rattle.typed_model.specs.Values.{IsOfType}
use Rattle.typed_model.proofs.FunctionRuns.{function_within}
use Rattle.typed_model.proofs.ModuleValues.{meaning_at}
use Rattle.typed_model.proofs.PlainRuns.{scalar_reads, no_reduction}
use Rattle.typed_model.proofs.ReadTypes.{Each}
use Rattle.typed_model.proofs.Rows.{operation_by_class}
use Rattle.typed_model.proofs.ScalarTypes.{scalar_typed}
use Rattle.typed_model.proofs.TypedSteps.{seen}
use Rattle.typed_model.proofs.TypeLayouts.{components_layout, has_type_layout, type_has_layout}
use Rattle.typed_model.proofs.ValidModules.{valid_sound}
use Rattle.typed_model.proofs.ValidTypes.{valid_types, defined_within}
use Rattle.unit_model.specs.ConstantScalars.{is_scalar_class}
use Rattle.change_model.specs.declared.fate.Fate.{Fate}
use Rattle.change_model.specs.declared.fate.Fate.TheVariants.{Dead, Stays, Goes, Picks, Folds, Nulls, Resolves, Skips, Unused}
use Rattle.change_model.specs.Folding.{all_constants, function_at}
use Rattle.change_model.specs.PlanRules.{scalar_as, scalar_of, scalar_left}
use Rattle.change_model.proofs.ChangedDefinitions.{scalar_listed}
use Rattle.change_model.proofs.ChangedMeanings.{alone_old, folded_plain}
use Rattle.change_model.proofs.FoldedConstants.{operation_on}
use Rattle.change_model.proofs.FunctionKnown.{function_known, plain_facts}
use Rattle.change_model.proofs.LevelScalars.{is_type_of, null_fits, level_scalar}
use Rattle.change_model.proofs.MovedUp.{function_is}
use Rattle.change_model.proofs.NamedTypes.{named_type}
use Rattle.change_model.proofs.Planned.{Planned, IsInside, folds, nulls, inside, fits_there}
use Rattle.change_model.proofs.PlanRunsReads.{IsReadAt, plain_reads, vertex_of, fit_here, means}

-- ---- scalars as values

bool_components : (m : Meaning) → is_bool m ≡ true → components_in m ≡ components_in (OfShape OneBool)
bool_components (OfShape OneBool) is = refl
bool_components m is = cc

word_layout : (program : Program) → HasTypes program → (type : ℕ) (m : Meaning) → program.meaning type ≡ m → is_integer m ≡ true → program.layout type ≡ Some OneWord
word_layout program types type (OfShape (Int signed)) is so = types.shaped type (Int signed) is
word_layout program types type m is so = cc

-- a scalar is a value of its type
scalar_has : (program : Program) → HasTypes program → (type : ℕ) (scalar : Scalar) → is_type_of scalar (program.meaning type) ≡ true → IsOfType program type (of_scalar scalar)
scalar_has program types type (TruthOf b) is = has_type_layout program types type (Truth b) OneTruth (components_layout program types type _ (bool_components (program.meaning type) is)) refl
scalar_has program types type (WordOf word) is = has_type_layout program types type (Word word) OneWord (word_layout program types type (program.meaning type) refl is) refl

-- a scalar that is a value of a type with components is of that type
scalar_of_type : (program : Program) → HasTypes program → (type : ℕ) (scalar : Scalar) (of : Components) (m : Meaning) → program.meaning type ≡ m → components_in m ≡ Some of → IsOfType program type (of_scalar scalar) → is_type_of scalar m ≡ true
scalar_of_type program types type (TruthOf b) of (OfShape OneBool) is are has = refl
scalar_of_type program types type (WordOf word) of (OfShape (Int signed)) is are has = refl
scalar_of_type program types type (WordOf word) of (OfShape OneBool) is are has = let e = type_has_layout program types type (Word word) _ (types.shaped type OneBool is) has in cc
scalar_of_type program types type (TruthOf b) of (OfShape (Int signed)) is are has = let e = type_has_layout program types type (Truth b) _ (types.shaped type (Int signed) is) has in cc
scalar_of_type program types type (TruthOf b) of (OfShape (BoolVector count)) is are has = let e = type_has_layout program types type (Truth b) _ (types.shaped type (BoolVector count) is) has in cc
scalar_of_type program types type (WordOf word) of (OfShape (BoolVector count)) is are has = let e = type_has_layout program types type (Word word) _ (types.shaped type (BoolVector count) is) has in cc
scalar_of_type program types type (TruthOf b) of (OfShape (IntVector count signed)) is are has = let e = type_has_layout program types type (Truth b) _ (types.shaped type (IntVector count signed) is) has in cc
scalar_of_type program types type (WordOf word) of (OfShape (IntVector count signed)) is are has = let e = type_has_layout program types type (Word word) _ (types.shaped type (IntVector count signed) is) has in cc
scalar_of_type program types type scalar of m is are has = cc

-- ---- the rule of an operation

-- it asks nothing of numbers
any_numbers : (program : Program) (numbers also : ℕ → Option ℕ) (vertex : Bool) (of : ScalarClass) (type : ℕ) (ids : List ℕ)
    → scalar_operands_fit (typing_in program numbers vertex) of type ids ≡ scalar_operands_fit (typing_in program also vertex) of type ids
unfolding scalar_operands_fit
any_numbers program numbers also vertex of type [] = refl
any_numbers program numbers also vertex of type (a ∷ []) = refl
any_numbers program numbers also vertex of type (a ∷ b ∷ []) = refl
any_numbers program numbers also vertex of type (a ∷ b ∷ c ∷ []) = refl
any_numbers program numbers also vertex of type (a ∷ b ∷ c ∷ d ∷ ids) = refl

-- the result is a scalar or a vector
abbrev Composed : Option Components → Type 0
Composed found = (of : Components) × (found ≡ Some of)

none_matches : (rt ot : Bool) (found operand : Option Components) → match_in rt ot found operand ≡ true → Composed found
none_matches rt ot None operand fits = cc
none_matches rt ot (Some of) operand fits = (of, refl)

one_composed : (of : ScalarClass) (type a : Meaning) → unary_fits of type a ≡ true → Composed (components_in type)
one_composed Bitcast type a fits = none_matches false false (components_in type) (components_in a) fits
one_composed WordFromWord type a fits = none_matches false false (components_in type) (components_in a) fits
one_composed TruthFromTruth type a fits = none_matches true true (components_in type) (components_in a) fits
one_composed other type a fits = cc

two_composed : (of : ScalarClass) (type a b : Meaning) → binary_fits of type a b ≡ true → Composed (components_in type)
two_composed WordFromWords type a b fits = none_matches false false (components_in type) (components_in a) (first_of_both (operand_fits false false type a) (operand_fits false false type b) fits)
two_composed TruthFromWords type a b fits = none_matches true false (components_in type) (components_in a) (first_of_both (operand_fits true false type a) (operand_fits true false type b) fits)
two_composed TruthFromTruths type a b fits = none_matches true true (components_in type) (components_in a) (first_of_both (operand_fits true true type a) (operand_fits true true type b) fits)
two_composed other type a b fits = cc

condition_composed : (condition : Meaning) (found : Option Components) → condition_fits condition found ≡ true → Composed found
condition_composed condition None fits = cc
condition_composed condition (Some of) fits = (of, refl)

composed : (typing : Typing) (of : ScalarClass) (type : ℕ) (ids : List ℕ) → scalar_operands_fit typing of type ids ≡ true → Composed (components_in (typing.meaning type))
unfolding scalar_operands_fit
composed typing of type [] fits = cc
composed typing of type (a ∷ []) fits = one_composed of (typing.meaning type) (type_of typing a) fits
composed typing of type (a ∷ b ∷ []) fits = two_composed of (typing.meaning type) (type_of typing a) (type_of typing b) fits
composed typing of type (condition ∷ a ∷ b ∷ []) fits =
    condition_composed (type_of typing condition) (components_in (typing.meaning type))
    (first_of_both (condition_fits (type_of typing condition) (components_in (typing.meaning type))) (has_type typing type a && has_type typing type b)
    (three (condition_fits (type_of typing condition) (components_in (typing.meaning type))) (has_type typing type a) (has_type typing type b) (second_of_both (is_select of) (select_fits typing type condition a b) fits)))
  where
    three : (a b c : Bool) → (a && b && c) ≡ true → (a && (b && c)) ≡ true
    three true b c is = is
    three false b c is = cc
composed typing of type (a ∷ b ∷ c ∷ d ∷ ids) fits = cc

-- ---- operands

-- what the definition at a place makes known of an id's type, if it is a scalar
abbrev FitsAt : Planned → ℕ → Type 0
FitsAt g k = (id type : ℕ) (scalar : Scalar) → definition g.words.insts id ≡ Some k → type_id (meaning g.words.insts id) ≡ Some type
    → scalar_as g.words.insts (inst_at g.words.insts k) (g.plan.fate k) ≡ Some scalar → is_type_of scalar (meaning g.words.insts type) ≡ true

one_id : (a b : ℕ) → ◌≡◌ {A = Option ℕ} (Some a) (Some b) → a ≡ b
one_id a b is = cc

-- an id that is read at a place, and is a scalar under its other name
operand_type : (g : Planned) (k : ℕ) → ((at : ℕ) → at < k → FitsAt g at) → (id type : ℕ) (scalar : Scalar) → (found : Option ℕ) → definition g.words.insts id ≡ found
    → is_defined_for (intervals_of g.valid.derivation) k found ≡ true → type_id (meaning g.words.insts id) ≡ Some type → scalar_left g.plan g.words.insts id ≡ Some scalar → is_type_of scalar (meaning g.words.insts type) ≡ true
unfolding scalar_left
operand_type g k earlier id type scalar None defined visible of is = cc
operand_type g k earlier id type scalar (Some at) defined visible of is =
    let n = named_type g id at type defined of in
    let low = (seen (intervals_of g.valid.derivation) at k visible).0 in
    let least = n.least in
    earlier n.place (omega (arith, low, least)) (g.plan.name id) type scalar n.defined n.type_is (sym (ap (scalar_of g.plan g.words.insts) n.defined) ∙ is)

abbrev no_numbers : ℕ → Option ℕ
no_numbers id = None

read_suits : (g : Planned) (k : ℕ) → ((at : ℕ) → at < k → FitsAt g at) → (id : ℕ) (scalar : Scalar) → IsReadAt g.words g.valid k id → scalar_left g.plan g.words.insts id ≡ Some scalar
    → Suits (program_of g.words.insts) no_numbers id (of_scalar scalar)
read_suits g k earlier id scalar read is =
    let insts = g.words.insts in
    let program = program_of insts in
    record {
      of_type = λ type of. scalar_has program (valid_types g.words g.valid.sound) type scalar
          (ap (is_type_of scalar) (means insts type)
          ∙ operand_type g k earlier id type scalar (definition insts id) refl read.used (sym (ap type_id (means insts id)) ∙ of) is);
      number = λ word none. cc;
    }

all_suit : (g : Planned) (k : ℕ) → ((at : ℕ) → at < k → FitsAt g at) → (ids : List ℕ) (scalars : List Scalar) → Each (IsReadAt g.words g.valid k) ids → all_constants (scalar_left g.plan g.words.insts) ids ≡ Some scalars
    → AllSuit (program_of g.words.insts) no_numbers ids (map of_scalar scalars)
all_suit g k earlier [] scalars reads are = subst (λ (l : List Scalar). AllSuit (program_of g.words.insts) no_numbers [] (map of_scalar l)) (same [] scalars are) tt
  where
    same : (a b : List Scalar) → ◌≡◌ {A = Option (List Scalar)} (Some a) (Some b) → a ≡ b
    same a b is = cc
all_suit g k earlier (id ∷ ids) scalars reads are =
    by_first (all_suit g k earlier ids) (scalar_left g.plan g.words.insts id) refl (all_constants (scalar_left g.plan g.words.insts) ids) refl are
  where
    same : (a b : List Scalar) → ◌≡◌ {A = Option (List Scalar)} (Some a) (Some b) → a ≡ b
    same a b is = cc

    by_first : ((more : List Scalar) → Each (IsReadAt g.words g.valid k) ids → all_constants (scalar_left g.plan g.words.insts) ids ≡ Some more → AllSuit (program_of g.words.insts) no_numbers ids (map of_scalar more))
        → (one : Option Scalar) → scalar_left g.plan g.words.insts id ≡ one → (rest : Option (List Scalar)) → all_constants (scalar_left g.plan g.words.insts) ids ≡ rest
        → option_and_then (λ (first : Scalar). option_map (λ (rest : List Scalar). first ∷ rest) rest) one ≡ Some scalars → AllSuit (program_of g.words.insts) no_numbers (id ∷ ids) (map of_scalar scalars)
    by_first further None one rest known some = cc
    by_first further (Some scalar) one None known some = cc
    by_first further (Some scalar) one (Some more) known some =
        subst (λ (l : List Scalar). AllSuit (program_of g.words.insts) no_numbers (id ∷ ids) (map of_scalar l)) (same (scalar ∷ more) scalars some)
        (read_suits g k earlier id scalar reads.0 one, further more reads.1 known)

-- ---- operations

operation_of : (of : Option Class) → is_scalar_class of ≡ true → (operation : ScalarClass) × (of ≡ Some (class.Scalar operation))
operation_of None is = cc
operation_of (Some (class.Scalar operation)) is = (operation, refl)
operation_of (Some other) is = cc

-- the scalars of the operands, and what they make
record Results (constant : ℕ → Option Scalar) (inst : Inst) (scalar : Scalar) : Type 0 where
  scalars : List Scalar
  operands : all_constants constant (words_from 2 inst) ≡ Some scalars
  result_is : scalar_result inst.op scalars ≡ Some scalar

results : (constant : ℕ → Option Scalar) (inst : Inst) (scalar : Scalar) → option_and_then (scalar_result inst.op) (all_constants constant (words_from 2 inst)) ≡ Some scalar → Results constant inst scalar
results constant inst scalar is = by_operands (all_constants constant (words_from 2 inst)) refl is
  where
    by_operands : (found : Option (List Scalar)) → all_constants constant (words_from 2 inst) ≡ found → option_and_then (scalar_result inst.op) found ≡ Some scalar → Results constant inst scalar
    by_operands None are some = cc
    by_operands (Some scalars) are some = record { scalars = scalars; operands = are; result_is = some }

one_value : (a b : Value) → ◌≡◌ {A = Option Value} (Some a) (Some b) → a ≡ b
one_value a b is = cc

-- an operation that folds is plain
folds_plain : (g : Planned) (k : ℕ) (scalar : Scalar) → g.plan.fate k ≡ Folds scalar → is_plain (inst_at g.words.insts k).op ≡ true
folds_plain g k scalar fate =
    let l = scalar_listed (word_at 0 (inst_at g.words.insts k)) (word_at 1 (inst_at g.words.insts k)) scalar in
    folded_plain g k l.0 (folds scalar fate (fits_there g k (Folds scalar) fate (inside g k (Folds scalar) fate refl)) l.1)

-- an operation that folds fits its type, where its operands' definitions do
folded_type : (g : Planned) (k : ℕ) (scalar : Scalar) → g.plan.fate k ≡ Folds scalar → ((at : ℕ) → at < k → FitsAt g at) → is_type_of scalar (meaning g.words.insts (word_at 0 (inst_at g.words.insts k))) ≡ true
folded_type g k scalar fate earlier =
    let insts = g.words.insts in let words = g.words in let v = g.valid in
    let inst = inst_at insts k in
    let type = word_at 0 inst in
    let ids = words_from 2 inst in
    let program = program_of insts in
    let types = valid_types words v.sound in
    let vertex = vertex_of insts in
    let i = inside g k (Folds scalar) fate refl in
    let may = fits_there g k (Folds scalar) fate i in
    let within = function_within insts v.derivation k i.high in
    let o = operation_of (class_of inst.op) may.is_scalar in
    let r = results (scalar_left g.plan insts) inst scalar may.comes in
    let reads : Each (IsReadAt words v k) ids =
    subst (Each (IsReadAt words v k)) (scalar_reads inst.op 0 inst.words o.0 o.1) (plain_reads words v k 0 i.high (folds_plain g k scalar fate)) in
    let fit : scalar_operands_fit (typing_in program (constant_word insts) vertex) o.0 type ids ≡ true = fit_here insts inst (Some (class.Scalar o.0)) ((valid_sound words v).fit k within) o.1 in
    let n = no_reduction inst.op o.0 o.1 in
    let t = scalar_typed program types no_numbers vertex o.0 inst.op type ids (map of_scalar r.scalars) (operation_by_class o.0 inst.op o.1).is n.0 n.1
    (any_numbers program no_numbers (constant_word insts) vertex o.0 type ids ∙ fit) (all_suit g k earlier ids r.scalars reads r.operands) in
    let e : t.value ≡ of_scalar scalar = one_value t.value (of_scalar scalar) (sym t.is ∙ operation_on inst.op r.scalars scalar r.result_is) in
    let c = composed (typing_in program (constant_word insts) vertex) o.0 type ids fit in
    sym (ap (is_type_of scalar) (means insts type))
    ∙ scalar_of_type program types type scalar c.0 (program.meaning type) refl c.1 (subst (IsOfType program type) e t.has)

-- ---- each definition

plain_type : (g : Planned) (id k type : ℕ) → definition g.words.insts id ≡ Some k → function_at g.words.insts ≤ k → is_plain (inst_at g.words.insts k).op ≡ true → type_id (meaning g.words.insts id) ≡ Some type
    → word_at 0 (inst_at g.words.insts k) ≡ type
plain_type g id k type at low plain of =
    let insts = g.words.insts in
    let alone = alone_old g k low (defined_within insts id k at) in
    one_id _ type (sym (ap type_id (meaning_at insts k id at ∙ ap (λ (f : IdFacts). f.meaning) (function_known (known_before insts k) (inst_at insts k) alone.0 alone.1 ∙ plain_facts (inst_at insts k) plain))) ∙ of)

one_scalar : (a b : Scalar) → ◌≡◌ {A = Option Scalar} (Some a) (Some b) → a ≡ b
one_scalar a b is = cc

low_of : (g : Planned) (k : ℕ) → IsInside g k → function_at g.words.insts ≤ k
low_of g k i = let low = i.low in let e = function_is g.words.insts g.valid.derivation in omega (arith, low, e)

fits_within : (g : Planned) (n k : ℕ) → k < n → FitsAt g k
fits_within g zero k less id type scalar at of is = absurd (omega (arith, less))
fits_within g (suc n) k less id type scalar at of is = by_fate (λ at before. fits_within g n at (omega (arith, less, before))) (g.plan.fate k) refl is
  where
    insts : List Inst
    insts = g.words.insts

    by_level : scalar_as insts (inst_at insts k) Stays ≡ Some scalar → is_type_of scalar (meaning insts type) ≡ true
    by_level found =
        let l = level_scalar g id k scalar at found in
        ap (λ (n : ℕ). is_type_of scalar (meaning insts n)) (sym (one_id _ type (sym (ap type_id l.means) ∙ of))) ∙ l.fits

    by_fate : ((at : ℕ) → at < k → FitsAt g at) → (fate : Fate) → g.plan.fate k ≡ fate → scalar_as insts (inst_at insts k) fate ≡ Some scalar → is_type_of scalar (meaning insts type) ≡ true
    by_fate further (Folds folded) same found =
        let i = inside g k (Folds folded) same refl in
        let e = plain_type g id k type at (low_of g k i) (folds_plain g k folded same) of in
        ap (λ (s : Scalar). is_type_of s (meaning insts type)) (sym (one_scalar folded scalar found))
        ∙ ap (λ (n : ℕ). is_type_of folded (meaning insts n)) (sym e) ∙ folded_type g k folded same further
    by_fate further Nulls same found =
        let i = inside g k Nulls same refl in
        let e = plain_type g id k type at (low_of g k i) (folded_plain g k _ (nulls same (fits_there g k Nulls same i) refl)) of in
        ap (λ (n : ℕ). is_type_of scalar (meaning insts n)) (sym e) ∙ null_fits (meaning insts (word_at 0 (inst_at insts k))) scalar found
    by_fate further Dead same found = by_level found
    by_fate further Stays same found = by_level found
    by_fate further (Goes label) same found = by_level found
    by_fate further (Picks label) same found = by_level found
    by_fate further Resolves same found = by_level found
    by_fate further Skips same found = by_level found
    by_fate further Unused same found = by_level found

-- what an operation folds to is of the operation's type
pub folds_fit : (g : Planned) (k : ℕ) (scalar : Scalar) → g.plan.fate k ≡ Folds scalar → is_type_of scalar (meaning g.words.insts (word_at 0 (inst_at g.words.insts k))) ≡ true
folds_fit g k scalar fate = folded_type g k scalar fate (λ at less. fits_within g k at less)
