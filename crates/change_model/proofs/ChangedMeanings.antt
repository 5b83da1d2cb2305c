-- What ids mean in the list that a plan makes.
use Rattle.std.proofs.Common.{◌≡◌, ℕ, zero, suc, ◌<◌, ◌≤◌, ◌==◌, inl, inr, Bool, true, false, List, [], ◌∷◌, length, take, refl, ap, sym, ◌∙◌, subst, arith, Option, None, Some}
use Rattle.std.proofs.lemmas.Bool.{cases_lt}
use Rattle.spirv_model.specs.declared.module.Inst.{Inst}
use Rattle.spirv_model.specs.declared.class.Class.{Class}
use Rattle.spirv_model.specs.declared.class.Class.TheVariants as class
use Rattle.spirv_model.specs.declared.op.TheConstants as op
use Rattle.spirv_model.specs.Operands.{word_at, entry_of, class_of, result}
use Rattle.body_model.specs.Classes.{is_plain_class, is_plain}
use Rattle.body_model.specs.Grammar.{Derives}
use Rattle.valid_model.specs.declared.meaning.IdFacts.{IdFacts}
use Rattle.valid_model.specs.declared.meaning.Meaning.TheVariants.{Absent, Constant, Value as OfValue}
use Rattle.valid_model.specs.Definitions.{inst_at, definition}
use Rattle.valid_model.specs.Knowledge.{meaning_in, means}
use Rattle.valid_model.specs.Meanings.{known_of, known_by, known_before, meaning}
use Rattle.valid_model.proofs.KnownIds.{known_by_definition, unknown_without_definition}
use Rattle.typed_model.proofs.BlockParts.{BlockPart, a_label, a_phi, a_variable, a_selection_merge, a_loop_merge, a_plain_one, a_terminator}
use Rattle.typed_model.proofs.FunctionRuns.{part_at}
use Rattle.typed_model.proofs.ModuleValues.{meaning_at}
use Rattle.typed_model.proofs.ResultIds.{terminator_result}
use Rattle.typed_model.proofs.SilentSteps.{given_id}
use Rattle.typed_model.proofs.TypedSteps.{gives_at}
use Rattle.typed_model.proofs.ValidTypes.{defined_within}
use Rattle.change_model.specs.Folding.{function_at}
use Rattle.change_model.specs.Plans.{kept_at, written_at, constant_at, changed}
use Rattle.change_model.specs.PlanRules.{is_constant_fate}
use Rattle.change_model.specs.Programs.{plainly}
use Rattle.change_model.proofs.BehindLevel.{end_op}
use Rattle.change_model.proofs.ChangedDefinitions.{is_left, same_there, written_there, new_constant_there, constant_comes, written_comes, level_defined, written_defined, constant_defined, gone_defined, never_defined}
use Rattle.change_model.proofs.ChangedPlaces.{place_left, constant_left, front_left, level_there}
use Rattle.change_model.proofs.FoldedKeeps.{function_op}
use Rattle.change_model.proofs.FoldedOperations.{IsAlone, function_alone, function_is_alone}
use Rattle.change_model.proofs.FoldedRuns.{is_scalar_class}
use Rattle.change_model.proofs.FunctionKnown.{function_facts, function_known, label_facts, op_function_facts, phi_facts, plain_facts, store_result, selection_merge_result, loop_merge_result, function_end_result, variable_as_is}
use Rattle.change_model.proofs.MovedUp.{function_is}
use Rattle.change_model.proofs.NewConstants.{new_is_plain}
use Rattle.change_model.proofs.Planned.{Planned, IsWritten, keeps, goes, picks, is_written, IsNewConstant, folds, nulls, is_new_constant, choice_of, choice_ends}
use Rattle.change_model.proofs.RenamedWords.{is_value_class, KeepsResult, kept_result, keeps_type}
use Rattle.change_model.proofs.SettledMeanings.{known_constant, constant_is_no_type, constant_is_constant}
use Rattle.change_model.proofs.Settlings.{op_is}

-- ---- the module's level

pub take_less : (k n : ℕ) (insts : List Inst) → k ≤ n → take k (take n insts) ≡ take k insts
take_less zero n insts least = refl
take_less (suc k) zero insts least = absurd (omega (arith, least))
take_less (suc k) (suc n) [] least = refl
take_less (suc k) (suc n) (inst ∷ insts) least = ap (λ (l : List Inst). inst ∷ l) (take_less k n insts (omega (arith, least)))

-- what stands before a place of the level, or before OpFunction
pub level_before : (g : Planned) (k : ℕ) → k ≤ function_at g.words.insts → take k (changed g.plan g.words.insts) ≡ take k g.words.insts
level_before g k low =
    sym (take_less k (function_at g.words.insts) (changed g.plan g.words.insts) low) ∙ ap (take k) (front_left g.plan g.words.insts) ∙ take_less k (function_at g.words.insts) g.words.insts low

pub level_inst : (g : Planned) (k : ℕ) → k < function_at g.words.insts → inst_at (changed g.plan g.words.insts) k ≡ inst_at g.words.insts k
level_inst g k low = same_there (changed g.plan g.words.insts) g.words.insts k k (level_there g.plan g.words.insts k low)

short_of : (a b : ℕ) → a < b → a ≤ b
short_of a b less = omega (arith, less)

-- the same is known of what is defined there
pub level_known : (g : Planned) (id k : ℕ) → definition g.words.insts id ≡ Some k → k < function_at g.words.insts → known_by (changed g.plan g.words.insts) id ≡ known_by g.words.insts id
level_known g id k at low =
    known_by_definition (changed g.plan g.words.insts) id k (level_defined g id k at low)
    ∙ ap (λ (l : List Inst). Some (known_of (known_by l) (inst_at (changed g.plan g.words.insts) k))) (level_before g k (short_of k (function_at g.words.insts) low))
    ∙ ap (λ (i : Inst). Some (known_of (known_before g.words.insts k) i)) (level_inst g k low)
    ∙ sym (known_by_definition g.words.insts id k at)

-- ---- what is written

none_some : (id : ℕ) → ◌≡◌ {A = Option ℕ} None (Some id) → ⊥
none_some id is = cc

by_tests : (inst : Inst) → is_plain inst.op ≡ true → (inst.op == op.STORE ≡ true → ⊥) → inst.op == op.STORE ≡ false
by_tests inst is never = by_test (inst.op == op.STORE) refl
  where
    by_test : (b : Bool) → inst.op == op.STORE ≡ b → b ≡ false
    by_test false other = refl
    by_test true same = absurd (never same)

-- a value has the same type
plain_same : (new old : Inst) (id : ℕ) → KeepsResult new old → result old ≡ Some id → is_plain old.op ≡ true → function_facts new ≡ function_facts old
plain_same new old id k gives is =
    let no_store = by_tests old is (λ same. none_some id (sym (store_result old (op_is old.op op.STORE same)) ∙ gives)) in
    plain_facts new (ap is_plain k.op ∙ is)
    ∙ ap (λ (n : ℕ). means (OfValue n)) (keeps_type new old k (value_class (class_of old.op) is) no_store)
    ∙ sym (plain_facts old is)
  where
    value_class : (of : Option Class) → is_plain_class of ≡ true → is_value_class of ≡ true
    value_class None is = cc
    value_class (Some class.Undef) is = refl
    value_class (Some class.Memory) is = refl
    value_class (Some class.Composite) is = refl
    value_class (Some (class.Scalar operation)) is = refl
    value_class (Some other) is = cc

phi_value : (is_value_class (class_of op.PHI) ≡ true) × (op.PHI == op.STORE ≡ false)
unfolding class_of entry_of
phi_value = (refl, refl)

phi_same : (new old : Inst) → KeepsResult new old → old.op ≡ op.PHI → function_facts new ≡ function_facts old
phi_same new old k is =
    phi_facts new (k.op ∙ is)
    ∙ ap (λ (n : ℕ). means (OfValue n)) (keeps_type new old k (ap (λ (o : ℕ). is_value_class (class_of o)) is ∙ phi_value.0) (ap (λ (o : ℕ). o == op.STORE) is ∙ phi_value.1))
    ∙ sym (phi_facts old is)

part_same : (g : Planned) (place id : ℕ) (new : Inst) → kept_at g.plan g.words.insts place (inst_at g.words.insts place) ≡ new → result (inst_at g.words.insts place) ≡ Some id
    → BlockPart (inst_at g.words.insts place) → function_facts new ≡ function_facts (inst_at g.words.insts place)
part_same g place id new is gives part = by_part part
  where
    old : Inst
    old = inst_at g.words.insts place

    k : KeepsResult new (inst_at g.words.insts place)
    k = subst (λ (i : Inst). KeepsResult i (inst_at g.words.insts place)) is (kept_result g.plan g.words.insts place (inst_at g.words.insts place))

    by_part : BlockPart (inst_at g.words.insts place) → function_facts new ≡ function_facts (inst_at g.words.insts place)
    by_part (a_label at) = label_facts new (k.op ∙ op_is old.op op.LABEL at) ∙ sym (label_facts old (op_is old.op op.LABEL at))
    by_part (a_phi at) = phi_same new old k (op_is old.op op.PHI at)
    by_part (a_variable at) = ap function_facts (sym is ∙ variable_as_is g.plan g.words.insts place old (op_is old.op op.VARIABLE at))
    by_part (a_selection_merge at) = absurd (none_some id (sym (selection_merge_result old (op_is old.op op.SELECTION_MERGE at)) ∙ gives))
    by_part (a_loop_merge at) = absurd (none_some id (sym (loop_merge_result old (op_is old.op op.LOOP_MERGE at)) ∙ gives))
    by_part (a_plain_one at) = plain_same new old id k gives at
    by_part (a_terminator at) = absurd (none_some id (sym (terminator_result old at) ∙ gives))

-- the instruction that is written for one with a result makes the same known
pub facts_same : (g : Planned) (place id : ℕ) (new : Inst) → IsWritten g place new → result (inst_at g.words.insts place) ≡ Some id → g.valid.derivation.before ≤ place → place < length g.words.insts
    → function_facts new ≡ function_facts (inst_at g.words.insts place)
facts_same g place id new (goes label same may is) gives low within =
    absurd (none_some id (sym (terminator_result (inst_at g.words.insts place) (choice_ends (inst_at g.words.insts place).op (choice_of g.plan g.words.insts (inst_at g.words.insts place) label may.only))) ∙ gives))
facts_same g place id new (picks label same may is) gives low within =
    absurd (none_some id (sym (terminator_result (inst_at g.words.insts place) (choice_ends (inst_at g.words.insts place).op (choice_of g.plan g.words.insts (inst_at g.words.insts place) label may.only))) ∙ gives))
facts_same g place id new (keeps same is) gives low within = elim (cases_lt d.before place) [
  | inl more ↦ elim (cases_lt place d.after) [
    | inl early ↦ part_same g place id new is gives (part_at insts d place (omega (arith, more)) early)
    | inr late ↦ let last = d.last in let e : d.after ≡ place = omega (arith, late, within, last) in
        absurd (none_some id (sym (function_end_result (inst_at insts place) (ap (λ (n : ℕ). (inst_at insts n).op) (sym e) ∙ end_op insts d)) ∙ gives))
  ]
  | inr upto ↦ let e : d.before ≡ place = omega (arith, low, upto) in
      let at : (inst_at insts place).op ≡ op.FUNCTION = ap (λ (n : ℕ). (inst_at insts n).op) (sym e) ∙ function_op insts d in
      let k = subst (λ (i : Inst). KeepsResult i (inst_at insts place)) is (kept_result g.plan insts place (inst_at insts place)) in
      op_function_facts new (k.op ∙ at) ∙ sym (op_function_facts (inst_at insts place) at)
]
  where
    insts : List Inst
    insts = g.words.insts

    d : Derives g.words.insts
    d = g.valid.derivation

-- it is no type and no constant, as all of the function
pub alone_old : (g : Planned) (place : ℕ) → function_at g.words.insts ≤ place → place < length g.words.insts → IsAlone (inst_at g.words.insts place).op
alone_old g place low within = elim (cases_lt g.valid.derivation.before place) [
  | inl more ↦ function_is_alone g.words.insts g.valid.derivation place (omega (arith, more)) within
  | inr upto ↦
      let first = function_is g.words.insts g.valid.derivation in
      let e : g.valid.derivation.before ≡ place = omega (arith, low, upto, first) in
      subst IsAlone (sym (ap (λ (n : ℕ). (inst_at g.words.insts n).op) (sym e) ∙ function_op g.words.insts g.valid.derivation)) function_alone
]

pub written_alone : (g : Planned) (place id : ℕ) (new : Inst) → IsWritten g place new → result (inst_at g.words.insts place) ≡ Some id → IsAlone (inst_at g.words.insts place).op → IsAlone new.op
written_alone g place id new (keeps same is) gives alone =
    subst IsAlone (sym (kept_result g.plan g.words.insts place (inst_at g.words.insts place)).op ∙ ap (λ (i : Inst). i.op) is) alone
written_alone g place id new (goes label same may is) gives alone =
    absurd (none_some id (sym (terminator_result (inst_at g.words.insts place) (choice_ends (inst_at g.words.insts place).op (choice_of g.plan g.words.insts (inst_at g.words.insts place) label may.only))) ∙ gives))
written_alone g place id new (picks label same may is) gives alone =
    absurd (none_some id (sym (terminator_result (inst_at g.words.insts place) (choice_ends (inst_at g.words.insts place).op (choice_of g.plan g.words.insts (inst_at g.words.insts place) label may.only))) ∙ gives))

pub written_known : (g : Planned) (id k : ℕ) (new : Inst) → definition g.words.insts id ≡ Some k → written_at g.plan g.words.insts k ≡ new ∷ [] → function_at g.words.insts ≤ k
    → known_by (changed g.plan g.words.insts) id ≡ known_by g.words.insts id
written_known g id k new at is low =
    let insts = g.words.insts in
    let list = changed g.plan insts in
    let there = place_left g.plan insts k in
    let within = defined_within insts id k at in
    let gives = given_id id (result (inst_at insts k)) (gives_at insts id k at) in
    let first = function_is insts g.valid.derivation in
    let alone = alone_old g k low within in
    let also = written_alone g k id new (is_written g k new is) gives alone in
    known_by_definition list id there (written_defined g id k new at is)
    ∙ ap (λ (i : Inst). Some (known_of (known_before list there) i)) (written_there g k new low within is)
    ∙ ap (λ (f : IdFacts). Some f)
    (function_known (known_before list there) new also.0 also.1 ∙ facts_same g k id new (is_written g k new is) gives (omega (arith, low, first)) within
    ∙ sym (function_known (known_before insts k) (inst_at insts k) alone.0 alone.1))
    ∙ sym (known_by_definition insts id k at)

-- ---- new constants

scalar_plain : (of : Option Class) → is_scalar_class of ≡ true → is_plain_class of ≡ true
scalar_plain None is = cc
scalar_plain (Some (class.Scalar operation)) is = refl
scalar_plain (Some other) is = cc

load_plain : is_plain op.LOAD ≡ true
unfolding class_of entry_of
load_plain = refl

-- the instruction for which one comes is plain
pub folded_plain : (g : Planned) (place : ℕ) (inst : Inst) → IsNewConstant g place inst → is_plain (inst_at g.words.insts place).op ≡ true
folded_plain g place inst (folds scalar same may is) = scalar_plain (class_of (inst_at g.words.insts place).op) may.is_scalar
folded_plain g place inst (nulls same may is) = ap is_plain may.is_load ∙ load_plain

pub folded_meaning : (g : Planned) (id k : ℕ) (inst : Inst) → definition g.words.insts id ≡ Some k → constant_at g.plan g.words.insts k ≡ inst ∷ [] → function_at g.words.insts ≤ k
    → meaning g.words.insts id ≡ OfValue (word_at 0 (inst_at g.words.insts k))
folded_meaning g id k inst at is low =
    let alone = alone_old g k low (defined_within g.words.insts id k at) in
    meaning_at g.words.insts k id at
    ∙ ap (λ (f : IdFacts). f.meaning)
    (function_known (known_before g.words.insts k) (inst_at g.words.insts k) alone.0 alone.1 ∙ plain_facts (inst_at g.words.insts k) (folded_plain g k inst (is_new_constant g k inst is)))

pub constant_meaning : (g : Planned) (id k : ℕ) (inst : Inst) → definition g.words.insts id ≡ Some k → constant_at g.plan g.words.insts k ≡ inst ∷ [] → function_at g.words.insts ≤ k
    → meaning (changed g.plan g.words.insts) id ≡ Constant (word_at 0 (inst_at g.words.insts k))
constant_meaning g id k inst at is low =
    let insts = g.words.insts in
    let list = changed g.plan insts in
    let there = constant_left g.plan insts k in
    let c = new_is_plain g k inst (is_new_constant g k inst is) in
    meaning_at list there id (constant_defined g id k inst at is)
    ∙ ap (λ (i : Inst). (known_of (known_before list there) i).meaning) (new_constant_there g k inst low (defined_within insts id k at) is)
    ∙ ap (λ (f : IdFacts). f.meaning) (known_constant (known_before list there) inst (constant_is_no_type (class_of inst.op) c.class_is) (constant_is_constant (class_of inst.op) c.class_is))
    ∙ ap Constant c.type_is

-- ---- each id that is still defined

pub gone_means : (g : Planned) (id : ℕ) → definition (changed g.plan g.words.insts) id ≡ None → meaning (changed g.plan g.words.insts) id ≡ Absent
gone_means g id none = ap meaning_in (unknown_without_definition (changed g.plan g.words.insts) id none)

-- it means the same, where constants aren't told from other values
pub still_means : (g : Planned) (id q : ℕ) → definition (changed g.plan g.words.insts) id ≡ Some q → plainly (meaning (changed g.plan g.words.insts) id) ≡ plainly (meaning g.words.insts id)
still_means g id q there = by_old (definition insts id) refl
  where
    insts : List Inst
    insts = g.words.insts

    list : List Inst
    list = changed g.plan g.words.insts

    by_kind : (k : ℕ) → definition insts id ≡ Some k → function_at insts ≤ k → (a b : Bool) → is_left (g.plan.fate k) ≡ a → is_constant_fate (g.plan.fate k) ≡ b → plainly (meaning list id) ≡ plainly (meaning insts id)
    by_kind k at low false b gone kind = absurd (none_some q (sym (gone_defined g id k at gone) ∙ there))
    by_kind k at low true true left kind =
        let c = constant_comes g.plan insts k kind in
        ap plainly (constant_meaning g id k c.0 at c.1 low) ∙ sym (ap plainly (folded_meaning g id k c.0 at c.1 low))
    by_kind k at low true false left kind =
        let w = written_comes g.plan insts k left kind in
        ap (λ (o : Option IdFacts). plainly (meaning_in o)) (written_known g id k w.0 at w.1 low)

    by_old : (found : Option ℕ) → definition insts id ≡ found → plainly (meaning list id) ≡ plainly (meaning insts id)
    by_old None at = absurd (none_some q (sym (never_defined g id at) ∙ there))
    by_old (Some k) at = elim (cases_lt k (function_at insts)) [
      | inl low ↦ ap (λ (o : Option IdFacts). plainly (meaning_in o)) (level_known g id k at low)
      | inr late ↦ by_kind k at late (is_left (g.plan.fate k)) (is_constant_fate (g.plan.fate k)) refl refl
    ]
