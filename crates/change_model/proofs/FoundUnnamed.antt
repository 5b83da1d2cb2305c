-- Where one pass finds that all stays, no instruction of the function names an input that is zero.
use Rattle.std.proofs.Common.{◌≡◌, ℕ, zero, suc, ◌+◌, ◌<◌, ◌⊎◌, inl, inr, Bool, true, false, not, ◌==◌, ◌||◌, ◌&&◌, if◌then◌else◌, List, [], ◌∷◌, length, take, refl, ap, sym, ◌∙◌, arith, Option, None, Some}
use Rattle.std.specs.Prelude.{filter}
use Rattle.std.specs.List.{list_any, list_all, range_with_len}
use Rattle.std.proofs.lemmas.Bool.{cases_lt, eqb-true, eq-eqb}
use Rattle.spirv_model.specs.declared.module.Inst.{Inst}
use Rattle.spirv_model.specs.declared.class.Class.{Class}
use Rattle.spirv_model.specs.declared.class.Class.TheVariants as class
use Rattle.spirv_model.specs.declared.op.TheConstants as op
use Rattle.spirv_model.specs.Operands.{word_at, entry_of, class_of, kinds, ids}
use Rattle.body_model.specs.Classes.{is_module_level, is_plain_class}
use Rattle.body_model.specs.Switches.{is_among}
use Rattle.valid_model.specs.declared.meaning.Meaning.{Meaning}
use Rattle.valid_model.specs.declared.meaning.Meaning.TheVariants.{Absent, Variable}
use Rattle.valid_model.specs.Definitions.{inst_at, definition}
use Rattle.valid_model.specs.Knowledge.{meaning_in}
use Rattle.valid_model.specs.Meanings.{meaning}
use Rattle.valid_model.proofs.KnownIds.{unknown_without_definition}
use Rattle.check_model.specs.EntryPoints.{is_op_function}
use Rattle.check_model.specs.Storage.{is_in_function}
use Rattle.check_model.specs.Typing.{typing_of, type_id, meaning_of, type_of}
use Rattle.check_model.specs.Visibility.{Incoming, incoming, uses_operands}
use Rattle.stage_model.proofs.StageRuns.{nowhere}
use Rattle.typed_model.proofs.BlockParts.{BlockPart, a_label, a_phi, a_variable, a_selection_merge, a_loop_merge, a_plain_one, a_terminator, another}
use Rattle.typed_model.proofs.EffectsRun.{instruction}
use Rattle.typed_model.proofs.FunctionRuns.{part_at, function_within}
use Rattle.typed_model.proofs.PlainRuns.{at_op}
use Rattle.typed_model.proofs.ValidTypes.{defined_within}
use Rattle.change_model.specs.declared.fate.Fate.TheVariants as fate
use Rattle.change_model.specs.PlanRules.{merge_labels, is_shape, is_zero_input}
use Rattle.change_model.specs.Specialised.{names_no_zeros}
use Rattle.change_model.proofs.BehindLevel.{end_op}
use Rattle.change_model.proofs.BlockIds.{Names, InPairs, label_names, selection_names, loop_names, end_names, phi_words}
use Rattle.change_model.proofs.ConditionNames.{target_names, merge_names}
use Rattle.change_model.proofs.FoundFits.{phi_typed}
use Rattle.change_model.proofs.FoundInputs.{ZeroInput, zero_input, input_misfit, input_early, used_none}
use Rattle.change_model.proofs.FoundNames.{pair_fits, taken_by}
use Rattle.change_model.proofs.FoundPlans.{Found}
use Rattle.change_model.proofs.FoundReduced.{StaysAll}
use Rattle.change_model.proofs.FoundResolved.{label_result, block_before, given_some}
use Rattle.change_model.proofs.FoundUses.{label_inside, stands_inside}
use Rattle.change_model.proofs.LeftLeaves.{names_in}
use Rattle.change_model.proofs.LeftScopes.{is_label_at, label_at, names}
use Rattle.change_model.proofs.MovedUp.{level_inst}
use Rattle.change_model.proofs.NamedIds.{ids_are}
use Rattle.change_model.proofs.PhiPairsLeft.{In, in_blocks}
use Rattle.change_model.proofs.PlanRunsRenamed.{operands_used}
use Rattle.change_model.proofs.PlanRunsValues.{own_defined, result_at}
use Rattle.change_model.proofs.PredecessorsLeft.{phi_names}
use Rattle.change_model.proofs.TakenOperands.{clash, is_taken_type}
use Rattle.change_model.proofs.TypesNamed.{means}

pub plain_uses : (of : Option Class) → is_plain_class of ≡ true → uses_operands of ≡ true
plain_uses (Some class.Undef) is = refl
plain_uses (Some class.Memory) is = refl
plain_uses (Some class.Composite) is = refl
plain_uses (Some (class.Scalar operation)) is = refl
plain_uses of is = cc

pub variable_uses : uses_operands (class_of op.VARIABLE) ≡ true
unfolding class_of entry_of
variable_uses = refl

no_absent : {Q : Type 0} (held class : ℕ) → ◌≡◌ {A = Meaning} Absent (Variable held class) → Q
no_absent held class is = cc

module _ (f : Found) (stays : (place : ℕ) → f.plan.fate place ≡ fate.Stays) (id : ℕ) (z : ZeroInput f id) where
  abbrev insts : List Inst
  insts = f.words.insts

  -- no label is an input
  no_label : (at : ℕ) → f.valid.derivation.before < at → at < length f.words.insts → is_label_at f.words.insts at ≡ true → label_at f.words.insts at ≡ id → ⊥
  no_label at low within is own = input_early f id z at (own_defined f.words f.valid at id within (label_result (inst_at insts at) is ∙ ap (λ (n : ℕ). Some n) own)) low

  not_zero : id ≡ 0 → ⊥
  not_zero none = by_definition (definition insts id) refl
    where
      by_definition : (found : Option ℕ) → definition f.words.insts id ≡ found → ⊥
      by_definition None defined = no_absent z.held _ (sym (ap meaning_in (unknown_without_definition insts id defined)) ∙ z.is)
      by_definition (Some q) defined = given_some f q id (defined_within insts id q defined) (result_at insts id q defined) none

  module _ (place : ℕ) (low : f.valid.derivation.before < place) (high : place < f.valid.derivation.after) where
    within : place < length f.words.insts
    within = function_within insts f.valid.derivation place high

    named_none : names f.words.insts place id ≡ true → ⊥
    named_none named = elim (names_in insts f.valid.derivation.sequence place id (omega (arith, low)) high named) [
      | inl s ↦ (let l = s.low in let h = s.high in no_label s.at (omega (arith, l)) (function_within insts f.valid.derivation s.at h) s.stands.is_label s.stands.own)
      | inr may ↦ nowhere id may
    ]

    used_by_none : uses_operands (class_of (inst_at f.words.insts place).op) ≡ true → Names id (inst_at f.words.insts place) → ⊥
    used_by_none uses among = used_none f id z stays place within (ap (is_among id) (operands_used (inst_at insts place) uses) ∙ among)

    -- no phi takes it, and no block has it for its label
    value_none : (pair : Incoming) → (inst_at f.words.insts place).op ≡ op.PHI → In pair (incoming (inst_at f.words.insts place)) → pair.value ≡ id → ⊥
    value_none pair is has same =
        let t = pair_fits f place high is pair has in
        let type = word_at 0 (inst_at insts place) in
        clash (is_taken_type (type_of (typing_of insts) id))
        (ap (λ (o : Option ℕ). is_taken_type (meaning_of (typing_of insts) o)) (ap type_id (means insts id) ∙ ap (λ (n : ℕ). type_id (meaning insts n)) (sym same) ∙ t.0)
        ∙ ap is_taken_type (means insts type) ∙ taken_by (meaning insts type) (phi_typed f place low high is (stays place)) t.1) (input_misfit f id z).apart

    block_none : (pair : Incoming) → (inst_at f.words.insts place).op ≡ op.PHI → In pair (incoming (inst_at f.words.insts place)) → pair.block ≡ id → ⊥
    block_none pair is has same =
        let n = phi_names f.plan f.words f.valid place pair.block within (eq-eqb (inst_at insts place).op op.PHI is) (in_blocks pair (incoming (inst_at insts place)) has) in
        let inside = n.within in
        elim (block_before f n.end (omega (arith, inside))) [
          | inl none ↦ not_zero (sym same ∙ sym n.labelled ∙ none)
          | inr l ↦
              let less = l.1 in
              let w = stands_inside f.words f.valid l.0 op.LABEL label_inside (eqb-true (inst_at insts l.0).op op.LABEL l.2) in
              no_label l.0 w.0 (omega (arith, less, inside)) l.2 (l.3 ∙ n.labelled ∙ same)
        ]

    pair_none : (inst_at f.words.insts place).op ≡ op.PHI → InPairs id (incoming (inst_at f.words.insts place)) → ⊥
    pair_none is p = elim p.2 [ inl value ↦ value_none p.0 is p.1 value | inr block ↦ block_none p.0 is p.1 block ]

    type_none : (inst_at f.words.insts place).op ≡ op.PHI → word_at 0 (inst_at f.words.insts place) ≡ id → ⊥
    type_none is same =
        clash (is_shape (meaning insts (word_at 0 (inst_at insts place)))) (phi_typed f place low high is (stays place)) (ap (λ (n : ℕ). is_shape (meaning insts n)) same ∙ ap is_shape z.is)

    by_part : BlockPart (inst_at f.words.insts place) → Names id (inst_at f.words.insts place) → ⊥
    by_part (a_label is) among = at_op (λ (i : Inst). Names id i → ⊥) (inst_at insts place) op.LABEL is (label_names id (inst_at insts place).words) among
    by_part (a_variable is) among = used_by_none (ap (λ (o : ℕ). uses_operands (class_of o)) (eqb-true (inst_at insts place).op op.VARIABLE is) ∙ variable_uses) among
    by_part (a_plain_one is) among = used_by_none (plain_uses (class_of (inst_at insts place).op) is) among
    by_part (a_selection_merge is) among =
        named_none (merge_names insts place id
        (at_op (λ (i : Inst). Names id i → is_among id (merge_labels i) ≡ true) (inst_at insts place) op.SELECTION_MERGE is (selection_names id (inst_at insts place).words) among))
    by_part (a_loop_merge is) among =
        named_none (merge_names insts place id (at_op (λ (i : Inst). Names id i → is_among id (merge_labels i) ≡ true) (inst_at insts place) op.LOOP_MERGE is (loop_names id (inst_at insts place).words) among))
    by_part (a_terminator is) among = elim (end_names id (inst_at insts place) is among) [ inl used ↦ used_none f id z stays place within used | inr target ↦ named_none (target_names insts place id target) ]
    by_part (a_phi is) among =
        let op_is = eqb-true (inst_at insts place).op op.PHI is in
        elim (at_op (λ (i : Inst). Names id i → (word_at 0 i ≡ id) ⊎ InPairs id (incoming i)) (inst_at insts place) op.PHI is (phi_words id (inst_at insts place).words) among) [
          | inl type ↦ type_none op_is type
          | inr pair ↦ pair_none op_is pair
        ]

    pub ids_none : is_among id (ids (inst_at f.words.insts place)) ≡ true → ⊥
    ids_none among = elim (ids_are (inst_at insts place) id among) [
      | inl gives ↦ input_early f id z place (own_defined f.words f.valid place id within gives) low
      | inr names ↦ by_part (part_at insts f.valid.derivation place (omega (arith, low)) high) names
    ]

-- ---- in the function

-- OpFunctionEnd names nothing
pub end_ids : (words : List ℕ) (id : ℕ) → is_among id (ids (instruction op.FUNCTION_END words)) ≡ false
unfolding ids kinds entry_of
end_ids [] id = refl
end_ids (word ∷ words) id = refl

none_before : (test : Inst → Bool) (k : ℕ) (insts : List Inst) → ((q : ℕ) → q < k → q < length insts → test (inst_at insts q) ≡ false) → list_any test (take k insts) ≡ false
none_before test zero insts none = refl
none_before test (suc k) [] none = refl
none_before test (suc k) (inst ∷ insts) none = rw (none 0 (omega arith) (omega arith)) (none_before test k insts (λ q less within. none (suc q) (omega (arith, less)) (omega (arith, within))))

no_function : is_module_level op.FUNCTION ≡ false
unfolding class_of entry_of
no_function = refl

-- a place of the function stands behind OpFunction
behind_function : (f : Found) (place : ℕ) → is_in_function f.words.insts place ≡ true → f.valid.derivation.before < place
unfolding is_in_function
behind_function f place inside = elim (cases_lt f.valid.derivation.before place) [
  | inl low ↦ low
  | inr most ↦ clash (list_any is_op_function (take place f.words.insts)) inside
      (none_before is_op_function place f.words.insts
      (λ q less within. another is_module_level op.FUNCTION no_function (inst_at f.words.insts q).op (level_inst f.words.insts f.valid.derivation q (omega (arith, less, most)))))
]

all_by : (test : ℕ → Bool) (ids : List ℕ) → ((id : ℕ) → is_among id ids ≡ true → test id ≡ true) → list_all test ids ≡ true
all_by test [] each = refl
all_by test (id ∷ ids) each = both (test id) (list_all test ids) (each id (or_left (id == id) (is_among id ids) (eq-eqb id id refl))) (all_by test ids (λ other among. each other (or_right (id == other) (is_among other ids) among)))
  where
    both : (a b : Bool) → a ≡ true → b ≡ true → (a && b) ≡ true
    both true b is also = also
    both false b is also = cc

    or_left : (a b : Bool) → a ≡ true → (a || b) ≡ true
    or_left true b is = refl
    or_left false b is = cc

    or_right : (a b : Bool) → b ≡ true → (a || b) ≡ true
    or_right true b is = refl
    or_right false b is = is

all_places : (test keep : ℕ → Bool) (n from : ℕ) → ((at : ℕ) → at < from + n → keep at ≡ true → test at ≡ true) → list_all test (filter keep (range_with_len from n)) ≡ true
all_places test keep zero from each = refl
all_places test keep (suc n) from each = by_test (keep from) refl (all_places test keep n (from + 1) (λ at less kept. each at (omega (arith, less)) kept))
  where
    both : (a b : Bool) → a ≡ true → b ≡ true → (a && b) ≡ true
    both true b is also = also
    both false b is also = cc

    by_test : (b : Bool) → keep from ≡ b → list_all test (filter keep (range_with_len (from + 1) n)) ≡ true → list_all test (if b then from ∷ filter keep (range_with_len (from + 1) n) else filter keep (range_with_len (from + 1) n)) ≡ true
    by_test true is rest = both (test from) (list_all test (filter keep (range_with_len (from + 1) n))) (each from (omega arith) is) rest
    by_test false isnt rest = rest

refuted : (b : Bool) → (b ≡ true → ⊥) → not b ≡ true
refuted true isnt = absurd (isnt refl)
refuted false isnt = refl

module _ (s : StaysAll) where
  none_there : (place id : ℕ) → s.found.valid.derivation.before < place → place < length s.found.words.insts → is_among id (ids (inst_at s.found.words.insts place)) ≡ true → is_zero_input s.found.words.insts s.found.zeros id ≡ true → ⊥
  none_there place id low there among empty = elim (cases_lt place f.valid.derivation.after) [
    | inl high ↦ ids_none f s.stays id (zero_input f id empty) place low high among
    | inr past ↦
        let last = f.valid.derivation.last in
        let ends : (inst_at f.words.insts place).op ≡ op.FUNCTION_END = ap (λ (n : ℕ). (inst_at f.words.insts n).op) {x = place} {y = f.valid.derivation.after} (omega (arith, past, there, last)) ∙ end_op f.words.insts f.valid.derivation in
        clash (is_among id (ids (inst_at f.words.insts place))) among
        (at_op (λ (i : Inst). is_among id (ids i) ≡ false) (inst_at f.words.insts place) op.FUNCTION_END (eq-eqb (inst_at f.words.insts place).op op.FUNCTION_END ends) (end_ids (inst_at f.words.insts place).words id))
  ]
    where
      f : Found
      f = s.found

  -- the function names no input that is zero
  pub unnamed : names_no_zeros s.found.zeros s.found.words.insts ≡ true
  unnamed =
      let insts = s.found.words.insts in
      all_places (λ place. list_all (λ id. not (is_zero_input insts s.found.zeros id)) (ids (inst_at insts place))) (is_in_function insts) (length insts) 0
      (λ place less inside. all_by (λ id. not (is_zero_input insts s.found.zeros id)) (ids (inst_at insts place))
      (λ id among. refuted (is_zero_input insts s.found.zeros id) (λ empty. none_there place id (behind_function s.found place inside) (omega (arith, less)) among empty)))
