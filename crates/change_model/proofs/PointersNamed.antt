-- What names a pointer in a function: the instruction that gives it, a load, a store, or a chain into it.
use Rattle.std.proofs.Common.{◌≡◌, ℕ, ◌<◌, ◌⊎◌, inl, inr, true, false, List, length, ap, sym, ◌∙◌, arith, Option, Some}
use Rattle.std.proofs.lemmas.Bool.{eqb-true, eq-eqb}
use Rattle.spirv_model.specs.declared.module.Inst.{Inst}
use Rattle.spirv_model.specs.declared.module.Words.{Words}
use Rattle.spirv_model.specs.declared.op.TheConstants as op
use Rattle.spirv_model.specs.Operands.{word_at, class_of, ids}
use Rattle.body_model.specs.Switches.{is_among}
use Rattle.valid_model.specs.declared.meaning.Meaning.{Meaning}
use Rattle.valid_model.specs.declared.meaning.Meaning.TheVariants.{Shape as OfShape}
use Rattle.valid_model.specs.Definitions.{definition, inst_at}
use Rattle.valid_model.specs.Meanings.{meaning}
use Rattle.check_model.specs.Typing.{typing_of, type_id, meaning_of, type_of}
use Rattle.check_model.specs.Validity.{IsValidList}
use Rattle.check_model.specs.Visibility.{Incoming, incoming, uses_operands, used_ids}
use Rattle.stage_model.proofs.StageRuns.{nowhere}
use Rattle.typed_model.proofs.BlockParts.{BlockPart, a_label, a_phi, a_variable, a_selection_merge, a_loop_merge, a_plain_one, a_terminator}
use Rattle.typed_model.proofs.FunctionRuns.{part_at, function_within}
use Rattle.typed_model.proofs.PlainRuns.{at_op}
use Rattle.typed_model.proofs.ValidTypes.{defined_within}
use Rattle.change_model.specs.declared.fate.Fate.TheVariants.{Stays}
use Rattle.change_model.specs.Plans.{Plan}
use Rattle.change_model.specs.PlanRules.{merge_labels, is_shape}
use Rattle.change_model.proofs.BlockBefore.{given_some, block_before}
use Rattle.change_model.proofs.BlockIds.{Names, InPairs, label_names, selection_names, loop_names, end_names, phi_words}
use Rattle.change_model.proofs.ConditionNames.{target_names, merge_names}
use Rattle.change_model.proofs.FoundNames.{taken_by}
use Rattle.change_model.proofs.FoundResolved.{label_result}
use Rattle.change_model.proofs.FoundUnnamed.{plain_uses, variable_uses}
use Rattle.change_model.proofs.LeftLeaves.{names_in}
use Rattle.change_model.proofs.LeftScopes.{is_label_at, label_at, names}
use Rattle.change_model.proofs.NamedIds.{ids_are}
use Rattle.change_model.proofs.PairTypes.{pair_typed}
use Rattle.change_model.proofs.PhiPairsLeft.{In, in_blocks}
use Rattle.change_model.proofs.PlanRunsRenamed.{operands_used}
use Rattle.change_model.proofs.PlanRunsValues.{own_defined, result_at}
use Rattle.change_model.proofs.PredecessorsLeft.{phi_names}
use Rattle.change_model.proofs.TakenOperands.{clash, is_taken_type, is_object}
use Rattle.change_model.proofs.TakenUses.{IsPointedTo, IsMisfit, misfit_used}
use Rattle.change_model.proofs.TypesNamed.{means}

-- an id that is defined, but is no label, and whose type is a pointer's
pub record IsPointer (insts : List Inst) (id : ℕ) : Type 0 where
  pub misfit : IsMisfit insts id
  pub at : ℕ
  pub defined : definition insts id ≡ Some at
  pub no_label : is_label_at insts at ≡ false

unshaped : (m : Meaning) → is_shape m ≡ true → is_object m ≡ true → ⊥
unshaped (OfShape shape) is value = cc
unshaped m is value = cc

same_some : (a b : ℕ) → ◌≡◌ {A = Option ℕ} (Some a) (Some b) → a ≡ b
same_some a b is = cc

every_plan : Plan
every_plan = record { fate = λ place. Stays; name = λ id. id; is_unread = λ id. false }

module _ (words : Words) (v : IsValidList words) where
  abbrev insts : List Inst
  insts = words.insts

  module _ (id : ℕ) (p : IsPointer words.insts id) where
    no_label_of : (at : ℕ) → at < length words.insts → is_label_at words.insts at ≡ true → label_at words.insts at ≡ id → ⊥
    no_label_of at within is own =
        let defined = own_defined words v at id within (label_result (inst_at insts at) is ∙ ap (λ (n : ℕ). Some n) own) in
        let same = same_some at p.at (sym defined ∙ p.defined) in
        clash (is_label_at insts at) is (ap (is_label_at insts) same ∙ p.no_label)

    not_zero : id ≡ 0 → ⊥
    not_zero none = given_some words v p.at id (defined_within insts id p.at p.defined) (result_at insts id p.at p.defined) none

    module _ (place : ℕ) (low : v.derivation.before < place) (high : place < v.derivation.after)
        (typed : (inst_at words.insts place).op ≡ op.PHI → is_shape (meaning words.insts (word_at 0 (inst_at words.insts place))) ≡ true) where
      within : place < length words.insts
      within = function_within insts v.derivation place high

      named_none : names words.insts place id ≡ true → ⊥
      named_none named = elim (names_in insts v.derivation.sequence place id (omega (arith, low)) high named) [
        | inl s ↦ (let h = s.high in no_label_of s.at (function_within insts v.derivation s.at h) s.stands.is_label s.stands.own)
        | inr may ↦ nowhere id may
      ]

      used : is_among id (used_ids (inst_at words.insts place)) ≡ true → IsPointedTo (inst_at words.insts place) id
      used among = misfit_used words v place id within p.misfit among

      used_by_operands : uses_operands (class_of (inst_at words.insts place).op) ≡ true → Names id (inst_at words.insts place) → IsPointedTo (inst_at words.insts place) id
      used_by_operands uses among = used (ap (is_among id) (operands_used (inst_at insts place) uses) ∙ among)

      value_none : (pair : Incoming) → (inst_at words.insts place).op ≡ op.PHI → In pair (incoming (inst_at words.insts place)) → pair.value ≡ id → ⊥
      value_none pair is has same =
          let t = pair_typed words v place high is pair has in
          let type = word_at 0 (inst_at insts place) in
          clash (is_taken_type (type_of (typing_of insts) id))
          (ap (λ (o : Option ℕ). is_taken_type (meaning_of (typing_of insts) o)) (ap type_id (means insts id) ∙ ap (λ (n : ℕ). type_id (meaning insts n)) (sym same) ∙ t.0)
          ∙ ap is_taken_type (means insts type) ∙ taken_by (meaning insts type) (typed is) t.1) p.misfit.apart

      block_none : (pair : Incoming) → (inst_at words.insts place).op ≡ op.PHI → In pair (incoming (inst_at words.insts place)) → pair.block ≡ id → ⊥
      block_none pair is has same =
          let n = phi_names every_plan words v place pair.block within (eq-eqb (inst_at insts place).op op.PHI is) (in_blocks pair (incoming (inst_at insts place)) has) in
          let inside = n.within in
          elim (block_before words.insts n.end (omega (arith, inside))) [
            | inl none ↦ not_zero (sym same ∙ sym n.labelled ∙ none)
            | inr l ↦ (let less = l.1 in no_label_of l.0 (omega (arith, less, inside)) l.2 (l.3 ∙ n.labelled ∙ same))
          ]

      pair_none : (inst_at words.insts place).op ≡ op.PHI → InPairs id (incoming (inst_at words.insts place)) → ⊥
      pair_none is pair = elim pair.2 [ inl value ↦ value_none pair.0 is pair.1 value | inr block ↦ block_none pair.0 is pair.1 block ]

      type_none : (inst_at words.insts place).op ≡ op.PHI → word_at 0 (inst_at words.insts place) ≡ id → ⊥
      type_none is same = unshaped (meaning insts id) (ap (λ (n : ℕ). is_shape (meaning insts n)) (sym same) ∙ typed is) p.misfit.value

      by_part : BlockPart (inst_at words.insts place) → Names id (inst_at words.insts place) → IsPointedTo (inst_at words.insts place) id
      by_part (a_label is) among = absurd (at_op (λ (i : Inst). Names id i → ⊥) (inst_at insts place) op.LABEL is (label_names id (inst_at insts place).words) among)
      by_part (a_variable is) among = used_by_operands (ap (λ (o : ℕ). uses_operands (class_of o)) (eqb-true (inst_at insts place).op op.VARIABLE is) ∙ variable_uses) among
      by_part (a_plain_one is) among = used_by_operands (plain_uses (class_of (inst_at insts place).op) is) among
      by_part (a_selection_merge is) among =
          absurd (named_none (merge_names insts place id
          (at_op (λ (i : Inst). Names id i → is_among id (merge_labels i) ≡ true) (inst_at insts place) op.SELECTION_MERGE is (selection_names id (inst_at insts place).words) among)))
      by_part (a_loop_merge is) among =
          absurd (named_none (merge_names insts place id (at_op (λ (i : Inst). Names id i → is_among id (merge_labels i) ≡ true) (inst_at insts place) op.LOOP_MERGE is (loop_names id (inst_at insts place).words) among)))
      by_part (a_terminator is) among = elim (end_names id (inst_at insts place) is among) [ inl among ↦ used among | inr target ↦ absurd (named_none (target_names insts place id target)) ]
      by_part (a_phi is) among =
          let op_is = eqb-true (inst_at insts place).op op.PHI is in
          elim (at_op (λ (i : Inst). Names id i → (word_at 0 i ≡ id) ⊎ InPairs id (incoming i)) (inst_at insts place) op.PHI is (phi_words id (inst_at insts place).words) among) [
            | inl type ↦ absurd (type_none op_is type)
            | inr pair ↦ absurd (pair_none op_is pair)
          ]

      -- an instruction that names a pointer gives it, or is a load, a store or a chain
      pub pointer_named : is_among id (ids (inst_at words.insts place)) ≡ true → (place ≡ p.at) ⊎ IsPointedTo (inst_at words.insts place) id
      pointer_named among = elim (ids_are (inst_at insts place) id among) [
        | inl gives ↦ inl (same_some place p.at (sym (own_defined words v place id within gives) ∙ p.defined))
        | inr names ↦ inr (by_part (part_at insts v.derivation place (omega (arith, low)) high) names)
      ]
