-- A result of a type that no instruction takes is used by nothing that one pass leaves, where no load, store or chain of it stays.
use Rattle.std.proofs.Common.{◌≡◌, ℕ, ◌<◌, inl, inr, Bool, true, false, ◌==◌, ◌||◌, if◌then◌else◌, List, [], ◌∷◌, length, refl, ap, sym, ◌∙◌, Option}
use Rattle.std.specs.List.{list_any}
use Rattle.std.proofs.lemmas.Bool.{cases_lt, eqb-true, eq-eqb}
use Rattle.std.proofs.lemmas.List.{get_or_past}
use Rattle.basics.proofs.Bools.{first_of_both, second_of_both}
use Rattle.spirv_model.specs.declared.module.Inst.{Inst}
use Rattle.spirv_model.specs.declared.op.TheConstants as op
use Rattle.spirv_model.specs.Operands.{word_at, words_from, entry_of, class_of, kinds}
use Rattle.body_model.specs.Switches.{is_among}
use Rattle.valid_model.specs.Definitions.{inst_at, no_instruction}
use Rattle.valid_model.specs.Meanings.{meaning}
use Rattle.check_model.specs.Typing.{typing_of, type_id, meaning_of, type_of}
use Rattle.check_model.specs.Visibility.{incoming_in, incoming, used_ids}
use Rattle.typed_model.proofs.EffectsRun.{instruction}
use Rattle.typed_model.proofs.FunctionRuns.{function_within}
use Rattle.typed_model.proofs.PlainRuns.{at_op}
use Rattle.typed_model.proofs.ValidModules.{valid_sound}
use Rattle.change_model.specs.declared.fate.Fate.{Fate}
use Rattle.change_model.specs.declared.fate.Fate.TheVariants as fate
use Rattle.change_model.specs.Plans.{Plan, phi_left, predecessors_left, block_at, kept_at, branch_to, switch_to, written_as}
use Rattle.change_model.specs.PlanRules.{is_incoming, is_user, IsUsedNowhere}
use Rattle.change_model.proofs.AlikeEnds.{left_behind}
use Rattle.change_model.proofs.FoundFits.{phi_typed}
use Rattle.change_model.proofs.FoundNames.{pair_fits, taken_by, misfit_name}
use Rattle.change_model.proofs.FoundOrigins.{Origin, goes_away, by_phi, by_load, by_chain, by_untyped, by_selection, by_loop, by_end, by_branch, by_switch, by_picks, by_folds, origin}
use Rattle.change_model.proofs.FoundOrigins as source
use Rattle.change_model.proofs.FoundPlans.{Found}
use Rattle.change_model.proofs.FoundUses.{IsUsedAs, renamed_as, IsPairOf, comes_from, pair_of, either, phi_inside, switch_inside, stands_inside}
use Rattle.change_model.proofs.PlanRunsNames.{written_by}
use Rattle.change_model.proofs.PlanRunsRenamed.{renamed}
use Rattle.change_model.proofs.PlanRunsRoots.{kept_plain}
use Rattle.change_model.proofs.TakenOperands.{clash, is_taken_type}
use Rattle.change_model.proofs.TakenUses.{IsPointedTo, loaded, stored, based, IsMisfit, misfit_used}
use Rattle.change_model.proofs.TypesNamed.{means}

-- ---- instructions that use nothing

pub phi_uses_none : (words : List ℕ) → used_ids (instruction op.PHI words) ≡ []
unfolding used_ids class_of entry_of
phi_uses_none words = refl

branch_unused : (id label : ℕ) → list_any (is_user id) (branch_to label ∷ []) ≡ false
unfolding used_ids class_of entry_of
branch_unused id label = refl

pub nothing_unused : (plan : Plan) (insts : List Inst) (place id : ℕ) → is_user id (kept_at plan insts place no_instruction) ≡ false
unfolding used_ids class_of entry_of kinds
nothing_unused plan insts place id = refl

-- an OpSwitch uses its selector
switch_user : (id selector label : ℕ) → is_user id (switch_to selector label) ≡ true → selector ≡ id
unfolding used_ids class_of entry_of
switch_user id selector label is = either (selector == id) false (either ((selector == id) || false) false is (λ used. used) (λ never. cc)) (λ same. eqb-true selector id same) (λ never. cc)

switch_used : (words : List ℕ) (id : ℕ) → word_at 0 (instruction op.SWITCH words) ≡ id → is_among id (used_ids (instruction op.SWITCH words)) ≡ true
unfolding used_ids class_of entry_of
switch_used words id same = ap (λ (b : Bool). b || false) (eq-eqb (word_at 0 (instruction op.SWITCH words)) id same)

other_op : {Q : Type 0} (opcode known other : ℕ) → opcode ≡ known → opcode ≡ other → known == other ≡ false → Q
other_op opcode known other is same differ = clash (known == other) (eq-eqb known other (sym is ∙ same)) differ

refuted : (b : Bool) → (b ≡ true → ⊥) → b ≡ false
refuted true isnt = absurd (isnt refl)
refuted false isnt = refl

nor : (b : Bool) → b ≡ false → (b || false) ≡ false
nor true is = cc
nor false is = refl

-- ---- a value that nothing left uses

module _ (f : Found) (id : ℕ) (m : IsMisfit f.words.insts id) (free : (place : ℕ) → f.plan.fate place ≡ fate.Stays → IsPointedTo (inst_at f.words.insts place) id → ⊥) where
  abbrev insts : List Inst
  insts = f.words.insts

  -- no phi that stays takes it
  no_pair : (place : ℕ) → (inst_at f.words.insts place).op ≡ op.PHI → f.plan.fate place ≡ fate.Stays → IsPairOf f.plan.name (incoming (inst_at f.words.insts place)) id → ⊥
  no_pair place is stays p =
      let w = stands_inside f.words f.valid place op.PHI phi_inside is in
      let same = misfit_name f id m p.pair.value p.named in
      let t = pair_fits f place w.1 is p.pair p.has in
      let type = word_at 0 (inst_at insts place) in
      clash (is_taken_type (type_of (typing_of insts) id))
      (ap (λ (o : Option ℕ). is_taken_type (meaning_of (typing_of insts) o)) (ap type_id (means insts id) ∙ ap (λ (n : ℕ). type_id (meaning insts n)) (sym same) ∙ t.0)
      ∙ ap is_taken_type (means insts type) ∙ taken_by (meaning insts type) (phi_typed f place w.0 w.1 is stays) t.1) m.apart

  phi_free : (place : ℕ) → (inst_at f.words.insts place).op ≡ op.PHI → f.plan.fate place ≡ fate.Stays → (blocks : List ℕ) → is_user id (phi_left f.plan.name blocks (inst_at f.words.insts place)) ≡ true → ⊥
  phi_free place is stays blocks user =
      let inst = inst_at insts place in
      let left = phi_left f.plan.name blocks inst in
      let uses_none : used_ids left ≡ [] = at_op (λ (i : Inst). used_ids i ≡ []) left op.PHI (eq-eqb inst.op op.PHI is) (phi_uses_none left.words) in
      either (is_among id (used_ids left)) (is_incoming id left) user (λ among. clash (is_among id (used_ids left)) among (ap (is_among id) uses_none))
      (λ incoming_is. no_pair place is stays
      (pair_of f.plan.name id blocks (words_from 2 inst)
      (ap (λ (l : List ℕ). comes_from id (incoming_in l)) (sym (left_behind f.plan.name blocks inst.words)) ∙ second_of_both (left.op == op.PHI) (comes_from id (incoming left)) incoming_is)))

  used_free : (place from : ℕ) → place < length f.words.insts → f.plan.fate place ≡ fate.Stays → from ≡ id → is_among from (used_ids (inst_at f.words.insts place)) ≡ true → ⊥
  used_free place from within stays same among = free place stays (misfit_used f.words f.valid place id within m (ap (λ (n : ℕ). is_among n (used_ids (inst_at insts place))) (sym same) ∙ among))

  other_free : (place : ℕ) → place < length f.words.insts → (inst_at f.words.insts place).op == op.PHI ≡ false → f.plan.fate place ≡ fate.Stays → is_user id (renamed f.plan.name (inst_at f.words.insts place)) ≡ true → ⊥
  other_free place within isnt stays user =
      let inst = inst_at insts place in
      let named = renamed f.plan.name inst in
      either (is_among id (used_ids named)) (is_incoming id named) user
      (λ among. by_use (renamed_as f.plan.name id inst ((valid_sound f.words f.valid).shaped place within) among))
      (λ comes. clash (inst.op == op.PHI) (first_of_both (inst.op == op.PHI) (comes_from id (incoming named)) comes) isnt)
    where
      by_use : IsUsedAs f.plan.name (used_ids (inst_at f.words.insts place)) id → ⊥
      by_use u = elim u.named [
        | inl same ↦ used_free place u.from within stays same u.among
        | inr named ↦ used_free place u.from within stays (misfit_name f id m u.from named) u.among
      ]

  kept_free : (place : ℕ) → f.plan.fate place ≡ fate.Stays → is_user id (kept_at f.plan f.words.insts place (inst_at f.words.insts place)) ≡ false
  kept_free place stays = elim (cases_lt place (length insts)) [
    | inl within ↦ refuted (is_user id (kept_at f.plan insts place (inst_at insts place))) (λ user. by_phi within ((inst_at insts place).op == op.PHI) refl user)
    | inr past ↦ ap (λ (i : Inst). is_user id (kept_at f.plan insts place i)) (get_or_past insts place no_instruction past) ∙ nothing_unused f.plan insts place id
  ]
    where
      by_phi : place < length f.words.insts → (b : Bool) → (inst_at f.words.insts place).op == op.PHI ≡ b → is_user id (kept_at f.plan f.words.insts place (inst_at f.words.insts place)) ≡ true → ⊥
      by_phi within true is user =
          let inst = inst_at insts place in
          let blocks = predecessors_left f.plan insts (block_at insts place) in
          phi_free place (eqb-true inst.op op.PHI is) stays blocks (ap (λ (b : Bool). is_user id (if b then phi_left f.plan.name blocks inst else renamed f.plan.name inst)) (sym is) ∙ user)
      by_phi within false isnt user = other_free place within isnt stays (ap (is_user id) (sym (kept_plain f.plan insts place (inst_at insts place) isnt)) ∙ user)

  picked_free : (place label : ℕ) → (inst_at f.words.insts place).op ≡ op.SWITCH → f.plan.fate place ≡ fate.Picks label → is_user id (switch_to (f.plan.name (word_at 0 (inst_at f.words.insts place))) label) ≡ true → ⊥
  picked_free place label is picks user =
      let inst = inst_at insts place in
      let same = misfit_name f id m (word_at 0 inst) (switch_user id (f.plan.name (word_at 0 inst)) label user) in
      let w = stands_inside f.words f.valid place op.SWITCH switch_inside is in
      let among = at_op (λ (i : Inst). word_at 0 i ≡ id → is_among id (used_ids i) ≡ true) inst op.SWITCH (eq-eqb inst.op op.SWITCH is) (switch_used inst.words id) same in
      by_pointer (misfit_used f.words f.valid place id (function_within insts f.valid.derivation place w.1) m among)
    where
      by_pointer : IsPointedTo (inst_at f.words.insts place) id → ⊥
      by_pointer (loaded other at) = other_op (inst_at insts place).op op.SWITCH op.LOAD is other refl
      by_pointer (stored other at) = other_op (inst_at insts place).op op.SWITCH op.STORE is other refl
      by_pointer (based other at) = other_op (inst_at insts place).op op.SWITCH op.ACCESS_CHAIN is other refl

  written_free : (place : ℕ) (what : Fate) → f.plan.fate place ≡ what → Origin f place what → list_any (is_user id) (written_as f.plan f.words.insts place (inst_at f.words.insts place) what) ≡ false
  written_free place what same goes_away = refl
  written_free place what same source.stays = nor _ (kept_free place same)
  written_free place what same (by_phi is) = refl
  written_free place what same (by_load is empty) = refl
  written_free place what same (by_chain is empty) = refl
  written_free place what same (by_untyped is untyped) = refl
  written_free place what same (by_selection label is free_place way) = refl
  written_free place what same (by_loop is opened) = refl
  written_free place what same (by_end label is unselected held leaves) = branch_unused id label
  written_free place what same (by_branch label is selected skipped way) = branch_unused id label
  written_free place what same (by_switch label is skipped way) = branch_unused id label
  written_free place what same (by_picks label is free_place way) =
      nor _ (refuted (is_user id (switch_to (f.plan.name (word_at 0 (inst_at insts place))) label)) (λ user. picked_free place label is same user))
  written_free place what same (by_folds scalar is comes) = refl

  pub used_nowhere : IsUsedNowhere f.plan f.words.insts id
  used_nowhere place = ap (list_any (is_user id)) (written_by f.plan insts place (f.plan.fate place) refl) ∙ written_free place (f.plan.fate place) refl (origin f place)
