-- Nothing is found that isn't visible exactly where all that is used is.
use Rattle.std.proofs.Common.{◌≡◌, ℕ, ◌==◌, ◌&&◌, Bool, true, false, not, if◌then◌else◌, List, [], ◌∷◌, map, refl, ap, sym, ◌∙◌, None, Some}
use Rattle.std.specs.List.{find, list_all}
use Rattle.std.specs.Option.{option_map}
use Rattle.spirv_model.specs.declared.module.Inst.{Inst}
use Rattle.spirv_model.specs.declared.op.TheConstants as op
use Rattle.spirv_model.specs.Operands.{word_at}
use Rattle.valid_model.specs.Definitions.{inst_at}
use Rattle.check_model.specs.Intervals.{Interval}
use Rattle.check_model.specs.Visibility.{Use, use_at, names_predecessors, phi_uses, used_ids, uses_at, is_visible_use, not_visible}

-- all of them pass where none is found that doesn't
pub all_pass : (test : Use → Bool) (uses : List Use) → option_map (λ (used : Use). used.id) (find (λ used. not (test used)) uses) ≡ None → list_all test uses ≡ true
all_pass test [] none = refl
all_pass test (used ∷ uses) none = by_test (test used) none (all_pass test uses)
  where
    by_test : (b : Bool) → option_map (λ (used : Use). used.id) (if not b then Some used else find (λ used. not (test used)) uses) ≡ None
        → (option_map (λ (used : Use). used.id) (find (λ used. not (test used)) uses) ≡ None → list_all test uses ≡ true) → (b && list_all test uses) ≡ true
    by_test true none more = more none
    by_test false none more = cc

pub none_fails : (test : Use → Bool) (uses : List Use) → list_all test uses ≡ true → option_map (λ (used : Use). used.id) (find (λ used. not (test used)) uses) ≡ None
none_fails test [] all = refl
none_fails test (used ∷ uses) all = by_test (test used) all (none_fails test uses)
  where
    by_test : (b : Bool) → (b && list_all test uses) ≡ true → (list_all test uses ≡ true → option_map (λ (used : Use). used.id) (find (λ used. not (test used)) uses) ≡ None)
        → option_map (λ (used : Use). used.id) (if not b then Some used else find (λ used. not (test used)) uses) ≡ None
    by_test true all more = more all
    by_test false all more = cc

pub all_mapped : {A : Type 0} (test : Use → Bool) (to : A → Use) (list : List A) → list_all test (map to list) ≡ list_all (λ x. test (to x)) list
all_mapped test to [] = refl
all_mapped test to (x ∷ list) = ap (λ (b : Bool). test (to x) && b) (all_mapped test to list)

-- what a phi uses is visible
pub phi_seen : (intervals : List Interval) (insts : List Inst) (place : ℕ) → not_visible intervals insts place ≡ None → (inst_at insts place).op == op.PHI ≡ true
    → (names_predecessors insts place ≡ true) × (list_all (is_visible_use intervals insts) (phi_uses insts place (inst_at insts place)) ≡ true)
unfolding not_visible uses_at
phi_seen intervals insts place none is =
    by_phi ((inst_at insts place).op == op.PHI) (names_predecessors insts place) is refl (map (use_at place) (used_ids (inst_at insts place))) none
  where
    by_phi : (b named : Bool) → b ≡ true → names_predecessors insts place ≡ named → (others : List Use)
        → (if b && not named then Some (word_at 1 (inst_at insts place))
        else option_map (λ (used : Use). used.id) (find (λ used. not (is_visible_use intervals insts used)) (if b then phi_uses insts place (inst_at insts place) else others))) ≡ None
        → (names_predecessors insts place ≡ true) × (list_all (is_visible_use intervals insts) (phi_uses insts place (inst_at insts place)) ≡ true)
    by_phi true true is names others none = (names, all_pass (is_visible_use intervals insts) (phi_uses insts place (inst_at insts place)) none)
    by_phi true false is names others none = cc
    by_phi false named is names others none = cc

-- what another instruction uses is visible
pub others_seen : (intervals : List Interval) (insts : List Inst) (place : ℕ) → not_visible intervals insts place ≡ None → (inst_at insts place).op == op.PHI ≡ false
    → list_all (λ (id : ℕ). is_visible_use intervals insts (use_at place id)) (used_ids (inst_at insts place)) ≡ true
unfolding not_visible uses_at
others_seen intervals insts place none isnt =
    by_phi ((inst_at insts place).op == op.PHI) isnt (names_predecessors insts place) (phi_uses insts place (inst_at insts place)) none
  where
    by_phi : (b : Bool) → b ≡ false → (named : Bool) (phis : List Use)
        → (if b && not named then Some (word_at 1 (inst_at insts place))
        else option_map (λ (used : Use). used.id) (find (λ used. not (is_visible_use intervals insts used)) (if b then phis else map (use_at place) (used_ids (inst_at insts place))))) ≡ None
        → list_all (λ (id : ℕ). is_visible_use intervals insts (use_at place id)) (used_ids (inst_at insts place)) ≡ true
    by_phi true isnt named phis none = cc
    by_phi false isnt named phis none =
        sym (all_mapped (is_visible_use intervals insts) (use_at place) (used_ids (inst_at insts place))) ∙ all_pass (is_visible_use intervals insts) (map (use_at place) (used_ids (inst_at insts place))) none

-- ---- back

pub phi_unseen : (intervals : List Interval) (insts : List Inst) (place : ℕ) → (inst_at insts place).op == op.PHI ≡ true → names_predecessors insts place ≡ true
    → list_all (is_visible_use intervals insts) (phi_uses insts place (inst_at insts place)) ≡ true → not_visible intervals insts place ≡ None
unfolding not_visible uses_at
phi_unseen intervals insts place is names all =
    by_phi ((inst_at insts place).op == op.PHI) (names_predecessors insts place) is names (map (use_at place) (used_ids (inst_at insts place)))
  where
    by_phi : (b named : Bool) → b ≡ true → named ≡ true → (others : List Use)
        → (if b && not named then Some (word_at 1 (inst_at insts place))
        else option_map (λ (used : Use). used.id) (find (λ used. not (is_visible_use intervals insts used)) (if b then phi_uses insts place (inst_at insts place) else others))) ≡ None
    by_phi true true is names others = none_fails (is_visible_use intervals insts) (phi_uses insts place (inst_at insts place)) all
    by_phi true false is names others = cc
    by_phi false named is names others = cc

pub others_unseen : (intervals : List Interval) (insts : List Inst) (place : ℕ) → (inst_at insts place).op == op.PHI ≡ false
    → list_all (λ (id : ℕ). is_visible_use intervals insts (use_at place id)) (used_ids (inst_at insts place)) ≡ true → not_visible intervals insts place ≡ None
unfolding not_visible uses_at
others_unseen intervals insts place isnt all =
    by_phi ((inst_at insts place).op == op.PHI) isnt (names_predecessors insts place) (phi_uses insts place (inst_at insts place))
  where
    by_phi : (b : Bool) → b ≡ false → (named : Bool) (phis : List Use)
        → (if b && not named then Some (word_at 1 (inst_at insts place))
        else option_map (λ (used : Use). used.id) (find (λ used. not (is_visible_use intervals insts used)) (if b then phis else map (use_at place) (used_ids (inst_at insts place))))) ≡ None
    by_phi true isnt named phis = cc
    by_phi false isnt named phis =
        none_fails (is_visible_use intervals insts) (map (use_at place) (used_ids (inst_at insts place))) (all_mapped (is_visible_use intervals insts) (use_at place) (used_ids (inst_at insts place)) ∙ all)
