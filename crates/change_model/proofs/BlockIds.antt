-- Which ids the instructions of blocks name: labels, conditions and selectors, and the values of phis and the blocks that they come from.
use Rattle.std.proofs.Common.{◌≡◌, ℕ, suc, ◌⊎◌, inl, inr, Bool, true, false, ◌==◌, ◌||◌, ◌%◌, if◌then◌else◌, List, [], ◌∷◌, length, map, refl, ap, sym, ◌∙◌, arith, Option, None, Some}
use Rattle.std.specs.List.{list_all}
use Rattle.std.specs.Option.{option_map}
use Rattle.std.proofs.lemmas.Bool.{eqb-true}
use Rattle.std.proofs.lemmas.Bool.Decides.{nat_tests}
use Rattle.spirv_model.specs.declared.module.Inst.{Inst}
use Rattle.spirv_model.specs.declared.class.Class.TheVariants as class
use Rattle.spirv_model.specs.declared.op.TheConstants as op
use Rattle.spirv_model.specs.declared.table.TheConstants.{ROWS}
use Rattle.spirv_model.specs.declared.table.Operand.{Operand}
use Rattle.spirv_model.specs.declared.table.Operand.TheVariants.{IdResultType, IdResult, IdRef}
use Rattle.spirv_model.specs.declared.table.Rest.{Rest}
use Rattle.spirv_model.specs.declared.table.Rest.TheVariants.{Nothing}
use Rattle.spirv_model.specs.declared.table.Entry.{Entry}
use Rattle.spirv_model.specs.declared.table.Entry.TheVariants.{Listed}
use Rattle.spirv_model.specs.Operands.{word_at, entry_of, class_in, class_of, literal_and_id, kinds_from, listed_of, kinds_in, kinds}
use Rattle.body_model.specs.Classes.{is_terminator_class, is_terminator}
use Rattle.body_model.specs.Switches.{is_among, Case, cases_in}
use Rattle.body_model.specs.Targets.{targets_by, targets}
use Rattle.check_model.specs.Visibility.{Incoming, incoming_in, incoming, used_among, used_by, used_ids}
use Rattle.typed_model.proofs.EffectsRun.{instruction}
use Rattle.typed_model.proofs.PlainRuns.{at_op}
use Rattle.typed_model.proofs.ResultIds.{in_rows}
use Rattle.change_model.specs.PlanRules.{merge_labels}
use Rattle.change_model.proofs.PhiPairsLeft.{In}
use Rattle.change_model.proofs.PlanRunsRenamed.{all_used}

either : {Q : Type 0} (a b : Bool) → (a || b) ≡ true → (a ≡ true → Q) → (b ≡ true → Q) → Q
either true b is here there = here refl
either false b is here there = there is

or_right : (a b : Bool) → b ≡ true → (a || b) ≡ true
or_right true b is = refl
or_right false b is = is

-- ---- what instructions of blocks name

-- the instruction names the id where it isn't its result
abbrev pub Names : ℕ → Inst → Type 0
Names id inst = is_among id (used_by (kinds inst) inst.words) ≡ true

pub label_names : (id : ℕ) (words : List ℕ) → Names id (instruction op.LABEL words) → ⊥
unfolding kinds entry_of
label_names id [] among = cc
label_names id (a ∷ []) among = cc
label_names id (a ∷ b ∷ words) among = cc

pub selection_names : (id : ℕ) (words : List ℕ) → Names id (instruction op.SELECTION_MERGE words) → is_among id (merge_labels (instruction op.SELECTION_MERGE words)) ≡ true
unfolding kinds entry_of
selection_names id [] among = cc
selection_names id (a ∷ []) among = cc
selection_names id (a ∷ b ∷ []) among = among
selection_names id (a ∷ b ∷ c ∷ words) among = cc

pub loop_names : (id : ℕ) (words : List ℕ) → Names id (instruction op.LOOP_MERGE words) → is_among id (merge_labels (instruction op.LOOP_MERGE words)) ≡ true
unfolding kinds entry_of
loop_names id [] among = cc
loop_names id (a ∷ []) among = cc
loop_names id (a ∷ b ∷ []) among = cc
loop_names id (a ∷ b ∷ c ∷ []) among = among
loop_names id (a ∷ b ∷ c ∷ e ∷ words) among = cc

-- a condition or a selector, or a target
abbrev pub EndsWith : ℕ → Inst → Type 0
EndsWith id inst = (is_among id (used_ids inst) ≡ true) ⊎ (is_among id (targets inst) ≡ true)

branch_names : (id : ℕ) (words : List ℕ) → Names id (instruction op.BRANCH words) → EndsWith id (instruction op.BRANCH words)
unfolding kinds entry_of targets_by
branch_names id [] among = cc
branch_names id (a ∷ []) among = inr among
branch_names id (a ∷ b ∷ words) among = cc

conditional_names : (id : ℕ) (words : List ℕ) → Names id (instruction op.BRANCH_CONDITIONAL words) → EndsWith id (instruction op.BRANCH_CONDITIONAL words)
unfolding kinds class_of entry_of targets_by used_ids
conditional_names id [] among = cc
conditional_names id (a ∷ []) among = cc
conditional_names id (a ∷ b ∷ []) among = cc
conditional_names id (a ∷ b ∷ c ∷ []) among = either (a == id) (is_among id (b ∷ c ∷ [])) among (λ own. inl (ap (λ (x : Bool). x || false) own)) (λ target. inr target)
conditional_names id (a ∷ b ∷ c ∷ e ∷ words) among = cc

case_names : (id : ℕ) (words : List ℕ) → used_among (literal_and_id words) words ≡ map (λ (case : Case). case.target) (cases_in words)
case_names id [] = refl
case_names id (literal ∷ []) = refl
case_names id (literal ∷ target ∷ words) = ap (λ (l : List ℕ). target ∷ l) (case_names id words)

switch_names : (id : ℕ) (words : List ℕ) → Names id (instruction op.SWITCH words) → EndsWith id (instruction op.SWITCH words)
unfolding kinds class_of entry_of targets_by used_ids
switch_names id [] among = cc
switch_names id (a ∷ []) among = cc
switch_names id (a ∷ b ∷ words) among = by_even (length words % 2 == 0) among
  where
    by_even : (even : Bool) → is_among id (used_by (option_map (λ (k : List Operand). IdRef ∷ k) (option_map (λ (k : List Operand). IdRef ∷ k) (if even then Some (literal_and_id words) else None))) (a ∷ b ∷ words)) ≡ true
        → ((a == id) || false ≡ true) ⊎ (is_among id (b ∷ map (λ (case : Case). case.target) (cases_in words)) ≡ true)
    by_even false among = cc
    by_even true among =
        either (a == id) (is_among id (b ∷ used_among (literal_and_id words) words)) among (λ own. inl (ap (λ (x : Bool). x || false) own))
        (λ later. inr (ap (λ (l : List ℕ). is_among id (b ∷ l)) (sym (case_names id words)) ∙ later))

-- ---- other terminators name nothing

abbrev has_none : List (Option Operand) → Rest → Bool
has_none (None ∷ more) Nothing = true
has_none listed rest = false

abbrev ends_known : ℕ → Option Entry → Bool
ends_known opcode (Some (Listed class.Terminator operands)) = (opcode == op.BRANCH) || ((opcode == op.BRANCH_CONDITIONAL) || ((opcode == op.SWITCH) || has_none (listed_of operands) operands.rest))
ends_known opcode entry = true

all_ends_known : list_all (λ row. ends_known row.op (Some row.entry)) ROWS ≡ true
all_ends_known = refl

known_end : (opcode : ℕ) → ends_known opcode (entry_of opcode) ≡ true
unfolding entry_of
known_end opcode = in_rows ends_known (λ opcode. refl) ROWS opcode all_ends_known

no_operands : (id : ℕ) (listed : List (Option Operand)) (rest : Rest) (words : List ℕ) → has_none listed rest ≡ true → is_among id (used_by (kinds_from listed rest words) words) ≡ true → ⊥
no_operands id (None ∷ more) Nothing [] none among = cc
no_operands id (None ∷ more) Nothing (word ∷ words) none among = cc
no_operands id listed rest words none among = cc

end_by : (id : ℕ) (entry : Option Entry) (inst : Inst) → is_terminator_class (class_in entry) ≡ true → ends_known inst.op entry ≡ true → is_among id (used_by (kinds_in entry inst.words) inst.words) ≡ true
    → (inst.op == op.BRANCH ≡ true) ⊎ ((inst.op == op.BRANCH_CONDITIONAL ≡ true) ⊎ (inst.op == op.SWITCH ≡ true))
end_by id (Some (Listed class.Terminator operands)) inst ends known among =
    either (inst.op == op.BRANCH) _ known (λ is. inl is)
    (λ rest. either (inst.op == op.BRANCH_CONDITIONAL) _ rest (λ is. inr (inl is))
    (λ rest. either (inst.op == op.SWITCH) (has_none (listed_of operands) operands.rest) rest (λ is. inr (inr is)) (λ none. absurd (no_operands id (listed_of operands) operands.rest inst.words none among))))
end_by id entry inst ends known among = cc

end_kind : (id : ℕ) (inst : Inst) → is_terminator inst.op ≡ true → Names id inst → (inst.op == op.BRANCH ≡ true) ⊎ ((inst.op == op.BRANCH_CONDITIONAL ≡ true) ⊎ (inst.op == op.SWITCH ≡ true))
unfolding kinds class_of
end_kind id inst ends among = end_by id (entry_of inst.op) inst ends (known_end inst.op) among

pub end_names : (id : ℕ) (inst : Inst) → is_terminator inst.op ≡ true → Names id inst → EndsWith id inst
end_names id inst ends among =
    let E : Inst → Type 0 = λ inst. Names id inst → EndsWith id inst in
    elim (end_kind id inst ends among) [
      | inl is ↦ at_op E inst op.BRANCH is (branch_names id inst.words) among
      | inr other ↦ elim other [ inl is ↦ at_op E inst op.BRANCH_CONDITIONAL is (conditional_names id inst.words) among | inr is ↦ at_op E inst op.SWITCH is (switch_names id inst.words) among ]
    ]

-- ---- phis

-- a pair with the id
abbrev pub InPairs : ℕ → List Incoming → Type 0
InPairs id pairs = (pair : Incoming) × In pair pairs × ((pair.value ≡ id) ⊎ (pair.block ≡ id))

even_less : (n : ℕ) → suc (suc n) % 2 == 0 ≡ true → n % 2 == 0 ≡ true
even_less n is = grind (arith, nat_tests)

in_pairs : (id : ℕ) (words : List ℕ) → length words % 2 == 0 ≡ true → is_among id words ≡ true → InPairs id (incoming_in words)
in_pairs id [] even among = cc
in_pairs id (a ∷ []) even among = cc
in_pairs id (a ∷ b ∷ words) even among =
    let own : Incoming = record { value = a; block = b } in
    either (a == id) ((b == id) || is_among id words) among (λ is. (own, inl refl, inl (eqb-true a id is)))
    (λ rest. either (b == id) (is_among id words) rest (λ is. (own, inl refl, inr (eqb-true b id is)))
    (λ more. let p = in_pairs id words (even_less (length words) even) more in (p.0, inr p.1, p.2)))

pub phi_words : (id : ℕ) (words : List ℕ) → Names id (instruction op.PHI words) → (word_at 0 (instruction op.PHI words) ≡ id) ⊎ InPairs id (incoming (instruction op.PHI words))
unfolding kinds entry_of
phi_words id [] among = cc
phi_words id (a ∷ []) among = cc
phi_words id (a ∷ b ∷ words) among = by_even (length words % 2 == 0) refl among
  where
    by_even : (even : Bool) → length words % 2 == 0 ≡ even
        → is_among id (used_by (option_map (λ (k : List Operand). IdResultType ∷ k) (option_map (λ (k : List Operand). IdResult ∷ k) (if even then Some (map (λ _. IdRef) words) else None))) (a ∷ b ∷ words)) ≡ true
        → (a ≡ id) ⊎ InPairs id (incoming_in words)
    by_even false is among = cc
    by_even true is among =
        either (a == id) (is_among id (used_among (map (λ _. IdRef) words) words)) among (λ own. inl (eqb-true a id own)) (λ later. inr (in_pairs id words is (ap (is_among id) (sym (all_used words)) ∙ later)))
