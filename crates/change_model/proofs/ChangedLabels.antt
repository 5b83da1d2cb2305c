-- Where labels stand in the list that a plan makes.
use Rattle.std.proofs.Common.{◌≡◌, ℕ, zero, suc, ◌<◌, ◌≤◌, ◌==◌, ◌&&◌, ◌||◌, inl, inr, Bool, true, false, if◌then◌else◌, List, [], ◌∷◌, length, slice_index, refl, ap, sym, ◌∙◌, subst, arith, Option, None, Some}
use Rattle.std.specs.Option.{option_map}
use Rattle.std.proofs.lemmas.Bool.{cases_lt}
use Rattle.std.proofs.lemmas.Bool.Decides.{nat_tests}
use Rattle.spirv_model.specs.declared.module.Inst.{Inst}
use Rattle.spirv_model.specs.declared.op.TheConstants as op
use Rattle.spirv_model.specs.Operands.{word_at, entry_of, class_of, result_in, result}
use Rattle.body_model.specs.Classes.{is_plain, is_module_level}
use Rattle.body_model.proofs.ClassFacts.{no_level_label}
use Rattle.check_model.specs.Intervals.{intervals_of}
use Rattle.valid_model.specs.Definitions.{inst_at}
use Rattle.stage_model.specs.Program.{is_label, first_label_place}
use Rattle.typed_model.proofs.BlockParts.{clash}
use Rattle.change_model.specs.declared.fate.Fate.{Fate}
use Rattle.change_model.specs.declared.fate.Fate.TheVariants.{Dead, Stays, Goes, Picks, Folds, Nulls, Resolves, Skips, Unused}
use Rattle.change_model.specs.Folding.{function_at}
use Rattle.change_model.specs.Plans.{written_as, written_at, is_dead, changed}
use Rattle.change_model.specs.PlanRules.{FateFits, MaySkip, selection, loop, MayBeUnused, result_of, store}
use Rattle.change_model.proofs.ChangedDefinitions.{is_left, comes_from, old_defined, one_place, written_there}
use Rattle.change_model.proofs.ChangedPlaces.{place_left, kept_there}
use Rattle.change_model.proofs.FoldedRuns.{is_scalar, others}
use Rattle.change_model.proofs.FunctionKnown.{label_as_is}
use Rattle.change_model.proofs.MovedUp.{function_is, level_inst as level_op}
use Rattle.change_model.proofs.Pieces.{got_within}
use Rattle.change_model.proofs.Planned.{Planned, IsChoice, conditional, switch, choice_of, IsInside, inside, fits_there}
use Rattle.change_model.proofs.Settlings.{op_is}

-- ---- labels of a list

same_number : (a b : ℕ) → ◌≡◌ {A = Option ℕ} (Some a) (Some b) → a ≡ b
same_number a b is = cc

pub found_at : (insts : List Inst) (label place : ℕ) → first_label_place insts label ≡ Some place → (place < length insts) × (is_label label (inst_at insts place) ≡ true)
unfolding first_label_place
found_at [] label place is = cc
found_at (inst ∷ insts) label place is = by_test (found_at insts label) (is_label label inst) refl (first_label_place insts label) refl is
  where
    by_test : ((place : ℕ) → first_label_place insts label ≡ Some place → (place < length insts) × (is_label label (inst_at insts place) ≡ true))
        → (b : Bool) → is_label label inst ≡ b → (later : Option ℕ) → first_label_place insts label ≡ later → (if b then Some 0 else option_map (λ (n : ℕ). suc n) later) ≡ Some place
        → (place < length (inst ∷ insts)) × (is_label label (inst_at (inst ∷ insts) place) ≡ true)
    by_test rest true here later found is =
        subst (λ (n : ℕ). (n < length (inst ∷ insts)) × (is_label label (inst_at (inst ∷ insts) n) ≡ true)) (same_number 0 place is) (omega arith, here)
    by_test rest false here None found is = cc
    by_test rest false here (Some k) found is =
        let r = rest k found in
        subst (λ (n : ℕ). (n < length (inst ∷ insts)) × (is_label label (inst_at (inst ∷ insts) n) ≡ true)) (same_number (suc k) place is) (omega (arith, r.0), r.1)

pub first_at : (insts : List Inst) (label place : ℕ) → place < length insts → is_label label (inst_at insts place) ≡ true → ((k : ℕ) → k < place → is_label label (inst_at insts k) ≡ false) → first_label_place insts label ≡ Some place
unfolding first_label_place
first_at [] label place within is fails = absurd (omega (arith, within))
first_at (inst ∷ insts) label zero within is fails = ap (λ (b : Bool). if b then Some 0 else option_map (λ (n : ℕ). suc n) (first_label_place insts label)) is
first_at (inst ∷ insts) label (suc place) within is fails =
    ap (λ (b : Bool). if b then Some 0 else option_map (λ (n : ℕ). suc n) (first_label_place insts label)) (fails 0 (omega arith))
    ∙ ap (option_map (λ (n : ℕ). suc n)) (first_at insts label place (omega (arith, within)) is (λ k less. fails (suc k) (omega (arith, less))))

pub nowhere : (insts : List Inst) (label : ℕ) → ((k : ℕ) → k < length insts → is_label label (inst_at insts k) ≡ false) → first_label_place insts label ≡ None
unfolding first_label_place
nowhere [] label fails = refl
nowhere (inst ∷ insts) label fails =
    ap (λ (b : Bool). if b then Some 0 else option_map (λ (n : ℕ). suc n) (first_label_place insts label)) (fails 0 (omega arith))
    ∙ ap (option_map (λ (n : ℕ). suc n)) (nowhere insts label (λ k within. fails (suc k) (omega (arith, within))))

pub fails_before : (insts : List Inst) (label k : ℕ) → first_label_place insts label ≡ None → k < length insts → is_label label (inst_at insts k) ≡ false
unfolding first_label_place
fails_before [] label k none within = absurd (omega (arith, within))
fails_before (inst ∷ insts) label k none within = by_test (fails_before insts label) (is_label label inst) refl (first_label_place insts label) refl none k within
  where
    by_test : ((k : ℕ) → first_label_place insts label ≡ None → k < length insts → is_label label (inst_at insts k) ≡ false)
        → (b : Bool) → is_label label inst ≡ b → (later : Option ℕ) → first_label_place insts label ≡ later → (if b then Some 0 else option_map (λ (n : ℕ). suc n) later) ≡ None
        → (k : ℕ) → k < length (inst ∷ insts) → is_label label (inst_at (inst ∷ insts) k) ≡ false
    by_test rest true here later found none k within = cc
    by_test rest false here (Some n) found none k within = cc
    by_test rest false here None found none zero within = here
    by_test rest false here None found none (suc k) within = rest k found (omega (arith, within))

-- ---- a label is a result

front : (a b : Bool) → (a && b) ≡ true → (a ≡ true) × (b ≡ true)
front true b is = (refl, is)
front false b is = cc

pub label_op : (label : ℕ) (inst : Inst) → is_label label inst ≡ true → inst.op ≡ op.LABEL
label_op label inst is = op_is inst.op op.LABEL (front (inst.op == op.LABEL) (slice_index inst.words 0 == label) is).0

own_label : (inst : Inst) → result_in (entry_of op.LABEL) inst ≡ Some (word_at 0 inst)
unfolding entry_of
own_label inst = refl

pub label_result : (label : ℕ) (inst : Inst) → is_label label inst ≡ true → result inst ≡ Some label
unfolding result
label_result label inst is =
    ap (λ (o : ℕ). result_in (entry_of o) inst) (label_op label inst is) ∙ own_label inst
    ∙ ap (λ (n : ℕ). Some n) (op_is (slice_index inst.words 0) label (front (inst.op == op.LABEL) (slice_index inst.words 0 == label) is).1)

-- ---- the fate of a label

record LabelIs : Type 0 where
  conditional : op.LABEL == op.BRANCH_CONDITIONAL ≡ false
  switch : op.LABEL == op.SWITCH ≡ false
  load : op.LABEL == op.LOAD ≡ false
  phi : op.LABEL == op.PHI ≡ false
  variable : op.LABEL == op.VARIABLE ≡ false
  store : op.LABEL == op.STORE ≡ false
  selection : op.LABEL == op.SELECTION_MERGE ≡ false
  loop : op.LABEL == op.LOOP_MERGE ≡ false
  plain : is_plain op.LABEL ≡ false

label_is : LabelIs
unfolding class_of entry_of
label_is = record { conditional = refl; switch = refl; load = refl; phi = refl; variable = refl; store = refl; selection = refl; loop = refl; plain = refl }

-- one opcode isn't another one
not_both : (opcode a b : ℕ) → opcode ≡ a → opcode ≡ b → a == b ≡ false → ⊥
not_both opcode a b is also isnt = clash (a == b) (ap (λ (n : ℕ). n == b) (sym is ∙ also) ∙ self b) isnt
  where
    self : (n : ℕ) → n == n ≡ true
    self n = grind (arith, nat_tests)

-- an OpLabel that isn't dead stays
pub label_stays : (g : Planned) (place : ℕ) → (inst_at g.words.insts place).op ≡ op.LABEL → is_dead (g.plan.fate place) ≡ false → g.plan.fate place ≡ Stays
label_stays g place at alive = by_fate (g.plan.fate place) refl alive (λ fate same. fits_there g place fate same)
  where
    opcode : ℕ
    opcode = (inst_at g.words.insts place).op

    by_choice : IsChoice opcode → ⊥
    by_choice (conditional is) = not_both opcode op.LABEL op.BRANCH_CONDITIONAL at is label_is.conditional
    by_choice (switch is) = not_both opcode op.LABEL op.SWITCH at is label_is.switch

    by_skip : MaySkip g.plan g.words.insts place → ⊥
    by_skip (selection is skips) = not_both opcode op.LABEL op.SELECTION_MERGE at is label_is.selection
    by_skip (loop is skips) = not_both opcode op.LABEL op.LOOP_MERGE at is label_is.loop

    none : (o : ℕ) → o ≡ op.LABEL → (is_plain o || (o == op.PHI)) || (o == op.VARIABLE) ≡ false
    none o is = ap (λ (n : ℕ). (is_plain n || (n == op.PHI)) || (n == op.VARIABLE)) is ∙ ap (λ (b : Bool). (b || (op.LABEL == op.PHI)) || (op.LABEL == op.VARIABLE)) label_is.plain

    by_unused : MayBeUnused g.plan g.words.insts place → ⊥
    by_unused (result_of id kind gives unused) = clash ((is_plain opcode || (opcode == op.PHI)) || (opcode == op.VARIABLE)) kind (none opcode at)
    by_unused (store is unread) = not_both opcode op.LABEL op.STORE at is label_is.store

    by_fate : (fate : Fate) → g.plan.fate place ≡ fate → is_dead fate ≡ false
        → ((fate : Fate) → g.plan.fate place ≡ fate → IsInside g place → FateFits g.plan g.words.insts (intervals_of g.valid.derivation) g.zeros place fate) → fate ≡ Stays
    by_fate Dead same alive fits = cc
    by_fate Stays same alive fits = refl
    by_fate (Goes label) same alive fits = absurd (by_choice (choice_of g.plan g.words.insts (inst_at g.words.insts place) label (fits (Goes label) same (inside g place (Goes label) same refl)).only))
    by_fate (Picks label) same alive fits = absurd (by_choice (choice_of g.plan g.words.insts (inst_at g.words.insts place) label (fits (Picks label) same (inside g place (Picks label) same refl)).only))
    by_fate (Folds scalar) same alive fits = absurd (clash (is_scalar opcode) (fits (Folds scalar) same (inside g place (Folds scalar) same refl)).is_scalar (ap is_scalar at ∙ others.label))
    by_fate Nulls same alive fits = absurd (not_both opcode op.LABEL op.LOAD at (fits Nulls same (inside g place Nulls same refl)).is_load label_is.load)
    by_fate Resolves same alive fits = absurd (not_both opcode op.LABEL op.PHI at (fits Resolves same (inside g place Resolves same refl)).is_phi label_is.phi)
    by_fate Skips same alive fits = absurd (by_skip (fits Skips same (inside g place Skips same refl)))
    by_fate Unused same alive fits = absurd (by_unused (fits Unused same (inside g place Unused same refl)))

-- ---- labels of the new list

label_behind : (g : Planned) (place : ℕ) → (inst_at g.words.insts place).op ≡ op.LABEL → function_at g.words.insts ≤ place
label_behind g place at = elim (cases_lt place (function_at g.words.insts)) [
  | inl low ↦
      let first = function_is g.words.insts g.valid.derivation in
      absurd (clash (is_module_level (inst_at g.words.insts place).op) (level_op g.words.insts g.valid.derivation place (omega (arith, low, first))) (ap is_module_level at ∙ no_level_label))
  | inr late ↦ late
]

-- it is written where it is left
pub label_written : (g : Planned) (place : ℕ) → (inst_at g.words.insts place).op ≡ op.LABEL → is_dead (g.plan.fate place) ≡ false → written_at g.plan g.words.insts place ≡ inst_at g.words.insts place ∷ []
unfolding written_at
label_written g place at alive =
    ap (written_as g.plan g.words.insts place (inst_at g.words.insts place)) (label_stays g place at alive)
    ∙ ap (λ (i : Inst). i ∷ []) (label_as_is g.plan g.words.insts place (inst_at g.words.insts place) at)

false_by : (b : Bool) → (b ≡ true → ⊥) → b ≡ false
false_by true never = absurd (never refl)
false_by false never = refl

pub label_left : (g : Planned) (label place : ℕ) → first_label_place g.words.insts label ≡ Some place → is_dead (g.plan.fate place) ≡ false
    → first_label_place (changed g.plan g.words.insts) label ≡ Some (place_left g.plan g.words.insts place)
label_left g label place found alive =
    let old = inst_at g.words.insts place in
    let f = found_at g.words.insts label place found in
    let at = label_op label old f.1 in
    let low = label_behind g place at in
    let w = label_written g place at alive in
    let here = written_there g place old low f.0 w in
    let within = got_within (changed g.plan g.words.insts) (place_left g.plan g.words.insts place) old (kept_there g.plan g.words.insts place old low f.0 w) in
    first_at (changed g.plan g.words.insts) label (place_left g.plan g.words.insts place) within (ap (is_label label) here ∙ f.1)
    (λ k less. false_by (is_label label (inst_at (changed g.plan g.words.insts) k)) (λ is.
    let e = one_place g k (place_left g.plan g.words.insts place) label (omega (arith, less, within)) within (label_result label (inst_at (changed g.plan g.words.insts) k) is) (ap result here ∙ label_result label old f.1) in
    absurd (omega (arith, e, less))))

some_same : (a b : ℕ) → ◌≡◌ {A = Option ℕ} (Some a) (Some b) → a ≡ b
some_same a b is = cc

-- a dead one is gone
pub label_gone : (g : Planned) (label place : ℕ) → first_label_place g.words.insts label ≡ Some place → is_dead (g.plan.fate place) ≡ true → first_label_place (changed g.plan g.words.insts) label ≡ None
label_gone g label place found dead =
    let f = found_at g.words.insts label place found in
    nowhere (changed g.plan g.words.insts) label (λ k within. false_by (is_label label (inst_at (changed g.plan g.words.insts) k)) (λ is.
    let c = comes_from g k within in
    let e = some_same c.old place (sym (old_defined g c.old label c.within (sym c.result_is ∙ label_result label (inst_at (changed g.plan g.words.insts) k) is)) ∙ old_defined g place label f.0 (label_result label (inst_at g.words.insts place) f.1)) in
    dead_left (g.plan.fate place) dead (ap (λ (n : ℕ). is_left (g.plan.fate n)) (sym e) ∙ c.left)))
  where
    dead_left : (fate : Fate) → is_dead fate ≡ true → is_left fate ≡ true → ⊥
    dead_left Dead dead left = cc
    dead_left fate dead left = cc
