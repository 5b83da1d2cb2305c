-- Where the OpLoopMerge of a loop that is left at once is alive, so is its condition sequence: its branches stay, and its last goes to the
-- merge block.
use Rattle.std.proofs.Common.{◌≡◌, ℕ, zero, suc, ◌+◌, ◌-◌, ◌<◌, ◌≤◌, ◌⊎◌, inl, inr, Bool, true, false, not, ◌==◌, ◌||◌, if◌then◌else◌, List, [], ◌∷◌, refl, ap, sym, ◌∙◌, subst, arith, Option, None, Some}
use Rattle.std.proofs.lemmas.Bool.{cases_lt, eqb-true, eq-eqb}
use Rattle.spirv_model.specs.declared.module.Inst.{Inst}
use Rattle.spirv_model.specs.declared.op.TheConstants as op
use Rattle.spirv_model.specs.Operands.{entry_of, class_of, word_at}
use Rattle.body_model.specs.Switches.{is_among}
use Rattle.valid_model.specs.Definitions.{inst_at}
use Rattle.check_model.specs.Intervals.{intervals_of}
use Rattle.typed_model.proofs.BlockParts.{another}
use Rattle.unit_model.specs.ConstantScalars.{is_behind, is_scalar_class}
use Rattle.change_model.specs.declared.fate.Fate.{Fate}
use Rattle.change_model.specs.declared.fate.Fate.TheVariants as fate
use Rattle.change_model.specs.Plans.{is_dead}
use Rattle.change_model.specs.PlanRules.{is_skipped, is_nothing, is_test_of}
use Rattle.change_model.specs.Passes.{is_label, leaving_to, opens, held_at, test_fate, branch_fate}
use Rattle.change_model.proofs.FoundPlans.{Found}
use Rattle.change_model.proofs.FoundGoes.{stays_names}
use Rattle.change_model.proofs.FoundHeld.{loop_within, loop_at, loop_free, leaves_test, test_place, opened_left, left_there, held_on}
use Rattle.change_model.proofs.FoundLabels.{named_alive, same_block}
use Rattle.change_model.proofs.FoundOrigins.{Origin, goes_away, by_phi, by_load, by_chain, by_untyped, by_selection, by_loop, by_end, by_branch, by_switch, by_picks, by_folds, origin, alive_fate, alive_choice}
use Rattle.change_model.proofs.FoundOrigins as source
use Rattle.change_model.proofs.ConditionNames.{target_names, branch_targets}
use Rattle.change_model.proofs.LeftBlockNames.{Silent, silent_names}
use Rattle.change_model.proofs.LeftPlacedWhole.{labels_once}
use Rattle.change_model.proofs.LeftScopes.{is_label_at, label_at, names}
use Rattle.change_model.proofs.LoopNames.{LoopAt}
use Rattle.change_model.proofs.LoopTests.{test_of, condition_at, past_test, past_body, past_step, past_rest, branch_behind, branch_to, test_stands, condition_entered}

clash : {Q : Type 0} (b : Bool) → b ≡ true → b ≡ false → Q
clash true is isnt = cc
clash false is isnt = cc

held_free : {Q : Type 0} (held : Option ℕ) (merge : ℕ) → held ≡ Some merge → is_nothing held ≡ true → Q
held_free held merge is free = by_both (sym (ap is_nothing is) ∙ free)
  where
    by_both : {Q : Type 0} → false ≡ true → Q
    by_both same = cc

never_held : {Q : Type 0} (held : Option ℕ) (merge : ℕ) → held ≡ Some merge → held ≡ None → Q
never_held held merge is none = by_both (sym is ∙ none)
  where
    by_both : {Q : Type 0} → ◌≡◌ {A = Option ℕ} (Some merge) None → Q
    by_both same = cc

other_op : {Q : Type 0} (opcode known other : ℕ) → opcode ≡ known → opcode ≡ other → known == other ≡ false → Q
other_op opcode known other is same differ = clash (known == other) (eq-eqb known other (sym is ∙ same)) differ

some_label : (a b : ℕ) → ◌≡◌ {A = Option ℕ} (Some a) (Some b) → a ≡ b
some_label a b same = cc

refuted : (b : Bool) → (b ≡ true → ⊥) → b ≡ false
refuted true isnt = absurd (isnt refl)
refuted false isnt = refl

one_among : (a b : ℕ) → a ≡ b → is_among a (b ∷ []) ≡ true
one_among a b same = ap (λ (t : Bool). t || false) (eq-eqb b a (sym same))

-- ---- instructions that name no label

phi_silent : Silent op.PHI
phi_silent = record { nowhere = record { no_branch = refl; no_choice = refl; no_switch = refl }; no_selection = refl; no_loop = refl }

load_silent : Silent op.LOAD
load_silent = record { nowhere = record { no_branch = refl; no_choice = refl; no_switch = refl }; no_selection = refl; no_loop = refl }

chain_silent : Silent op.ACCESS_CHAIN
chain_silent = record { nowhere = record { no_branch = refl; no_choice = refl; no_switch = refl }; no_selection = refl; no_loop = refl }

abbrev is_scalar_op : ℕ → Bool
is_scalar_op opcode = is_scalar_class (class_of opcode)

record NoScalar : Type 0 where
  branch : is_scalar_op op.BRANCH ≡ false
  choice : is_scalar_op op.BRANCH_CONDITIONAL ≡ false
  switch : is_scalar_op op.SWITCH ≡ false
  selection : is_scalar_op op.SELECTION_MERGE ≡ false
  loop : is_scalar_op op.LOOP_MERGE ≡ false

no_scalar : NoScalar
unfolding class_of entry_of
no_scalar = record { branch = refl; choice = refl; switch = refl; selection = refl; loop = refl }

scalar_silent : (opcode : ℕ) → is_scalar_op opcode ≡ true → Silent opcode
scalar_silent opcode is = record {
  nowhere = record {
    no_branch = another is_scalar_op op.BRANCH no_scalar.branch opcode is;
    no_choice = another is_scalar_op op.BRANCH_CONDITIONAL no_scalar.choice opcode is;
    no_switch = another is_scalar_op op.SWITCH no_scalar.switch opcode is;
  };
  no_selection = another is_scalar_op op.SELECTION_MERGE no_scalar.selection opcode is;
  no_loop = another is_scalar_op op.LOOP_MERGE no_scalar.loop opcode is;
}

-- a branch that leaves its loop
leaving_goes : (f : Found) (place merge : ℕ) → is_behind op.SELECTION_MERGE f.words.insts place ≡ false → held_at f.words.insts place ≡ Some merge → is_label merge (leaving_to f.words.insts place) ≡ true
    → branch_fate (intervals_of f.valid.derivation) f.words.insts f.plan place ≡ fate.Goes merge
leaving_goes f place merge unselected held leaves =
    by_parts (is_behind op.SELECTION_MERGE f.words.insts place) (held_at f.words.insts place) _ unselected held ∙ ap (λ (b : Bool). if b then fate.Goes merge else fate.Stays) leaves
  where
    by_parts : (a : Bool) (found : Option ℕ) (other : Fate) → a ≡ false → found ≡ Some merge → (if not a then test_fate f.words.insts place found else other) ≡ test_fate f.words.insts place (Some merge)
    by_parts a found other first second = rw first (rw second refl)

module _ (f : Found) where
  abbrev insts : List Inst
  insts = f.words.insts

  -- ---- one instruction that is held

  -- no merge instruction goes there
  skipped_by : (place merge : ℕ) → held_at insts place ≡ Some merge → (what : Fate) → Origin f place what → is_skipped what ≡ false
  skipped_by place merge held what (by_selection label is free way) = held_free (held_at insts place) merge held free
  skipped_by place merge held what (by_loop is opened) = never_held (held_at insts place) merge held (loop_free f place is)
  skipped_by place merge held what goes_away = refl
  skipped_by place merge held what source.stays = refl
  skipped_by place merge held what (by_phi is) = refl
  skipped_by place merge held what (by_load is empty) = refl
  skipped_by place merge held what (by_chain is empty) = refl
  skipped_by place merge held what (by_untyped is untyped) = refl
  skipped_by place merge held what (by_end label is unselected known leaves) = refl
  skipped_by place merge held what (by_branch label is selected skipped way) = refl
  skipped_by place merge held what (by_switch label is skipped way) = refl
  skipped_by place merge held what (by_picks label is free way) = refl
  skipped_by place merge held what (by_folds known is comes) = refl

  -- what names a label there stays, but for the branch that leaves the loop
  unnamed : {Q : Type 0} (place label opcode : ℕ) → (inst_at insts place).op ≡ opcode → Silent opcode → names insts place label ≡ true → Q
  unnamed place label opcode is silent named = clash (names insts place label) named (silent_names insts place label (subst Silent (sym is) silent))

  stays_by : (place merge label : ℕ) → held_at insts place ≡ Some merge → is_label merge (leaving_to insts place) ≡ false → ((is_skipped (f.plan.fate (place - 1)) ≡ false) ⊎ ((inst_at insts place).op ≡ op.BRANCH)) → names insts place label ≡ true
      → (what : Fate) → Origin f place what → is_dead what ≡ false → what ≡ fate.Stays
  stays_by place merge label held other before named what goes_away alive = cc
  stays_by place merge label held other before named what source.stays alive = refl
  stays_by place merge label held other before named what (by_phi is) alive = unnamed place label op.PHI is phi_silent named
  stays_by place merge label held other before named what (by_load is empty) alive = unnamed place label op.LOAD is load_silent named
  stays_by place merge label held other before named what (by_chain is empty) alive = unnamed place label op.ACCESS_CHAIN is chain_silent named
  stays_by place merge label held other before named what (by_untyped is untyped) alive = unnamed place label op.PHI is phi_silent named
  stays_by place merge label held other before named what (by_selection to is free way) alive = held_free (held_at insts place) merge held free
  stays_by place merge label held other before named what (by_loop is opened) alive = never_held (held_at insts place) merge held (loop_free f place is)
  stays_by place merge label held other before named what (by_end to is unselected known leaves) alive =
      clash (is_label merge (leaving_to insts place)) (ap (λ (n : ℕ). is_label n (leaving_to insts place)) (some_label merge to (sym held ∙ known)) ∙ leaves) other
  stays_by place merge label held other before named what (by_branch to is selected skipped way) alive = elim before [
    | inl kept ↦ clash (is_skipped (f.plan.fate (place - 1))) skipped kept
    | inr branch ↦ other_op (inst_at insts place).op op.BRANCH op.BRANCH_CONDITIONAL branch is refl
  ]
  stays_by place merge label held other before named what (by_switch to is skipped way) alive = elim before [
    | inl kept ↦ clash (is_skipped (f.plan.fate (place - 1))) skipped kept
    | inr branch ↦ other_op (inst_at insts place).op op.BRANCH op.SWITCH branch is refl
  ]
  stays_by place merge label held other before named what (by_picks to is free way) alive = held_free (held_at insts place) merge held free
  stays_by place merge label held other before named what (by_folds known is comes) alive = unnamed place label (inst_at insts place).op refl (scalar_silent (inst_at insts place).op is) named

  -- ---- a condition sequence

  module _ (place : ℕ) (is : (inst_at insts place).op ≡ op.LOOP_MERGE) (opened : opens insts place ≡ true) (alive : is_dead (f.plan.fate place) ≡ false) where
    abbrev l : LoopAt insts f.valid.derivation place
    l = loop_at f place is

    abbrev merge : ℕ
    merge = word_at 0 (inst_at insts place)

    condition_there : place + 2 ≡ l.head.after
    condition_there = condition_at insts (labels_once f.words f.valid) f.valid.derivation place l

    low : f.valid.derivation.before + 1 ≤ place
    low = (loop_within f place is).low

    high : l.first < f.valid.derivation.after
    high =
        let once = labels_once f.words f.valid in
        let q = past_body insts once f.valid.derivation place l in
        let r = past_step insts once f.valid.derivation place l in
        let g = past_rest insts once f.valid.derivation place l in
        let h = l.placed.high in
        omega (arith, q, r, g, h)

    stays_at : (at label : ℕ) → place < at → at + 1 < l.first → is_dead (f.plan.fate at) ≡ false → names insts at label ≡ true → f.plan.fate at ≡ fate.Stays
    stays_at at label behind before living named =
        stays_by at merge label (held_on f place is opened at behind (omega (arith, before)))
        (refuted (is_label merge (leaving_to insts at)) (λ leaves. (let e = test_place f place at l (leaves_test f at merge leaves) in omega (arith, e, before)))) earlier named (f.plan.fate at) (origin f at) living
      where
        earlier : (is_skipped (f.plan.fate (at - 1)) ≡ false) ⊎ ((inst_at insts at).op ≡ op.BRANCH)
        earlier = elim (cases_lt place (at - 1)) [
          | inl later ↦ inl (skipped_by (at - 1) merge (held_on f place is opened (at - 1) later (omega (arith, before))) (f.plan.fate (at - 1)) (origin f (at - 1)))
          | inr most ↦ inr (ap (λ (n : ℕ). (inst_at insts n).op) {x = at} {y = place + 1} (omega (arith, most, behind)) ∙ branch_behind insts (labels_once f.words f.valid) f.valid.derivation place l)
        ]

    -- what names a label of the condition sequence keeps it alive
    keeps_alive : (at from : ℕ) → place < from → from < at → at < l.first → is_label_at insts at ≡ true → is_dead (f.plan.fate from) ≡ false → names insts from (label_at insts at) ≡ true → is_dead (f.plan.fate at) ≡ false
    keeps_alive at from behind before within label living named =
        let h = high in
        let b = low in
        named_alive f at from (omega (arith, b, behind, before)) (omega (arith, within, h)) label before
        (stays_names f from (label_at insts at) (stays_at from (label_at insts at) behind (omega (arith, before, within)) living named) named)

    one_alive : (n at : ℕ) → at ≡ place + n → at < l.first → ((from : ℕ) → place ≤ from → from < at → is_dead (f.plan.fate from) ≡ false) → is_dead (f.plan.fate at) ≡ false
    one_alive zero at there within before = ap (λ (k : ℕ). is_dead (f.plan.fate k)) {x = at} {y = place} (omega (arith, there)) ∙ alive
    one_alive (suc n) at there within before = by_test (is_label_at insts at) refl
      where
        at_first : is_label_at insts at ≡ true → at ≡ l.head.after → is_dead (f.plan.fate at) ≡ false
        at_first label same =
            let c = condition_there in
            keeps_alive at (place + 1) (omega arith) (omega (arith, same, c)) within label (before (place + 1) (omega arith) (omega (arith, same, c)))
            (target_names insts (place + 1) (label_at insts at) (ap (is_among (label_at insts at)) (branch_targets (inst_at insts (place + 1)) (branch_behind insts (labels_once f.words f.valid) f.valid.derivation place l))
            ∙ one_among (label_at insts at) (word_at 0 (inst_at insts (place + 1)))
            (ap (label_at insts) same ∙ (test_stands insts (labels_once f.words f.valid) f.valid.derivation place l).own ∙ sym (branch_to insts (labels_once f.words f.valid) f.valid.derivation place l))))

        behind_first : is_label_at insts at ≡ true → place + 1 < at → is_dead (f.plan.fate at) ≡ false
        behind_first label later = let c = condition_there in elim (condition_entered insts (labels_once f.words f.valid) f.valid.derivation place l at (omega (arith, c, later)) within label) [
          | inl same ↦ at_first label same
          | inr named ↦
              let from_low = named.low in
              let from_high = named.high in
              keeps_alive at named.at (omega (arith, c, from_low)) from_high within label (before named.at (omega (arith, c, from_low)) from_high) named.named
        ]

        by_test : (b : Bool) → is_label_at insts at ≡ b → is_dead (f.plan.fate at) ≡ false
        by_test true label = elim (cases_lt (place + 1) at) [
          | inl later ↦ behind_first label later
          | inr most ↦ other_op (inst_at insts (place + 1)).op op.BRANCH op.LABEL (branch_behind insts (labels_once f.words f.valid) f.valid.derivation place l)
              (ap (λ (k : ℕ). (inst_at insts k).op) {x = place + 1} {y = at} (omega (arith, most, there)) ∙ eqb-true (inst_at insts at).op op.LABEL label) refl
        ]
        by_test false plain =
            let one : at ≡ place + n + 1 = omega (arith, there) in
            let h = high in
            let b = low in
            ap (λ (k : ℕ). is_dead (f.plan.fate k)) one
            ∙ same_block f (place + n) (omega (arith, b)) (omega (arith, one, within, h)) (ap (is_label_at insts) (sym one) ∙ plain)
            ∙ before (place + n) (omega arith) (omega (arith, one))

    up_to : (n at : ℕ) → place ≤ at → at < place + n → at < l.first → is_dead (f.plan.fate at) ≡ false
    up_to zero at least less within = absurd (omega (arith, least, less))
    up_to (suc n) at least less within =
        one_alive (at - place) at (omega (arith, least)) within (λ from under before. up_to n from under (omega (arith, less, before)) (omega (arith, before, within)))

    pub condition_alive : (at : ℕ) → place ≤ at → at < l.first → is_dead (f.plan.fate at) ≡ false
    condition_alive at least less = up_to (at + 1 - place) at least (omega (arith, least)) less

    -- the branch that leaves the loop goes to its merge block
    pub test_goes : (at : ℕ) → is_test_of insts merge at ≡ true → f.plan.fate at ≡ fate.Goes merge
    test_goes at test =
        let c = condition_there in
        let p = past_test insts (labels_once f.words f.valid) f.valid.derivation place l in
        let b = low in
        let h = high in
        let last = test_place f place at l test in
        let t = test_of insts merge at test in
        alive_fate f at (omega (arith, b, c, p, last)) (omega (arith, h, last)) (ap (λ (o : ℕ). o == op.LABEL) t.is) (condition_alive (at - 1) (omega (arith, c, p, last)) (omega (arith, last)))
        ∙ alive_choice f at t.is
        ∙ leaving_goes f at merge t.unselected (held_on f place is opened at (omega (arith, c, p, last)) (omega (arith, last))) (left_there f place l (opened_left f place opened) at last)
