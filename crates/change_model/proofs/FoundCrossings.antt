-- Where a branch leads out of an arm to the merge block of its selection or OpSwitch, which may have no phis: the arm is joined to what is around.
use Rattle.std.proofs.Common.{◌≡◌, ℕ, zero, suc, ◌+◌, ◌-◌, ◌<◌, ◌≤◌, ◌⊎◌, inl, inr, Bool, true, false, not, ◌==◌, ◌||◌, ◌&&◌, List, [], ◌∷◌, ◌++◌, refl, ap, sym, ◌∙◌, arith, Some}
use Rattle.std.specs.List.{list_any, range_with_len}
use Rattle.std.proofs.lemmas.Bool.{cases_lt, eqb-true, eq-eqb}
use Rattle.spirv_model.specs.declared.module.Inst.{Inst}
use Rattle.spirv_model.specs.declared.op.TheConstants as op
use Rattle.spirv_model.specs.Operands.{word_at, entry_of, class_of}
use Rattle.body_model.specs.Switches.{is_among}
use Rattle.valid_model.specs.Definitions.{inst_at}
use Rattle.check_model.specs.Intervals.{Interval, interval, around, intervals_of}
use Rattle.typed_model.proofs.Keeping.{LieIn}
use Rattle.unit_model.specs.ConstantScalars.{is_scalar_class, is_behind, begins_at}
use Rattle.change_model.specs.declared.fate.Fate.{Fate}
use Rattle.change_model.specs.declared.fate.Fate.TheVariants as fate
use Rattle.change_model.specs.Plans.{is_dead, targets_left, leads_from}
use Rattle.change_model.specs.PlanRules.{merge_labels, stays, goes, still_names, goes_to_begin, is_arm_of, is_condition_left, is_joined, remains}
use Rattle.change_model.specs.Passes.{keeps_merge, way_behind}
use Rattle.change_model.proofs.BlockEntries.{Begins}
use Rattle.change_model.proofs.FoundFits.{behind_selection, branch_goes}
use Rattle.change_model.proofs.FoundGoes.{still_leads}
use Rattle.change_model.proofs.FoundLabels.{all_dead, entered_rightly}
use Rattle.change_model.proofs.FoundOrigins.{Origin, goes_away, by_phi, by_load, by_chain, by_untyped, by_selection, by_loop, by_end, by_branch, by_switch, by_picks, by_folds, origin, dead_fate}
use Rattle.change_model.proofs.FoundOrigins as source
use Rattle.change_model.proofs.FoundPlans.{Found}
use Rattle.change_model.proofs.LeftBlocks.{is_inner}
use Rattle.change_model.proofs.LeftBlockNames.{inner_isnt}
use Rattle.change_model.proofs.LeftChosen.{any_of_range}
use Rattle.change_model.proofs.LeftFates.{inners}
use Rattle.change_model.proofs.LeftQuiet.{Unnamed}
use Rattle.change_model.proofs.LeftScopes.{is_label_at, label_at, names}
use Rattle.change_model.proofs.PhiPairsLeft.{leads_alive}
use Rattle.change_model.proofs.TakenOperands.{clash}

-- a branch that is left leads from before a phi to its block, and no OpSelectionMerge stays that lets the block have it
pub record Into (f : Found) (place end : ℕ) : Type 0 where
  pub at : ℕ
  pub label : is_label_at f.words.insts at ≡ true
  pub behind : at < place
  pub front : (q : ℕ) → at < q → q ≤ place → is_inner (inst_at f.words.insts q).op ≡ true
  pub phi : (inst_at f.words.insts place).op ≡ op.PHI
  pub high : place < f.valid.derivation.after
  pub before : end < place
  pub leads : leads_from f.plan f.words.insts (label_at f.words.insts at) end ≡ true
  pub unkept : (m : ℕ) → m < place → keeps_merge f.plan f.words.insts (label_at f.words.insts at) m ≡ false
  pub unlooped : (m : ℕ) → m < at → (inst_at f.words.insts m).op ≡ op.LOOP_MERGE → is_among (label_at f.words.insts at) (merge_labels (inst_at f.words.insts m)) ≡ true → ⊥

other_op : {Q : Type 0} (opcode known other : ℕ) → opcode ≡ known → opcode ≡ other → known == other ≡ false → Q
other_op opcode known other is same differ = clash (known == other) (eq-eqb known other (sym is ∙ same)) differ

-- some place of a range passes the test
place_within : (test : ℕ → Bool) (n from : ℕ) → list_any test (range_with_len from n) ≡ true → (at : ℕ) × (from ≤ at) × (at < from + n) × (test at ≡ true)
place_within test zero from some = cc
place_within test (suc n) from some = by_first (test from) refl (λ later. place_within test n (from + 1) later) some
  where
    by_first : (b : Bool) → test from ≡ b → (list_any test (range_with_len (from + 1) n) ≡ true → (at : ℕ) × (from + 1 ≤ at) × (at < from + 1 + n) × (test at ≡ true)) → (b || list_any test (range_with_len (from + 1) n)) ≡ true
        → (at : ℕ) × (from ≤ at) × (at < from + suc n) × (test at ≡ true)
    by_first true is more some = (from, omega arith, omega arith, is)
    by_first false is more some = let m = more some in let l = m.1 in let h = m.2 in (m.0, omega (arith, l), omega (arith, h), m.3)

module _ (f : Found) (place end : ℕ) (w : Into f place end) where
  abbrev insts : List Inst
  insts = f.words.insts

  -- each interval with the branch that remains has the phi
  abbrev pub Holds : List Interval → Type 0
  Holds [] = Unit {0}
  Holds (i ∷ is) = (remains f.plan f.words.insts i ≡ true → i.from ≤ end → end < i.to → place < i.to) × Holds is

  pub holds_both : (is js : List Interval) → Holds is → Holds js → Holds (is ++ js)
  holds_both [] js first second = second
  holds_both (i ∷ is) js first second = (first.0, holds_both is js first.1 second)

  pub holds_away : (low high : ℕ) (is : List Interval) → LieIn low high is → (end < low) ⊎ (high ≤ end) → Holds is
  holds_away low high [] lie away = tt
  holds_away low high (i ∷ is) lie away =
      let l = lie.0 in let h = lie.1 in
      (λ _ least less. absurd (elim away [ inl early ↦ omega (arith, l, early, least) | inr late ↦ omega (arith, h, late, less) ]), holds_away low high is lie.2 away)

  pub holds_unnamed : (is : List Interval) → Unnamed f.words.insts (label_at f.words.insts w.at) is → names f.words.insts end (label_at f.words.insts w.at) ≡ true → Holds is
  holds_unnamed [] none named = tt
  holds_unnamed (i ∷ is) none named =
      (λ _ least less. clash (names insts end (label_at insts w.at)) named (none.0 end least less), holds_unnamed is none.1 named)

  -- no other label stands between that of the block and the phi
  pub label_low : (other : ℕ) → is_label_at f.words.insts other ≡ true → other ≤ place → other ≤ w.at
  label_low other is most = elim (cases_lt w.at other) [
    | inl past ↦ clash (is_label_at insts other) is (inner_isnt (inst_at insts other).op op.LABEL (w.front other past most) inners.label)
    | inr upto ↦ upto
  ]

  pub end_alive : is_dead (f.plan.fate end) ≡ false
  end_alive = leads_alive f.plan insts (label_at insts w.at) end w.leads

  -- ---- the merge instruction of a selection that doesn't stay

  data Merging (m : ℕ) (what : Fate) : Type 0 where
    gone : is_dead what ≡ true → Merging m what
    kept : stays what ≡ true → Merging m what
    skips : what ≡ fate.Skips → (label : ℕ) → way_behind (intervals_of f.valid.derivation) f.words.insts f.plan (suc m) ≡ Some label → Merging m what

  no_scalar : is_scalar_class (class_of op.SELECTION_MERGE) ≡ false
  unfolding class_of entry_of
  no_scalar = refl

  merging : (m : ℕ) (what : Fate) → Origin f m what → (inst_at f.words.insts m).op ≡ op.SELECTION_MERGE → Merging m what
  merging m what goes_away is = gone refl
  merging m what source.stays is = kept refl
  merging m what (by_selection label own free way) is = skips refl label way
  merging m what (by_phi own) is = other_op (inst_at insts m).op op.PHI op.SELECTION_MERGE own is refl
  merging m what (by_load own empty) is = other_op (inst_at insts m).op op.LOAD op.SELECTION_MERGE own is refl
  merging m what (by_chain own empty) is = other_op (inst_at insts m).op op.ACCESS_CHAIN op.SELECTION_MERGE own is refl
  merging m what (by_untyped own untyped) is = other_op (inst_at insts m).op op.PHI op.SELECTION_MERGE own is refl
  merging m what (by_loop own opened) is = other_op (inst_at insts m).op op.LOOP_MERGE op.SELECTION_MERGE own is refl
  merging m what (by_end label own unselected held leaves) is = other_op (inst_at insts m).op op.BRANCH_CONDITIONAL op.SELECTION_MERGE own is refl
  merging m what (by_branch label own selected skipped way) is = other_op (inst_at insts m).op op.BRANCH_CONDITIONAL op.SELECTION_MERGE own is refl
  merging m what (by_switch label own skipped way) is = other_op (inst_at insts m).op op.SWITCH op.SELECTION_MERGE own is refl
  merging m what (by_picks label own free way) is = other_op (inst_at insts m).op op.SWITCH op.SELECTION_MERGE own is refl
  merging m what (by_folds scalar own comes) is = clash (is_scalar_class (class_of (inst_at insts m).op)) own (ap (λ (o : ℕ). is_scalar_class (class_of o)) is ∙ no_scalar)

  -- it goes, and its branch leads to one label
  pub record Skipped (m : ℕ) : Type 0 where
    pub skips : f.plan.fate m ≡ fate.Skips
    pub label : ℕ
    pub goes_to : f.plan.fate (m + 1) ≡ fate.Goes label

  goes_label : (what : Fate) → goes what ≡ true → (label : ℕ) × (what ≡ fate.Goes label)
  goes_label (fate.Goes label) is = (label, refl)
  goes_label what is = cc

  skipped : (m : ℕ) → f.valid.derivation.before < m → m + 1 < f.valid.derivation.after → m < place → (inst_at f.words.insts m).op ≡ op.SELECTION_MERGE → word_at 0 (inst_at f.words.insts m) ≡ label_at f.words.insts w.at
      → is_label_at f.words.insts (m + 1) ≡ false → is_dead (f.plan.fate (m + 1)) ≡ false → Skipped m
  skipped m low high early is own plain alive = by_kind (merging m (f.plan.fate m) (origin f m) is)
    where
      both_kept : (a b c : Bool) → a ≡ true → b ≡ true → c ≡ true → (a && b && c) ≡ true
      both_kept a b c p q r = rw p (rw q r)

      by_kind : Merging m (f.plan.fate m) → Skipped m
      by_kind (gone dead) =
          clash (is_dead (f.plan.fate (m + 1)))
          (ap is_dead (dead_fate f (m + 1) (omega (arith, low)) high plain (ap (λ (n : ℕ). is_dead (f.plan.fate n)) {x = m + 1 - 1} {y = m} (omega arith) ∙ dead))) alive
      by_kind (kept stay) =
          clash (keeps_merge f.plan insts (label_at insts w.at) m)
          (both_kept (stays (f.plan.fate m)) ((inst_at insts m).op == op.SELECTION_MERGE) (word_at 0 (inst_at insts m) == label_at insts w.at) stay (eq-eqb (inst_at insts m).op op.SELECTION_MERGE is)
          (eq-eqb (word_at 0 (inst_at insts m)) (label_at insts w.at) own)) (w.unkept m early)
      by_kind (skips same label way) =
          let g = goes_label (f.plan.fate (m + 1))
          (branch_goes f m is low label same (ap (way_behind (intervals_of f.valid.derivation) insts f.plan) {x = m + 1} {y = suc m} (omega arith) ∙ way)) in
          record { skips = same; label = g.0; goes_to = g.1 }

  -- ---- an arm that is left

  one_among : (a label : ℕ) → is_among label (a ∷ []) ≡ true → a ≡ label
  one_among a label among = by_test (a == label) refl among
    where
      by_test : (b : Bool) → a == label ≡ b → (b || false) ≡ true → a ≡ label
      by_test true is among = eqb-true a label is
      by_test false is among = cc

  still_parts : (label from : ℕ) → still_names f.plan f.words.insts label from ≡ true → (leads_from f.plan f.words.insts label from ≡ true) ⊎ (is_among label (merge_labels (inst_at f.words.insts from)) ≡ true)
  still_parts label from named = by_tests (leads_from f.plan insts label from) (stays (f.plan.fate from)) (is_among label (merge_labels (inst_at insts from))) named
    where
      by_tests : (a b c : Bool) → (a || (b && c)) ≡ true → (a ≡ true) ⊎ (c ≡ true)
      by_tests true b c is = inl refl
      by_tests false true true is = inr refl
      by_tests false true false is = cc
      by_tests false false c is = cc

  -- it is joined to what is around
  arm_joined : (m from to : ℕ) (s : Skipped m) → (inst_at f.words.insts m).op ≡ op.SELECTION_MERGE → m + 1 < from → is_label_at f.words.insts from ≡ true → s.label ≡ label_at f.words.insts from
      → remains f.plan f.words.insts (interval from to) ≡ false
  unfolding is_joined
  arm_joined m from to s is less label same =
      let i = interval from to in
      let begins : begins_at insts s.label i ≡ true = and_true (is_label_at insts from) (label_at insts from == s.label) label (eq-eqb (label_at insts from) s.label (sym same)) in
      let one : is_arm_of f.plan insts i (m + 1) ≡ true =
      and_true (is_behind op.SELECTION_MERGE insts (m + 1)) _ (behind_selection f m is) (ap (λ (what : Fate). goes_to_begin insts i what) s.goes_to ∙ begins) in
      gone (is_dead (f.plan.fate from)) (list_any (is_arm_of f.plan insts i) (range_with_len 0 from)) (is_condition_left f.plan insts i) (any_of_range (is_arm_of f.plan insts i) from 0 (m + 1) (omega arith) (omega (arith, less)) one)
    where
      and_true : (a b : Bool) → a ≡ true → b ≡ true → (a && b) ≡ true
      and_true true b is also = also
      and_true false b is also = cc

      gone : (a b c : Bool) → b ≡ true → (not a && not (b || c)) ≡ false
      gone true b c is = refl
      gone false true c is = refl
      gone false false c is = cc

  pub arm_crossed : (m from to : ℕ) (inner : List Interval) → f.valid.derivation.before < m → m + 1 < from → to ≤ f.valid.derivation.after → m < place → (inst_at f.words.insts m).op ≡ op.SELECTION_MERGE → word_at 0 (inst_at f.words.insts m) ≡ label_at f.words.insts w.at
      → is_label_at f.words.insts (m + 1) ≡ false → is_label_at f.words.insts from ≡ true → Begins f.words.insts (m + 2) from
      → ((q at : ℕ) → q < from → from < at → at < to → is_label_at f.words.insts at ≡ true → names f.words.insts q (label_at f.words.insts at) ≡ false) → from ≤ end → end < to
      → ((s : Skipped m) → s.label ≡ label_at f.words.insts from → Holds inner) → Holds (around from to inner)
  arm_crossed m from to inner low less high early is own plain label begins entered least past nested =
      let life = alive_by (is_dead (f.plan.fate from)) refl in
      let named = (entered_rightly f from (omega (arith, low, less)) (omega (arith, least, past, high)) label).alive life in
      let q = place_within (still_names f.plan insts (label_at insts from)) from 0 named in
      by_parts q.0 (omega (arith, q.2)) (still_parts (label_at insts from) q.0 q.3)
    where
      alive_by : (b : Bool) → is_dead (f.plan.fate from) ≡ b → is_dead (f.plan.fate from) ≡ false
      alive_by false alive = alive
      alive_by true dead = clash (is_dead (f.plan.fate end)) (all_dead f from to (omega (arith, low, less)) high entered dead end least past) end_alive

      by_way : leads_from f.plan f.words.insts (label_at f.words.insts from) (m + 1) ≡ true → Holds (around from to inner)
      by_way leads =
          let alive = leads_alive f.plan insts (label_at insts from) (m + 1) leads in
          let s = skipped m low (omega (arith, less, least, past, high)) early is own plain alive in
          let same = one_among s.label (label_at insts from) (ap (λ (what : Fate). is_among (label_at insts from) (targets_left what (inst_at insts (m + 1)))) (sym s.goes_to) ∙ leads) in
          (λ stay _ _. clash (remains f.plan insts (interval from to)) stay (arm_joined m from to s is less label same), nested s same)

      by_parts : (q : ℕ) → q < from → (leads_from f.plan f.words.insts (label_at f.words.insts from) q ≡ true) ⊎ (is_among (label_at f.words.insts from) (merge_labels (inst_at f.words.insts q)) ≡ true) → Holds (around from to inner)
      by_parts q under (inl leads) =
          let e = begins.leads q under (still_leads f q (label_at insts from) leads) in
          by_way (ap (leads_from f.plan insts (label_at insts from)) {x = m + 1} {y = q} (omega (arith, e)) ∙ leads)
      by_parts q under (inr merges) = absurd (begins.merges q under merges)
