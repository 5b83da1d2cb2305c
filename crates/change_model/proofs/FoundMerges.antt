-- In the plan that one pass finds, the merge instruction of a selection that doesn't stay is dead or goes with its branch, and an arm is
-- alive only where the branch goes there.
use Rattle.std.proofs.Common.{◌≡◌, ℕ, zero, suc, ◌+◌, ◌<◌, ◌≤◌, inl, inr, Bool, true, false, ◌==◌, ◌||◌, List, refl, ap, sym, ◌∙◌, arith, Option, Some}
use Rattle.std.specs.List.{list_any, range_with_len}
use Rattle.std.proofs.lemmas.Bool.{eq-eqb}
use Rattle.spirv_model.specs.declared.module.Inst.{Inst}
use Rattle.spirv_model.specs.declared.op.TheConstants as op
use Rattle.spirv_model.specs.Operands.{entry_of, class_of}
use Rattle.body_model.specs.Scope.{Scope}
use Rattle.body_model.specs.Grammar.{Derives}
use Rattle.valid_model.specs.Definitions.{inst_at}
use Rattle.check_model.specs.Intervals.{Interval, intervals_of}
use Rattle.unit_model.specs.ConstantScalars.{is_scalar_class}
use Rattle.change_model.specs.declared.fate.Fate.{Fate}
use Rattle.change_model.specs.declared.fate.Fate.TheVariants as fate
use Rattle.change_model.specs.Plans.{is_dead, leads_from}
use Rattle.change_model.specs.PlanRules.{goes, still_names}
use Rattle.change_model.specs.Passes.{way_behind}
use Rattle.change_model.proofs.BlockEntries.{Begins}
use Rattle.change_model.proofs.FoundBack.{dead_leads}
use Rattle.change_model.proofs.FoundDead.{still_parts, goes_label}
use Rattle.change_model.proofs.FoundFits.{branch_goes}
use Rattle.change_model.proofs.FoundGoes.{still_leads}
use Rattle.change_model.proofs.FoundLabels.{all_dead, entered_rightly}
use Rattle.change_model.proofs.FoundOrigins.{Origin, goes_away, by_phi, by_load, by_chain, by_untyped, by_selection, by_loop, by_end, by_branch, by_switch, by_picks, by_folds, origin}
use Rattle.change_model.proofs.FoundOrigins as source
use Rattle.change_model.proofs.FoundPlans.{Found}
use Rattle.change_model.proofs.LeftExits.{by_leave, by_loop as by_exits, exit_is}
use Rattle.change_model.proofs.LeftPlaced.{some_none}
use Rattle.change_model.proofs.LeftQuiet.{NoWay}
use Rattle.change_model.proofs.LeftScopes.{is_label_at, label_at, Placed}

clash : {Q : Type 0} (b : Bool) → b ≡ true → b ≡ false → Q
clash true is isnt = cc
clash false is isnt = cc

refuted : (b : Bool) → (b ≡ true → ⊥) → b ≡ false
refuted true isnt = absurd (isnt refl)
refuted false isnt = refl

other_op : {Q : Type 0} (opcode known other : ℕ) → opcode ≡ known → opcode ≡ other → known == other ≡ false → Q
other_op opcode known other is same differ = clash (known == other) (eq-eqb known other (sym is ∙ same)) differ

-- a place of a range that passes the test
pub record PlaceOf (test : ℕ → Bool) (from to : ℕ) : Type 0 where
  pub at : ℕ
  pub low : from ≤ at
  pub high : at < to
  pub is : test at ≡ true

pub place_of : (test : ℕ → Bool) (n from : ℕ) → list_any test (range_with_len from n) ≡ true → PlaceOf test from (from + n)
place_of test zero from some = cc
place_of test (suc n) from some = by_first (test from) refl (λ later. place_of test n (from + 1) later) some
  where
    by_first : (b : Bool) → test from ≡ b → (list_any test (range_with_len (from + 1) n) ≡ true → PlaceOf test (from + 1) (from + 1 + n)) → (b || list_any test (range_with_len (from + 1) n)) ≡ true → PlaceOf test from (from + suc n)
    by_first true is more some = record { at = from; low = omega arith; high = omega arith; is = is }
    by_first false is more some = let r = more some in let l = r.low in let h = r.high in record { at = r.at; low = omega (arith, l); high = omega (arith, h); is = r.is }

-- nothing nested in a part may be left to a label that stands in it
pub no_way_in : (insts : List Inst) (d : Derives insts) (scope : Scope) (next : Option ℕ) (from to : ℕ) (all : List Interval) → Placed insts d scope next from to all → (cut : ℕ) → from ≤ cut → cut < to → is_label_at insts cut ≡ true → NoWay scope (label_at insts cut)
no_way_in insts d scope next from to all p cut low high label = record {
  leave = λ is. p.left (label_at insts cut) (inl (λ none. some_none (exit_is scope (label_at insts cut) (by_leave is)) none)) cut low high label refl;
  exits = λ exits is one. p.left (label_at insts cut) (inl (λ none. some_none (exit_is scope (label_at insts cut) (by_exits exits is one)) none)) cut low high label refl;
}

module _ (f : Found) where
  abbrev insts : List Inst
  insts = f.words.insts

  -- ---- parts that are alive

  -- a part from which something leads is alive
  pub part_alive : (scope : Scope) (next : Option ℕ) (low high : ℕ) (inner : List Interval) → Placed insts f.valid.derivation scope next low high inner → (from label : ℕ) → low ≤ from → from < high → leads_from f.plan insts label from ≡ true
      → is_dead (f.plan.fate low) ≡ false
  part_alive scope next low high inner p from label least less leads = refuted (is_dead (f.plan.fate low)) (λ dead.
      clash (leads_from f.plan insts label from) leads (dead_leads f from label
      (all_dead f low high p.low p.high (λ outer at before behind within is. p.entered outer at (inl before) behind within is) dead from least less)))

  -- one that begins behind a branch is alive only where the branch goes there
  pub branch_target : (branch low to : ℕ) → Begins insts (branch + 1) low → f.valid.derivation.before + 1 < low → low < f.valid.derivation.after → is_label_at insts low ≡ true → is_dead (f.plan.fate low) ≡ false → f.plan.fate branch ≡ fate.Goes to
      → to ≡ label_at insts low
  branch_target branch low to b behind within label alive goes_there =
      let p = place_of (still_names f.plan insts (label_at insts low)) low 0 ((entered_rightly f low behind within label).alive alive) in
      let h = p.high in
      elim (still_parts f.plan insts (label_at insts low) p.at p.is) [
        | inl leads ↦
            let e = b.leads p.at (omega (arith, h)) (still_leads f p.at (label_at insts low) leads) in
            goes_label f.plan insts (label_at insts low) to p.at (ap f.plan.fate {x = p.at} {y = branch} (omega (arith, e)) ∙ goes_there) leads
        | inr merges ↦ absurd (b.merges p.at (omega (arith, h)) merges.1)
      ]

  -- ---- the merge instruction of a selection

  pub data Gone (place : ℕ) : Type 0 where
    dead : is_dead (f.plan.fate place) ≡ true → Gone place
    turned : (to label : ℕ) → f.plan.fate (place + 1) ≡ fate.Goes to → way_behind (intervals_of f.valid.derivation) insts f.plan (place + 1) ≡ Some label → Gone place

  goes_is : (what : Fate) → goes what ≡ true → (to : ℕ) × (what ≡ fate.Goes to)
  goes_is (fate.Goes to) is = (to, refl)
  goes_is what is = cc

  no_scalar : is_scalar_class (class_of op.SELECTION_MERGE) ≡ false
  unfolding class_of entry_of
  no_scalar = refl

  gone_by : (place : ℕ) → (inst_at insts place).op ≡ op.SELECTION_MERGE → f.valid.derivation.before < place → (f.plan.fate place ≡ fate.Stays → ⊥) → (what : Fate) → f.plan.fate place ≡ what → Origin f place what → Gone place
  gone_by place is low goes what same goes_away = dead (ap is_dead same)
  gone_by place is low goes what same source.stays = absurd (goes same)
  gone_by place is low goes what same (by_selection label own free way) =
      let there = ap (way_behind (intervals_of f.valid.derivation) insts f.plan) {x = place + 1} {y = suc place} (omega arith) ∙ way in
      let turns = goes_is (f.plan.fate (place + 1)) (branch_goes f place is low label same there) in
      turned turns.0 label turns.1 there
  gone_by place is low goes what same (by_phi own) = other_op (inst_at insts place).op op.SELECTION_MERGE op.PHI is own refl
  gone_by place is low goes what same (by_load own empty) = other_op (inst_at insts place).op op.SELECTION_MERGE op.LOAD is own refl
  gone_by place is low goes what same (by_chain own empty) = other_op (inst_at insts place).op op.SELECTION_MERGE op.ACCESS_CHAIN is own refl
  gone_by place is low goes what same (by_untyped own untyped) = other_op (inst_at insts place).op op.SELECTION_MERGE op.PHI is own refl
  gone_by place is low goes what same (by_loop own opened) = other_op (inst_at insts place).op op.SELECTION_MERGE op.LOOP_MERGE is own refl
  gone_by place is low goes what same (by_end label own unselected held leaves) = other_op (inst_at insts place).op op.SELECTION_MERGE op.BRANCH_CONDITIONAL is own refl
  gone_by place is low goes what same (by_branch label own selected skipped way) = other_op (inst_at insts place).op op.SELECTION_MERGE op.BRANCH_CONDITIONAL is own refl
  gone_by place is low goes what same (by_switch label own skipped way) = other_op (inst_at insts place).op op.SELECTION_MERGE op.SWITCH is own refl
  gone_by place is low goes what same (by_picks label own free way) = other_op (inst_at insts place).op op.SELECTION_MERGE op.SWITCH is own refl
  gone_by place is low goes what same (by_folds known own comes) = clash (is_scalar_class (class_of (inst_at insts place).op)) own (ap (λ (o : ℕ). is_scalar_class (class_of o)) is ∙ no_scalar)

  -- one that doesn't stay
  pub gone : (place : ℕ) → (inst_at insts place).op ≡ op.SELECTION_MERGE → f.valid.derivation.before < place → (f.plan.fate place ≡ fate.Stays → ⊥) → Gone place
  gone place is low goes = gone_by place is low goes (f.plan.fate place) refl (origin f place)
