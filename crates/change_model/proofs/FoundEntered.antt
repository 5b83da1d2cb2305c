-- Where no merge instruction of a selection stays by which a phi may stay, one instruction before it still leads to its block.
use Rattle.std.proofs.Common.{◌≡◌, ℕ, ◌<◌, inl, inr, Bool, true, false, ◌==◌, ◌&&◌, List, ap, sym, ◌∙◌, arith}
use Rattle.std.proofs.lemmas.Bool.{cases_lt, eq-eqb}
use Rattle.spirv_model.specs.declared.module.Inst.{Inst}
use Rattle.spirv_model.specs.declared.op.TheConstants as op
use Rattle.spirv_model.specs.Operands.{word_at}
use Rattle.body_model.specs.Switches.{is_among}
use Rattle.body_model.specs.Targets.{targets}
use Rattle.valid_model.specs.Definitions.{inst_at}
use Rattle.change_model.specs.Plans.{is_dead, leads_from, block_at}
use Rattle.change_model.specs.PlanRules.{merge_labels, stays, still_names}
use Rattle.change_model.specs.Passes.{keeps_merge, keeps_phis}
use Rattle.change_model.proofs.BlockEntries.{SelectionTo, SwitchTo, Entry, by_one, by_selection, by_switch, merged_by}
use Rattle.change_model.proofs.FoundDead.{still_parts}
use Rattle.change_model.proofs.FoundGoes.{still_leads}
use Rattle.change_model.proofs.FoundLabels.{entered_rightly}
use Rattle.change_model.proofs.FoundMerges.{place_of, Gone, dead, turned, gone}
use Rattle.change_model.proofs.FoundPhis.{phi_block, phi_own, phi_life}
use Rattle.change_model.proofs.FoundPlans.{Found}
use Rattle.change_model.proofs.FoundSelections.{selection_place, selection_op, selection_merge, selection_low, selection_before, selection_dead, selection_one}
use Rattle.change_model.proofs.FoundSwitches.{switch_place, switch_op, switch_merge, switch_low, switch_before, switch_dead, switch_one}
use Rattle.change_model.proofs.LeftChosen.{any_of_range}
use Rattle.change_model.proofs.LeftLeads.{inner_nowhere, label_nowhere, no_targets}
use Rattle.change_model.proofs.LeftScopes.{label_at}

clash : {Q : Type 0} (b : Bool) → b ≡ true → b ≡ false → Q
clash true is isnt = cc
clash false is isnt = cc

module _ (f : Found) (place : ℕ) (low : f.valid.derivation.before < place) (high : place < f.valid.derivation.after) (is : (inst_at f.words.insts place).op ≡ op.PHI) (alive : is_dead (f.plan.fate place) ≡ false)
    (none : keeps_phis f.plan f.words.insts place ≡ false) where
  abbrev insts : List Inst
  insts = f.words.insts

  abbrev first : ℕ
  first = (phi_block f place low high is).at

  own : block_at insts place ≡ label_at insts first
  own = phi_own f place low high is

  first_alive : is_dead (f.plan.fate first) ≡ false
  first_alive = sym (phi_life f place low high is) ∙ alive

  -- what stays and merges the block is no merge instruction of a selection
  no_selection : {Q : Type 0} (at : ℕ) → at < place → stays (f.plan.fate at) ≡ true → (inst_at insts at).op == op.SELECTION_MERGE ≡ true → word_at 0 (inst_at insts at) ≡ label_at insts first → Q
  no_selection at less stay selection merge =
      clash (keeps_phis f.plan insts place)
      (any_of_range (keeps_merge f.plan insts (block_at insts place)) place 0 at (omega arith) (omega (arith, less))
      (all (stays (f.plan.fate at)) ((inst_at insts at).op == op.SELECTION_MERGE) (word_at 0 (inst_at insts at) == block_at insts place) stay selection (eq-eqb (word_at 0 (inst_at insts at)) (block_at insts place) (merge ∙ sym own)))) none
    where
      all : (a b c : Bool) → a ≡ true → b ≡ true → c ≡ true → (a && b && c) ≡ true
      all a b c first second third = rw first (rw second third)

  -- ---- an instruction leads to the block

  pub record Leading : Type 0 where
    pub from : ℕ
    pub before : from < first
    pub leads : leads_from f.plan insts (label_at insts first) from ≡ true

  unlooped : {Q : Type 0} → Entry insts f.valid.derivation first → (from : ℕ) → from < first → (inst_at insts from).op ≡ op.LOOP_MERGE → is_among (label_at insts first) (merge_labels (inst_at insts from)) ≡ true → Q
  unlooped (by_one after b) from less loop among = absurd (b.merges from less among)
  unlooped (by_selection s never) from less loop among = absurd (never from less loop among)
  unlooped (by_switch s never) from less loop among = absurd (never from less loop among)

  pub some_leads : Leading
  some_leads =
      let h = phi_block f place low high is in
      let b = h.behind in
      let p = place_of (still_names f.plan insts (label_at insts first)) first 0 ((entered_rightly f first h.low (omega (arith, b, high)) h.is_label).alive first_alive) in
      let l = p.high in
      let less : p.at < first = omega (arith, l) in
      elim (still_parts f.plan insts (label_at insts first) p.at p.is) [
        | inl leads ↦ record { from = p.at; before = less; leads = leads }
        | inr merges ↦ elim (merged_by (inst_at insts p.at) (label_at insts first) merges.1) [ inl s ↦ no_selection p.at (omega (arith, less, b)) merges.0 s.0 s.1 | inr loop ↦ unlooped h.entry p.at less loop merges.1 ]
      ]

  -- ---- and no other

  selection_gone : (s : SelectionTo insts f.valid.derivation first) → Gone f (selection_place f first s)
  selection_gone s =
      let b = (phi_block f place low high is).behind in
      let before = selection_before f first s in
      gone f (selection_place f first s) (selection_op f first s) (selection_low f first s)
      (λ stay. no_selection (selection_place f first s) (omega (arith, b, before)) (ap stays stay) (eq-eqb (inst_at insts (selection_place f first s)).op op.SELECTION_MERGE (selection_op f first s)) (selection_merge f first s))

  switch_gone : (s : SwitchTo insts f.valid.derivation first) → Gone f (switch_place f first s)
  switch_gone s =
      let b = (phi_block f place low high is).behind in
      let before = switch_before f first s in
      gone f (switch_place f first s) (switch_op f first s) (switch_low f first s)
      (λ stay. no_selection (switch_place f first s) (omega (arith, b, before)) (ap stays stay) (eq-eqb (inst_at insts (switch_place f first s)).op op.SELECTION_MERGE (switch_op f first s)) (switch_merge f first s))

  abbrev One : Type 0
  One = (a b : ℕ) → a < first → b < first → leads_from f.plan insts (label_at insts first) a ≡ true → leads_from f.plan insts (label_at insts first) b ≡ true → a ≡ b

  by_selected : (s : SelectionTo insts f.valid.derivation first) → Gone f (selection_place f first s) → One
  by_selected s (dead is_dead_there) = clash (is_dead (f.plan.fate first)) (selection_dead f first s is_dead_there) first_alive
  by_selected s (turned to known goes_there way) = selection_one f first s to goes_there

  by_switched : (s : SwitchTo insts f.valid.derivation first) → Gone f (switch_place f first s) → One
  by_switched s (dead is_dead_there) = clash (is_dead (f.plan.fate first)) (switch_dead f first s is_dead_there) first_alive
  by_switched s (turned to known goes_there way) = switch_one f first s to known goes_there way

  by_entry : Entry insts f.valid.derivation first → One
  by_entry (by_one after b) = λ x y less also leads leads'. (
      let p = b.leads x less (still_leads f x (label_at insts first) leads) in
      let q = b.leads y also (still_leads f y (label_at insts first) leads') in
      omega (arith, p, q))
  by_entry (by_selection s never) = by_selected s (selection_gone s)
  by_entry (by_switch s never) = by_switched s (switch_gone s)

  pub one_leads : One
  one_leads = by_entry (phi_block f place low high is).entry

  -- nothing from the label of the block up to the phi leads anywhere
  pub leads_before : (from : ℕ) → from < place → leads_from f.plan insts (block_at insts place) from ≡ true → from < first
  leads_before from less leads = elim (cases_lt from first) [
    | inl before ↦ before
    | inr least ↦ elim (cases_lt first from) [
      | inl behind ↦ nowhere (ap (is_among (block_at insts place)) (no_targets (inst_at insts from).op (inst_at insts from).words (inner_nowhere (inst_at insts from).op ((phi_block f place low high is).front from behind (omega (arith, less))))))
      | inr most ↦
          let same : from ≡ first = omega (arith, least, most) in
          nowhere (ap (is_among (block_at insts place)) (no_targets (inst_at insts from).op (inst_at insts from).words
          (label_nowhere (inst_at insts from).op (ap (λ (n : ℕ). (inst_at insts n).op == op.LABEL) same ∙ (phi_block f place low high is).is_label))))
    ]
  ]
    where
      nowhere : {Q : Type 0} → is_among (block_at insts place) (targets (inst_at insts from)) ≡ false → Q
      nowhere silent = clash (is_among (block_at insts place) (targets (inst_at insts from))) (still_leads f from (block_at insts place) leads) silent
