-- To the first blocks of the arms of a selection or an OpSwitch only its branch leads.
use Rattle.std.proofs.Common.{◌≡◌, ℕ, ◌<◌, ◌≤◌, inl, inr, true, List, length, ◌∙◌, sym, arith, Option, None, Some}
use Rattle.spirv_model.specs.declared.module.Inst.{Inst}
use Rattle.body_model.specs.declared.block_end.BlockEnd.{BlockEnd}
use Rattle.body_model.specs.declared.block_end.BlockEnd.TheVariants as way
use Rattle.body_model.specs.Blocks.{block_end}
use Rattle.body_model.specs.Due.{IsDue}
use Rattle.body_model.specs.Scope.{Scope}
use Rattle.body_model.specs.Switches.{is_among, labels_of}
use Rattle.body_model.specs.Grammar.{Arms, Derives}
use Rattle.body_model.proofs.Forward.{sound_at, forward, arm_forward}
use Rattle.body_model.proofs.Shapes.{IsWhole, after_of}
use Rattle.valid_model.specs.Definitions.{inst_at}
use Rattle.stage_model.proofs.CodeRuns.{due_of}
use Rattle.change_model.specs.PlanRules.{merge_labels}
use Rattle.change_model.proofs.BlockEntries.{Begins, SelectionTo, SwitchTo, merged_by, arm_silent, arms_silent, begins}
use Rattle.change_model.proofs.ConditionNames.{HasLoop, loop_place}
use Rattle.change_model.proofs.LeftCuts.{LabelsOnce}
use Rattle.change_model.proofs.LeftFronts.{old_block}
use Rattle.change_model.proofs.LeftScopes.{is_label_at, label_at}
use Rattle.change_model.proofs.LeftSelections.{SelectsTo, block_selection}
use Rattle.change_model.proofs.LeftTargets.{due_stands}

-- a block whose last part doesn't merge the label doesn't name it by a merge instruction
pub unmerged_by : (insts : List Inst) (scope : Scope) (wanted : Option ℕ) (from : ℕ) (end : BlockEnd) → IsDue insts wanted from → block_end insts scope from ≡ end → IsWhole end → (label : ℕ) → (SelectsTo end label → ⊥) → (HasLoop end → ⊥)
    → (place : ℕ) → from ≤ place → place < after_of end → is_among label (merge_labels (inst_at insts place)) ≡ true → ⊥
unmerged_by insts scope wanted from end here is whole label unselected none place low high among =
    let o = old_block insts scope wanted from end here is whole in
    elim (merged_by (inst_at insts place) label among) [
      | inl s ↦ unselected (block_selection insts scope from end o whole place label low high (record { selection = s.0; own = s.1 })).0
      | inr loop ↦ none (loop_place insts scope None from 0 end o whole place low high loop).0
    ]

module _ (insts : List Inst) (once : LabelsOnce insts) (d : Derives insts) where
  -- a label that is due elsewhere is another one
  pub other_due : (cut there known : ℕ) → IsDue insts (Some known) there → is_label_at insts cut ≡ true → (cut ≡ there → ⊥) → label_at insts cut ≡ known → ⊥
  other_due cut there known due label other same = let s = due_stands insts known there due in other (once cut there label s.is_label (same ∙ sym s.own))

  module _ (place : ℕ) (s : SelectionTo insts d place) where
    record Order : Type 0 where
      head : s.from < s.head.after
      fits : s.head.after ≤ length insts
      on_true : s.head.after ≤ s.second
      on_false : s.second ≤ place
      rest : place < s.to

    order : Order
    order =
        let f = (sound_at insts s.scope s.from (way.Selects s.head) s.is).0 in
        record { head = f.forward; fits = f.within; on_true = arm_forward insts s.on_true; on_false = arm_forward insts s.on_false; rest = (forward insts s.rest).forward }

    unmerged : (cut : ℕ) → is_label_at insts cut ≡ true → (cut ≡ place → ⊥) → (from : ℕ) → s.from ≤ from → from < s.head.after → is_among (label_at insts cut) (merge_labels (inst_at insts from)) ≡ true → ⊥
    unmerged cut label other = unmerged_by insts s.scope s.wanted s.from (way.Selects s.head) s.here s.is tt (label_at insts cut) (λ same. other_due cut place s.head.merge (due_of s.rest) label other same) (λ none. none)

    pub true_begins : is_label_at insts s.head.after ≡ true → s.head.after < s.second → Begins insts s.head.after s.head.after
    true_begins label less =
        let o = order in
        let h = o.head in
        let b = o.on_false in
        let r = o.rest in
        begins insts once d s.scope s.next s.from s.to _ s.placed s.head.after h (omega (arith, less, b, r)) label s.wanted (way.Selects s.head) s.here s.is tt o.fits (λ q least behind named. omega (arith, least, behind))
        (unmerged s.head.after label (λ same. omega (arith, same, less, b)))

    pub false_begins : is_label_at insts s.second ≡ true → s.second < place → Begins insts s.head.after s.second
    false_begins label less =
        let o = order in
        let h = o.head in
        let a = o.on_true in
        let r = o.rest in
        let low : s.from < s.second = omega (arith, h, a) in
        let high : s.second < s.to = omega (arith, less, r) in
        begins insts once d s.scope s.next s.from s.to _ s.placed s.second low high label s.wanted (way.Selects s.head) s.here s.is tt o.fits
        (λ q least behind named. arm_silent insts once d s.scope s.next s.from s.to _ s.placed s.second low high label place s.on_true (due_stands insts s.head.merge place (due_of s.rest)) (λ same. omega (arith, same, less)) (inr (omega arith)) q least behind named)
        (unmerged s.second label (λ same. omega (arith, same, less)))

  module _ (place : ℕ) (s : SwitchTo insts d place) where
    pub arm_begins : (part : List ℕ) (between : ℕ) → Arms insts s.scope s.head.merge (labels_of insts s.head) (labels_of insts s.head) s.head.after part between → is_label_at insts between ≡ true → s.head.after ≤ between → between < place
        → Begins insts s.head.after between
    arm_begins part between earlier label least less =
        let f = (sound_at insts s.scope s.from (way.Picks s.head) s.is).0 in
        let h = f.forward in
        let r = (forward insts s.rest).forward in
        let low : s.from < between = omega (arith, h, least) in
        let high : between < s.to = omega (arith, less, r) in
        begins insts once d s.scope s.next s.from s.to _ s.placed between low high label s.wanted (way.Picks s.head) s.here s.is tt f.within
        (λ q behind before named. arms_silent insts once d s.scope s.next s.from s.to _ s.placed between low high label place earlier (due_stands insts s.head.merge place (due_of s.rest)) (λ same. omega (arith, same, less)) (omega arith) q behind before named)
        (unmerged_by insts s.scope s.wanted s.from (way.Picks s.head) s.here s.is tt (label_at insts between) (λ same. other_due between place s.head.merge (due_of s.rest) label (λ same. omega (arith, same, less)) same) (λ none. none))
