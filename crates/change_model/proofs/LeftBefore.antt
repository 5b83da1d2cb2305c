-- Where a block ends in the head of a selection or an OpSwitch, nothing before a part of it names its label but the branch.
use Rattle.std.proofs.Common.{◌≡◌, ℕ, ◌<◌, ◌≤◌, ◌⊎◌, inl, inr, Bool, true, false, ◌==◌, ◌||◌, List, [], ◌∷◌, refl, ap, sym, ◌∙◌, subst, arith, Option}
use Rattle.std.proofs.lemmas.Bool.{cases_lt}
use Rattle.spirv_model.specs.declared.module.Inst.{Inst}
use Rattle.spirv_model.specs.declared.op.TheConstants as op
use Rattle.spirv_model.specs.Operands.{word_at}
use Rattle.body_model.specs.declared.block_end.BlockEnd.{BlockEnd}
use Rattle.body_model.specs.Scope.{Scope}
use Rattle.body_model.specs.Switches.{is_among}
use Rattle.body_model.specs.Targets.{targets, MayLeaveTo}
use Rattle.body_model.specs.Grammar.{Sequence, Derives}
use Rattle.check_model.specs.Intervals.{Interval}
use Rattle.change_model.specs.PlanRules.{merge_labels}
use Rattle.change_model.proofs.LeftBlockNames.{inst_there, front_silent, silent_names}
use Rattle.change_model.proofs.LeftCuts.{LabelsOnce}
use Rattle.change_model.proofs.LeftEndings.{differ}
use Rattle.change_model.proofs.LeftFronts.{OldBlock}
use Rattle.change_model.proofs.LeftLeads.{LeadsNowhere, no_targets}
use Rattle.change_model.proofs.LeftLeaves.{names_in}
use Rattle.change_model.proofs.LeftLasts.{refuted}
use Rattle.change_model.proofs.LeftScopes.{is_label_at, label_at, names, Placed}
use Rattle.change_model.proofs.LeftTargets.{Stands}

or_none : (a b : Bool) → a ≡ false → b ≡ false → (a || b) ≡ false
or_none a b first second = rw first second

or_false : (b : Bool) → (b || false) ≡ b
or_false true = refl
or_false false = refl

-- the merge instruction of a selection names its merge block alone
merge_alone : (inst : Inst) (label : ℕ) → inst.op ≡ op.SELECTION_MERGE → (is_among label (targets inst) || is_among label (merge_labels inst)) ≡ (word_at 0 inst == label)
merge_alone inst label is =
    ap (λ (l : List ℕ). is_among label l || is_among label (merge_labels inst)) (no_targets inst.op inst.words (subst LeadsNowhere (sym is) (record { no_branch = refl; no_choice = refl; no_switch = refl })))
    ∙ ap (is_among label) (own_labels inst is) ∙ or_false (word_at 0 inst == label)
  where
    own_labels : (inst : Inst) → inst.op ≡ op.SELECTION_MERGE → merge_labels inst ≡ word_at 0 inst ∷ []
    own_labels inst is = rw is refl

module _ (insts : List Inst) (once : LabelsOnce insts) (d : Derives insts) (old : Scope) (next : Option ℕ) (from to : ℕ) (all : List Interval) (p : Placed insts d old next from to all) (end : BlockEnd) (o : OldBlock insts old from end)
    (is : o.inst.op ≡ op.SELECTION_MERGE) (join : ℕ) (at_join : Stands insts (word_at 0 o.inst) join) (low : o.place < join) (high : join < to) where
  abbrev merge : ℕ
  merge = word_at 0 o.inst

  -- up to the merge instruction
  pub before_head : (at : ℕ) → o.place < at → at < to → is_label_at insts at ≡ true → (at ≡ join → ⊥) → (place : ℕ) → place ≤ o.place → names insts place (label_at insts at) ≡ false
  before_head at behind before label other place most = elim (cases_lt place from) [
    | inl outside ↦ (let e = o.place_is in p.entered place at (inl outside) (omega (arith, e, behind)) before label)
    | inr least ↦ elim (cases_lt place o.place) [
      | inl front ↦ silent_names insts place (label_at insts at) (front_silent insts old from end o place least front)
      | inr there ↦ (let same : place ≡ o.place = omega (arith, there, most) in ap (λ (n : ℕ). names insts n (label_at insts at)) same ∙ at_merge)
    ]
  ]
    where
      at_merge : names insts o.place (label_at insts at) ≡ false
      at_merge =
          ap (λ (i : Inst). is_among (label_at insts at) (targets i) || is_among (label_at insts at) (merge_labels i)) (inst_there insts old from end o) ∙ merge_alone o.inst (label_at insts at) is
          ∙ differ merge (label_at insts at) (λ same. other (once at join label at_join.is_label (sym same ∙ sym at_join.own)))

  -- the merge block, before the merge instruction
  pub before_merge : (place : ℕ) → place < o.place → names insts place merge ≡ false
  before_merge place less = elim (cases_lt place from) [
    | inl outside ↦ (let e = o.place_is in ap (names insts place) (sym at_join.own) ∙ p.entered place join (inl outside) (omega (arith, e, low)) high at_join.is_label)
    | inr least ↦ silent_names insts place merge (front_silent insts old from end o place least less)
  ]

  -- in a part before it
  pub part_before : {S : Scope} {wanted past : Option ℕ} {first last : ℕ} → Sequence insts S wanted first last past → ((label : ℕ) → MayLeaveTo S past label → (label ≡ merge) ⊎ MayLeaveTo old next label) → (at : ℕ) → o.place < at → last ≤ at → at < to
      → is_label_at insts at ≡ true → (at ≡ join → ⊥) → (place : ℕ) → first ≤ place → place < last → names insts place (label_at insts at) ≡ false
  part_before {S} {wanted} {past} {first} {last} s exits at behind past_it before label other place least less = refuted (names insts place (label_at insts at)) (λ named. elim (names_in insts s place (label_at insts at) least less named) [
    | inl there ↦ (let e = once there.at at there.stands.is_label label there.stands.own in let h = there.high in omega (arith, e, h, past_it))
    | inr may ↦ elim (exits (label_at insts at) may) [
      | inl same ↦ other (once at join label at_join.is_label (same ∙ sym at_join.own))
      | inr out ↦ (let e = o.place_is in p.left (label_at insts at) out at (omega (arith, e, behind)) before label refl)
    ]
  ])
