-- Where a phi goes, its block is the header of no loop that stays: nothing behind the phi still leads to it.
use Rattle.std.proofs.Common.{◌≡◌, ℕ, ◌+◌, ◌<◌, ◌≤◌, inl, inr, Bool, true, false, not, ◌==◌, ◌&&◌, List, length, refl, ap, sym, ◌∙◌, arith}
use Rattle.std.proofs.lemmas.Bool.{cases_lt, eq-eqb, or_parts}
use Rattle.spirv_model.specs.declared.module.Inst.{Inst}
use Rattle.spirv_model.specs.declared.op.TheConstants as op
use Rattle.spirv_model.specs.Operands.{word_at}
use Rattle.body_model.specs.declared.block_end.BlockEnd.TheVariants as way
use Rattle.valid_model.specs.Definitions.{inst_at}
use Rattle.typed_model.proofs.FunctionRuns.{function_within}
use Rattle.change_model.specs.Plans.{is_dead, leads_from, block_at}
use Rattle.change_model.specs.Passes.{is_left_loop, opens, is_header_merge, heads_loop}
use Rattle.change_model.proofs.ConditionNames.{target_names}
use Rattle.change_model.proofs.FoundDead.{step_dead}
use Rattle.change_model.proofs.FoundGoes.{still_leads, dead_names}
use Rattle.change_model.proofs.FoundPhis.{block_life, phi_block, phi_own, phi_life}
use Rattle.change_model.proofs.FoundPlans.{Found}
use Rattle.change_model.proofs.LeftBlockNames.{inner_isnt, front_inner, silent_names}
use Rattle.change_model.proofs.LeftChosen.{any_of_range}
use Rattle.change_model.proofs.LeftFates.{inners}
use Rattle.change_model.proofs.LeftFronts.{old_block}
use Rattle.change_model.proofs.LeftPhis.{block_of}
use Rattle.change_model.proofs.LeftPlaced.{due_label}
use Rattle.change_model.proofs.LeftPlacedWhole.{labels_once, outside_silent}
use Rattle.change_model.proofs.LeftScopes.{is_label_at, label_at, names}
use Rattle.change_model.proofs.LoopNames.{Beyond, ahead, back, BackTo, LoopAt, known}
use Rattle.change_model.proofs.LoopTests.{merge_op, header_before, condition_at, past_test, past_body, past_step, past_rest}

clash : {Q : Type 0} (b : Bool) → b ≡ true → b ≡ false → Q
clash true is isnt = cc
clash false is isnt = cc

refuted : (b : Bool) → (b ≡ true → ⊥) → b ≡ false
refuted true isnt = absurd (isnt refl)
refuted false isnt = refl

-- what is dead leads nowhere
pub dead_leads : (f : Found) (place label : ℕ) → is_dead (f.plan.fate place) ≡ true → leads_from f.plan f.words.insts label place ≡ false
dead_leads f place label dead = (or_parts (leads_from f.plan f.words.insts label place) _ (dead_names f place label dead)).0

-- ---- the loop of a header

module _ (f : Found) (place : ℕ) (l : LoopAt f.words.insts f.valid.derivation place) where
  abbrev insts : List Inst
  insts = f.words.insts

  within : place < f.valid.derivation.after
  within =
      let once = labels_once f.words f.valid in
      let d = f.valid.derivation in
      let c = condition_at insts once d place l in
      let t = past_test insts once d place l in
      let q = past_body insts once d place l in
      let r = past_step insts once d place l in
      let g = past_rest insts once d place l in
      let h = l.placed.high in
      omega (arith, c, t, q, r, g, h)

  no_label : (at : ℕ) → l.from < at → at ≤ place → is_label_at insts at ≡ false
  no_label at less most = elim (cases_lt at place) [
    | inl before ↦
        let e = l.at in
        inner_isnt (inst_at insts at).op op.LABEL (front_inner insts l.scope l.from (way.Loops l.head) (old_block insts l.scope l.wanted l.from (way.Loops l.head) l.here l.is tt) at less (omega (arith, e, before))) inners.label
    | inr least ↦
        let same : at ≡ place = omega (arith, most, least) in
        ap (λ (n : ℕ). (inst_at insts n).op == op.LABEL) same ∙ ap (λ (o : ℕ). o == op.LABEL) (merge_op insts (labels_once f.words f.valid) f.valid.derivation place l)
  ]

  pub header_own : block_at insts place ≡ label_at insts l.from
  header_own =
      let w = within in
      let h = header_before insts (labels_once f.words f.valid) f.valid.derivation place l in
      let s = function_within insts f.valid.derivation place w in
      block_of insts l.from place h (omega (arith, s)) (due_label insts l.wanted l.from l.here) (λ at less more. no_label at less (omega (arith, more)))

  -- a loop whose header is that of none that stays is left at once
  leaves_loop : heads_loop insts (label_at insts l.from) ≡ false → opens insts place ≡ true
  unfolding heads_loop
  leaves_loop none = by_left (is_left_loop insts (word_at 0 (inst_at insts place))) refl
    where
      is : (inst_at insts place).op == op.LOOP_MERGE ≡ true
      is = eq-eqb (inst_at insts place).op op.LOOP_MERGE (merge_op insts (labels_once f.words f.valid) f.valid.derivation place l)

      own : block_at insts place == label_at insts l.from ≡ true
      own = eq-eqb (block_at insts place) (label_at insts l.from) header_own

      all : (a b c : Bool) → a ≡ true → b ≡ true → c ≡ false → (a && b && not c) ≡ true
      all a b c first second third = rw first (rw second (rw third refl))

      both : (a b : Bool) → a ≡ true → b ≡ true → (a && b) ≡ true
      both a b first second = rw first second

      by_left : (b : Bool) → is_left_loop insts (word_at 0 (inst_at insts place)) ≡ b → opens insts place ≡ true
      by_left true left = both ((inst_at insts place).op == op.LOOP_MERGE) (is_left_loop insts (word_at 0 (inst_at insts place))) is left
      by_left false stays =
          let w = within in
          let s = function_within insts f.valid.derivation place w in
          clash (heads_loop insts (label_at insts l.from))
          (any_of_range (is_header_merge insts (label_at insts l.from)) (length insts) 0 place (omega arith) (omega (arith, s))
          (all ((inst_at insts place).op == op.LOOP_MERGE) (block_at insts place == label_at insts l.from) (is_left_loop insts (word_at 0 (inst_at insts place))) is own stays)) none

  pub header_life : is_dead (f.plan.fate place) ≡ is_dead (f.plan.fate l.from)
  header_life =
      let h = header_before insts (labels_once f.words f.valid) f.valid.derivation place l in
      let w = within in
      let b = l.placed.low in
      block_life f l.from place (omega (arith, h)) b w no_label

-- ---- what stands behind a phi

module _ (f : Found) (place : ℕ) (low : f.valid.derivation.before < place) (high : place < f.valid.derivation.after) (is : (inst_at f.words.insts place).op ≡ op.PHI) (alive : is_dead (f.plan.fate place) ≡ false)
    (none : heads_loop f.words.insts (block_at f.words.insts place) ≡ false) where
  abbrev label : ℕ
  label = block_at f.words.insts place

  abbrev first : ℕ
  first = (phi_block f place low high is).at

  from_back : (from : ℕ) → BackTo f.words.insts f.valid.derivation from (from + 1) label → is_dead (f.plan.fate from) ≡ true
  from_back from b =
      let header : b.loop.from ≡ first = b.own ∙ labels_once f.words f.valid b.header first b.stands.is_label (phi_block f place low high is).is_label (b.stands.own ∙ phi_own f place low high is) in
      let opened = leaves_loop f b.place b.loop (ap (λ (n : ℕ). heads_loop f.words.insts (label_at f.words.insts n)) header ∙ ap (heads_loop f.words.insts) (sym (phi_own f place low high is)) ∙ none) in
      let lives = header_life f b.place b.loop ∙ ap (λ (n : ℕ). is_dead (f.plan.fate n)) header ∙ sym (phi_life f place low high is) ∙ alive in
      let s = b.step in
      let w = b.within in
      let e = b.end in
      step_dead f b.place b.loop opened lives from s (omega (arith, w, e))

  by_beyond : (from : ℕ) → place ≤ from → leads_from f.plan f.words.insts label from ≡ true → Beyond f.words.insts f.valid.derivation from (from + 1) label → ⊥
  by_beyond from least leads (ahead s) =
      let p = phi_block f place low high is in
      let e = labels_once f.words f.valid s.at first s.stands.is_label p.is_label (s.stands.own ∙ phi_own f place low high is) in
      let l = s.low in
      let b = p.behind in
      omega (arith, e, l, least, b)
  by_beyond from least leads (back b) = clash (leads_from f.plan f.words.insts label from) leads (dead_leads f from label (from_back from b))

  pub none_behind : (from : ℕ) → place ≤ from → leads_from f.plan f.words.insts label from ≡ false
  none_behind from least = refuted (leads_from f.plan f.words.insts label from) (λ leads.
      let named = target_names f.words.insts from label (still_leads f from label leads) in
      elim (cases_lt from f.valid.derivation.after) [
        | inl within ↦ by_beyond from least leads ((known f.words f.valid from (omega (arith, low, least)) within).named label named)
        | inr past ↦ clash (names f.words.insts from label) named (silent_names f.words.insts from label (outside_silent f.words f.valid from (inr past)))
      ])
