-- Where the OpSelectionMerge of a selection doesn't stay, one instruction is left before its merge block that leads there.
use Rattle.std.proofs.Common.{◌≡◌, ℕ, ◌+◌, ◌<◌, ◌≤◌, inl, inr, Bool, true, false, ◌==◌, List, length, slice_index, ap, sym, ◌∙◌, subst, arith, None, Some}
use Rattle.std.proofs.lemmas.Bool.{cases_lt}
use Rattle.spirv_model.specs.declared.module.Inst.{Inst}
use Rattle.spirv_model.specs.declared.op.TheConstants as op
use Rattle.spirv_model.specs.Operands.{word_at}
use Rattle.body_model.specs.declared.block_end.BlockEnd.{BlockEnd}
use Rattle.body_model.specs.declared.block_end.BlockEnd.TheVariants as way
use Rattle.body_model.specs.Scope.{Scope, arm}
use Rattle.body_model.specs.Grammar.{Arm, straight, through, Derives}
use Rattle.body_model.proofs.Forward.{sound_at, forward, arm_forward}
use Rattle.valid_model.specs.Definitions.{inst_at}
use Rattle.check_model.specs.Intervals.{inside}
use Rattle.stage_model.proofs.CodeRuns.{due_of}
use Rattle.stage_model.proofs.WholeBlocks.{block_at as whole_block}
use Rattle.change_model.specs.declared.fate.Fate.TheVariants as fate
use Rattle.change_model.specs.Plans.{is_dead, leads_from}
use Rattle.change_model.proofs.ArmEntries.{true_begins, false_begins}
use Rattle.change_model.proofs.BlockEntries.{Begins, SelectionTo, outside}
use Rattle.change_model.proofs.BranchEnds.{leads_last, at_end}
use Rattle.change_model.proofs.ConditionNames.{target_names}
use Rattle.change_model.proofs.FoundDead.{none_named, goes_label}
use Rattle.change_model.proofs.FoundGoes.{still_leads}
use Rattle.change_model.proofs.FoundLabels.{all_dead}
use Rattle.change_model.proofs.FoundMerges.{no_way_in, part_alive, branch_target}
use Rattle.change_model.proofs.FoundPhis.{block_life}
use Rattle.change_model.proofs.FoundPlans.{Found}
use Rattle.change_model.proofs.LeftBlockNames.{inner_isnt, front_inner, inst_there}
use Rattle.change_model.proofs.LeftEnds.{way as way_of}
use Rattle.change_model.proofs.LeftFates.{inners}
use Rattle.change_model.proofs.LeftFronts.{OldBlock, old_block}
use Rattle.change_model.proofs.LeftHeadWays.{SelectsWay, head_way}
use Rattle.change_model.proofs.LeftPlaced.{IsArmPlaced, placed_true, placed_false, due_label}
use Rattle.change_model.proofs.LeftPlacedWhole.{labels_once}
use Rattle.change_model.proofs.LeftQuiet.{NoWay, unnamed_inside}
use Rattle.change_model.proofs.LeftScopes.{is_label_at, label_at, StandsNot}
use Rattle.change_model.proofs.LeftTargets.{Stands, due_stands}

clash : {Q : Type 0} (b : Bool) → b ≡ true → b ≡ false → Q
clash true is isnt = cc
clash false is isnt = cc

-- the last part of a block is dead where the block's label is
pub block_dead : (f : Found) (scope : Scope) (from : ℕ) (end : BlockEnd) (o : OldBlock f.words.insts scope from end) → f.valid.derivation.before + 1 ≤ from → o.place < f.valid.derivation.after → o.inst.op == op.LABEL ≡ false
    → is_dead (f.plan.fate o.place) ≡ is_dead (f.plan.fate from)
block_dead f scope from end o low high isnt = let e = o.place_is in block_life f from o.place (omega (arith, e)) low high no_label
  where
    no_label : (at : ℕ) → from < at → at ≤ o.place → is_label_at f.words.insts at ≡ false
    no_label at less most = elim (cases_lt at o.place) [
      | inl before ↦ inner_isnt (inst_at f.words.insts at).op op.LABEL (front_inner f.words.insts scope from end o at less before) inners.label
      | inr least ↦ (let same : at ≡ o.place = omega (arith, most, least) in ap (is_label_at f.words.insts) same ∙ ap (λ (i : Inst). i.op == op.LABEL) (inst_there f.words.insts scope from end o) ∙ isnt)
    ]

-- an arm from which something still leads to a label that stands outside
record ArmLeads (f : Found) (low high from : ℕ) : Type 0 where
  last : from + 1 ≡ high
  some : low < high
  label : is_label_at f.words.insts low ≡ true
  alive : is_dead (f.plan.fate low) ≡ false

arm_leads : (f : Found) {scope : Scope} {merge target low high : ℕ} (a : Arm f.words.insts scope merge target low high) → IsArmPlaced f.words.insts f.valid.derivation a → (label : ℕ) → NoWay scope label → StandsNot f.words.insts low high label
    → (from : ℕ) → low ≤ from → from < high → leads_from f.plan f.words.insts label from ≡ true → ArmLeads f low high from
arm_leads f (straight is none) p label n stands from least less leads = absurd (omega (arith, none, least, less))
arm_leads f {scope} {merge} {target} {low} {high} (through isnt sequence) p label n stands from least less leads = record {
  last = at_end f.words.insts label sequence (none_named f.words.insts label (inside sequence) (unnamed_inside f.words.insts label sequence (record { leave = n.leave; exits = n.exits }) stands)) stands from least less (still_leads f from label leads);
  some = omega (arith, least, less);
  label = due_label f.words.insts (Some target) low (due_of sequence);
  alive = part_alive f (arm scope merge) None low high (inside sequence) p from label least less leads;
}

module _ (f : Found) (place : ℕ) (s : SelectionTo f.words.insts f.valid.derivation place) where
  abbrev insts : List Inst
  insts = f.words.insts

  abbrev d : Derives f.words.insts
  d = f.valid.derivation

  abbrev block : OldBlock insts s.scope s.from (way.Selects s.head)
  block = old_block insts s.scope s.wanted s.from (way.Selects s.head) s.here s.is tt

  abbrev block_way : SelectsWay s.scope block.inst block.behind block.place s.head
  block_way = head_way s.scope (slice_index block.label.words 0) block.inst block.behind block.place (way.Selects s.head) (way_of s.scope (slice_index block.label.words 0) block.inst block.behind block.place (way.Selects s.head) block.ends tt)

  record Order : Type 0 where
    low : d.before + 1 ≤ s.from
    block_low : s.from < block.place
    after : s.head.after ≡ block.place + 2
    fits : s.head.after ≤ length insts
    on_true : s.head.after ≤ s.second
    on_false : s.second ≤ place
    rest : place < s.to
    high : s.to ≤ d.after

  order : Order
  order =
      let e = block.place_is in
      record {
        low = s.placed.low;
        block_low = omega (arith, e);
        after = block_way.after;
        fits = (sound_at insts s.scope s.from (way.Selects s.head) s.is).0.within;
        on_true = arm_forward insts s.on_true;
        on_false = arm_forward insts s.on_false;
        rest = (forward insts s.rest).forward;
        high = s.placed.high;
      }

  abbrev pub selection_place : ℕ
  selection_place = block.place

  pub selection_op : (inst_at insts selection_place).op ≡ op.SELECTION_MERGE
  selection_op = ap (λ (i : Inst). i.op) (inst_there insts s.scope s.from (way.Selects s.head) block) ∙ block_way.is

  stands : Stands insts s.head.merge place
  stands = due_stands insts s.head.merge place (due_of s.rest)

  pub selection_merge : word_at 0 (inst_at insts selection_place) ≡ label_at insts place
  selection_merge = ap (λ (i : Inst). word_at 0 i) (inst_there insts s.scope s.from (way.Selects s.head) block) ∙ sym block_way.merge ∙ sym stands.own

  pub selection_low : d.before < selection_place
  selection_low = let o = order in let l = o.low in let b = o.block_low in omega (arith, l, b)

  pub selection_before : selection_place < place
  selection_before = let o = order in let a = o.after in let p = o.on_true in let q = o.on_false in omega (arith, a, p, q)

  -- where it is dead the merge block is
  pub selection_dead : is_dead (f.plan.fate selection_place) ≡ true → is_dead (f.plan.fate place) ≡ true
  selection_dead dead =
      let o = order in
      let l = o.low in
      let b = o.block_low in
      let a = o.after in
      let p = o.on_true in
      let q = o.on_false in
      let r = o.rest in
      let h = o.high in
      all_dead f s.from s.to l h (λ outer at before behind within is. s.placed.entered outer at (inl before) behind within is)
      (sym (block_dead f s.scope s.from (way.Selects s.head) block l (omega (arith, a, p, q, r, h)) (ap (λ (n : ℕ). n == op.LABEL) block_way.is)) ∙ dead) place (omega (arith, b, a, p, q)) r

  -- ---- its branch goes to one label

  module _ (to : ℕ) (goes_there : f.plan.fate (selection_place + 1) ≡ fate.Goes to) where
    -- how control comes to the merge block, by where that label stands
    data Comes (from : ℕ) : Type 0 where
      at_branch : from + 1 ≡ s.head.after → Stands insts to place → Comes from
      in_true : from + 1 ≡ s.second → s.head.after < s.second → Stands insts to s.head.after → Comes from
      in_false : from + 1 ≡ place → s.second < place → Stands insts to s.second → Comes from

    same_place : (a b : ℕ) → Stands insts to a → Stands insts to b → a ≡ b
    same_place a b first second = labels_once f.words f.valid a b first.is_label second.is_label (first.own ∙ sym second.own)

    not_in : (low high : ℕ) → high ≤ place → StandsNot insts low high (label_at insts place)
    not_in low high most at least less is own = let e = labels_once f.words f.valid at place is stands.is_label own in omega (arith, e, less, most)

    target : (low : ℕ) → (is_label_at insts low ≡ true → Begins insts s.head.after low) → s.head.after ≤ low → low < place → is_label_at insts low ≡ true → is_dead (f.plan.fate low) ≡ false → Stands insts to low
    target low begins least less label alive =
        let o = order in
        let l = o.low in
        let b = o.block_low in
        let a = o.after in
        let r = o.rest in
        let h = o.high in
        record {
          is_label = label;
          own = sym (branch_target f (selection_place + 1) low to (subst (λ (n : ℕ). Begins insts n low) (omega (arith, a)) (begins label)) (omega (arith, l, b, a, least)) (omega (arith, less, r, h)) label alive goes_there);
        }

    comes : (from : ℕ) → from < place → leads_from f.plan insts (label_at insts place) from ≡ true → Comes from
    comes from less leads =
        let o = order in
        let b = o.block_low in
        let a = o.after in
        let p = o.on_true in
        let q = o.on_false in
        let r = o.rest in
        let once = labels_once f.words f.valid in
        let named = still_leads f from (label_at insts place) leads in
        let here : s.from < place = omega (arith, b, a, p, q) in
        let n = no_way_in insts d s.scope s.next s.from s.to _ s.placed place (omega (arith, here)) r stands.is_label in
        elim (cases_lt from s.from) [
          | inl early ↦ outside insts once d s.scope s.next s.from s.to _ s.placed place here r stands.is_label from early (target_names insts from (label_at insts place) named)
          | inr low ↦ elim (cases_lt from s.head.after) [
            | inl first ↦
                let last : from + 1 ≡ s.head.after = leads_last insts s.scope s.from (way.Selects s.head) (whole_block insts s.scope s.wanted s.from (way.Selects s.head) s.here s.is tt) o.fits from (label_at insts place) low first named in
                let there : from ≡ selection_place + 1 = omega (arith, last, a) in
                at_branch last (record { is_label = stands.is_label; own = sym (goes_label f.plan insts (label_at insts place) to from (ap f.plan.fate there ∙ goes_there) leads) })
            | inr late ↦ elim (cases_lt from s.second) [
              | inl in_first ↦
                  let w = arm_leads f s.on_true (placed_true insts once d s.scope s.wanted s.next s.from s.to s.head s.second place s.here s.is s.on_true s.on_false s.rest s.placed) (label_at insts place) n (not_in s.head.after s.second q) from late in_first leads in
                  let some = w.some in
                  in_true w.last some (target s.head.after (λ label. true_begins insts once d place s label some) (omega arith) (omega (arith, some, q)) w.label w.alive)
              | inr past ↦
                  let w = arm_leads f s.on_false (placed_false insts once d s.scope s.wanted s.next s.from s.to s.head s.second place s.here s.is s.on_true s.on_false s.rest s.placed) (label_at insts place) n (not_in s.second place (omega arith)) from past less leads in
                  let some = w.some in
                  in_false w.last some (target s.second (λ label. false_begins insts once d place s label some) p some w.label w.alive)
            ]
          ]
        ]

    one_of : (a b : ℕ) → Comes a → Comes b → a ≡ b
    one_of a b (at_branch first s') (at_branch second t) = omega (arith, first, second)
    one_of a b (in_true first some s') (in_true second also t) = omega (arith, first, second)
    one_of a b (in_false first some s') (in_false second also t) = omega (arith, first, second)
    one_of a b (at_branch first s') (in_true second some t) = let e = same_place place s.head.after s' t in let q = arm_forward insts s.on_false in absurd (omega (arith, e, some, q))
    one_of a b (in_true first some s') (at_branch second t) = let e = same_place s.head.after place s' t in let q = arm_forward insts s.on_false in absurd (omega (arith, e, some, q))
    one_of a b (at_branch first s') (in_false second some t) = let e = same_place place s.second s' t in absurd (omega (arith, e, some))
    one_of a b (in_false first some s') (at_branch second t) = let e = same_place s.second place s' t in absurd (omega (arith, e, some))
    one_of a b (in_true first some s') (in_false second also t) = let e = same_place s.head.after s.second s' t in absurd (omega (arith, e, some))
    one_of a b (in_false first some s') (in_true second also t) = let e = same_place s.second s.head.after s' t in absurd (omega (arith, e, also))

    pub selection_one : (a b : ℕ) → a < place → b < place → leads_from f.plan insts (label_at insts place) a ≡ true → leads_from f.plan insts (label_at insts place) b ≡ true → a ≡ b
    selection_one a b first second leads also = one_of a b (comes a first leads) (comes b second also)
