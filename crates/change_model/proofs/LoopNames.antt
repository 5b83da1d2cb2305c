-- Each label that an instruction names stands later, or is that of the header of a loop around it; of such a loop no label but that of its
-- header is named before it.
use Rattle.std.proofs.Common.{◌≡◌, ℕ, ◌+◌, ◌<◌, ◌≤◌, inl, inr, Bool, true, false, ◌==◌, List, ◌++◌, refl, ◌∙◌, subst, arith, Option, None, Some}
use Rattle.std.proofs.lemmas.Bool.{cases_lt, eqb-true}
use Rattle.spirv_model.specs.declared.module.Inst.{Inst}
use Rattle.spirv_model.specs.declared.module.Words.{Words}
use Rattle.spirv_model.specs.declared.op.TheConstants as op
use Rattle.body_model.specs.declared.block_end.BlockEnd.{BlockEnd}
use Rattle.body_model.specs.declared.block_end.BlockEnd.TheVariants as way
use Rattle.body_model.specs.declared.block_end.LoopHead.{LoopHead}
use Rattle.body_model.specs.Blocks.{block_end}
use Rattle.body_model.specs.Due.{IsDue}
use Rattle.body_model.specs.Scope.{Scope, main, behind_loop, arm, switch_arm, condition, body, continuing}
use Rattle.body_model.specs.Switches.{is_among, without, labels_of}
use Rattle.body_model.specs.Targets.{MayLeaveTo}
use Rattle.body_model.specs.Grammar.{Sequence, ends, goes_on, selects, picks, loops, Arm, straight, through, Arms, no_arm, arm_behind, Derives}
use Rattle.body_model.proofs.Forward.{sound_at, forward, arm_forward, arms_forward}
use Rattle.body_model.proofs.Shapes.{IsWhole, after_of}
use Rattle.valid_model.specs.Definitions.{inst_at}
use Rattle.check_model.specs.Intervals.{around, inside}
use Rattle.check_model.specs.Validity.{IsValidList}
use Rattle.stage_model.proofs.CodeRuns.{due_of, one_name, other_name, stands_as, at_behind, among_arms}
use Rattle.stage_model.proofs.Exits.{arm_exit, switch_exit, condition_exit, body_exit, continue_exit}
use Rattle.stage_model.proofs.StageRuns.{nowhere}
use Rattle.change_model.proofs.ConditionNames.{HasLoop, loop_place}
use Rattle.change_model.proofs.LeftBlockNames.{StandsIn, stands_due, stands_wider}
use Rattle.change_model.proofs.LeftCuts.{LabelsOnce}
use Rattle.change_model.proofs.LeftFronts.{old_block}
use Rattle.change_model.proofs.LeftLeaves.{block_names}
use Rattle.change_model.proofs.LeftMerges.{arms_first, switched}
use Rattle.change_model.proofs.LeftPlaced.{IsArmPlaced}
use Rattle.change_model.proofs.LeftPlaced as placed
use Rattle.change_model.proofs.LeftPlacedArms.{AreArmsPlaced}
use Rattle.change_model.proofs.LeftPlacedArms as placed_switch
use Rattle.change_model.proofs.LeftPlacedLoops as placed_loop
use Rattle.change_model.proofs.LeftPlacedWhole.{labels_once, placed_whole}
use Rattle.change_model.proofs.LeftScopes.{is_label_at, label_at, names, Placed}
use Rattle.change_model.proofs.LeftTargets.{Stands}

-- ---- loops

-- no label of the loop at the places but that of its header is named before it
pub record Construct (insts : List Inst) (d : Derives insts) (header past : ℕ) : Type 0 where
  pub low : d.before + 1 ≤ header
  pub high : past ≤ d.after
  pub entered : (place at : ℕ) → place < header → header < at → at < past → is_label_at insts at ≡ true → names insts place (label_at insts at) ≡ false

-- the loop whose OpLoopMerge stands at a place
pub record LoopAt (insts : List Inst) (d : Derives insts) (place : ℕ) : Type 0 where
  pub scope : Scope
  pub wanted : Option ℕ
  pub next : Option ℕ
  pub from : ℕ
  pub to : ℕ
  pub head : LoopHead
  pub inner : ℕ
  pub first : ℕ
  pub second : ℕ
  pub third : ℕ
  pub here : IsDue insts wanted from
  pub is : block_end insts scope from ≡ way.Loops head
  pub tested : Sequence insts (condition scope head.merge) (Some head.test) head.after first (Some inner)
  pub within : Sequence insts (body scope head.merge head.next) (Some inner) first second None
  pub step : Sequence insts (continuing scope head.header) (Some head.next) second third None
  pub rest : Sequence insts (behind_loop scope) (Some head.merge) third to next
  pub placed : Placed insts d scope next from to (around head.after first (inside tested) ++ (around first second (inside within) ++ (around second third (inside step) ++ inside rest)))
  pub at : place ≡ (old_block insts scope wanted from (way.Loops head) here is tt).place

-- the label is that of the header of a loop whose continue sequence has the places
pub record BackTo (insts : List Inst) (d : Derives insts) (from to label : ℕ) : Type 0 where
  pub header : ℕ
  pub past : ℕ
  pub stands : Stands insts label header
  pub before : header < from
  pub within : to ≤ past
  pub construct : Construct insts d header past
  pub place : ℕ
  pub loop : LoopAt insts d place
  pub own : loop.from ≡ header
  pub step : loop.second ≤ from
  pub end : loop.third ≡ past

-- the label stands behind the places, or is that of the header of a loop around them
pub data Beyond (insts : List Inst) (d : Derives insts) (from to label : ℕ) : Type 0 where
  ahead : StandsIn insts to d.after label → Beyond insts d from to label
  back : BackTo insts d from to label → Beyond insts d from to label

nearer : (insts : List Inst) (d : Derives insts) (from to low high label : ℕ) → from ≤ low → high ≤ to → Beyond insts d from to label → Beyond insts d low high label
nearer insts d from to low high label down up (ahead s) = ahead (stands_wider insts to d.after high d.after label up (omega arith) s)
nearer insts d from to low high label down up (back b) =
    back (record { header = b.header; past = b.past; stands = b.stands; before = let l = b.before in omega (arith, l, down); within = let h = b.within in omega (arith, h, up); construct = b.construct; place = b.place; loop = b.loop; own = b.own; step = let l = b.step in omega (arith, l, down); end = b.end })

-- where a sequence may be left to
abbrev Exits : (insts : List Inst) → Derives insts → Scope → Option ℕ → ℕ → ℕ → Type 0
Exits insts d scope next from to = (label : ℕ) → MayLeaveTo scope next label → Beyond insts d from to label

-- what is known of the instruction at a place: what it names, and the loop whose merge instruction it is
pub record Known (insts : List Inst) (d : Derives insts) (place : ℕ) : Type 0 where
  pub named : (label : ℕ) → names insts place label ≡ true → Beyond insts d place (place + 1) label
  pub loop : (inst_at insts place).op ≡ op.LOOP_MERGE → LoopAt insts d place

test_label : {Q : Type 0} (b : Bool) → (b ≡ true → Q) → (b ≡ false → Q) → Q
test_label true f g = f refl
test_label false f g = g refl

module _ (insts : List Inst) (once : LabelsOnce insts) (d : Derives insts) where
  abbrev Reached : Scope → Option ℕ → ℕ → ℕ → Type 0
  Reached scope next from to = (place : ℕ) → from ≤ place → place < to → Known insts d place

  -- a block that is no header of a loop
  no_loop : (scope : Scope) (wanted : Option ℕ) (from : ℕ) (end : BlockEnd) → IsDue insts wanted from → block_end insts scope from ≡ end → IsWhole end → (HasLoop end → ⊥) → (place : ℕ) → from ≤ place → place < after_of end
      → (inst_at insts place).op ≡ op.LOOP_MERGE → LoopAt insts d place
  no_loop scope wanted from end here is whole none place low high merge = absurd (none (loop_place insts scope None from 0 end (old_block insts scope wanted from end here is whole) whole place low high merge).0)

  due_ahead : (place at label known : ℕ) → place < at → at < d.after → label ≡ known → IsDue insts (Some known) at → Beyond insts d place (place + 1) label
  due_ahead place at label known less within same due = ahead (stands_due insts (place + 1) d.after label known at (omega (arith, less)) within same due)

  exit_due : (from to at label known : ℕ) → to ≤ at → at < d.after → label ≡ known → IsDue insts (Some known) at → Beyond insts d from to label
  exit_due from to at label known less within same due = ahead (stands_due insts to d.after label known at less within same due)

  arm_exits : (scope : Scope) (merge : ℕ) (next : Option ℕ) (from to low high join : ℕ) → from ≤ low → high ≤ join → high ≤ to → join < d.after → IsDue insts (Some merge) join → Exits insts d scope next from to → Exits insts d (arm scope merge) None low high
  arm_exits scope merge next from to low high join down up most within due exits label may = test_label (label == merge)
      (λ same. exit_due low high join label merge up within (eqb-true label merge same) due)
      (λ differs. nearer insts d from to low high label down most (exits label (arm_exit scope merge next label may differs)))

  switch_exits : (scope : Scope) (merge : ℕ) (others : List ℕ) (next : Option ℕ) (from to low high join : ℕ) → from ≤ low → high ≤ join → high ≤ to → join < d.after → IsDue insts (Some merge) join → Exits insts d scope next from to
      → Exits insts d (switch_arm scope merge others) None low high
  switch_exits scope merge others next from to low high join down up most within due exits label may = test_label (label == merge)
      (λ same. exit_due low high join label merge up within (eqb-true label merge same) due)
      (λ differs. nearer insts d from to low high label down most (exits label (switch_exit scope merge others next label may differs)))

  later_exits : (scope : Scope) (next : Option ℕ) (from to low : ℕ) → from ≤ low → Exits insts d scope next from to → Exits insts d scope next low to
  later_exits scope next from to low down exits label may = nearer insts d from to low to label down (omega arith) (exits label may)

  -- the first block of an arm, or the merge block
  arm_ahead : {scope : Scope} {merge target from to : ℕ} (place label : ℕ) → label ≡ target → place < from → to < d.after → (label ≡ merge → Beyond insts d place (place + 1) label) → Arm insts scope merge target from to → Beyond insts d place (place + 1) label
  arm_ahead place label same less within merges (straight is none) = merges (same ∙ is)
  arm_ahead {target = target} {from = from} place label same less within merges (through isnt sequence) =
      let g = (forward insts sequence).forward in
      due_ahead place from label target less (omega (arith, g, within)) same (due_of sequence)

  mutual
    pub known_at : {scope : Scope} {wanted next : Option ℕ} {from to : ℕ} (s : Sequence insts scope wanted from to next) → Placed insts d scope next from to (inside s) → Exits insts d scope next from to → Reached scope next from to
    known_at {scope} {wanted} {next} {from} {to} (ends last here is label_is place_is) p exits place low high =
        let w = (sound_at insts scope from (way.Ends last) is).0.within in
        record {
          loop = no_loop scope wanted from (way.Ends last) here is tt (λ none. none) place low (omega (arith, high, place_is));
          named = λ label named. block_names {Q = λ label. Beyond insts d place (place + 1) label} insts scope wanted from (way.Ends last) here is tt w
              (λ b label among. nearer insts d from to place (place + 1) label low (omega (arith, high)) (exits label (subst (λ (n : Option ℕ). MayLeaveTo scope n label) label_is (b.ends label among))))
              (λ label none. absurd none) place label low (omega (arith, high, place_is)) named;
        }
    known_at {scope} {wanted} {next} {from} {to} (goes_on after here is rest) p exits place low high = elim (cases_lt place after) [
      | inl early ↦ record {
        loop = no_loop scope wanted from (way.GoesOn after) here is tt (λ none. none) place low early;
        named = λ label named. (
            let f = sound_at insts scope from (way.GoesOn after) is in
            let g = (forward insts rest).forward in
            let h = p.high in
            block_names {Q = λ label. Beyond insts d place (place + 1) label} insts scope wanted from (way.GoesOn after) here is tt f.within
            (λ b label among. due_ahead place after label b.ends.0 early (omega (arith, g, h)) (one_name label b.ends.0 _ b.ends.1 among)
            (stands_as insts None b.ends.0 after b.behind (at_behind insts scope from (way.GoesOn after) b) b.ends.2 (due_of rest)))
            (λ label none. absurd none) place label low early named);
      }
      | inr late ↦
          let f = (sound_at insts scope from (way.GoesOn after) is).forward in
          known_at rest (placed.placed_next insts once d scope wanted next from to after here is rest p) (later_exits scope next from to after (omega (arith, f)) exits) place late high
    ]
    known_at {scope} {wanted} {next} {from} {to} (selects head second join here is on_true on_false rest) p exits place low high =
        let f = (sound_at insts scope from (way.Selects head) is).0 in
        let f' = f.forward in
        let a = arm_forward insts on_true in
        let b = arm_forward insts on_false in
        let g = (forward insts rest).forward in
        let h = p.high in
        let merges : (label : ℕ) → place < join → label ≡ head.merge → Beyond insts d place (place + 1) label = λ label less same. due_ahead place join label head.merge less (omega (arith, g, h)) same (due_of rest) in
        elim (cases_lt place head.after) [
          | inl early ↦ record {
            loop = no_loop scope wanted from (way.Selects head) here is tt (λ none. none) place low early;
            named = λ label named. (
                let in_true : (label : ℕ) → label ≡ head.on_true → Beyond insts d place (place + 1) label =
                λ label same. arm_ahead place label same early (omega (arith, b, g, h)) (λ is_merge. merges label (omega (arith, early, a, b)) is_merge) on_true in
                let in_false : (label : ℕ) → label ≡ head.on_false → Beyond insts d place (place + 1) label =
                λ label same. arm_ahead place label same (omega (arith, early, a)) (omega (arith, g, h)) (λ is_merge. merges label (omega (arith, early, a, b)) is_merge) on_false in
                block_names {Q = λ label. Beyond insts d place (place + 1) label} insts scope wanted from (way.Selects head) here is tt f.within
                (λ block label among. test_label (label == head.on_true) (λ same. in_true label (eqb-true label head.on_true same)) (λ differs. in_false label (other_name label head.on_true head.on_false _ block.ends among differs)))
                (λ label merged. elim merged [ inl same ↦ merges label (omega (arith, early, a, b)) same | inr (inl same) ↦ in_true label same | inr (inr same) ↦ in_false label same ]) place label low early named);
          }
          | inr late ↦ elim (cases_lt place second) [
            | inl first ↦ arm_known on_true (placed.placed_true insts once d scope wanted next from to head second join here is on_true on_false rest p)
                (arm_exits scope head.merge next from to head.after second join (omega (arith, f')) b (omega (arith, b, g)) (omega (arith, g, h)) (due_of rest) exits) place late first
            | inr past ↦ elim (cases_lt place join) [
              | inl other ↦ arm_known on_false (placed.placed_false insts once d scope wanted next from to head second join here is on_true on_false rest p)
                  (arm_exits scope head.merge next from to second join join (omega (arith, f', a)) (omega arith) (omega (arith, g)) (omega (arith, g, h)) (due_of rest) exits) place past other
              | inr beyond ↦ known_at rest (placed.placed_merge insts once d scope wanted next from to head second join here is on_true on_false rest p)
                  (later_exits scope next from to join (omega (arith, f', a, b)) exits) place beyond high
            ]
          ]
        ]
    known_at {scope} {wanted} {next} {from} {to} (picks head join here is arms rest) p exits place low high =
        let f = (sound_at insts scope from (way.Picks head) is).0 in
        let f' = f.forward in
        let a = arms_forward insts arms in
        let g = (forward insts rest).forward in
        let h = p.high in
        let merges : (label : ℕ) → place < join → label ≡ head.merge → Beyond insts d place (place + 1) label = λ label less same. due_ahead place join label head.merge less (omega (arith, g, h)) same (due_of rest) in
        elim (cases_lt place head.after) [
          | inl early ↦ record {
            loop = no_loop scope wanted from (way.Picks head) here is tt (λ none. none) place low early;
            named = λ label named. (
                let in_arm : (label : ℕ) → is_among label (labels_of insts head) ≡ true → Beyond insts d place (place + 1) label =
                λ label among. ahead (stands_wider insts head.after join (place + 1) d.after label (omega (arith, early)) (omega (arith, g, h)) (arms_first insts arms label among refl)) in
                block_names {Q = λ label. Beyond insts d place (place + 1) label} insts scope wanted from (way.Picks head) here is tt f.within
                (λ block label among. test_label (label == head.merge) (λ same. merges label (omega (arith, early, a)) (eqb-true label head.merge same)) (λ differs. in_arm label (among_arms insts scope from head block label among differs)))
                (λ label merged. elim merged [
                  | inl same ↦ merges label (omega (arith, early, a)) same
                  | inr branch ↦ elim (switched insts scope wanted from head here is label branch.0 branch.1) [ inl same ↦ merges label (omega (arith, early, a)) same | inr among ↦ in_arm label among ]
                ]) place label low early named);
          }
          | inr late ↦ elim (cases_lt place join) [
            | inl within ↦ arms_known head.after arms (placed_switch.placed_arms insts once d scope wanted next from to head join here is arms rest p) next from to join (omega (arith, f')) (omega arith) (omega (arith, g)) (omega (arith, g, h)) (due_of rest)
                exits place late within
            | inr beyond ↦ known_at rest (placed_switch.placed_join insts once d scope wanted next from to head join here is arms rest p) (later_exits scope next from to join (omega (arith, f', a)) exits) place beyond high
          ]
        ]
    known_at {scope} {wanted} {next} {from} {to} (loops head inner first second third here is tested within step rest) p exits place low high =
        let f = (sound_at insts scope from (way.Loops head) is).0 in
        let f' = f.forward in
        let t = (forward insts tested).forward in
        let q = (forward insts within).forward in
        let r = (forward insts step).forward in
        let g = (forward insts rest).forward in
        let h = p.high in
        let here_at : (n : ℕ) → n ≡ (old_block insts scope wanted from (way.Loops head) here is tt).place → LoopAt insts d n = λ n at. record {
          scope = scope;
          wanted = wanted;
          next = next;
          from = from;
          to = to;
          head = head;
          inner = inner;
          first = first;
          second = second;
          third = third;
          here = here;
          is = is;
          tested = tested;
          within = within;
          step = step;
          rest = rest;
          placed = p;
          at = at;
        } in
        let merge_exit : (low high label : ℕ) → high ≤ third → label ≡ head.merge → Beyond insts d low high label = λ low high label most same. exit_due low high third label head.merge most (omega (arith, g, h)) same (due_of rest) in
        elim (cases_lt place head.after) [
          | inl early ↦ record {
            loop = λ merge. here_at place (loop_place insts scope None from 0 (way.Loops head) (old_block insts scope wanted from (way.Loops head) here is tt) tt place low early merge).1;
            named = λ label named. block_names {Q = λ label. Beyond insts d place (place + 1) label} insts scope wanted from (way.Loops head) here is tt f.within
                (λ b label among. due_ahead place head.after label head.test early (omega (arith, t, q, r, g, h)) (one_name label head.test _ b.ends.0 among) (due_of tested))
                (λ label merged. elim merged [
                  | inl same ↦ merge_exit place (place + 1) label (omega (arith, early, t, q, r)) same
                  | inr same ↦ due_ahead place second label head.next (omega (arith, early, t, q)) (omega (arith, r, g, h)) same (due_of step)
                ]) place label low early named;
          }
          | inr late ↦ elim (cases_lt place first) [
            | inl one ↦ known_at tested (placed_loop.placed_test insts once d scope wanted next from to head inner first second third here is tested within step rest p)
                (λ label may. test_label (label == head.merge) (λ same. merge_exit head.after first label (omega (arith, q, r)) (eqb-true label head.merge same))
                (λ differs. exit_due head.after first first label inner (omega arith) (omega (arith, q, r, g, h)) (condition_exit scope head.merge inner label may differs) (due_of within))) place late one
            | inr past ↦ elim (cases_lt place second) [
              | inl two ↦ known_at within (placed_loop.placed_body insts once d scope wanted next from to head inner first second third here is tested within step rest p)
                  (λ label may. test_label (label == head.merge) (λ same. merge_exit first second label (omega (arith, r)) (eqb-true label head.merge same))
                  (λ differs. exit_due first second second label head.next (omega arith) (omega (arith, r, g, h)) (body_exit scope head.merge head.next label may differs) (due_of step))) place past two
              | inr further ↦ elim (cases_lt place third) [
                | inl three ↦ known_at step (placed_loop.placed_step insts once d scope wanted next from to head inner first second third here is tested within step rest p)
                    (λ label may. back (record {
                      header = from;
                      past = third;
                      stands = placed_loop.header_stands insts once d scope wanted next from to head inner first second third here is tested within step rest label (continue_exit scope head.header label may);
                      before = omega (arith, f', t, q);
                      within = omega arith;
                      construct = record {
                        low = p.low;
                        high = omega (arith, g, h);
                        entered = λ place at less behind before label_is. p.entered place at (inl less) behind (omega (arith, before, g)) label_is;
                      };
                      place = (old_block insts scope wanted from (way.Loops head) here is tt).place;
                      loop = here_at (old_block insts scope wanted from (way.Loops head) here is tt).place refl;
                      own = refl;
                      step = omega arith;
                      end = refl;
                    })) place further three
                | inr beyond ↦ known_at rest (placed_loop.placed_behind insts once d scope wanted next from to head inner first second third here is tested within step rest p)
                    (later_exits scope next from to third (omega (arith, f', t, q, r)) exits) place beyond high
              ]
            ]
          ]
        ]

    arm_known : {scope : Scope} {merge target from to : ℕ} (a : Arm insts scope merge target from to) → IsArmPlaced insts d a → Exits insts d (arm scope merge) None from to → (place : ℕ) → from ≤ place → place < to → Known insts d place
    arm_known (straight is none) p exits place low high = absurd (omega (arith, none, low, high))
    arm_known (through isnt sequence) p exits place low high = known_at sequence p exits place low high

    arms_known : {scope : Scope} {merge : ℕ} {all due left : List ℕ} {low high : ℕ} (after : ℕ) (a : Arms insts scope merge all due low left high) → AreArmsPlaced insts d after a → (next : Option ℕ) (from to join : ℕ) → from ≤ low → high ≤ join → high ≤ to → join < d.after
        → IsDue insts (Some merge) join → Exits insts d scope next from to → (place : ℕ) → low ≤ place → place < high → Known insts d place
    arms_known after (no_arm is none) p next from to join down up most within here exits place least less = absurd (omega (arith, none, least, less))
    arms_known {scope} {merge} {all} {due} {left} {low} {high} after (arm_behind own between before arms among is sequence) p next from to join down up most within here exits place least less =
        let g = (forward insts sequence).forward in
        let b = arms_forward insts arms in
        elim (cases_lt place between) [
          | inl early ↦ arms_known after arms p.0 next from to join down (omega (arith, g, up)) (omega (arith, g, most)) within here exits place least early
          | inr late ↦ known_at sequence p.1.placed (switch_exits scope merge (without own all) next from to between high join (omega (arith, down, b)) up most within here exits) place late less
        ]

-- of a valid module
module _ (words : Words) (v : IsValidList words) where
  no_exits : Exits words.insts v.derivation main None (v.derivation.before + 1) v.derivation.after
  no_exits label may = absurd (nowhere label may)

  pub known : (place : ℕ) → v.derivation.before + 1 ≤ place → place < v.derivation.after → Known words.insts v.derivation place
  known = known_at words.insts (labels_once words v) v.derivation v.derivation.sequence (placed_whole words v) no_exits
