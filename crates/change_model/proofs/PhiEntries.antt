-- A phi stands behind the label of a block to which one branch leads before it, or which is the merge block of a selection or an OpSwitch.
use Rattle.std.proofs.Common.{◌≡◌, ℕ, ◌+◌, ◌<◌, ◌≤◌, ◌⊎◌, inl, inr, Bool, true, false, ◌==◌, List, [], ◌∷◌, ◌++◌, length, drop, slice_index, refl, ap, sym, ◌∙◌, arith, Option, None, Some}
use Rattle.std.proofs.lemmas.Bool.{cases_lt, eq-eqb, eqb-true}
use Rattle.spirv_model.specs.declared.module.Inst.{Inst}
use Rattle.spirv_model.specs.declared.module.Words.{Words}
use Rattle.spirv_model.specs.declared.op.TheConstants as op
use Rattle.body_model.specs.declared.block_end.BlockEnd.{BlockEnd}
use Rattle.body_model.specs.declared.block_end.BlockEnd.TheVariants as way
use Rattle.body_model.specs.declared.scope.Phis.{Phis}
use Rattle.body_model.specs.declared.scope.Phis.TheVariants.{Nowhere, AtHeader}
use Rattle.body_model.specs.Blocks.{leads_to_loop, may_have_phis, rest_of_block, block_end}
use Rattle.body_model.specs.Due.{IsDue}
use Rattle.body_model.specs.Scope.{Scope}
use Rattle.body_model.specs.Grammar.{Sequence, ends, goes_on, selects, picks, loops, Arm, straight, through, Arms, no_arm, arm_behind, Derives}
use Rattle.body_model.proofs.Forward.{sound_at, forward, arm_forward, arms_forward}
use Rattle.body_model.proofs.Shapes.{IsWhole, after_of}
use Rattle.valid_model.specs.Definitions.{inst_at}
use Rattle.check_model.specs.Intervals.{inside}
use Rattle.check_model.specs.Validity.{IsValidList}
use Rattle.stage_model.proofs.CodeRuns.{due_of}
use Rattle.change_model.proofs.ArmEntries.{unmerged_by, other_due, true_begins, false_begins, arm_begins}
use Rattle.change_model.proofs.BlockEntries.{Begins, SelectionTo, SwitchTo, Entry, by_one, by_selection, by_switch, arm_unmerged, arms_unmerged, begins, unlooped}
use Rattle.change_model.proofs.LeftBlocks.{is_inner, AreInner, Thinned, none as no_more, kept, phi as phi_step, variable as variable_step, plain as plain_step, inner_step, thinned_leads}
use Rattle.change_model.proofs.LeftBlockNames.{by_merge, block_merges, first_there, front_inner, inst_there, second_there, after_most}
use Rattle.change_model.proofs.LeftCuts.{LabelsOnce}
use Rattle.change_model.proofs.LeftEnds.{Way, exits, tests_true, tests_false, returns, kills, goes, selects as selects_way, picks as picks_way, loops as loops_way, way as way_of}
use Rattle.change_model.proofs.LeftFates.{inners}
use Rattle.change_model.proofs.LeftFronts.{OldBlock, old_block, inst_is, next_is}
use Rattle.change_model.proofs.LeftPlaced.{due_label, IsArmPlaced}
use Rattle.change_model.proofs.LeftPlaced as placed
use Rattle.change_model.proofs.LeftPlacedArms.{AreArmsPlaced}
use Rattle.change_model.proofs.LeftPlacedArms as placed_switch
use Rattle.change_model.proofs.LeftPlacedLoops as placed_loop
use Rattle.change_model.proofs.LeftPlacedWhole.{labels_once, placed_whole}
use Rattle.change_model.proofs.LeftScopes.{is_label_at, label_at, Placed}

clash : {Q : Type 0} (b : Bool) → b ≡ true → b ≡ false → Q
clash true is isnt = cc
clash false is isnt = cc

other_op : {Q : Type 0} (opcode known other : ℕ) → opcode ≡ known → opcode ≡ other → known == other ≡ false → Q
other_op opcode known other is same differ = clash (known == other) (eq-eqb known other (sym is ∙ same)) differ

-- ---- where a phi stands in a block

-- a phi may stand where it does
phi_allowed : (insts : List Inst) (scope : Scope) (label : ℕ) (phis variables : Bool) (xs rest : List Inst) (from at place : ℕ) → drop from insts ≡ xs ++ rest → AreInner xs → IsWhole (rest_of_block scope label phis variables (xs ++ rest) at)
    → from ≤ place → place < from + length xs → (inst_at insts place).op ≡ op.PHI → phis ≡ true
phi_allowed insts scope label phis variables [] rest from at place here inner whole low high is = absurd (omega (arith, low, high))
phi_allowed insts scope label phis variables (x ∷ xs) rest from at place here inner whole low high is = elim (inner_step scope label phis variables x (xs ++ rest) at inner.0 whole) [
  | phi_step is_phi may more ↦ may
  | variable_step isnt is_variable may more ↦ later isnt (λ less. phi_allowed insts scope label false variables xs rest (from + 1) (at + 1) place (next_is insts from x (xs ++ rest) here) inner.1 more (omega (arith, less)) (omega (arith, high)) is) (cases_lt from place)
  | plain_step isnt also is_plain more ↦ later isnt (λ less. phi_allowed insts scope label false false xs rest (from + 1) (at + 1) place (next_is insts from x (xs ++ rest) here) inner.1 more (omega (arith, less)) (omega (arith, high)) is) (cases_lt from place)
]
  where
    never : false ≡ true → ⊥
    never same = cc

    later : x.op == op.PHI ≡ false → (from < place → false ≡ true) → (from < place) ⊎ (place ≤ from) → phis ≡ true
    later isnt further (inl less) = absurd (never (further less))
    later isnt further (inr most) =
        let same : place ≡ from = omega (arith, low, most) in
        clash (x.op == op.PHI) (eq-eqb x.op op.PHI (sym (ap (λ (n : ℕ). (inst_at insts n).op) same ∙ ap (λ (i : Inst). i.op) (inst_is insts from x (xs ++ rest) here)) ∙ is)) isnt

-- the block at a place is the header of a loop
pub record HeadAt (insts : List Inst) (at : ℕ) : Type 0 where
  pub place : ℕ
  pub low : at < place
  pub is : (inst_at insts place).op ≡ op.LOOP_MERGE
  pub plain : (q : ℕ) → at < q → q < place → is_inner (inst_at insts q).op ≡ true

same_thinned : (xs : List Inst) → Thinned xs xs
same_thinned [] = no_more
same_thinned (x ∷ xs) = kept refl (same_thinned xs)

module _ (insts : List Inst) (scope : Scope) (from : ℕ) (end : BlockEnd) (o : OldBlock insts scope from end) where
  second_isnt : (e : BlockEnd) → Way scope (slice_index o.label.words 0) o.inst o.behind o.place e → o.place + 1 < after_of e → (inst_at insts (o.place + 1)).op ≡ op.PHI → ⊥
  second_isnt e (selects_way {last} {rest} is at branch few other) within phi = other_op (inst_at insts (o.place + 1)).op op.BRANCH_CONDITIONAL op.PHI (ap (λ (i : Inst). i.op) (second_there insts scope from end o last rest at) ∙ branch) phi refl
  second_isnt e (picks_way {last} {rest} is at switch few other) within phi = other_op (inst_at insts (o.place + 1)).op op.SWITCH op.PHI (ap (λ (i : Inst). i.op) (second_there insts scope from end o last rest at) ∙ switch) phi refl
  second_isnt e (loops_way {last} {rest} is may at branch few free) within phi = other_op (inst_at insts (o.place + 1)).op op.BRANCH op.PHI (ap (λ (i : Inst). i.op) (second_there insts scope from end o last rest at) ∙ branch) phi refl
  second_isnt e (exits is free to) within phi = omega (arith, within)
  second_isnt e (tests_true is test other) within phi = omega (arith, within)
  second_isnt e (tests_false is test other) within phi = omega (arith, within)
  second_isnt e (returns is may) within phi = omega (arith, within)
  second_isnt e (kills is may) within phi = omega (arith, within)
  second_isnt e (goes is free to starts) within phi = omega (arith, within)

  -- it stands behind the label and before the last part
  module _ (whole : IsWhole end) (place : ℕ) (low : from ≤ place) (high : place < after_of end) (is : (inst_at insts place).op ≡ op.PHI) where
    behind_label : from < place
    behind_label = elim (cases_lt from place) [
      | inl less ↦ less
      | inr most ↦
          let same : place ≡ from = omega (arith, low, most) in
          other_op (inst_at insts place).op op.LABEL op.PHI (ap (λ (n : ℕ). (inst_at insts n).op) same ∙ ap (λ (i : Inst). i.op) (first_there insts scope from end o) ∙ eqb-true o.label.op op.LABEL o.is_label) is refl
    ]

    before_last : place < o.place
    before_last = elim (cases_lt place o.place) [
      | inl less ↦ less
      | inr least ↦ elim (cases_lt o.place place) [
        | inr most ↦
            let same : place ≡ o.place = omega (arith, least, most) in
            clash (is_inner o.inst.op) (sym (ap (λ (n : ℕ). is_inner (inst_at insts n).op) same ∙ ap (λ (i : Inst). is_inner i.op) (inst_there insts scope from end o)) ∙ ap is_inner is ∙ inners.phi) o.isnt
        | inl past ↦
            let w = way_of scope (slice_index o.label.words 0) o.inst o.behind o.place end o.ends whole in
            let most = after_most insts scope from end o end w in
            let same : place ≡ o.place + 1 = omega (arith, past, most, high) in
            absurd (second_isnt end w (omega (arith, same, high)) (sym (ap (λ (n : ℕ). (inst_at insts n).op) same) ∙ is))
      ]
    ]

    -- so phis may stand there
    pub somewhere : may_have_phis scope.phis (leads_to_loop (o.front ++ o.inst ∷ o.behind)) ≡ true
    somewhere =
        let e = o.place_is in
        let l = behind_label in
        let b = before_last in
        let flag = may_have_phis scope.phis (leads_to_loop (o.front ++ o.inst ∷ o.behind)) in
        phi_allowed insts scope (slice_index o.label.words 0) flag scope.first o.front (o.inst ∷ o.behind) (from + 1) (from + 1) place (next_is insts from o.label (o.front ++ o.inst ∷ o.behind) o.here) o.inner o.whole
        (omega (arith, l)) (omega (arith, e, b)) is

    pub nowhere : scope.phis ≡ Nowhere → ⊥
    nowhere none =
        clash (may_have_phis scope.phis (leads_to_loop (o.front ++ o.inst ∷ o.behind))) somewhere (ap (λ (phis : Phis). may_have_phis phis (leads_to_loop (o.front ++ o.inst ∷ o.behind))) none)

    -- where they may stand in headers of loops alone, the block is one
    pub header : scope.phis ≡ AtHeader → HeadAt insts from
    header headers = record {
      place = o.place;
      low = let b = before_last in let l = behind_label in omega (arith, b, l);
      is = ap (λ (i : Inst). i.op) (inst_there insts scope from end o)
          ∙ eqb-true o.inst.op op.LOOP_MERGE (sym (thinned_leads o.front o.front o.inst o.behind (same_thinned o.front) o.inner o.isnt)
          ∙ sym (ap (λ (phis : Phis). may_have_phis phis (leads_to_loop (o.front ++ o.inst ∷ o.behind))) headers) ∙ somewhere);
      plain = λ q less before. front_inner insts scope from end o q less before;
    }

-- ---- the block of a phi

-- one branch leads only to the header of a loop
abbrev pub Heads : (insts : List Inst) (d : Derives insts) (at : ℕ) → Entry insts d at → Type 0
Heads insts d at (by_one after b) = HeadAt insts at
Heads insts d at (by_selection s never) = Unit {0}
Heads insts d at (by_switch s never) = Unit {0}

pub record PhiIn (insts : List Inst) (d : Derives insts) (place : ℕ) : Type 0 where
  pub at : ℕ
  pub low : d.before + 1 < at
  pub behind : at < place
  pub is_label : is_label_at insts at ≡ true
  pub front : (q : ℕ) → at < q → q ≤ place → is_inner (inst_at insts q).op ≡ true
  pub entry : Entry insts d at
  pub heads : Heads insts d at entry

-- where one branch leads to a block, it has phis only as the header of a loop
abbrev Suits : (insts : List Inst) (d : Derives insts) (phis : Phis) (at : ℕ) → Entry insts d at → Type 0
Suits insts d phis at (by_one after b) = phis ≡ AtHeader
Suits insts d phis at (by_selection s never) = Unit {0}
Suits insts d phis at (by_switch s never) = Unit {0}

-- a block has no phis, or control comes to it so
abbrev Given : (insts : List Inst) → Derives insts → Scope → ℕ → Type 0
Given insts d scope from = (scope.phis ≡ Nowhere) ⊎ ((d.before + 1 < from) × (e : Entry insts d from) × Suits insts d scope.phis from e)

module _ (insts : List Inst) (once : LabelsOnce insts) (d : Derives insts) where
  in_first : (scope : Scope) (wanted : Option ℕ) (from : ℕ) (end : BlockEnd) → IsDue insts wanted from → block_end insts scope from ≡ end → IsWhole end → Given insts d scope from → (place : ℕ) → from ≤ place → place < after_of end
      → (inst_at insts place).op ≡ op.PHI → PhiIn insts d place
  in_first scope wanted from end here is whole (inl none) place low high phi = absurd (nowhere insts scope from end (old_block insts scope wanted from end here is whole) whole place low high phi none)
  in_first scope wanted from end here is whole (inr entry) place low high phi =
      let o = old_block insts scope wanted from end here is whole in
      let b = before_last insts scope from end o whole place low high phi in
      record {
        at = from;
        low = entry.0;
        behind = behind_label insts scope from end o whole place low high phi;
        is_label = due_label insts wanted from here;
        front = λ q less most. front_inner insts scope from end o q less (omega (arith, most, b));
        entry = entry.1;
        heads = heads_of entry.1 entry.2;
      }
    where
      heads_of : (e : Entry insts d from) → Suits insts d scope.phis from e → Heads insts d from e
      heads_of (by_one after b) headers = header insts scope from end (old_block insts scope wanted from end here is whole) whole place low high phi headers
      heads_of (by_selection s never) suits = tt
      heads_of (by_switch s never) suits = tt

  mutual
    pub phi_at : {scope : Scope} {wanted next : Option ℕ} {from to : ℕ} (s : Sequence insts scope wanted from to next) → Placed insts d scope next from to (inside s) → Given insts d scope from → (place : ℕ) → from ≤ place → place < to
        → (inst_at insts place).op ≡ op.PHI → PhiIn insts d place
    phi_at {scope} {wanted} {next} {from} {to} (ends last here is label_is place_is) p given place low high phi = in_first scope wanted from (way.Ends last) here is tt given place low (omega (arith, high, place_is)) phi
    phi_at {scope} {wanted} {next} {from} {to} (goes_on after here is rest) p given place low high phi = elim (cases_lt place after) [
      | inl early ↦ in_first scope wanted from (way.GoesOn after) here is tt given place low early phi
      | inr late ↦
          let f = sound_at insts scope from (way.GoesOn after) is in
          let f' = f.forward in
          let g = (forward insts rest).forward in
          let l = p.low in
          let label = due_label insts None after (due_of rest) in
          phi_at rest (placed.placed_next insts once d scope wanted next from to after here is rest p)
          (inr (
            omega (arith, f', l),
            by_one after (begins insts once d scope next from to (inside rest) p after f' g label wanted (way.GoesOn after) here is tt f.within (λ q least less named. omega (arith, least, less))
                (unmerged_by insts scope wanted from (way.GoesOn after) here is tt (label_at insts after) (λ none. none) (λ none. none))),
            refl,
          )) place late high phi
    ]
    phi_at {scope} {wanted} {next} {from} {to} (selects head second join here is on_true on_false rest) p given place low high phi =
        let f = (sound_at insts scope from (way.Selects head) is).0 in
        let f' = f.forward in
        let a = arm_forward insts on_true in
        let b = arm_forward insts on_false in
        let g = (forward insts rest).forward in
        let l = p.low in
        let selection : SelectionTo insts d join =
        record { scope = scope; wanted = wanted; next = next; from = from; to = to; head = head; second = second; here = here; is = is; on_true = on_true; on_false = on_false; rest = rest; placed = p } in
        elim (cases_lt place head.after) [
          | inl early ↦ in_first scope wanted from (way.Selects head) here is tt given place low early phi
          | inr late ↦ elim (cases_lt place second) [
            | inl first ↦ arm_phi on_true (placed.placed_true insts once d scope wanted next from to head second join here is on_true on_false rest p)
                (λ label less. (omega (arith, f', l), head.after, true_begins insts once d join selection label less)) place late first phi
            | inr past ↦ elim (cases_lt place join) [
              | inl other ↦ arm_phi on_false (placed.placed_false insts once d scope wanted next from to head second join here is on_true on_false rest p)
                  (λ label less. (omega (arith, f', l, a), head.after, false_begins insts once d join selection label less)) place past other phi
              | inr beyond ↦
                  let label = due_label insts (Some head.merge) join (due_of rest) in
                  let here_to : from < join = omega (arith, f', a, b) in
                  phi_at rest (placed.placed_merge insts once d scope wanted next from to head second join here is on_true on_false rest p)
                  (inr (
                    omega (arith, f', a, b, l),
                    by_selection selection
                        (unlooped insts once d scope next from to _ p join here_to g label wanted (way.Selects head) here is tt f.within (λ none. none) (λ q least less among. elim (cases_lt q second) [
                          | inl in_true ↦ arm_unmerged insts once d scope next from to _ p join here_to g label on_true b q least in_true among
                          | inr in_false ↦ arm_unmerged insts once d scope next from to _ p join here_to g label on_false (omega arith) q in_false less among
                        ])),
                    tt,
                  )) place beyond high phi
            ]
          ]
        ]
    phi_at {scope} {wanted} {next} {from} {to} (picks head join here is arms rest) p given place low high phi =
        let f = (sound_at insts scope from (way.Picks head) is).0 in
        let f' = f.forward in
        let a = arms_forward insts arms in
        let g = (forward insts rest).forward in
        let l = p.low in
        let switch : SwitchTo insts d join = record { scope = scope; wanted = wanted; next = next; from = from; to = to; head = head; here = here; is = is; arms = arms; rest = rest; placed = p } in
        elim (cases_lt place head.after) [
          | inl early ↦ in_first scope wanted from (way.Picks head) here is tt given place low early phi
          | inr late ↦ elim (cases_lt place join) [
            | inl within ↦ arms_phi {join = join} head.after arms (placed_switch.placed_arms insts once d scope wanted next from to head join here is arms rest p)
                (λ part between earlier label least less. (omega (arith, f', l, least), head.after, arm_begins insts once d join switch part between earlier label least less))
                (omega arith) place late within phi
            | inr beyond ↦
                let label = due_label insts (Some head.merge) join (due_of rest) in
                let here_to : from < join = omega (arith, f', a) in
                phi_at rest (placed_switch.placed_join insts once d scope wanted next from to head join here is arms rest p)
                (inr (
                  omega (arith, f', a, l),
                  by_switch switch
                      (unlooped insts once d scope next from to _ p join here_to g label wanted (way.Picks head) here is tt f.within (λ none. none)
                      (λ q least less among. arms_unmerged insts once d scope next from to _ p join here_to g label arms (omega arith) q least less among)),
                  tt,
                )) place beyond high phi
          ]
        ]
    phi_at {scope} {wanted} {next} {from} {to} (loops head inner first second third here is tested within step rest) p given place low high phi =
        let f = (sound_at insts scope from (way.Loops head) is).0 in
        let f' = f.forward in
        let t = (forward insts tested).forward in
        let q = (forward insts within).forward in
        let r = (forward insts step).forward in
        let g = (forward insts rest).forward in
        let l = p.low in
        elim (cases_lt place head.after) [
          | inl early ↦ in_first scope wanted from (way.Loops head) here is tt given place low early phi
          | inr late ↦ elim (cases_lt place first) [
            | inl one ↦
                let label = due_label insts (Some head.test) head.after (due_of tested) in
                phi_at tested (placed_loop.placed_test insts once d scope wanted next from to head inner first second third here is tested within step rest p)
                (inr (
                  omega (arith, f', l),
                  by_one head.after (begins insts once d scope next from to _ p head.after f' (omega (arith, t, q, r, g)) label wanted (way.Loops head) here is tt f.within (λ q least less named. omega (arith, least, less))
                      (λ at least less among. elim (block_merges insts scope from (way.Loops head) (old_block insts scope wanted from (way.Loops head) here is tt) tt at (label_at insts head.after) least less (by_merge among)) [
                        | inl same ↦ other_due insts once d head.after third head.merge (due_of rest) label (λ same. omega (arith, same, t, q, r)) same
                        | inr same ↦ other_due insts once d head.after second head.next (due_of step) label (λ same. omega (arith, same, t, q)) same
                      ])),
                  refl,
                )) place late one phi
            | inr past ↦ elim (cases_lt place second) [
              | inl two ↦ phi_at within (placed_loop.placed_body insts once d scope wanted next from to head inner first second third here is tested within step rest p) (inl refl) place past two phi
              | inr further ↦ elim (cases_lt place third) [
                | inl three ↦ phi_at step (placed_loop.placed_step insts once d scope wanted next from to head inner first second third here is tested within step rest p) (inl refl) place further three phi
                | inr beyond ↦ phi_at rest (placed_loop.placed_behind insts once d scope wanted next from to head inner first second third here is tested within step rest p) (inl refl) place beyond high phi
              ]
            ]
          ]
        ]

    arm_phi : {scope : Scope} {merge target low high : ℕ} (a : Arm insts scope merge target low high) → IsArmPlaced insts d a → (is_label_at insts low ≡ true → low < high → (d.before + 1 < low) × (after : ℕ) × Begins insts after low) → (place : ℕ) → low ≤ place → place < high
        → (inst_at insts place).op ≡ op.PHI → PhiIn insts d place
    arm_phi (straight is none) p given place least less phi = absurd (omega (arith, none, least, less))
    arm_phi {target = target} {low = low} (through isnt sequence) p given place least less phi = let g = given (due_label insts (Some target) low (due_of sequence)) (forward insts sequence).forward in
        phi_at sequence p (inr (g.0, by_one g.1 g.2, refl)) place least less phi

    arms_phi : {scope : Scope} {merge low high join : ℕ} {all due left : List ℕ} (after : ℕ) (a : Arms insts scope merge all due low left high) → AreArmsPlaced insts d after a
        → ((part : List ℕ) (between : ℕ) → Arms insts scope merge all due low part between → is_label_at insts between ≡ true → low ≤ between → between < join → (d.before + 1 < between) × (after : ℕ) × Begins insts after between)
        → high ≤ join → (place : ℕ) → low ≤ place → place < high → (inst_at insts place).op ≡ op.PHI → PhiIn insts d place
    arms_phi after (no_arm is none) p given most place least less phi = absurd (omega (arith, none, least, less))
    arms_phi {low = low} {high = high} {join = join} after (arm_behind own between before arms among is sequence) p given most place least less phi =
        let g = (forward insts sequence).forward in
        let b = arms_forward insts arms in
        elim (cases_lt place between) [
          | inl early ↦ arms_phi {join = join} after arms p.0 given (omega (arith, g, most)) place least early phi
          | inr late ↦
              let e = given before between arms (due_label insts (Some own) between (due_of sequence)) b (omega (arith, g, most)) in
              phi_at sequence p.1.placed (inr (e.0, by_one e.1 e.2, refl)) place late less phi
        ]

-- of a valid module
pub phi_in : (words : Words) (v : IsValidList words) (place : ℕ) → v.derivation.before + 1 ≤ place → place < v.derivation.after → (inst_at words.insts place).op ≡ op.PHI → PhiIn words.insts v.derivation place
phi_in words v place low high is = phi_at words.insts (labels_once words v) v.derivation v.derivation.sequence (placed_whole words v) (inl refl) place low high is
