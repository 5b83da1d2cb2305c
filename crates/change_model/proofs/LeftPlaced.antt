-- Where a sequence is placed, each of its parts is.
use Rattle.std.proofs.Common.{◌≡◌, ℕ, ◌+◌, ◌<◌, ◌≤◌, ◌⊎◌, inl, inr, Bool, true, false, ◌==◌, List, [], ◌∷◌, ◌++◌, refl, ap, sym, ◌∙◌, subst, arith, Option, None, Some}
use Rattle.std.proofs.lemmas.Bool.{cases_lt, eqb-true}
use Rattle.std.proofs.lemmas.Option.{get_or_from_slice_get}
use Rattle.spirv_model.specs.declared.module.Inst.{Inst}
use Rattle.spirv_model.specs.declared.op.TheConstants as op
use Rattle.body_model.specs.declared.scope.End.{End}
use Rattle.body_model.specs.declared.block_end.BlockEnd.TheVariants as way
use Rattle.body_model.specs.declared.block_end.SelectionHead.{SelectionHead}
use Rattle.body_model.specs.Blocks.{exit_to, block_end}
use Rattle.body_model.specs.Due.{IsDue}
use Rattle.body_model.specs.Scope.{Scope, behind_block, behind_selection, arm}
use Rattle.body_model.specs.Switches.{is_among}
use Rattle.body_model.specs.Targets.{targets}
use Rattle.body_model.specs.Grammar.{Sequence, Arm, straight, through, Derives}
use Rattle.body_model.proofs.Forward.{sound_at, forward, arm_forward}
use Rattle.valid_model.specs.Definitions.{inst_at, no_instruction}
use Rattle.check_model.specs.Intervals.{Interval, inside, of_arm}
use Rattle.stage_model.proofs.CodeRuns.{due_of, one_name, other_name, stands_as, at_behind}
use Rattle.stage_model.proofs.Exits.{arm_exit}
use Rattle.typed_model.proofs.FunctionParts.{LabelAt, label_due}
use Rattle.typed_model.proofs.Keeping.{LieIn, wider, lie_both}
use Rattle.typed_model.proofs.VisibleJumps.{lies, arm_lies}
use Rattle.unit_model.specs.ConstantScalars.{is_behind}
use Rattle.change_model.proofs.LeftCuts.{LabelsOnce, Member, Adjacent, Each, Rises, adjacent_first, adjacent_second, last_of, Known, begins, Names, named_elsewhere, Exit, Exits, at, out, part_names, exit_not, Shut, merging_first}
use Rattle.change_model.proofs.LeftExits.{by_merge, IsExit, exit_is}
use Rattle.change_model.proofs.LeftFronts.{old_block}
use Rattle.change_model.proofs.LeftLeaves.{block_names}
use Rattle.change_model.proofs.LeftBlockNames.{by_branch}
use Rattle.change_model.proofs.LeftMerges.{merges_in, arm_merges}
use Rattle.change_model.proofs.LeftSelections.{IsSelection, block_selection, branch_after, selection_merged}
use Rattle.change_model.proofs.LeftParts.{PartOf, part_all, part_behind, part_before, part_within}
use Rattle.change_model.proofs.LeftScopes.{is_label_at, label_at, names, Placed}
use Rattle.change_model.proofs.LeftTargets.{Stands, due_stands}

test_label : {Q : Type 0} (b : Bool) → (b ≡ true → Q) → (b ≡ false → Q) → Q
test_label true f g = f refl
test_label false f g = g refl

refuted : (b : Bool) → (b ≡ true → ⊥) → b ≡ false
refuted true isnt = absurd (isnt refl)
refuted false isnt = refl

some_label : (a b : ℕ) → ◌≡◌ {A = Option ℕ} (Some a) (Some b) → a ≡ b
some_label a b same = cc

pub stands_at_due : (insts : List Inst) (label known place : ℕ) → label ≡ known → IsDue insts (Some known) place → Stands insts label place
stands_at_due insts label known place is due = due_stands insts label place (subst (λ (l : ℕ). IsDue insts (Some l) place) (sym is) due)

pub some_none : {scope : Scope} {label : ℕ} → IsExit scope label → exit_to scope label ≡ None → ⊥
some_none e none = never e.is none
  where
    never : {found : Option End} {end : End} → found ≡ Some end → found ≡ None → ⊥
    never some none = cc

-- no selection has the label at the place for its merge block
abbrev pub Unmerged : List Inst → ℕ → Type 0
Unmerged insts place = (at : ℕ) → IsSelection insts at (label_at insts place) → ⊥

-- the branch of no selection names the label at the place, or only the one behind which a place stands
abbrev pub Unbranched : List Inst → ℕ → Type 0
Unbranched insts place = (at : ℕ) → is_behind op.SELECTION_MERGE insts at ≡ true → is_among (label_at insts place) (targets (inst_at insts at)) ≡ true → ⊥

abbrev pub Branched : List Inst → ℕ → ℕ → Type 0
Branched insts after place = (at : ℕ) → is_behind op.SELECTION_MERGE insts at ≡ true → is_among (label_at insts place) (targets (inst_at insts at)) ≡ true → at + 1 ≡ after

label_is : (insts : List Inst) (place : ℕ) → LabelAt insts place → is_label_at insts place ≡ true
label_is insts place l = ap (λ (i : Inst). i.op == op.LABEL) (get_or_from_slice_get insts place l.inst no_instruction l.at) ∙ l.is

pub due_label : (insts : List Inst) (wanted : Option ℕ) (place : ℕ) → IsDue insts wanted place → is_label_at insts place ≡ true
due_label insts wanted place due = label_is insts place (label_due insts wanted place due)

-- ---- a part between two cuts

rises_last : (from : ℕ) (cuts : List ℕ) → Rises from (last_of from cuts) cuts → (c : ℕ) → Member c (from ∷ cuts) → (from ≤ c) × (c ≤ last_of from cuts)
rises_last from [] up c (inl is) = (omega (arith, is), omega (arith, is))
rises_last from [] up c (inr more) = absurd more
rises_last from (a ∷ cuts) up c (inl is) =
    let l = up.0 in
    let r = rises_last a cuts up.1 a (inl refl) in
    let h = r.1 in
    (omega (arith, is), omega (arith, is, l, h))
rises_last from (a ∷ cuts) up c (inr more) =
    let l = up.0 in
    let r = rises_last a cuts up.1 c more in
    let g = r.0 in
    (omega (arith, l, g), r.1)

module _ (insts : List Inst) (once : LabelsOnce insts) (d : Derives insts) (scope : Scope) (next : Option ℕ) (from to : ℕ) (all : List Interval) (p : Placed insts d scope next from to all) (cuts : List ℕ) (ends : last_of from cuts ≡ to)
    (up : Rises from (last_of from cuts) cuts) (each : Each (Names insts scope next (from ∷ cuts)) (from ∷ cuts)) where
  pub placed_part : (part : Scope) (past : Option ℕ) (first last : ℕ) (inner : List Interval) → Adjacent first last (from ∷ cuts) → Exits insts scope next (from ∷ cuts) part past first last → PartOf first last inner all
      → Placed insts d part past first last inner
  placed_part part past first last inner between exits of =
      let f = rises_last from cuts up first (adjacent_first (from ∷ cuts) first last between) in
      let f' = f.0 in
      let l = rises_last from cuts up last (adjacent_second (from ∷ cuts) first last between) in
      let l' = l.1 in
      let low = p.low in
      let high = p.high in
      let e = ends in
      record {
        low = omega (arith, f', low);
        high = omega (arith, l', e, high);
        entered = λ place at outside behind before is. refuted (names insts place (label_at insts at)) (λ named.
            let inner_at : at < to = omega (arith, before, l', e) in
            let behind_it : from < at = omega (arith, behind, f') in
            elim (cases_lt place from) [
              | inl less ↦ never (names insts place (label_at insts at)) named (p.entered place at (inl less) behind_it inner_at is)
              | inr least ↦ elim (cases_lt place to) [
                | inr more ↦ never (names insts place (label_at insts at)) named (p.entered place at (inr more) behind_it inner_at is)
                | inl most ↦ named_elsewhere insts once scope next from cuts up each first last between place at least (omega (arith, most, e)) outside behind before is
                    (λ may. p.left (label_at insts at) may at (omega (arith, behind_it)) inner_at is refl) named
              ]
            ]);
        left = λ label may. exit_not insts once scope next (from ∷ cuts) from to first last label f' (omega (arith, l', e)) p.left (exits label may);
        merge = λ label is. exit_not insts once scope next (from ∷ cuts) from to first last label f' (omega (arith, l', e)) p.left (exits label (inl (λ none. some_none (exit_is part label (by_merge is)) none)));
        intervals = λ test some. p.intervals test (of.among test some);
        within = λ a b behind order most some. of.own a b behind order most
            (p.within a b (omega (arith, behind, f')) order (omega (arith, most, l', e)) some);
      }
    where
      never : (b : Bool) → b ≡ true → b ≡ false → ⊥
      never true is isnt = cc
      never false is isnt = cc

-- ---- a block that goes on

module _ (insts : List Inst) (once : LabelsOnce insts) (d : Derives insts) (scope : Scope) (wanted next : Option ℕ) (from to : ℕ) (after : ℕ) (here : IsDue insts wanted from) (is : block_end insts scope from ≡ way.GoesOn after)
    (rest : Sequence insts (behind_block scope) None after to next) (p : Placed insts d scope next from to (inside rest)) where
  goes_exits : Exits insts scope next (from ∷ after ∷ to ∷ []) (behind_block scope) next after to
  goes_exits label may = out may

  goes_first : Names insts scope next (from ∷ after ∷ to ∷ []) from after
  goes_first place label low high named =
      let f = (sound_at insts scope from (way.GoesOn after) is) in
      block_names {Q = λ label. Known insts scope next (from ∷ after ∷ to ∷ []) from after label} insts scope wanted from (way.GoesOn after) here is tt f.within
      (λ b label among. begins after (inr (inl refl))
      (stands_at_due insts label b.ends.0 after (one_name label b.ends.0 _ b.ends.1 among) (stands_as insts None b.ends.0 after b.behind (at_behind insts scope from (way.GoesOn after) b) b.ends.2 (due_of rest))))
      (λ label merged. absurd merged) place label low high named

  pub placed_next : Placed insts d (behind_block scope) next after to (inside rest)
  placed_next =
      let f = (sound_at insts scope from (way.GoesOn after) is).forward in
      let g = (forward insts rest).forward in
      placed_part insts once d scope next from to (inside rest) p (after ∷ to ∷ []) refl (omega (arith, f), (omega (arith, g), omega arith))
      (goes_first, (part_names insts scope next (from ∷ after ∷ to ∷ []) rest goes_exits, tt)) (behind_block scope) next after to (inside rest) (inr (inl (refl, refl))) goes_exits (part_all after to (inside rest))

  -- no selection has its label for a merge block
  pub unmerged_next : Unmerged insts after
  unmerged_next place s =
      let o = old_block insts scope wanted from (way.GoesOn after) here is tt in
      let f = (sound_at insts scope from (way.GoesOn after) is).forward in
      let g = (forward insts rest).forward in
      let first = merging_first insts once d scope next from to (inside rest) p after (to ∷ []) f refl (omega (arith, g), omega arith) (merges_in insts rest, tt) after (inl refl) (omega arith) g (due_label insts None after (due_of rest)) place (selection_merged insts place (label_at insts after) s) in
      (block_selection insts scope from (way.GoesOn after) o tt place (label_at insts after) first.0 first.1 s).0

-- ---- a selection

-- an arm of a selection is placed, where there is one
abbrev pub IsArmPlaced : (insts : List Inst) → Derives insts → {scope : Scope} {merge target from to : ℕ} → Arm insts scope merge target from to → Type 0
IsArmPlaced insts d (straight is none) = Unit {0}
IsArmPlaced insts d {scope} {merge} {target} {from} {to} (through isnt sequence) = Placed insts d (arm scope merge) None from to (inside sequence)

abbrev pub IsArmBranched : (insts : List Inst) → ℕ → {scope : Scope} {merge target from to : ℕ} → Arm insts scope merge target from to → Type 0
IsArmBranched insts after (straight is none) = Unit {0}
IsArmBranched insts after {scope} {merge} {target} {from} {to} (through isnt sequence) = Branched insts after from

abbrev pub IsArmUnmerged : (insts : List Inst) → {scope : Scope} {merge target from to : ℕ} → Arm insts scope merge target from to → Type 0
IsArmUnmerged insts (straight is none) = Unit {0}
IsArmUnmerged insts {scope} {merge} {target} {from} {to} (through isnt sequence) = Unmerged insts from

module _ (insts : List Inst) (once : LabelsOnce insts) (d : Derives insts) (scope : Scope) (wanted next : Option ℕ) (from to : ℕ) (head : SelectionHead) (second join : ℕ) (here : IsDue insts wanted from)
    (is : block_end insts scope from ≡ way.Selects head) (on_true : Arm insts scope head.merge head.on_true head.after second) (on_false : Arm insts scope head.merge head.on_false second join)
    (rest : Sequence insts (behind_selection scope) (Some head.merge) join to next) (p : Placed insts d scope next from to (of_arm on_true ++ (of_arm on_false ++ inside rest))) where
  abbrev select_cuts : List ℕ
  select_cuts = head.after ∷ second ∷ join ∷ to ∷ []

  abbrev all_cuts : List ℕ
  all_cuts = from ∷ select_cuts

  at_join : (first last label : ℕ) → (join < first) ⊎ (last ≤ join) → label ≡ head.merge → Exit insts scope next all_cuts first last label
  at_join first last label beside merges = at join (inr (inr (inr (inl refl)))) beside (stands_at_due insts label head.merge join merges (due_of rest))

  arm_exits : (first last : ℕ) → (join < first) ⊎ (last ≤ join) → Exits insts scope next all_cuts (arm scope head.merge) None first last
  arm_exits first last beside label may =
      test_label (label == head.merge) (λ merges. at_join first last label beside (eqb-true label head.merge merges)) (λ differs. out (arm_exit scope head.merge next label may differs))

  rest_exits : Exits insts scope next all_cuts (behind_selection scope) next join to
  rest_exits label may = out may

  arm_names : {target first last : ℕ} → (last ≤ join) → Arm insts scope head.merge target first last → Names insts scope next all_cuts first last
  arm_names most (straight same none) = λ place label low high named. absurd (omega (arith, none, low, high))
  arm_names {target} {first} {last} most (through isnt sequence) = part_names insts scope next all_cuts sequence (arm_exits first last (inr most))

  -- where the way to a label of an arm leads
  arm_begins : {target first last : ℕ} → Member first all_cuts → (label : ℕ) → label ≡ target → Arm insts scope head.merge target first last → Known insts scope next all_cuts from head.after label
  arm_begins member label same (straight merges none) = begins join (inr (inr (inr (inl refl)))) (stands_at_due insts label head.merge join (same ∙ merges) (due_of rest))
  arm_begins {target} {first} {last} member label same (through isnt sequence) = begins first member (stands_at_due insts label target first same (due_of sequence))

  select_first : Names insts scope next all_cuts from head.after
  select_first place label low high named =
      let f = (sound_at insts scope from (way.Selects head) is).0 in
      let of_true = λ (label : ℕ) (same : label ≡ head.on_true). arm_begins (inr (inl refl)) label same on_true in
      let of_false = λ (label : ℕ) (same : label ≡ head.on_false). arm_begins (inr (inr (inl refl))) label same on_false in
      block_names {Q = λ label. Known insts scope next all_cuts from head.after label} insts scope wanted from (way.Selects head) here is tt f.within
      (λ b label among. test_label (label == head.on_true) (λ same. of_true label (eqb-true label head.on_true same)) (λ differs. of_false label (other_name label head.on_true head.on_false _ b.ends among differs)))
      (λ label merged. elim merged [
        | inl merges ↦ begins join (inr (inr (inr (inl refl)))) (stands_at_due insts label head.merge join merges (due_of rest))
        | inr (inl same) ↦ of_true label same
        | inr (inr same) ↦ of_false label same
      ]) place label low high named

  low_arm : head.after ≤ second
  low_arm = arm_forward insts on_true

  high_arm : second ≤ join
  high_arm = arm_forward insts on_false

  select_rises : Rises from to select_cuts
  select_rises =
      let f = (sound_at insts scope from (way.Selects head) is).0 in
      let f' = f.forward in
      let g = (forward insts rest).forward in
      (omega (arith, f'), (low_arm, (high_arm, (omega (arith, g), omega arith))))

  select_names : Each (Names insts scope next all_cuts) all_cuts
  select_names =
      let q = high_arm in
      (select_first, (arm_names (omega (arith, q)) on_true, (arm_names (omega arith) on_false, (part_names insts scope next all_cuts rest rest_exits, tt))))

  select_part : (part : Scope) (past : Option ℕ) (first last : ℕ) (inner : List Interval) → Adjacent first last all_cuts → Exits insts scope next all_cuts part past first last
      → PartOf first last inner (of_arm on_true ++ (of_arm on_false ++ inside rest)) → Placed insts d part past first last inner
  select_part = placed_part insts once d scope next from to (of_arm on_true ++ (of_arm on_false ++ inside rest)) p select_cuts refl select_rises select_names

  arm_placed : {target first last : ℕ} → last ≤ join → Adjacent first last all_cuts → (a : Arm insts scope head.merge target first last) → PartOf first last (of_arm a) (of_arm on_true ++ (of_arm on_false ++ inside rest)) → IsArmPlaced insts d a
  arm_placed most between (straight same none) of = tt
  arm_placed {target} {first} {last} most between (through isnt sequence) of =
      select_part (arm scope head.merge) None first last (inside sequence) between (arm_exits first last (inr most)) (part_within first last (inside sequence) (of_arm on_true ++ (of_arm on_false ++ inside rest)) of)

  pub placed_true : IsArmPlaced insts d on_true
  placed_true =
      let q = high_arm in
      arm_placed (omega (arith, q)) (inr (inl (refl, refl))) on_true
      (part_before second to head.after second (of_arm on_true) (of_arm on_false ++ inside rest) (of_arm on_true) (omega arith) behind_true (part_all head.after second (of_arm on_true)))
    where
      behind_true : LieIn second to (of_arm on_false ++ inside rest)
      behind_true = lie_both second to (of_arm on_false) (inside rest) (wider second join second to (of_arm on_false) (omega arith) (let g = (forward insts rest).forward in omega (arith, g)) (arm_lies insts on_false))
          (wider join to second to (inside rest) high_arm (omega arith) (lies insts rest))

  pub placed_false : IsArmPlaced insts d on_false
  placed_false = arm_placed (omega arith) (inr (inr (inl (refl, refl)))) on_false
      (part_behind head.after second second join (of_arm on_false) (of_arm on_true) (of_arm on_false ++ inside rest) (omega arith) (arm_lies insts on_true)
      (part_before join to second join (of_arm on_false) (inside rest) (of_arm on_false) (omega arith) (lies insts rest) (part_all second join (of_arm on_false))))

  pub placed_merge : Placed insts d (behind_selection scope) next join to (inside rest)
  placed_merge =
      let q = high_arm in
      select_part (behind_selection scope) next join to (inside rest) (inr (inr (inr (inl (refl, refl))))) rest_exits
      (part_behind head.after second join to (inside rest) (of_arm on_true) (of_arm on_false ++ inside rest) q (arm_lies insts on_true)
      (part_behind second join join to (inside rest) (of_arm on_false) (inside rest) (omega arith) (arm_lies insts on_false) (part_all join to (inside rest))))

  -- only the merge block of the selection is one of a selection, and of this one alone
  select_shut : Each (Shut insts) select_cuts
  select_shut = (arm_merges insts on_true, (arm_merges insts on_false, (merges_in insts rest, tt)))

  merging : (cut : ℕ) → Member cut select_cuts → head.after ≤ cut → cut < to → is_label_at insts cut ≡ true → (place : ℕ) → IsSelection insts place (label_at insts cut) → (cut ≡ join) × (place + 2 ≡ head.after)
  merging cut member least less label place s =
      let o = old_block insts scope wanted from (way.Selects head) here is tt in
      let f = (sound_at insts scope from (way.Selects head) is).0.forward in
      let first = merging_first insts once d scope next from to (of_arm on_true ++ (of_arm on_false ++ inside rest)) p head.after (second ∷ join ∷ to ∷ []) f refl select_rises.1 select_shut cut member least less label place (selection_merged insts place (label_at insts cut) s) in
      let b = block_selection insts scope from (way.Selects head) o tt place (label_at insts cut) first.0 first.1 s in
      let there = stands_at_due insts (label_at insts cut) head.merge join b.0 (due_of rest) in
      (once cut join label there.is_label (sym there.own), b.1)

  pub merging_merge : (place : ℕ) → IsSelection insts place (label_at insts join) → place + 2 ≡ head.after
  merging_merge place s =
      let p = low_arm in
      let q = high_arm in
      (merging join (inr (inr (inl refl))) (omega (arith, p, q)) (forward insts rest).forward (due_label insts (Some head.merge) join (due_of rest)) place s).1

  -- the first blocks of the arms are none
  arm_unmerged : {target first last : ℕ} → Member first select_cuts → head.after ≤ first → last ≤ join → (a : Arm insts scope head.merge target first last) → IsArmUnmerged insts a
  arm_unmerged member least most (straight same none) = tt
  arm_unmerged {target} {first} {last} member least most (through isnt sequence) = λ place s.
      let g = (forward insts sequence).forward in
      let h = (forward insts rest).forward in
      let e = (merging first member least (omega (arith, g, most, h)) (due_label insts (Some target) first (due_of sequence)) place s).0 in
      omega (arith, g, most, e)

  pub unmerged_true : IsArmUnmerged insts on_true
  unmerged_true = let q = high_arm in arm_unmerged (inl refl) (omega arith) (omega (arith, q)) on_true

  pub unmerged_false : IsArmUnmerged insts on_false
  unmerged_false = let p = low_arm in arm_unmerged (inr (inl refl)) (omega (arith, p)) (omega arith) on_false

  -- only the branch of the selection names their labels
  branching : (cut : ℕ) → Member cut select_cuts → head.after ≤ cut → cut < to → is_label_at insts cut ≡ true → Branched insts head.after cut
  branching cut member least less label place behind among =
      let o = old_block insts scope wanted from (way.Selects head) here is tt in
      let f = (sound_at insts scope from (way.Selects head) is).0.forward in
      let first = merging_first insts once d scope next from to (of_arm on_true ++ (of_arm on_false ++ inside rest)) p head.after (second ∷ join ∷ to ∷ []) f refl select_rises.1 select_shut cut member least less label place (by_branch behind among) in
      branch_after insts scope from (way.Selects head) o tt place (label_at insts cut) first.0 first.1 behind among

  arm_branched : {target first last : ℕ} → Member first select_cuts → head.after ≤ first → last ≤ join → (a : Arm insts scope head.merge target first last) → IsArmBranched insts head.after a
  arm_branched member least most (straight same none) = tt
  arm_branched {target} {first} {last} member least most (through isnt sequence) =
      let g = (forward insts sequence).forward in
      let h = (forward insts rest).forward in
      branching first member least (omega (arith, g, most, h)) (due_label insts (Some target) first (due_of sequence))

  pub branched_true : IsArmBranched insts head.after on_true
  branched_true = let q = high_arm in arm_branched (inl refl) (omega arith) (omega (arith, q)) on_true

  pub branched_false : IsArmBranched insts head.after on_false
  branched_false = let p = low_arm in arm_branched (inr (inl refl)) (omega (arith, p)) (omega arith) on_false
