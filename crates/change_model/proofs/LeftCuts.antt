-- Places that cut a sequence into its first block and its parts: between two of them an instruction names labels that stand there or at such a
-- place, or to which the sequence may be left.
use Rattle.std.proofs.Common.{◌≡◌, ℕ, ◌<◌, ◌≤◌, ◌⊎◌, inl, inr, Bool, true, false, ◌+◌, List, [], ◌∷◌, refl, sym, ◌∙◌, subst, arith, Option}
use Rattle.std.proofs.lemmas.Bool.{cases_lt}
use Rattle.spirv_model.specs.declared.module.Inst.{Inst}
use Rattle.body_model.specs.Scope.{Scope}
use Rattle.body_model.specs.Targets.{MayLeaveTo}
use Rattle.body_model.specs.Grammar.{Sequence, Derives}
use Rattle.check_model.specs.Intervals.{Interval}
use Rattle.change_model.proofs.LeftLeaves.{names_in}
use Rattle.change_model.proofs.LeftBlockNames.{StandsIn, Merges}
use Rattle.change_model.proofs.LeftSelections.{merges_named}
use Rattle.change_model.proofs.LeftScopes.{is_label_at, label_at, names, StandsNot, Placed}
use Rattle.change_model.proofs.LeftTargets.{Stands}

-- each label stands once
abbrev pub LabelsOnce : List Inst → Type 0
LabelsOnce insts = (a b : ℕ) → is_label_at insts a ≡ true → is_label_at insts b ≡ true → label_at insts a ≡ label_at insts b → a ≡ b

-- ---- cuts

abbrev pub Member : ℕ → List ℕ → Type 0
Member c [] = ⊥
Member c (a ∷ cuts) = (c ≡ a) ⊎ Member c cuts

-- the second of them stands next of the first
abbrev pub Adjacent : ℕ → ℕ → List ℕ → Type 0
Adjacent from to [] = ⊥
Adjacent from to (a ∷ []) = ⊥
Adjacent from to (a ∷ b ∷ cuts) = ((a ≡ from) × (b ≡ to)) ⊎ Adjacent from to (b ∷ cuts)

pub adjacent_first : (cuts : List ℕ) (from to : ℕ) → Adjacent from to cuts → Member from cuts
adjacent_first [] from to is = absurd is
adjacent_first (a ∷ []) from to is = absurd is
adjacent_first (a ∷ b ∷ cuts) from to (inl same) = inl (sym same.0)
adjacent_first (a ∷ b ∷ cuts) from to (inr more) = inr (adjacent_first (b ∷ cuts) from to more)

pub adjacent_second : (cuts : List ℕ) (from to : ℕ) → Adjacent from to cuts → Member to cuts
adjacent_second [] from to is = absurd is
adjacent_second (a ∷ []) from to is = absurd is
adjacent_second (a ∷ b ∷ cuts) from to (inl same) = inr (inl (sym same.1))
adjacent_second (a ∷ b ∷ cuts) from to (inr more) = inr (adjacent_second (b ∷ cuts) from to more)

-- what holds of each two of them that stand next to each other
abbrev pub Each : (ℕ → ℕ → Type 0) → List ℕ → Type 0
Each P [] = Unit {0}
Each P (a ∷ []) = Unit {0}
Each P (a ∷ b ∷ cuts) = P a b × Each P (b ∷ cuts)

-- they rise, from the first place up to the second
abbrev pub Rises : ℕ → ℕ → List ℕ → Type 0
Rises from to [] = from ≤ to
Rises from to (a ∷ cuts) = (from ≤ a) × Rises a to cuts

-- none of them lies between two places
abbrev pub Uncut : List ℕ → ℕ → ℕ → Type 0
Uncut cuts from to = (c : ℕ) → Member c cuts → (c ≤ from) ⊎ (to ≤ c)

rises_least : (from to : ℕ) (cuts : List ℕ) → Rises from to cuts → (c : ℕ) → Member c cuts → from ≤ c
rises_least from to [] up c is = absurd is
rises_least from to (a ∷ cuts) up c (inl same) = let l = up.0 in omega (arith, l, same)
rises_least from to (a ∷ cuts) up c (inr more) = let l = up.0 in let m = rises_least a to cuts up.1 c more in omega (arith, l, m)

-- two that stand next to each other have none between them
pub adjacent_uncut : (from to : ℕ) (cuts : List ℕ) → Rises from to cuts → (a b : ℕ) → Adjacent a b cuts → Uncut cuts a b
adjacent_uncut from to [] up a b is c at = absurd is
adjacent_uncut from to (x ∷ []) up a b is c at = absurd is
adjacent_uncut from to (x ∷ y ∷ cuts) up a b (inl same) c (inl at) = let p = same.0 in inl (omega (arith, at, p))
adjacent_uncut from to (x ∷ y ∷ cuts) up a b (inl same) c (inr at) =
    let p = same.1 in
    let l = rises_behind (y ∷ cuts) c at in
    inr (omega (arith, p, l))
  where
    rises_behind : (rest : List ℕ) (c : ℕ) → Member c (y ∷ cuts) → y ≤ c
    rises_behind rest c (inl is) = omega (arith, is)
    rises_behind rest c (inr more) = rises_least y to cuts up.1.1 c more
adjacent_uncut from to (x ∷ y ∷ cuts) up a b (inr more) c (inl at) =
    let l = up.1.0 in
    let m = low_adjacent y to cuts up.1.1 a b more in
    inl (omega (arith, at, l, m))
  where
    low_adjacent : (y to : ℕ) (cuts : List ℕ) → Rises y to cuts → (a b : ℕ) → Adjacent a b (y ∷ cuts) → y ≤ a
    low_adjacent y to [] up a b is = absurd is
    low_adjacent y to (z ∷ cuts) up a b (inl same) = let p = same.0 in omega (arith, p)
    low_adjacent y to (z ∷ cuts) up a b (inr more) = let l = up.0 in let m = low_adjacent z to cuts up.1 a b more in omega (arith, l, m)
adjacent_uncut from to (x ∷ y ∷ cuts) up a b (inr more) c (inr at) = adjacent_uncut x to (y ∷ cuts) up.1 a b more c at

-- ---- between which of them a place stands

pub record Between (P : ℕ → ℕ → Type 0) (cuts : List ℕ) (place : ℕ) : Type 0 where
  pub from : ℕ
  pub to : ℕ
  pub low : from ≤ place
  pub high : place < to
  pub adjacent : Adjacent from to cuts
  pub holds : P from to

-- the last of them
abbrev pub last_of : ℕ → List ℕ → ℕ
last_of a [] = a
last_of a (b ∷ cuts) = last_of b cuts

pub between : (P : ℕ → ℕ → Type 0) (a : ℕ) (cuts : List ℕ) → Each P (a ∷ cuts) → (place : ℕ) → a ≤ place → place < last_of a cuts → Between P (a ∷ cuts) place
between P a [] each place low high = absurd (omega (arith, low, high))
between P a (b ∷ cuts) each place low high = elim (cases_lt place b) [
  | inl before ↦ record { from = a; to = b; low = low; high = before; adjacent = inl (refl, refl); holds = each.0 }
  | inr there ↦ further (between P b cuts each.1 place there high)
]
  where
    further : Between P (b ∷ cuts) place → Between P (a ∷ b ∷ cuts) place
    further r = record { from = r.from; to = r.to; low = r.low; high = r.high; adjacent = inr r.adjacent; holds = r.holds }

-- ---- labels

-- a label that an instruction between two places may name
pub data Known (insts : List Inst) (scope : Scope) (next : Option ℕ) (cuts : List ℕ) (from to label : ℕ) : Type 0 where
  stands : StandsIn insts from to label → Known insts scope next cuts from to label
  begins : (place : ℕ) → Member place cuts → Stands insts label place → Known insts scope next cuts from to label
  leaves : MayLeaveTo scope next label → Known insts scope next cuts from to label

-- what is named between two places
abbrev pub Names : List Inst → Scope → Option ℕ → List ℕ → ℕ → ℕ → Type 0
Names insts scope next cuts from to = (place label : ℕ) → from ≤ place → place < to → names insts place label ≡ true → Known insts scope next cuts from to label

-- a label between two cuts isn't named elsewhere
pub named_elsewhere : (insts : List Inst) → LabelsOnce insts → (scope : Scope) (next : Option ℕ) (first : ℕ) (cuts : List ℕ) → Rises first (last_of first cuts) cuts → Each (Names insts scope next (first ∷ cuts)) (first ∷ cuts)
    → (from to : ℕ) → Adjacent from to (first ∷ cuts) → (place at : ℕ) → first ≤ place → place < last_of first cuts → (place < from) ⊎ (to ≤ place) → from < at → at < to → is_label_at insts at ≡ true
    → (MayLeaveTo scope next (label_at insts at) → ⊥) → names insts place (label_at insts at) ≡ true → ⊥
named_elsewhere insts once scope next first cuts up each from to part place at low high outside behind before is no_exit named =
    let r = between (Names insts scope next (first ∷ cuts)) first cuts each place low high in
    by_known r (r.holds place (label_at insts at) r.low r.high named)
  where
    rises : Rises first (last_of first cuts) (first ∷ cuts)
    rises = (omega arith, up)

    other : (there : ℕ) → Stands insts (label_at insts at) there → there ≡ at
    other there s = once there at s.is_label is s.own

    -- the place would stand between them
    within : (a b : ℕ) → a ≤ place → place < b → a ≤ at → at < b → (from ≤ a) ⊎ (b ≤ from) → (to ≤ a) ⊎ (b ≤ to) → ⊥
    within a b lower upper at_low at_high first second = elim first [
      | inr past ↦ omega (arith, past, behind, at_high)
      | inl least ↦ elim second [
        | inl past ↦ omega (arith, past, before, at_low)
        | inr most ↦ elim outside [
          | inl less ↦ omega (arith, less, least, lower)
          | inr more ↦ omega (arith, more, most, upper)
        ]
      ]
    ]

    by_known : (r : Between (Names insts scope next (first ∷ cuts)) (first ∷ cuts) place) → Known insts scope next (first ∷ cuts) r.from r.to (label_at insts at) → ⊥
    by_known r (leaves may) = no_exit may
    by_known r (begins there member s) = elim (adjacent_uncut first (last_of first cuts) (first ∷ cuts) rises from to part there member) [
      | inl low ↦ let e = other there s in omega (arith, low, e, behind)
      | inr high ↦ let e = other there s in omega (arith, high, e, before)
    ]
    by_known r (stands s) =
        let e = other s.at s.stands in
        let l = s.low in
        let h = s.high in
        let all = adjacent_uncut first (last_of first cuts) (first ∷ cuts) rises r.from r.to r.adjacent in
        within r.from r.to r.low r.high (omega (arith, e, l)) (omega (arith, e, h)) (all from (adjacent_first (first ∷ cuts) from to part)) (all to (adjacent_second (first ∷ cuts) from to part))

-- ---- parts

-- a label to which a part may be left: it stands at another cut, or the sequence may be left to it
pub data Exit (insts : List Inst) (scope : Scope) (next : Option ℕ) (cuts : List ℕ) (from to label : ℕ) : Type 0 where
  at : (place : ℕ) → Member place cuts → (place < from) ⊎ (to ≤ place) → Stands insts label place → Exit insts scope next cuts from to label
  out : MayLeaveTo scope next label → Exit insts scope next cuts from to label

abbrev pub Exits : List Inst → Scope → Option ℕ → List ℕ → Scope → Option ℕ → ℕ → ℕ → Type 0
Exits insts scope next cuts part past from to = (label : ℕ) → MayLeaveTo part past label → Exit insts scope next cuts from to label

pub part_names : (insts : List Inst) (scope : Scope) (next : Option ℕ) (cuts : List ℕ) {part : Scope} {wanted past : Option ℕ} {from to : ℕ} → Sequence insts part wanted from to past → Exits insts scope next cuts part past from to
    → Names insts scope next cuts from to
part_names insts scope next cuts {part} {wanted} {past} {from} {to} s exits place label low high named = elim (names_in insts s place label low high named) [
  | inl in_it ↦ stands in_it
  | inr may ↦ by_exit (exits label may)
]
  where
    by_exit : Exit insts scope next cuts from to label → Known insts scope next cuts from to label
    by_exit (at there member beside s) = begins there member s
    by_exit (out may) = leaves may

pub exit_not : (insts : List Inst) → LabelsOnce insts → (scope : Scope) (next : Option ℕ) (cuts : List ℕ) (low high from to label : ℕ) → low ≤ from → to ≤ high → ((label : ℕ) → MayLeaveTo scope next label → StandsNot insts low high label)
    → Exit insts scope next cuts from to label → StandsNot insts from to label
exit_not insts once scope next cuts low high from to label down up left (at there member beside s) place least less is own =
    let e = once there place s.is_label is (s.own ∙ sym own) in
    elim beside [ inl before ↦ omega (arith, e, before, least) | inr past ↦ omega (arith, e, past, less) ]
exit_not insts once scope next cuts low high from to label down up left (out may) place least less is own = left label may place (omega (arith, down, least)) (omega (arith, up, less)) is own

-- ---- merge blocks

-- what is merged between two places stands there, later
abbrev pub Shut : List Inst → ℕ → ℕ → Type 0
Shut insts from to = (place label : ℕ) → from ≤ place → place < to → Merges insts place label → StandsIn insts (place + 1) to label

-- a label at a cut isn't merged behind the first one
pub merged_elsewhere : (insts : List Inst) → LabelsOnce insts → (first : ℕ) (cuts : List ℕ) → Rises first (last_of first cuts) cuts → Each (Shut insts) (first ∷ cuts) → (cut : ℕ) → Member cut (first ∷ cuts) → is_label_at insts cut ≡ true
    → (place : ℕ) → first ≤ place → place < last_of first cuts → Merges insts place (label_at insts cut) → ⊥
merged_elsewhere insts once first cuts up each cut member is place low high merges =
    let r = between (Shut insts) first cuts each place low high in
    let s = r.holds place (label_at insts cut) r.low r.high merges in
    let e = once s.at cut s.stands.is_label is s.stands.own in
    let least = r.low in
    let later = s.low in
    let most = s.high in
    elim (adjacent_uncut first (last_of first cuts) (first ∷ cuts) (omega arith, up) r.from r.to r.adjacent cut member) [
      | inl before ↦ omega (arith, before, e, least, later)
      | inr past ↦ omega (arith, past, e, most)
    ]

-- so what merges such a label stands in the first block
pub merging_first : (insts : List Inst) → LabelsOnce insts → (d : Derives insts) (scope : Scope) (next : Option ℕ) (from to : ℕ) (all : List Interval) → Placed insts d scope next from to all → (after : ℕ) (cuts : List ℕ) → from < after → last_of after cuts ≡ to
    → Rises after to cuts → Each (Shut insts) (after ∷ cuts) → (cut : ℕ) → Member cut (after ∷ cuts) → after ≤ cut → cut < to → is_label_at insts cut ≡ true → (place : ℕ) → Merges insts place (label_at insts cut) → (from ≤ place) × (place < after)
merging_first insts once d scope next from to all p after cuts order ends up each cut member least less is place merges =
    let named = merges_named insts place (label_at insts cut) merges in
    let behind : from < cut = omega (arith, order, least) in
    elim (cases_lt place from) [
      | inl before ↦ clash (names insts place (label_at insts cut)) named (p.entered place cut (inl before) behind less is)
      | inr low ↦ elim (cases_lt place to) [
        | inr past ↦ clash (names insts place (label_at insts cut)) named (p.entered place cut (inr past) behind less is)
        | inl high ↦ elim (cases_lt place after) [
          | inl first ↦ (low, first)
          | inr there ↦ absurd (merged_elsewhere insts once after cuts (subst (λ (n : ℕ). Rises after n cuts) (sym ends) up) each cut member is place there (omega (arith, high, ends)) merges)
        ]
      ]
    ]
  where
    clash : {Q : Type 0} (b : Bool) → b ≡ true → b ≡ false → Q
    clash true is isnt = cc
    clash false is isnt = cc
