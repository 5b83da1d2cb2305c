-- Which block is due: it stands within the list, and one of several that are due is the one whose label stands there.
use Rattle.std.proofs.Common.{◌≡◌, ℕ, ◌<◌, ◌≤◌, Bool, true, false, ◌==◌, ◌||◌, if◌then◌else◌, List, [], ◌∷◌, length, drop, take, slice_index, Option, None, Some, ⊎_elim, refl, ap, sym, ◌∙◌}
use Rattle.std.specs.Prelude.{IsTrue}
use Rattle.std.proofs.lemmas.Bool.{cases_lt, eqb-true, eq-eqb}
use Rattle.std.proofs.lemmas.List.{drop_all}
use Rattle.spirv_model.specs.declared.module.Inst.{Inst}
use Rattle.spirv_model.specs.declared.op.TheConstants.{LABEL, FUNCTION_END}
use Rattle.body_model.specs.declared.fault.TreeFault.{TreeFault}
use Rattle.body_model.specs.declared.fault.TreeFault.TheVariants.{BadBlock, BadMerge}
use Rattle.body_model.specs.Switches.{is_among}
use Rattle.body_model.specs.Due.{has_label, is_wanted, ends_early, misses_label, missing, only, IsDue}
use Rattle.body_model.specs.Reading.{label_at}

-- behind the list's end no block stands
pub missing_past : (insts : List Inst) (wanted : Option (List ℕ)) (place : ℕ) → length insts ≤ place → missing insts wanted place ≡ Some (BadBlock place)
unfolding missing
missing_past insts wanted place past = ap (λ (rest : List Inst). misses_label (take place insts) wanted rest place) (drop_all place insts past)

never : (fault : TreeFault) (m : Option TreeFault) → m ≡ Some fault → m ≡ None → ⊥
never fault m some none = cc

-- a block that is due stands within the list
pub due_within : (insts : List Inst) (wanted : Option (List ℕ)) (place : ℕ) → missing insts wanted place ≡ None → place < length insts
due_within insts wanted place here =
    ⊎_elim (λ within. within) (λ past. absurd (never (BadBlock place) (missing insts wanted place) (missing_past insts wanted place past) here)) (cases_lt place (length insts))

-- the tests that a block which is due passes
record Passes (is_label known wanted : Bool) : Type 0 where
  label : is_label ≡ true
  new : known ≡ false
  among : wanted ≡ true

abbrev tested : Bool → Bool → Bool → Bool → (early past bad : TreeFault) → Option TreeFault
tested is_label known wanted ended early past bad = if is_label then (if known then Some past else if wanted then None else Some bad) else if ended then Some early else Some past

passes : (is_label known wanted ended : Bool) (early past bad : TreeFault) → tested is_label known wanted ended early past bad ≡ None → Passes is_label known wanted
passes true true wanted ended early past bad is = cc
passes true false true ended early past bad is = record { label = refl; new = refl; among = refl }
passes true false false ended early past bad is = cc
passes false known wanted true early past bad is = cc
passes false known wanted false early past bad is = cc

passed : (is_label known wanted ended : Bool) (early past bad : TreeFault) → Passes is_label known wanted → tested is_label known wanted ended early past bad ≡ None
passed true false true ended early past bad is = refl
passed true false false ended early past bad is = (let e = is.among in cc)
passed true true wanted ended early past bad is = (let e = is.new in cc)
passed false known wanted ended early past bad is = (let e = is.label in cc)

-- what the front of the instructions behind a place says
pub record DueFront (before : List Inst) (wanted : Option (List ℕ)) (rest : List Inst) : Type 0 where
  pub inst : Inst
  pub more : List Inst
  pub front : rest ≡ inst ∷ more
  pub label : inst.op == LABEL ≡ true
  pub new : has_label before (slice_index inst.words 0) ≡ false
  pub among : is_wanted wanted (slice_index inst.words 0) ≡ true

pub stands_front : (before : List Inst) (wanted : Option (List ℕ)) (rest : List Inst) (place : ℕ) → misses_label before wanted rest place ≡ None → DueFront before wanted rest
stands_front before wanted [] place is = cc
stands_front before wanted (inst ∷ rest) place is =
    let p = passes (inst.op == LABEL) (has_label before (slice_index inst.words 0)) (is_wanted wanted (slice_index inst.words 0)) (inst.op == FUNCTION_END) _ _ _ is in
    record { inst = inst; more = rest; front = refl; label = p.label; new = p.new; among = p.among }

pub front_stands : (before : List Inst) (wanted : Option (List ℕ)) (rest : List Inst) (place : ℕ) → DueFront before wanted rest → misses_label before wanted rest place ≡ None
front_stands before wanted rest place s =
    ap (λ (l : List Inst). misses_label before wanted l place) s.front
    ∙ passed (s.inst.op == LABEL) (has_label before (slice_index s.inst.words 0)) (is_wanted wanted (slice_index s.inst.words 0)) (s.inst.op == FUNCTION_END) (ends_early wanted place) (BadBlock place) (BadMerge place)
    (record { label = s.label; new = s.new; among = s.among })

pub stands_at : (insts : List Inst) (wanted : Option (List ℕ)) (place : ℕ) → missing insts wanted place ≡ None → DueFront (take place insts) wanted (drop place insts)
unfolding missing
stands_at insts wanted place here = stands_front (take place insts) wanted (drop place insts) place here

pub at_stands : (insts : List Inst) (wanted : Option (List ℕ)) (place : ℕ) → DueFront (take place insts) wanted (drop place insts) → missing insts wanted place ≡ None
unfolding missing
at_stands insts wanted place stands = front_stands (take place insts) wanted (drop place insts) place stands

pub among_one : (x y : ℕ) → is_among x (y ∷ []) ≡ true → x ≡ y
among_one x y is = sym (eqb-true y x (left (y == x) is))
  where
    left : (b : Bool) → b || false ≡ true → b ≡ true
    left true is = refl
    left false is = is

pub one_among : (x y : ℕ) → x ≡ y → is_among x (y ∷ []) ≡ true
one_among x y is = ap (λ (b : Bool). b || false) (eq-eqb y x (sym is))

-- the label that stands at a place where a block is due
pub label_is : (insts : List Inst) (label place : ℕ) → IsDue insts (Some label) place → label_at (drop place insts) ≡ label
label_is insts label place here =
    let s = stands_at insts (only (Some label)) place here in
    ap label_at s.front ∙ among_one (slice_index s.inst.words 0) label s.among

-- where one of several blocks is due, it is the one whose label stands there
pub due_one : (insts : List Inst) (labels : List ℕ) (place : ℕ) → missing insts (Some labels) place ≡ None
    → IsTrue (is_among (label_at (drop place insts)) labels) × IsDue insts (Some (label_at (drop place insts))) place
due_one insts labels place here =
    let s = stands_at insts (Some labels) place here in (
      ap (λ (l : List Inst). is_among (label_at l) labels) s.front ∙ s.among,
      at_stands insts _ place (record { inst = s.inst; more = s.more; front = s.front; label = s.label; new = s.new; among = one_among _ _ (sym (ap label_at s.front)) }),
    )

pub due_among : (insts : List Inst) (labels : List ℕ) (label place : ℕ) → IsTrue (is_among label labels) → IsDue insts (Some label) place → missing insts (Some labels) place ≡ None
due_among insts labels label place is here =
    let s = stands_at insts (only (Some label)) place here in
    at_stands insts (Some labels) place
    (record { inst = s.inst; more = s.more; front = s.front; label = s.label; new = s.new; among = ap (λ (l : ℕ). is_among l labels) (among_one (slice_index s.inst.words 0) label s.among) ∙ is })

-- a block with a known label stands wherever any may
pub due_any : (insts : List Inst) (wanted : Option (List ℕ)) (place : ℕ) → missing insts wanted place ≡ None → missing insts None place ≡ None
due_any insts wanted place here =
    let s = stands_at insts wanted place here in
    at_stands insts None place (record { inst = s.inst; more = s.more; front = s.front; label = s.label; new = s.new; among = refl })
