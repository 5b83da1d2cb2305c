-- All that is used in the list that a plan makes is visible, where the phis that stay have types.
use Rattle.std.proofs.Common.{◌≡◌, ℕ, ◌+◌, ◌<◌, ◌≤◌, ◌==◌, ◌&&◌, ◌||◌, inl, inr, Bool, true, false, if◌then◌else◌, List, [], ◌∷◌, length, map, refl, ap, sym, ◌∙◌, arith, Option, None, Some}
use Rattle.std.specs.Prelude.{filter}
use Rattle.std.specs.List.{list_all, list_any}
use Rattle.std.specs.Option.{unwrap_or}
use Rattle.std.proofs.lemmas.Bool.{cases_lt, eqb-true, eq-eqb}
use Rattle.basics.proofs.Bools.{first_of_both, second_of_both}
use Rattle.spirv_model.specs.declared.module.Inst.{Inst}
use Rattle.spirv_model.specs.declared.class.Class.{Class}
use Rattle.spirv_model.specs.declared.class.Class.TheVariants as class
use Rattle.spirv_model.specs.declared.op.TheConstants as op
use Rattle.spirv_model.specs.Operands.{word_at, entry_of, class_of, kinds}
use Rattle.body_model.specs.Classes.{is_module_level}
use Rattle.body_model.specs.Switches.{is_among}
use Rattle.valid_model.specs.Definitions.{definition, inst_at}
use Rattle.valid_model.specs.Meanings.{meaning}
use Rattle.check_model.specs.Intervals.{Interval, intervals_of}
use Rattle.check_model.specs.Visibility.{use_at, Incoming, incoming, incoming_use, phi_uses, uses_operands, is_choice, used_by, used_ids, is_defined_for, is_visible_use, not_visible}
use Rattle.typed_model.proofs.BlockParts.{another}
use Rattle.typed_model.proofs.FirstBlocks.{found_at}
use Rattle.typed_model.proofs.TypedSteps.{seen}
use Rattle.typed_model.proofs.ValidModules.{valid_seen, valid_sound}
use Rattle.change_model.specs.declared.fate.Fate.TheVariants.{Stays}
use Rattle.change_model.specs.Folding.{function_at}
use Rattle.change_model.specs.Plans.{Plan, is_dead, predecessors_left, phi_left, block_at, kept_at, branch_to, switch_to, written_at, changed}
use Rattle.change_model.specs.PlanRules.{is_shape, pairs_in, is_user, is_incoming}
use Rattle.change_model.specs.Settling.{is_plain_constant_class}
use Rattle.change_model.proofs.BehindLevel.{end_op}
use Rattle.change_model.proofs.ChangedBlocks.{block_end_changed}
use Rattle.change_model.proofs.ChangedDefinitions.{level_stays, level_defined, written_there}
use Rattle.change_model.proofs.ChangedMeanings.{level_inst}
use Rattle.change_model.proofs.ChangedNames.{name_of_type}
use Rattle.change_model.proofs.ChangedPhis.{renamed_pair, phi_pairs, phi_changed}
use Rattle.change_model.proofs.ChangedPlaces.{place_left, function_within, StoodAt, of_level, of_constant, of_function, stood_at}
use Rattle.change_model.proofs.ChangedShapes.{shape_in, function_shapeless}
use Rattle.change_model.proofs.LeftFunction.{plan_derives}
use Rattle.change_model.proofs.FoldedKeeps.{function_op}
use Rattle.change_model.proofs.MovedUp.{function_is, level_inst as level_class}
use Rattle.change_model.proofs.NamesSeen.{front_visible, name_seen, new_before}
use Rattle.change_model.proofs.NewConstants.{new_is_plain}
use Rattle.change_model.proofs.PhiPairsLeft.{In, pair_left}
use Rattle.change_model.proofs.Planned.{Planned, fits_there, IsWritten, keeps, goes, picks, is_written, is_new_constant}
use Rattle.change_model.proofs.PlanRuns.{is_unused_at, is_unused_fate}
use Rattle.change_model.proofs.PlanRunsKept.{used_left}
use Rattle.change_model.proofs.TerminatorsLeft.{ends_left}
use Rattle.change_model.proofs.TypesNamed.{shape_by}
use Rattle.change_model.proofs.UsedLeft.{kept_uses}
use Rattle.change_model.proofs.VisibleUses.{all_mapped, phi_seen, others_seen, phi_unseen, others_unseen}

-- ---- lists

both : (a b : Bool) → a ≡ true → b ≡ true → (a && b) ≡ true
both true b is also = also
both false b is also = cc

or_left : (a b : Bool) → a ≡ true → (a || b) ≡ true
or_left true b is = refl
or_left false b is = cc

or_right : (a b : Bool) → b ≡ true → (a || b) ≡ true
or_right true b is = refl
or_right false b is = is

pub all_weaker : (p q : ℕ → Bool) (ids : List ℕ) → ((id : ℕ) → p id ≡ true → q id ≡ true) → list_all p ids ≡ true → list_all q ids ≡ true
all_weaker p q [] each all = refl
all_weaker p q (id ∷ ids) each all = both (q id) (list_all q ids) (each id (first_of_both (p id) (list_all p ids) all)) (all_weaker p q ids each (second_of_both (p id) (list_all p ids) all))

all_named : (name : ℕ → ℕ) (p q : ℕ → Bool) (ids : List ℕ) → ((id : ℕ) → is_among (name id) (map name ids) ≡ true → p id ≡ true → q (name id) ≡ true) → list_all p ids ≡ true → list_all q (map name ids) ≡ true
all_named name p q [] each all = refl
all_named name p q (id ∷ ids) each all =
    both (q (name id)) (list_all q (map name ids)) (each id (or_left (name id == name id) _ (eq-eqb (name id) (name id) refl)) (first_of_both (p id) (list_all p ids) all))
    (all_named name p q ids (λ other among. each other (or_right (name id == name other) _ among)) (second_of_both (p id) (list_all p ids) all))

all_left : (test p : Incoming → Bool) (pairs : List Incoming) → ((pair : Incoming) → In pair pairs → p pair ≡ true → test pair ≡ true) → list_all test (filter p pairs) ≡ true
all_left test p [] each = refl
all_left test p (pair ∷ pairs) each = by_test (p pair) refl (all_left test p pairs (λ other has. each other (inr has)))
  where
    by_test : (b : Bool) → p pair ≡ b → list_all test (filter p pairs) ≡ true → list_all test (if b then pair ∷ filter p pairs else filter p pairs) ≡ true
    by_test true is rest = both (test pair) (list_all test (filter p pairs)) (each pair (inl refl) is) rest
    by_test false isnt rest = rest

all_renamed : (name : ℕ → ℕ) (test : Incoming → Bool) (pairs : List Incoming) → list_all test (map (renamed_pair name) pairs) ≡ list_all (λ (pair : Incoming). test (renamed_pair name pair)) pairs
all_renamed name test [] = refl
all_renamed name test (pair ∷ pairs) = ap (λ (b : Bool). test (renamed_pair name pair) && b) (all_renamed name test pairs)

-- a pair that is left brings its value under its name
brought : (name : ℕ → ℕ) (p : Incoming → Bool) (pairs : List Incoming) (pair : Incoming) → In pair pairs → p pair ≡ true → list_any (λ (other : Incoming). other.value == name pair.value) (map (renamed_pair name) (filter p pairs)) ≡ true
brought name p [] pair has is = absurd has
brought name p (own ∷ pairs) pair (inl same) is =
    ap (λ (b : Bool). list_any (λ (other : Incoming). other.value == name pair.value) (map (renamed_pair name) (if b then own ∷ filter p pairs else filter p pairs))) (ap p same ∙ is)
    ∙ or_left (name own.value == name pair.value) _ (eq-eqb (name own.value) (name pair.value) (ap (λ (q : Incoming). name q.value) same))
brought name p (own ∷ pairs) pair (inr more) is = by_test (p own) (brought name p pairs pair more is)
  where
    by_test : (b : Bool) → list_any (λ (other : Incoming). other.value == name pair.value) (map (renamed_pair name) (filter p pairs)) ≡ true
        → list_any (λ (other : Incoming). other.value == name pair.value) (map (renamed_pair name) (if b then own ∷ filter p pairs else filter p pairs)) ≡ true
    by_test true rest = or_right (name own.value == name pair.value) _ rest
    by_test false rest = rest

-- ---- what uses nothing

none_used : (inst : Inst) → uses_operands (class_of inst.op) ≡ false → is_choice inst.op ≡ false → used_ids inst ≡ []
unfolding used_ids
none_used inst first second = by_tests (uses_operands (class_of inst.op)) (is_choice inst.op) first second (used_by (kinds inst) inst.words)
  where
    by_tests : (a b : Bool) → a ≡ false → b ≡ false → (others : List ℕ) → (if a then others else if b then word_at 0 inst ∷ [] else []) ≡ []
    by_tests false false first second others = refl
    by_tests true b first second others = cc
    by_tests false true first second others = cc

constant_uses : (of : Option Class) → is_plain_constant_class of ≡ true → uses_operands of ≡ false
constant_uses None is = cc
constant_uses (Some class.Undef) is = cc
constant_uses (Some class.Variable) is = cc
constant_uses (Some class.Memory) is = cc
constant_uses (Some class.Composite) is = cc
constant_uses (Some (class.Scalar operation)) is = cc
constant_uses (Some other) is = refl

record AreNoConstants : Type 0 where
  conditional : is_plain_constant_class (class_of op.BRANCH_CONDITIONAL) ≡ false
  switch : is_plain_constant_class (class_of op.SWITCH) ≡ false
  phi : is_plain_constant_class (class_of op.PHI) ≡ false

no_constants : AreNoConstants
unfolding class_of entry_of
no_constants = record { conditional = refl; switch = refl; phi = refl }

neither : (a b : Bool) → a ≡ false → b ≡ false → (a || b) ≡ false
neither a b first second = rw first second

constant_used : (inst : Inst) → is_plain_constant_class (class_of inst.op) ≡ true → used_ids inst ≡ []
constant_used inst is =
    none_used inst (constant_uses (class_of inst.op) is)
    (neither (inst.op == op.BRANCH_CONDITIONAL) (inst.op == op.SWITCH) (another (λ (o : ℕ). is_plain_constant_class (class_of o)) op.BRANCH_CONDITIONAL no_constants.conditional inst.op is)
    (another (λ (o : ℕ). is_plain_constant_class (class_of o)) op.SWITCH no_constants.switch inst.op is))

branch_used : (label : ℕ) → used_ids (branch_to label) ≡ []
unfolding used_ids class_of entry_of
branch_used label = refl

switch_class : uses_operands (class_of op.SWITCH) ≡ false
unfolding class_of entry_of
switch_class = refl

switch_used : (inst : Inst) → inst.op ≡ op.SWITCH → used_ids inst ≡ word_at 0 inst ∷ []
unfolding used_ids
switch_used inst is = by_tests (uses_operands (class_of inst.op)) (is_choice inst.op) (ap (λ (o : ℕ). uses_operands (class_of o)) is ∙ switch_class) (ap is_choice is) (used_by (kinds inst) inst.words)
  where
    by_tests : (a b : Bool) → a ≡ false → b ≡ true → (others : List ℕ) → (if a then others else if b then word_at 0 inst ∷ [] else []) ≡ word_at 0 inst ∷ []
    by_tests false true first second others = refl
    by_tests true b first second others = cc
    by_tests false false first second others = cc

nothing_unseen : (intervals : List Interval) (insts : List Inst) (place : ℕ) → (inst_at insts place).op == op.PHI ≡ false → used_ids (inst_at insts place) ≡ [] → not_visible intervals insts place ≡ None
nothing_unseen intervals insts place isnt none =
    others_unseen intervals insts place isnt (ap (list_all (λ (id : ℕ). is_visible_use intervals insts (use_at place id))) none)

no_level_phi : is_module_level op.PHI ≡ false
unfolding class_of entry_of
no_level_phi = refl

none_some : {A Q : Type 0} (found : Option A) (x : A) → found ≡ None → found ≡ Some x → Q
none_some found x none some = cc

clash : {Q : Type 0} (b : Bool) → b ≡ true → b ≡ false → Q
clash true is isnt = cc
clash false is isnt = cc

-- ---- in the new list

module _ (g : Planned) where
  abbrev insts : List Inst
  insts = g.words.insts

  abbrev plan : Plan
  plan = g.plan

  abbrev new : List Inst
  new = changed g.plan g.words.insts

  abbrev new_intervals : List Interval
  new_intervals = intervals_of (plan_derives g.words g.valid g.zeros g.plan g.is).derivation

  abbrev old_intervals : List Interval
  old_intervals = intervals_of g.valid.derivation

  -- at the module's level
  level_use : (k : ℕ) → k < function_at insts → (id : ℕ) → is_defined_for old_intervals k (definition insts id) ≡ true → is_defined_for new_intervals k (definition new id) ≡ true
  level_use k low id visible = by_found (definition insts id) refl visible
    where
      by_found : (found : Option ℕ) → definition insts id ≡ found → is_defined_for old_intervals k found ≡ true → is_defined_for new_intervals k (definition new id) ≡ true
      by_found None defined visible = cc
      by_found (Some at) defined visible =
          let less = (seen old_intervals at k visible).0 in
          let far = new_before g in
          ap (is_defined_for new_intervals k) (level_defined g id at defined (omega (arith, less, low))) ∙ front_visible g at k (omega (arith, less, low, far)) less

  level_unseen : (k : ℕ) → k < function_at insts → not_visible new_intervals new k ≡ None
  level_unseen k low =
      let most = function_within insts in
      let same = level_inst g k low in
      let f = function_is insts g.valid.derivation in
      let isnt : (inst_at insts k).op == op.PHI ≡ false = another is_module_level op.PHI no_level_phi (inst_at insts k).op (level_class insts g.valid.derivation k (omega (arith, low, f))) in
      others_unseen new_intervals new k (ap (λ (i : Inst). i.op == op.PHI) same ∙ isnt)
      (ap (λ (i : Inst). list_all (λ (id : ℕ). is_defined_for new_intervals k (definition new id)) (used_ids i)) same
      ∙ all_weaker (λ (id : ℕ). is_defined_for old_intervals k (definition insts id)) (λ (id : ℕ). is_defined_for new_intervals k (definition new id)) (used_ids (inst_at insts k)) (level_use k low)
      (others_seen old_intervals insts k (valid_seen g.words g.valid k (omega (arith, low, most))) isnt))

  -- what an instruction that is written uses isn't unused
  is_used : (b : ℕ) (y : Inst) (id : ℕ) → written_at plan insts b ≡ y ∷ [] → is_user id y ≡ true → is_unused_at plan (definition insts id) ≡ false
  is_used b y id written user =
      used_left g.words g.valid g.zeros plan g.is id b (ap (list_any (is_user id)) written ∙ or_left (is_user id y) false user)

  -- an instruction that uses what an old one did, under other names
  others_left : (b : ℕ) (y : Inst) → function_at insts ≤ b → b < length insts → written_at plan insts b ≡ y ∷ [] → (inst_at insts b).op == op.PHI ≡ false → y.op == op.PHI ≡ false
      → used_ids y ≡ map plan.name (used_ids (inst_at insts b)) → not_visible new_intervals new (place_left plan insts b) ≡ None
  others_left b y low within written old_isnt isnt uses =
      let k = place_left plan insts b in
      let at = written_there g b y low within written in
      others_unseen new_intervals new k (ap (λ (i : Inst). i.op == op.PHI) at ∙ isnt)
      (ap (λ (i : Inst). list_all (λ (id : ℕ). is_defined_for new_intervals k (definition new id)) (used_ids i)) at
      ∙ ap (list_all (λ (id : ℕ). is_defined_for new_intervals k (definition new id))) uses
      ∙ all_named plan.name (λ (id : ℕ). is_defined_for old_intervals b (definition insts id)) (λ (id : ℕ). is_defined_for new_intervals k (definition new id)) (used_ids (inst_at insts b))
      (λ id among visible. name_seen g id b y low written visible
      (is_used b y (plan.name id) written (or_left (is_among (plan.name id) (used_ids y)) (is_incoming (plan.name id) y) (ap (is_among (plan.name id)) uses ∙ among))))
      (others_seen old_intervals insts b (valid_seen g.words g.valid b within) old_isnt))

  -- ---- a phi

  phi_inside : (b : ℕ) → function_at insts ≤ b → b < length insts → (inst_at insts b).op == op.PHI ≡ true → (g.valid.derivation.before + 1 ≤ b) × (b < g.valid.derivation.after)
  phi_inside b low within is = (
    elim (cases_lt g.valid.derivation.before b) [
      | inl more ↦ omega (arith, more)
      | inr upto ↦
          let f = function_is insts g.valid.derivation in
          let e : b ≡ g.valid.derivation.before = omega (arith, f, low, upto) in
          clash ((inst_at insts b).op == op.PHI) is (ap (λ (n : ℕ). (inst_at insts n).op == op.PHI) e ∙ ap (λ (o : ℕ). o == op.PHI) (function_op insts g.valid.derivation))
    ],
    elim (cases_lt b g.valid.derivation.after) [
      | inl less ↦ less
      | inr past ↦
          let last = g.valid.derivation.last in
          let e : b ≡ g.valid.derivation.after = omega (arith, past, within, last) in
          clash ((inst_at insts b).op == op.PHI) is (ap (λ (n : ℕ). (inst_at insts n).op == op.PHI) e ∙ ap (λ (o : ℕ). o == op.PHI) (end_op insts g.valid.derivation))
    ],
  )

  -- a type is of the module's level
  type_used : (id : ℕ) → is_shape (meaning insts id) ≡ true → is_unused_at plan (definition insts id) ≡ false
  type_used id shape = by_found (definition insts id) refl
    where
      by_found : (found : Option ℕ) → definition insts id ≡ found → is_unused_at plan found ≡ false
      by_found None defined = refl
      by_found (Some at) defined = elim (cases_lt at (function_at insts)) [
        | inl low ↦ ap is_unused_fate (level_stays g at low)
        | inr late ↦ (let s = shape_by (meaning insts id) shape in none_some (shape_in (meaning insts id)) s.0 (function_shapeless g id at defined late) (ap shape_in s.1))
      ]

  module _ (b : ℕ) (low : function_at insts ≤ b) (within : b < length insts) (is : (inst_at insts b).op == op.PHI ≡ true) (stays : plan.fate b ≡ Stays) where
    abbrev blocks : List ℕ
    blocks = predecessors_left plan insts (block_at insts b)

    abbrev y : Inst
    y = phi_left plan.name blocks (inst_at insts b)

    abbrev k : ℕ
    k = place_left plan insts b

    phi_type : written_at plan insts b ≡ y ∷ [] → is_defined_for old_intervals b (definition insts (word_at 0 (inst_at insts b))) ≡ true → is_defined_for new_intervals k (definition new (word_at 0 (inst_at insts b))) ≡ true
    phi_type written visible =
        let type = word_at 0 (inst_at insts b) in
        let i = phi_inside b low within is in
        let early = i.0 in
        let fits = fits_there g b Stays stays (record { low = omega (arith, early); high = i.1 }) in
        let shape = fits.type (eqb-true (inst_at insts b).op op.PHI is) in
        let s = shape_by (meaning insts type) shape in
        let named = name_of_type g type s.0 s.1 in
        ap (λ (n : ℕ). is_defined_for new_intervals k (definition new n)) (sym named)
        ∙ name_seen g type b y low written visible (ap (λ (n : ℕ). is_unused_at plan (definition insts n)) named ∙ type_used type shape)

    phi_value : written_at plan insts b ≡ y ∷ [] → incoming y ≡ map (renamed_pair plan.name) (pairs_in blocks (incoming (inst_at insts b))) → (pair : Incoming) → In pair (incoming (inst_at insts b)) → is_among pair.block blocks ≡ true
        → is_visible_use new_intervals new (incoming_use new k (renamed_pair plan.name pair)) ≡ true
    phi_value written pairs pair has left =
        let p = pair_left g b pair within is has left in
        let f = function_is insts g.valid.derivation in
        let e = ends_left g.words g.valid g.zeros plan g.is p.end p.low p.high p.ends p.alive in
        let plow = p.low in
        let user : is_incoming (plan.name pair.value) y ≡ true =
        both (y.op == op.PHI) (list_any (λ (other : Incoming). other.value == plan.name pair.value) (incoming y)) is
        (ap (list_any (λ (other : Incoming). other.value == plan.name pair.value)) pairs ∙ brought plan.name (λ (other : Incoming). is_among other.block blocks) (incoming (inst_at insts b)) pair has left) in
        ap (λ (o : Option ℕ). is_defined_for new_intervals (unwrap_or o k) (definition new (plan.name pair.value))) (block_end_changed g pair.block p.end p.block_end p.alive)
        ∙ name_seen g pair.value p.end e.inst (omega (arith, f, plow)) e.written p.seen
        (is_used b y (plan.name pair.value) written (or_right (is_among (plan.name pair.value) (used_ids y)) (is_incoming (plan.name pair.value) y) user))

    phi_left_unseen : written_at plan insts b ≡ y ∷ [] → not_visible new_intervals new k ≡ None
    phi_left_unseen written =
        let inst = inst_at insts b in
        let i = phi_inside b low within is in
        let has = (valid_sound g.words g.valid).shaped b within in
        let old = phi_seen old_intervals insts b (valid_seen g.words g.valid b within) is in
        let at = written_there g b y low within written in
        let pairs = phi_pairs plan.name blocks inst is has in
        phi_unseen new_intervals new k (ap (λ (x : Inst). x.op == op.PHI) at ∙ is) (phi_changed g b i.0 i.1 is has (ap is_dead stays) old.0 at)
        (ap (λ (x : Inst). list_all (is_visible_use new_intervals new) (phi_uses new k x)) at
        ∙ both (is_visible_use new_intervals new (use_at k (word_at 0 y))) (list_all (is_visible_use new_intervals new) (map (incoming_use new k) (incoming y)))
        (ap (λ (n : ℕ). is_defined_for new_intervals k (definition new n)) pairs.1
        ∙ phi_type written (first_of_both (is_visible_use old_intervals insts (use_at b (word_at 0 inst))) (list_all (is_visible_use old_intervals insts) (map (incoming_use insts b) (incoming inst))) old.1))
        (ap (λ (l : List Incoming). list_all (is_visible_use new_intervals new) (map (incoming_use new k) l)) pairs.0
        ∙ all_mapped (is_visible_use new_intervals new) (incoming_use new k) (map (renamed_pair plan.name) (pairs_in blocks (incoming inst)))
        ∙ all_renamed plan.name (λ (pair : Incoming). is_visible_use new_intervals new (incoming_use new k pair)) (pairs_in blocks (incoming inst))
        ∙ all_left (λ (pair : Incoming). is_visible_use new_intervals new (incoming_use new k (renamed_pair plan.name pair))) (λ (pair : Incoming). is_among pair.block blocks) (incoming inst) (phi_value written pairs.0)))

  -- ---- all of them

  kept_phi : (b : ℕ) → (inst_at insts b).op == op.PHI ≡ true → kept_at plan insts b (inst_at insts b) ≡ phi_left plan.name (predecessors_left plan insts (block_at insts b)) (inst_at insts b)
  kept_phi b is = rw is refl

  kept_plain : (b : ℕ) → (inst_at insts b).op == op.PHI ≡ false → (kept_at plan insts b (inst_at insts b)).op == op.PHI ≡ false
  kept_plain b isnt = rw isnt isnt

  written_unseen : (b : ℕ) (inst : Inst) → function_at insts ≤ b → b < length insts → written_at plan insts b ≡ inst ∷ [] → IsWritten g b inst → not_visible new_intervals new (place_left plan insts b) ≡ None
  written_unseen b inst low within written (keeps same is) = by_phi ((inst_at insts b).op == op.PHI) refl
    where
      kept_written : written_at plan insts b ≡ kept_at plan insts b (inst_at insts b) ∷ []
      kept_written = written ∙ ap (λ (i : Inst). i ∷ []) (sym is)

      by_phi : (x : Bool) → (inst_at insts b).op == op.PHI ≡ x → not_visible new_intervals new (place_left plan insts b) ≡ None
      by_phi true phi = phi_left_unseen b low within phi same (kept_written ∙ ap (λ (i : Inst). i ∷ []) (kept_phi b phi))
      by_phi false isnt = others_left b (kept_at plan insts b (inst_at insts b)) low within kept_written isnt (kept_plain b isnt) (kept_uses g b low within isnt)
  written_unseen b inst low within written (goes label same may is) =
      let at = written_there g b inst low within written ∙ sym is in
      nothing_unseen new_intervals new (place_left plan insts b) (ap (λ (i : Inst). i.op == op.PHI) at) (ap used_ids at ∙ branch_used label)
  written_unseen b inst low within written (picks label same may is) =
      let old = inst_at insts b in
      let y = switch_to (plan.name (word_at 0 old)) label in
      others_left b y low within (written ∙ ap (λ (i : Inst). i ∷ []) (sym is)) (ap (λ (o : ℕ). o == op.PHI) may.is_switch) refl
      (switch_used y refl ∙ ap (map plan.name) (sym (switch_used old may.is_switch)))

  -- what an instruction of the new list uses is visible where it stands
  pub visible_changed : (k : ℕ) → k < length new → not_visible new_intervals new k ≡ None
  visible_changed k within = by_kind (stood_at plan insts k (function_within insts) within)
    where
      by_kind : StoodAt plan insts k → not_visible new_intervals new k ≡ None
      by_kind (of_level low) = level_unseen k low
      by_kind (of_constant old inst low high is late early found) =
          let at = found_at new k inst found in
          let plain = (new_is_plain g old inst (is_new_constant g old inst is)).class_is in
          nothing_unseen new_intervals new k
          (ap (λ (i : Inst). i.op == op.PHI) at ∙ another (λ (o : ℕ). is_plain_constant_class (class_of o)) op.PHI no_constants.phi inst.op plain) (ap used_ids at ∙ constant_used inst plain)
      by_kind (of_function old inst low high is there found) = ap (not_visible new_intervals new) (sym there) ∙ written_unseen old inst low high is (is_written g old inst is)
