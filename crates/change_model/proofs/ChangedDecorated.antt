-- The variables of the function are allowed in the list that a plan makes, and with them all decorations.
use Rattle.std.proofs.Common.{◌≡◌, ℕ, zero, suc, ◌<◌, ◌≤◌, ◌==◌, ◌&&◌, ◌||◌, inl, inr, Bool, true, false, if◌then◌else◌, List, [], ◌∷◌, length, take, refl, ap, sym, ◌∙◌, arith, Option}
use Rattle.std.specs.List.{list_any}
use Rattle.std.proofs.lemmas.Bool.{cases_lt}
use Rattle.spirv_model.specs.declared.module.Inst.{Inst}
use Rattle.spirv_model.specs.declared.op.TheConstants as op
use Rattle.spirv_model.specs.declared.decoration.TheConstants.{BUILT_IN}
use Rattle.spirv_model.specs.declared.builtin.TheConstants as builtin
use Rattle.spirv_model.specs.declared.storage_class.TheConstants as storage_class
use Rattle.spirv_model.specs.Operands.{word_at, entry_of, class_of}
use Rattle.valid_model.specs.Decorations.{bad_decorate, bad_member_decorate, breaks_decorations, bad_decoration}
use Rattle.valid_model.specs.Definitions.{inst_at}
use Rattle.valid_model.specs.EarlierFacts.{EarlierFacts, before_of}
use Rattle.valid_model.specs.ModuleFacts.{ModuleFacts, facts_of, has_position, is_word}
use Rattle.valid_model.specs.Variables.{bad_interface, bad_location, bad_uniform, bad_push, second_position, bad_variable}
use Rattle.typed_model.proofs.BlockParts.{another, clash}
use Rattle.typed_model.proofs.ValidTypes.{keeps_decorations}
use Rattle.change_model.specs.Folding.{function_at}
use Rattle.change_model.specs.Plans.{changed}
use Rattle.change_model.specs.Settling.{is_plain_constant_class}
use Rattle.change_model.proofs.BehindLevel.{BehindLevel, new_one, written_one, behind_level, setting_new, no_setting, are_settings}
use Rattle.change_model.proofs.ChangedDecorations.{decorations_of_level}
use Rattle.change_model.proofs.ChangedMeanings.{level_inst}
use Rattle.change_model.proofs.ChangedPlaces.{place_left, rises}
use Rattle.change_model.proofs.ChangedShapes.{facts_changed}
use Rattle.change_model.proofs.ChangedVariables.{variable_old, written_variable}
use Rattle.change_model.proofs.NewConstants.{new_is_plain}
use Rattle.change_model.proofs.Planned.{Planned}
use Rattle.change_model.proofs.SameFacts.{location_same, position_same}
use Rattle.change_model.proofs.Settlings.{op_is}

-- ---- what passes a test before a place

record PassesAt (p : Inst → Bool) (insts : List Inst) (k : ℕ) : Type 0 where
  place : ℕ
  less : place < k
  within : place < length insts
  passes : p (inst_at insts place) ≡ true

any_at : (p : Inst → Bool) (k : ℕ) (insts : List Inst) → list_any p (take k insts) ≡ true → PassesAt p insts k
any_at p zero insts is = cc
any_at p (suc k) [] is = cc
any_at p (suc k) (inst ∷ insts) is = by_test (any_at p k insts) (p inst) refl is
  where
    by_test : (list_any p (take k insts) ≡ true → PassesAt p insts k) → (b : Bool) → p inst ≡ b → (b || list_any p (take k insts)) ≡ true → PassesAt p (inst ∷ insts) (suc k)
    by_test rest true here is = record { place = 0; less = omega arith; within = omega arith; passes = here }
    by_test rest false here is =
        let r = rest is in
        let l = r.less in let w = r.within in
        record { place = suc r.place; less = omega (arith, l); within = omega (arith, w); passes = r.passes }

pub any_there : (p : Inst → Bool) (k : ℕ) (insts : List Inst) (place : ℕ) → place < k → place < length insts → p (inst_at insts place) ≡ true → list_any p (take k insts) ≡ true
any_there p zero insts place less within is = absurd (omega (arith, less))
any_there p (suc k) [] place less within is = absurd (omega (arith, within))
any_there p (suc k) (inst ∷ insts) zero less within is = ap (λ (b : Bool). b || list_any p (take k insts)) is
any_there p (suc k) (inst ∷ insts) (suc place) less within is = later (p inst) (any_there p k insts place (omega (arith, less)) (omega (arith, within)) is)
  where
    later : (b : Bool) → list_any p (take k insts) ≡ true → (b || list_any p (take k insts)) ≡ true
    later true is = refl
    later false is = is

-- ---- the position

at_position : (ℕ → ℕ → Option ℕ) → Inst → Bool
at_position decoration inst = (inst.op == op.VARIABLE) && is_word builtin.POSITION (decoration (word_at 1 inst) BUILT_IN)

position_is : (facts : ModuleFacts) (insts : List Inst) → (before_of facts insts).position ≡ list_any (at_position facts.decoration) insts
unfolding before_of at_position
position_is facts insts = refl

of_variable : (decoration : ℕ → ℕ → Option ℕ) (inst : Inst) → at_position decoration inst ≡ true → inst.op == op.VARIABLE ≡ true
unfolding at_position
of_variable decoration inst is = front (inst.op == op.VARIABLE) (is_word builtin.POSITION (decoration (word_at 1 inst) BUILT_IN)) is
  where
    front : (a b : Bool) → (a && b) ≡ true → a ≡ true
    front true b is = refl
    front false b is = cc

no_constant : is_plain_constant_class (class_of op.VARIABLE) ≡ false
unfolding class_of entry_of
no_constant = refl

-- a variable that passes before what is left of an instruction passed before the instruction
passed_before : (g : Planned) (p : Inst → Bool) → ((inst : Inst) → p inst ≡ true → inst.op == op.VARIABLE ≡ true) → (old : ℕ) → function_at g.words.insts ≤ old → old < length g.words.insts
    → list_any p (take (place_left g.plan g.words.insts old) (changed g.plan g.words.insts)) ≡ true → list_any p (take old g.words.insts) ≡ true
passed_before g p variable old low within is =
    by_place (any_at p (place_left g.plan g.words.insts old) (changed g.plan g.words.insts) is)
  where
    insts : List Inst
    insts = g.words.insts

    by_kind : (j : ℕ) → j < place_left g.plan g.words.insts old → p (inst_at (changed g.plan g.words.insts) j) ≡ true → BehindLevel g j → list_any p (take old g.words.insts) ≡ true
    by_kind j less passes (new_one other inst n least most there at) =
        absurd (clash (inst.op == op.VARIABLE) (variable inst (ap p (sym at) ∙ passes)) (another (λ o. is_plain_constant_class (class_of o)) op.VARIABLE no_constant inst.op (new_is_plain g other inst n).class_is))
    by_kind j less passes (written_one other inst w least most there at) =
        let e = written_variable g other inst w (variable inst (ap p (sym at) ∙ passes)) in
        elim (cases_lt other old) [
          | inl early ↦ any_there p old insts other early most (ap p e ∙ ap p (sym at) ∙ passes)
          | inr late ↦ let more = rises g.plan insts old other late in absurd (omega (arith, more, there, less))
        ]

    by_place : PassesAt p (changed g.plan g.words.insts) (place_left g.plan g.words.insts old) → list_any p (take old g.words.insts) ≡ true
    by_place r = elim (cases_lt r.place (function_at insts)) [
      | inl early ↦ any_there p old insts r.place (omega (arith, early, low)) (omega (arith, early, low, within)) (ap p (sym (level_inst g r.place early)) ∙ r.passes)
      | inr late ↦ by_kind r.place r.less r.passes (behind_level g r.place late r.within)
    ]

position_before : (g : Planned) (old : ℕ) → function_at g.words.insts ≤ old → old < length g.words.insts
    → (before_of (facts_of (changed g.plan g.words.insts)) (take (place_left g.plan g.words.insts old) (changed g.plan g.words.insts))).position ≡ true → (before_of (facts_of g.words.insts) (take old g.words.insts)).position ≡ true
position_before g old low within is =
    let list = changed g.plan g.words.insts in
    let s = facts_changed g in
    let d = (facts_of g.words.insts).decoration in
    position_is (facts_of g.words.insts) (take old g.words.insts)
    ∙ passed_before g (at_position d) (of_variable d) old low within
    (ap (λ (c : ℕ → ℕ → Option ℕ). list_any (at_position c) (take (place_left g.plan g.words.insts old) list)) (sym s.decoration)
    ∙ sym (position_is (facts_of list) (take (place_left g.plan g.words.insts old) list)) ∙ is)

-- ---- variables of class Function

record IsAllowed (facts : ModuleFacts) (before : EarlierFacts) (type id : ℕ) : Type 0 where
  location : bad_location facts id type ≡ false
  position : (has_position facts id && before.position) ≡ false

either : (a b : Bool) → (a || b) ≡ false → (a ≡ false) × (b ≡ false)
either true b is = cc
either false b is = (refl, is)

said : (facts : ModuleFacts) (before : EarlierFacts) (type id : ℕ) → bad_variable facts before type id storage_class.FUNCTION ≡ false → IsAllowed facts before type id
unfolding bad_variable
said facts before type id is =
    let a = either (bad_interface facts id storage_class.FUNCTION || bad_location facts id type || bad_uniform facts before type id storage_class.FUNCTION || bad_push facts before type storage_class.FUNCTION) (second_position facts before id) is in
    let b = either (bad_interface facts id storage_class.FUNCTION || bad_location facts id type || bad_uniform facts before type id storage_class.FUNCTION) (bad_push facts before type storage_class.FUNCTION) a.0 in
    let c = either (bad_interface facts id storage_class.FUNCTION || bad_location facts id type) (bad_uniform facts before type id storage_class.FUNCTION) b.0 in
    record { location = (either (bad_interface facts id storage_class.FUNCTION) (bad_location facts id type) c.0).1; position = a.1 }

judged : (facts : ModuleFacts) (before : EarlierFacts) (type id : ℕ) → IsAllowed facts before type id → bad_variable facts before type id storage_class.FUNCTION ≡ false
unfolding bad_variable
judged facts before type id i = rw i.location (rw i.position refl)

still_off : (has new old : Bool) → (new ≡ true → old ≡ true) → (has && old) ≡ false → (has && new) ≡ false
still_off true true old keeps is = sym (keeps refl) ∙ is
still_off true false old keeps is = refl
still_off false new old keeps is = refl

pub is_judged : (facts : ModuleFacts) (before : EarlierFacts) (inst : Inst) → inst.op ≡ op.VARIABLE → breaks_decorations facts before inst ≡ bad_variable facts before (word_at 0 inst) (word_at 1 inst) (word_at 2 inst)
unfolding breaks_decorations
is_judged facts before inst is = ap (λ (o : ℕ). if o == op.DECORATE then bad_decorate facts before (word_at 0 inst) (word_at 1 inst) (word_at 2 inst) (length inst.words)
    else if o == op.MEMBER_DECORATE then bad_member_decorate before (word_at 0 inst) (word_at 1 inst) (word_at 2 inst) (length inst.words)
    else if o == op.VARIABLE then bad_variable facts before (word_at 0 inst) (word_at 1 inst) (word_at 2 inst) else false) is

function_variable : (g : Planned) (old : ℕ) → function_at g.words.insts ≤ old → old < length g.words.insts → (inst_at g.words.insts old).op ≡ op.VARIABLE → (inst_at g.words.insts old).op == op.VARIABLE ≡ true
    → breaks_decorations (facts_of (changed g.plan g.words.insts)) (before_of (facts_of (changed g.plan g.words.insts)) (take (place_left g.plan g.words.insts old) (changed g.plan g.words.insts))) (inst_at g.words.insts old) ≡ false
unfolding bad_decoration
function_variable g old low within is test =
    let insts = g.words.insts in
    let list = changed g.plan insts in
    let inst = inst_at insts old in
    let new = facts_of list in let facts = facts_of insts in
    let s = facts_changed g in
    let b = before_of new (take (place_left g.plan insts old) list) in
    let c = before_of facts (take old insts) in
    let class = op_is (word_at 2 inst) storage_class.FUNCTION (variable_old g old low within test) in
    let was = said facts c (word_at 0 inst) (word_at 1 inst)
    (ap (bad_variable facts c (word_at 0 inst) (word_at 1 inst)) (sym class) ∙ sym (is_judged facts c inst is) ∙ keeps_decorations g.words g.valid.sound old within) in
    is_judged new b inst is ∙ ap (bad_variable new b (word_at 0 inst) (word_at 1 inst)) class
    ∙ judged new b (word_at 0 inst) (word_at 1 inst) (record {
      location = location_same new facts s (word_at 1 inst) (word_at 0 inst) ∙ was.location;
      position = ap (λ (h : Bool). h && b.position) (position_same new facts s (word_at 1 inst))
          ∙ still_off (has_position facts (word_at 1 inst)) b.position c.position (position_before g old low within) was.position;
    })

-- ---- all of them

none_judged : (facts : ModuleFacts) (before : EarlierFacts) (inst : Inst) → inst.op == op.DECORATE ≡ false → inst.op == op.MEMBER_DECORATE ≡ false → inst.op == op.VARIABLE ≡ false → breaks_decorations facts before inst ≡ false
unfolding breaks_decorations
none_judged facts before inst a b c = rw a (rw b (rw c refl))

pub decorations_stay : (g : Planned) (k : ℕ) → k < length (changed g.plan g.words.insts) → bad_decoration (changed g.plan g.words.insts) k ≡ false
unfolding bad_decoration
decorations_stay g k within = elim (cases_lt k (function_at g.words.insts)) [
  | inl low ↦ decorations_of_level g k low
  | inr late ↦ by_test late ((inst_at list k).op == op.VARIABLE) refl
]
  where
    list : List Inst
    list = changed g.plan g.words.insts

    facts : ModuleFacts
    facts = facts_of (changed g.plan g.words.insts)

    by_kind : (inst_at (changed g.plan g.words.insts) k).op == op.VARIABLE ≡ true → BehindLevel g k
        → breaks_decorations (facts_of (changed g.plan g.words.insts)) (before_of (facts_of (changed g.plan g.words.insts)) (take k (changed g.plan g.words.insts))) (inst_at (changed g.plan g.words.insts) k) ≡ false
    by_kind is (new_one other inst n least most there at) =
        absurd (clash (inst.op == op.VARIABLE) (ap (λ (i : Inst). i.op == op.VARIABLE) (sym at) ∙ is) (another (λ o. is_plain_constant_class (class_of o)) op.VARIABLE no_constant inst.op (new_is_plain g other inst n).class_is))
    by_kind is (written_one old inst w least most there at) =
        let test = ap (λ (i : Inst). i.op == op.VARIABLE) (sym at) ∙ is in
        let e = written_variable g old inst w test in
        let also = ap (λ (i : Inst). i.op == op.VARIABLE) e ∙ test in
        ap (λ (n : ℕ). breaks_decorations (facts_of (changed g.plan g.words.insts)) (before_of (facts_of (changed g.plan g.words.insts)) (take n (changed g.plan g.words.insts))) (inst_at (changed g.plan g.words.insts) k)) (sym there)
        ∙ ap (breaks_decorations facts (before_of facts (take (place_left g.plan g.words.insts old) list))) (at ∙ sym e)
        ∙ function_variable g old least most (op_is (inst_at g.words.insts old).op op.VARIABLE also) also

    by_test : function_at g.words.insts ≤ k → (b : Bool) → (inst_at (changed g.plan g.words.insts) k).op == op.VARIABLE ≡ b
        → breaks_decorations (facts_of (changed g.plan g.words.insts)) (before_of (facts_of (changed g.plan g.words.insts)) (take k (changed g.plan g.words.insts))) (inst_at (changed g.plan g.words.insts) k) ≡ false
    by_test late true is = by_kind is (behind_level g k late within)
    by_test late false is = none_judged facts (before_of facts (take k list)) (inst_at list k)
        (setting_new g (λ inst. inst.op == op.DECORATE) (λ inst isnt. no_setting op.DECORATE inst.op are_settings.decorate isnt) k late within)
        (setting_new g (λ inst. inst.op == op.MEMBER_DECORATE) (λ inst isnt. no_setting op.MEMBER_DECORATE inst.op are_settings.member isnt) k late within) is
