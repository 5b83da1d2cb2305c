-- Types, variables and the function are allowed in the list that a plan makes, and no type stands behind its use.
use Rattle.std.proofs.Common.{◌≡◌, ℕ, zero, suc, ◌<◌, ◌≤◌, ◌==◌, ◌&&◌, ◌||◌, not, nat_lt, inl, inr, Bool, true, false, if◌then◌else◌, List, [], ◌∷◌, length, take, refl, ap, sym, ◌∙◌, arith, le-ltb, lt-ltb, Option, None, Some}
use Rattle.std.specs.Option.{option_map}
use Rattle.std.proofs.lemmas.Bool.{cases_lt}
use Rattle.std.proofs.lemmas.List.{get_or-take}
use Rattle.spirv_model.specs.declared.module.Inst.{Inst}
use Rattle.spirv_model.specs.declared.op.TheConstants as op
use Rattle.spirv_model.specs.Operands.{word_at, result}
use Rattle.valid_model.specs.declared.meaning.Shape.{Shape}
use Rattle.valid_model.specs.declared.meaning.Meaning.TheVariants.{Absent, Shape as OfShape}
use Rattle.valid_model.specs.Definitions.{gives, inst_at, no_instruction, definition}
use Rattle.valid_model.specs.FirstFault.{bad_type}
use Rattle.valid_model.specs.Knowledge.{Knowledge, is_void, meaning_in}
use Rattle.valid_model.specs.Types.{is_type, is_pointer_of, is_function, breaks_types, result_type, is_type_after, is_later_type, has_later_type}
use Rattle.valid_model.specs.Meanings.{known_of, known_by, known_before, meaning}
use Rattle.valid_model.proofs.KnownIds.{known_by_definition, unknown_without_definition}
use Rattle.typed_model.proofs.SilentSteps.{given_id}
use Rattle.typed_model.proofs.TypedSteps.{gives_at}
use Rattle.typed_model.proofs.ValidTypes.{defined_within, stays_known}
use Rattle.change_model.specs.Folding.{function_at}
use Rattle.change_model.specs.Plans.{changed}
use Rattle.change_model.proofs.BehindLevel.{no_type_behind}
use Rattle.change_model.proofs.ChangedDefinitions.{old_defined, level_defined}
use Rattle.change_model.proofs.ChangedMeanings.{take_less, level_before, level_inst}
use Rattle.change_model.proofs.ChangedPlaces.{function_within}
use Rattle.change_model.proofs.ChangedShapes.{shape_in, function_shapeless}
use Rattle.change_model.proofs.ConstantsSound.{keeps_all}
use Rattle.change_model.proofs.Planned.{Planned}

-- ---- types before their uses

either : (a b : Bool) → (a || b) ≡ false → (a ≡ false) × (b ≡ false)
either true b is = cc
either false b is = (refl, is)

and_false : (a b : Bool) → b ≡ false → (a && b) ≡ false
and_false true b is = is
and_false false b is = refl

-- what the new list defines at the module's level, the old one does
pub level_defined_before : (g : Planned) (id q : ℕ) → definition (changed g.plan g.words.insts) id ≡ Some q → q < function_at g.words.insts → definition g.words.insts id ≡ Some q
level_defined_before g id q at low =
    let most = function_within g.words.insts in
    old_defined g q id (omega (arith, low, most)) (ap result (sym (level_inst g q low)) ∙ given_id id (result (inst_at (changed g.plan g.words.insts) q)) (gives_at (changed g.plan g.words.insts) id q at))

pub later_changed : (g : Planned) (k : ℕ) → k < length (changed g.plan g.words.insts) → has_later_type (changed g.plan g.words.insts) k ≡ false
unfolding has_later_type breaks_types bad_type
later_changed g k within = by_type (result_type (inst_at list k)) refl
  where
    insts : List Inst
    insts = g.words.insts

    list : List Inst
    list = changed g.plan g.words.insts

    first : ℕ
    first = function_at g.words.insts

    at_level : (type q : ℕ) → result_type (inst_at list k) ≡ Some type → definition list type ≡ Some q → q < first → k < q → is_type (inst_at list q).op ≡ false
    at_level type q uses at low less =
        let most = function_within insts in
        let old = (either (breaks_types (known_before insts k) (inst_at insts k)) (is_later_type insts k (result_type (inst_at insts k))) (keeps_all g.words g.valid.sound k (omega (arith, less, low, most))).types).1 in
        let also : result_type (inst_at insts k) ≡ Some type = ap result_type (sym (level_inst g k (omega (arith, less, low)))) ∙ uses in
        let judged : (nat_lt k q && is_type (inst_at insts q).op) ≡ false =
        sym (ap (is_type_after insts k) (level_defined_before g type q at low)) ∙ sym (ap (is_later_type insts k) also) ∙ old in
        ap (λ (i : Inst). is_type i.op) (level_inst g q low) ∙ second (nat_lt k q) (is_type (inst_at insts q).op) (lt-ltb k q less) judged
      where
        second : (a b : Bool) → a ≡ true → (a && b) ≡ false → b ≡ false
        second true b is so = so
        second false b is so = cc

    by_found : (type : ℕ) → result_type (inst_at list k) ≡ Some type → (found : Option ℕ) → definition list type ≡ found → is_type_after list k found ≡ false
    by_found type uses None at = refl
    by_found type uses (Some q) at = elim (cases_lt k q) [
      | inl less ↦ elim (cases_lt q first) [
        | inl low ↦ and_false (nat_lt k q) (is_type (inst_at list q).op) (at_level type q uses at low less)
        | inr late ↦ and_false (nat_lt k q) (is_type (inst_at list q).op) (no_type_behind g q late (defined_within list type q at))
      ]
      | inr upto ↦ ap (λ (b : Bool). b && is_type (inst_at list q).op) (le-ltb k q upto)
    ]

    by_type : (uses : Option ℕ) → result_type (inst_at list k) ≡ uses → is_later_type list k uses ≡ false
    by_type None is = refl
    by_type (Some type) is = by_found type is (definition list type) refl

-- ---- what is known of types

definition_taken : (k : ℕ) (insts : List Inst) (id q : ℕ) → q < k → definition insts id ≡ Some q → definition (take k insts) id ≡ Some q
unfolding definition
definition_taken zero insts id q less at = absurd (omega (arith, less))
definition_taken (suc k) [] id q less at = cc
definition_taken (suc k) (inst ∷ insts) id q less at = by_test (definition_taken k insts id) (gives id inst) (definition insts id) refl at
  where
    by_test : ((q : ℕ) → q < k → definition insts id ≡ Some q → definition (take k insts) id ≡ Some q)
        → (b : Bool) (later : Option ℕ) → definition insts id ≡ later → (if b then Some 0 else option_map (λ (n : ℕ). suc n) later) ≡ Some q
        → (if b then Some 0 else option_map (λ (n : ℕ). suc n) (definition (take k insts) id)) ≡ Some q
    by_test rest true later found is = is
    by_test rest false None found is = cc
    by_test rest false (Some n) found is =
        let e : suc n ≡ q = same (suc n) q is in
        ap (option_map (λ (n : ℕ). suc n)) (rest n (omega (arith, e, less)) found) ∙ is
      where
        same : (a b : ℕ) → ◌≡◌ {A = Option ℕ} (Some a) (Some b) → a ≡ b
        same a b is = cc

-- of what the module's level defines the same is known at each place behind it
pub known_behind : (g : Planned) (id q k : ℕ) → definition g.words.insts id ≡ Some q → q < function_at g.words.insts → function_at g.words.insts ≤ k
    → known_before (changed g.plan g.words.insts) k id ≡ known_by g.words.insts id
known_behind g id q k at low late =
    let list = changed g.plan g.words.insts in
    known_by_definition (take k list) id q (definition_taken k list id q (omega (arith, low, late)) (level_defined g id q at low))
    ∙ ap (λ (l : List Inst). Some (known_of (known_by l) (inst_at (take k list) q))) (take_less q k list (omega (arith, low, late)) ∙ level_before g q (omega (arith, low)))
    ∙ ap (λ (i : Inst). Some (known_of (known_before g.words.insts q) i)) (get_or-take k list q no_instruction (omega (arith, low, late)) ∙ level_inst g q low)
    ∙ sym (known_by_definition g.words.insts id q at)

no_meaning : (shape : Shape) → Absent ≡ OfShape shape → ⊥
no_meaning shape is = cc

-- so is the shape of a type
pub type_behind : (g : Planned) (old k id : ℕ) (shape : Shape) → function_at g.words.insts ≤ k → meaning_in (known_before g.words.insts old id) ≡ OfShape shape
    → meaning_in (known_before (changed g.plan g.words.insts) k id) ≡ OfShape shape
type_behind g old k id shape late is = by_found (definition insts id) refl
  where
    insts : List Inst
    insts = g.words.insts

    means : meaning g.words.insts id ≡ OfShape shape
    means = stays_known g.words.insts old id shape (known_before g.words.insts old id) refl is

    none : (some : Shape) → ◌≡◌ {A = Option Shape} None (Some some) → ⊥
    none some is = cc

    by_found : (found : Option ℕ) → definition insts id ≡ found → meaning_in (known_before (changed g.plan insts) k id) ≡ OfShape shape
    by_found None at = absurd (no_meaning shape (sym (ap meaning_in (unknown_without_definition insts id at)) ∙ means))
    by_found (Some q) at = elim (cases_lt q (function_at insts)) [
      | inl low ↦ ap meaning_in (known_behind g id q k at low late) ∙ means
      | inr behind ↦ absurd (none shape (sym (function_shapeless g id q at behind) ∙ ap shape_in means))
    ]

-- ---- what is allowed

pub breaks_none : (known : Knowledge) (inst : Inst) → is_type inst.op ≡ false → (inst.op == op.VARIABLE ≡ true → is_pointer_of (word_at 2 inst) (meaning_in (known (word_at 0 inst))) ≡ true)
    → (inst.op == op.FUNCTION ≡ true → (is_void (meaning_in (known (word_at 0 inst))) && is_function (meaning_in (known (word_at 3 inst)))) ≡ true) → breaks_types known inst ≡ false
unfolding breaks_types
breaks_none known inst no_type variable function = rw no_type (by_tests (inst.op == op.VARIABLE) (inst.op == op.FUNCTION) variable function)
  where
    by_tests : (a b : Bool) → (a ≡ true → is_pointer_of (word_at 2 inst) (meaning_in (known (word_at 0 inst))) ≡ true) → (b ≡ true → (is_void (meaning_in (known (word_at 0 inst))) && is_function (meaning_in (known (word_at 3 inst)))) ≡ true)
        → (if a then not (is_pointer_of (word_at 2 inst) (meaning_in (known (word_at 0 inst)))) else if b then not (is_void (meaning_in (known (word_at 0 inst))) && is_function (meaning_in (known (word_at 3 inst)))) else false) ≡ false
    by_tests true b variable function = ap not (variable refl)
    by_tests false true variable function = ap not (function refl)
    by_tests false false variable function = refl
