-- Where one pass finds that all stays, no instruction uses an input that is zero.
use Rattle.std.proofs.Common.{◌≡◌, ℕ, ◌-◌, ◌<◌, Bool, true, false, not, ◌==◌, if◌then◌else◌, List, length, take, refl, ap, sym, ◌∙◌, arith, Option, None, Some}
use Rattle.std.specs.List.{list_any}
use Rattle.std.proofs.lemmas.Bool.{eqb-true, eq-eqb}
use Rattle.basics.specs.Word.{are_equal}
use Rattle.spirv_model.specs.declared.module.Inst.{Inst}
use Rattle.spirv_model.specs.declared.op.TheConstants as op
use Rattle.spirv_model.specs.declared.storage_class.TheConstants as storage_class
use Rattle.spirv_model.specs.Operands.{word_at}
use Rattle.body_model.specs.Switches.{is_among}
use Rattle.valid_model.specs.declared.meaning.Meaning.{Meaning}
use Rattle.valid_model.specs.declared.meaning.Meaning.TheVariants.{Shape as OfShape, Variable}
use Rattle.valid_model.specs.declared.meaning.Shape.TheVariants.{Pointer}
use Rattle.valid_model.specs.Definitions.{definition, inst_at}
use Rattle.valid_model.specs.Meanings.{known_before, meaning}
use Rattle.check_model.specs.EntryPoints.{is_op_function}
use Rattle.check_model.specs.Intervals.{intervals_of}
use Rattle.check_model.specs.Storage.{is_in_function, points_to_read_only, is_wrong_storage}
use Rattle.check_model.specs.Typing.{typing_of, type_id, meaning_of, type_of}
use Rattle.check_model.specs.Validity.{has_wrong_storage}
use Rattle.check_model.specs.Visibility.{used_ids}
use Rattle.stage_model.specs.Program.{program_of}
use Rattle.typed_model.proofs.ModuleValues.{meaning_at}
use Rattle.typed_model.proofs.ValidModules.{valid_stored}
use Rattle.typed_model.proofs.ValidTypes.{valid_types, makes_variable, MakesVariable, defined_within}
use Rattle.change_model.specs.declared.fate.Fate.TheVariants as fate
use Rattle.change_model.specs.Plans.{is_dead}
use Rattle.change_model.specs.PlanRules.{root_by, root_of, is_input_of, is_zero_input}
use Rattle.change_model.specs.Passes.{fate_alive}
use Rattle.change_model.proofs.ChangedDecorated.{any_there}
use Rattle.change_model.proofs.FoldedKeeps.{function_op}
use Rattle.change_model.proofs.FoundOrigins.{alive_fate, dead_fate}
use Rattle.change_model.proofs.FoundPlans.{Found}
use Rattle.change_model.proofs.FoundUnused.{zero_is_input, null_goes}
use Rattle.change_model.proofs.FoundUses.{chain_inside, store_inside, stands_inside}
use Rattle.change_model.proofs.LeftScopes.{is_label_at}
use Rattle.change_model.proofs.PlanRunsZeros.{storage_here}
use Rattle.change_model.proofs.TakenOperands.{clash, is_taken_type, is_object}
use Rattle.change_model.proofs.TakenUses.{IsPointedTo, loaded, stored, based, IsMisfit, misfit_used}
use Rattle.change_model.proofs.TypesNamed.{means}

-- ---- an input

-- an input that is zero, by the rule of zeros
pub record ZeroInput (f : Found) (id : ℕ) : Type 0 where
  pub zero : is_zero_input f.words.insts f.zeros id ≡ true
  pub held : ℕ
  pub is : meaning f.words.insts id ≡ Variable held storage_class.INPUT
  pub to : ℕ
  pub points : meaning f.words.insts held ≡ OfShape (Pointer storage_class.INPUT to)

input_by : (m : Meaning) → is_input_of m ≡ true → (held : ℕ) × (m ≡ Variable held storage_class.INPUT)
input_by (Variable held class) is = (held, ap (Variable held) (eqb-true class storage_class.INPUT is))
input_by m is = cc

variable_points : (f : Found) (id held : ℕ) → meaning f.words.insts id ≡ Variable held storage_class.INPUT → (to : ℕ) × (meaning f.words.insts held ≡ OfShape (Pointer storage_class.INPUT to))
unfolding program_of
variable_points f id held is = (valid_types f.words f.valid.sound).variable id held storage_class.INPUT is

pub zero_input : (f : Found) (id : ℕ) → is_zero_input f.words.insts f.zeros id ≡ true → ZeroInput f id
zero_input f id zero =
    let i = input_by (meaning f.words.insts id) (zero_is_input f.words.insts f.zeros id zero) in
    let p = variable_points f id i.0 i.1 in
    record { zero = zero; held = i.0; is = i.1; to = p.0; points = p.1 }

taken : {A : Type 0} (b : Bool) (x y : A) → b ≡ true → (if b then x else y) ≡ x
taken true x y is = refl
taken false x y is = cc

alive_chain : (f : Found) (place : ℕ) → (inst_at f.words.insts place).op ≡ op.ACCESS_CHAIN → fate_alive (intervals_of f.valid.derivation) f.words.insts f.zeros f.plan place
    ≡ (if is_zero_input f.words.insts f.zeros (word_at 2 (inst_at f.words.insts place)) then fate.Unused else fate.Stays)
alive_chain f place is = rw is refl

no_unused : fate.Unused ≡ fate.Stays → ⊥
no_unused is = cc

no_dead : fate.Dead ≡ fate.Stays → ⊥
no_dead is = cc

-- a chain into an input that is zero doesn't stay
chain_goes : (f : Found) (place : ℕ) → (inst_at f.words.insts place).op ≡ op.ACCESS_CHAIN → is_zero_input f.words.insts f.zeros (word_at 2 (inst_at f.words.insts place)) ≡ true → f.plan.fate place ≡ fate.Stays → ⊥
chain_goes f place is zero stays = by_block (is_dead (f.plan.fate (place - 1))) refl
  where
    w : (f.valid.derivation.before < place) × (place < f.valid.derivation.after)
    w = stands_inside f.words f.valid place op.ACCESS_CHAIN chain_inside is

    no_label : is_label_at f.words.insts place ≡ false
    no_label = ap (λ (n : ℕ). n == op.LABEL) is

    by_block : (b : Bool) → is_dead (f.plan.fate (place - 1)) ≡ b → ⊥
    by_block true dead = no_dead (sym (dead_fate f place w.0 w.1 no_label dead) ∙ stays)
    by_block false alive =
        no_unused (sym (alive_fate f place w.0 w.1 no_label alive ∙ alive_chain f place is ∙ taken (is_zero_input f.words.insts f.zeros (word_at 2 (inst_at f.words.insts place))) fate.Unused fate.Stays zero) ∙ stays)

module _ (f : Found) (id : ℕ) (z : ZeroInput f id) where
  abbrev insts : List Inst
  insts = f.words.insts

  input_type : type_of (typing_of f.words.insts) id ≡ OfShape (Pointer storage_class.INPUT z.to)
  input_type = ap (λ (m : Meaning). meaning_of (typing_of insts) (type_id m)) (means insts id ∙ z.is) ∙ means insts z.held ∙ z.points

  pub input_misfit : IsMisfit f.words.insts id
  input_misfit = record { value = ap is_object z.is; apart = ap is_taken_type input_type }

  made : (q : ℕ) → definition f.words.insts id ≡ Some q → MakesVariable (inst_at f.words.insts q) z.held storage_class.INPUT
  made q defined = makes_variable (known_before insts q) (inst_at insts q) z.held storage_class.INPUT (sym (meaning_at insts q id defined) ∙ z.is)

  -- it is defined before the function
  pub input_early : (q : ℕ) → definition f.words.insts id ≡ Some q → f.valid.derivation.before < q → ⊥
  unfolding has_wrong_storage is_wrong_storage is_in_function
  input_early q defined low =
      let m = made q defined in
      let inst = inst_at insts q in
      let within = defined_within insts id q defined in
      let inside = any_there is_op_function q insts f.valid.derivation.before low (omega (arith, low, within)) (eq-eqb (inst_at insts f.valid.derivation.before).op op.FUNCTION (function_op insts f.valid.derivation)) in
      by_tests (inst.op == op.STORE) (inst.op == op.VARIABLE) (list_any is_op_function (take q insts)) (word_at 2 inst == storage_class.FUNCTION) (points_to_read_only (type_of (typing_of insts) (word_at 0 inst)))
      (ap (λ (o : ℕ). o == op.STORE) (eqb-true inst.op op.VARIABLE m.is)) m.is inside (ap (λ (n : ℕ). n == storage_class.FUNCTION) m.in_class) (valid_stored f.words f.valid q within)
    where
      by_tests : (a b c e x : Bool) → a ≡ false → b ≡ true → c ≡ true → e ≡ false → (if a then x else if b then not (are_equal c e) else false) ≡ false → ⊥
      by_tests false true true false x p q r s wrong = cc
      by_tests true b c e x p q r s wrong = cc
      by_tests false false c e x p q r s wrong = cc
      by_tests false true false e x p q r s wrong = cc
      by_tests false true true true x p q r s wrong = cc

  input_root : root_of f.words.insts id ≡ id
  unfolding root_of
  input_root = by_definition (definition insts id) refl
    where
      left_out : (b : Bool) (x y : ℕ) → b ≡ false → (if b then x else y) ≡ y
      left_out true x y isnt = cc
      left_out false x y isnt = refl

      by_definition : (found : Option ℕ) → definition f.words.insts id ≡ found → root_by f.words.insts id found ≡ id
      by_definition None defined = refl
      by_definition (Some q) defined =
          let m = made q defined in
          left_out ((inst_at insts q).op == op.ACCESS_CHAIN) (word_at 2 (inst_at insts q)) id (ap (λ (o : ℕ). o == op.ACCESS_CHAIN) (eqb-true (inst_at insts q).op op.VARIABLE m.is))

  -- where all stays, nothing uses it
  module _ (stays : (place : ℕ) → f.plan.fate place ≡ fate.Stays) where
    pointed_none : (place : ℕ) → IsPointedTo (inst_at f.words.insts place) id → ⊥
    pointed_none place (loaded load at) = null_goes f place load (ap (is_zero_input insts f.zeros) (ap (root_of insts) at ∙ input_root) ∙ z.zero) (stays place)
    pointed_none place (stored store at) =
        let w = stands_inside f.words f.valid place op.STORE store_inside store in
        clash (points_to_read_only (type_of (typing_of insts) (word_at 0 (inst_at insts place))))
        (ap (λ (n : ℕ). points_to_read_only (type_of (typing_of insts) n)) at ∙ ap points_to_read_only input_type) (storage_here f.words f.valid place w.1 store)
    pointed_none place (based chain at) = chain_goes f place chain (ap (is_zero_input insts f.zeros) at ∙ z.zero) (stays place)

    pub used_none : (place : ℕ) → place < length f.words.insts → is_among id (used_ids (inst_at f.words.insts place)) ≡ true → ⊥
    used_none place within among = pointed_none place (misfit_used f.words f.valid place id within input_misfit among)
