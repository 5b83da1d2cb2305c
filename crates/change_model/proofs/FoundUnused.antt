-- What one pass finds that nobody uses is used by nothing that is left: chains into inputs that are zeros, and phis without a type.
use Rattle.std.proofs.Common.{◌≡◌, ℕ, ◌-◌, ◌<◌, Bool, true, false, not, ◌==◌, ◌||◌, ◌&&◌, if◌then◌else◌, List, refl, ap, sym, ◌∙◌, Option, None, Some}
use Rattle.std.specs.Option.{option_map}
use Rattle.std.proofs.lemmas.Bool.{eqb-true, eq-eqb}
use Rattle.basics.proofs.Bools.{first_of_both}
use Rattle.spirv_model.specs.declared.module.Inst.{Inst}
use Rattle.spirv_model.specs.declared.op.TheConstants as op
use Rattle.spirv_model.specs.declared.storage_class.TheConstants as storage_class
use Rattle.spirv_model.specs.Operands.{word_at, words_from, entry_of, class_of}
use Rattle.body_model.specs.Classes.{is_plain}
use Rattle.valid_model.specs.declared.meaning.Meaning.{Meaning}
use Rattle.valid_model.specs.declared.meaning.Meaning.TheVariants.{Shape as OfShape, Variable}
use Rattle.valid_model.specs.declared.meaning.Shape.TheVariants.{Pointer}
use Rattle.spirv_model.specs.declared.decoration.TheConstants.{LOCATION, BUILT_IN}
use Rattle.valid_model.specs.ModuleFacts.{is_word}
use Rattle.valid_model.specs.Shapes.{pointee_id}
use Rattle.valid_model.specs.DecorationWords.{decoration_of}
use Rattle.valid_model.specs.Definitions.{definition, inst_at}
use Rattle.valid_model.specs.Meanings.{meaning}
use Rattle.check_model.specs.Intervals.{intervals_of}
use Rattle.check_model.specs.declared.components.Part.{Part}
use Rattle.check_model.specs.declared.components.Part.TheVariants as part
use Rattle.check_model.specs.CompositeOperands.{is_of_type}
use Rattle.check_model.specs.MemoryOperands.{load_fits, is_object_of, store_fits, is_pointer_to, chain_along, chain_fits, memory_operands_fit}
use Rattle.check_model.specs.OperandTypes.{is_pointer, operands_fit}
use Rattle.check_model.specs.Storage.{points_to_read_only}
use Rattle.check_model.specs.Typing.{Typing, typing_of, type_id, meaning_of, type_of}
use Rattle.typed_model.proofs.EffectsRun.{instruction}
use Rattle.typed_model.proofs.FunctionRuns.{function_within}
use Rattle.typed_model.proofs.PlainRuns.{at_op}
use Rattle.typed_model.proofs.ValidModules.{valid_sound}
use Rattle.change_model.specs.declared.fate.Fate.{Fate}
use Rattle.change_model.specs.declared.fate.Fate.TheVariants as fate
use Rattle.change_model.specs.Plans.{is_dead}
use Rattle.change_model.specs.PlanRules.{root_by, root_of, is_input_of, is_among_locations, is_nothing, is_zero_input, is_shape, MayBeUnused, result_of}
use Rattle.change_model.specs.Passes.{fate_alive}
use Rattle.change_model.proofs.ChainsGiven.{chain_gives, chain_here, no_value_chain, chain_result, chain_defined, chain_meaning}
use Rattle.change_model.proofs.FoundMisfits.{used_nowhere}
use Rattle.change_model.proofs.FoundNames.{phi_meaning}
use Rattle.change_model.proofs.FoundOrigins.{Origin, goes_away, by_phi, by_load, by_chain, by_untyped, by_selection, by_loop, by_end, by_branch, by_switch, by_picks, by_folds, origin, alive_fate, dead_fate}
use Rattle.change_model.proofs.FoundOrigins as source
use Rattle.change_model.proofs.FoundPlans.{Found}
use Rattle.change_model.proofs.FoundUses.{load_inside, store_inside, stands_inside}
use Rattle.change_model.proofs.LeftScopes.{is_label_at}
use Rattle.change_model.proofs.PlanRunsNames.{phi_result}
use Rattle.change_model.proofs.PlanRunsZeros.{storage_here}
use Rattle.change_model.proofs.TakenOperands.{clash, is_object, is_taken_type}
use Rattle.change_model.proofs.TakenUses.{IsPointedTo, loaded, stored, based, IsMisfit}
use Rattle.change_model.proofs.TypesNamed.{means}

-- ---- chains into inputs

-- a pointer into an input
record IsInputPointer (m : Meaning) : Type 0 where
  to : ℕ
  is : m ≡ OfShape (Pointer storage_class.INPUT to)

input_by : (typing : Typing) (m : Meaning) (storage : ℕ) (reached : Option Part) → storage == storage_class.INPUT ≡ true → is_pointer_to typing m storage reached ≡ true → IsInputPointer m
input_by typing (OfShape (Pointer class to)) storage reached input fit =
    record { to = to; is = ap (λ (c : ℕ). OfShape (Pointer c to)) (eqb-true class storage (first_of_both (class == storage) (is_of_type typing to reached) fit) ∙ eqb-true storage storage_class.INPUT input) }
input_by typing m storage reached input fit = cc

chain_into : (typing : Typing) (type : ℕ) (base : Meaning) (indices : List ℕ) → is_input_of base ≡ true → chain_fits typing type base indices ≡ true → IsInputPointer (typing.meaning type)
chain_into typing type (Variable held storage) indices input fit =
    input_by typing (typing.meaning type) storage (chain_along typing (option_map part.Type (pointee_id (typing.meaning held))) indices) input fit
chain_into typing type base indices input fit = cc

pub zero_is_input : (insts : List Inst) (zeros : List ℕ) (id : ℕ) → is_zero_input insts zeros id ≡ true → is_input_of (meaning insts id) ≡ true
zero_is_input insts zeros id is = first_of_three (is_input_of (meaning insts id)) (is_nothing (decoration_of insts id BUILT_IN)) (is_among_locations zeros (decoration_of insts id LOCATION)) is
  where
    first_of_three : (a b c : Bool) → (a && b && c) ≡ true → a ≡ true
    first_of_three true b c is = refl
    first_of_three false b c is = cc

alive_load : (f : Found) (place : ℕ) → (inst_at f.words.insts place).op ≡ op.LOAD → fate_alive (intervals_of f.valid.derivation) f.words.insts f.zeros f.plan place
    ≡ (if is_zero_input f.words.insts f.zeros (root_of f.words.insts (word_at 2 (inst_at f.words.insts place))) then fate.Nulls else fate.Stays)
alive_load f place is = rw is refl

no_nulls : fate.Nulls ≡ fate.Stays → ⊥
no_nulls is = cc

no_dead : fate.Dead ≡ fate.Stays → ⊥
no_dead is = cc

taken : {A : Type 0} (b : Bool) (x y : A) → b ≡ true → (if b then x else y) ≡ x
taken true x y is = refl
taken false x y is = cc

-- a load from an input that is zero doesn't stay
pub null_goes : (f : Found) (place : ℕ) → (inst_at f.words.insts place).op ≡ op.LOAD → is_zero_input f.words.insts f.zeros (root_of f.words.insts (word_at 2 (inst_at f.words.insts place))) ≡ true → f.plan.fate place ≡ fate.Stays → ⊥
null_goes f place is zero stays = by_block (is_dead (f.plan.fate (place - 1))) refl
  where
    w : (f.valid.derivation.before < place) × (place < f.valid.derivation.after)
    w = stands_inside f.words f.valid place op.LOAD load_inside is

    no_label : is_label_at f.words.insts place ≡ false
    no_label = ap (λ (n : ℕ). n == op.LABEL) is

    by_block : (b : Bool) → is_dead (f.plan.fate (place - 1)) ≡ b → ⊥
    by_block true dead = no_dead (sym (dead_fate f place w.0 w.1 no_label dead) ∙ stays)
    by_block false alive =
        no_nulls (sym (alive_fate f place w.0 w.1 no_label alive ∙ alive_load f place is ∙ taken (is_zero_input f.words.insts f.zeros (root_of f.words.insts (word_at 2 (inst_at f.words.insts place)))) fate.Nulls fate.Stays zero) ∙ stays)

chain_rooted : (insts : List Inst) (id place : ℕ) → definition insts id ≡ Some place → (inst_at insts place).op ≡ op.ACCESS_CHAIN → root_of insts id ≡ word_at 2 (inst_at insts place)
unfolding root_of
chain_rooted insts id place defined is = ap (root_by insts id) defined ∙ taken ((inst_at insts place).op == op.ACCESS_CHAIN) (word_at 2 (inst_at insts place)) id (eq-eqb (inst_at insts place).op op.ACCESS_CHAIN is)

module _ (f : Found) (place : ℕ) (low : f.valid.derivation.before < place) (high : place < f.valid.derivation.after) (is : (inst_at f.words.insts place).op ≡ op.ACCESS_CHAIN)
    (zero : is_zero_input f.words.insts f.zeros (word_at 2 (inst_at f.words.insts place)) ≡ true) where
  abbrev chain : Inst
  chain = inst_at f.words.insts place

  chain_points : IsInputPointer ((typing_of f.words.insts).meaning (word_at 0 (inst_at f.words.insts place)))
  chain_points =
      let insts = f.words.insts in
      let typing = typing_of insts in
      chain_into typing (word_at 0 chain) (typing.meaning (word_at 2 chain)) (words_from 3 chain) (ap is_input_of (means insts (word_at 2 chain)) ∙ zero_is_input insts f.zeros (word_at 2 chain) zero)
      (chain_here f.words f.valid place is)

  chain_type : type_of (typing_of f.words.insts) (word_at 1 (inst_at f.words.insts place)) ≡ OfShape (Pointer storage_class.INPUT chain_points.to)
  chain_type =
      let typing = typing_of f.words.insts in
      ap (λ (m : Meaning). meaning_of typing (type_id m)) (means f.words.insts (word_at 1 chain) ∙ (chain_meaning f.words f.valid place high is)) ∙ chain_points.is

  chain_misfit : IsMisfit f.words.insts (word_at 1 (inst_at f.words.insts place))
  chain_misfit = record { value = ap is_object (chain_meaning f.words f.valid place high is); apart = ap is_taken_type chain_type }

  chain_free : (other : ℕ) → f.plan.fate other ≡ fate.Stays → IsPointedTo (inst_at f.words.insts other) (word_at 1 (inst_at f.words.insts place)) → ⊥
  chain_free other stays (loaded load at) =
      null_goes f other load
      (ap (is_zero_input f.words.insts f.zeros) (ap (root_of f.words.insts) at ∙ chain_rooted f.words.insts (word_at 1 chain) place (chain_defined f.words f.valid place high is) is) ∙ zero) stays
  chain_free other stays (stored store at) =
      let insts = f.words.insts in
      let w = stands_inside f.words f.valid other op.STORE store_inside store in
      clash (points_to_read_only (type_of (typing_of insts) (word_at 0 (inst_at insts other))))
      (ap (λ (n : ℕ). points_to_read_only (type_of (typing_of insts) n)) at ∙ ap points_to_read_only chain_type) (storage_here f.words f.valid other w.1 store)
  chain_free other stays (based also at) = no_value_chain f.words f.valid other (word_at 1 chain) (word_at 0 chain) also at (chain_meaning f.words f.valid place high is)

  chain_unused : MayBeUnused f.plan f.words.insts place
  chain_unused =
      result_of (word_at 1 chain) (by_plain (is_plain chain.op) (chain.op == op.PHI) (chain.op == op.VARIABLE) (ap is_plain is ∙ chain_gives.1)) (chain_result f.words.insts place is)
      (used_nowhere f (word_at 1 chain) chain_misfit chain_free)
    where
      by_plain : (a b c : Bool) → a ≡ true → (a || b || c) ≡ true
      by_plain true b c is = refl
      by_plain false b c is = cc

-- ---- phis without a type

load_fit : (typing : Typing) (words : List ℕ) → operands_fit typing (instruction op.LOAD words) ≡ true → load_fits typing (word_at 0 (instruction op.LOAD words)) (word_at 2 (instruction op.LOAD words)) ≡ true
unfolding operands_fit class_of entry_of memory_operands_fit
load_fit typing words fit = fit

store_fit : (typing : Typing) (words : List ℕ) → operands_fit typing (instruction op.STORE words) ≡ true → store_fits typing (word_at 0 (instruction op.STORE words)) (word_at 1 (instruction op.STORE words)) ≡ true
unfolding operands_fit class_of entry_of memory_operands_fit
store_fit typing words fit = fit

points_nowhere : (m : Meaning) → is_shape m ≡ false → pointee_id m ≡ None
points_nowhere (OfShape shape) isnt = cc
points_nowhere m isnt = refl

module _ (f : Found) (place : ℕ) (high : place < f.valid.derivation.after) (is : (inst_at f.words.insts place).op ≡ op.PHI) (untyped : is_shape (meaning f.words.insts (word_at 0 (inst_at f.words.insts place))) ≡ false) where
  abbrev phi : Inst
  phi = inst_at f.words.insts place

  untyped_type : type_of (typing_of f.words.insts) (word_at 1 (inst_at f.words.insts place)) ≡ meaning f.words.insts (word_at 0 (inst_at f.words.insts place))
  untyped_type =
      let typing = typing_of f.words.insts in
      ap (λ (m : Meaning). meaning_of typing (type_id m)) (means f.words.insts (word_at 1 phi) ∙ phi_meaning f place high is) ∙ means f.words.insts (word_at 0 phi)

  untyped_misfit : IsMisfit f.words.insts (word_at 1 (inst_at f.words.insts place))
  untyped_misfit = record {
    value = ap is_object (phi_meaning f place high is);
    apart = ap is_taken_type untyped_type ∙ ap (λ (b : Bool). b && not (is_pointer (meaning f.words.insts (word_at 0 phi)))) untyped;
  }

  points_to_none : pointee_id (type_of (typing_of f.words.insts) (word_at 1 (inst_at f.words.insts place))) ≡ None
  points_to_none = ap pointee_id untyped_type ∙ points_nowhere (meaning f.words.insts (word_at 0 phi)) untyped

  untyped_free : (other : ℕ) → f.plan.fate other ≡ fate.Stays → IsPointedTo (inst_at f.words.insts other) (word_at 1 (inst_at f.words.insts place)) → ⊥
  untyped_free other stays (loaded load at) =
      let insts = f.words.insts in
      let typing = typing_of insts in
      let user = inst_at insts other in
      let w = stands_inside f.words f.valid other op.LOAD load_inside load in
      let fit = at_op (λ (i : Inst). operands_fit typing i ≡ true → load_fits typing (word_at 0 i) (word_at 2 i) ≡ true) user op.LOAD (eq-eqb user.op op.LOAD load) (load_fit typing user.words)
      ((valid_sound f.words f.valid).fit other (function_within insts f.valid.derivation other w.1)) in
      clash (load_fits typing (word_at 0 user) (word_at 2 user)) fit (ap (load_fits typing (word_at 0 user)) at ∙ ap (is_word (word_at 0 user)) points_to_none)
  untyped_free other stays (stored store at) =
      let insts = f.words.insts in
      let typing = typing_of insts in
      let user = inst_at insts other in
      let w = stands_inside f.words f.valid other op.STORE store_inside store in
      let fit = at_op (λ (i : Inst). operands_fit typing i ≡ true → store_fits typing (word_at 0 i) (word_at 1 i) ≡ true) user op.STORE (eq-eqb user.op op.STORE store) (store_fit typing user.words)
      ((valid_sound f.words f.valid).fit other (function_within insts f.valid.derivation other w.1)) in
      clash (store_fits typing (word_at 0 user) (word_at 1 user)) fit
      (ap (λ (n : ℕ). store_fits typing n (word_at 1 user)) at ∙ ap (λ (to : Option ℕ). is_object_of typing to (word_at 1 user)) points_to_none)
  untyped_free other stays (based also at) = no_value_chain f.words f.valid other (word_at 1 phi) (word_at 0 phi) also at (phi_meaning f place high is)

  untyped_unused : MayBeUnused f.plan f.words.insts place
  untyped_unused =
      result_of (word_at 1 phi) (by_phi_op (is_plain phi.op) (phi.op == op.PHI) (phi.op == op.VARIABLE) (eq-eqb phi.op op.PHI is)) (phi_result phi is) (used_nowhere f (word_at 1 phi) untyped_misfit untyped_free)
    where
      by_phi_op : (a b c : Bool) → b ≡ true → (a || b || c) ≡ true
      by_phi_op true true c is = refl
      by_phi_op false true c is = refl
      by_phi_op a false c is = cc

-- ---- all of them

unused_by : (f : Found) (place : ℕ) → f.valid.derivation.before < place → place < f.valid.derivation.after → (what : Fate) → Origin f place what → what ≡ fate.Unused → MayBeUnused f.plan f.words.insts place
unused_by f place low high what (by_chain is zero) same = chain_unused f place low high is zero
unused_by f place low high what (by_untyped is untyped) same = untyped_unused f place high is untyped
unused_by f place low high what goes_away same = cc
unused_by f place low high what source.stays same = cc
unused_by f place low high what (by_phi is) same = cc
unused_by f place low high what (by_load is empty) same = cc
unused_by f place low high what (by_selection label is free way) same = cc
unused_by f place low high what (by_loop is opened) same = cc
unused_by f place low high what (by_end label is unselected held leaves) same = cc
unused_by f place low high what (by_branch label is selected skipped way) same = cc
unused_by f place low high what (by_switch label is skipped way) same = cc
unused_by f place low high what (by_picks label is free way) same = cc
unused_by f place low high what (by_folds scalar is comes) same = cc

-- what one pass finds that nobody uses may go
pub unused_found : (f : Found) (place : ℕ) → f.valid.derivation.before < place → place < f.valid.derivation.after → f.plan.fate place ≡ fate.Unused → MayBeUnused f.plan f.words.insts place
unused_found f place low high same = unused_by f place low high (f.plan.fate place) (origin f place) same
