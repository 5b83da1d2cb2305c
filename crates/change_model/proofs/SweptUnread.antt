-- What is swept names no variable of the module's level that nobody reads.
use Rattle.std.proofs.Common.{◌≡◌, ℕ, ◌<◌, inl, inr, Bool, true, false, not, ◌==◌, ◌||◌, List, length, refl, ap, sym, ◌∙◌, arith, Option, Some}
use Rattle.std.specs.List.{list_all}
use Rattle.std.specs.Option.{option_map}
use Rattle.std.proofs.lemmas.Bool.{cases_lt, eqb-true, eq-eqb}
use Rattle.spirv_model.specs.declared.module.Inst.{Inst}
use Rattle.spirv_model.specs.declared.module.Words.{Words}
use Rattle.spirv_model.specs.declared.op.TheConstants as op
use Rattle.spirv_model.specs.Operands.{word_at, words_from, ids}
use Rattle.body_model.specs.Classes.{is_plain}
use Rattle.body_model.specs.Switches.{is_among}
use Rattle.valid_model.specs.declared.meaning.Meaning.{Meaning}
use Rattle.valid_model.specs.declared.meaning.Meaning.TheVariants.{Shape as OfShape, Variable, Value as OfValue}
use Rattle.valid_model.specs.declared.meaning.Shape.TheVariants.{Pointer}
use Rattle.valid_model.specs.Definitions.{definition, inst_at}
use Rattle.valid_model.specs.Meanings.{known_before, meaning}
use Rattle.valid_model.specs.Shapes.{pointee_id}
use Rattle.check_model.specs.declared.components.Part.{Part}
use Rattle.check_model.specs.declared.components.Part.TheVariants as part
use Rattle.check_model.specs.MemoryOperands.{is_pointer_to, chain_along, chain_fits}
use Rattle.check_model.specs.Storage.{is_in_function}
use Rattle.check_model.specs.Typing.{Typing, typing_of, type_id, meaning_of}
use Rattle.check_model.specs.Validity.{IsValidList}
use Rattle.stage_model.specs.Program.{program_of}
use Rattle.typed_model.proofs.ModuleValues.{meaning_at}
use Rattle.typed_model.proofs.PlainRuns.{at_op}
use Rattle.typed_model.proofs.ValidTypes.{valid_types, makes_variable, MakesVariable}
use Rattle.unit_model.specs.ConstantScalars.{function_places}
use Rattle.change_model.specs.declared.fate.Fate.TheVariants.{Stays}
use Rattle.change_model.specs.Plans.{Plan, changed}
use Rattle.change_model.specs.PlanRules.{root_of}
use Rattle.change_model.specs.Sweeping.{is_sweepable, IsSwept}
use Rattle.change_model.proofs.BehindLevel.{end_op}
use Rattle.change_model.proofs.ChainsGiven.{chain_gives, chain_here, no_value_chain, chain_result, chain_defined, chain_meaning}
use Rattle.change_model.proofs.FoundUnnamed.{end_ids}
use Rattle.change_model.proofs.FoundUses.{load_inside, store_inside, chain_inside, stands_inside}
use Rattle.change_model.proofs.FunctionPlaces.{all_filtered}
use Rattle.change_model.proofs.PlanRunsRooted.{chain_root, own_root}
use Rattle.change_model.proofs.PointersNamed.{IsPointer, pointer_named}
use Rattle.change_model.proofs.SweptPlaces.{new_behind, swept_from}
use Rattle.change_model.proofs.TakenOperands.{clash, is_taken_type, is_object}
use Rattle.change_model.proofs.TakenUses.{IsPointedTo, loaded, stored, based}
use Rattle.change_model.proofs.TypesNamed.{means}
use Rattle.change_model.proofs.VariablesMean.{variable_means}

refuted : (b : Bool) → (b ≡ true → ⊥) → b ≡ false
refuted true isnt = absurd (isnt refl)
refuted false isnt = refl

by_plain : (a b c : Bool) → a ≡ true → (a || b || c) ≡ true
by_plain true b c is = refl
by_plain false b c is = cc

-- ---- what a chain gives is a pointer, and no chain leads into it

pointer_apart : (typing : Typing) (m : Meaning) (storage : ℕ) (reached : Option Part) → is_pointer_to typing m storage reached ≡ true → is_taken_type m ≡ false
pointer_apart typing (OfShape (Pointer class to)) storage reached is = refl
pointer_apart typing m storage reached is = cc

chain_apart : (typing : Typing) (type : ℕ) (base : Meaning) (indices : List ℕ) → chain_fits typing type base indices ≡ true → is_taken_type (typing.meaning type) ≡ false
chain_apart typing type (Variable held storage) indices fit = pointer_apart typing (typing.meaning type) storage (chain_along typing (option_map part.Type (pointee_id (typing.meaning held))) indices) fit
chain_apart typing type base indices fit = cc

module _ (words : Words) (v : IsValidList words) where
  abbrev insts : List Inst
  insts = words.insts

  chain_pointer : (place : ℕ) → v.derivation.before < place → place < v.derivation.after → (inst_at words.insts place).op ≡ op.ACCESS_CHAIN → IsPointer words.insts (word_at 1 (inst_at words.insts place))
  chain_pointer place low high is =
      let typing = typing_of insts in
      let chain = inst_at insts place in
      let value = chain_meaning words v place high is in
      record {
        misfit = record {
          value = ap is_object value;
          apart = ap (λ (m : Meaning). is_taken_type (meaning_of typing (type_id m))) (means insts (word_at 1 chain) ∙ value)
              ∙ chain_apart typing (word_at 0 chain) (typing.meaning (word_at 2 chain)) (words_from 3 chain) (chain_here words v place is);
        };
        at = place;
        defined = chain_defined words v place high is;
        no_label = ap (λ (o : ℕ). o == op.LABEL) is;
      }

  -- ---- a variable is a pointer

  variable_points : (id held class : ℕ) → meaning words.insts id ≡ Variable held class → (to : ℕ) × (meaning words.insts held ≡ OfShape (Pointer class to))
  unfolding program_of
  variable_points id held class is = (valid_types words v.sound).variable id held class is

  module _ (id at held class : ℕ) (defined : definition words.insts id ≡ Some at) (is : meaning words.insts id ≡ Variable held class) where
    variable_made : MakesVariable (inst_at words.insts at) held class
    variable_made = makes_variable (known_before insts at) (inst_at insts at) held class (sym (meaning_at insts at id defined) ∙ is)

    variable_op : (inst_at words.insts at).op ≡ op.VARIABLE
    variable_op = eqb-true (inst_at insts at).op op.VARIABLE variable_made.is

    variable_root : root_of words.insts id ≡ id
    variable_root = own_root insts id at defined (ap (λ (o : ℕ). o == op.ACCESS_CHAIN) variable_op)

    variable_pointer : IsPointer words.insts id
    variable_pointer =
        let p = variable_points id held class is in
        record {
          misfit = record {
            value = ap is_object is;
            apart = ap (λ (m : Meaning). is_taken_type (meaning_of (typing_of insts) (type_id m))) (means insts id ∙ is) ∙ ap is_taken_type (means insts held ∙ p.1);
          };
          at = at;
          defined = defined;
          no_label = ap (λ (o : ℕ). o == op.LABEL) variable_op;
        }

-- ---- what is swept

module _ (is_unread : ℕ → Bool) (words : Words) (v : IsValidList words) (plan : Plan) (s : IsSwept is_unread words v plan) (id at held class : ℕ) (defined : definition words.insts id ≡ Some at)
    (is : meaning words.insts id ≡ Variable held class) (unread : plan.is_unread id ≡ true) where
  -- nothing that stays loads from it or stores to it
  rooted_none : (place from : ℕ) → plan.fate place ≡ Stays → root_of words.insts from ≡ id → ((inst_at words.insts place).op ≡ op.LOAD) × (word_at 2 (inst_at words.insts place) ≡ from) → ⊥
  rooted_none place from stays root load =
      let w = stands_inside words v place op.LOAD load_inside load.0 in
      clash (plan.is_unread id) unread (s.loads id (record { place = place; low = w.0; high = w.1; stays = stays; is_load = load.0; root = ap (root_of words.insts) load.1 ∙ root }))

  stored_none : (place from : ℕ) → plan.fate place ≡ Stays → root_of words.insts from ≡ id → ((inst_at words.insts place).op ≡ op.STORE) × (word_at 0 (inst_at words.insts place) ≡ from) → ⊥
  stored_none place from stays root store =
      let w = stands_inside words v place op.STORE store_inside store.0 in
      clash (plan.is_unread id) unread (sym (ap plan.is_unread (ap (root_of words.insts) store.1 ∙ root)) ∙ s.stores place w.0 w.1 stays store.0)

  -- nor does a chain that stays lead into it
  chained_none : (place : ℕ) → plan.fate place ≡ Stays → (inst_at words.insts place).op ≡ op.ACCESS_CHAIN → word_at 2 (inst_at words.insts place) ≡ id → ⊥
  unfolding chain_pointer
  chained_none place stays leads base =
      let inst = inst_at words.insts place in
      let own = word_at 1 inst in
      let w = stands_inside words v place op.ACCESS_CHAIN chain_inside leads in
      let gives = chain_result words.insts place leads in
      let sweepable : is_sweepable inst.op ≡ true = by_plain (is_plain inst.op) (inst.op == op.PHI) (inst.op == op.VARIABLE) (ap is_plain leads ∙ chain_gives.1) in
      let u = s.used place own w.0 w.1 stays sweepable gives in
      let root = chain_root words.insts own place (chain_defined words v place w.1 leads) (eq-eqb inst.op op.ACCESS_CHAIN leads) ∙ base in
      elim (pointer_named words v own (chain_pointer words v place w.0 w.1 leads) u.other u.low u.high (s.typed u.other u.low u.high u.stays) u.names) [
        | inl same ↦ clash (u.other == place) (eq-eqb u.other place same) u.another
        | inr pointed ↦ by_use u.other u.stays own root (chain_meaning words v place w.1 leads) pointed
      ]
    where
      by_use : (other : ℕ) → plan.fate other ≡ Stays → (own : ℕ) → root_of words.insts own ≡ id → {type : ℕ} → meaning words.insts own ≡ OfValue type → IsPointedTo (inst_at words.insts other) own → ⊥
      by_use other stays own root value (loaded load from) = rooted_none other own stays root (load, from)
      by_use other stays own root value (stored store from) = stored_none other own stays root (store, from)
      by_use other stays own root {type} value (based also from) = no_value_chain words v other own type also from value

  unread_pointed : (place : ℕ) → plan.fate place ≡ Stays → IsPointedTo (inst_at words.insts place) id → ⊥
  unread_pointed place stays (loaded load from) = rooted_none place id stays (variable_root words v id at held class defined is) (load, from)
  unread_pointed place stays (stored store from) = stored_none place id stays (variable_root words v id at held class defined is) (store, from)
  unread_pointed place stays (based also from) = chained_none place stays also from

  -- an instruction of the function that stays doesn't name it, but for its own
  unread_unnamed : (place : ℕ) → v.derivation.before < place → place < length words.insts → plan.fate place ≡ Stays → (place ≡ at → ⊥) → is_among id (ids (inst_at words.insts place)) ≡ true → ⊥
  unfolding variable_pointer
  unread_unnamed place low within stays other among = elim (cases_lt place v.derivation.after) [
    | inl high ↦ elim (pointer_named words v id (variable_pointer words v id at held class defined is) place low high (s.typed place low high stays) among) [
      | inl same ↦ other same
      | inr pointed ↦ unread_pointed place stays pointed
    ]
    | inr past ↦
        let last = v.derivation.last in
        let inst = inst_at words.insts place in
        let ends : inst.op ≡ op.FUNCTION_END = ap (λ (n : ℕ). (inst_at words.insts n).op) {x = place} {y = v.derivation.after} (omega (arith, past, within, last)) ∙ end_op words.insts v.derivation in
        clash (is_among id (ids inst)) among (at_op (λ (i : Inst). is_among id (ids i) ≡ false) inst op.FUNCTION_END (eq-eqb inst.op op.FUNCTION_END ends) (end_ids inst.words id))
  ]

  -- nothing in the function that is left names a variable of the module's level that nobody reads
  pub swept_unread_at : at < v.derivation.before → (place : ℕ) → is_in_function (changed plan words.insts) place ≡ true → place < length (changed plan words.insts)
      → is_among id (ids (inst_at (changed plan words.insts) place)) ≡ false
  swept_unread_at early place inside within =
      let f = swept_from is_unread words v plan s place (new_behind is_unread words v plan s place inside) within in
      let low = f.low in
      ap (λ (i : Inst). is_among id (ids i)) f.same
      ∙ refuted (is_among id (ids (inst_at words.insts f.old))) (λ among. unread_unnamed f.old f.low f.within f.stays (λ same. absurd (omega (arith, low, early, same))) among)

pub swept_unread : (is_unread : ℕ → Bool) (words : Words) (v : IsValidList words) (plan : Plan) → IsSwept is_unread words v plan → (id at held class : ℕ) → definition words.insts id ≡ Some at → at < v.derivation.before
    → meaning words.insts id ≡ Variable held class → plan.is_unread id ≡ true → list_all (λ place. not (is_among id (ids (inst_at (changed plan words.insts) place)))) (function_places (changed plan words.insts)) ≡ true
swept_unread is_unread words v plan s id at held class defined early is unread =
    let new = changed plan words.insts in
    all_filtered (λ place. not (is_among id (ids (inst_at new place)))) (is_in_function new) 0 (length new)
    (λ place less inside. ap not (swept_unread_at is_unread words v plan s id at held class defined is unread early place inside (omega (arith, less))))

-- the same, of an OpVariable
pub swept_unread_variable : (is_unread : ℕ → Bool) (words : Words) (v : IsValidList words) (plan : Plan) → IsSwept is_unread words v plan → (id at : ℕ) → definition words.insts id ≡ Some at → at < v.derivation.before
    → (inst_at words.insts at).op ≡ op.VARIABLE → plan.is_unread id ≡ true → list_all (λ place. not (is_among id (ids (inst_at (changed plan words.insts) place)))) (function_places (changed plan words.insts)) ≡ true
swept_unread_variable is_unread words v plan s id at defined early is unread =
    swept_unread is_unread words v plan s id at (word_at 0 (inst_at words.insts at)) (word_at 2 (inst_at words.insts at)) defined early (variable_means words v at id defined is) unread
