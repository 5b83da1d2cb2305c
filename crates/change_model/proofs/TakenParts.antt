-- What is taken apart or made of parts, stored or used as an index: values of types that are no pointers, or constants.
use Rattle.std.proofs.Common.{◌≡◌, ℕ, suc, ◌+◌, ◌==◌, ◌&&◌, ◌||◌, nat_lt, nat_le, Bool, true, false, if◌then◌else◌, List, [], ◌∷◌, length, refl, ap, sym, ◌∙◌, arith, Option, None, Some, is_some}
use Rattle.std.specs.Prelude.{slice_get}
use Rattle.std.specs.List.{list_all, sum_by, zip}
use Rattle.std.specs.Option.{option_map, option_and_then}
use Rattle.std.proofs.lemmas.Bool.{eqb-true, lt-ltb}
use Rattle.basics.proofs.Bools.{first_of_both, second_of_both}
use Rattle.valid_model.specs.declared.meaning.Meaning.{Meaning}
use Rattle.valid_model.specs.declared.meaning.Meaning.TheVariants.{Shape as OfShape, Variable}
use Rattle.valid_model.specs.declared.meaning.Shape.TheVariants.{BoolVector, IntVector, Array, Struct, Pointer}
use Rattle.valid_model.specs.Knowledge.{is_bool, is_integer, is_data}
use Rattle.valid_model.specs.Shapes.{pointee_id}
use Rattle.check_model.specs.declared.components.Component.{Component}
use Rattle.check_model.specs.declared.components.Component.TheVariants as component
use Rattle.check_model.specs.declared.components.Components.{Components}
use Rattle.check_model.specs.declared.components.Part.{Part}
use Rattle.check_model.specs.declared.components.Part.TheVariants as part
use Rattle.check_model.specs.CompositeOperands.{is_scalar_of, part_at, part_of, part_along, whole_of, is_of, extract_fits, insert_fits, is_made_of, count_in, components_of, vector_parts_fit, parts_fit, is_vector_of, no_component, shuffle_into, shuffle_fits, is_truth_vector, reduction_fits}
use Rattle.check_model.specs.MemoryOperands.{is_object_of, store_fits, indexed, member_at, chain_part, chain_step, chain_along, is_pointer_to, chain_fits}
use Rattle.check_model.specs.Typing.{Typing, type_id, meaning_of, type_of, has_type, components_in}
use Rattle.typed_model.proofs.ReadTypes.{Each}
use Rattle.change_model.proofs.TakenOperands.{is_taken_type, is_object, IsTaken, components_taken, data_taken, integer_taken, vector_taken, not_value, of_type_taken}
use Rattle.change_model.proofs.TypesNamed.{AreSound, IsDataPart, data_next, data_along}

-- an OpConstant is none
abbrev pub AreNumbersConstant : Typing → Type 0
AreNumbersConstant typing = (id word : ℕ) → typing.constant id ≡ Some word → is_object (typing.meaning id) ≡ false

module _ (typing : Typing) (s : AreSound typing) where
  -- ---- composites

  made_some : (c : Component) (of : Option Components) → is_made_of c of ≡ true → is_some of ≡ true
  made_some c None is = cc
  made_some c (Some of) is = refl

  each_made : (c : Component) (parts : List ℕ) → list_all (λ id. is_made_of c (components_of typing id)) parts ≡ true → Each (IsTaken typing) parts
  each_made c [] all = tt
  each_made c (id ∷ parts) all =
      let own = is_made_of c (components_of typing id) in let rest = list_all (λ id. is_made_of c (components_of typing id)) parts in
      (λ _. components_taken (type_of typing id) (made_some c (components_of typing id) (first_of_both own rest all)), each_made c parts (second_of_both own rest all))

  three : (a b c : Bool) → (a && b && c) ≡ true → b ≡ true
  three true true c is = refl
  three true false c is = cc
  three false b c is = cc

  vector_parts : (c : Component) (count : ℕ) (parts : List ℕ) → vector_parts_fit typing c count parts ≡ true → Each (IsTaken typing) parts
  vector_parts c count parts fit =
      each_made c parts (three (nat_le 2 (length parts)) (list_all (λ id. is_made_of c (components_of typing id)) parts) (sum_by (λ id. count_in (components_of typing id)) parts == count) fit)

  each_element : (element : ℕ) → is_data (typing.meaning element) ≡ true → (parts : List ℕ) → list_all (has_type typing element) parts ≡ true → Each (IsTaken typing) parts
  each_element element data_is [] all = tt
  each_element element data_is (id ∷ parts) all = (
    λ _. of_type_taken typing element id (first_of_both (has_type typing element id) (list_all (has_type typing element) parts) all) (data_taken (typing.meaning element) data_is),
    each_element element data_is parts (second_of_both (has_type typing element id) (list_all (has_type typing element) parts) all),
  )

  array_parts : (type element count : ℕ) → typing.meaning type ≡ OfShape (Array element count) → (parts : List ℕ) → length parts ≡ count → list_all (has_type typing element) parts ≡ true → Each (IsTaken typing) parts
  array_parts type element count is [] long all = tt
  array_parts type element count is (id ∷ parts) long all =
      each_element element (s.part_data type 0 element (ap (λ (m : Meaning). part_at m 0) is ∙ ap (λ (b : Bool). if b then Some (part.Type element) else None) (lt-ltb 0 count (omega (arith, long))))) (id ∷ parts) all

  each_member : (types parts : List ℕ) → ((index own : ℕ) → slice_get types index ≡ Some own → is_data (typing.meaning own) ≡ true) → length parts ≡ length types
      → list_all (λ pair. has_type typing pair.0 pair.1) (zip types parts) ≡ true → Each (IsTaken typing) parts
  each_member types [] data_are long all = tt
  each_member [] (id ∷ parts) data_are long all = absurd (omega (arith, long))
  each_member (type ∷ types) (id ∷ parts) data_are long all =
      let rest : Bool = list_all (λ pair. has_type typing pair.0 pair.1) (zip types parts) in (
        λ _. of_type_taken typing type id (first_of_both (has_type typing type id) rest all) (data_taken (typing.meaning type) (data_are 0 type refl)),
        each_member types parts (λ index own is. data_are (suc index) own is) (omega (arith, long)) (second_of_both (has_type typing type id) rest all),
      )

  parts_by : (type : ℕ) (m : Meaning) → typing.meaning type ≡ m → (parts : List ℕ) → parts_fit typing m parts ≡ true → Each (IsTaken typing) parts
  parts_by type (OfShape (BoolVector count)) is parts fit = vector_parts component.Truth count parts fit
  parts_by type (OfShape (IntVector count signed)) is parts fit = vector_parts (component.Integer signed) count parts fit
  parts_by type (OfShape (Array element count)) is parts fit =
      array_parts type element count is parts (eqb-true (length parts) count (first_of_both (length parts == count) (list_all (has_type typing element) parts) fit))
      (second_of_both (length parts == count) (list_all (has_type typing element) parts) fit)
  parts_by type (OfShape (Struct members)) is parts fit =
      let each : Bool = list_all (λ pair. has_type typing pair.0 pair.1) (zip members.list parts) in
      each_member members.list parts (λ index own at. s.part_data type index own (ap (λ (m : Meaning). part_at m index) is ∙ ap (option_map part.Type) at))
      (eqb-true (length parts) (length members.list) (first_of_both (length parts == length members.list) each fit)) (second_of_both (length parts == length members.list) each fit)
  parts_by type m is parts fit = cc

  pub parts_taken : (type : ℕ) (parts : List ℕ) → parts_fit typing (typing.meaning type) parts ≡ true → Each (IsTaken typing) parts
  parts_taken type parts fit = parts_by type (typing.meaning type) refl parts fit

  nowhere : (indices : List ℕ) → part_along typing None indices ≡ None
  nowhere [] = refl
  nowhere (index ∷ indices) = nowhere indices

  none_of : (of : Option ℕ) → is_of typing of None ≡ false
  none_of None = refl
  none_of (Some type) = refl

  clash : {Q : Type 0} (b : Bool) → b ≡ true → b ≡ false → Q
  clash true is isnt = cc
  clash false is isnt = cc

  -- what has parts is no pointer
  whole_by : (m : Meaning) (index : ℕ) (of : Option ℕ) (indices : List ℕ) → is_of typing of (part_along typing (part_at m index) indices) ≡ true → is_taken_type m ≡ true
  whole_by (OfShape (BoolVector count)) index of indices is = refl
  whole_by (OfShape (IntVector count signed)) index of indices is = refl
  whole_by (OfShape (Array element count)) index of indices is = refl
  whole_by (OfShape (Struct members)) index of indices is = refl
  whole_by m index of indices is = clash (is_of typing of None) (ap (is_of typing of) (sym (nowhere indices)) ∙ is) (none_of of)

  whole_taken : (found : Option ℕ) (index : ℕ) (of : Option ℕ) (indices : List ℕ) → is_of typing of (part_along typing (option_map part.Type found) (index ∷ indices)) ≡ true → is_taken_type (meaning_of typing found) ≡ true
  whole_taken None index of indices is = clash (is_of typing of None) (ap (is_of typing of) (sym (nowhere indices)) ∙ is) (none_of of)
  whole_taken (Some type) index of indices is = whole_by (typing.meaning type) index of indices is

  pub extract_taken : (type composite index : ℕ) (indices : List ℕ) → extract_fits typing type composite (index ∷ indices) ≡ true → IsTaken typing composite
  extract_taken type composite index indices fit _ = whole_taken (type_id (typing.meaning composite)) index (Some type) indices fit

  scalar_some : (c : Component) (of : Option Components) → is_scalar_of c of ≡ true → is_some of ≡ true
  scalar_some c None is = cc
  scalar_some c (Some of) is = refl

  reached_taken : (of : Option ℕ) (reached : Option Part) → IsDataPart typing reached → is_of typing of reached ≡ true → is_taken_type (meaning_of typing of) ≡ true
  reached_taken None reached sound is = cc
  reached_taken (Some type) None sound is = cc
  reached_taken (Some type) (Some (part.Type own)) sound is = ap (λ (n : ℕ). is_taken_type (typing.meaning n)) (sym (eqb-true own type is)) ∙ data_taken (typing.meaning own) sound
  reached_taken (Some type) (Some (part.Component c)) sound is = components_taken (typing.meaning type) (scalar_some c (components_in (typing.meaning type)) is)

  pub insert_taken : (type object composite index : ℕ) (indices : List ℕ) → insert_fits typing type object composite (index ∷ indices) ≡ true → IsTaken typing object × IsTaken typing composite
  insert_taken type object composite index indices fit =
      let of = type_id (typing.meaning object) in
      let whole = whole_of typing composite in
      let is = second_of_both (has_type typing type composite) (is_of typing of (part_along typing whole (index ∷ indices))) fit in (
        λ _. reached_taken of (part_along typing whole (index ∷ indices)) (data_along typing s (option_and_then (λ (whole : Part). part_of typing whole index) whole) indices (data_next typing s whole index)) is,
        λ _. whole_taken (type_id (typing.meaning composite)) index of indices is,
      )

  both_of_five : (a b c d e : Bool) → (a && b && c && d && e) ≡ true → (c ≡ true) × (d ≡ true)
  both_of_five true true true true e is = (refl, refl)
  both_of_five true true true false e is = cc
  both_of_five true true false d e is = cc
  both_of_five true false c d e is = cc
  both_of_five false b c d e is = cc

  vector_some : (c : Component) (of : Option Components) → is_vector_of c of ≡ true → is_some of ≡ true
  vector_some c None is = cc
  vector_some c (Some of) is = refl

  shuffle_by : (of : Option Components) (first second : ℕ) (literals : List ℕ) → shuffle_into of (components_of typing first) (components_of typing second) literals ≡ true → IsTaken typing first × IsTaken typing second
  shuffle_by None first second literals fit = cc
  shuffle_by (Some of) first second literals fit =
      let of_first = components_of typing first in let of_second = components_of typing second in
      let each : Bool = list_all (λ literal. nat_lt literal (count_in of_first + count_in of_second) || (literal == no_component)) literals in
      let e = both_of_five (nat_le 2 of.count) (of.count == length literals) (is_vector_of of.component of_first) (is_vector_of of.component of_second) each fit in
      (λ _. components_taken (type_of typing first) (vector_some of.component of_first e.0), λ _. components_taken (type_of typing second) (vector_some of.component of_second e.1))

  pub shuffle_taken : (type first second : ℕ) (literals : List ℕ) → shuffle_fits typing type first second literals ≡ true → IsTaken typing first × IsTaken typing second
  shuffle_taken type first second literals fit = shuffle_by (components_in (typing.meaning type)) first second literals fit

  pub reduction_taken : (type vector : ℕ) → reduction_fits typing type vector ≡ true → IsTaken typing vector
  reduction_taken type vector fit _ = vector_taken (type_of typing vector) (second_of_both (is_bool (typing.meaning type)) (is_truth_vector (type_of typing vector)) fit)

  -- ---- memory

  object_by : (own object : ℕ) (m : Meaning) → typing.meaning own ≡ m → is_object_of typing (pointee_id m) object ≡ true → IsTaken typing object
  object_by own object (OfShape (Pointer class to)) is fit _ = of_type_taken typing to object fit (data_taken (typing.meaning to) (s.pointee own class to is))
  object_by own object m is fit _ = cc

  stored : (found : Option ℕ) (object : ℕ) → is_object_of typing (pointee_id (meaning_of typing found)) object ≡ true → IsTaken typing object
  stored None object fit = cc
  stored (Some own) object fit = object_by own object (typing.meaning own) refl fit

  pub object_taken : (pointer object : ℕ) → store_fits typing pointer object ≡ true → IsTaken typing object
  object_taken pointer object fit = stored (type_id (typing.meaning pointer)) object fit

  index_taken : (index : ℕ) (reached next : Part) → indexed typing index reached ≡ Some next → IsTaken typing index
  index_taken index reached next is _ = integer_taken (type_of typing index) (by_test (is_integer (type_of typing index)) is)
    where
      by_test : (b : Bool) → (if b then Some reached else None) ≡ Some next → b ≡ true
      by_test true is = refl
      by_test false is = cc

  module _ (numbers : AreNumbersConstant typing) where
    member_taken : (members : List ℕ) (index : ℕ) (next : Part) (number : Option ℕ) → typing.constant index ≡ number → member_at members number ≡ Some next → IsTaken typing index
    member_taken members index next None of is = cc
    member_taken members index next (Some word) of is = not_value typing index (numbers index word of)

    step_taken : (m : Meaning) (index : ℕ) (next : Part) → chain_part typing m index ≡ Some next → IsTaken typing index
    step_taken (OfShape (BoolVector count)) index next is = index_taken index (part.Component component.Truth) next is
    step_taken (OfShape (IntVector count signed)) index next is = index_taken index (part.Component (component.Integer signed)) next is
    step_taken (OfShape (Array element count)) index next is = index_taken index (part.Type element) next is
    step_taken (OfShape (Struct members)) index next is = member_taken members.list index next (typing.constant index) refl is
    step_taken m index next is = cc

    part_taken : (from : Part) (index : ℕ) (next : Part) → chain_step typing index from ≡ Some next → IsTaken typing index
    part_taken (part.Type type) index next is = step_taken (typing.meaning type) index next is
    part_taken (part.Component c) index next is = cc

    no_chain : (indices : List ℕ) → chain_along typing None indices ≡ None
    no_chain [] = refl
    no_chain (index ∷ indices) = no_chain indices

    no_some : {Q : Type 0} (found : Option Part) (to : Part) → found ≡ None → found ≡ Some to → Q
    no_some found to is also = cc

    indices_taken : (from : Part) (indices : List ℕ) (to : Part) → chain_along typing (Some from) indices ≡ Some to → Each (IsTaken typing) indices
    indices_taken from [] to is = tt
    indices_taken from (index ∷ indices) to is = by_step (chain_step typing index from) refl is (λ next is. indices_taken next indices to is)
      where
        by_step : (next : Option Part) → chain_step typing index from ≡ next → chain_along typing next indices ≡ Some to → ((next : Part) → chain_along typing (Some next) indices ≡ Some to → Each (IsTaken typing) indices) → Each (IsTaken typing) (index ∷ indices)
        by_step None one is go = no_some (chain_along typing None indices) to (no_chain indices) is
        by_step (Some next) one is go = (part_taken from index next one, go next is)

    from_taken : (from : Option Part) (indices : List ℕ) (to : Part) → chain_along typing from indices ≡ Some to → Each (IsTaken typing) indices
    from_taken None indices to is = no_some (chain_along typing None indices) to (no_chain indices) is
    from_taken (Some from) indices to is = indices_taken from indices to is

    reached_by : (m : Meaning) (storage : ℕ) (reached : Option Part) → is_pointer_to typing m storage reached ≡ true → (to : Part) × (reached ≡ Some to)
    reached_by (OfShape (Pointer class to)) storage None fit = absurd (let e = second_of_both (class == storage) false fit in cc)
    reached_by (OfShape (Pointer class to)) storage (Some own) fit = (own, refl)
    reached_by m storage reached fit = cc

    chain_by : (type : ℕ) (m : Meaning) (indices : List ℕ) → chain_fits typing type m indices ≡ true → Each (IsTaken typing) indices
    chain_by type (Variable held storage) indices fit =
        let from : Option Part = option_map part.Type (pointee_id (typing.meaning held)) in
        let r = reached_by (typing.meaning type) storage (chain_along typing from indices) fit in
        from_taken from indices r.0 r.1
    chain_by type m indices fit = cc

    pub chain_taken : (type base : ℕ) (indices : List ℕ) → chain_fits typing type (typing.meaning base) indices ≡ true → Each (IsTaken typing) indices
    chain_taken type base indices fit = chain_by type (typing.meaning base) indices fit
