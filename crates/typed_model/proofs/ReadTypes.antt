-- Where its operands fit, each id whose value an instruction reads has a type.
use Rattle.std.proofs.Common.{◌≡◌, ℕ, ◌==◌, ◌&&◌, ◌||◌, ◌+◌, nat_le, nat_lt, Bool, true, false, if◌then◌else◌, List, [], ◌∷◌, length, refl, ap, arith, Option, None, Some}
use Rattle.std.specs.List.{list_all, sum_by, zip}
use Rattle.std.specs.Option.{option_map}
use Rattle.basics.specs.Word.{are_equal}
use Rattle.basics.proofs.Bools.{first_of_both, second_of_both}
use Rattle.spirv_model.specs.declared.class.ScalarClass.{ScalarClass}
use Rattle.spirv_model.specs.declared.class.ScalarClass.TheVariants.{Bitcast, WordFromWord, WordFromWords, TruthFromWords, TruthFromTruth, TruthFromTruths, Select}
use Rattle.valid_model.specs.declared.meaning.Meaning.{Meaning}
use Rattle.valid_model.specs.declared.meaning.Meaning.TheVariants.{Absent, Shape as OfShape, Variable}
use Rattle.valid_model.specs.declared.meaning.Shape.TheVariants.{BoolVector, IntVector, Array, Struct, Pointer as PointerType}
use Rattle.valid_model.specs.Knowledge.{is_bool, is_integer}
use Rattle.valid_model.specs.ModuleFacts.{is_word}
use Rattle.valid_model.specs.Shapes.{pointee_id}
use Rattle.check_model.specs.declared.components.Component.{Component}
use Rattle.check_model.specs.declared.components.Component.TheVariants as component
use Rattle.check_model.specs.declared.components.Components.{Components}
use Rattle.check_model.specs.declared.components.Part.{Part}
use Rattle.check_model.specs.declared.components.Part.TheVariants as part
use Rattle.check_model.specs.Typing.{Typing, type_id, meaning_of, type_of, has_type, components_in}
use Rattle.check_model.specs.CompositeOperands.{part_along, is_of_type, is_of, extract_fits, insert_fits, is_made_of, count_in, components_of, vector_parts_fit, parts_fit, is_vector_of, no_component, shuffle_into, shuffle_fits, is_truth_vector, reduction_fits}
use Rattle.check_model.specs.MemoryOperands.{load_fits, is_object_of, store_fits, indexed, member_at, chain_part, chain_step, chain_along, is_pointer_to, chain_fits}
use Rattle.check_model.specs.ScalarOperands.{is_truth, match_in, operand_fits, unary_fits, both_fit, binary_fits, condition_fits, is_select, select_fits, scalar_operands_fit}
use Rattle.typed_model.proofs.TypeLayouts.{same}

-- each of these ids has the property
abbrev pub Each : (ℕ → Type 0) → List ℕ → Type 0
Each P [] = Unit {0}
Each P (id ∷ ids) = P id × Each P ids

-- the id has a type
pub record IsTyped (typing : Typing) (id : ℕ) : Type 0 where
  pub type : ℕ
  pub of : type_id (typing.meaning id) ≡ Some type

-- an id that is an OpConstant has a type
abbrev pub AreNumbersTyped : Typing → Type 0
AreNumbersTyped typing = (id word : ℕ) → typing.constant id ≡ Some word → IsTyped typing id

-- a test of its type, which none fails, holds
tested : (typing : Typing) (test : Option ℕ → Bool) → test None ≡ false → (id : ℕ) → test (type_id (typing.meaning id)) ≡ true → IsTyped typing id
tested typing test isnt id is = by_type typing test isnt id (type_id (typing.meaning id)) refl is
  where
    by_type : (typing : Typing) (test : Option ℕ → Bool) → test None ≡ false → (id : ℕ) (type : Option ℕ) → type_id (typing.meaning id) ≡ type → test type ≡ true → IsTyped typing id
    by_type typing test isnt id None of is = cc
    by_type typing test isnt id (Some type) of is = record { type = type; of = of }

all_tested : (typing : Typing) (test : Option ℕ → Bool) → test None ≡ false → (ids : List ℕ) → list_all (λ id. test (type_id (typing.meaning id))) ids ≡ true → Each (IsTyped typing) ids
all_tested typing test isnt [] all = tt
all_tested typing test isnt (id ∷ ids) all =
    let each : ℕ → Bool = λ id. test (type_id (typing.meaning id)) in
    (tested typing test isnt id (first_of_both (each id) (list_all each ids) all), all_tested typing test isnt ids (second_of_both (each id) (list_all each ids) all))

-- ---- memory

pub load_typed : (typing : Typing) (type pointer : ℕ) → load_fits typing type pointer ≡ true → IsTyped typing pointer
load_typed typing type pointer fit = tested typing (λ own. is_word type (pointee_id (meaning_of typing own))) refl pointer fit

object_typed : (typing : Typing) (to : Option ℕ) (object : ℕ) → is_object_of typing to object ≡ true → IsTyped typing object
object_typed typing None object fit = cc
object_typed typing (Some type) object fit = tested typing (is_word type) refl object fit

pub store_typed : (typing : Typing) (pointer object : ℕ) → store_fits typing pointer object ≡ true → IsTyped typing pointer × IsTyped typing object
store_typed typing pointer object fit = (tested typing (λ own. is_object_of typing (pointee_id (meaning_of typing own)) object) refl pointer fit, object_typed typing (pointee_id (type_of typing pointer)) object fit)

index_typed : (typing : Typing) (index : ℕ) (reached next : Part) → indexed typing index reached ≡ Some next → IsTyped typing index
index_typed typing index reached next is = tested typing (λ own. is_integer (meaning_of typing own)) refl index (by_test (is_integer (type_of typing index)) reached next is)
  where
    by_test : (b : Bool) (reached next : Part) → (if b then Some reached else None) ≡ Some next → b ≡ true
    by_test true reached next is = refl
    by_test false reached next is = cc

member_typed : (typing : Typing) → AreNumbersTyped typing → (members : List ℕ) (index : ℕ) (next : Part) → member_at members (typing.constant index) ≡ Some next → IsTyped typing index
member_typed typing numbers members index next is = by_number typing numbers members index next (typing.constant index) refl is
  where
    by_number : (typing : Typing) → AreNumbersTyped typing → (members : List ℕ) (index : ℕ) (next : Part) (number : Option ℕ) → typing.constant index ≡ number → member_at members number ≡ Some next → IsTyped typing index
    by_number typing numbers members index next None of is = cc
    by_number typing numbers members index next (Some word) of is = numbers index word of

step_typed : (typing : Typing) → AreNumbersTyped typing → (m : Meaning) (index : ℕ) (next : Part) → chain_part typing m index ≡ Some next → IsTyped typing index
step_typed typing numbers (OfShape (BoolVector count)) index next is = index_typed typing index (part.Component component.Truth) next is
step_typed typing numbers (OfShape (IntVector count signed)) index next is = index_typed typing index (part.Component (component.Integer signed)) next is
step_typed typing numbers (OfShape (Array element count)) index next is = index_typed typing index (part.Type element) next is
step_typed typing numbers (OfShape (Struct members)) index next is = member_typed typing numbers members.list index next is
step_typed typing numbers m index next is = cc

part_typed : (typing : Typing) → AreNumbersTyped typing → (from : Part) (index : ℕ) (next : Part) → chain_step typing index from ≡ Some next → IsTyped typing index
part_typed typing numbers (part.Type type) index next is = step_typed typing numbers (typing.meaning type) index next is
part_typed typing numbers (part.Component component) index next is = cc

nowhere : (typing : Typing) (indices : List ℕ) (to : Part) → chain_along typing None indices ≡ Some to → ⊥
nowhere typing [] to is = cc
nowhere typing (index ∷ indices) to is = nowhere typing indices to is

indices_typed : (typing : Typing) → AreNumbersTyped typing → (from : Part) (indices : List ℕ) (to : Part) → chain_along typing (Some from) indices ≡ Some to → Each (IsTyped typing) indices
indices_typed typing numbers from [] to is = tt
indices_typed typing numbers from (index ∷ indices) to is =
    by_step typing numbers from index indices to (chain_step typing index from) refl is (λ next is. indices_typed typing numbers next indices to is)
  where
    by_step : (typing : Typing) → AreNumbersTyped typing → (from : Part) (index : ℕ) (indices : List ℕ) (to : Part) (next : Option Part) → chain_step typing index from ≡ next → chain_along typing next indices ≡ Some to
        → ((next : Part) → chain_along typing (Some next) indices ≡ Some to → Each (IsTyped typing) indices) → Each (IsTyped typing) (index ∷ indices)
    by_step typing numbers from index indices to None one is go = absurd (nowhere typing indices to is)
    by_step typing numbers from index indices to (Some next) one is go = (part_typed typing numbers from index next one, go next is)

reached_by : (typing : Typing) (m : Meaning) (storage : ℕ) (reached : Option Part) → is_pointer_to typing m storage reached ≡ true → (to : Part) × (reached ≡ Some to)
reached_by typing (OfShape (PointerType class to)) storage None fit = absurd (let e = second_of_both (class == storage) false fit in cc)
reached_by typing (OfShape (PointerType class to)) storage (Some own) fit = (own, refl)
reached_by typing m storage reached fit = cc

from_typed : (typing : Typing) → AreNumbersTyped typing → (from : Option Part) (indices : List ℕ) (to : Part) → chain_along typing from indices ≡ Some to → Each (IsTyped typing) indices
from_typed typing numbers None indices to is = absurd (nowhere typing indices to is)
from_typed typing numbers (Some from) indices to is = indices_typed typing numbers from indices to is

chain_typed_by : (typing : Typing) → AreNumbersTyped typing → (type base : ℕ) (m : Meaning) (indices : List ℕ) → typing.meaning base ≡ m → chain_fits typing type m indices ≡ true → IsTyped typing base × Each (IsTyped typing) indices
chain_typed_by typing numbers type base (Variable held storage) indices is fit =
    let from : Option Part = option_map part.Type (pointee_id (typing.meaning held)) in
    let r = reached_by typing (typing.meaning type) storage (chain_along typing from indices) fit in
    (record { type = held; of = ap type_id is }, from_typed typing numbers from indices r.0 r.1)
chain_typed_by typing numbers type base m indices is fit = cc

pub chain_typed : (typing : Typing) → AreNumbersTyped typing → (type base : ℕ) (indices : List ℕ) → chain_fits typing type (typing.meaning base) indices ≡ true → Each (IsTyped typing) (base ∷ indices)
chain_typed typing numbers type base indices fit = chain_typed_by typing numbers type base (typing.meaning base) indices refl fit

-- ---- composites

three : (a b c : Bool) → (a && b && c) ≡ true → b ≡ true
three true true c is = refl
three true false c is = cc
three false b c is = cc

vector_typed : (typing : Typing) (c : Component) (count : ℕ) (parts : List ℕ) → vector_parts_fit typing c count parts ≡ true → Each (IsTyped typing) parts
vector_typed typing c count parts fit =
    all_tested typing (λ own. is_made_of c (components_in (meaning_of typing own))) refl parts
    (three (nat_le 2 (length parts)) (list_all (λ id. is_made_of c (components_of typing id)) parts) (sum_by (λ id. count_in (components_of typing id)) parts == count) fit)

each_member : (typing : Typing) (types parts : List ℕ) → length parts ≡ length types → list_all (λ pair. has_type typing pair.0 pair.1) (zip types parts) ≡ true → Each (IsTyped typing) parts
each_member typing types [] long all = tt
each_member typing [] (id ∷ parts) long all = absurd (omega (arith, long))
each_member typing (type ∷ types) (id ∷ parts) long all =
    let rest : Bool = list_all (λ pair. has_type typing pair.0 pair.1) (zip types parts) in
    (tested typing (is_word type) refl id (first_of_both (has_type typing type id) rest all), each_member typing types parts (omega (arith, long)) (second_of_both (has_type typing type id) rest all))

pub parts_typed : (typing : Typing) (m : Meaning) (parts : List ℕ) → parts_fit typing m parts ≡ true → Each (IsTyped typing) parts
parts_typed typing (OfShape (BoolVector count)) parts fit = vector_typed typing component.Truth count parts fit
parts_typed typing (OfShape (IntVector count signed)) parts fit = vector_typed typing (component.Integer signed) count parts fit
parts_typed typing (OfShape (Array element count)) parts fit = all_tested typing (is_word element) refl parts (second_of_both (length parts == count) (list_all (has_type typing element) parts) fit)
parts_typed typing (OfShape (Struct members)) parts fit =
    let each : Bool = list_all (λ pair. has_type typing pair.0 pair.1) (zip members.list parts) in
    each_member typing members.list parts (same _ _ (first_of_both (length parts == length members.list) each fit)) (second_of_both (length parts == length members.list) each fit)
parts_typed typing m parts fit = cc

no_part : (typing : Typing) (type : ℕ) (indices : List ℕ) → is_of_type typing type (part_along typing None indices) ≡ false
no_part typing type [] = refl
no_part typing type (index ∷ indices) = no_part typing type indices

pub extract_typed : (typing : Typing) (type composite : ℕ) (indices : List ℕ) → extract_fits typing type composite indices ≡ true → IsTyped typing composite
extract_typed typing type composite indices fit = tested typing (λ own. is_of_type typing type (part_along typing (option_map part.Type own) indices)) (no_part typing type indices) composite fit

pub insert_typed : (typing : Typing) (type object composite : ℕ) (indices : List ℕ) → insert_fits typing type object composite indices ≡ true → IsTyped typing object × IsTyped typing composite
insert_typed typing type object composite indices fit =
    let reached : Option Part = part_along typing (option_map part.Type (type_id (typing.meaning composite))) indices in
    let has = has_type typing type composite in let is = is_of typing (type_id (typing.meaning object)) reached in
    (tested typing (λ own. is_of typing own reached) refl object (second_of_both has is fit), tested typing (is_word type) refl composite (first_of_both has is fit))

both_of_five : (a b c d e : Bool) → (a && b && c && d && e) ≡ true → (c ≡ true) × (d ≡ true)
both_of_five true true true true e is = (refl, refl)
both_of_five true true true false e is = cc
both_of_five true true false d e is = cc
both_of_five true false c d e is = cc
both_of_five false b c d e is = cc

shuffle_typed_by : (typing : Typing) (of : Option Components) (first second : ℕ) (literals : List ℕ) → shuffle_into of (components_of typing first) (components_of typing second) literals ≡ true → IsTyped typing first × IsTyped typing second
shuffle_typed_by typing None first second literals fit = cc
shuffle_typed_by typing (Some of) first second literals fit =
    let of_first = components_of typing first in let of_second = components_of typing second in
    let each : Bool = list_all (λ literal. nat_lt literal (count_in of_first + count_in of_second) || (literal == no_component)) literals in
    let e = both_of_five (nat_le 2 of.count) (of.count == length literals) (is_vector_of of.component of_first) (is_vector_of of.component of_second) each fit in
    let test : Option ℕ → Bool = λ own. is_vector_of of.component (components_in (meaning_of typing own)) in
    (tested typing test refl first e.0, tested typing test refl second e.1)

pub shuffle_typed : (typing : Typing) (type first second : ℕ) (literals : List ℕ) → shuffle_fits typing type first second literals ≡ true → IsTyped typing first × IsTyped typing second
shuffle_typed typing type first second literals fit = shuffle_typed_by typing (components_in (typing.meaning type)) first second literals fit

pub reduction_typed : (typing : Typing) (type vector : ℕ) → reduction_fits typing type vector ≡ true → IsTyped typing vector
reduction_typed typing type vector fit =
    tested typing (λ own. is_truth_vector (meaning_of typing own)) refl vector (second_of_both (is_bool (typing.meaning type)) (is_truth_vector (type_of typing vector)) fit)

-- ---- scalar operations

and_false : (b : Bool) → (b && false) ≡ false
and_false true = refl
and_false false = refl

no_match : (a b : Bool) (of : Option Components) → match_in a b of None ≡ false
no_match a b None = refl
no_match a b (Some of) = and_false (are_equal a (is_truth of.component))

no_unary : (class : ScalarClass) (type : Meaning) → unary_fits class type Absent ≡ false
no_unary Bitcast type = no_match false false (components_in type)
no_unary WordFromWord type = no_match false false (components_in type)
no_unary TruthFromTruth type = no_match true true (components_in type)
no_unary WordFromWords type = refl
no_unary TruthFromWords type = refl
no_unary TruthFromTruths type = refl
no_unary Select type = refl

both_typed : (typing : Typing) (x y : Bool) (type : Meaning) (a b : ℕ) → both_fit x y type (type_of typing a) (type_of typing b) ≡ true → Each (IsTyped typing) (a ∷ b ∷ [])
both_typed typing x y type a b fit =
    let test : Option ℕ → Bool = λ own. operand_fits x y type (meaning_of typing own) in let none = no_match x y (components_in type) in
    let left = operand_fits x y type (type_of typing a) in let right = operand_fits x y type (type_of typing b) in
    (tested typing test none a (first_of_both left right fit), (tested typing test none b (second_of_both left right fit), tt))

binary_typed : (typing : Typing) (class : ScalarClass) (type : Meaning) (a b : ℕ) → binary_fits class type (type_of typing a) (type_of typing b) ≡ true → Each (IsTyped typing) (a ∷ b ∷ [])
binary_typed typing WordFromWords type a b fit = both_typed typing false false type a b fit
binary_typed typing TruthFromWords type a b fit = both_typed typing true false type a b fit
binary_typed typing TruthFromTruths type a b fit = both_typed typing true true type a b fit
binary_typed typing Bitcast type a b fit = cc
binary_typed typing WordFromWord type a b fit = cc
binary_typed typing TruthFromTruth type a b fit = cc
binary_typed typing Select type a b fit = cc

no_condition : (of : Option Components) → condition_fits Absent of ≡ false
no_condition None = refl
no_condition (Some of) = refl

each_of_three : (a b c : Bool) → (a && b && c) ≡ true → (a ≡ true) × (b ≡ true) × (c ≡ true)
each_of_three true true c is = (refl, refl, is)
each_of_three true false c is = cc
each_of_three false b c is = cc

select_typed : (typing : Typing) (type condition a b : ℕ) → select_fits typing type condition a b ≡ true → Each (IsTyped typing) (condition ∷ a ∷ b ∷ [])
select_typed typing type condition a b fit =
    let of = components_in (typing.meaning type) in
    let e = each_of_three (condition_fits (type_of typing condition) of) (has_type typing type a) (has_type typing type b) fit in
    (tested typing (λ own. condition_fits (meaning_of typing own) of) (no_condition of) condition e.0, (tested typing (is_word type) refl a e.1, (tested typing (is_word type) refl b e.2, tt)))

pub scalar_reads_typed : (typing : Typing) (class : ScalarClass) (type : ℕ) (operands : List ℕ) → scalar_operands_fit typing class type operands ≡ true → Each (IsTyped typing) operands
unfolding scalar_operands_fit
scalar_reads_typed typing class type [] fit = tt
scalar_reads_typed typing class type (a ∷ []) fit = (tested typing (λ own. unary_fits class (typing.meaning type) (meaning_of typing own)) (no_unary class (typing.meaning type)) a fit, tt)
scalar_reads_typed typing class type (a ∷ b ∷ []) fit = binary_typed typing class (typing.meaning type) a b fit
scalar_reads_typed typing class type (condition ∷ a ∷ b ∷ []) fit = select_typed typing type condition a b (second_of_both (is_select class) (select_fits typing type condition a b) fit)
scalar_reads_typed typing class type (a ∷ b ∷ c ∷ d ∷ more) fit = cc

-- ---- terminators that choose

pub condition_typed : (typing : Typing) (id : ℕ) → is_bool (type_of typing id) ≡ true → IsTyped typing id
condition_typed typing id fit = tested typing (λ own. is_bool (meaning_of typing own)) refl id fit

pub selector_typed : (typing : Typing) (id : ℕ) → is_integer (type_of typing id) ≡ true → IsTyped typing id
selector_typed typing id fit = tested typing (λ own. is_integer (meaning_of typing own)) refl id fit
