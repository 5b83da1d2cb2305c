-- The type of a result that isn't a phi's has the shape of one, and so its own name.
use Rattle.std.proofs.Common.{◌≡◌, ℕ, zero, suc, ◌<◌, ◌≤◌, ◌==◌, ◌&&◌, nat_lt, Bool, true, false, if◌then◌else◌, List, [], ◌∷◌, length, take, drop, refl, ap, sym, ◌∙◌, subst, arith, take_all, Option, None, Some}
use Rattle.std.specs.Prelude.{is_some, slice_get}
use Rattle.std.specs.List.{list_all}
use Rattle.std.specs.Option.{option_map, option_and_then}
use Rattle.std.proofs.lemmas.Bool.{eqb-true}
use Rattle.basics.proofs.Bools.{first_of_both, second_of_both}
use Rattle.spirv_model.specs.declared.module.Inst.{Inst}
use Rattle.spirv_model.specs.declared.module.Words.{Words}
use Rattle.spirv_model.specs.declared.class.Class.{Class}
use Rattle.spirv_model.specs.declared.class.Class.TheVariants as class
use Rattle.spirv_model.specs.declared.class.ScalarClass.{ScalarClass}
use Rattle.spirv_model.specs.declared.class.ScalarClass.TheVariants.{Bitcast, WordFromWord, WordFromWords, TruthFromWords, TruthFromTruth, TruthFromTruths, Select}
use Rattle.spirv_model.specs.declared.op.TheConstants as op
use Rattle.spirv_model.specs.declared.table.Entry.{Entry}
use Rattle.spirv_model.specs.declared.table.Entry.TheVariants.{Listed}
use Rattle.spirv_model.specs.Operands.{word_at, words_from, entry_of, class_of, listed_of, kinds_in, kinds}
use Rattle.valid_model.specs.declared.meaning.Meaning.{Meaning}
use Rattle.valid_model.specs.declared.meaning.Meaning.TheVariants.{Shape as OfShape, Variable}
use Rattle.valid_model.specs.declared.meaning.Shape.{Shape}
use Rattle.valid_model.specs.declared.meaning.Shape.TheVariants.{BoolVector, IntVector, Array, Struct, Pointer}
use Rattle.valid_model.specs.Definitions.{inst_at}
use Rattle.valid_model.specs.Knowledge.{Knowledge, meaning_in, is_data, is_bool}
use Rattle.valid_model.specs.Meanings.{known_by, known_before, meaning}
use Rattle.valid_model.specs.ModuleFacts.{is_word}
use Rattle.valid_model.specs.Shapes.{pointee_id}
use Rattle.valid_model.specs.Types.{is_type, is_result_type}
use Rattle.check_model.specs.declared.components.Components.{Components}
use Rattle.check_model.specs.declared.components.Component.{Component}
use Rattle.check_model.specs.declared.components.Component.TheVariants as component
use Rattle.check_model.specs.declared.components.Part.{Part}
use Rattle.check_model.specs.declared.components.Part.TheVariants as part
use Rattle.check_model.specs.CompositeOperands.{is_scalar_of, part_at, part_of, part_along, component_part, is_of_type, whole_of, is_of, parts_fit, shuffle_into, shuffle_fits, reduction_fits, is_truth_vector, extract_fits, insert_fits, composite_operands_fit}
use Rattle.check_model.specs.MemoryOperands.{load_fits, store_fits, chain_along, is_pointer_to, chain_fits, memory_operands_fit}
use Rattle.check_model.specs.OperandTypes.{operands_fit_class, operands_fit}
use Rattle.check_model.specs.ScalarOperands.{match_in, unary_fits, binary_fits, condition_fits, is_select, scalar_operands_fit}
use Rattle.check_model.specs.Typing.{Typing, typing_of, type_id, has_type, meaning_of, type_of, components_in}
use Rattle.check_model.specs.Validity.{IsValidList}
use Rattle.check_model.specs.Visibility.{uses_operands}
use Rattle.typed_model.proofs.BlockParts.{another}
use Rattle.typed_model.proofs.ModuleTypes.{IsSoundShape, all_fit}
use Rattle.typed_model.proofs.ResultIds.{is_named, named}
use Rattle.typed_model.proofs.ValidModules.{valid_sound}
use Rattle.typed_model.proofs.ValidTypes.{keeps_rules, pointer_by, unbroken, stays_known}
use Rattle.change_model.specs.Folding.{function_at}
use Rattle.change_model.specs.PlanRules.{is_shape}
use Rattle.change_model.proofs.ChangedNames.{name_of_type}
use Rattle.change_model.proofs.Planned.{Planned}

-- ---- shapes

pub shape_by : (m : Meaning) → is_shape m ≡ true → (shape : Shape) × (m ≡ OfShape shape)
shape_by (OfShape shape) is = (shape, refl)
shape_by m is = cc

pub data_shape : (m : Meaning) → is_data m ≡ true → is_shape m ≡ true
data_shape (OfShape shape) is = refl
data_shape m is = cc

bool_shape : (m : Meaning) → is_bool m ≡ true → is_shape m ≡ true
bool_shape (OfShape shape) is = refl
bool_shape m is = cc

components_shape : (m : Meaning) → is_some (components_in m) ≡ true → is_shape m ≡ true
components_shape (OfShape shape) is = refl
components_shape m is = cc

pointer_shape : (typing : Typing) (m : Meaning) (storage : ℕ) (reached : Option Part) → is_pointer_to typing m storage reached ≡ true → is_shape m ≡ true
pointer_shape typing (OfShape shape) storage reached is = refl
pointer_shape typing m storage reached is = cc

parts_shape : (typing : Typing) (m : Meaning) (parts : List ℕ) → parts_fit typing m parts ≡ true → is_shape m ≡ true
parts_shape typing (OfShape shape) parts is = refl
parts_shape typing m parts is = cc

-- ---- operations on scalars

matched : (truths other : Bool) (of operand : Option Components) → match_in truths other of operand ≡ true → is_some of ≡ true
matched truths other None operand is = cc
matched truths other (Some of) operand is = refl

conditioned : (condition : Meaning) (of : Option Components) → condition_fits condition of ≡ true → is_some of ≡ true
conditioned condition None is = cc
conditioned condition (Some of) is = refl

unary_some : (own : ScalarClass) (type a : Meaning) → unary_fits own type a ≡ true → is_some (components_in type) ≡ true
unary_some Bitcast type a is = matched false false (components_in type) (components_in a) is
unary_some WordFromWord type a is = matched false false (components_in type) (components_in a) is
unary_some TruthFromTruth type a is = matched true true (components_in type) (components_in a) is
unary_some WordFromWords type a is = cc
unary_some TruthFromWords type a is = cc
unary_some TruthFromTruths type a is = cc
unary_some Select type a is = cc

binary_some : (own : ScalarClass) (type a b : Meaning) → binary_fits own type a b ≡ true → is_some (components_in type) ≡ true
binary_some WordFromWords type a b is = matched false false (components_in type) (components_in a) (first_of_both (match_in false false (components_in type) (components_in a)) (match_in false false (components_in type) (components_in b)) is)
binary_some TruthFromWords type a b is = matched true false (components_in type) (components_in a) (first_of_both (match_in true false (components_in type) (components_in a)) (match_in true false (components_in type) (components_in b)) is)
binary_some TruthFromTruths type a b is = matched true true (components_in type) (components_in a) (first_of_both (match_in true true (components_in type) (components_in a)) (match_in true true (components_in type) (components_in b)) is)
binary_some Bitcast type a b is = cc
binary_some WordFromWord type a b is = cc
binary_some TruthFromTruth type a b is = cc
binary_some Select type a b is = cc

first_of_three : (a b c : Bool) → (a && b && c) ≡ true → a ≡ true
first_of_three true b c is = refl
first_of_three false b c is = cc

scalar_shape : (typing : Typing) (own : ScalarClass) (type : ℕ) (operands : List ℕ) → scalar_operands_fit typing own type operands ≡ true → is_shape (typing.meaning type) ≡ true
unfolding scalar_operands_fit
scalar_shape typing own type [] is = cc
scalar_shape typing own type (a ∷ []) is = components_shape (typing.meaning type) (unary_some own (typing.meaning type) (type_of typing a) is)
scalar_shape typing own type (a ∷ b ∷ []) is = components_shape (typing.meaning type) (binary_some own (typing.meaning type) (type_of typing a) (type_of typing b) is)
scalar_shape typing own type (condition ∷ a ∷ b ∷ []) is =
    components_shape (typing.meaning type)
    (conditioned (type_of typing condition) (components_in (typing.meaning type))
    (first_of_three (condition_fits (type_of typing condition) (components_in (typing.meaning type))) (has_type typing type a) (has_type typing type b) (second_of_both (is_select own) _ is)))
scalar_shape typing own type (condition ∷ a ∷ b ∷ c ∷ more) is = cc

-- ---- types that others are made of

-- pointers point to data, and parts are data
pub record AreSound (typing : Typing) : Type 0 where
  pub pointee : (id class to : ℕ) → typing.meaning id ≡ OfShape (Pointer class to) → is_data (typing.meaning to) ≡ true
  pub part_data : (id index own : ℕ) → part_at (typing.meaning id) index ≡ Some (part.Type own) → is_data (typing.meaning own) ≡ true

abbrev pub IsDataPart : Typing → Option Part → Type 0
IsDataPart typing (Some (part.Type own)) = is_data (typing.meaning own) ≡ true
IsDataPart typing reached = Unit {0}

pub data_next : (typing : Typing) → AreSound typing → (reached : Option Part) (index : ℕ) → IsDataPart typing (option_and_then (λ (whole : Part). part_of typing whole index) reached)
data_next typing s None index = tt
data_next typing s (Some (part.Component component)) index = tt
data_next typing s (Some (part.Type type)) index = by_part (part_at (typing.meaning type) index) refl
  where
    by_part : (found : Option Part) → part_at (typing.meaning type) index ≡ found → IsDataPart typing found
    by_part None is = tt
    by_part (Some (part.Component component)) is = tt
    by_part (Some (part.Type own)) is = s.part_data type index own is

pub data_along : (typing : Typing) → AreSound typing → (reached : Option Part) (indices : List ℕ) → IsDataPart typing reached → IsDataPart typing (part_along typing reached indices)
data_along typing s reached [] is = is
data_along typing s reached (index ∷ indices) is = data_along typing s (option_and_then (λ (whole : Part). part_of typing whole index) reached) indices (data_next typing s reached index)

scalar_some : (component : Component) (of : Option Components) → is_scalar_of component of ≡ true → is_some of ≡ true
scalar_some component None is = cc
scalar_some component (Some of) is = refl

reached_shape : (typing : Typing) (type : ℕ) (reached : Option Part) → IsDataPart typing reached → is_of_type typing type reached ≡ true → is_shape (typing.meaning type) ≡ true
reached_shape typing type None sound is = cc
reached_shape typing type (Some (part.Type own)) sound is = ap (λ (n : ℕ). is_shape (typing.meaning n)) (sym (eqb-true own type is)) ∙ data_shape (typing.meaning own) sound
reached_shape typing type (Some (part.Component component)) sound is = components_shape (typing.meaning type) (scalar_some component (components_in (typing.meaning type)) is)

nowhere : (typing : Typing) (indices : List ℕ) → part_along typing None indices ≡ None
nowhere typing [] = refl
nowhere typing (index ∷ indices) = nowhere typing indices

no_part : (typing : Typing) (m : Meaning) (index : ℕ) (of : Option ℕ) (indices : List ℕ) → is_of typing of (part_along typing (part_at m index) indices) ≡ true → is_shape m ≡ true
no_part typing (OfShape shape) index of indices is = refl
no_part typing m index of indices is = none of (sym (ap (is_of typing of) (nowhere typing indices)) ∙ is)
  where
    none : (of : Option ℕ) → is_of typing of None ≡ true → is_shape m ≡ true
    none None is = cc
    none (Some type) is = cc

-- ---- memory

loaded_by : (typing : Typing) → AreSound typing → (type own : ℕ) (m : Meaning) → typing.meaning own ≡ m → is_word type (pointee_id m) ≡ true → is_shape (typing.meaning type) ≡ true
loaded_by typing s type own (OfShape (Pointer class to)) is fit = ap (λ (n : ℕ). is_shape (typing.meaning n)) (sym (eqb-true to type fit)) ∙ data_shape (typing.meaning to) (s.pointee own class to is)
loaded_by typing s type own m is fit = cc

loaded : (typing : Typing) → AreSound typing → (type : ℕ) (found : Option ℕ) → is_word type (pointee_id (meaning_of typing found)) ≡ true → is_shape (typing.meaning type) ≡ true
loaded typing s type None fit = cc
loaded typing s type (Some own) fit = loaded_by typing s type own (typing.meaning own) refl fit

chained : (typing : Typing) (type : ℕ) (base : Meaning) (indices : List ℕ) → chain_fits typing type base indices ≡ true → is_shape (typing.meaning type) ≡ true
chained typing type (Variable held storage) indices fit =
    pointer_shape typing (typing.meaning type) storage (chain_along typing (option_map part.Type (pointee_id (typing.meaning held))) indices) fit
chained typing type base indices fit = cc

memory_shape : (typing : Typing) → AreSound typing → (inst : Inst) → inst.op == op.STORE ≡ false → memory_operands_fit typing inst ≡ true → is_shape (typing.meaning (word_at 0 inst)) ≡ true
unfolding memory_operands_fit
memory_shape typing s inst no_store fit = by_tests (inst.op == op.LOAD) (inst.op == op.STORE) (inst.op == op.ACCESS_CHAIN) no_store fit
  where
    by_tests : (a b c : Bool) → b ≡ false
        → (if a then load_fits typing (word_at 0 inst) (word_at 2 inst) else if b then store_fits typing (word_at 0 inst) (word_at 1 inst)
        else if c then chain_fits typing (word_at 0 inst) (typing.meaning (word_at 2 inst)) (words_from 3 inst) else false) ≡ true → is_shape (typing.meaning (word_at 0 inst)) ≡ true
    by_tests true b c isnt fit = loaded typing s (word_at 0 inst) (type_id (typing.meaning (word_at 2 inst))) fit
    by_tests false true c isnt fit = cc
    by_tests false false true isnt fit = chained typing (word_at 0 inst) (typing.meaning (word_at 2 inst)) (words_from 3 inst) fit
    by_tests false false false isnt fit = cc

-- ---- composites

whole_data : (typing : Typing) → AreSound typing → (type : ℕ) (found : Option ℕ) (index : ℕ) (indices : List ℕ) → is_of_type typing type (part_along typing (option_map part.Type found) (index ∷ indices)) ≡ true
    → is_shape (typing.meaning type) ≡ true
whole_data typing s type found index indices fit =
    reached_shape typing type (part_along typing (option_map part.Type found) (index ∷ indices))
    (data_along typing s (option_and_then (λ (whole : Part). part_of typing whole index) (option_map part.Type found)) indices (data_next typing s (option_map part.Type found) index)) fit

inserted : (typing : Typing) (type : ℕ) (of found : Option ℕ) (index : ℕ) (indices : List ℕ) → found ≡ Some type → is_of typing of (part_along typing (option_map part.Type found) (index ∷ indices)) ≡ true → is_shape (typing.meaning type) ≡ true
inserted typing type of found index indices is fit =
    no_part typing (typing.meaning type) index of indices (sym (ap (λ (o : Option ℕ). is_of typing of (part_along typing (option_map part.Type o) (index ∷ indices))) is) ∙ fit)

word_is : (type : ℕ) (found : Option ℕ) → is_word type found ≡ true → found ≡ Some type
word_is type None is = cc
word_is type (Some own) is = ap (λ (n : ℕ). Some n) (eqb-true own type is)

shuffled : (of first second : Option Components) (literals : List ℕ) → shuffle_into of first second literals ≡ true → is_some of ≡ true
shuffled None first second literals is = cc
shuffled (Some of) first second literals is = refl

-- what is taken out, or put in, has a place
abbrev HasPlaces : Inst → Type 0
HasPlaces inst = (inst.op == op.COMPOSITE_EXTRACT ≡ true → (index : ℕ) × (indices : List ℕ) × (words_from 3 inst ≡ index ∷ indices)) × (inst.op == op.COMPOSITE_INSERT ≡ true → (index : ℕ) × (indices : List ℕ) × (words_from 4 inst ≡ index ∷ indices))

composite_shape : (typing : Typing) → AreSound typing → (inst : Inst) → HasPlaces inst → composite_operands_fit typing inst ≡ true → is_shape (typing.meaning (word_at 0 inst)) ≡ true
unfolding composite_operands_fit
composite_shape typing s inst places fit = by_tests (inst.op == op.COMPOSITE_CONSTRUCT) (inst.op == op.COMPOSITE_EXTRACT) (inst.op == op.COMPOSITE_INSERT) (inst.op == op.VECTOR_SHUFFLE) (inst.op == op.ANY) (inst.op == op.ALL) places.0 places.1 fit
  where
    type : ℕ
    type = word_at 0 inst

    m : Meaning
    m = typing.meaning (word_at 0 inst)

    by_tests : (a b c e f h : Bool) → (b ≡ true → (index : ℕ) × (indices : List ℕ) × (words_from 3 inst ≡ index ∷ indices)) → (c ≡ true → (index : ℕ) × (indices : List ℕ) × (words_from 4 inst ≡ index ∷ indices))
        → (if a then parts_fit typing (typing.meaning (word_at 0 inst)) (words_from 2 inst)
        else if b then extract_fits typing (word_at 0 inst) (word_at 2 inst) (words_from 3 inst)
        else if c then insert_fits typing (word_at 0 inst) (word_at 2 inst) (word_at 3 inst) (words_from 4 inst)
        else if e then shuffle_fits typing (word_at 0 inst) (word_at 2 inst) (word_at 3 inst) (words_from 4 inst)
        else if f then reduction_fits typing (word_at 0 inst) (word_at 2 inst)
        else if h then reduction_fits typing (word_at 0 inst) (word_at 2 inst)
        else false) ≡ true → is_shape (typing.meaning (word_at 0 inst)) ≡ true
    by_tests true b c e f h extracts inserts fit = parts_shape typing m (words_from 2 inst) fit
    by_tests false true c e f h extracts inserts fit =
        let p = extracts refl in
        whole_data typing s type (type_id (typing.meaning (word_at 2 inst))) p.0 p.1 (sym (ap (λ (l : List ℕ). is_of_type typing type (part_along typing (whole_of typing (word_at 2 inst)) l)) p.2) ∙ fit)
    by_tests false false true e f h extracts inserts fit =
        let p = inserts refl in
        let of = type_id (typing.meaning (word_at 2 inst)) in
        let found = type_id (typing.meaning (word_at 3 inst)) in
        let known = first_of_both (is_word type found) (is_of typing of (part_along typing (whole_of typing (word_at 3 inst)) (words_from 4 inst))) fit in
        inserted typing type of found p.0 p.1 (word_is type found known)
        (sym (ap (λ (l : List ℕ). is_of typing of (part_along typing (whole_of typing (word_at 3 inst)) l)) p.2)
        ∙ second_of_both (is_word type found) (is_of typing of (part_along typing (whole_of typing (word_at 3 inst)) (words_from 4 inst))) fit)
    by_tests false false false true f h extracts inserts fit =
        components_shape m (shuffled (components_in m) (components_in (type_of typing (word_at 2 inst))) (components_in (type_of typing (word_at 3 inst))) (words_from 4 inst) fit)
    by_tests false false false false true h extracts inserts fit = bool_shape m (first_of_both (is_bool m) (is_truth_vector (type_of typing (word_at 2 inst))) fit)
    by_tests false false false false false true extracts inserts fit = bool_shape m (first_of_both (is_bool m) (is_truth_vector (type_of typing (word_at 2 inst))) fit)
    by_tests false false false false false false extracts inserts fit = cc

extract_words : (words : List ℕ) → is_some (kinds_in (entry_of op.COMPOSITE_EXTRACT) words) ≡ true → (index : ℕ) × (indices : List ℕ) × (drop 3 words ≡ index ∷ indices)
unfolding entry_of
extract_words (type ∷ id ∷ composite ∷ index ∷ indices) has = (index, indices, refl)
extract_words (type ∷ id ∷ composite ∷ []) has = cc
extract_words (type ∷ id ∷ []) has = cc
extract_words (type ∷ []) has = cc
extract_words [] has = cc

insert_words : (words : List ℕ) → is_some (kinds_in (entry_of op.COMPOSITE_INSERT) words) ≡ true → (index : ℕ) × (indices : List ℕ) × (drop 4 words ≡ index ∷ indices)
unfolding entry_of
insert_words (type ∷ id ∷ object ∷ composite ∷ index ∷ indices) has = (index, indices, refl)
insert_words (type ∷ id ∷ object ∷ composite ∷ []) has = cc
insert_words (type ∷ id ∷ object ∷ []) has = cc
insert_words (type ∷ id ∷ []) has = cc
insert_words (type ∷ []) has = cc
insert_words [] has = cc

has_places : (inst : Inst) → is_some (kinds inst) ≡ true → HasPlaces inst
unfolding kinds
has_places inst has = (
  λ is. extract_words inst.words (ap (λ (o : ℕ). is_some (kinds_in (entry_of o) inst.words)) (sym (eqb-true inst.op op.COMPOSITE_EXTRACT is)) ∙ has),
  λ is. insert_words inst.words (ap (λ (o : ℕ). is_some (kinds_in (entry_of o) inst.words)) (sym (eqb-true inst.op op.COMPOSITE_INSERT is)) ∙ has),
)

-- ---- in a module

member_data : (known : ℕ → Meaning) (members : List ℕ) (index own : ℕ) → list_all (λ (id : ℕ). is_data (known id)) members ≡ true → option_map part.Type (slice_get members index) ≡ Some (part.Type own) → is_data (known own) ≡ true
member_data known [] index own all is = cc
member_data known (id ∷ members) zero own all is =
    let e : id ≡ own = cc in
    ap (λ (n : ℕ). is_data (known n)) (sym e) ∙ first_of_both (is_data (known id)) (list_all (λ (id : ℕ). is_data (known id)) members) all
member_data known (id ∷ members) (suc index) own all is = member_data known members index own (second_of_both (is_data (known id)) (list_all (λ (id : ℕ). is_data (known id)) members) all) is

no_component : (component : Component) (count index own : ℕ) → component_part component count index ≡ Some (part.Type own) → ⊥
no_component component count index own is = by_test (nat_lt index count) is
  where
    by_test : (b : Bool) → (if b then Some (part.Component component) else None) ≡ Some (part.Type own) → ⊥
    by_test true is = cc
    by_test false is = cc

part_by : (known : Knowledge) (m : Meaning) (index own : ℕ) → ((shape : Shape) → m ≡ OfShape shape → IsSoundShape known shape) → part_at m index ≡ Some (part.Type own) → is_data (meaning_in (known own)) ≡ true
part_by known (OfShape (BoolVector count)) index own sound is = absurd (no_component component.Truth count index own is)
part_by known (OfShape (IntVector count signed)) index own sound is = absurd (no_component (component.Integer signed) count index own is)
part_by known (OfShape (Array element count)) index own sound is = by_test (nat_lt index count) is
  where
    by_test : (b : Bool) → (if b then Some (part.Type element) else None) ≡ Some (part.Type own) → is_data (meaning_in (known own)) ≡ true
    by_test true is = let e : element ≡ own = cc in ap (λ (n : ℕ). is_data (meaning_in (known n))) (sym e) ∙ sound (Array element count) refl
    by_test false is = cc
part_by known (OfShape (Struct members)) index own sound is = member_data (λ (id : ℕ). meaning_in (known id)) members.list index own (sound (Struct members) refl) is
part_by known m index own sound is = cc

pub sound_types : (insts : List Inst) → AreSound (typing_of insts)
unfolding typing_of
sound_types insts = record {
  pointee = λ id class to is. sounds id (Pointer class to) is;
  part_data = λ id index own is. part_by (known_by insts) (meaning insts id) index own (λ shape same. sounds id shape same) is;
}
  where
    sounds : (id : ℕ) (shape : Shape) → meaning insts id ≡ OfShape shape → IsSoundShape (known_by insts) shape
    sounds id shape is =
        let all : take (length insts) insts ≡ insts = take_all (length insts) insts (omega arith) in
        let fit = (all_fit insts (length insts) (omega arith)).0 in
        subst (λ (l : List Inst). IsSoundShape (known_by l) shape) all (fit.sounds id shape (ap (λ (l : List Inst). meaning_in (known_by l id)) all ∙ is))

-- ---- results

-- the first word is the type of a result
abbrev pub has_type_word : Option Entry → Bool
has_type_word (Some (Listed of operands)) = is_result_type (listed_of operands)
has_type_word entry = false

store_has : has_type_word (entry_of op.STORE) ≡ false
unfolding entry_of
store_has = refl

undef_shape : (typing : Typing) → AreSound typing → (inst : Inst) (of : Option Class) → HasPlaces inst → inst.op == op.STORE ≡ false → uses_operands of ≡ true → (of ≡ Some class.Variable → is_shape (typing.meaning (word_at 0 inst)) ≡ true)
    → operands_fit_class typing of inst ≡ true → is_shape (typing.meaning (word_at 0 inst)) ≡ true
undef_shape typing s inst (Some class.Undef) places no_store uses variable fit = data_shape (typing.meaning (word_at 0 inst)) fit
undef_shape typing s inst (Some class.Variable) places no_store uses variable fit = variable refl
undef_shape typing s inst (Some class.Memory) places no_store uses variable fit = memory_shape typing s inst no_store fit
undef_shape typing s inst (Some class.Composite) places no_store uses variable fit = composite_shape typing s inst places fit
undef_shape typing s inst (Some (class.Scalar operation)) places no_store uses variable fit = scalar_shape typing operation (word_at 0 inst) (words_from 2 inst) fit
undef_shape typing s inst other places no_store uses variable fit = cc

no_variable_type : is_type op.VARIABLE ≡ false
unfolding class_of entry_of
no_variable_type = refl

-- a variable's type
variable_shape : (words : Words) → IsValidList words → (place : ℕ) → place < length words.insts → (inst_at words.insts place).op == op.VARIABLE ≡ true → is_shape (meaning words.insts (word_at 0 (inst_at words.insts place))) ≡ true
variable_shape words v place within is =
    let insts = words.insts in
    let inst = inst_at insts place in
    let points = unbroken (known_before insts place) inst (keeps_rules words v.sound place within).types (ap is_type (eqb-true inst.op op.VARIABLE is) ∙ no_variable_type) is in
    let p = pointer_by (meaning_in (known_before insts place (word_at 0 inst))) (word_at 2 inst) points in
    ap is_shape (stays_known insts place (word_at 0 inst) (Pointer (word_at 2 inst) p.0) (known_before insts place (word_at 0 inst)) refl p.1)

pub means : (insts : List Inst) (id : ℕ) → (typing_of insts).meaning id ≡ meaning insts id
unfolding typing_of
means insts id = refl

pub fit_class : (typing : Typing) (inst : Inst) → operands_fit typing inst ≡ true → operands_fit_class typing (class_of inst.op) inst ≡ true
unfolding operands_fit
fit_class typing inst fit = fit

-- a type stands first in an instruction that uses its operands, stores aside
pub first_shaped : (words : Words) → IsValidList words → (place : ℕ) → place < length words.insts → uses_operands (class_of (inst_at words.insts place).op) ≡ true → (inst_at words.insts place).op == op.STORE ≡ false
    → is_shape (meaning words.insts (word_at 0 (inst_at words.insts place))) ≡ true
first_shaped words v place within uses no_store =
    let insts = words.insts in
    let inst = inst_at insts place in
    let s = valid_sound words v in
    ap is_shape (sym (means insts (word_at 0 inst)))
    ∙ undef_shape (typing_of insts) (sound_types insts) inst (class_of inst.op) (has_places inst (s.shaped place within)) no_store uses
    (λ is. ap is_shape (means insts (word_at 0 inst)) ∙ variable_shape words v place within (sym (ap (λ (of : Option Class). is_named of inst.op) is) ∙ named inst.op)) (fit_class (typing_of insts) inst (s.fit place within))

pub type_shaped : (g : Planned) (place : ℕ) → place < length g.words.insts → uses_operands (class_of (inst_at g.words.insts place).op) ≡ true → has_type_word (entry_of (inst_at g.words.insts place).op) ≡ true
    → is_shape (meaning g.words.insts (word_at 0 (inst_at g.words.insts place))) ≡ true
type_shaped g place within uses has = first_shaped g.words g.valid place within uses (another (λ (o : ℕ). has_type_word (entry_of o)) op.STORE store_has (inst_at g.words.insts place).op has)

-- it has its own name
pub type_named : (g : Planned) (place : ℕ) → function_at g.words.insts ≤ place → place < length g.words.insts → uses_operands (class_of (inst_at g.words.insts place).op) ≡ true
    → has_type_word (entry_of (inst_at g.words.insts place).op) ≡ true → g.plan.name (word_at 0 (inst_at g.words.insts place)) ≡ word_at 0 (inst_at g.words.insts place)
type_named g place low within uses has =
    let s = shape_by (meaning g.words.insts (word_at 0 (inst_at g.words.insts place))) (type_shaped g place within uses has) in
    name_of_type g (word_at 0 (inst_at g.words.insts place)) s.0 s.1
