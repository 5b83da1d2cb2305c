-- Constants that fit have a value of their type.
use Rattle.std.proofs.Common.{◌≡◌, ℕ, suc, ◌==◌, ◌&&◌, ◌||◌, Bool, true, false, if◌then◌else◌, List, [], ◌∷◌, length, refl, ap, sym, ◌∙◌, subst, arith, Option, None, Some}
use Rattle.std.specs.List.{list_all}
use Rattle.std.specs.Option.{option_map, option_and_then}
use Rattle.basics.proofs.Bools.{first_of_both, second_of_both}
use Rattle.spirv_model.specs.declared.op.TheConstants as op
use Rattle.spirv_model.specs.declared.class.Class.{Class}
use Rattle.spirv_model.specs.declared.class.Class.TheVariants as class
use Rattle.spirv_model.specs.declared.class.ScalarClass.TheVariants.{WordFromWord, WordFromWords, TruthFromWords, TruthFromTruth, TruthFromTruths, Select}
use Rattle.spirv_model.specs.Operands.{class_of}
use Rattle.scalar_model.specs.Scalars.{scalar_result}
use Rattle.valid_model.specs.declared.meaning.Meaning.{Meaning}
use Rattle.valid_model.specs.declared.meaning.Meaning.TheVariants.{Absent, Shape as OfShape, Constant}
use Rattle.valid_model.specs.declared.meaning.Shape.{Shape}
use Rattle.valid_model.specs.declared.meaning.Shape.TheVariants.{Bool as OneBool, Int, BoolVector, IntVector, Array, Struct}
use Rattle.valid_model.specs.Knowledge.{Knowledge, meaning_in, is_bool, is_integer, is_data, type_of_constant, constant_type, is_constant_of}
use Rattle.valid_model.specs.Operations as operations
use Rattle.valid_model.specs.Operations.{unary_operation_fits, binary_operation_fits, select_fits, operation_fits}
use Rattle.valid_model.specs.Constants.{is_integer_like, are_truths, are_words_like, are_constants_of, are_constants_of_each, are_members, composite_fits, composite_constant_fits}
use Rattle.stage_model.specs.Value.{Value, Truth, Word, Composite, Layout, OneTruth, OneWord, Several, Layouts, repeated, parts_from}
use Rattle.stage_model.specs.Program.{Program, layouts_of}
use Rattle.stage_model.specs.Start.{Values, all_values, scalar_value}
use Rattle.typed_model.specs.Values.{HasLayout}
use Rattle.typed_model.specs.Results.{scalar_layout, HasResult}
use Rattle.typed_model.specs.Types.{HasTypes, HasTypedResult}
use Rattle.typed_model.proofs.Rows.{operation_by_class}
use Rattle.typed_model.proofs.Layouts.{truth_of, word_of, composite_has, both_have, HaveLayouts}
use Rattle.typed_model.proofs.Scalars.{on_word, on_truth, on_words, on_compared, on_truths}
use Rattle.typed_model.proofs.TypeLayouts.{same, type_has_layout, typed_result}
use Rattle.typed_model.proofs.Parts.{with_front}
use Rattle.typed_model.proofs.Composites.{AllHave, as_many}

-- what is known before a constant: shapes of types, and values of constants
pub record Before (program : Program) (known : Knowledge) (values : Values) : Type 0 where
  pub shapes : (id : ℕ) (shape : Shape) → meaning_in (known id) ≡ OfShape shape → program.meaning id ≡ OfShape shape
  pub constants : (id type : ℕ) → meaning_in (known id) ≡ Constant type → HasTypedResult program type (values id)

-- ---- scalars

bool_by : (m : Meaning) → is_bool m ≡ true → m ≡ OfShape OneBool
bool_by (OfShape OneBool) is = refl
bool_by m is = cc

integer_by : (m : Meaning) → is_integer m ≡ true → (signed : Bool) × (m ≡ OfShape (Int signed))
integer_by (OfShape (Int signed)) is = (signed, refl)
integer_by m is = cc

pub bool_layout : (program : Program) (known : Knowledge) (values : Values) → HasTypes program → Before program known values → (type : ℕ) → is_bool (meaning_in (known type)) ≡ true → program.layout type ≡ Some OneTruth
bool_layout program known values types before type is = types.shaped type OneBool (before.shapes type OneBool (bool_by (meaning_in (known type)) is))

pub integer_layout : (program : Program) (known : Knowledge) (values : Values) → HasTypes program → Before program known values → (type : ℕ) → is_integer (meaning_in (known type)) ≡ true → program.layout type ≡ Some OneWord
integer_layout program known values types before type is = let i = integer_by (meaning_in (known type)) is in types.shaped type (Int i.0) (before.shapes type (Int i.0) i.1)

constant_by : (known : Knowledge) (m : Meaning) (P : Meaning → Bool) → P Absent ≡ false → P (type_of_constant known m) ≡ true → (type : ℕ) × (m ≡ Constant type) × (P (meaning_in (known type)) ≡ true)
constant_by known (Constant type) P isnt is = (type, refl, is)
constant_by known m P isnt is = cc

-- a constant of this type has a value of the type's layout
of_layout : (program : Program) (known : Knowledge) (values : Values) → HasTypes program → Before program known values → (id type : ℕ) (layout : Layout) → meaning_in (known id) ≡ Constant type → program.layout type ≡ Some layout → HasResult layout (values id)
of_layout program known values types before id type layout is has =
    let r = before.constants id type is in record { value = r.value; is = r.is; has = type_has_layout program types type r.value layout has r.has }

truth_constant : (program : Program) (known : Knowledge) (values : Values) → HasTypes program → Before program known values → (id : ℕ) → is_bool (constant_type known id) ≡ true → HasResult OneTruth (values id)
truth_constant program known values types before id is =
    let c = constant_by known (meaning_in (known id)) is_bool refl is in of_layout program known values types before id c.0 OneTruth c.1 (bool_layout program known values types before c.0 c.2)

word_constant : (program : Program) (known : Knowledge) (values : Values) → HasTypes program → Before program known values → (id : ℕ) → is_integer (constant_type known id) ≡ true → HasResult OneWord (values id)
word_constant program known values types before id is =
    let c = constant_by known (meaning_in (known id)) is_integer refl is in of_layout program known values types before id c.0 OneWord c.1 (integer_layout program known values types before c.0 c.2)

like_integer : (signed : Bool) (m : Meaning) → is_integer_like signed m ≡ true → is_integer m ≡ true
like_integer signed (OfShape (Int own)) is = refl
like_integer signed m is = cc

own_constant : (type : ℕ) (m : Meaning) → is_constant_of type m ≡ true → m ≡ Constant type
own_constant type (Constant own) is = ap Constant (same own type is)
own_constant type m is = cc

-- ---- composites

abbrev joined : Option Value → Option (List Value) → Option (List Value)
joined first rest = option_and_then (λ first. option_map (λ rest. first ∷ rest) rest) first

-- the values of ids that all have one layout
record AllKnown (layout : Layout) (ids : List ℕ) (found : Option (List Value)) : Type 0 where
  list : List Value
  are : found ≡ Some list
  have : AllHave layout list
  long : length list ≡ length ids

all_known : (values : Values) (layout : Layout) (test : ℕ → Bool) → ((id : ℕ) → test id ≡ true → HasResult layout (values id)) → (ids : List ℕ) → list_all test ids ≡ true → AllKnown layout ids (all_values values ids)
all_known values layout test has [] all = record { list = []; are = refl; have = tt; long = refl }
all_known values layout test has (id ∷ ids) all =
    let one = has id (first_of_both (test id) (list_all test ids) all) in
    let rest = all_known values layout test has ids (second_of_both (test id) (list_all test ids) all) in
    record {
      list = one.value ∷ rest.list;
      are = ap (λ (o : Option Value). joined o (all_values values ids)) one.is ∙ ap (λ (o : Option (List Value)). joined (Some one.value) o) rest.are;
      have = (one.has, rest.have);
      long = ap (λ (n : ℕ). suc n) rest.long;
    }

abbrev made : Option (List Value) → Option Value
made parts = option_map (λ parts. Composite (parts_from parts)) parts

repeated_made : (layout : Layout) (count : ℕ) (ids : List ℕ) (found : Option (List Value)) → AllKnown layout ids found → length ids == count ≡ true → HasResult (Several (repeated count layout)) (made found)
repeated_made layout count ids found k long =
    record { value = Composite (parts_from k.list); is = ap made k.are; has = as_many layout count k.list k.have (k.long ∙ same (length ids) count long) }

members_known : (program : Program) (known : Knowledge) (values : Values) → HasTypes program → Before program known values → (members ids : List ℕ) (all : Layouts) → layouts_of program.layout members ≡ Some all → length ids ≡ length members
    → are_constants_of_each known members ids ≡ true → (list : List Value) × (all_values values ids ≡ Some list) × HaveLayouts all list
members_known program known values types before [] [] all is long fit = ([], refl, is)
members_known program known values types before [] (id ∷ ids) all is long fit = absurd (omega (arith, long))
members_known program known values types before (member ∷ members) [] all is long fit = absurd (omega (arith, long))
members_known program known values types before (member ∷ members) (id ∷ ids) all is long fit =
    by_layouts program known values types before member members id ids all (program.layout member) (layouts_of program.layout members) refl is
    (own_constant member (meaning_in (known id)) (first_of_both (is_constant_of member (meaning_in (known id))) (are_constants_of_each known members ids) fit))
    (λ rest e. members_known program known values types before members ids rest e (omega (arith, long)) (second_of_both (is_constant_of member (meaning_in (known id))) (are_constants_of_each known members ids) fit))
  where
    by_layouts : (program : Program) (known : Knowledge) (values : Values) → HasTypes program → Before program known values → (member : ℕ) (members : List ℕ) (id : ℕ) (ids : List ℕ) (all : Layouts) (one : Option Layout) (rest : Option Layouts) → program.layout member ≡ one
        → with_front one rest ≡ Some all → meaning_in (known id) ≡ Constant member → ((more : Layouts) → rest ≡ Some more → (list : List Value) × (all_values values ids ≡ Some list) × HaveLayouts more list)
        → (list : List Value) × (all_values values (id ∷ ids) ≡ Some list) × HaveLayouts all list
    by_layouts program known values types before member members id ids all None rest of is constant go = cc
    by_layouts program known values types before member members id ids all (Some one) None of is constant go = cc
    by_layouts program known values types before member members id ids all (Some one) (Some more) of is constant go =
        let first = of_layout program known values types before id member one constant of in
        let others = go more refl in (
          first.value ∷ others.0,
          ap (λ (o : Option Value). joined o (all_values values ids)) first.is ∙ ap (λ (o : Option (List Value)). joined (Some first.value) o) others.1,
          both_have first.value (parts_from others.0) one more first.has others.2 ∙ is,
        )

array_made : (program : Program) (known : Knowledge) (values : Values) → HasTypes program → Before program known values → (type element count : ℕ) (ids : List ℕ) (layout : Layout) (of_element : Option Layout) → program.layout element ≡ of_element
    → program.layout type ≡ Some layout → program.layout type ≡ option_map (λ l. Several (repeated count l)) of_element → ((length ids == count) && are_constants_of known element ids) ≡ true → HasTypedResult program type (made (all_values values ids))
array_made program known values types before type element count ids layout None of is are fit = cc
array_made program known values types before type element count ids layout (Some own) of is are fit =
    let test : ℕ → Bool = λ part. is_constant_of element (meaning_in (known part)) in
    let k = all_known values own test (λ id is. of_layout program known values types before id element own (own_constant element (meaning_in (known id)) is) of) ids (second_of_both (length ids == count) (are_constants_of known element ids) fit) in
    typed_result program types type _ _ are (repeated_made own count ids _ k (first_of_both (length ids == count) (are_constants_of known element ids) fit))

struct_made : (program : Program) (known : Knowledge) (values : Values) → HasTypes program → Before program known values → (type : ℕ) (members ids : List ℕ) (layout : Layout) (all : Option Layouts) → layouts_of program.layout members ≡ all
    → program.layout type ≡ Some layout → program.layout type ≡ option_map Several all → are_members known members ids ≡ true → HasTypedResult program type (made (all_values values ids))
struct_made program known values types before type members ids layout None of is are fit = cc
struct_made program known values types before type members ids layout (Some all) of is are fit =
    let m = members_known program known values types before members ids all of (same (length ids) (length members) (first_of_both (length ids == length members) (are_constants_of_each known members ids) fit)) (second_of_both (length ids == length members) (are_constants_of_each known members ids) fit) in
    typed_result program types type (Several all) _ are (record { value = Composite (parts_from m.0); is = ap made m.1; has = composite_has (parts_from m.0) all m.2 })

composite_by : (program : Program) (known : Knowledge) (values : Values) → HasTypes program → Before program known values → (type : ℕ) (ids : List ℕ) (m : Meaning) → meaning_in (known type) ≡ m → composite_fits known m ids ≡ true → HasTypedResult program type (made (all_values values ids))
composite_by program known values types before type ids (OfShape (BoolVector count)) is fit =
    let k = all_known values OneTruth (λ part. is_bool (constant_type known part)) (truth_constant program known values types before) ids (second_of_both (length ids == count) (are_truths known ids) fit) in
    typed_result program types type _ _ (types.shaped type (BoolVector count) (before.shapes type (BoolVector count) is)) (repeated_made OneTruth count ids _ k (first_of_both (length ids == count) (are_truths known ids) fit))
composite_by program known values types before type ids (OfShape (IntVector count signed)) is fit =
    let k = all_known values OneWord (λ part. is_integer_like signed (constant_type known part)) (λ id is. word_constant program known values types before id (like_integer signed (constant_type known id) is)) ids (second_of_both (length ids == count) (are_words_like known signed ids) fit) in
    typed_result program types type _ _ (types.shaped type (IntVector count signed) (before.shapes type (IntVector count signed) is)) (repeated_made OneWord count ids _ k (first_of_both (length ids == count) (are_words_like known signed ids) fit))
composite_by program known values types before type ids (OfShape (Array element count)) is fit =
    let means = before.shapes type (Array element count) is in let l = types.there type (ap is_data means) in
    array_made program known values types before type element count ids l.0 (program.layout element) refl l.1 (types.shaped type (Array element count) means) fit
composite_by program known values types before type ids (OfShape (Struct members)) is fit =
    let means = before.shapes type (Struct members) is in let l = types.there type (ap is_data means) in
    struct_made program known values types before type members.list ids l.0 (layouts_of program.layout members.list) refl l.1 (types.shaped type (Struct members) means) fit
composite_by program known values types before type ids m is fit = cc

pub composite_value : (program : Program) (known : Knowledge) (values : Values) → HasTypes program → Before program known values → (type : ℕ) (ids : List ℕ) → composite_constant_fits known type ids ≡ true → HasTypedResult program type (made (all_values values ids))
composite_value program known values types before type ids fit = composite_by program known values types before type ids (meaning_in (known type)) refl fit

-- ---- OpSpecConstantOp

abbrev computed : ℕ → Option (List Value) → Option Value
computed opcode operands = option_and_then (scalar_value opcode) operands

one_value : (program : Program) (type opcode : ℕ) (values : Values) (a : ℕ) (v : Value) → values a ≡ Some v → HasTypedResult program type (scalar_value opcode (v ∷ [])) → HasTypedResult program type (computed opcode (all_values values (a ∷ [])))
one_value program type opcode values a v is r = subst (λ (o : Option Value). HasTypedResult program type (computed opcode (joined o (Some [])))) (sym is) r

two_values : (program : Program) (type opcode : ℕ) (values : Values) (a b : ℕ) (v w : Value) → values a ≡ Some v → values b ≡ Some w → HasTypedResult program type (scalar_value opcode (v ∷ w ∷ [])) → HasTypedResult program type (computed opcode (all_values values (a ∷ b ∷ [])))
two_values program type opcode values a b v w is also r =
    subst (λ (o : Option Value). HasTypedResult program type (computed opcode (joined o (joined (values b) (Some []))))) (sym is)
    (subst (λ (o : Option Value). HasTypedResult program type (computed opcode (joined (Some v) (joined o (Some []))))) (sym also) r)

three_values : (program : Program) (type opcode : ℕ) (values : Values) (a b c : ℕ) (u v w : Value) → values a ≡ Some u → values b ≡ Some v → values c ≡ Some w → HasTypedResult program type (scalar_value opcode (u ∷ v ∷ w ∷ []))
    → HasTypedResult program type (computed opcode (all_values values (a ∷ b ∷ c ∷ [])))
three_values program type opcode values a b c u v w is also more r =
    subst (λ (o : Option Value). HasTypedResult program type (computed opcode (joined o (joined (values b) (joined (values c) (Some [])))))) (sym is)
    (subst (λ (o : Option Value). HasTypedResult program type (computed opcode (joined (Some u) (joined o (joined (values c) (Some [])))))) (sym also)
    (subst (λ (o : Option Value). HasTypedResult program type (computed opcode (joined (Some u) (joined (Some v) (joined o (Some [])))))) (sym more) r))

three : (a b c : Bool) → (a && b && c) ≡ true → (a ≡ true) × (b ≡ true) × (c ≡ true)
three true true true is = (refl, refl, refl)
three true true false is = cc
three true false c is = cc
three false b c is = cc

four : (a b c d : Bool) → (a && b && c && d) ≡ true → (a ≡ true) × (b ≡ true) × (c ≡ true) × (d ≡ true)
four true true true true is = (refl, refl, refl, refl)
four true true true false is = cc
four true true false d is = cc
four true false c d is = cc
four false b c d is = cc

unary_value : (program : Program) (known : Knowledge) (values : Values) → HasTypes program → Before program known values → (type opcode a : ℕ) (of : Option Class) → class_of opcode ≡ of → operations.unary_fits of (meaning_in (known type)) (constant_type known a) ≡ true
    → HasTypedResult program type (computed opcode (all_values values (a ∷ [])))
unary_value program known values types before type opcode a (Some (class.Scalar WordFromWord)) is fit =
    let o = operation_by_class WordFromWord opcode is in let m = meaning_in (known type) in
    let v = word_constant program known values types before a (second_of_both (is_integer m) (is_integer (constant_type known a)) fit) in
    one_value program type opcode values a v.value v.is (typed_result program types type OneWord _ (integer_layout program known values types before type (first_of_both (is_integer m) (is_integer (constant_type known a)) fit)) (on_word opcode o.is v.value v.has))
unary_value program known values types before type opcode a (Some (class.Scalar TruthFromTruth)) is fit =
    let o = operation_by_class TruthFromTruth opcode is in let m = meaning_in (known type) in
    let v = truth_constant program known values types before a (second_of_both (is_bool m) (is_bool (constant_type known a)) fit) in
    one_value program type opcode values a v.value v.is (typed_result program types type OneTruth _ (bool_layout program known values types before type (first_of_both (is_bool m) (is_bool (constant_type known a)) fit)) (on_truth opcode o.is v.value v.has))
unary_value program known values types before type opcode a of is fit = cc

binary_value : (program : Program) (known : Knowledge) (values : Values) → HasTypes program → Before program known values → (type opcode a b : ℕ) (of : Option Class) → class_of opcode ≡ of
    → operations.binary_fits of (meaning_in (known type)) (constant_type known a) (constant_type known b) ≡ true → HasTypedResult program type (computed opcode (all_values values (a ∷ b ∷ [])))
binary_value program known values types before type opcode a b (Some (class.Scalar WordFromWords)) is fit =
    let o = operation_by_class WordFromWords opcode is in let e = three (is_integer (meaning_in (known type))) (is_integer (constant_type known a)) (is_integer (constant_type known b)) fit in
    let v = word_constant program known values types before a e.1 in let w = word_constant program known values types before b e.2 in
    two_values program type opcode values a b v.value w.value v.is w.is (typed_result program types type OneWord _ (integer_layout program known values types before type e.0) (on_words opcode o.is v.value w.value v.has w.has))
binary_value program known values types before type opcode a b (Some (class.Scalar TruthFromWords)) is fit =
    let o = operation_by_class TruthFromWords opcode is in let e = three (is_bool (meaning_in (known type))) (is_integer (constant_type known a)) (is_integer (constant_type known b)) fit in
    let v = word_constant program known values types before a e.1 in let w = word_constant program known values types before b e.2 in
    two_values program type opcode values a b v.value w.value v.is w.is (typed_result program types type OneTruth _ (bool_layout program known values types before type e.0) (on_compared opcode o.is v.value w.value v.has w.has))
binary_value program known values types before type opcode a b (Some (class.Scalar TruthFromTruths)) is fit =
    let o = operation_by_class TruthFromTruths opcode is in let e = three (is_bool (meaning_in (known type))) (is_bool (constant_type known a)) (is_bool (constant_type known b)) fit in
    let v = truth_constant program known values types before a e.1 in let w = truth_constant program known values types before b e.2 in
    two_values program type opcode values a b v.value w.value v.is w.is (typed_result program types type OneTruth _ (bool_layout program known values types before type e.0) (on_truths opcode o.is v.value w.value v.has w.has))
binary_value program known values types before type opcode a b of is fit = cc

select_truths : (c x y : Bool) → HasResult OneTruth (scalar_value op.SELECT (Truth c ∷ Truth x ∷ Truth y ∷ []))
unfolding scalar_result
select_truths c x y = record { value = Truth (if c then x else y); is = refl; has = refl }

select_words : (c : Bool) (x y : ℕ) → HasResult OneWord (scalar_value op.SELECT (Truth c ∷ Word x ∷ Word y ∷ []))
unfolding scalar_result
select_words c x y = record { value = Word (if c then x else y); is = refl; has = refl }

selected_value : (truths : Bool) (condition a b : Value) → HasLayout OneTruth condition → HasLayout (scalar_layout truths) a → HasLayout (scalar_layout truths) b → HasResult (scalar_layout truths) (scalar_value op.SELECT (condition ∷ a ∷ b ∷ []))
selected_value true condition a b is has also =
    let c = truth_of condition is in let v = truth_of a has in let w = truth_of b also in
    subst (λ x. HasResult OneTruth (scalar_value op.SELECT (x ∷ a ∷ b ∷ []))) (sym c.1) (subst (λ x. HasResult OneTruth (scalar_value op.SELECT (Truth c.0 ∷ x ∷ b ∷ []))) (sym v.1)
    (subst (λ x. HasResult OneTruth (scalar_value op.SELECT (Truth c.0 ∷ Truth v.0 ∷ x ∷ []))) (sym w.1) (select_truths c.0 v.0 w.0)))
selected_value false condition a b is has also =
    let c = truth_of condition is in let v = word_of a has in let w = word_of b also in
    subst (λ x. HasResult OneWord (scalar_value op.SELECT (x ∷ a ∷ b ∷ []))) (sym c.1) (subst (λ x. HasResult OneWord (scalar_value op.SELECT (Truth c.0 ∷ x ∷ b ∷ []))) (sym v.1)
    (subst (λ x. HasResult OneWord (scalar_value op.SELECT (Truth c.0 ∷ Word v.0 ∷ x ∷ []))) (sym w.1) (select_words c.0 v.0 w.0)))

scalar_kind : (program : Program) (known : Knowledge) (values : Values) → HasTypes program → Before program known values → (type : ℕ) (b : Bool) → is_bool (meaning_in (known type)) ≡ b → (b || is_integer (meaning_in (known type))) ≡ true → (truths : Bool) × (program.layout type ≡ Some (scalar_layout truths))
scalar_kind program known values types before type true is fit = (true, bool_layout program known values types before type is)
scalar_kind program known values types before type false is fit = (false, integer_layout program known values types before type fit)

select_class : (of : Option Class) → operations.is_select of ≡ true → of ≡ Some (class.Scalar Select)
select_class (Some (class.Scalar Select)) is = refl
select_class of is = cc

select_value : (program : Program) (known : Knowledge) (values : Values) → HasTypes program → Before program known values → (type opcode condition a b : ℕ) → (operations.is_select (class_of opcode) && select_fits known type condition a b) ≡ true
    → HasTypedResult program type (computed opcode (all_values values (condition ∷ a ∷ b ∷ [])))
select_value program known values types before type opcode condition a b fit =
    let o = operation_by_class Select opcode (select_class (class_of opcode) (first_of_both (operations.is_select (class_of opcode)) (select_fits known type condition a b) fit)) in
    let e = four (is_bool (constant_type known condition)) (is_bool (meaning_in (known type)) || is_integer (meaning_in (known type))) (is_constant_of type (meaning_in (known a))) (is_constant_of type (meaning_in (known b)))
    (second_of_both (operations.is_select (class_of opcode)) (select_fits known type condition a b) fit) in
    let k = scalar_kind program known values types before type (is_bool (meaning_in (known type))) refl e.1 in
    let u = truth_constant program known values types before condition e.0 in
    let v = of_layout program known values types before a type (scalar_layout k.0) (own_constant type (meaning_in (known a)) e.2) k.1 in
    let w = of_layout program known values types before b type (scalar_layout k.0) (own_constant type (meaning_in (known b)) e.3) k.1 in
    three_values program type opcode values condition a b u.value v.value w.value u.is v.is w.is
    (subst (λ n. HasTypedResult program type (scalar_value n (u.value ∷ v.value ∷ w.value ∷ []))) (sym (same opcode op.SELECT o.is))
    (typed_result program types type (scalar_layout k.0) _ k.1 (selected_value k.0 u.value v.value w.value u.has v.has w.has)))

pub operation_value : (program : Program) (known : Knowledge) (values : Values) → HasTypes program → Before program known values → (type opcode : ℕ) (ids : List ℕ) → operation_fits known type opcode ids ≡ true → HasTypedResult program type (computed opcode (all_values values ids))
operation_value program known values types before type opcode (a ∷ []) fit = unary_value program known values types before type opcode a (class_of opcode) refl fit
operation_value program known values types before type opcode (a ∷ b ∷ []) fit = binary_value program known values types before type opcode a b (class_of opcode) refl fit
operation_value program known values types before type opcode (condition ∷ a ∷ b ∷ []) fit = select_value program known values types before type opcode condition a b fit
operation_value program known values types before type opcode [] fit = cc
operation_value program known values types before type opcode (a ∷ b ∷ c ∷ d ∷ ids) fit = cc
