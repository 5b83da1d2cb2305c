-- Instructions that make composites or take them apart: a result of the type that the rule of their operands asks.
use Rattle.std.proofs.Common.{◌≡◌, ℕ, zero, suc, ◌+◌, ◌<◌, ◌≤◌, ◌==◌, ◌||◌, Bool, true, false, nat_lt, nat_le, ◌&&◌, if◌then◌else◌, List, [], ◌∷◌, ◌++◌, length, map, refl, ap, sym, ◌∙◌, subst, arith, Option, None, Some}
use Rattle.std.specs.Prelude.{slice_get}
use Rattle.std.specs.List.{list_all, sum_by, zip, flat_map}
use Rattle.std.specs.Option.{option_map}
use Rattle.std.proofs.lemmas.Bool.{ltb-true, leb-true}
use Rattle.std.proofs.lemmas.List.{length-append}
use Rattle.std.proofs.lemmas.List.Sums.{sum_by-cons}
use Rattle.std.proofs.lemmas.List.Concat.{flat_map-cons}
use Rattle.std.proofs.lemmas.Bool.Decides.{nat_tests}
use Rattle.valid_model.specs.Knowledge.{is_data}
use Rattle.basics.proofs.Bools.{first_of_both, second_of_both}
use Rattle.valid_model.specs.declared.meaning.Meaning.{Meaning}
use Rattle.valid_model.specs.declared.meaning.Meaning.TheVariants.{Shape as OfShape}
use Rattle.valid_model.specs.declared.meaning.Shape.TheVariants.{BoolVector, IntVector, Array, Struct, Pointer as PointerType}
use Rattle.check_model.specs.declared.components.Component.{Component}
use Rattle.check_model.specs.declared.components.Component.TheVariants as component
use Rattle.check_model.specs.declared.components.Components.{Components}
use Rattle.check_model.specs.CompositeOperands.{is_same_component, is_made_of, count_in, components_of, vector_parts_fit, members_fit, parts_fit, no_component, is_vector_of, shuffle_into, shuffle_fits, part_at, part_along, is_of_type, is_of, whole_of, extract_fits, insert_fits}
use Rattle.check_model.specs.declared.components.Part.{Part}
use Rattle.check_model.specs.declared.components.Part.TheVariants as part
use Rattle.check_model.specs.OperandTypes.{is_pointer}
use Rattle.check_model.specs.ScalarOperands.{is_truth}
use Rattle.check_model.specs.Typing.{Typing, type_id, has_type, components_in}
use Rattle.stage_model.specs.Value.{Value, Parts, Layout, OneTruth, OneWord, Several, Layouts, repeated, list_of, parts_from}
use Rattle.stage_model.specs.Program.{Program, layouts_of}
use Rattle.stage_model.specs.Operations as operations
use Rattle.stage_model.specs.Operations.{composite, constructed, is_vector, zero_like, shuffled_component, all_of, shuffled, parts_in, extracted, inserted}
use Rattle.typed_model.specs.Values.{layouts_in, HasLayout, IsOfType}
use Rattle.typed_model.specs.Results.{scalar_layout, vector_layout, HasResult}
use Rattle.typed_model.specs.Types.{HasTypes, typing_in, Suits, AllSuit, HasTypedResult}
use Rattle.typed_model.proofs.Layouts.{truth_of, word_of, several_of, composite_has, front_of, no_parts, both_have, HaveLayouts}
use Rattle.typed_model.proofs.Scalars.{HaveResults, none_yet, one_more, composed}
use Rattle.typed_model.proofs.TypeLayouts.{same, own_type, components_layout, components_suit, type_has_layout, typed_result, same_component, part_of_type, data_of}
use Rattle.typed_model.proofs.Parts.{with_front, nowhere, extracted_result, inserted_result}

-- ---- values that all have one layout

abbrev pub AllHave : Layout → List Value → Type 0
AllHave layout [] = Unit {0}
AllHave layout (value ∷ values) = HasLayout layout value × AllHave layout values

pub repeated_have : (layout : Layout) (values : List Value) → AllHave layout values → HaveLayouts (repeated (length values) layout) values
repeated_have layout [] have = refl
repeated_have layout (value ∷ values) have = both_have value (parts_from values) layout (repeated (length values) layout) have.0 (repeated_have layout values have.1)

pub parts_have : (layout : Layout) (n : ℕ) (parts : Parts) → layouts_in parts ≡ Some (repeated n layout) → AllHave layout (list_of parts) × (length (list_of parts) ≡ n)
parts_have layout zero parts have = subst (λ p. AllHave layout (list_of p) × (length (list_of p) ≡ 0)) (sym (no_parts parts have)) (tt, refl)
parts_have layout (suc n) parts have =
    let f = front_of parts layout (repeated n layout) have in let rest = parts_have layout n f.rest f.behind in
    subst (λ p. AllHave layout (list_of p) × (length (list_of p) ≡ suc n)) (sym f.is) ((f.has, rest.0), ap (λ (n : ℕ). suc n) rest.1)

pub all_append : (layout : Layout) (xs ys : List Value) → AllHave layout xs → AllHave layout ys → AllHave layout (xs ++ ys)
all_append layout [] ys have also = also
all_append layout (x ∷ xs) ys have also = (have.0, all_append layout xs ys have.1 also)

pub found_in : (layout : Layout) (values : List Value) (index : ℕ) → AllHave layout values → index < length values → HasResult layout (slice_get values index)
found_in layout [] index have less = absurd (omega arith)
found_in layout (value ∷ values) zero have less = record { value = value; is = refl; has = have.0 }
found_in layout (value ∷ values) (suc index) have less = found_in layout values index have.1 (omega arith)

pub as_many : (layout : Layout) (n : ℕ) (values : List Value) → AllHave layout values → length values ≡ n → HasLayout (Several (repeated n layout)) (composite values)
as_many layout n values have long =
    subst (λ n. HasLayout (Several (repeated n layout)) (composite values)) long (composite_has (parts_from values) (repeated (length values) layout) (repeated_have layout values have))

-- ---- OpCompositeConstruct of a vector

-- the components of a scalar or a vector
components_are : (is_scalar : Bool) (count : ℕ) (truths : Bool) (value : Value) → (is_scalar ≡ true → count ≡ 1) → HasLayout (vector_layout is_scalar count truths) value
    → AllHave (scalar_layout truths) (operations.components_of value) × (length (operations.components_of value) ≡ count)
components_are true count true value one has =
    let v = truth_of value has in
    subst (λ x. AllHave OneTruth (operations.components_of x) × (length (operations.components_of x) ≡ count)) (sym v.1) ((refl, tt), sym (one refl))
components_are true count false value one has =
    let v = word_of value has in
    subst (λ x. AllHave OneWord (operations.components_of x) × (length (operations.components_of x) ≡ count)) (sym v.1) ((refl, tt), sym (one refl))
components_are false count truths value one has =
    let c = several_of value (repeated count (scalar_layout truths)) has in
    subst (λ x. AllHave (scalar_layout truths) (operations.components_of x) × (length (operations.components_of x) ≡ count)) (sym c.1) (parts_have (scalar_layout truths) count c.0 c.2)

part_components : (program : Program) → HasTypes program → (constant : ℕ → Option ℕ) (vertex : Bool) (component : Component) (id : ℕ) (value : Value) (of : Option Components) → components_of (typing_in program constant vertex) id ≡ of
    → is_made_of component of ≡ true → Suits program constant id value → AllHave (scalar_layout (is_truth component)) (operations.components_of value) × (length (operations.components_of value) ≡ count_in of)
part_components program types constant vertex component id value None are is suits = cc
part_components program types constant vertex component id value (Some of) are is suits =
    subst (λ b. AllHave (scalar_layout b) (operations.components_of value) × (length (operations.components_of value) ≡ of.count)) (sym (same_component component of.component is))
    (components_are (of.count == 1) of.count (is_truth of.component) value (λ one. same of.count 1 one) (components_suit program types constant vertex id value of are suits))

vector_parts : (program : Program) → HasTypes program → (constant : ℕ → Option ℕ) (vertex : Bool) (component : Component) (ids : List ℕ) (values : List Value)
    → list_all (λ id. is_made_of component (components_of (typing_in program constant vertex) id)) ids ≡ true → AllSuit program constant ids values
    → AllHave (scalar_layout (is_truth component)) (flat_map operations.components_of values) × (length (flat_map operations.components_of values) ≡ sum_by (λ id. count_in (components_of (typing_in program constant vertex) id)) ids)
vector_parts program types constant vertex component [] [] all suit = (tt, refl)
vector_parts program types constant vertex component [] (value ∷ values) all suit = absurd suit
vector_parts program types constant vertex component (id ∷ ids) [] all suit = absurd suit
vector_parts program types constant vertex component (id ∷ ids) (value ∷ values) all suit =
    let made : ℕ → Bool = λ id. is_made_of component (components_of (typing_in program constant vertex) id) in
    let count : ℕ → ℕ = λ id. count_in (components_of (typing_in program constant vertex) id) in
    let here = part_components program types constant vertex component id value _ refl (first_of_both (made id) (list_all made ids) all) suit.0 in
    let rest = vector_parts program types constant vertex component ids values (second_of_both (made id) (list_all made ids) all) suit.1 in
    let long = length-append (operations.components_of value) (flat_map operations.components_of values) in
    let sum = sum_by-cons count id ids in
    subst (λ l. AllHave (scalar_layout (is_truth component)) l × (length l ≡ sum_by count (id ∷ ids))) (sym (flat_map-cons operations.components_of value values))
    (all_append (scalar_layout (is_truth component)) _ _ here.0 rest.0, omega (arith, long, sum, here.1, rest.1))

-- ---- of an array or a structure

array_parts : (program : Program) → HasTypes program → (constant : ℕ → Option ℕ) (vertex : Bool) (element : ℕ) (layout : Layout) → program.layout element ≡ Some layout → (ids : List ℕ) (values : List Value)
    → list_all (has_type (typing_in program constant vertex) element) ids ≡ true → AllSuit program constant ids values → AllHave layout values × (length values ≡ length ids)
array_parts program types constant vertex element layout known [] [] all suit = (tt, refl)
array_parts program types constant vertex element layout known [] (value ∷ values) all suit = absurd suit
array_parts program types constant vertex element layout known (id ∷ ids) [] all suit = absurd suit
array_parts program types constant vertex element layout known (id ∷ ids) (value ∷ values) all suit =
    let has : ℕ → Bool = has_type (typing_in program constant vertex) element in
    let own = own_type program constant vertex element id (first_of_both (has id) (list_all has ids) all) in
    let rest = array_parts program types constant vertex element layout known ids values (second_of_both (has id) (list_all has ids) all) suit.1 in
    ((type_has_layout program types element value layout known (suit.0.of_type element own), rest.0), ap (λ (n : ℕ). suc n) rest.1)

member_parts : (program : Program) → HasTypes program → (constant : ℕ → Option ℕ) (vertex : Bool) (members : List ℕ) (ids : List ℕ) (values : List Value) (all : Layouts) → layouts_of program.layout members ≡ Some all
    → length ids ≡ length members → list_all (λ pair. has_type (typing_in program constant vertex) pair.0 pair.1) (zip members ids) ≡ true → AllSuit program constant ids values → HaveLayouts all values
member_parts program types constant vertex [] [] [] all known long fit suit = known
member_parts program types constant vertex [] (id ∷ ids) values all known long fit suit = absurd (omega (arith, long))
member_parts program types constant vertex [] [] (value ∷ values) all known long fit suit = absurd suit
member_parts program types constant vertex (member ∷ members) [] values all known long fit suit = absurd (omega (arith, long))
member_parts program types constant vertex (member ∷ members) (id ∷ ids) [] all known long fit suit = absurd suit
member_parts program types constant vertex (member ∷ members) (id ∷ ids) (value ∷ values) all known long fit suit =
    let own = own_type program constant vertex member id (first_of_both (has_type (typing_in program constant vertex) member id) (list_all (λ pair. has_type (typing_in program constant vertex) pair.0 pair.1) (zip members ids)) fit) in
    by_both program types member value values all (program.layout member) (layouts_of program.layout members) refl known (suit.0.of_type member own)
    (λ rest are. member_parts program types constant vertex members ids values rest are (omega (arith, long))
    (second_of_both (has_type (typing_in program constant vertex) member id) (list_all (λ pair. has_type (typing_in program constant vertex) pair.0 pair.1) (zip members ids)) fit) suit.1)
  where
    by_both : (program : Program) → HasTypes program → (member : ℕ) (value : Value) (values : List Value) (all : Layouts) (one : Option Layout) (rest : Option Layouts) → program.layout member ≡ one → with_front one rest ≡ Some all
        → IsOfType program member value → ((more : Layouts) → rest ≡ Some more → HaveLayouts more values) → HaveLayouts all (value ∷ values)
    by_both program types member value values all None rest known are is go = cc
    by_both program types member value values all (Some one) None known are is go = cc
    by_both program types member value values all (Some one) (Some more) known are is go =
        both_have value (parts_from values) one more (type_has_layout program types member value one known is) (go more refl) ∙ are

-- ---- all of them

abbrev Constructed : Program → ℕ → Meaning → List Value → Type 0
Constructed program type m values = HasTypedResult program type (Some (constructed (is_vector m) values))

three : (a b c : Bool) → (a && b && c) ≡ true → (a ≡ true) × (b ≡ true) × (c ≡ true)
three true true true is = (refl, refl, refl)
three true true false is = cc
three true false c is = cc
three false b c is = cc

vector_made : (program : Program) → HasTypes program → (constant : ℕ → Option ℕ) (vertex : Bool) (type count : ℕ) (c : Component) (ids : List ℕ) (values : List Value) → program.layout type ≡ Some (Several (repeated count (scalar_layout (is_truth c))))
    → vector_parts_fit (typing_in program constant vertex) c count ids ≡ true → AllSuit program constant ids values → HasTypedResult program type (Some (composite (flat_map operations.components_of values)))
vector_made program types constant vertex type count c ids values known fit suit =
    let made : ℕ → Bool = λ id. is_made_of c (components_of (typing_in program constant vertex) id) in
    let counts : ℕ → ℕ = λ id. count_in (components_of (typing_in program constant vertex) id) in
    let e = three (nat_le 2 (length ids)) (list_all made ids) (sum_by counts ids == count) fit in
    let p = vector_parts program types constant vertex c ids values e.1 suit in
    typed_result program types type (Several (repeated count (scalar_layout (is_truth c)))) _ known
    (record { value = composite (flat_map operations.components_of values); is = refl; has = as_many (scalar_layout (is_truth c)) count _ p.0 (p.1 ∙ same _ count e.2) })

array_made : (program : Program) → HasTypes program → (constant : ℕ → Option ℕ) (vertex : Bool) (type element count : ℕ) (ids : List ℕ) (values : List Value) (known : Layout) (of_element : Option Layout) → program.layout element ≡ of_element
    → program.layout type ≡ Some known → program.layout type ≡ option_map (λ l. Several (repeated count l)) of_element
    → ((length ids == count) && list_all (has_type (typing_in program constant vertex) element) ids) ≡ true → AllSuit program constant ids values → HasTypedResult program type (Some (composite values))
array_made program types constant vertex type element count ids values known None of is are fit suit = cc
array_made program types constant vertex type element count ids values known (Some layout) of is are fit suit =
    let has : ℕ → Bool = has_type (typing_in program constant vertex) element in
    let p = array_parts program types constant vertex element layout of ids values (second_of_both (length ids == count) (list_all has ids) fit) suit in
    typed_result program types type (Several (repeated count layout)) _ are
    (record { value = composite values; is = refl; has = as_many layout count values p.0 (p.1 ∙ same (length ids) count (first_of_both (length ids == count) (list_all has ids) fit)) })

struct_made : (program : Program) → HasTypes program → (constant : ℕ → Option ℕ) (vertex : Bool) (type : ℕ) (members : List ℕ) (ids : List ℕ) (values : List Value) (known : Layout) (all : Option Layouts) → layouts_of program.layout members ≡ all
    → program.layout type ≡ Some known → program.layout type ≡ option_map Several all
    → members_fit (typing_in program constant vertex) members ids ≡ true → AllSuit program constant ids values → HasTypedResult program type (Some (composite values))
struct_made program types constant vertex type members ids values known None of is are fit suit = cc
struct_made program types constant vertex type members ids values known (Some all) of is are fit suit =
    let each : Bool = list_all (λ pair. has_type (typing_in program constant vertex) pair.0 pair.1) (zip members ids) in
    let p = member_parts program types constant vertex members ids values all of (same _ _ (first_of_both (length ids == length members) each fit)) (second_of_both (length ids == length members) each fit) suit in
    typed_result program types type (Several all) _ are (record { value = composite values; is = refl; has = composite_has (parts_from values) all p })

construct_by : (program : Program) → HasTypes program → (constant : ℕ → Option ℕ) (vertex : Bool) (type : ℕ) (ids : List ℕ) (values : List Value) (m : Meaning) → program.meaning type ≡ m
    → parts_fit (typing_in program constant vertex) m ids ≡ true → AllSuit program constant ids values → Constructed program type m values
construct_by program types constant vertex type ids values (OfShape (BoolVector count)) is fit suit =
    vector_made program types constant vertex type count component.Truth ids values (types.shaped type (BoolVector count) is) fit suit
construct_by program types constant vertex type ids values (OfShape (IntVector count signed)) is fit suit =
    vector_made program types constant vertex type count (component.Integer signed) ids values (types.shaped type (IntVector count signed) is) fit suit
construct_by program types constant vertex type ids values (OfShape (Array element count)) is fit suit =
    let l = types.there type (ap is_data is) in
    array_made program types constant vertex type element count ids values l.0 (program.layout element) refl l.1 (types.shaped type (Array element count) is) fit suit
construct_by program types constant vertex type ids values (OfShape (Struct members)) is fit suit =
    let l = types.there type (ap is_data is) in
    struct_made program types constant vertex type members.list ids values l.0 (layouts_of program.layout members.list) refl l.1 (types.shaped type (Struct members) is) fit suit
construct_by program types constant vertex type ids values m is fit suit = cc

-- OpCompositeConstruct of parts that fit
pub construct_result : (program : Program) → HasTypes program → (constant : ℕ → Option ℕ) (vertex : Bool) (type : ℕ) (ids : List ℕ) (values : List Value)
    → parts_fit (typing_in program constant vertex) (program.meaning type) ids ≡ true → AllSuit program constant ids values → HasTypedResult program type (Some (constructed (is_vector (program.meaning type)) values))
construct_result program types constant vertex type ids values fit suit = construct_by program types constant vertex type ids values (program.meaning type) refl fit suit

-- ---- OpVectorShuffle

zero_has : (truths : Bool) (value : Value) → HasLayout (scalar_layout truths) value → HasLayout (scalar_layout truths) (zero_like value)
zero_has true value has = let v = truth_of value has in subst (λ x. HasLayout OneTruth (zero_like x)) (sym v.1) refl
zero_has false value has = let v = word_of value has in subst (λ x. HasLayout OneWord (zero_like x)) (sym v.1) refl

or_second : (a b : Bool) → (a || b) ≡ true → b ≡ false → a ≡ true
or_second true b is isnt = refl
or_second false b is isnt = cc

component_has : (truths : Bool) (values : List Value) (literal : ℕ) → AllHave (scalar_layout truths) values → 0 < length values → (nat_lt literal (length values) || (literal == no_component)) ≡ true
    → HasResult (scalar_layout truths) (shuffled_component values literal)
component_has truths values literal have some fits = by_test truths values literal have some (literal == no_component) (λ isnt. ltb-true literal (length values) (or_second _ (literal == no_component) fits isnt)) refl
  where
    by_test : (truths : Bool) (values : List Value) (literal : ℕ) → AllHave (scalar_layout truths) values → 0 < length values → (b : Bool) → ((literal == no_component) ≡ false → literal < length values) → (literal == no_component) ≡ b
        → HasResult (scalar_layout truths) (if b then option_map zero_like (slice_get values 0) else slice_get values literal)
    by_test truths values literal have some true fits is =
        let v = found_in (scalar_layout truths) values 0 have some in
        record { value = zero_like v.value; is = ap (option_map zero_like) v.is; has = zero_has truths v.value v.has }
    by_test truths values literal have some false fits is = found_in (scalar_layout truths) values literal have (fits is)

components_have : (truths : Bool) (values : List Value) (literals : List ℕ) → AllHave (scalar_layout truths) values → 0 < length values
    → list_all (λ literal. nat_lt literal (length values) || (literal == no_component)) literals ≡ true → HaveResults (repeated (length literals) (scalar_layout truths)) (all_of (map (shuffled_component values) literals))
components_have truths values [] have some fit = none_yet
components_have truths values (literal ∷ literals) have some fit =
    let fits : ℕ → Bool = λ literal. nat_lt literal (length values) || (literal == no_component) in
    one_more (scalar_layout truths) (repeated (length literals) (scalar_layout truths)) _ _
    (component_has truths values literal have some (first_of_both (fits literal) (list_all fits literals) fit))
    (components_have truths values literals have some (second_of_both (fits literal) (list_all fits literals) fit))

-- the parts of a vector
vector_has : (program : Program) → HasTypes program → (constant : ℕ → Option ℕ) (vertex : Bool) (component : Component) (id : ℕ) (value : Value) (of : Option Components) → components_of (typing_in program constant vertex) id ≡ of
    → is_vector_of component of ≡ true → Suits program constant id value → AllHave (scalar_layout (is_truth component)) (parts_in value) × (length (parts_in value) ≡ count_in of) × (2 ≤ count_in of)
vector_has program types constant vertex component id value None are is suits = cc
vector_has program types constant vertex component id value (Some of) are is suits =
    let more = leb-true 2 of.count (second_of_both (is_same_component component of.component) (nat_le 2 of.count) is) in
    let has = components_suit program types constant vertex id value of are suits in
    let several : HasLayout (Several (repeated of.count (scalar_layout (is_truth of.component)))) value = subst (λ b. HasLayout (vector_layout b of.count (is_truth of.component)) value) (not_one of.count more) has in
    let c = several_of value (repeated of.count (scalar_layout (is_truth of.component))) several in
    let p = parts_have (scalar_layout (is_truth of.component)) of.count c.0 c.2 in
    let e = same_component component of.component (first_of_both (is_same_component component of.component) (nat_le 2 of.count) is) in
    (subst (λ x. AllHave (scalar_layout (is_truth component)) (parts_in x)) (sym c.1) (subst (λ b. AllHave (scalar_layout b) (list_of c.0)) (sym e) p.0), ap (λ v. length (parts_in v)) c.1 ∙ p.1, more)
  where
    not_one : (count : ℕ) → 2 ≤ count → count == 1 ≡ false
    not_one count more = grind (arith, nat_tests)

five : (a b c d e : Bool) → (a && b && c && d && e) ≡ true → (a ≡ true) × (b ≡ true) × (c ≡ true) × (d ≡ true) × (e ≡ true)
five true true true true true is = (refl, refl, refl, refl, refl)
five true true true true false is = cc
five true true true false e is = cc
five true true false d e is = cc
five true false c d e is = cc
five false b c d e is = cc

shuffle_by : (program : Program) → HasTypes program → (constant : ℕ → Option ℕ) (vertex : Bool) (type a b : ℕ) (first second : Value) (literals : List ℕ) (of : Option Components) → components_in (program.meaning type) ≡ of
    → shuffle_into of (components_of (typing_in program constant vertex) a) (components_of (typing_in program constant vertex) b) literals ≡ true → Suits program constant a first → Suits program constant b second
    → HasTypedResult program type (shuffled first second literals)
shuffle_by program types constant vertex type a b first second literals None are fit suits also = cc
shuffle_by program types constant vertex type a b first second literals (Some of) are fit suits also =
    let of_a = components_of (typing_in program constant vertex) a in let of_b = components_of (typing_in program constant vertex) b in
    let each : Bool = list_all (λ literal. nat_lt literal (count_in of_a + count_in of_b) || (literal == no_component)) literals in
    let e = five (nat_le 2 of.count) (of.count == length literals) (is_vector_of of.component of_a) (is_vector_of of.component of_b) each fit in
    let v = vector_has program types constant vertex of.component a first of_a refl e.2 suits in
    let w = vector_has program types constant vertex of.component b second of_b refl e.3 also in
    let long : count_in of_a + count_in of_b ≡ length (parts_in first ++ parts_in second) = omega (arith, length-append (parts_in first) (parts_in second), v.1, w.1) in
    let parts = components_have (is_truth of.component) (parts_in first ++ parts_in second) literals (all_append (scalar_layout (is_truth of.component)) (parts_in first) (parts_in second) v.0 w.0) (omega (arith, long, v.2))
    (subst (λ n. list_all (λ literal. nat_lt literal n || (literal == no_component)) literals ≡ true) long e.4) in
    let made = composed (repeated (length literals) (scalar_layout (is_truth of.component))) _ parts in
    let known = components_layout program types type of are ∙ ap (λ (b : Bool). Some (vector_layout b of.count (is_truth of.component))) (not_one of.count (leb-true 2 of.count e.0)) in
    typed_result program types type (Several (repeated of.count (scalar_layout (is_truth of.component)))) _ known
    (subst (λ n. HasResult (Several (repeated n (scalar_layout (is_truth of.component)))) (shuffled first second literals)) (sym (same of.count (length literals) e.1)) made)
  where
    not_one : (count : ℕ) → 2 ≤ count → count == 1 ≡ false
    not_one count more = grind (arith, nat_tests)

-- OpVectorShuffle of vectors that fit
pub shuffle_result : (program : Program) → HasTypes program → (constant : ℕ → Option ℕ) (vertex : Bool) (type a b : ℕ) (first second : Value) (literals : List ℕ)
    → shuffle_fits (typing_in program constant vertex) type a b literals ≡ true → Suits program constant a first → Suits program constant b second → HasTypedResult program type (shuffled first second literals)
shuffle_result program types constant vertex type a b first second literals fit suits also = shuffle_by program types constant vertex type a b first second literals (components_in (program.meaning type)) refl fit suits also

-- ---- OpCompositeExtract and OpCompositeInsert

part_no_pointer : (m : Meaning) (index : ℕ) (p : Part) → part_at m index ≡ Some p → is_pointer m ≡ false
part_no_pointer (OfShape (PointerType class to)) index p is = cc
part_no_pointer m index p is = refl

next_no_pointer : (typing : Typing) (own index : ℕ) (indices : List ℕ) (p : Part) (next : Option Part) → part_at (typing.meaning own) index ≡ next → part_along typing next indices ≡ Some p → is_pointer (typing.meaning own) ≡ false
next_no_pointer typing own index indices p None one is = let e = nowhere typing indices in cc
next_no_pointer typing own index indices p (Some next) one is = part_no_pointer (typing.meaning own) index next one

extract_by : (program : Program) → HasTypes program → (constant : ℕ → Option ℕ) (vertex : Bool) (type composite : ℕ) (indices : List ℕ) (value : Value) (own : Option ℕ) → type_id (program.meaning composite) ≡ own
    → is_of_type (typing_in program constant vertex) type (part_along (typing_in program constant vertex) (option_map part.Type own) indices) ≡ true → Suits program constant composite value → HasTypedResult program type (extracted indices value)
extract_by program types constant vertex type composite indices value None is fit suits =
    let e = nowhere (typing_in program constant vertex) indices in
    let f : is_of_type (typing_in program constant vertex) type (part_along (typing_in program constant vertex) None indices) ≡ false = ap (is_of_type (typing_in program constant vertex) type) e in cc
extract_by program types constant vertex type composite [] value (Some own) is fit suits =
    record { value = value; is = refl; has = subst (λ t. IsOfType program t value) (same own type fit) (suits.of_type own is) }
extract_by program types constant vertex type composite (index ∷ indices) value (Some own) is fit suits =
    let p = part_of_type program types constant vertex type _ fit in
    let isnt = next_no_pointer (typing_in program constant vertex) own index indices p.0 _ refl p.1 in
    let d = data_of program own value isnt (suits.of_type own is) in
    let r = extracted_result program types constant vertex (index ∷ indices) (part.Type own) p.0 d.layout value d.known d.has p.1 in
    typed_result program types type r.layout _ (p.2 ∙ r.known) r.has

pub extract_result : (program : Program) → HasTypes program → (constant : ℕ → Option ℕ) (vertex : Bool) (type composite : ℕ) (indices : List ℕ) (value : Value)
    → extract_fits (typing_in program constant vertex) type composite indices ≡ true → Suits program constant composite value → HasTypedResult program type (extracted indices value)
extract_result program types constant vertex type composite indices value fit suits = extract_by program types constant vertex type composite indices value (type_id (program.meaning composite)) refl fit suits

insert_by : (program : Program) → HasTypes program → (constant : ℕ → Option ℕ) (vertex : Bool) (type object composite : ℕ) (indices : List ℕ) (new value : Value) (of_object : Option ℕ) → type_id (program.meaning object) ≡ of_object
    → type_id (program.meaning composite) ≡ Some type → is_of (typing_in program constant vertex) of_object (part_along (typing_in program constant vertex) (Some (part.Type type)) indices) ≡ true
    → Suits program constant object new → Suits program constant composite value → HasTypedResult program type (inserted new indices value)
insert_by program types constant vertex type object composite indices new value None of is fit suits also = cc
insert_by program types constant vertex type object composite [] new value (Some own) of is fit suits also =
    record { value = new; is = refl; has = subst (λ t. IsOfType program t new) (sym (same type own fit)) (suits.of_type own of) }
insert_by program types constant vertex type object composite (index ∷ indices) new value (Some own) of is fit suits also =
    let p = part_of_type program types constant vertex own _ fit in
    let isnt = next_no_pointer (typing_in program constant vertex) type index indices p.0 _ refl p.1 in
    let d = data_of program type value isnt (also.of_type type is) in
    let r = extracted_result program types constant vertex (index ∷ indices) (part.Type type) p.0 d.layout value d.known d.has p.1 in
    let fits = type_has_layout program types own new r.layout (p.2 ∙ r.known) (suits.of_type own of) in
    typed_result program types type d.layout _ d.known (inserted_result program types constant vertex (index ∷ indices) (part.Type type) p.0 d.layout r.layout new value d.known d.has p.1 r.known fits)

pub insert_result : (program : Program) → HasTypes program → (constant : ℕ → Option ℕ) (vertex : Bool) (type object composite : ℕ) (indices : List ℕ) (new value : Value)
    → insert_fits (typing_in program constant vertex) type object composite indices ≡ true → Suits program constant object new → Suits program constant composite value → HasTypedResult program type (inserted new indices value)
insert_result program types constant vertex type object composite indices new value fit suits also =
    let typing = typing_in program constant vertex in
    let rest = is_of typing (type_id (program.meaning object)) (part_along typing (whole_of typing composite) indices) in
    let own = own_type program constant vertex type composite (first_of_both (has_type typing type composite) rest fit) in
    insert_by program types constant vertex type object composite indices new value (type_id (program.meaning object)) refl own
    (sym (ap (λ (o : Option ℕ). is_of typing (type_id (program.meaning object)) (part_along typing (option_map part.Type o) indices)) own) ∙ second_of_both (has_type typing type composite) rest fit) suits also
