-- Scalar operations and reductions: a result of the type that the rule of their operands asks.
use Rattle.std.proofs.Common.{◌≡◌, ℕ, ◌==◌, Bool, true, false, ◌&&◌, ◌||◌, List, [], ◌∷◌, refl, ap, sym, ◌∙◌, subst, Option, None, Some}
use Rattle.basics.specs.Word.{are_equal}
use Rattle.basics.proofs.Bools.{first_of_both, second_of_both}
use Rattle.spirv_model.specs.declared.op.TheConstants as op
use Rattle.spirv_model.specs.declared.class.ScalarClass.{ScalarClass}
use Rattle.spirv_model.specs.declared.class.ScalarClass.TheVariants.{Bitcast, WordFromWord, WordFromWords, TruthFromWords, TruthFromTruth, TruthFromTruths, Select}
use Rattle.valid_model.specs.declared.meaning.Meaning.{Meaning}
use Rattle.valid_model.specs.declared.meaning.Meaning.TheVariants.{Shape as OfShape}
use Rattle.valid_model.specs.declared.meaning.Shape.TheVariants.{Bool as OneBool, BoolVector}
use Rattle.valid_model.specs.Knowledge.{is_bool}
use Rattle.check_model.specs.declared.components.Component.TheVariants as component
use Rattle.check_model.specs.declared.components.Components.{Components}
use Rattle.check_model.specs.ScalarOperands.{is_truth, are_so_many, match_in, operand_fits, both_fit, unary_fits, binary_fits, condition_fits, is_select, select_fits, scalar_operands_fit}
use Rattle.check_model.specs.CompositeOperands.{is_truth_vector, reduction_fits}
use Rattle.check_model.specs.Typing.{type_id, has_type, type_of, meaning_of, components_in}
use Rattle.stage_model.specs.Value.{Value, OneTruth, Several, repeated}
use Rattle.stage_model.specs.Program.{Program}
use Rattle.stage_model.specs.Operations.{operation}
use Rattle.typed_model.specs.Values.{HasLayout}
use Rattle.typed_model.specs.Results.{scalar_layout, vector_layout, layout_of_components, HasResult}
use Rattle.typed_model.specs.Types.{HasTypes, typing_in, Suits, AllSuit, HasTypedResult}
use Rattle.typed_model.proofs.Rows.{is_operation}
use Rattle.typed_model.proofs.Scalars.{OnOne, OnTwo, on_word, on_truth, on_words, on_compared, on_truths, unary_result, binary_result, select_result, select_each_result, any_result, all_result}
use Rattle.typed_model.proofs.TypeLayouts.{same, own_type, components_layout, components_suit, type_has_layout, typed_result}

-- ---- what the rule says

equal : (a b : Bool) → are_equal a b ≡ true → a ≡ b
equal true true is = refl
equal true false is = cc
equal false true is = cc
equal false false is = refl

-- the result's components, and what is asked of an operand
pub record Matches (rt ot : Bool) (result operand : Option Components) : Type 0 where
  pub of : Components
  pub is : result ≡ Some of
  pub truths : rt ≡ is_truth of.component
  pub asks : are_so_many ot of.count operand ≡ true

matches : (rt ot : Bool) (result operand : Option Components) → match_in rt ot result operand ≡ true → Matches rt ot result operand
matches rt ot None operand is = cc
matches rt ot (Some of) operand is = record {
  of = of;
  is = refl;
  truths = equal rt (is_truth of.component) (first_of_both (are_equal rt (is_truth of.component)) (are_so_many ot of.count operand) is);
  asks = second_of_both (are_equal rt (is_truth of.component)) (are_so_many ot of.count operand) is;
}

result_layout : (program : Program) → HasTypes program → (type : ℕ) (rt : Bool) (of : Components) → components_in (program.meaning type) ≡ Some of → rt ≡ is_truth of.component → program.layout type ≡ Some (vector_layout (of.count == 1) of.count rt)
result_layout program types type rt of are is = components_layout program types type of are ∙ ap (λ (b : Bool). Some (vector_layout (of.count == 1) of.count b)) (sym is)

operand_layout : (program : Program) → HasTypes program → (constant : ℕ → Option ℕ) (vertex : Bool) (ot : Bool) (count id : ℕ) (value : Value) (own : Option Components) → components_in (type_of (typing_in program constant vertex) id) ≡ own
    → are_so_many ot count own ≡ true → Suits program constant id value → HasLayout (vector_layout (count == 1) count ot) value
operand_layout program types constant vertex ot count id value None are is suits = cc
operand_layout program types constant vertex ot count id value (Some of) are is suits =
    let t = equal ot (is_truth of.component) (first_of_both (are_equal ot (is_truth of.component)) (of.count == count) is) in
    let n = same of.count count (second_of_both (are_equal ot (is_truth of.component)) (of.count == count) is) in
    subst (λ b. HasLayout (vector_layout (count == 1) count b) value) (sym t)
    (subst (λ n. HasLayout (vector_layout (n == 1) n (is_truth of.component)) value) n (components_suit program types constant vertex id value of are suits))

same_of : (result : Option Components) (a b : Components) → result ≡ Some a → result ≡ Some b → a ≡ b
same_of result a b is also = cc

-- ---- one operand

unary_typed : (program : Program) → HasTypes program → (constant : ℕ → Option ℕ) (vertex : Bool) (opcode type a : ℕ) (value : Value) (rt ot : Bool) → OnOne opcode ot rt → opcode == op.ANY ≡ false → opcode == op.ALL ≡ false
    → operand_fits rt ot (program.meaning type) (type_of (typing_in program constant vertex) a) ≡ true → Suits program constant a value → HasTypedResult program type (operation opcode (value ∷ []))
unary_typed program types constant vertex opcode type a value rt ot each not_any not_all fit suits =
    let m = matches rt ot (components_in (program.meaning type)) (components_in (type_of (typing_in program constant vertex) a)) fit in
    typed_result program types type _ _ (result_layout program types type rt m.of m.is m.truths)
    (unary_result opcode ot rt each not_any not_all (m.of.count == 1) m.of.count value (operand_layout program types constant vertex ot m.of.count a value _ refl m.asks suits))

unary_by : (program : Program) → HasTypes program → (constant : ℕ → Option ℕ) (vertex : Bool) (class : ScalarClass) (opcode type a : ℕ) (value : Value) → is_operation class opcode ≡ true → opcode == op.ANY ≡ false → opcode == op.ALL ≡ false
    → unary_fits class (program.meaning type) (type_of (typing_in program constant vertex) a) ≡ true → Suits program constant a value → HasTypedResult program type (operation opcode (value ∷ []))
unary_by program types constant vertex Bitcast opcode type a value is not_any not_all fit suits = unary_typed program types constant vertex opcode type a value false false (on_word opcode is) not_any not_all fit suits
unary_by program types constant vertex WordFromWord opcode type a value is not_any not_all fit suits = unary_typed program types constant vertex opcode type a value false false (on_word opcode is) not_any not_all fit suits
unary_by program types constant vertex TruthFromTruth opcode type a value is not_any not_all fit suits = unary_typed program types constant vertex opcode type a value true true (on_truth opcode is) not_any not_all fit suits
unary_by program types constant vertex class opcode type a value is not_any not_all fit suits = cc

-- ---- two operands

binary_typed : (program : Program) → HasTypes program → (constant : ℕ → Option ℕ) (vertex : Bool) (opcode type a b : ℕ) (value other : Value) (rt ot : Bool) → OnTwo opcode ot rt
    → both_fit rt ot (program.meaning type) (type_of (typing_in program constant vertex) a) (type_of (typing_in program constant vertex) b) ≡ true → Suits program constant a value → Suits program constant b other
    → HasTypedResult program type (operation opcode (value ∷ other ∷ []))
binary_typed program types constant vertex opcode type a b value other rt ot each fit suits also =
    let of_a = type_of (typing_in program constant vertex) a in let of_b = type_of (typing_in program constant vertex) b in
    let m = matches rt ot (components_in (program.meaning type)) (components_in of_a) (first_of_both (operand_fits rt ot (program.meaning type) of_a) (operand_fits rt ot (program.meaning type) of_b) fit) in
    let n = matches rt ot (components_in (program.meaning type)) (components_in of_b) (second_of_both (operand_fits rt ot (program.meaning type) of_a) (operand_fits rt ot (program.meaning type) of_b) fit) in
    let e = same_of (components_in (program.meaning type)) n.of m.of n.is m.is in
    typed_result program types type _ _ (result_layout program types type rt m.of m.is m.truths)
    (binary_result opcode ot rt each (m.of.count == 1) m.of.count value other (operand_layout program types constant vertex ot m.of.count a value _ refl m.asks suits)
    (operand_layout program types constant vertex ot m.of.count b other _ refl (subst (λ (c : Components). are_so_many ot c.count (components_in of_b) ≡ true) e n.asks) also))

binary_by : (program : Program) → HasTypes program → (constant : ℕ → Option ℕ) (vertex : Bool) (class : ScalarClass) (opcode type a b : ℕ) (value other : Value) → is_operation class opcode ≡ true
    → binary_fits class (program.meaning type) (type_of (typing_in program constant vertex) a) (type_of (typing_in program constant vertex) b) ≡ true → Suits program constant a value → Suits program constant b other
    → HasTypedResult program type (operation opcode (value ∷ other ∷ []))
binary_by program types constant vertex WordFromWords opcode type a b value other is fit suits also = binary_typed program types constant vertex opcode type a b value other false false (on_words opcode is) fit suits also
binary_by program types constant vertex TruthFromWords opcode type a b value other is fit suits also = binary_typed program types constant vertex opcode type a b value other true false (on_compared opcode is) fit suits also
binary_by program types constant vertex TruthFromTruths opcode type a b value other is fit suits also = binary_typed program types constant vertex opcode type a b value other true true (on_truths opcode is) fit suits also
binary_by program types constant vertex class opcode type a b value other is fit suits also = cc

-- ---- OpSelect

bool_components : (m : Meaning) → is_bool m ≡ true → components_in m ≡ Some (record { component = component.Truth; count = 1 })
bool_components (OfShape OneBool) is = refl
bool_components m is = cc

one_of : (a b : Bool) → (a || b) ≡ true → a ≡ false → b ≡ true
one_of true b is isnt = cc
one_of false b is isnt = is

each_selected : (truths is_scalar : Bool) (count : ℕ) (condition a b : Value) → HasLayout (vector_layout is_scalar count true) condition → HasLayout (vector_layout is_scalar count truths) a → HasLayout (vector_layout is_scalar count truths) b
    → HasResult (vector_layout is_scalar count truths) (operation op.SELECT (condition ∷ a ∷ b ∷ []))
each_selected truths true count condition a b is has also = select_result (scalar_layout truths) condition a b is has also
each_selected truths false count condition a b is has also = select_each_result truths count condition a b is has also

select_by : (program : Program) → HasTypes program → (constant : ℕ → Option ℕ) (vertex : Bool) (type condition a b : ℕ) (value one other : Value) (of : Option Components) → components_in (program.meaning type) ≡ of
    → condition_fits (type_of (typing_in program constant vertex) condition) of ≡ true → has_type (typing_in program constant vertex) type a ≡ true → has_type (typing_in program constant vertex) type b ≡ true
    → Suits program constant condition value → Suits program constant a one → Suits program constant b other → HasTypedResult program type (operation op.SELECT (value ∷ one ∷ other ∷ []))
select_by program types constant vertex type condition a b value one other None are fit fits fits_too suits suit also = cc
select_by program types constant vertex type condition a b value one other (Some of) are fit fits fits_too suits suit also =
    let layout = components_layout program types type of are in
    let has = type_has_layout program types type one (layout_of_components of) layout (suit.of_type type (own_type program constant vertex type a fits)) in
    let has_too = type_has_layout program types type other (layout_of_components of) layout (also.of_type type (own_type program constant vertex type b fits_too)) in
    typed_result program types type (layout_of_components of) _ layout
    (by_condition program types constant vertex condition value one other of (is_bool (type_of (typing_in program constant vertex) condition)) refl fit suits has has_too)
  where
    by_condition : (program : Program) → HasTypes program → (constant : ℕ → Option ℕ) (vertex : Bool) (condition : ℕ) (value one other : Value) (of : Components) (b : Bool) → is_bool (type_of (typing_in program constant vertex) condition) ≡ b
        → (b || are_so_many true of.count (components_in (type_of (typing_in program constant vertex) condition))) ≡ true → Suits program constant condition value → HasLayout (layout_of_components of) one → HasLayout (layout_of_components of) other
        → HasResult (layout_of_components of) (operation op.SELECT (value ∷ one ∷ other ∷ []))
    by_condition program types constant vertex condition value one other of true is fit suits has has_too =
        select_result (layout_of_components of) value one other (components_suit program types constant vertex condition value _ (bool_components _ is) suits) has has_too
    by_condition program types constant vertex condition value one other of false is fit suits has has_too =
        each_selected (is_truth of.component) (of.count == 1) of.count value one other (operand_layout program types constant vertex true of.count condition value _ refl fit suits) has has_too

three : (a b c : Bool) → (a && b && c) ≡ true → (a ≡ true) × (b ≡ true) × (c ≡ true)
three true true true is = (refl, refl, refl)
three true true false is = cc
three true false c is = cc
three false b c is = cc

ternary_by : (program : Program) → HasTypes program → (constant : ℕ → Option ℕ) (vertex : Bool) (class : ScalarClass) (opcode type condition a b : ℕ) (value one other : Value) → is_operation class opcode ≡ true
    → (is_select class && select_fits (typing_in program constant vertex) type condition a b) ≡ true
    → Suits program constant condition value → Suits program constant a one → Suits program constant b other → HasTypedResult program type (operation opcode (value ∷ one ∷ other ∷ []))
ternary_by program types constant vertex Select opcode type condition a b value one other is fit suits suit also =
    let typing = typing_in program constant vertex in
    let f = three (condition_fits (type_of typing condition) (components_in (program.meaning type))) (has_type typing type a) (has_type typing type b) fit in
    subst (λ o. HasTypedResult program type (operation o (value ∷ one ∷ other ∷ []))) (sym (same opcode op.SELECT is))
    (select_by program types constant vertex type condition a b value one other _ refl f.0 f.1 f.2 suits suit also)
ternary_by program types constant vertex class opcode type condition a b value one other is fit suits suit also = cc

-- ---- all of them

-- a scalar operation on operands that fit it
pub scalar_typed : (program : Program) → HasTypes program → (constant : ℕ → Option ℕ) (vertex : Bool) (class : ScalarClass) (opcode type : ℕ) (ids : List ℕ) (values : List Value) → is_operation class opcode ≡ true
    → opcode == op.ANY ≡ false → opcode == op.ALL ≡ false → scalar_operands_fit (typing_in program constant vertex) class type ids ≡ true → AllSuit program constant ids values → HasTypedResult program type (operation opcode values)
unfolding scalar_operands_fit
scalar_typed program types constant vertex class opcode type (a ∷ []) (value ∷ []) is not_any not_all fit suit = unary_by program types constant vertex class opcode type a value is not_any not_all fit suit.0
scalar_typed program types constant vertex class opcode type (a ∷ b ∷ []) (value ∷ other ∷ []) is not_any not_all fit suit = binary_by program types constant vertex class opcode type a b value other is fit suit.0 suit.1.0
scalar_typed program types constant vertex class opcode type (condition ∷ a ∷ b ∷ []) (value ∷ one ∷ other ∷ []) is not_any not_all fit suit =
    ternary_by program types constant vertex class opcode type condition a b value one other is fit suit.0 suit.1.0 suit.1.1.0
scalar_typed program types constant vertex class opcode type [] values is not_any not_all fit suit = cc
scalar_typed program types constant vertex class opcode type (a ∷ []) [] is not_any not_all fit suit = absurd suit
scalar_typed program types constant vertex class opcode type (a ∷ []) (value ∷ other ∷ values) is not_any not_all fit suit = absurd suit.1
scalar_typed program types constant vertex class opcode type (a ∷ b ∷ []) [] is not_any not_all fit suit = absurd suit
scalar_typed program types constant vertex class opcode type (a ∷ b ∷ []) (value ∷ []) is not_any not_all fit suit = absurd suit.1
scalar_typed program types constant vertex class opcode type (a ∷ b ∷ []) (value ∷ other ∷ more ∷ values) is not_any not_all fit suit = absurd suit.1.1
scalar_typed program types constant vertex class opcode type (condition ∷ a ∷ b ∷ []) [] is not_any not_all fit suit = absurd suit
scalar_typed program types constant vertex class opcode type (condition ∷ a ∷ b ∷ []) (value ∷ []) is not_any not_all fit suit = absurd suit.1
scalar_typed program types constant vertex class opcode type (condition ∷ a ∷ b ∷ []) (value ∷ one ∷ []) is not_any not_all fit suit = absurd suit.1.1
scalar_typed program types constant vertex class opcode type (condition ∷ a ∷ b ∷ []) (value ∷ one ∷ other ∷ more ∷ values) is not_any not_all fit suit = absurd suit.1.1.1
scalar_typed program types constant vertex class opcode type (a ∷ b ∷ c ∷ d ∷ ids) values is not_any not_all fit suit = cc

-- ---- OpAny and OpAll

truth_vector : (m : Meaning) → is_truth_vector m ≡ true → (count : ℕ) × (m ≡ OfShape (BoolVector count))
truth_vector (OfShape (BoolVector count)) is = (count, refl)
truth_vector m is = cc

truths_of : (program : Program) → HasTypes program → (constant : ℕ → Option ℕ) (vertex : Bool) (id : ℕ) (value : Value) (type : Option ℕ) → type_id (program.meaning id) ≡ type
    → is_truth_vector (meaning_of (typing_in program constant vertex) type) ≡ true → Suits program constant id value → (count : ℕ) × HasLayout (Several (repeated count OneTruth)) value
truths_of program types constant vertex id value None of is suits = cc
truths_of program types constant vertex id value (Some type) of is suits =
    let v = truth_vector (program.meaning type) is in
    (v.0, type_has_layout program types type value (Several (repeated v.0 OneTruth)) (types.shaped type (BoolVector v.0) v.1) (suits.of_type type of))

bool_layout : (program : Program) → HasTypes program → (type : ℕ) → is_bool (program.meaning type) ≡ true → program.layout type ≡ Some OneTruth
bool_layout program types type is = components_layout program types type _ (bool_components _ is)

pub any_typed : (program : Program) → HasTypes program → (constant : ℕ → Option ℕ) (vertex : Bool) (type vector : ℕ) (value : Value) → reduction_fits (typing_in program constant vertex) type vector ≡ true → Suits program constant vector value
    → HasTypedResult program type (operation op.ANY (value ∷ []))
any_typed program types constant vertex type vector value fit suits =
    let wide = is_truth_vector (type_of (typing_in program constant vertex) vector) in
    let v = truths_of program types constant vertex vector value _ refl (second_of_both (is_bool (program.meaning type)) wide fit) suits in
    typed_result program types type OneTruth _ (bool_layout program types type (first_of_both (is_bool (program.meaning type)) wide fit)) (any_result v.0 value v.1)

pub all_typed : (program : Program) → HasTypes program → (constant : ℕ → Option ℕ) (vertex : Bool) (type vector : ℕ) (value : Value) → reduction_fits (typing_in program constant vertex) type vector ≡ true → Suits program constant vector value
    → HasTypedResult program type (operation op.ALL (value ∷ []))
all_typed program types constant vertex type vector value fit suits =
    let wide = is_truth_vector (type_of (typing_in program constant vertex) vector) in
    let v = truths_of program types constant vertex vector value _ refl (second_of_both (is_bool (program.meaning type)) wide fit) suits in
    typed_result program types type OneTruth _ (bool_layout program types type (first_of_both (is_bool (program.meaning type)) wide fit)) (all_result v.0 value v.1)
