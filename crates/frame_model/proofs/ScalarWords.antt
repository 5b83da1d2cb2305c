-- The words of results of operations on scalars, component by component.
use Rattle.std.proofs.Common.{◌≡◌, ℕ, zero, suc, arith, slice_index, ◌==◌, Bool, true, false, ◌&&◌, ◌||◌, if◌then◌else◌, List, [], ◌∷◌, map, length, refl, ap, sym, ◌∙◌, subst, Option, None, Some}
use Rattle.std.specs.List.{list_any, list_all}
use Rattle.std.specs.Option.{option_map, option_and_then, unwrap_or}
use Rattle.spirv_model.specs.declared.op.TheConstants as op
use Rattle.scalar_model.specs.declared.scalar_value.Scalar.{Scalar}
use Rattle.scalar_model.specs.declared.scalar_value.Scalar.TheVariants.{Bool as TruthOf, Word as WordOf}
use Rattle.scalar_model.specs.Scalars.{scalar_result, word_from_word, truth_from_truth}
use Rattle.stage_model.specs.Value.{Value, Truth, Word, Composite, Pointer, Outside, Parts, NoParts, PartsOf, repeated, word_of_truth, words_with, words_of, words_of_parts, list_of, parts_from}
use Rattle.stage_model.specs.Program.{Program}
use Rattle.stage_model.specs.Start.{scalar_of, of_scalar, all_scalars, scalar_value}
use Rattle.stage_model.specs.Operations.{composite, components_of, on_each, on_pairs, chosen, selected_components, any_true, all_true, operation}
use Rattle.check_model.specs.declared.components.Components.{Components}
use Rattle.check_model.specs.ScalarOperands.{is_truth}
use Rattle.typed_model.specs.Values.{layouts_in, HasLayout}
use Rattle.typed_model.specs.Results.{scalar_layout, vector_layout, layout_of_components}
use Rattle.typed_model.proofs.Layouts.{truth_of, word_of, several_of, front_of, no_parts}
use Rattle.frame_model.specs.Frame.{in_frame}
use Rattle.frame_model.specs.Componentwise.{on_both, is_true_word, chosen_word, chosen_words}

-- ---- scalars

-- the word of a scalar
abbrev pub value_word : Value → ℕ
value_word (Truth b) = word_of_truth b
value_word (Word word) = word
value_word other = 0

abbrev pub is_scalar : Value → Bool
is_scalar (Truth b) = true
is_scalar (Word word) = true
is_scalar other = false

abbrev pub IsScalar : Value → Type 0
IsScalar value = is_scalar value ≡ true

scalar_words : (value : Value) → IsScalar value → words_of value ≡ Some (value_word value ∷ [])
scalar_words (Truth b) is = refl
scalar_words (Word word) is = refl
scalar_words (Composite parts) is = cc
scalar_words (Pointer variable indices) is = cc
scalar_words Outside is = cc

-- each of them is a scalar
abbrev pub AreScalars : List Value → Type 0
AreScalars [] = Unit {0}
AreScalars (value ∷ values) = IsScalar value × AreScalars values

abbrev pub values_words : List Value → List ℕ
values_words values = map value_word values

-- the words of a scalar or of a vector's components
abbrev pub component_words : Value → List ℕ
component_words value = values_words (components_of value)

parts_words : (parts : Parts) → AreScalars (list_of parts) → words_of_parts parts ≡ Some (values_words (list_of parts))
parts_words NoParts are = refl
parts_words (PartsOf value parts) are = ap (λ (o : Option (List ℕ)). words_with o (words_of_parts parts)) (scalar_words value are.0) ∙ ap (words_with (Some (value_word value ∷ []))) (parts_words parts are.1)

no_scalar : {A : Type 0} → ◌≡◌ {A = Bool} false true → A
no_scalar is = absurd (never is)
  where
    never : ◌≡◌ {A = Bool} false true → ⊥
    never is = cc

-- they are its words in the frame
pub in_frame_components : (program : Program) (value : Value) → AreScalars (components_of value) → in_frame program value ≡ component_words value
unfolding in_frame
in_frame_components program (Truth b) are = refl
in_frame_components program (Word word) are = refl
in_frame_components program (Composite parts) are = ap (λ (o : Option (List ℕ)). unwrap_or o []) (parts_words parts are)
in_frame_components program (Pointer variable indices) are = no_scalar are.0
in_frame_components program Outside are = no_scalar are.0

listed : (values : List Value) → list_of (parts_from values) ≡ values
listed [] = refl
listed (value ∷ values) = ap (λ (l : List Value). value ∷ l) (listed values)

-- ---- the result of an operation on scalars

-- the word of the result is this one of the operands' words
abbrev pub ComputesOne : ℕ → (ℕ → ℕ) → Type 0
ComputesOne opcode f = (first value : Scalar) → scalar_result opcode (first ∷ []) ≡ Some value → value_word (of_scalar value) ≡ f (value_word (of_scalar first))

abbrev pub ComputesTwo : ℕ → (ℕ → ℕ → ℕ) → Type 0
ComputesTwo opcode f = (first second value : Scalar) → scalar_result opcode (first ∷ second ∷ []) ≡ Some value → value_word (of_scalar value) ≡ f (value_word (of_scalar first)) (value_word (of_scalar second))

scalar_is : (s : Scalar) → IsScalar (of_scalar s)
scalar_is (TruthOf b) = refl
scalar_is (WordOf word) = refl

-- a result of one operand, of which these are the words
pub record OfOne (f : ℕ → ℕ) (a value : Value) : Type 0 where
  pub first : IsScalar a
  pub result : IsScalar value
  pub word : value_word value ≡ f (value_word a)

pub record OfTwo (f : ℕ → ℕ → ℕ) (a b value : Value) : Type 0 where
  pub first : IsScalar a
  pub second : IsScalar b
  pub result : IsScalar value
  pub word : value_word value ≡ f (value_word a) (value_word b)

no_result : (value : Value) → ◌≡◌ {A = Option Value} None (Some value) → ⊥
no_result value is = cc

same_some : {A : Type 0} (x y : A) → Some x ≡ Some y → x ≡ y
same_some x y is = cc

of_one : (opcode : ℕ) (f : ℕ → ℕ) → ComputesOne opcode f → (s : Scalar) (found : Option Scalar) (value : Value) → scalar_result opcode (s ∷ []) ≡ found → option_map of_scalar found ≡ Some value → OfOne f (of_scalar s) value
of_one opcode f computes s None value found is = absurd (no_result value is)
of_one opcode f computes s (Some result) value found is =
    subst (λ (v : Value). OfOne f (of_scalar s) v) (same_some (of_scalar result) value is) (record { first = scalar_is s; result = scalar_is result; word = computes s result found })

pub scalar_of_one : (opcode : ℕ) (f : ℕ → ℕ) → ComputesOne opcode f → (a value : Value) → scalar_value opcode (a ∷ []) ≡ Some value → OfOne f a value
scalar_of_one opcode f computes (Truth b) value is = of_one opcode f computes (TruthOf b) _ value refl is
scalar_of_one opcode f computes (Word word) value is = of_one opcode f computes (WordOf word) _ value refl is
scalar_of_one opcode f computes (Composite parts) value is = absurd (no_result value is)
scalar_of_one opcode f computes (Pointer variable indices) value is = absurd (no_result value is)
scalar_of_one opcode f computes Outside value is = absurd (no_result value is)

of_two : (opcode : ℕ) (f : ℕ → ℕ → ℕ) → ComputesTwo opcode f → (s t : Scalar) (found : Option Scalar) (value : Value) → scalar_result opcode (s ∷ t ∷ []) ≡ found → option_map of_scalar found ≡ Some value → OfTwo f (of_scalar s) (of_scalar t) value
of_two opcode f computes s t None value found is = absurd (no_result value is)
of_two opcode f computes s t (Some result) value found is =
    subst (λ (v : Value). OfTwo f (of_scalar s) (of_scalar t) v) (same_some (of_scalar result) value is) (record { first = scalar_is s; second = scalar_is t; result = scalar_is result; word = computes s t result found })

-- a first operand that is a scalar
two_by : (opcode : ℕ) (f : ℕ → ℕ → ℕ) → ComputesTwo opcode f → (s : Scalar) (b value : Value) → option_map of_scalar (option_and_then (scalar_result opcode) (option_map (λ rest. s ∷ rest) (all_scalars (b ∷ [])))) ≡ Some value → OfTwo f (of_scalar s) b value
two_by opcode f computes s (Truth b) value is = of_two opcode f computes s (TruthOf b) _ value refl is
two_by opcode f computes s (Word word) value is = of_two opcode f computes s (WordOf word) _ value refl is
two_by opcode f computes s (Composite parts) value is = absurd (no_result value is)
two_by opcode f computes s (Pointer variable indices) value is = absurd (no_result value is)
two_by opcode f computes s Outside value is = absurd (no_result value is)

pub scalar_of_two : (opcode : ℕ) (f : ℕ → ℕ → ℕ) → ComputesTwo opcode f → (a b value : Value) → scalar_value opcode (a ∷ b ∷ []) ≡ Some value → OfTwo f a b value
scalar_of_two opcode f computes (Truth a) b value is = two_by opcode f computes (TruthOf a) b value is
scalar_of_two opcode f computes (Word word) b value is = two_by opcode f computes (WordOf word) b value is
scalar_of_two opcode f computes (Composite parts) b value is = absurd (no_result value is)
scalar_of_two opcode f computes (Pointer variable indices) b value is = absurd (no_result value is)
scalar_of_two opcode f computes Outside b value is = absurd (no_result value is)

-- ---- component by component

-- results of the components of one operand
pub record OfEach (f : ℕ → ℕ) (values results : List Value) : Type 0 where
  pub first : AreScalars values
  pub result : AreScalars results
  pub words : values_words results ≡ map f (values_words values)

pub record OfPairs (f : ℕ → ℕ → ℕ) (values others results : List Value) : Type 0 where
  pub first : AreScalars values
  pub second : AreScalars others
  pub result : AreScalars results
  pub words : values_words results ≡ on_both f (values_words values) (values_words others)
  pub long : length (values_words values) ≡ length (values_words others)

-- a list of results begins with one, if there is one
pub record Begun (first : Option Value) (rest : Option (List Value)) (results : List Value) : Type 0 where
  pub value : Value
  pub values : List Value
  pub is : first ≡ Some value
  pub are : rest ≡ Some values
  pub all : results ≡ value ∷ values

begun : (first : Option Value) (rest : Option (List Value)) (results : List Value) → option_and_then (λ first. option_map (λ rest. first ∷ rest) rest) first ≡ Some results → Begun first rest results
begun None rest results is = cc
begun (Some value) None results is = cc
begun (Some value) (Some values) results is = record { value = value; values = values; is = refl; are = refl; all = sym (same_some (value ∷ values) results is) }

front : (value : Value) (values : List Value) → values_words (value ∷ values) ≡ value_word value ∷ values_words values
front value values = refl

each_word : (opcode : ℕ) (f : ℕ → ℕ) → ComputesOne opcode f → (values results : List Value) → on_each opcode values ≡ Some results → OfEach f values results
each_word opcode f computes [] results is = subst (λ (r : List Value). OfEach f [] r) (same_some [] results is) (record { first = tt; result = tt; words = refl })
each_word opcode f computes (a ∷ values) results is =
    let b = begun (scalar_value opcode (a ∷ [])) (on_each opcode values) results is in
    let one = scalar_of_one opcode f computes a b.value b.is in
    let more = each_word opcode f computes values b.values b.are in
    subst (λ (r : List Value). OfEach f (a ∷ values) r) (sym b.all)
    (record { first = (one.first, more.first); result = (one.result, more.result); words = ap (λ (w : ℕ). w ∷ values_words b.values) one.word ∙ ap (λ (l : List ℕ). f (value_word a) ∷ l) more.words })

pair_words : (opcode : ℕ) (f : ℕ → ℕ → ℕ) → ComputesTwo opcode f → (values others results : List Value) → on_pairs opcode values others ≡ Some results → OfPairs f values others results
pair_words opcode f computes [] [] results is = subst (λ (r : List Value). OfPairs f [] [] r) (same_some [] results is) (record { first = tt; second = tt; result = tt; words = refl; long = refl })
pair_words opcode f computes [] (b ∷ others) results is = cc
pair_words opcode f computes (a ∷ values) [] results is = cc
pair_words opcode f computes (a ∷ values) (b ∷ others) results is =
    let s = begun (scalar_value opcode (a ∷ b ∷ [])) (on_pairs opcode values others) results is in
    let one = scalar_of_two opcode f computes a b s.value s.is in
    let more = pair_words opcode f computes values others s.values s.are in
    subst (λ (r : List Value). OfPairs f (a ∷ values) (b ∷ others) r) (sym s.all)
    (record {
      first = (one.first, more.first);
      second = (one.second, more.second);
      result = (one.result, more.result);
      words = ap (λ (w : ℕ). w ∷ values_words s.values) one.word ∙ ap (λ (l : List ℕ). f (value_word a) (value_word b) ∷ l) more.words;
      long = ap (λ (n : ℕ). suc n) more.long;
    })

-- a composite of results
pub record Composed (found : Option (List Value)) (value : Value) : Type 0 where
  pub results : List Value
  pub are : found ≡ Some results
  pub all : components_of value ≡ results

composed : (found : Option (List Value)) (value : Value) → option_map composite found ≡ Some value → Composed found value
composed None value is = absurd (no_result value is)
composed (Some results) value is = record { results = results; are = refl; all = ap components_of (sym (same_some (composite results) value is)) ∙ listed results }

-- ---- one operand

skip_two : {A : Type 0} (x y : A) {z : A} (a b : Bool) → a ≡ false → b ≡ false → (if a then x else if b then y else z) ≡ z
skip_two x y true b isnt also = cc
skip_two x y false true isnt also = cc
skip_two x y false false isnt also = refl

one_scalar : (f : ℕ → ℕ) (a value : Value) → components_of a ≡ a ∷ [] → OfOne f a value → components_of value ≡ value ∷ [] → OfEach f (components_of a) (components_of value)
one_scalar f a value alone one also =
    subst (λ (l : List Value). OfEach f l (components_of value)) (sym alone)
    (subst (λ (l : List Value). OfEach f (a ∷ []) l) (sym also) (record { first = (one.first, tt); result = (one.result, tt); words = ap (λ (w : ℕ). w ∷ []) one.word }))

-- the result of a scalar operation is a scalar
scalar_alone : (found : Option Scalar) (value : Value) → option_map of_scalar found ≡ Some value → components_of value ≡ value ∷ []
scalar_alone None value is = absurd (no_result value is)
scalar_alone (Some (TruthOf b)) value is = subst (λ (v : Value). components_of v ≡ v ∷ []) (same_some (Truth b) value is) refl
scalar_alone (Some (WordOf word)) value is = subst (λ (v : Value). components_of v ≡ v ∷ []) (same_some (Word word) value is) refl

of_components : (opcode : ℕ) (f : ℕ → ℕ) → ComputesOne opcode f → opcode == op.ANY ≡ false → opcode == op.ALL ≡ false → (a value : Value) → operation opcode (a ∷ []) ≡ Some value → OfEach f (components_of a) (components_of value)
unfolding operation
of_components opcode f computes isnt also (Composite parts) value is =
    let c = composed (on_each opcode (list_of parts)) value (sym (skip_two _ _ (opcode == op.ANY) (opcode == op.ALL) isnt also) ∙ is) in
    subst (λ (l : List Value). OfEach f (list_of parts) l) (sym c.all) (each_word opcode f computes (list_of parts) c.results c.are)
of_components opcode f computes isnt also (Truth b) value is = one_scalar f (Truth b) value refl (scalar_of_one opcode f computes (Truth b) value is) (scalar_alone _ value is)
of_components opcode f computes isnt also (Word word) value is = one_scalar f (Word word) value refl (scalar_of_one opcode f computes (Word word) value is) (scalar_alone _ value is)
of_components opcode f computes isnt also (Pointer variable indices) value is = absurd (no_result value is)
of_components opcode f computes isnt also Outside value is = absurd (no_result value is)

-- the words of the result of an operation on one operand
pub unary_words : (program : Program) (opcode : ℕ) (f : ℕ → ℕ) → ComputesOne opcode f → opcode == op.ANY ≡ false → opcode == op.ALL ≡ false → (a value : Value) → operation opcode (a ∷ []) ≡ Some value
    → in_frame program value ≡ map f (in_frame program a)
unary_words program opcode f computes isnt also a value is =
    let c = of_components opcode f computes isnt also a value is in
    in_frame_components program value c.result ∙ (c.words ∙ ap (map f) (sym (in_frame_components program a c.first)))

-- ---- two operands

two_scalars : (f : ℕ → ℕ → ℕ) (a b value : Value) → components_of a ≡ a ∷ [] → components_of b ≡ b ∷ [] → OfTwo f a b value → components_of value ≡ value ∷ [] → OfPairs f (components_of a) (components_of b) (components_of value)
two_scalars f a b value alone alone_too two also =
    subst (λ (l : List Value). OfPairs f l (components_of b) (components_of value)) (sym alone)
    (subst (λ (l : List Value). OfPairs f (a ∷ []) l (components_of value)) (sym alone_too)
    (subst (λ (l : List Value). OfPairs f (a ∷ []) (b ∷ []) l) (sym also)
    (record { first = (two.first, tt); second = (two.second, tt); result = (two.result, tt); words = ap (λ (w : ℕ). w ∷ []) two.word; long = refl })))

-- an operand that is a scalar stands alone
scalar_components : (b : Value) → IsScalar b → components_of b ≡ b ∷ []
scalar_components (Truth b) is = refl
scalar_components (Word word) is = refl
scalar_components (Composite parts) is = cc
scalar_components (Pointer variable indices) is = refl
scalar_components Outside is = refl

scalars_by : (opcode : ℕ) (f : ℕ → ℕ → ℕ) → ComputesTwo opcode f → (a b value : Value) → components_of a ≡ a ∷ [] → scalar_value opcode (a ∷ b ∷ []) ≡ Some value → OfPairs f (components_of a) (components_of b) (components_of value)
scalars_by opcode f computes a b value alone is =
    let two = scalar_of_two opcode f computes a b value is in
    two_scalars f a b value alone (scalar_components b two.second) two (scalar_alone _ value is)

of_both_components : (opcode : ℕ) (f : ℕ → ℕ → ℕ) → ComputesTwo opcode f → (a b value : Value) → operation opcode (a ∷ b ∷ []) ≡ Some value → OfPairs f (components_of a) (components_of b) (components_of value)
unfolding operation
of_both_components opcode f computes (Composite xs) (Composite ys) value is =
    let c = composed (on_pairs opcode (list_of xs) (list_of ys)) value is in
    subst (λ (l : List Value). OfPairs f (list_of xs) (list_of ys) l) (sym c.all) (pair_words opcode f computes (list_of xs) (list_of ys) c.results c.are)
of_both_components opcode f computes (Composite xs) (Truth b) value is = absurd (no_result value is)
of_both_components opcode f computes (Composite xs) (Word word) value is = absurd (no_result value is)
of_both_components opcode f computes (Composite xs) (Pointer variable indices) value is = absurd (no_result value is)
of_both_components opcode f computes (Composite xs) Outside value is = absurd (no_result value is)
of_both_components opcode f computes (Truth a) b value is = scalars_by opcode f computes (Truth a) b value refl is
of_both_components opcode f computes (Word word) b value is = scalars_by opcode f computes (Word word) b value refl is
of_both_components opcode f computes (Pointer variable indices) b value is = absurd (no_result value is)
of_both_components opcode f computes Outside b value is = absurd (no_result value is)

-- the words of the result of an operation on two operands, which have as many
pub record BinaryWords (program : Program) (f : ℕ → ℕ → ℕ) (a b value : Value) : Type 0 where
  pub words : in_frame program value ≡ on_both f (in_frame program a) (in_frame program b)
  pub long : length (in_frame program a) ≡ length (in_frame program b)

pub binary_words : (program : Program) (opcode : ℕ) (f : ℕ → ℕ → ℕ) → ComputesTwo opcode f → (a b value : Value) → operation opcode (a ∷ b ∷ []) ≡ Some value → BinaryWords program f a b value
binary_words program opcode f computes a b value is =
    let c = of_both_components opcode f computes a b value is in
    let first = in_frame_components program a c.first in let second = in_frame_components program b c.second in
    record {
      words = in_frame_components program value c.result ∙ (c.words ∙ (ap (λ (l : List ℕ). on_both f l (component_words b)) (sym first) ∙ ap (on_both f (in_frame program a)) (sym second)));
      long = ap length first ∙ (c.long ∙ sym (ap length second));
    }

-- ---- OpAny and OpAll

pub record AnyWords (values : List Value) (b : Bool) : Type 0 where
  pub scalars : AreScalars values
  pub word : list_any is_true_word (values_words values) ≡ b

pub record AllWords (values : List Value) (b : Bool) : Type 0 where
  pub scalars : AreScalars values
  pub word : list_all is_true_word (values_words values) ≡ b

-- the truth value of a list that begins with one
joined : (join : Bool → Bool) (rest : Option Bool) (b : Bool) → option_map join rest ≡ Some b → (more : Bool) × (rest ≡ Some more) × (join more ≡ b)
joined join None b is = cc
joined join (Some more) b is = (more, refl, same_some (join more) b is)

true_word : (b : Bool) → is_true_word (word_of_truth b) ≡ b
true_word true = refl
true_word false = refl

any_words : (values : List Value) (b : Bool) → any_true values ≡ Some b → AnyWords values b
any_words [] b is = record { scalars = tt; word = same_some false b is }
any_words (Truth a ∷ values) b is =
    let j = joined (λ rest. a || rest) (any_true values) b is in
    let more = any_words values j.0 j.1 in
    record { scalars = (refl, more.scalars); word = ap (λ (x : Bool). x || list_any is_true_word (values_words values)) (true_word a) ∙ (ap (λ (x : Bool). a || x) more.word ∙ j.2) }
any_words (Word word ∷ values) b is = cc
any_words (Composite parts ∷ values) b is = cc
any_words (Pointer variable indices ∷ values) b is = cc
any_words (Outside ∷ values) b is = cc

all_words : (values : List Value) (b : Bool) → all_true values ≡ Some b → AllWords values b
all_words [] b is = record { scalars = tt; word = same_some true b is }
all_words (Truth a ∷ values) b is =
    let j = joined (λ rest. a && rest) (all_true values) b is in
    let more = all_words values j.0 j.1 in
    record { scalars = (refl, more.scalars); word = ap (λ (x : Bool). x && list_all is_true_word (values_words values)) (true_word a) ∙ (ap (λ (x : Bool). a && x) more.word ∙ j.2) }
all_words (Word word ∷ values) b is = cc
all_words (Composite parts ∷ values) b is = cc
all_words (Pointer variable indices ∷ values) b is = cc
all_words (Outside ∷ values) b is = cc

of_truth : (found : Option Bool) (value : Value) → option_map Truth found ≡ Some value → (b : Bool) × (found ≡ Some b) × (value ≡ Truth b)
of_truth None value is = absurd (no_result value is)
of_truth (Some b) value is = (b, refl, sym (same_some (Truth b) value is))

no_any : (opcode : ℕ) → opcode ≡ op.ANY → (s : Scalar) → scalar_result opcode (s ∷ []) ≡ None
unfolding scalar_result word_from_word truth_from_truth
no_any opcode is (TruthOf b) = subst (λ (o : ℕ). scalar_result o (TruthOf b ∷ []) ≡ None) (sym is) refl
no_any opcode is (WordOf word) = subst (λ (o : ℕ). scalar_result o (WordOf word ∷ []) ≡ None) (sym is) refl

no_all : (opcode : ℕ) → opcode ≡ op.ALL → (s : Scalar) → scalar_result opcode (s ∷ []) ≡ None
unfolding scalar_result word_from_word truth_from_truth
no_all opcode is (TruthOf b) = subst (λ (o : ℕ). scalar_result o (TruthOf b ∷ []) ≡ None) (sym is) refl
no_all opcode is (WordOf word) = subst (λ (o : ℕ). scalar_result o (WordOf word ∷ []) ≡ None) (sym is) refl

no_scalar_result : (opcode : ℕ) (s : Scalar) (value : Value) → scalar_result opcode (s ∷ []) ≡ None → option_map of_scalar (scalar_result opcode (s ∷ [])) ≡ Some value → ⊥
no_scalar_result opcode s value none is = no_result value (sym (ap (option_map of_scalar) none) ∙ is)

pub any_result_words : (program : Program) (a value : Value) → operation op.ANY (a ∷ []) ≡ Some value → in_frame program value ≡ word_of_truth (list_any is_true_word (in_frame program a)) ∷ []
unfolding operation in_frame
any_result_words program (Composite parts) value is =
    let t = of_truth (any_true (list_of parts)) value is in
    let w = any_words (list_of parts) t.0 t.1 in
    let e = in_frame_components program (Composite parts) w.scalars in
    subst (λ (v : Value). in_frame program v ≡ word_of_truth (list_any is_true_word (in_frame program (Composite parts))) ∷ []) (sym t.2)
    (sym (ap (λ (l : List ℕ). word_of_truth (list_any is_true_word l) ∷ []) e ∙ ap (λ (b : Bool). word_of_truth b ∷ []) w.word))
any_result_words program (Truth b) value is = absurd (no_scalar_result op.ANY (TruthOf b) value (no_any op.ANY refl (TruthOf b)) is)
any_result_words program (Word word) value is = absurd (no_scalar_result op.ANY (WordOf word) value (no_any op.ANY refl (WordOf word)) is)
any_result_words program (Pointer variable indices) value is = absurd (no_result value is)
any_result_words program Outside value is = absurd (no_result value is)

pub all_result_words : (program : Program) (a value : Value) → operation op.ALL (a ∷ []) ≡ Some value → in_frame program value ≡ word_of_truth (list_all is_true_word (in_frame program a)) ∷ []
unfolding operation in_frame
all_result_words program (Composite parts) value is =
    let t = of_truth (all_true (list_of parts)) value is in
    let w = all_words (list_of parts) t.0 t.1 in
    let e = in_frame_components program (Composite parts) w.scalars in
    subst (λ (v : Value). in_frame program v ≡ word_of_truth (list_all is_true_word (in_frame program (Composite parts))) ∷ []) (sym t.2)
    (sym (ap (λ (l : List ℕ). word_of_truth (list_all is_true_word l) ∷ []) e ∙ ap (λ (b : Bool). word_of_truth b ∷ []) w.word))
all_result_words program (Truth b) value is = absurd (no_scalar_result op.ALL (TruthOf b) value (no_all op.ALL refl (TruthOf b)) is)
all_result_words program (Word word) value is = absurd (no_scalar_result op.ALL (WordOf word) value (no_all op.ALL refl (WordOf word)) is)
all_result_words program (Pointer variable indices) value is = absurd (no_result value is)
all_result_words program Outside value is = absurd (no_result value is)

-- ---- OpSelect

chosen_scalar : (b : Bool) (a other : Value) → IsScalar a → IsScalar other → IsScalar (chosen b a other)
chosen_scalar true a other is also = is
chosen_scalar false a other is also = also

chosen_is : (b : Bool) (a other : Value) → value_word (chosen b a other) ≡ chosen_word (word_of_truth b) (value_word a) (value_word other)
chosen_is true a other = refl
chosen_is false a other = refl

-- results that are chosen component by component
pub record OfChosen (conditions values others results : List Value) : Type 0 where
  pub scalars : AreScalars conditions
  pub result : AreScalars results
  pub words : values_words results ≡ chosen_words (values_words conditions) (values_words values) (values_words others)
  pub long : length (values_words conditions) ≡ length (values_words results)

selects : (conditions values others results : List Value) → AreScalars values → AreScalars others → selected_components conditions values others ≡ Some results → OfChosen conditions values others results
selects [] [] [] results are also is = subst (λ (r : List Value). OfChosen [] [] [] r) (same_some [] results is) (record { scalars = tt; result = tt; words = refl; long = refl })
selects (Truth b ∷ conditions) (x ∷ values) (y ∷ others) results are also is =
    let s = begun (Some (chosen b x y)) (selected_components conditions values others) results is in
    let more = selects conditions values others s.values are.1 also.1 s.are in
    let e = same_some (chosen b x y) s.value s.is in
    subst (λ (r : List Value). OfChosen (Truth b ∷ conditions) (x ∷ values) (y ∷ others) r) (ap (λ (v : Value). v ∷ s.values) e ∙ sym s.all)
    (record {
      scalars = (refl, more.scalars);
      result = (chosen_scalar b x y are.0 also.0, more.result);
      words = ap (λ (w : ℕ). w ∷ values_words s.values) (chosen_is b x y) ∙ ap (λ (l : List ℕ). chosen_word (word_of_truth b) (value_word x) (value_word y) ∷ l) more.words;
      long = ap (λ (n : ℕ). suc n) more.long;
    })
selects conditions values others results are also is = cc

-- the words of what is chosen of two operands with as many words, by a condition for all of them or one for each
pub record SelectWords (program : Program) (condition a b value : Value) : Type 0 where
  pub each : length (in_frame program condition) ≡ length (in_frame program value) → in_frame program value ≡ chosen_words (in_frame program condition) (in_frame program a) (in_frame program b)
  pub one : (length (in_frame program condition) ≡ length (in_frame program value) → ⊥) → length (in_frame program condition) ≡ 1
  pub whole : (length (in_frame program condition) ≡ length (in_frame program value) → ⊥)
      → in_frame program value ≡ (if is_true_word (slice_index (in_frame program condition) 0) then in_frame program a else in_frame program b)

whole_words : (program : Program) (b : Bool) (x y : Value) → in_frame program (chosen b x y) ≡ (if is_true_word (word_of_truth b) then in_frame program x else in_frame program y)
whole_words program true x y = refl
whole_words program false x y = refl

-- two lists of one word
alone_words : (b : Bool) (xs ys new : List ℕ) → new ≡ (if is_true_word (word_of_truth b) then xs else ys) → length xs ≡ 1 → length ys ≡ 1 → new ≡ chosen_words (word_of_truth b ∷ []) xs ys
alone_words true (x ∷ []) (y ∷ []) new is one also = is
alone_words false (x ∷ []) (y ∷ []) new is one also = is
alone_words b [] ys new is one also = cc
alone_words b (x ∷ []) [] new is one also = cc
alone_words b (x ∷ z ∷ xs) ys new is one also = absurd (omega (arith, one))
alone_words b (x ∷ []) (y ∷ z ∷ ys) new is one also = absurd (omega (arith, also))

-- operands of one length and of scalars
pub record AreAlike (program : Program) (a b value : Value) : Type 0 where
  pub first : AreScalars (components_of a)
  pub second : AreScalars (components_of b)
  pub long : length (in_frame program a) ≡ length (in_frame program value)
  pub long_too : length (in_frame program b) ≡ length (in_frame program value)

by_truth : (program : Program) (c : Bool) (a b value : Value) → AreAlike program a b value → value ≡ chosen c a b → SelectWords program (Truth c) a b value
unfolding in_frame
by_truth program c a b value alike is =
    let e : in_frame program value ≡ (if is_true_word (word_of_truth c) then in_frame program a else in_frame program b) = ap (in_frame program) is ∙ whole_words program c a b in
    record {
      each = λ long. alone_words c (in_frame program a) (in_frame program b) (in_frame program value) e (alike.long ∙ sym long) (alike.long_too ∙ sym long);
      one = λ isnt. refl;
      whole = λ isnt. e;
    }

by_components : (program : Program) (cs xs ys : Parts) (value : Value) → AreAlike program (Composite xs) (Composite ys) value → option_map composite (selected_components (list_of cs) (list_of xs) (list_of ys)) ≡ Some value
    → SelectWords program (Composite cs) (Composite xs) (Composite ys) value
by_components program cs xs ys value alike is =
    let c = composed (selected_components (list_of cs) (list_of xs) (list_of ys)) value is in
    let s = selects (list_of cs) (list_of xs) (list_of ys) c.results alike.first alike.second c.are in
    let result : AreScalars (components_of value) = subst AreScalars (sym c.all) s.result in
    let of_condition = in_frame_components program (Composite cs) s.scalars in
    let of_first = in_frame_components program (Composite xs) alike.first in
    let of_second = in_frame_components program (Composite ys) alike.second in
    let of_value : in_frame program value ≡ values_words c.results = in_frame_components program value result ∙ ap values_words c.all in
    let long : length (in_frame program (Composite cs)) ≡ length (in_frame program value) = ap length of_condition ∙ (s.long ∙ sym (ap length of_value)) in
    record {
      each = λ same. of_value ∙ (s.words ∙ (ap (λ (l : List ℕ). chosen_words l (values_words (list_of xs)) (values_words (list_of ys))) (sym of_condition)
          ∙ (ap (λ (l : List ℕ). chosen_words (in_frame program (Composite cs)) l (values_words (list_of ys))) (sym of_first) ∙ ap (chosen_words (in_frame program (Composite cs)) (in_frame program (Composite xs))) (sym of_second))));
      one = λ isnt. absurd (isnt long);
      whole = λ isnt. absurd (isnt long);
    }

-- a word is no condition
no_words : (opcode word : ℕ) (s t : Scalar) (value : Value) → option_map of_scalar (scalar_result opcode (WordOf word ∷ s ∷ t ∷ [])) ≡ Some value → ⊥
unfolding scalar_result
no_words opcode word (TruthOf a) t value is = no_result value is
no_words opcode word (WordOf a) t value is = no_result value is

pub word_first : (opcode word : ℕ) (first second : Option Scalar) (value : Value)
    → option_map of_scalar (option_and_then (scalar_result opcode) (option_map (λ rest. WordOf word ∷ rest) (option_and_then (λ f. option_map (λ r. f ∷ r) (option_and_then (λ s. option_map (λ r. s ∷ r) (Some [])) second)) first))) ≡ Some value → ⊥
word_first opcode word None second value is = no_result value is
word_first opcode word (Some s) None value is = no_result value is
word_first opcode word (Some s) (Some t) value is = no_words opcode word s t value is

selected_truth : (b : Bool) (found : Option Value) (value : Value) → b ≡ true → (if b then found else None) ≡ Some value → found ≡ Some value
selected_truth true found value at is = is
selected_truth false found value at is = cc

-- the words of the result of OpSelect
pub select_words : (program : Program) (condition a b value : Value) → AreAlike program a b value → operation op.SELECT (condition ∷ a ∷ b ∷ []) ≡ Some value → SelectWords program condition a b value
unfolding operation
select_words program (Truth c) a b value alike is = by_truth program c a b value alike (sym (same_some (chosen c a b) value is))
select_words program (Composite cs) (Composite xs) (Composite ys) value alike is = by_components program cs xs ys value alike is
select_words program (Composite cs) (Composite xs) (Truth b) value alike is = absurd (no_result value is)
select_words program (Composite cs) (Composite xs) (Word b) value alike is = absurd (no_result value is)
select_words program (Composite cs) (Composite xs) (Pointer v i) value alike is = absurd (no_result value is)
select_words program (Composite cs) (Composite xs) Outside value alike is = absurd (no_result value is)
select_words program (Composite cs) (Truth a) b value alike is = absurd (no_result value is)
select_words program (Composite cs) (Word a) b value alike is = absurd (no_result value is)
select_words program (Composite cs) (Pointer v i) b value alike is = absurd (no_result value is)
select_words program (Composite cs) Outside b value alike is = absurd (no_result value is)
select_words program (Word word) a b value alike is = absurd (word_first op.SELECT word (scalar_of a) (scalar_of b) value is)
select_words program (Pointer v i) a b value alike is = absurd (no_result value is)
select_words program Outside a b value alike is = absurd (no_result value is)

-- ---- operands of a layout

repeated_scalars : (truths : Bool) (n : ℕ) (parts : Parts) → layouts_in parts ≡ Some (repeated n (scalar_layout truths)) → AreScalars (list_of parts)
repeated_scalars truths zero parts have = subst (λ (p : Parts). AreScalars (list_of p)) (sym (no_parts parts have)) tt
repeated_scalars truths (suc n) parts have =
    let f = front_of parts (scalar_layout truths) (repeated n (scalar_layout truths)) have in
    subst (λ (p : Parts). AreScalars (list_of p)) (sym f.is) (scalar_has truths f.value f.has, repeated_scalars truths n f.rest f.behind)
  where
    scalar_has : (truths : Bool) (value : Value) → HasLayout (scalar_layout truths) value → IsScalar value
    scalar_has true value has = let t = truth_of value has in subst IsScalar (sym t.1) refl
    scalar_has false value has = let w = word_of value has in subst IsScalar (sym w.1) refl

vector_scalars : (is_alone : Bool) (count : ℕ) (truths : Bool) (value : Value) → HasLayout (vector_layout is_alone count truths) value → AreScalars (components_of value)
vector_scalars true count true value has = let t = truth_of value has in subst (λ (v : Value). AreScalars (components_of v)) (sym t.1) (refl, tt)
vector_scalars true count false value has = let w = word_of value has in subst (λ (v : Value). AreScalars (components_of v)) (sym w.1) (refl, tt)
vector_scalars false count truths value has =
    let p = several_of value (repeated count (scalar_layout truths)) has in
    subst (λ (v : Value). AreScalars (components_of v)) (sym p.1) (repeated_scalars truths count p.0 p.2)

pub layout_scalars : (of : Components) (value : Value) → HasLayout (layout_of_components of) value → AreScalars (components_of value)
layout_scalars of value has = vector_scalars (of.count == 1) of.count (is_truth of.component) value has
