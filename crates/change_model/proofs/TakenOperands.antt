-- What the operands of an instruction are that fit: types, constants and variables, or values of types that are no pointers. Only the
-- pointers of loads and stores may be others.
use Rattle.std.proofs.Common.{◌≡◌, ℕ, ◌&&◌, ◌||◌, ◌⊎◌, inl, inr, Bool, true, false, not, List, [], ◌∷◌, refl, ap, ◌∙◌, Option, None, Some, is_some}
use Rattle.basics.proofs.Bools.{first_of_both, second_of_both}
use Rattle.spirv_model.specs.declared.class.ScalarClass.{ScalarClass}
use Rattle.spirv_model.specs.declared.class.ScalarClass.TheVariants.{Bitcast, WordFromWord, WordFromWords, TruthFromWords, TruthFromTruth, TruthFromTruths, Select}
use Rattle.valid_model.specs.declared.meaning.Meaning.{Meaning}
use Rattle.valid_model.specs.declared.meaning.Meaning.TheVariants.{Shape as OfShape, Variable, Value as OfValue}
use Rattle.valid_model.specs.declared.meaning.Shape.TheVariants.{Pointer}
use Rattle.valid_model.specs.Knowledge.{is_bool, is_integer, is_data}
use Rattle.check_model.specs.declared.components.Components.{Components}
use Rattle.check_model.specs.OperandTypes.{is_pointer}
use Rattle.check_model.specs.ScalarOperands.{match_in, operand_fits, unary_fits, both_fit, binary_fits, are_so_many, condition_fits, is_select, select_fits, scalar_operands_fit}
use Rattle.check_model.specs.CompositeOperands.{is_truth_vector}
use Rattle.check_model.specs.Typing.{Typing, meaning_of, type_id, type_of, has_type, components_in}
use Rattle.typed_model.proofs.ReadTypes.{Each}
use Rattle.typed_model.proofs.TypeLayouts.{word_is}
use Rattle.change_model.specs.PlanRules.{is_shape}

-- ---- types

-- a type that is no pointer
abbrev pub is_taken_type : Meaning → Bool
is_taken_type m = is_shape m && not (is_pointer m)

-- the result of an instruction that is no constant
abbrev pub is_object : Meaning → Bool
is_object (OfValue type) = true
is_object (Variable type class) = true
is_object m = false

-- it has such a type
abbrev pub IsTaken : Typing → ℕ → Type 0
IsTaken typing id = is_object (typing.meaning id) ≡ true → is_taken_type (type_of typing id) ≡ true

pub components_taken : (m : Meaning) → is_some (components_in m) ≡ true → is_taken_type m ≡ true
components_taken (OfShape (Pointer class to)) is = cc
components_taken (OfShape shape) is = refl
components_taken m is = cc

pub data_taken : (m : Meaning) → is_data m ≡ true → is_taken_type m ≡ true
data_taken (OfShape (Pointer class to)) is = cc
data_taken (OfShape shape) is = refl
data_taken m is = cc

bool_taken : (m : Meaning) → is_bool m ≡ true → is_taken_type m ≡ true
bool_taken (OfShape (Pointer class to)) is = cc
bool_taken (OfShape shape) is = refl
bool_taken m is = cc

pub integer_taken : (m : Meaning) → is_integer m ≡ true → is_taken_type m ≡ true
integer_taken (OfShape (Pointer class to)) is = cc
integer_taken (OfShape shape) is = refl
integer_taken m is = cc

pub vector_taken : (m : Meaning) → is_truth_vector m ≡ true → is_taken_type m ≡ true
vector_taken (OfShape (Pointer class to)) is = cc
vector_taken (OfShape shape) is = refl
vector_taken m is = cc

pub clash : {Q : Type 0} (b : Bool) → b ≡ true → b ≡ false → Q
clash true is isnt = cc
clash false is isnt = cc

shape_no_value : (m : Meaning) → is_shape m ≡ true → is_object m ≡ false
shape_no_value (OfShape shape) is = refl
shape_no_value m is = cc

module _ (typing : Typing) where
  pub not_value : (id : ℕ) → is_object (typing.meaning id) ≡ false → IsTaken typing id
  not_value id isnt value = clash (is_object (typing.meaning id)) value isnt

  pub type_taken : (id : ℕ) → is_shape (typing.meaning id) ≡ true → IsTaken typing id
  type_taken id is = not_value id (shape_no_value (typing.meaning id) is)

  pub of_type_taken : (type id : ℕ) → has_type typing type id ≡ true → is_taken_type (typing.meaning type) ≡ true → is_taken_type (type_of typing id) ≡ true
  of_type_taken type id has taken = ap (λ (o : Option ℕ). is_taken_type (meaning_of typing o)) (word_is type (type_id (typing.meaning id)) has) ∙ taken

  -- ---- scalar operations

  matched : (truths other : Bool) (of operand : Option Components) → match_in truths other of operand ≡ true → is_some operand ≡ true
  matched truths other of (Some own) is = refl
  matched truths other None None is = cc
  matched truths other (Some of) None is = none _ is
    where
      none : (b : Bool) → (b && false) ≡ true → false ≡ true
      none true is = cc
      none false is = cc

  operand_taken : (truths other : Bool) (type : Meaning) (id : ℕ) → operand_fits truths other type (type_of typing id) ≡ true → IsTaken typing id
  operand_taken truths other type id fit _ = components_taken (type_of typing id) (matched truths other (components_in type) (components_in (type_of typing id)) fit)

  unary_taken : (own : ScalarClass) (type : Meaning) (a : ℕ) → unary_fits own type (type_of typing a) ≡ true → IsTaken typing a
  unary_taken Bitcast type a fit = operand_taken false false type a fit
  unary_taken WordFromWord type a fit = operand_taken false false type a fit
  unary_taken TruthFromTruth type a fit = operand_taken true true type a fit
  unary_taken WordFromWords type a fit = cc
  unary_taken TruthFromWords type a fit = cc
  unary_taken TruthFromTruths type a fit = cc
  unary_taken Select type a fit = cc

  both_taken : (truths other : Bool) (type : Meaning) (a b : ℕ) → both_fit truths other type (type_of typing a) (type_of typing b) ≡ true → Each (IsTaken typing) (a ∷ b ∷ [])
  both_taken truths other type a b fit =
      let left = operand_fits truths other type (type_of typing a) in let right = operand_fits truths other type (type_of typing b) in
      (operand_taken truths other type a (first_of_both left right fit), (operand_taken truths other type b (second_of_both left right fit), tt))

  binary_taken : (own : ScalarClass) (type : Meaning) (a b : ℕ) → binary_fits own type (type_of typing a) (type_of typing b) ≡ true → Each (IsTaken typing) (a ∷ b ∷ [])
  binary_taken WordFromWords type a b fit = both_taken false false type a b fit
  binary_taken TruthFromWords type a b fit = both_taken true false type a b fit
  binary_taken TruthFromTruths type a b fit = both_taken true true type a b fit
  binary_taken Bitcast type a b fit = cc
  binary_taken WordFromWord type a b fit = cc
  binary_taken TruthFromTruth type a b fit = cc
  binary_taken Select type a b fit = cc

  either : (a b : Bool) → (a || b) ≡ true → (a ≡ true) ⊎ (b ≡ true)
  either true b is = inl refl
  either false b is = inr is

  many_some : (truths : Bool) (count : ℕ) (of : Option Components) → are_so_many truths count of ≡ true → is_some of ≡ true
  many_some truths count None is = cc
  many_some truths count (Some of) is = refl

  each_of_three : (a b c : Bool) → (a && b && c) ≡ true → (a ≡ true) × (b ≡ true) × (c ≡ true)
  each_of_three true true c is = (refl, refl, is)
  each_of_three true false c is = cc
  each_of_three false b c is = cc

  condition_taken : (m : Meaning) (of : Option Components) → condition_fits m of ≡ true → (is_taken_type m ≡ true) × (is_some of ≡ true)
  condition_taken m None is = cc
  condition_taken m (Some of) is = (
    elim (either (is_bool m) (are_so_many true of.count (components_in m)) is) [ inl truth ↦ bool_taken m truth | inr many ↦ components_taken m (many_some true of.count (components_in m) many) ],
    refl,
  )

  select_taken : (type condition a b : ℕ) → select_fits typing type condition a b ≡ true → Each (IsTaken typing) (condition ∷ a ∷ b ∷ [])
  select_taken type condition a b fit =
      let of = components_in (typing.meaning type) in
      let e = each_of_three (condition_fits (type_of typing condition) of) (has_type typing type a) (has_type typing type b) fit in
      let c = condition_taken (type_of typing condition) of e.0 in
      let taken = components_taken (typing.meaning type) c.1 in
      (λ _. c.0, (λ _. of_type_taken type a e.1 taken, (λ _. of_type_taken type b e.2 taken, tt)))

  pub scalar_taken : (own : ScalarClass) (type : ℕ) (operands : List ℕ) → scalar_operands_fit typing own type operands ≡ true → Each (IsTaken typing) operands
  unfolding scalar_operands_fit
  scalar_taken own type [] fit = tt
  scalar_taken own type (a ∷ []) fit = (unary_taken own (typing.meaning type) a fit, tt)
  scalar_taken own type (a ∷ b ∷ []) fit = binary_taken own (typing.meaning type) a b fit
  scalar_taken own type (condition ∷ a ∷ b ∷ []) fit = select_taken type condition a b (second_of_both (is_select own) (select_fits typing type condition a b) fit)
  scalar_taken own type (a ∷ b ∷ c ∷ d ∷ more) fit = cc

  -- ---- branches

  pub truth_taken : (id : ℕ) → is_bool (type_of typing id) ≡ true → IsTaken typing id
  truth_taken id is _ = bool_taken (type_of typing id) is

  pub number_taken : (id : ℕ) → is_integer (type_of typing id) ≡ true → IsTaken typing id
  number_taken id is _ = integer_taken (type_of typing id) is
