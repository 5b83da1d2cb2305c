-- Scalar operations, phis and terminators whose operands are alike fit in the one module as they do in the other.
use Rattle.std.proofs.Common.{◌≡◌, ℕ, ◌&&◌, ◌||◌, Bool, true, false, not, List, [], ◌∷◌, map, refl, ap, ◌∙◌, Option, None, Some}
use Rattle.spirv_model.specs.declared.class.ScalarClass.{ScalarClass}
use Rattle.spirv_model.specs.declared.class.ScalarClass.TheVariants.{Bitcast, WordFromWord, WordFromWords, TruthFromWords, TruthFromTruth, TruthFromTruths}
use Rattle.valid_model.specs.declared.meaning.Meaning.{Meaning}
use Rattle.valid_model.specs.Knowledge.{is_bool}
use Rattle.check_model.specs.declared.components.Components.{Components}
use Rattle.check_model.specs.OperandTypes.{is_pointer, incoming_fits}
use Rattle.check_model.specs.ScalarOperands.{match_in, operand_fits, unary_fits, both_fit, binary_fits, are_so_many, condition_fits, is_select, select_fits, scalar_operands_fit}
use Rattle.check_model.specs.Typing.{Typing, type_of, has_type, components_in}
use Rattle.typed_model.proofs.ReadTypes.{Each}
use Rattle.change_model.proofs.AlikeTypes.{AreAlike, IsAlike, ByShape, as_shape, same_shapes, bool_by, components_by, pointer_by, type_says, has_alike, types_alike}
use Rattle.change_model.proofs.ChangedShapes.{shape_in}

-- ---- what an operation asks of types is told by their shapes

operand_by : (rt ot : Bool) (m : Meaning) → ByShape (λ type. operand_fits rt ot type m)
operand_by rt ot m type = ap (λ (of : Option Components). match_in rt ot of (components_in m)) (components_by type)

operand_of : (rt ot : Bool) (m : Meaning) → ByShape (λ operand. operand_fits rt ot m operand)
operand_of rt ot m operand = ap (match_in rt ot (components_in m)) (components_by operand)

-- the same is asked of two types and operands of the same shapes
one_operand : (rt ot : Bool) (type also a b : Meaning) → shape_in type ≡ shape_in also → shape_in a ≡ shape_in b → operand_fits rt ot type a ≡ operand_fits rt ot also b
one_operand rt ot type also a b same equal =
    same_shapes (λ type. operand_fits rt ot type a) (operand_by rt ot a) type also same ∙ same_shapes (λ operand. operand_fits rt ot also operand) (operand_of rt ot also) a b equal

two_operands : (rt ot : Bool) (type also a b c d : Meaning) → shape_in type ≡ shape_in also → shape_in a ≡ shape_in b → shape_in c ≡ shape_in d → both_fit rt ot type a c ≡ both_fit rt ot also b d
two_operands rt ot type also a b c d same equal other =
    ap (λ (x : Bool). x && operand_fits rt ot type c) (one_operand rt ot type also a b same equal) ∙ ap (λ (x : Bool). operand_fits rt ot also b && x) (one_operand rt ot type also c d same other)

one_fits : (of : ScalarClass) (type also a b : Meaning) → shape_in type ≡ shape_in also → shape_in a ≡ shape_in b → unary_fits of type a ≡ unary_fits of also b
one_fits Bitcast type also a b same equal = one_operand false false type also a b same equal
one_fits WordFromWord type also a b same equal = one_operand false false type also a b same equal
one_fits TruthFromTruth type also a b same equal = one_operand true true type also a b same equal
one_fits other type also a b same equal = refl

two_fit : (of : ScalarClass) (type also a b c d : Meaning) → shape_in type ≡ shape_in also → shape_in a ≡ shape_in b → shape_in c ≡ shape_in d → binary_fits of type a c ≡ binary_fits of also b d
two_fit WordFromWords type also a b c d same equal other = two_operands false false type also a b c d same equal other
two_fit TruthFromWords type also a b c d same equal other = two_operands true false type also a b c d same equal other
two_fit TruthFromTruths type also a b c d same equal other = two_operands true true type also a b c d same equal other
two_fit rest type also a b c d same equal other = refl

condition_by : (of : Option Components) → ByShape (λ condition. condition_fits condition of)
condition_by None condition = refl
condition_by (Some of) condition =
    ap (λ (b : Bool). b || are_so_many true of.count (components_in condition)) (bool_by condition)
    ∙ ap (λ (o : Option Components). is_bool (as_shape (shape_in condition)) || are_so_many true of.count o) (components_by condition)

module _ (new old : Typing) (name : ℕ → ℕ) (a : AreAlike new old) where
  -- ---- scalar operations

  select_alike : (type condition x y : ℕ) → IsAlike new old (name condition) condition → IsAlike new old (name x) x → IsAlike new old (name y) y
      → select_fits new type (name condition) (name x) (name y) ≡ select_fits old type condition x y
  select_alike type condition x y s t u =
      ap (λ (of : Option Components). condition_fits (type_of new (name condition)) of && has_type new type (name x) && has_type new type (name y)) (type_says components_in components_by new old a type)
      ∙ ap (λ (b : Bool). b && has_type new type (name x) && has_type new type (name y))
      (same_shapes (λ condition. condition_fits condition (components_in (old.meaning type))) (condition_by (components_in (old.meaning type))) (type_of new (name condition)) (type_of old condition) (types_alike new old a (name condition) condition s))
      ∙ ap (λ (b : Bool). condition_fits (type_of old condition) (components_in (old.meaning type)) && b && has_type new type (name y)) (has_alike new old type (name x) x t)
      ∙ ap (λ (b : Bool). condition_fits (type_of old condition) (components_in (old.meaning type)) && has_type old type x && b) (has_alike new old type (name y) y u)

  pub scalar_alike : (of : ScalarClass) (type : ℕ) (ids : List ℕ) → Each (λ id. IsAlike new old (name id) id) ids → scalar_operands_fit new of type (map name ids) ≡ scalar_operands_fit old of type ids
  unfolding scalar_operands_fit
  scalar_alike of type [] each = refl
  scalar_alike of type (x ∷ []) each = one_fits of (new.meaning type) (old.meaning type) (type_of new (name x)) (type_of old x) (a.shape type) (types_alike new old a (name x) x each.0)
  scalar_alike of type (x ∷ y ∷ []) each =
      two_fit of (new.meaning type) (old.meaning type) (type_of new (name x)) (type_of old x) (type_of new (name y)) (type_of old y) (a.shape type) (types_alike new old a (name x) x each.0) (types_alike new old a (name y) y each.1.0)
  scalar_alike of type (x ∷ y ∷ z ∷ []) each = ap (λ (b : Bool). is_select of && b) (select_alike type x y z each.0 each.1.0 each.1.1.0)
  scalar_alike of type (x ∷ y ∷ z ∷ more ∷ ids) each = refl

  -- ---- phis

  -- a value of a phi
  pub incoming_alike : (type value block other : ℕ) → IsAlike new old (name value) value
      → incoming_fits new type (record { value = name value; block = other }) ≡ incoming_fits old type (record { value = value; block = block })
  incoming_alike type value block other s =
      ap (λ (b : Bool). b && not (is_pointer (new.meaning type))) (has_alike new old type (name value) value s)
      ∙ ap (λ (b : Bool). has_type old type value && not b) (type_says is_pointer pointer_by new old a type)
