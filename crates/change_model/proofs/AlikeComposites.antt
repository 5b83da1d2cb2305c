-- Instructions on composites whose operands are alike fit in the one module as they do in the other.
use Rattle.std.proofs.Common.{◌≡◌, ℕ, ◌+◌, ◌==◌, ◌&&◌, Bool, nat_le, List, [], ◌∷◌, length, map, refl, ap, ◌∙◌, Option, None, Some}
use Rattle.std.specs.List.{list_all, fold, sum_by, zip}
use Rattle.std.specs.Option.{option_map, option_and_then}
use Rattle.valid_model.specs.declared.meaning.Shape.{Shape}
use Rattle.valid_model.specs.declared.meaning.Shape.TheVariants.{BoolVector, IntVector, Array, Struct}
use Rattle.valid_model.specs.declared.meaning.Meaning.{Meaning}
use Rattle.valid_model.specs.declared.meaning.Meaning.TheVariants.{Shape as OfShape}
use Rattle.valid_model.specs.Knowledge.{is_bool}
use Rattle.check_model.specs.declared.components.Component.{Component}
use Rattle.check_model.specs.declared.components.Component.TheVariants as component
use Rattle.check_model.specs.declared.components.Components.{Components}
use Rattle.check_model.specs.declared.components.Part.{Part}
use Rattle.check_model.specs.declared.components.Part.TheVariants as part
use Rattle.check_model.specs.CompositeOperands.{part_at, part_of, part_along, is_of_type, whole_of, is_of, extract_fits, insert_fits, is_made_of, count_in, components_of, vector_parts_fit, members_fit, parts_fit, shuffle_into, shuffle_fits, is_truth_vector, reduction_fits}
use Rattle.check_model.specs.Typing.{Typing, type_id, type_of, has_type, components_in}
use Rattle.typed_model.proofs.ReadTypes.{Each}
use Rattle.change_model.proofs.AlikeTypes.{AreAlike, IsAlike, ByShape, same_shapes, bool_by, components_by, truth_vector_by, part_by, says_alike, type_says, has_alike}
use Rattle.change_model.proofs.AlikeMemory.{of_type_alike}
use Rattle.change_model.proofs.PlanRunsRenamed.{named_long}

module _ (new old : Typing) (name : ℕ → ℕ) (a : AreAlike new old) where
  -- ---- lists of ids under other names

  all_alike : (test check : ℕ → Bool) → ((id : ℕ) → IsAlike new old (name id) id → test (name id) ≡ check id) → (ids : List ℕ) → Each (λ id. IsAlike new old (name id) id) ids → list_all test (map name ids) ≡ list_all check ids
  all_alike test check same [] each = refl
  all_alike test check same (id ∷ ids) each = ap (λ (b : Bool). b && list_all test (map name ids)) (same id each.0) ∙ ap (λ (b : Bool). check id && b) (all_alike test check same ids each.1)

  pub of_alike : (id : ℕ) → IsAlike new old (name id) id → components_of new (name id) ≡ components_of old id
  of_alike id s = says_alike components_in components_by new old a (name id) id s

  sum_from : (n : ℕ) (ids : List ℕ) → Each (λ id. IsAlike new old (name id) id) ids
      → fold (λ (n id : ℕ). n + count_in (components_of new id)) n (map name ids) ≡ fold (λ (n id : ℕ). n + count_in (components_of old id)) n ids
  sum_from n [] each = refl
  sum_from n (id ∷ ids) each =
      ap (λ (o : Option Components). fold (λ (n id : ℕ). n + count_in (components_of new id)) (n + count_in o) (map name ids)) (of_alike id each.0)
      ∙ sum_from (n + count_in (components_of old id)) ids each.1

  sum_alike : (ids : List ℕ) → Each (λ id. IsAlike new old (name id) id) ids → sum_by (λ id. count_in (components_of new id)) (map name ids) ≡ sum_by (λ id. count_in (components_of old id)) ids
  sum_alike ids each = sum_from 0 ids each

  -- ---- OpCompositeConstruct

  vector_alike : (of : Component) (count : ℕ) (parts : List ℕ) → Each (λ id. IsAlike new old (name id) id) parts → vector_parts_fit new of count (map name parts) ≡ vector_parts_fit old of count parts
  vector_alike of count parts each =
      ap (λ (n : ℕ). nat_le 2 n && list_all (λ id. is_made_of of (components_of new id)) (map name parts) && (sum_by (λ id. count_in (components_of new id)) (map name parts) == count)) (named_long name parts)
      ∙ ap (λ (b : Bool). nat_le 2 (length parts) && b && (sum_by (λ id. count_in (components_of new id)) (map name parts) == count))
      (all_alike (λ id. is_made_of of (components_of new id)) (λ id. is_made_of of (components_of old id)) (λ id s. ap (is_made_of of) (of_alike id s)) parts each)
      ∙ ap (λ (n : ℕ). nat_le 2 (length parts) && list_all (λ id. is_made_of of (components_of old id)) parts && (n == count)) (sum_alike parts each)

  pairs_alike : (types parts : List ℕ) → Each (λ id. IsAlike new old (name id) id) parts → list_all (λ pair. has_type new pair.0 pair.1) (zip types (map name parts)) ≡ list_all (λ pair. has_type old pair.0 pair.1) (zip types parts)
  pairs_alike [] [] each = refl
  pairs_alike [] (id ∷ parts) each = refl
  pairs_alike (type ∷ types) [] each = refl
  pairs_alike (type ∷ types) (id ∷ parts) each =
      ap (λ (b : Bool). b && list_all (λ pair. has_type new pair.0 pair.1) (zip types (map name parts))) (has_alike new old type (name id) id each.0)
      ∙ ap (λ (b : Bool). has_type old type id && b) (pairs_alike types parts each.1)

  members_alike : (types parts : List ℕ) → Each (λ id. IsAlike new old (name id) id) parts → members_fit new types (map name parts) ≡ members_fit old types parts
  members_alike types parts each =
      ap (λ (n : ℕ). (n == length types) && list_all (λ pair. has_type new pair.0 pair.1) (zip types (map name parts))) (named_long name parts)
      ∙ ap (λ (b : Bool). (length parts == length types) && b) (pairs_alike types parts each)

  array_alike : (element count : ℕ) (parts : List ℕ) → Each (λ id. IsAlike new old (name id) id) parts
      → ((length (map name parts) == count) && list_all (has_type new element) (map name parts)) ≡ ((length parts == count) && list_all (has_type old element) parts)
  array_alike element count parts each =
      ap (λ (n : ℕ). (n == count) && list_all (has_type new element) (map name parts)) (named_long name parts)
      ∙ ap (λ (b : Bool). (length parts == count) && b) (all_alike (has_type new element) (has_type old element) (λ id s. has_alike new old element (name id) id s) parts each)

  shape_alike : (shape : Shape) (parts : List ℕ) → Each (λ id. IsAlike new old (name id) id) parts → parts_fit new (OfShape shape) (map name parts) ≡ parts_fit old (OfShape shape) parts
  shape_alike (BoolVector count) parts each = vector_alike component.Truth count parts each
  shape_alike (IntVector count signed) parts each = vector_alike (component.Integer signed) count parts each
  shape_alike (Array element count) parts each = array_alike element count parts each
  shape_alike (Struct members) parts each = members_alike members.list parts each
  shape_alike other parts each = refl

  parts_by : (typing : Typing) (parts : List ℕ) → ByShape (λ m. parts_fit typing m parts)
  parts_by typing parts (OfShape shape) = refl
  parts_by typing parts m = refl

  of_meaning : (m : Meaning) (parts : List ℕ) → Each (λ id. IsAlike new old (name id) id) parts → parts_fit new m (map name parts) ≡ parts_fit old m parts
  of_meaning (OfShape shape) parts each = shape_alike shape parts each
  of_meaning m parts each = refl

  pub construct_alike : (type : ℕ) (parts : List ℕ) → Each (λ id. IsAlike new old (name id) id) parts → parts_fit new (new.meaning type) (map name parts) ≡ parts_fit old (old.meaning type) parts
  construct_alike type parts each =
      same_shapes (λ m. parts_fit new m (map name parts)) (parts_by new (map name parts)) (new.meaning type) (old.meaning type) (a.shape type) ∙ of_meaning (old.meaning type) parts each

  -- ---- OpCompositeExtract and OpCompositeInsert

  part_alike : (whole : Part) (index : ℕ) → part_of new whole index ≡ part_of old whole index
  part_alike (part.Type type) index = type_says (λ m. part_at m index) (part_by index) new old a type
  part_alike (part.Component of) index = refl

  next_alike : (reached : Option Part) (index : ℕ) → option_and_then (λ whole. part_of new whole index) reached ≡ option_and_then (λ whole. part_of old whole index) reached
  next_alike None index = refl
  next_alike (Some whole) index = part_alike whole index

  along_alike : (reached : Option Part) (indices : List ℕ) → part_along new reached indices ≡ part_along old reached indices
  along_alike reached [] = refl
  along_alike reached (index ∷ indices) =
      along_alike (option_and_then (λ whole. part_of new whole index) reached) indices ∙ ap (λ (o : Option Part). part_along old o indices) (next_alike reached index)

  whole_alike : (id : ℕ) (indices : List ℕ) → IsAlike new old (name id) id → part_along new (whole_of new (name id)) indices ≡ part_along old (whole_of old id) indices
  whole_alike id indices s = ap (λ (o : Option ℕ). part_along new (option_map part.Type o) indices) s.type ∙ along_alike (whole_of old id) indices

  pub extract_alike : (type composite : ℕ) (indices : List ℕ) → IsAlike new old (name composite) composite → extract_fits new type (name composite) indices ≡ extract_fits old type composite indices
  extract_alike type composite indices s = ap (is_of_type new type) (whole_alike composite indices s) ∙ of_type_alike new old name a type (part_along old (whole_of old composite) indices)

  is_of_alike : (type : Option ℕ) (reached : Option Part) → is_of new type reached ≡ is_of old type reached
  is_of_alike None reached = refl
  is_of_alike (Some type) reached = of_type_alike new old name a type reached

  pub insert_alike : (type object composite : ℕ) (indices : List ℕ) → IsAlike new old (name object) object → IsAlike new old (name composite) composite
      → insert_fits new type (name object) (name composite) indices ≡ insert_fits old type object composite indices
  insert_alike type object composite indices s t =
      ap (λ (b : Bool). b && is_of new (type_id (new.meaning (name object))) (part_along new (whole_of new (name composite)) indices)) (has_alike new old type (name composite) composite t)
      ∙ ap (λ (b : Bool). has_type old type composite && b)
      (ap (λ (o : Option ℕ). is_of new o (part_along new (whole_of new (name composite)) indices)) s.type
      ∙ ap (is_of new (type_id (old.meaning object))) (whole_alike composite indices t)
      ∙ is_of_alike (type_id (old.meaning object)) (part_along old (whole_of old composite) indices))

  -- ---- OpVectorShuffle, OpAny and OpAll

  pub shuffle_alike : (type first second : ℕ) (literals : List ℕ) → IsAlike new old (name first) first → IsAlike new old (name second) second
      → shuffle_fits new type (name first) (name second) literals ≡ shuffle_fits old type first second literals
  shuffle_alike type first second literals s t =
      ap (λ (of : Option Components). shuffle_into of (components_of new (name first)) (components_of new (name second)) literals) (type_says components_in components_by new old a type)
      ∙ ap (λ (of : Option Components). shuffle_into (components_in (old.meaning type)) of (components_of new (name second)) literals) (of_alike first s)
      ∙ ap (λ (of : Option Components). shuffle_into (components_in (old.meaning type)) (components_of old first) of literals) (of_alike second t)

  pub reduction_alike : (type vector : ℕ) → IsAlike new old (name vector) vector → reduction_fits new type (name vector) ≡ reduction_fits old type vector
  reduction_alike type vector s =
      ap (λ (b : Bool). b && is_truth_vector (type_of new (name vector))) (type_says is_bool bool_by new old a type)
      ∙ ap (λ (b : Bool). is_bool (old.meaning type) && b) (says_alike is_truth_vector truth_vector_by new old a (name vector) vector s)
