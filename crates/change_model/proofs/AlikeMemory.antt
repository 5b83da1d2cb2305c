-- Loads, stores and chains whose operands are alike fit in the one module if they fit in the other.
use Rattle.std.proofs.Common.{◌≡◌, ℕ, ◌==◌, ◌&&◌, Bool, true, false, if◌then◌else◌, List, [], ◌∷◌, map, refl, ap, ◌∙◌, Option, None, Some}
use Rattle.std.specs.Option.{option_map, option_and_then}
use Rattle.valid_model.specs.declared.meaning.Shape.{Shape}
use Rattle.valid_model.specs.declared.meaning.Shape.TheVariants.{Void, Bool as OneBool, Int, BoolVector, IntVector, Array, Struct, Pointer, Function}
use Rattle.valid_model.specs.declared.meaning.Meaning.{Meaning}
use Rattle.valid_model.specs.declared.meaning.Meaning.TheVariants.{Shape as OfShape, Variable}
use Rattle.valid_model.specs.Knowledge.{is_integer}
use Rattle.valid_model.specs.ModuleFacts.{is_word}
use Rattle.valid_model.specs.Shapes.{pointee_id}
use Rattle.check_model.specs.declared.components.Component.TheVariants as component
use Rattle.check_model.specs.declared.components.Part.{Part}
use Rattle.check_model.specs.declared.components.Part.TheVariants as part
use Rattle.check_model.specs.CompositeOperands.{is_scalar_of, is_of_type}
use Rattle.check_model.specs.MemoryOperands.{load_fits, is_object_of, store_fits, indexed, member_at, chain_part, chain_step, chain_along, is_pointer_to, chain_fits}
use Rattle.check_model.specs.Typing.{Typing, type_of, components_in}
use Rattle.typed_model.proofs.ReadTypes.{Each}
use Rattle.change_model.proofs.AlikeTypes.{AreAlike, IsAlike, ByShape, same_shapes, integer_by, components_by, pointee_by, says_alike, type_says, has_alike}

module _ (new old : Typing) (name : ℕ → ℕ) (a : AreAlike new old) where
  -- ---- loads and stores

  pub load_alike : (type pointer : ℕ) → IsAlike new old (name pointer) pointer → load_fits new type (name pointer) ≡ load_fits old type pointer
  load_alike type pointer s = ap (is_word type) (says_alike pointee_id pointee_by new old a (name pointer) pointer s)

  object_alike : (to : Option ℕ) (object : ℕ) → IsAlike new old (name object) object → is_object_of new to (name object) ≡ is_object_of old to object
  object_alike None object s = refl
  object_alike (Some type) object s = has_alike new old type (name object) object s

  pub store_alike : (pointer object : ℕ) → IsAlike new old (name pointer) pointer → IsAlike new old (name object) object → store_fits new (name pointer) (name object) ≡ store_fits old pointer object
  store_alike pointer object s t =
      ap (λ (to : Option ℕ). is_object_of new to (name object)) (says_alike pointee_id pointee_by new old a (name pointer) pointer s)
      ∙ object_alike (pointee_id (type_of old pointer)) object t

  -- ---- parts of a type

  pub of_type_alike : (type : ℕ) (reached : Option Part) → is_of_type new type reached ≡ is_of_type old type reached
  of_type_alike type None = refl
  of_type_alike type (Some (part.Type own)) = refl
  of_type_alike type (Some (part.Component component)) = ap (is_scalar_of component) (type_says components_in components_by new old a type)

  -- ---- chains

  -- what the old chain leads to, the new one leads to
  abbrev LeadsAs : Option Part → Option Part → Type 0
  LeadsAs more less = (reached : Part) → less ≡ Some reached → more ≡ Some reached

  indexed_alike : (index : ℕ) → IsAlike new old (name index) index → (reached : Part) → indexed new (name index) reached ≡ indexed old index reached
  indexed_alike index s reached = ap (λ (b : Bool). if b then Some reached else None) (says_alike is_integer integer_by new old a (name index) index s)

  member_alike : (members : List ℕ) (more less : Option ℕ) → ((word : ℕ) → less ≡ Some word → more ≡ Some word) → LeadsAs (member_at members more) (member_at members less)
  member_alike members more None known reached is = cc
  member_alike members more (Some word) known reached is = ap (member_at members) (known word refl) ∙ is

  shape_alike : (shape : Shape) (index : ℕ) → IsAlike new old (name index) index → LeadsAs (chain_part new (OfShape shape) (name index)) (chain_part old (OfShape shape) index)
  shape_alike (BoolVector count) index s reached is = indexed_alike index s (part.Component component.Truth) ∙ is
  shape_alike (IntVector count signed) index s reached is = indexed_alike index s (part.Component (component.Integer signed)) ∙ is
  shape_alike (Array element count) index s reached is = indexed_alike index s (part.Type element) ∙ is
  shape_alike (Struct members) index s reached is = member_alike members.list (new.constant (name index)) (old.constant index) s.number reached is
  shape_alike Void index s reached is = cc
  shape_alike OneBool index s reached is = cc
  shape_alike (Int signed) index s reached is = cc
  shape_alike (Pointer class to) index s reached is = cc
  shape_alike Function index s reached is = cc

  chain_by : (typing : Typing) (index : ℕ) → ByShape (λ m. chain_part typing m index)
  chain_by typing index (OfShape shape) = refl
  chain_by typing index m = refl

  part_alike : (m : Meaning) (index : ℕ) → IsAlike new old (name index) index → LeadsAs (chain_part new m (name index)) (chain_part old m index)
  part_alike (OfShape shape) index s reached is = shape_alike shape index s reached is
  part_alike m index s reached is = cc

  step_alike : (index : ℕ) → IsAlike new old (name index) index → (at : Part) → LeadsAs (chain_step new (name index) at) (chain_step old index at)
  step_alike index s (part.Type type) reached is =
      same_shapes (λ m. chain_part new m (name index)) (chain_by new (name index)) (new.meaning type) (old.meaning type) (a.shape type) ∙ part_alike (old.meaning type) index s reached is
  step_alike index s (part.Component component) reached is = cc

  then_alike : (index : ℕ) → IsAlike new old (name index) index → (more less : Option Part) → LeadsAs more less → LeadsAs (option_and_then (chain_step new (name index)) more) (option_and_then (chain_step old index) less)
  then_alike index s more None leads reached is = cc
  then_alike index s more (Some at) leads reached is = ap (option_and_then (chain_step new (name index))) (leads at refl) ∙ step_alike index s at reached is

  along_alike : (indices : List ℕ) → Each (λ index. IsAlike new old (name index) index) indices → (more less : Option Part) → LeadsAs more less → LeadsAs (chain_along new more (map name indices)) (chain_along old less indices)
  along_alike [] each more less leads = leads
  along_alike (index ∷ indices) each more less leads = along_alike indices each.1 _ _ (then_alike index each.0 more less leads)

  -- to a pointer of the class
  leads_pointer : (class storage to : ℕ) (more less : Option Part) → LeadsAs more less → ((class == storage) && is_of_type old to less) ≡ true → ((class == storage) && is_of_type new to more) ≡ true
  leads_pointer class storage to more None leads is = none (class == storage) is
    where
      none : (b : Bool) → (b && false) ≡ true → ((class == storage) && is_of_type new to more) ≡ true
      none true is = cc
      none false is = cc
  leads_pointer class storage to more (Some reached) leads is =
      ap (λ (o : Option Part). (class == storage) && is_of_type new to o) (leads reached refl) ∙ ap (λ (b : Bool). (class == storage) && b) (of_type_alike to (Some reached)) ∙ is

  pointer_to_by : (typing : Typing) (storage : ℕ) (reached : Option Part) → ByShape (λ m. is_pointer_to typing m storage reached)
  pointer_to_by typing storage reached (OfShape shape) = refl
  pointer_to_by typing storage reached m = refl

  pointer_alike : (m : Meaning) (storage : ℕ) (more less : Option Part) → LeadsAs more less → is_pointer_to old m storage less ≡ true → is_pointer_to new m storage more ≡ true
  pointer_alike (OfShape (Pointer class to)) storage more less leads is = leads_pointer class storage to more less leads is
  pointer_alike m storage more less leads is = cc

  chain_by_base : (type base : ℕ) (indices : List ℕ) → Each (λ index. IsAlike new old (name index) index) indices → (m : Meaning) → ((type class : ℕ) → m ≡ Variable type class → new.meaning (name base) ≡ Variable type class)
      → chain_fits old type m indices ≡ true → chain_fits new type (new.meaning (name base)) (map name indices) ≡ true
  chain_by_base type base indices each (Variable held storage) variable fits =
      ap (λ (m : Meaning). chain_fits new type m (map name indices)) (variable held storage refl)
      ∙ same_shapes (λ m. is_pointer_to new m storage (chain_along new (option_map part.Type (pointee_id (new.meaning held))) (map name indices)))
      (pointer_to_by new storage (chain_along new (option_map part.Type (pointee_id (new.meaning held))) (map name indices))) (new.meaning type) (old.meaning type) (a.shape type)
      ∙ pointer_alike (old.meaning type) storage _ _
      (along_alike indices each (option_map part.Type (pointee_id (new.meaning held))) (option_map part.Type (pointee_id (old.meaning held)))
      (λ reached is. ap (option_map part.Type) (type_says pointee_id pointee_by new old a held) ∙ is)) fits
  chain_by_base type base indices each m variable fits = cc

  pub chain_alike : (type base : ℕ) (indices : List ℕ) → IsAlike new old (name base) base → Each (λ index. IsAlike new old (name index) index) indices
      → chain_fits old type (old.meaning base) indices ≡ true → chain_fits new type (new.meaning (name base)) (map name indices) ≡ true
  chain_alike type base indices s each fits = chain_by_base type base indices each (old.meaning base) s.variable fits
