-- Modules that say the same of decorations and types judge variables alike.
use Rattle.std.proofs.Common.{◌≡◌, ℕ, ◌+◌, ◌==◌, ◌&&◌, ◌||◌, not, Bool, List, [], ◌∷◌, refl, ap, sym, ◌∙◌, Option, None, Some}
use Rattle.std.specs.Prelude.{is_some}
use Rattle.spirv_model.specs.declared.decoration.TheConstants.{BLOCK, ARRAY_STRIDE, BUILT_IN, LOCATION, BINDING, DESCRIPTOR_SET}
use Rattle.spirv_model.specs.declared.execution_model.TheConstants.{VERTEX}
use Rattle.spirv_model.specs.declared.builtin.TheConstants as builtin
use Rattle.spirv_model.specs.declared.storage_class.TheConstants as storage_class
use Rattle.valid_model.specs.declared.meaning.Shape.{Shape}
use Rattle.valid_model.specs.declared.meaning.Shape.TheVariants.{Array, Struct}
use Rattle.valid_model.specs.declared.meaning.Meaning.{Meaning}
use Rattle.valid_model.specs.declared.meaning.Meaning.TheVariants.{Absent, Shape as OfShape, Constant, Variable, Value as OfValue, Label, Other}
use Rattle.valid_model.specs.Blocks.{is_block_member, is_multiple_of_four, is_stride, is_laid_out, are_laid_out, is_block_type, is_block, points_to_block}
use Rattle.valid_model.specs.BuiltIns.{is_built_in, takes_built_in}
use Rattle.valid_model.specs.EarlierFacts.{EarlierFacts}
use Rattle.valid_model.specs.ModuleFacts.{ModuleFacts, is_decorated, is_vertex, is_word, has_position}
use Rattle.valid_model.specs.Shapes.{is_integers, is_array, pointee_id, pointee, held_type}
use Rattle.valid_model.specs.Variables.{lacks_place, bad_interface, bad_location, bad_slot, bad_uniform, bad_push, second_position, bad_variable}
use Rattle.change_model.proofs.ChangedShapes.{shape_in, SaySame}

-- ---- what tells nothing but types

some_shape : (a b : Shape) → ◌≡◌ {A = Option Shape} (Some a) (Some b) → a ≡ b
some_shape a b is = cc

-- a function that says the same of all that is no type
pub record TellsTypes {R : Type 0} (f : Meaning → R) : Type 0 where
  pub constant : (type : ℕ) → f (Constant type) ≡ f Absent
  pub variable : (type class : ℕ) → f (Variable type class) ≡ f Absent
  pub value : (type : ℕ) → f (OfValue type) ≡ f Absent
  pub label : f Label ≡ f Absent
  pub other : f Other ≡ f Absent

to_shape : {R : Type 0} (f : Meaning → R) → TellsTypes f → (m : Meaning) (found : Option Shape) → shape_in m ≡ found → f m ≡ elim found [ None ↦ f Absent | Some shape ↦ f (OfShape shape) ]
to_shape f t Absent None is = refl
to_shape f t Absent (Some shape) is = cc
to_shape f t (OfShape own) None is = cc
to_shape f t (OfShape own) (Some shape) is = ap (λ (s : Shape). f (OfShape s)) (some_shape own shape is)
to_shape f t (Constant type) None is = t.constant type
to_shape f t (Constant type) (Some shape) is = cc
to_shape f t (Variable type class) None is = t.variable type class
to_shape f t (Variable type class) (Some shape) is = cc
to_shape f t (OfValue type) None is = t.value type
to_shape f t (OfValue type) (Some shape) is = cc
to_shape f t Label None is = t.label
to_shape f t Label (Some shape) is = cc
to_shape f t Other None is = t.other
to_shape f t Other (Some shape) is = cc

pub same_told : {R : Type 0} (f : Meaning → R) → TellsTypes f → (a b : Meaning) → shape_in a ≡ shape_in b → f a ≡ f b
same_told f t a b is = to_shape f t a (shape_in b) is ∙ sym (to_shape f t b (shape_in b) refl)

tells_pointee : TellsTypes pointee_id
tells_pointee = record { constant = λ type. refl; variable = λ type class. refl; value = λ type. refl; label = refl; other = refl }

tells_integers : TellsTypes is_integers
tells_integers = record { constant = λ type. refl; variable = λ type class. refl; value = λ type. refl; label = refl; other = refl }

tells_array : TellsTypes is_array
tells_array = record { constant = λ type. refl; variable = λ type class. refl; value = λ type. refl; label = refl; other = refl }

-- ---- what variables hold

pub held_same : (new old : ModuleFacts) → SaySame new old → (type : ℕ) → shape_in (held_type new type) ≡ shape_in (held_type old type)
held_same new old s type =
    ap (λ (to : Option ℕ). shape_in (pointee new to)) (same_told pointee_id tells_pointee (new.meaning type) (old.meaning type) (s.shape type))
    ∙ pointed (pointee_id (old.meaning type))
  where
    pointed : (to : Option ℕ) → shape_in (pointee new to) ≡ shape_in (pointee old to)
    pointed None = refl
    pointed (Some to) = s.shape to

-- ---- blocks

member_by : (new old : ModuleFacts) → SaySame new old → (m : Meaning) → is_block_member new m ≡ is_block_member old m
member_by new old s (OfShape (Array element length)) = same_told is_integers tells_integers (new.meaning element) (old.meaning element) (s.shape element)
member_by new old s m = refl

member_same : (new old : ModuleFacts) → SaySame new old → (type : ℕ) → is_block_member new (new.meaning type) ≡ is_block_member old (old.meaning type)
member_same new old s type =
    same_told (is_block_member new) (record { constant = λ type. refl; variable = λ type class. refl; value = λ type. refl; label = refl; other = refl }) (new.meaning type) (old.meaning type) (s.shape type)
    ∙ member_by new old s (old.meaning type)

laid_out : (new old : ModuleFacts) → SaySame new old → (id member type : ℕ) → is_laid_out new id member type ≡ is_laid_out old id member type
laid_out new old s id member type =
    ap (λ (b : Bool). b && is_multiple_of_four (new.offset id member) && (not (is_array (new.meaning type)) || is_stride (new.decoration type ARRAY_STRIDE))) (member_same new old s type)
    ∙ ap (λ (o : ℕ → ℕ → Option ℕ). is_block_member old (old.meaning type) && is_multiple_of_four (o id member) && (not (is_array (new.meaning type)) || is_stride (new.decoration type ARRAY_STRIDE))) s.offset
    ∙ ap (λ (b : Bool). is_block_member old (old.meaning type) && is_multiple_of_four (old.offset id member) && (not b || is_stride (new.decoration type ARRAY_STRIDE)))
    (same_told is_array tells_array (new.meaning type) (old.meaning type) (s.shape type))
    ∙ ap (λ (d : ℕ → ℕ → Option ℕ). is_block_member old (old.meaning type) && is_multiple_of_four (old.offset id member) && (not (is_array (old.meaning type)) || is_stride (d type ARRAY_STRIDE))) s.decoration

all_laid_out : (new old : ModuleFacts) → SaySame new old → (id member : ℕ) (types : List ℕ) → are_laid_out new id member types ≡ are_laid_out old id member types
all_laid_out new old s id member [] = refl
all_laid_out new old s id member (type ∷ types) =
    ap (λ (b : Bool). b && are_laid_out new id (member + 1) types) (laid_out new old s id member type)
    ∙ ap (λ (b : Bool). is_laid_out old id member type && b) (all_laid_out new old s id (member + 1) types)

block_by : (new old : ModuleFacts) → SaySame new old → (id : ℕ) (m : Meaning) → is_block_type new id m ≡ is_block_type old id m
block_by new old s id (OfShape (Struct members)) =
    ap (λ (d : ℕ → ℕ → Option ℕ). is_some (d id BLOCK) && are_laid_out new id 0 members.list) s.decoration
    ∙ ap (λ (b : Bool). is_decorated old id BLOCK && b) (all_laid_out new old s id 0 members.list)
block_by new old s id m = refl

block_same : (new old : ModuleFacts) → SaySame new old → (to : Option ℕ) → is_block new to ≡ is_block old to
block_same new old s None = refl
block_same new old s (Some id) =
    same_told (is_block_type new id) (record { constant = λ type. refl; variable = λ type class. refl; value = λ type. refl; label = refl; other = refl }) (new.meaning id) (old.meaning id) (s.shape id)
    ∙ block_by new old s id (old.meaning id)

points_same : (new old : ModuleFacts) → SaySame new old → (type : ℕ) → points_to_block new type ≡ points_to_block old type
points_same new old s type =
    ap (is_block new) (same_told pointee_id tells_pointee (new.meaning type) (old.meaning type) (s.shape type)) ∙ block_same new old s (pointee_id (old.meaning type))

-- ---- variables

pub location_same : (new old : ModuleFacts) → SaySame new old → (id type : ℕ) → bad_location new id type ≡ bad_location old id type
location_same new old s id type =
    ap (λ (d : ℕ → ℕ → Option ℕ). is_some (d id LOCATION) && not (is_integers (held_type new type))) s.decoration
    ∙ ap (λ (b : Bool). is_decorated old id LOCATION && not b) (same_told is_integers tells_integers (held_type new type) (held_type old type) (held_same new old s type))

pub position_same : (new old : ModuleFacts) → SaySame new old → (id : ℕ) → has_position new id ≡ has_position old id
position_same new old s id = ap (λ (d : ℕ → ℕ → Option ℕ). is_word builtin.POSITION (d id BUILT_IN)) s.decoration

pub variable_judged : (new old : ModuleFacts) → SaySame new old → (before : EarlierFacts) (type id class : ℕ) → bad_variable new before type id class ≡ bad_variable old before type id class
unfolding bad_variable
variable_judged new old s before type id class = five interface (location_same new old s id type) uniform push position
  where
    five : {a b c d e a' b' c' d' e' : Bool} → a ≡ a' → b ≡ b' → c ≡ c' → d ≡ d' → e ≡ e' → (a || b || c || d || e) ≡ (a' || b' || c' || d' || e')
    five p q r s t = cc

    interface : bad_interface new id class ≡ bad_interface old id class
    interface = ap (λ (d : ℕ → ℕ → Option ℕ). ((class == storage_class.INPUT) || (class == storage_class.OUTPUT)) && lacks_place (is_some (d id LOCATION)) (is_some (d id BUILT_IN))) s.decoration

    uniform : bad_uniform new before type id class ≡ bad_uniform old before type id class
    uniform =
        ap (λ (d : ℕ → ℕ → Option ℕ). (class == storage_class.UNIFORM) && (bad_slot before (d id DESCRIPTOR_SET) (d id BINDING) || not (points_to_block new type))) s.decoration
        ∙ ap (λ (b : Bool). (class == storage_class.UNIFORM) && (bad_slot before (old.decoration id DESCRIPTOR_SET) (old.decoration id BINDING) || not b)) (points_same new old s type)

    push : bad_push new before type class ≡ bad_push old before type class
    push = ap (λ (b : Bool). (class == storage_class.PUSH_CONSTANT) && (before.push || not b)) (points_same new old s type)

    position : second_position new before id ≡ second_position old before id
    position = ap (λ (b : Bool). b && before.position) (position_same new old s id)

-- ---- built-ins

built_in_told : (number : ℕ) (vertex : Bool) (class : ℕ) → TellsTypes (is_built_in number vertex class)
built_in_told number vertex class = record { constant = λ type. refl; variable = λ type class. refl; value = λ type. refl; label = refl; other = refl }

-- a variable of the module's level takes the same built-ins
pub built_in_same : (new old : ModuleFacts) → SaySame new old → (number : ℕ) (m : Meaning) → takes_built_in new number m ≡ takes_built_in old number m
built_in_same new old s number (Variable type class) =
    ap (λ (v : Option ℕ). is_built_in number (is_word VERTEX v) class (held_type new type)) s.model
    ∙ same_told (is_built_in number (is_vertex old) class) (built_in_told number (is_vertex old) class) (held_type new type) (held_type old type) (held_same new old s type)
built_in_same new old s number Absent = refl
built_in_same new old s number (OfShape shape) = refl
built_in_same new old s number (Constant type) = refl
built_in_same new old s number (OfValue type) = refl
built_in_same new old s number Label = refl
built_in_same new old s number Other = refl
