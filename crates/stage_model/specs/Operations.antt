-- The results of operations on values (SPIR-V specification, sections 3.49.11 to 3.49.15, and 3.49.12 "Composite Instructions").
use Rattle.std.specs.Prelude.{ℕ, zero, suc, ◌+◌, ◌-◌, ◌^◌, ◌==◌, Bool, true, false, ◌&&◌, ◌||◌, nat_lt, if◌then◌else◌, List, [], ◌∷◌, ◌++◌, length, take, drop, map, slice_get, Option, None, Some}
use Rattle.std.specs.Option.{option_map, option_and_then}
use Rattle.std.specs.List.{flat_map}
use Rattle.valid_model.specs.declared.meaning.Shape.TheVariants.{BoolVector, IntVector}
use Rattle.valid_model.specs.declared.meaning.Meaning.{Meaning}
use Rattle.valid_model.specs.declared.meaning.Meaning.TheVariants.{Shape as OfShape}
use Rattle.spirv_model.specs.declared.op.TheConstants.{ANY, ALL, SELECT}
use Rattle.stage_model.specs.Value.{Value, Truth, Word, Composite, Pointer, Outside, Parts, NoParts, PartsOf, list_of, parts_from}
use Rattle.stage_model.specs.Start.{scalar_value}

-- ---- composites

-- the parts of a composite; anything else has none
abbrev pub parts_in : Value → List Value
parts_in (Composite parts) = list_of parts
parts_in value = []

abbrev pub composite : List Value → Value
composite values = Composite (parts_from values)

-- the part to which these indices lead
abbrev pub extracted : List ℕ → Value → Option Value
extracted [] value = Some value
extracted (index ∷ indices) value = option_and_then (extracted indices) (slice_get (parts_in value) index)

-- values with the one at an index put for another, if there is one
abbrev pub replaced : ℕ → Option Value → List Value → Option (List Value)
replaced index None values = None
replaced index (Some value) values = if nat_lt index (length values) then Some (take index values ++ value ∷ drop (index + 1) values) else None

-- the value with an object put where these indices lead
abbrev pub inserted : Value → List ℕ → Value → Option Value
inserted object [] value = Some object
inserted object (index ∷ indices) value =
    option_map composite (replaced index (option_and_then (inserted object indices) (slice_get (parts_in value) index)) (parts_in value))

abbrev pub is_vector : Meaning → Bool
is_vector (OfShape (BoolVector count)) = true
is_vector (OfShape (IntVector count signed)) = true
is_vector meaning = false

-- the components of a scalar or a vector
abbrev pub components_of : Value → List Value
components_of (Composite parts) = list_of parts
components_of value = value ∷ []

-- a composite of parts: a vector takes the components of its parts one after another
abbrev pub constructed : Bool → List Value → Value
constructed is_vector values = composite (if is_vector then flat_map components_of values else values)

-- the zero of a scalar's type
abbrev pub zero_like : Value → Value
zero_like (Truth b) = Truth false
zero_like value = Word 0

-- a component of two vectors, one behind the other; zero for the literal ffffffff
abbrev pub shuffled_component : List Value → ℕ → Option Value
shuffled_component components literal =
    if literal == 2 ^ 32 - 1 then option_map zero_like (slice_get components 0) else slice_get components literal

abbrev pub all_of : List (Option Value) → Option (List Value)
all_of [] = Some []
all_of (value ∷ values) = option_and_then (λ first. option_map (λ rest. first ∷ rest) (all_of values)) value

abbrev pub shuffled : Value → Value → List ℕ → Option Value
shuffled first second literals =
    option_map composite (all_of (map (shuffled_component (parts_in first ++ parts_in second)) literals))

-- ---- operations, component by component

abbrev pub is_composite : Value → Bool
is_composite (Composite parts) = true
is_composite value = false

-- an operation on one value, two or three, each component by itself
abbrev pub on_each : ℕ → List Value → Option (List Value)
on_each opcode [] = Some []
on_each opcode (a ∷ xs) = option_and_then (λ first. option_map (λ rest. first ∷ rest) (on_each opcode xs)) (scalar_value opcode (a ∷ []))

abbrev pub on_pairs : ℕ → List Value → List Value → Option (List Value)
on_pairs opcode [] [] = Some []
on_pairs opcode (a ∷ xs) (b ∷ ys) =
    option_and_then (λ first. option_map (λ rest. first ∷ rest) (on_pairs opcode xs ys)) (scalar_value opcode (a ∷ b ∷ []))
on_pairs opcode xs ys = None

abbrev pub chosen : Bool → Value → Value → Value
chosen true on_true on_false = on_true
chosen false on_true on_false = on_false

-- OpSelect with a condition for each component
abbrev pub selected_components : List Value → List Value → List Value → Option (List Value)
selected_components [] [] [] = Some []
selected_components (Truth condition ∷ conditions) (a ∷ xs) (b ∷ ys) =
    option_map (λ rest. chosen condition a b ∷ rest) (selected_components conditions xs ys)
selected_components conditions xs ys = None

-- some component is true, or all are
abbrev pub any_true : List Value → Option Bool
any_true [] = Some false
any_true (Truth b ∷ values) = option_map (λ rest. b || rest) (any_true values)
any_true (value ∷ values) = None

abbrev pub all_true : List Value → Option Bool
all_true [] = Some true
all_true (Truth b ∷ values) = option_map (λ rest. b && rest) (all_true values)
all_true (value ∷ values) = None

-- the result of an operation on scalars or vectors
unfoldable pub operation : ℕ → List Value → Option Value
operation opcode (Composite parts ∷ []) =
    if opcode == ANY then option_map Truth (any_true (list_of parts))
    else if opcode == ALL then option_map Truth (all_true (list_of parts))
    else option_map composite (on_each opcode (list_of parts))
operation opcode (Composite xs ∷ Composite ys ∷ []) = option_map composite (on_pairs opcode (list_of xs) (list_of ys))
operation opcode (Truth condition ∷ a ∷ b ∷ []) = if opcode == SELECT then Some (chosen condition a b) else None
operation opcode (Composite conditions ∷ Composite xs ∷ Composite ys ∷ []) =
    if opcode == SELECT then option_map composite (selected_components (list_of conditions) (list_of xs) (list_of ys)) else None
operation opcode values = scalar_value opcode values
