-- What shapes types have, and what variables hold.
use Rattle.std.specs.Prelude.{ℕ, Bool, true, false, ◌&&◌, ◌==◌, Option, None, Some}
use Rattle.valid_model.specs.declared.meaning.Meaning.{Meaning}
use Rattle.valid_model.specs.declared.meaning.Meaning.TheVariants.{Absent, Shape as OfShape}
use Rattle.valid_model.specs.declared.meaning.Shape.TheVariants.{Int, IntVector, Array, Pointer}
use Rattle.valid_model.specs.ModuleFacts.{ModuleFacts}

-- an integer or a vector of integers
abbrev pub is_integers : Meaning → Bool
is_integers (OfShape (Int signed)) = true
is_integers (OfShape (IntVector count signed)) = true
is_integers type = false

abbrev pub is_array : Meaning → Bool
is_array (OfShape (Array element length)) = true
is_array type = false

-- four signed integers
abbrev pub is_position_type : Meaning → Bool
is_position_type (OfShape (IntVector count signed)) = (count == 4) && signed
is_position_type type = false

-- the type that a pointer type points to
abbrev pub pointee_id : Meaning → Option ℕ
pointee_id (OfShape (Pointer class to)) = Some to
pointee_id type = None

abbrev pub pointee : ModuleFacts → Option ℕ → Meaning
pointee facts None = Absent
pointee facts (Some to) = facts.meaning to

-- the type of what a variable of this type holds
abbrev pub held_type : ModuleFacts → ℕ → Meaning
held_type facts type = pointee facts (pointee_id (facts.meaning type))
