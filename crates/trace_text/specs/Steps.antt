-- Numbers of objects that steps name.
use Rattle.std.specs.Prelude.{ℕ, Bool, true, false, nat_le, if◌then◌else◌, List, [], ◌∷◌, Option, None, Some}
use Rattle.std.specs.List.{list_any}
use Rattle.draw_model.specs.declared.framebuffer.Target.{Target}
use Rattle.trace_model.specs.ObjectCauses.{lacks_sort, is_depth, is_colour}

-- the number of one of so many objects, or none
abbrev pub found : ℕ → Option ℕ → Option (Option ℕ)
found count None = Some None
found count (Some number) = if nat_le count number then None else Some (Some number)

abbrev pub of_sort : Bool → ℕ → Bool
of_sort true format = is_depth format
of_sort false format = is_colour format

-- the number of a target of a sort, or none
abbrev pub target_found : (ℕ → Bool) → List (ℕ × Target) → Option ℕ → Option (Option ℕ)
target_found sort targets number = if lacks_sort sort targets number then None else Some number

-- the numbers, if each that is there is that of a colour target
abbrev pub colours_found : List (ℕ × Target) → List (Option ℕ) → Option (List (Option ℕ))
colours_found targets numbers = if list_any (lacks_sort is_colour targets) numbers then None else Some numbers

-- the first number, if it is that of a depth target
abbrev pub depth_found : List (ℕ × Target) → List (Option ℕ) → Option (Option ℕ)
depth_found targets [] = Some None
depth_found targets (number ∷ numbers) = target_found is_depth targets number
