-- Attributes by their locations.
use Rattle.std.proofs.Common.{◌≡◌, ℕ, ◌==◌, Bool, ◌||◌, List, [], ◌∷◌, refl, ap}
use Rattle.std.specs.Prelude.{map}
use Rattle.std.specs.List.{list_any}
use Rattle.body_model.specs.Switches.{is_among}
use Rattle.trace_model.specs.Lines.{LocatedAttribute}

pub locations_among : (location : ℕ) (attributes : List LocatedAttribute)
    → is_among location (map (λ a. a.location) attributes) ≡ list_any (λ a. a.location == location) attributes
locations_among location [] = refl
locations_among location (a ∷ attributes) = ap (λ (b : Bool). (a.location == location) || b) (locations_among location attributes)
