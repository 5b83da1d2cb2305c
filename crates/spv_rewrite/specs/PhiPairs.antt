-- The pairs of a phi that are left.
use Rattle.std.specs.Prelude.{ℕ, ◌==◌, Bool, true, false, if◌then◌else◌, List, [], ◌∷◌, Option, None, Some}
use Rattle.change_model.specs.declared.fate.Fate.{Fate}
use Rattle.change_model.specs.declared.fate.Fate.TheVariants.{Dead, Goes, Picks}
use Rattle.change_model.specs.Plans.{fate_in}

-- a terminator that leads to a label still does, where it has this fate
abbrev pub still_leads : ℕ → Fate → Bool
still_leads label Dead = false
still_leads label (Goes target) = target == label
still_leads label (Picks target) = target == label
still_leads label fate = true

-- a block that ends at a place, if it ends at all, still leads to the label
abbrev pub is_left : List Fate → ℕ → Option ℕ → Bool
is_left fates label None = false
is_left fates label (Some end) = still_leads label (fate_in fates end)

-- the pairs whose blocks have a property, with other names for the values
abbrev pub pairs_by : (ℕ → ℕ) → (ℕ → Bool) → List ℕ → List ℕ
pairs_by name stays [] = []
pairs_by name stays (value ∷ []) = []
pairs_by name stays (value ∷ block ∷ words) =
    if stays block then name value ∷ block ∷ pairs_by name stays words else pairs_by name stays words
