-- What a unit is for.
use Rattle.std.specs.Prelude.{ℕ, zero, suc, List, [], ◌∷◌, ◌++◌, map}

pub data Subject : Type 0 where
  library : ℕ → Subject
  pair : List ℕ → Subject

-- the subjects of all units: the libraries, and the pairs of the keys that may be asked
abbrev pub libraries_below : ℕ → List Subject
libraries_below zero = []
libraries_below (suc n) = library n ∷ libraries_below n

abbrev pub all_subjects : ℕ → List (List ℕ) → List Subject
all_subjects libraries asked = libraries_below libraries ++ map pair asked
