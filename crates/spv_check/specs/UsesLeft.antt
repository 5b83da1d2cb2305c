-- The ids that are left of those that an instruction uses.
use Rattle.std.specs.Prelude.{ℕ, List, [], ◌∷◌, Option, None, Some}

-- the ids behind the first one, if there are any
abbrev pub behind_first : Option (List ℕ) → List ℕ
behind_first None = []
behind_first (Some ids) = ids

abbrev pub uses_left : Option ℕ → Option (List ℕ) → List ℕ
uses_left None others = behind_first others
uses_left (Some id) others = id ∷ behind_first others
