-- What reading a line gives.
use Rattle.std.specs.Prelude.{◌≡◌, ℕ, Bool, MatchBool, List, drop, Result, Ok, Err}
use Rattle.spirv_model.specs.declared.module.Inst.{Inst}
use Rattle.listing_model.specs.declared.fault.TextCause.{TextCause}
use Rattle.listing_model.specs.Assembly.{first_gives, head_gives, is_memory, line_gives, lines_in}

-- the first line gives the id bound, and the lines after it are left
abbrev pub HeadGives : Result ℕ TextCause → List (List ℕ) → List (List ℕ) → Type 0
HeadGives (Ok bound) old new = (first_gives (lines_in old) ≡ Ok bound) × (drop 1 (lines_in old) ≡ lines_in new)
HeadGives (Err cause) old new = MatchBool (is_memory cause) (Unit {0}) (first_gives (lines_in old) ≡ Err cause)

-- the id bound of a first line with this text, or the first cause for which it is faulty
abbrev pub head_in : List ℕ → Bool → Result ℕ TextCause
head_in text ended = head_gives (record { text = text; ended = ended })

-- the instruction of a line with this text behind so many words, or the first cause for which the line is faulty
abbrev pub inst_in : ℕ → List ℕ → Bool → Result Inst TextCause
inst_in before text ended = line_gives before (record { text = text; ended = ended })
