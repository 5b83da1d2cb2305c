-- The line of a trace that gives a module.
use Rattle.std.specs.Prelude.{ℕ, List, ◌∷◌, ◌++◌, codes}
use Rattle.std.specs.List.{flat_map}
use Rattle.trace_model.specs.Text.{word_text}

-- a word after one space
abbrev pub word_field : ℕ → List ℕ
word_field word = 32 ∷ word_text word

-- these words as a line `code`
unfoldable pub code_text : List ℕ → List ℕ
code_text words = codes "code" ++ flat_map word_field words ++ codes "\n"
