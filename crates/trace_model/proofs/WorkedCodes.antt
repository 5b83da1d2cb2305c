-- Lines `code`, as they are printed and as they are read, by computing.
use Rattle.std.proofs.Common.{◌≡◌, [], ◌∷◌, codes, refl}
use Rattle.std.specs.Prelude.{Some}
use Rattle.trace_model.specs.declared.whole.Version.TheVariants.{First}
use Rattle.trace_model.specs.CodeText.{code_text}
use Rattle.trace_model.specs.LineForms.{line_of}
use Rattle.trace_model.specs.Lines.{code_line}
use Rattle.trace_model.specs.SetupLines.{code_form}

pub no_words : code_text [] ≡ codes "code\n"
unfolding code_text
no_words = refl

pub three_words : code_text (119734787 ∷ 0 ∷ 4294967295 ∷ []) ≡ codes "code 07230203 00000000 ffffffff\n"
unfolding code_text
three_words = refl

pub three_words-read : line_of First (codes "code 07230203 00000000 ffffffff") ≡ Some (code_line (119734787 ∷ 0 ∷ 4294967295 ∷ []))
unfolding line_of code_form
three_words-read = refl
