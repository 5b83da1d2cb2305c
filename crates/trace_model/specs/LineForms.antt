-- The lines that a trace may have after its first: a table of their first fields, each with the form of what follows.
use Rattle.std.specs.Prelude.{ℕ, bytes_eq, if◌then◌else◌, List, [], ◌∷◌, codes, Option, None, Some}
use Rattle.std.specs.List.{find}
use Rattle.trace_model.specs.declared.whole.Version.{Version}
use Rattle.trace_model.specs.declared.whole.Version.TheVariants.{First, Second}
use Rattle.trace_model.specs.Text.{◌>>=◌, fields_of}
use Rattle.trace_model.specs.Lines.{Line}
use Rattle.trace_model.specs.SetupLines.{data_form, code_form, layout_form, pipe_form, target_form}
use Rattle.trace_model.specs.LibraryLines.{vertex_form, prerast_form, fragment_form, output_form}
use Rattle.trace_model.specs.RecorderLines.{push_form, vbuf_form, ubuf_form, scissor_form, bind_form, draw_form}

-- the first field of a line, and what a line says by the fields after it
pub record LineForm : Type 0 where
  pub word : List ℕ
  pub form : Version → List (List ℕ) → Option Line

abbrev pub begun_by : List ℕ → (Version → List (List ℕ) → Option Line) → LineForm
begun_by word form = record { word = word; form = form }

abbrev pub line_forms : List LineForm
line_forms =
    begun_by (codes "data") (λ version. data_form)
    ∷ begun_by (codes "code") (λ version. code_form)
    ∷ begun_by (codes "layout") (λ version. layout_form)
    ∷ begun_by (codes "vertex") (λ version. vertex_form)
    ∷ begun_by (codes "prerast") prerast_form
    ∷ begun_by (codes "fragment") fragment_form
    ∷ begun_by (codes "output") output_form
    ∷ begun_by (codes "pipe") (λ version. pipe_form)
    ∷ begun_by (codes "target") (λ version. target_form)
    ∷ begun_by (codes "push") (λ version. push_form)
    ∷ begun_by (codes "vbuf") (λ version. vbuf_form)
    ∷ begun_by (codes "ubuf") (λ version. ubuf_form)
    ∷ begun_by (codes "scissor") (λ version. scissor_form)
    ∷ begun_by (codes "bind") bind_form
    ∷ begun_by (codes "draw") (λ version. draw_form)
    ∷ []

abbrev pub line_of_fields : Version → List (List ℕ) → Option Line
line_of_fields version [] = None
line_of_fields version (word ∷ fields) = find (λ f. bytes_eq f.word word) line_forms >>= λ f. f.form version fields

-- what a line says, where it has a form that the version knows
unfoldable pub line_of : Version → List ℕ → Option Line
line_of version text = line_of_fields version (fields_of text)

-- the version that a first line names
unfoldable pub version_of : List ℕ → Option Version
version_of text =
    if bytes_eq text (codes "gplt 1") then Some First
    else if bytes_eq text (codes "gplt 2") then Some Second
    else None
