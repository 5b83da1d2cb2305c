-- The rows of the table of lines, by their kinds.
use Rattle.std.specs.Prelude.{ℕ, List, codes, drop}
use Rattle.trace_model.specs.LineForms.{LineForm, begun_by, line_forms}
use Rattle.trace_model.specs.SetupLines.{data_form, code_form, layout_form, pipe_form, target_form}
use Rattle.trace_model.specs.LibraryLines.{vertex_form, prerast_form, fragment_form, output_form}
use Rattle.trace_model.specs.RecorderLines.{push_form, vbuf_form, ubuf_form, scissor_form, bind_form, draw_form}
use Rattle.trace_text.specs.declared.line_kind.LineKind.{LineKind}
use Rattle.trace_text.specs.declared.line_kind.LineKind.TheVariants as kind

abbrev pub form_of : LineKind → LineForm
form_of kind.Data = begun_by (codes "data") (λ version. data_form)
form_of kind.Code = begun_by (codes "code") (λ version. code_form)
form_of kind.Layout = begun_by (codes "layout") (λ version. layout_form)
form_of kind.Vertex = begun_by (codes "vertex") (λ version. vertex_form)
form_of kind.Prerast = begun_by (codes "prerast") prerast_form
form_of kind.Fragment = begun_by (codes "fragment") fragment_form
form_of kind.Output = begun_by (codes "output") output_form
form_of kind.Pipe = begun_by (codes "pipe") (λ version. pipe_form)
form_of kind.Target = begun_by (codes "target") (λ version. target_form)
form_of kind.Push = begun_by (codes "push") (λ version. push_form)
form_of kind.Vbuf = begun_by (codes "vbuf") (λ version. vbuf_form)
form_of kind.Ubuf = begun_by (codes "ubuf") (λ version. ubuf_form)
form_of kind.Scissor = begun_by (codes "scissor") (λ version. scissor_form)
form_of kind.Bind = begun_by (codes "bind") bind_form
form_of kind.Draw = begun_by (codes "draw") (λ version. draw_form)

-- the rows from one on
abbrev pub forms_from : ℕ → List LineForm
forms_from row = drop row line_forms
