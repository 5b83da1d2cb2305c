-- What the lines of a recorder say, as it is kept.
use Rattle.std.specs.Prelude.{ℕ, List, take, Option}
use Rattle.limits.specs.declared.TheConstants.{ATTACHMENTS}
use Rattle.state_model.specs.Lawful.{present_at}
use Rattle.trace_model.specs.declared.limit.TheConstants.{RECORDERS}
use Rattle.trace_model.specs.declared.whole.Step.TheVariants.{Push, Vbuf, Ubuf, Scissor, Bind, Draw}
use Rattle.trace_model.specs.declared.whole.Version.{Version}
use Rattle.trace_model.specs.Fields.{below}
use Rattle.trace_model.specs.LibraryLines.{filled_up}
use Rattle.trace_model.specs.LibraryLines as library
use Rattle.trace_model.specs.Lines.{Line, step_line}
use Rattle.trace_text.specs.declared.recorder_lines.PushLine.{PushLine}
use Rattle.trace_text.specs.declared.recorder_lines.VbufLine.{VbufLine}
use Rattle.trace_text.specs.declared.recorder_lines.UbufLine.{UbufLine}
use Rattle.trace_text.specs.declared.recorder_lines.ScissorLine.{ScissorLine}
use Rattle.trace_text.specs.declared.recorder_lines.BindLine.{BindLine}
use Rattle.trace_text.specs.declared.recorder_lines.DrawLine.{DrawLine}

abbrev pub attachment_count : Version → ℕ
attachment_count version = library.attachment_count version

abbrev pub recorder_value : List ℕ → Option ℕ
recorder_value field = below RECORDERS field

abbrev pub push_line : PushLine → Line
push_line line = step_line line.recorder (Push line.at line.words)

abbrev pub vbuf_line : VbufLine → Line
vbuf_line line = step_line line.recorder (Vbuf line.slot line.buffer)

abbrev pub ubuf_line : UbufLine → Line
ubuf_line line = step_line line.recorder (Ubuf line.set line.binding line.buffer)

abbrev pub scissor_line : ScissorLine → Line
scissor_line line = step_line line.recorder (Scissor line.rect)

abbrev pub bind_line : Version → BindLine → Line
bind_line version line =
    step_line line.recorder (Bind
    (filled_up ATTACHMENTS (take (attachment_count version) line.targets))
    (present_at line.targets (attachment_count version)))

abbrev pub draw_line : DrawLine → Line
draw_line line = step_line line.recorder (Draw line.pipe line.call)
