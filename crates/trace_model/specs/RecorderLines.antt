-- The forms of the lines that a recorder records, by their fields after the first.
use Rattle.std.specs.Prelude.{ℕ, ◌+◌, ◌-◌, ◌*◌, ◌^◌, nat_le, if◌then◌else◌, List, [], ◌∷◌, take, Option, None, Some}
use Rattle.limits.specs.declared.TheConstants.{PUSH_WORDS, VERTEX_BINDINGS, DESCRIPTOR_SETS, DESCRIPTOR_BINDINGS, ATTACHMENTS, MAX_SIDE}
use Rattle.state_model.specs.Lawful.{present_at}
use Rattle.draw_model.specs.declared.command.TheConstants.{DRAW_VERTICES}
use Rattle.trace_model.specs.declared.limit.TheConstants.{RECORDERS}
use Rattle.trace_model.specs.declared.whole.Step.TheVariants.{Push, Vbuf, Ubuf, Scissor, Bind, Draw}
use Rattle.trace_model.specs.declared.whole.Version.{Version}
use Rattle.trace_model.specs.Text.{◌>>=◌, word_value}
use Rattle.trace_model.specs.Fields.{exactly, some_of, number_value, range_value, below, optional}
use Rattle.trace_model.specs.Lines.{Line, step_line}
use Rattle.trace_model.specs.LibraryLines.{attachment_count, filled_up}

-- `push r at W+`: push constants from a number on
unfoldable pub push_form : List (List ℕ) → Option Line
push_form (recorder ∷ at ∷ words) =
    below RECORDERS recorder >>= λ recorder.
    below PUSH_WORDS at >>= λ at.
    some_of (PUSH_WORDS - at) word_value words >>= λ words.
    Some (step_line recorder (Push at words))
push_form fields = None

-- `vbuf r slot b`
unfoldable pub vbuf_form : List (List ℕ) → Option Line
vbuf_form (recorder ∷ slot ∷ buffer ∷ []) =
    below RECORDERS recorder >>= λ recorder.
    below VERTEX_BINDINGS slot >>= λ slot.
    optional number_value buffer >>= λ buffer.
    Some (step_line recorder (Vbuf slot buffer))
vbuf_form fields = None

-- `ubuf r set binding b`
unfoldable pub ubuf_form : List (List ℕ) → Option Line
ubuf_form (recorder ∷ set ∷ binding ∷ buffer ∷ []) =
    below RECORDERS recorder >>= λ recorder.
    below DESCRIPTOR_SETS set >>= λ set.
    below DESCRIPTOR_BINDINGS binding >>= λ binding.
    optional number_value buffer >>= λ buffer.
    Some (step_line recorder (Ubuf set binding buffer))
ubuf_form fields = None

-- `scissor r x y w h`: both sides end at 256 at most
unfoldable pub scissor_form : List (List ℕ) → Option Line
scissor_form (recorder ∷ x ∷ y ∷ width ∷ height ∷ []) =
    below RECORDERS recorder >>= λ recorder.
    range_value 0 MAX_SIDE x >>= λ x.
    range_value 0 MAX_SIDE y >>= λ y.
    range_value 0 (MAX_SIDE - x) width >>= λ width.
    range_value 0 (MAX_SIDE - y) height >>= λ height.
    Some (step_line recorder (Scissor (x ∷ y ∷ width ∷ height ∷ [])))
scissor_form fields = None

-- `bind r t+ z`: a target for each attachment of the version, and one for depth
unfoldable pub bind_form : Version → List (List ℕ) → Option Line
bind_form version (recorder ∷ targets) =
    below RECORDERS recorder >>= λ recorder.
    exactly (attachment_count version + 1) (optional number_value) targets >>= λ targets.
    Some (step_line recorder (Bind
    (filled_up ATTACHMENTS (take (attachment_count version) targets))
    (present_at targets (attachment_count version))))
bind_form version fields = None

-- `draw r p fv nv fi ni`: a pipe, and first vertex, vertices, first instance, instances
unfoldable pub draw_form : List (List ℕ) → Option Line
draw_form (recorder ∷ pipe ∷ first_vertex ∷ vertices ∷ first_instance ∷ instances ∷ []) =
    below RECORDERS recorder >>= λ recorder.
    number_value pipe >>= λ pipe.
    below (2 ^ 32) first_vertex >>= λ first_vertex.
    below (2 ^ 32) vertices >>= λ vertices.
    below (2 ^ 32) first_instance >>= λ first_instance.
    below (2 ^ 32) instances >>= λ instances.
    if nat_le (vertices * instances) DRAW_VERTICES
    then Some (step_line recorder (Draw pipe (record {
      first_vertex = first_vertex;
      vertices = vertices;
      first_instance = first_instance;
      instances = instances;
    })))
    else None
draw_form fields = None
