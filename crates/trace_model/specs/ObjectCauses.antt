-- Causes that ask which objects there are: too many of them, one that no earlier line made, and one of another recorder.
use Rattle.std.specs.Prelude.{ℕ, ◌+◌, Bool, true, false, not, ◌||◌, ◌==◌, nat_lt, nat_le, List, length, Option, None, Some}
use Rattle.std.specs.List.{list_any, count_by, sum_by, slice_get}
use Rattle.std.specs.Option.{option_map_or}
use Rattle.limits.specs.declared.TheConstants.{MODULES}
use Rattle.draw_model.specs.declared.framebuffer.TheConstants.{DEPTH_FORMAT}
use Rattle.draw_model.specs.declared.framebuffer.Target.{Target}
use Rattle.draw_model.specs.TargetWords.{target_size}
use Rattle.trace_model.specs.declared.limit.TheConstants.{BUFFERS, LAYOUTS, LIBRARIES, PIPES, TARGETS, TARGET_WORDS, DRAWS}
use Rattle.trace_model.specs.declared.whole.Step.{Step}
use Rattle.trace_model.specs.declared.whole.Step.TheVariants.{Push, Vbuf, Ubuf, Scissor, Bind, Draw}
use Rattle.trace_model.specs.declared.whole.Trace.{Trace}
use Rattle.trace_model.specs.Lines.{Line, data_line, code_line, layout_line, vertex_line, prerast_line, fragment_line, output_line, pipe_line, target_line, step_line}
use Rattle.trace_model.specs.LinesBefore.{Before}

-- ---- TooMany: one object, draw or word of a target more than there may be

-- there are as many as there may be
abbrev pub is_full : {A : Type 0} → ℕ → List A → Bool
is_full limit made = nat_le limit (length made)

abbrev pub is_draw : Step → Bool
is_draw (Draw pipe call) = true
is_draw step = false

-- the words of all these targets
abbrev pub target_words : List (ℕ × Target) → ℕ
target_words targets = sum_by (λ t. target_size t.1) targets

-- a draw, where there are as many as there may be
abbrev pub is_one_draw_more : List (ℕ × Step) → Step → Bool
is_one_draw_more steps (Draw pipe call) = nat_le DRAWS (count_by (λ s. is_draw s.1) steps)
is_one_draw_more steps step = false

unfoldable pub is_too_many : Before → Line → Bool
is_too_many before (data_line words) = is_full BUFFERS before.trace.buffers.list
is_too_many before (code_line words) = is_full MODULES before.trace.modules
is_too_many before (layout_line layout) = is_full LAYOUTS before.layouts
is_too_many before (vertex_line line) = is_full LIBRARIES before.trace.libs
is_too_many before (prerast_line line) = is_full LIBRARIES before.trace.libs
is_too_many before (fragment_line line) = is_full LIBRARIES before.trace.libs
is_too_many before (output_line part) = is_full LIBRARIES before.trace.libs
is_too_many before (pipe_line numbers) = is_full PIPES before.trace.pipes
is_too_many before (target_line recorder target) =
    is_full TARGETS before.trace.targets || nat_lt TARGET_WORDS (target_words before.trace.targets + target_size target)
is_too_many before (step_line recorder step) = is_one_draw_more before.trace.steps step

-- ---- Unknown: an object that no earlier line made, or a target of the wrong sort

-- nothing has this number
abbrev pub lacks : {A : Type 0} → List A → ℕ → Bool
lacks made number = nat_le (length made) number

-- a number is there, and nothing has it
abbrev pub names_lacking : {A : Type 0} → List A → Option ℕ → Bool
names_lacking made None = false
names_lacking made (Some number) = lacks made number

-- no target with this number has a format of the sort
abbrev pub lacks_sort : (ℕ → Bool) → List (ℕ × Target) → Option ℕ → Bool
lacks_sort sort targets None = false
lacks_sort sort targets (Some number) = option_map_or (λ t. not (sort t.1.format)) (slice_get targets number) true

abbrev pub is_depth : ℕ → Bool
is_depth format = format == DEPTH_FORMAT

abbrev pub is_colour : ℕ → Bool
is_colour format = not (is_depth format)

abbrev pub names_unknown : Trace → Step → Bool
names_unknown trace (Push at words) = false
names_unknown trace (Vbuf slot buffer) = names_lacking trace.buffers.list buffer
names_unknown trace (Ubuf set binding buffer) = names_lacking trace.buffers.list buffer
names_unknown trace (Scissor rect) = false
names_unknown trace (Bind colour depth) =
    list_any (lacks_sort is_colour trace.targets) colour || lacks_sort is_depth trace.targets depth
names_unknown trace (Draw pipe call) = lacks trace.pipes pipe

-- the module or the layout of a library
abbrev pub lacks_shader : Before → (module_number layout_number : ℕ) → Bool
lacks_shader before module_number layout_number = lacks before.trace.modules module_number || lacks before.layouts layout_number

unfoldable pub is_unknown : Before → Line → Bool
is_unknown before (prerast_line line) = lacks_shader before line.module_number line.layout_number
is_unknown before (fragment_line line) = lacks_shader before line.module_number line.layout_number
is_unknown before (pipe_line numbers) = list_any (lacks before.trace.libs) numbers
is_unknown before (step_line recorder step) = names_unknown before.trace step
is_unknown before line = false

-- ---- ForeignTarget: a target of another recorder is bound

abbrev pub is_foreign : List (ℕ × Target) → ℕ → Option ℕ → Bool
is_foreign targets recorder None = false
is_foreign targets recorder (Some number) = option_map_or (λ t. not (t.0 == recorder)) (slice_get targets number) false

abbrev pub binds_foreign_by : List (ℕ × Target) → ℕ → Step → Bool
binds_foreign_by targets recorder (Bind colour depth) = list_any (is_foreign targets recorder) colour || is_foreign targets recorder depth
binds_foreign_by targets recorder step = false

unfoldable pub binds_foreign : Before → Line → Bool
binds_foreign before (step_line recorder step) = binds_foreign_by before.trace.targets recorder step
binds_foreign before line = false
