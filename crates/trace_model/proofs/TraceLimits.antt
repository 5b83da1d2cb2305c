-- Each limit of a trace as a plain number, and as many objects as there may be, and one more.
use Rattle.std.proofs.Common.{◌≡◌, ℕ, ◌+◌, Bool, true, false, List, [], ◌∷◌, replicate, refl}
use Rattle.std.specs.Prelude.{map}
use Rattle.state_model.specs.declared.parts.Layout.{Layout}
use Rattle.draw_model.specs.declared.framebuffer.Target.{Target}
use Rattle.trace_model.specs.declared.limit.TheConstants.{BUFFERS, BUFFER_WORDS, LAYOUTS, LIBRARIES, PIPES, PIPE_LIBRARIES, TARGETS, TARGET_WORDS, DRAWS, RECORDERS, FIRST_ATTACHMENTS, FIRST_ENTRIES}
use Rattle.trace_model.specs.declared.whole.Library.TheVariants as library
use Rattle.trace_model.specs.declared.whole.Step.{Step}
use Rattle.trace_model.specs.declared.whole.Step.TheVariants.{Scissor, Draw}
use Rattle.trace_model.specs.declared.whole.Trace.{Trace}
use Rattle.state_model.specs.declared.parts.Topology.TheVariants.{Points}
use Rattle.trace_model.specs.Lines.{VertexLine, Line, data_line, code_line, layout_line, vertex_line, pipe_line, target_line, step_line}
use Rattle.trace_model.specs.LinesBefore.{nothing_before, with_trace, layout_at, vertex_part}
use Rattle.trace_model.specs.ObjectCauses.{is_too_many}
use Rattle.trace_model.specs.SetupLines.{cleared}

buffers : BUFFERS ≡ 64
buffers = refl

buffer-words : BUFFER_WORDS ≡ 65536
buffer-words = refl

layouts : LAYOUTS ≡ 64
layouts = refl

libraries : LIBRARIES ≡ 256
libraries = refl

pipes : PIPES ≡ 256
pipes = refl

pipe-libraries : PIPE_LIBRARIES ≡ 8
pipe-libraries = refl

targets : TARGETS ≡ 32
targets = refl

target-words : TARGET_WORDS ≡ 1048576
target-words = refl

draws : DRAWS ≡ 4096
draws = refl

recorders : RECORDERS ≡ 4
recorders = refl

first-attachments : FIRST_ATTACHMENTS ≡ 4
first-attachments = refl

first-entries : FIRST_ENTRIES ≡ 4
first-entries = refl

-- ---- behind so many of a kind

abbrev nothing : Trace
nothing = nothing_before.trace

-- whether one more of the kind is too many, behind one fewer than there may be, and behind as many
abbrev at_limit : (ℕ → Trace) → ℕ → Line → List Bool
at_limit with limit line = map (λ n. is_too_many (with_trace nothing_before (with n)) line) (limit ∷ (limit + 1) ∷ [])

abbrev some_layout : Layout
some_layout = layout_at nothing_before 0

abbrev with_buffers : ℕ → Trace
with_buffers n = record nothing { buffers = record { list = replicate n [] } }

pub buffers-full : at_limit with_buffers 63 (data_line []) ≡ false ∷ true ∷ []
unfolding is_too_many
buffers-full = refl

abbrev with_modules : ℕ → Trace
with_modules n = record nothing { modules = replicate n (record { bound = 1; insts = [] }) }

pub modules-full : at_limit with_modules 63 (code_line []) ≡ false ∷ true ∷ []
unfolding is_too_many
modules-full = refl

pub layouts-full : map (λ n. is_too_many (record nothing_before { layouts = replicate n some_layout }) (layout_line some_layout)) (63 ∷ 64 ∷ []) ≡ false ∷ true ∷ []
unfolding is_too_many
layouts-full = refl

abbrev a_vertex_line : VertexLine
a_vertex_line = record { retain = false; topology = Points; bindings = []; attributes = [] }

abbrev with_libraries : ℕ → Trace
with_libraries n = record nothing { libs = replicate n (library.Vertex (vertex_part a_vertex_line)) }

pub libraries-full : at_limit with_libraries 255 (vertex_line a_vertex_line) ≡ false ∷ true ∷ []
unfolding is_too_many
libraries-full = refl

abbrev with_pipes : ℕ → Trace
with_pipes n = record nothing { pipes = replicate n [] }

pub pipes-full : at_limit with_pipes 255 (pipe_line []) ≡ false ∷ true ∷ []
unfolding is_too_many
pipes-full = refl

-- a target of so many words
abbrev target_of : (height samples : ℕ) → Target
target_of height samples = cleared (record { format = 4; width = 256; height = height; layers = 4; samples = samples; words = [] }) 0

abbrev with_targets : ℕ → Trace
with_targets n = record nothing { targets = replicate n (0, target_of 1 1) }

pub targets-full : at_limit with_targets 31 (target_line 0 (target_of 1 1)) ≡ false ∷ true ∷ []
unfolding is_too_many
targets-full = refl

-- 1,048,576 words in all, and 4,096 more
pub target_words-full :
    map (λ n. is_too_many (with_trace nothing_before (with_targets n)) (target_line 0 (target_of 252 1))) (4 ∷ 5 ∷ []) ≡ false ∷ true ∷ []
unfolding is_too_many
target_words-full = refl

abbrev a_draw : Step
a_draw = Draw 0 (record { first_vertex = 0; vertices = 0; first_instance = 0; instances = 0 })

-- other lines between the draws don't count
abbrev with_draws : ℕ → Trace
with_draws n = record nothing { steps = (0, Scissor []) ∷ replicate n (0, a_draw) }

pub draws-full : at_limit with_draws 4095 (step_line 3 a_draw) ≡ false ∷ true ∷ []
unfolding is_too_many
draws-full = refl

pub other_steps-full : at_limit with_draws 4096 (step_line 3 (Scissor [])) ≡ false ∷ false ∷ []
unfolding is_too_many
other_steps-full = refl
