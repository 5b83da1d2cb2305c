-- What a trace means: its targets after all draws, the draws that are refused, and the keys of the others.
use Rattle.std.specs.Prelude.{ℕ, false, List, [], ◌∷◌, ◌++◌, map, filter, replicate, slice_index_or, slice_set, bytes_eq, if◌then◌else◌, Option, None}
use Rattle.std.specs.List.{fold, list_any, filter_map, enumerate_from}
use Rattle.std.specs.Option.{option_map, option_map_or}
use Rattle.limits.specs.declared.TheConstants.{PUSH_WORDS, VERTEX_BINDINGS, DESCRIPTOR_SETS, DESCRIPTOR_BINDINGS, ATTACHMENTS, MAX_SIDE}
use Rattle.state_model.specs.declared.parts.State.{State}
use Rattle.state_model.specs.declared.rule.Rule.{Rule}
use Rattle.state_model.specs.Link.{failed_rule}
use Rattle.state_model.specs.PipeKey.{is_retained}
use Rattle.draw_model.specs.declared.command.Dynamic.{Dynamic}
use Rattle.draw_model.specs.declared.command.DrawCall.{DrawCall}
use Rattle.draw_model.specs.declared.framebuffer.Targets.{Targets}
use Rattle.draw_model.specs.TargetWords.{words_set}
use Rattle.draw_model.specs.WholeDraw.{image}
use Rattle.trace_model.specs.declared.limit.TheConstants.{RECORDERS}
use Rattle.trace_model.specs.declared.whole.Step.{Step}
use Rattle.trace_model.specs.declared.whole.Step.TheVariants.{Push, Vbuf, Ubuf, Scissor, Bind, Draw}
use Rattle.trace_model.specs.declared.whole.Trace.{Trace}
use Rattle.trace_model.specs.Pipes.{pipe_libraries, pipe_state, pipe_key, vertex_insts, fragment_insts}

-- ---- recorders

-- what a recorder begins with: zeros, nothing bound, and the whole of the greatest target
abbrev pub first_dynamic : Dynamic
first_dynamic = record {
  push = replicate PUSH_WORDS 0;
  vertex = replicate VERTEX_BINDINGS None;
  uniforms = replicate DESCRIPTOR_SETS (replicate DESCRIPTOR_BINDINGS None);
  scissor = 0 ∷ 0 ∷ MAX_SIDE ∷ MAX_SIDE ∷ [];
  colour = replicate ATTACHMENTS None;
  depth = None;
}

-- what it draws with after a line
unfoldable pub after_step : Dynamic → Step → Dynamic
after_step dynamic (Push at words) = record dynamic { push = words_set at words dynamic.push }
after_step dynamic (Vbuf slot buffer) = record dynamic { vertex = slice_set dynamic.vertex slot buffer }
after_step dynamic (Ubuf set binding buffer) =
    record dynamic { uniforms = slice_set dynamic.uniforms set (slice_set (slice_index_or dynamic.uniforms set []) binding buffer) }
after_step dynamic (Scissor rect) = record dynamic { scissor = rect }
after_step dynamic (Bind colour depth) = record dynamic { colour = colour; depth = depth }
after_step dynamic (Draw pipe call) = dynamic

-- a draw, with what its recorder draws with at it
pub record RecordedDraw : Type 0 where
  pub recorder : ℕ
  pub pipe : ℕ
  pub dynamic : Dynamic
  pub call : DrawCall

abbrev pub dynamic_at : List Dynamic → ℕ → Dynamic
dynamic_at dynamics recorder = slice_index_or dynamics recorder first_dynamic

-- the draws of these lines, where the recorders draw with these
abbrev pub draws_from : List Dynamic → List (ℕ × Step) → List RecordedDraw
draws_from dynamics [] = []
draws_from dynamics ((recorder, Draw pipe call) ∷ steps) =
    record { recorder = recorder; pipe = pipe; dynamic = dynamic_at dynamics recorder; call = call } ∷ draws_from dynamics steps
draws_from dynamics ((recorder, step) ∷ steps) =
    draws_from (slice_set dynamics recorder (after_step (dynamic_at dynamics recorder) step)) steps

-- the draws of a trace in their order; a draw's number is its place
unfoldable pub draws_of : Trace → List RecordedDraw
draws_of trace = draws_from (replicate RECORDERS first_dynamic) trace.steps

-- ---- targets

abbrev pub first_targets : Trace → Targets
first_targets trace = record { list = map (λ t. t.1) trace.targets }

-- after a draw with this state and the modules as the trace gives them
unfoldable pub after_linked : Trace → Targets → RecordedDraw → State → Targets
after_linked trace targets drawn state =
    image (vertex_insts trace state) (fragment_insts trace state) state drawn.dynamic drawn.call trace.buffers targets

-- after a draw: a refused one leaves them as they are
unfoldable pub after_draw : Trace → Targets → RecordedDraw → Targets
after_draw trace targets drawn = option_map_or (after_linked trace targets drawn) (pipe_state trace drawn.pipe) targets

-- after all draws
unfoldable pub final_targets : Trace → Targets
final_targets trace = fold (after_draw trace) (first_targets trace) (draws_of trace)

-- ---- refused draws

-- why a pipe isn't linked
unfoldable pub pipe_rule : Trace → ℕ → Option Rule
pipe_rule trace pipe = failed_rule (pipe_libraries trace pipe) false

abbrev pub refusal : Trace → (ℕ × RecordedDraw) → Option (ℕ × Rule)
refusal trace (number, drawn) = option_map (λ rule. (number, rule)) (pipe_rule trace drawn.pipe)

-- the numbers of the refused draws, each with its rule
unfoldable pub refused_draws : Trace → List (ℕ × Rule)
refused_draws trace = filter_map (refusal trace) (enumerate_from 0 (draws_of trace))

-- ---- keys

-- the keys with one more, unless it is there
abbrev pub with_key : List (List ℕ) → List ℕ → List (List ℕ)
with_key keys key = if list_any (bytes_eq key) keys then keys else keys ++ key ∷ []

-- the keys of the draws that aren't refused, each once, in the order of the first draws with them
unfoldable pub distinct_keys : Trace → List (List ℕ)
distinct_keys trace = fold with_key [] (filter_map (λ drawn. pipe_key trace drawn.pipe) (draws_of trace))

-- those of them whose libraries are all retained
unfoldable pub retained_keys : Trace → List (List ℕ)
retained_keys trace = filter is_retained (distinct_keys trace)

-- ---- all of it

pub record Meaning : Type 0 where
  pub targets : Targets
  pub refused : List (ℕ × Rule)
  pub keys : List (List ℕ)
  pub retained : List (List ℕ)

abbrev pub meaning : Trace → Meaning
meaning trace = record {
  targets = final_targets trace;
  refused = refused_draws trace;
  keys = distinct_keys trace;
  retained = retained_keys trace;
}
