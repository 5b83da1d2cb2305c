-- Invocations of a vertex shader, and the primitives that they make.
use Rattle.std.proofs.Common.{◌≡◌, ℕ, ◌^◌, ◌≤◌, length, ap, ◌∙◌}
use Rattle.std.specs.Prelude.{Some}
use Rattle.std.specs.Option.{option_map}
use Rattle.limits.specs.declared.TheConstants.{MODULE_WORDS}
use Rattle.state_model.specs.declared.buffers.Buffers.{Buffers}
use Rattle.state_model.specs.declared.parts.SpecValues.{SpecValues}
use Rattle.state_model.specs.declared.parts.VertexPart.{VertexPart}
use Rattle.state_model.specs.declared.parts.State.{State}
use Rattle.stage_model.specs.declared.inputs.Inputs.{Inputs}
use Rattle.stage_model.specs.declared.outcome.Ended.{Ended}
use Rattle.stage_model.specs.Stage.{stage, ended_of}
use Rattle.draw_model.specs.declared.command.Dynamic.{Dynamic}
use Rattle.draw_model.specs.declared.command.DrawCall.{DrawCall}
use Rattle.draw_model.specs.Invocation.{invoked, vertex_inputs, vertex_index, instance_index}
use Rattle.draw_model.specs.WholeDraw.{vertex_outcome}
use Rattle.spv_exec.specs.PreparedFor.{PreparedFor}
use Rattle.int_device.specs.Scenes.{Scene, IsScene, outcome_in}
use Rattle.int_device.proofs.Shades.{invoked_is, invoked_few}

pub vertex_told : (for : PreparedFor) (part : VertexPart) (state : State) (dynamic : Dynamic) (call : DrawCall) (buffers : Buffers) (instance vertex v i : ℕ) (inputs : Inputs) (e : Ended) →
    IsScene for part state → v ≡ vertex_index call vertex → i ≡ instance_index call instance → inputs ≡ vertex_inputs part dynamic buffers v i →
    option_map ended_of (stage for.words.insts (record { entries = for.entries; inputs = inputs; buffers = buffers })) ≡ Some e →
    e ≡ ended_of (vertex_outcome for.words.insts state dynamic call buffers instance vertex)
unfolding vertex_outcome
vertex_told for part state dynamic call buffers instance vertex v i inputs e scene first second given h =
    let same : inputs ≡ vertex_inputs state.vertex dynamic buffers (vertex_index call vertex) (instance_index call instance) =
    given ∙ ap (λ (p : VertexPart). vertex_inputs p dynamic buffers v i) scene.same_part
    ∙ ap (λ (n : ℕ). vertex_inputs state.vertex dynamic buffers n i) first
    ∙ ap (λ (n : ℕ). vertex_inputs state.vertex dynamic buffers (vertex_index call vertex) n) second in
    invoked_is for.words.insts for.entries buffers inputs e h
    ∙ ap (λ (entries : SpecValues). ended_of (invoked for.words.insts entries buffers inputs)) scene.entries
    ∙ ap (λ (of : Inputs). ended_of (invoked for.words.insts state.prerast.entries buffers of)) same

pub vertex_few : (s : Scene) (instance vertex : ℕ) → length s.vs ≤ MODULE_WORDS → (outcome_in s instance vertex).work ≤ 2 ^ 27
unfolding vertex_outcome
vertex_few s instance vertex few = invoked_few s.vs s.state.prerast.entries s.buffers (vertex_inputs s.state.vertex s.dynamic s.buffers (vertex_index s.call vertex) (instance_index s.call instance)) few
