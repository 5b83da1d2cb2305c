-- The vertices of a draw: what their invocations leave, and the primitives that they make.
use Rattle.std.specs.Prelude.{◌≡◌, ℕ, ◌+◌, ◌*◌, ◌≤◌, Bool, ◌&&◌, if◌then◌else◌, List, [], ◌∷◌, map, length, sum, Option, None, Some, IfSome}
use Rattle.std.specs.Option.{option_map}
use Rattle.std.specs.List.{fold, flat_map, range_with_len}
use Rattle.limits.specs.declared.TheConstants.{MODULE_WORDS}
use Rattle.spirv_model.specs.declared.module.Inst.{Inst}
use Rattle.state_model.specs.declared.buffers.Buffers.{Buffers}
use Rattle.state_model.specs.declared.parts.Topology.{Topology}
use Rattle.state_model.specs.declared.parts.Topology.TheVariants.{Points, Triangles}
use Rattle.state_model.specs.declared.parts.VertexPart.{VertexPart}
use Rattle.state_model.specs.declared.parts.PrerastPart.{PrerastPart}
use Rattle.state_model.specs.declared.parts.State.{State}
use Rattle.state_model.specs.Lawful.{IsVertexPart}
use Rattle.stage_model.specs.declared.outcome.Ended.{Ended}
use Rattle.stage_model.specs.Stage.{Outcome, ended_of}
use Rattle.draw_model.specs.declared.command.Dynamic.{Dynamic}
use Rattle.draw_model.specs.declared.command.DrawCall.{DrawCall}
use Rattle.draw_model.specs.declared.framebuffer.Targets.{Targets}
use Rattle.draw_model.specs.Invocation.{Fragment, is_drawn}
use Rattle.draw_model.specs.WholeDraw.{fragment_stage, vertex_outcome, vertices_of, is_culled, after_fragment, fragment_work, fragments_of}
use Rattle.prerast_lib.specs.Guarded.{facing_of}
use Rattle.int_device.specs.declared.assembled.Assembled.{Assembled}
use Rattle.spv_exec.specs.PreparedFor.{PreparedFor}
use Rattle.int_device.specs.Draws.{Shade, fragments_by}

-- A vertex stage, and what its invocations are given.
pub record Scene : Type 0 where
  pub vs : List Inst
  pub state : State
  pub dynamic : Dynamic
  pub call : DrawCall
  pub buffers : Buffers

-- the parts of one that is ready to run
pub record IsScene (for : PreparedFor) (part : VertexPart) (state : State) : Type 0 where
  pub entries : for.entries ≡ state.prerast.entries
  pub few : length for.words.insts ≤ MODULE_WORDS
  pub same_part : part ≡ state.vertex
  pub lawful : IsVertexPart state.vertex

-- the outcome of a vertex of an instance
abbrev pub outcome_in : Scene → (instance vertex : ℕ) → Outcome
outcome_in s instance vertex = vertex_outcome s.vs s.state s.dynamic s.call s.buffers instance vertex

-- the outcomes of a primitive's vertices
abbrev pub outcomes_in : Scene → (instance primitive : ℕ) → List Outcome
outcomes_in s instance primitive = map (vertex_outcome s.vs s.state s.dynamic s.call s.buffers instance) (vertices_of s.state.vertex.topology primitive)

-- ---- primitives

abbrev pub point_of : Ended → Assembled
point_of a = record { whole = is_drawn a.kind; corners = a.position ∷ a.position ∷ a.position ∷ []; slots = a.slots; work = a.work }

abbrev pub triangle_of : Ended → Ended → Ended → Assembled
triangle_of a b c = record {
  whole = is_drawn a.kind && is_drawn b.kind && is_drawn c.kind;
  corners = a.position ∷ b.position ∷ c.position ∷ [];
  slots = a.slots;
  work = a.work + b.work + c.work;
}

-- a primitive by the numbers of its vertices
unfoldable pub assembled_in : Scene → Topology → (instance primitive : ℕ) → Assembled
assembled_in s Points instance primitive = point_of (ended_of (outcome_in s instance primitive))
assembled_in s Triangles instance primitive = triangle_of (ended_of (outcome_in s instance (3 * primitive)))
    (ended_of (outcome_in s instance (3 * primitive + 1))) (ended_of (outcome_in s instance (3 * primitive + 2)))

-- the fragments of a whole primitive by its facing; none, where it is outside the guard band, or culled
abbrev pub fragments_faced : Topology → PrerastPart → Dynamic → Assembled → Option Bool → List Fragment
fragments_faced topology part dynamic a None = []
fragments_faced topology part dynamic a (Some front) =
    if is_culled topology part.cull front then []
    else fragments_by (record { topology = topology; corners = a.corners; front = front; slots = a.slots }) dynamic part.view_mask

unfoldable pub fragments_assembled : Topology → PrerastPart → Dynamic → Assembled → List Fragment
fragments_assembled topology part dynamic a =
    if a.whole then fragments_faced topology part dynamic a (facing_of topology part.ccw a.corners) else []

-- ---- draws

-- the fragment stage is given the same
abbrev pub HasDynamic : Option Shade → Dynamic → Type 0
HasDynamic s dynamic = IfSome s (λ s. s.dynamic ≡ dynamic)

-- the fragment stage of a draw
abbrev pub shade_of : Option (List Inst) → State → Dynamic → Buffers → Option Shade
shade_of fs state dynamic buffers = option_map (λ stage. record { stage = stage; dynamic = dynamic; buffers = buffers }) (fragment_stage fs state)

-- the fragments of a primitive, where there is a fragment stage
abbrev pub fragments_if : Option Shade → Topology → PrerastPart → Assembled → List Fragment
fragments_if None topology part a = []
fragments_if (Some s) topology part a = fragments_assembled topology part s.dynamic a

-- the targets after fragments, and their work; nothing without a fragment stage
abbrev pub targets_after : Option Shade → Targets → List Fragment → Targets
targets_after None before fragments = before
targets_after (Some s) before fragments = fold (after_fragment s.stage s.dynamic s.buffers) before fragments

abbrev pub work_after : Option Shade → List Fragment → ℕ
work_after None fragments = 0
work_after (Some s) fragments = fragment_work s.stage s.dynamic s.buffers fragments

-- after these fragments, with so much work
pub record DrawsIf (s : Option Shade) (before after : Targets) (work : ℕ) (fragments : List Fragment) : Type 0 where
  pub image : after ≡ targets_after s before fragments
  pub steps : work ≡ work_after s fragments

-- after these primitives, with so much work
pub record DrawsAll (scene : Scene) (s : Option Shade) (before after : Targets) (work : ℕ) (primitives : List (List Outcome)) : Type 0 where
  pub image : after ≡ targets_after s before (flat_map (fragments_of scene.state scene.dynamic) primitives)
  pub steps : work ≡ sum (flat_map (map (λ (outcome : Outcome). outcome.work)) primitives)
      + work_after s (flat_map (fragments_of scene.state scene.dynamic) primitives)

-- the first n primitives of an instance
abbrev pub primitives_in : Scene → (n instance : ℕ) → List (List Outcome)
primitives_in s n instance = map (outcomes_in s instance) (range_with_len 0 n)

-- those of the first m instances
abbrev pub primitives_until : Scene → (n m : ℕ) → List (List Outcome)
primitives_until s n m = flat_map (primitives_in s n) (range_with_len 0 m)
