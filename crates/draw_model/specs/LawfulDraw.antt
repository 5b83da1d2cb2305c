-- The draws that may be asked: a lawful state, modules of its stages, numbers below their counts, and words of 32 bits.
use Rattle.spirv_model.specs.declared.decoration.TheConstants.{SPEC_ID}
use Rattle.valid_model.specs.DecorationWords.{decoration_of}
use Rattle.state_model.specs.Canonical.{is_declared}
use Rattle.std.specs.Prelude.{◌≡◌, true, ◌↔◌, ◌⊎◌, ℕ, ◌+◌, ◌*◌, ◌^◌, ◌==◌, ◌<◌, ◌≤◌, List, Option, Some, length, slice_index, IfSome, IsNone, IsTrue}
use Rattle.std.specs.List.{All, find}
use Rattle.std.specs.Option.{option_map}
use Rattle.limits.specs.declared.TheConstants.{MAX_SIDE, COMPONENTS, VERTEX_BINDINGS, DESCRIPTOR_SETS, DESCRIPTOR_BINDINGS, ATTACHMENTS, PUSH_WORDS}
use Rattle.spirv_model.specs.declared.module.Inst.{Inst}
use Rattle.spirv_model.specs.declared.op.TheConstants.{ENTRY_POINT}
use Rattle.spirv_model.specs.declared.execution_model.TheConstants.{VERTEX, FRAGMENT}
use Rattle.state_model.specs.declared.vulkan.TheConstants.{SAMPLE_COUNT_1, SAMPLE_COUNT_2, SAMPLE_COUNT_4}
use Rattle.state_model.specs.declared.format.TheConstants.{FORMAT_R32_UINT}
use Rattle.state_model.specs.declared.buffers.Buffers.{Buffers}
use Rattle.state_model.specs.declared.parts.State.{State}
use Rattle.state_model.specs.Lawful.{IsLawful, AllPresent}
use Rattle.draw_model.specs.declared.command.Dynamic.{Dynamic}
use Rattle.draw_model.specs.declared.command.DrawCall.{DrawCall}
use Rattle.draw_model.specs.declared.command.TheConstants.{DRAW_VERTICES}
use Rattle.draw_model.specs.declared.framebuffer.TheConstants.{DEPTH_FORMAT, MAX_LAYERS}
use Rattle.draw_model.specs.declared.framebuffer.Target.{Target}
use Rattle.draw_model.specs.declared.framebuffer.Targets.{Targets}
use Rattle.draw_model.specs.TargetWords.{target_size}

abbrev pub IsWord : ℕ → Type 0
IsWord word = word < 2 ^ 32

abbrev pub AreWords : List ℕ → Type 0
AreWords words = All IsWord words

-- the first OpEntryPoint of the module has this execution model
abbrev pub HasModel : ℕ → List Inst → Type 0
HasModel model insts = option_map (λ (inst : Inst). slice_index inst.words 0) (find (λ (inst : Inst). inst.op == ENTRY_POINT) insts) ≡ Some model

-- the SpecIds of the module are among these
abbrev pub DeclaresAmong : List ℕ → List Inst → Type 0
DeclaresAmong ids insts = (id word : ℕ) → decoration_of insts id SPEC_ID ≡ Some word → is_declared ids word ≡ true

pub record IsTarget (t : Target) : Type 0 where
  pub first_format : FORMAT_R32_UINT ≤ t.format
  pub last_format : t.format ≤ DEPTH_FORMAT
  pub width : (0 < t.width) × (t.width ≤ MAX_SIDE)
  pub height : (0 < t.height) × (t.height ≤ MAX_SIDE)
  pub layers : (0 < t.layers) × (t.layers ≤ MAX_LAYERS)
  pub samples : (t.samples ≡ SAMPLE_COUNT_1) ⊎ (t.samples ≡ SAMPLE_COUNT_2) ⊎ (t.samples ≡ SAMPLE_COUNT_4)
  pub size : length t.words ≡ target_size t
  pub words : AreWords t.words

-- left or upper side, and width or height, of the scissor
abbrev pub IsSide : (start extent : ℕ) → Type 0
IsSide start extent = start + extent ≤ MAX_SIDE

-- numbers of buffers or targets that are below the count
abbrev pub AreBelow : ℕ → List (Option ℕ) → Type 0
AreBelow count numbers = AllPresent (λ number. number < count) numbers

pub record IsDynamic (buffers targets : ℕ) (d : Dynamic) : Type 0 where
  pub push_count : length d.push ≡ PUSH_WORDS
  pub push : AreWords d.push
  pub vertex_count : length d.vertex ≡ VERTEX_BINDINGS
  pub vertex : AreBelow buffers d.vertex
  pub set_count : length d.uniforms ≡ DESCRIPTOR_SETS
  pub uniforms : All (λ set. (length set ≡ DESCRIPTOR_BINDINGS) × AreBelow buffers set) d.uniforms
  pub scissor_count : length d.scissor ≡ COMPONENTS
  pub scissor_x : IsSide (slice_index d.scissor 0) (slice_index d.scissor 2)
  pub scissor_y : IsSide (slice_index d.scissor 1) (slice_index d.scissor 3)
  pub colour_count : length d.colour ≡ ATTACHMENTS
  pub colour : AreBelow targets d.colour
  pub depth : IfSome d.depth (λ number. number < targets)

pub record IsCall (call : DrawCall) : Type 0 where
  pub first_vertex : IsWord call.first_vertex
  pub vertices : IsWord call.vertices
  pub first_instance : IsWord call.first_instance
  pub instances : IsWord call.instances
  pub few : call.vertices * call.instances ≤ DRAW_VERTICES

pub record LawfulDraw (vs : List Inst) (fs : Option (List Inst)) (state : State) (dynamic : Dynamic) (call : DrawCall) (buffers : Buffers) (targets : Targets) : Type 0 where
  pub lawful : IsLawful state
  -- the stages: the fragment module is there exactly where rasterization isn't discarded
  pub vertex_model : HasModel VERTEX vs
  pub fragment_model : IfSome fs (HasModel FRAGMENT)
  pub fragment_there : IsTrue state.prerast.discard ↔ IsNone fs
  pub numbers : IsDynamic (length buffers.list) (length targets.list) dynamic
  pub counts : IsCall call
  pub buffer_words : All AreWords buffers.list
  pub target_words : All IsTarget targets.list
