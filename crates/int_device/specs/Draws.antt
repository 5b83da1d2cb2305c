-- What is drawn by a fragment shader: the fragments of a primitive, and what they make of the targets.
use Rattle.std.specs.Prelude.{◌≡◌, ◌==◌, ℕ, ◌≤◌, if◌then◌else◌, List, [], ◌∷◌, map, filter, length, slice_index, slice_index_or}
use Rattle.std.specs.List.{fold, flat_map, range_with_len}
use Rattle.limits.specs.declared.TheConstants.{MODULE_WORDS}
use Rattle.stage_model.specs.declared.inputs.Inputs.{Inputs}
use Rattle.state_model.specs.declared.buffers.Buffers.{Buffers}
use Rattle.state_model.specs.declared.parts.FragmentPart.{FragmentPart}
use Rattle.state_model.specs.declared.parts.OutputPart.{OutputPart}
use Rattle.draw_model.specs.declared.command.Dynamic.{Dynamic}
use Rattle.draw_model.specs.declared.framebuffer.Targets.{Targets}
use Rattle.draw_model.specs.Coverage.{is_covered}
use Rattle.draw_model.specs.Pixel.{has_bit}
use Rattle.draw_model.specs.Invocation.{Fragment, fragment_inputs}
use Rattle.draw_model.specs.SampleWrites.{FragmentStage}
use Rattle.draw_model.specs.WholeDraw.{layers_of, after_fragment, fragment_work}
use Rattle.draw_model.specs.LawfulDraw.{IsSide}
use Rattle.int_device.specs.declared.sample_rules.SampleRules.{SampleRules}
use Rattle.int_device.specs.declared.primitive.Primitive.{Primitive}
use Rattle.spv_exec.specs.PreparedFor.{PreparedFor}
use Rattle.int_device.specs.SampleRules.{rules_of, AreRules}

-- A fragment stage, and what its invocations are given.
pub record Shade : Type 0 where
  pub stage : FragmentStage
  pub dynamic : Dynamic
  pub buffers : Buffers

-- inputs with what is a fragment's own
abbrev pub given_by : Inputs → Fragment → Inputs
given_by inputs f = record inputs { slots = f.slots; frag_coord = f.x ∷ f.y ∷ f.depth ∷ 0 ∷ []; front = f.front }

-- all is given that isn't a fragment's own
abbrev pub IsGiven : Dynamic → Inputs → Type 0
IsGiven dynamic inputs = (f : Fragment) → given_by inputs f ≡ fragment_inputs dynamic f

-- the parts of one that is ready to run
pub record IsShading (for : PreparedFor) (part : FragmentPart) (output : OutputPart) (dynamic : Dynamic) (rules : SampleRules) (inputs : Inputs) : Type 0 where
  pub entries : for.entries ≡ part.entries
  pub few : length for.words.insts ≤ MODULE_WORDS
  pub ruled : rules ≡ rules_of (record { insts = for.words.insts; part = part; output = output }) dynamic
  pub limited : AreRules rules
  pub scissor_x : IsSide (slice_index dynamic.scissor 0) (slice_index dynamic.scissor 2)
  pub scissor_y : IsSide (slice_index dynamic.scissor 1) (slice_index dynamic.scissor 3)
  pub given : IsGiven dynamic inputs

-- after these fragments, with so much work
pub record Draws (s : Shade) (before after : Targets) (work : ℕ) (fragments : List Fragment) : Type 0 where
  pub image : after ≡ fold (after_fragment s.stage s.dynamic s.buffers) before fragments
  pub steps : work ≡ fragment_work s.stage s.dynamic s.buffers fragments

-- ---- fragments

abbrev pub fragment_by : Primitive → (layer y x : ℕ) → Fragment
fragment_by p layer y x = record {
  layer = layer;
  x = x;
  y = y;
  depth = slice_index (slice_index_or p.corners 0 []) 2;
  front = p.front;
  slots = p.slots;
}

-- at a pixel, where it is covered
abbrev pub fragments_at : Primitive → (layer y x : ℕ) → List Fragment
fragments_at p layer y x = if is_covered p.topology p.corners x y then fragment_by p layer y x ∷ [] else []

-- in so many columns of a row
abbrev pub fragments_in_row : Primitive → (left width : ℕ) → (layer y : ℕ) → List Fragment
fragments_in_row p left width layer y =
    map (fragment_by p layer y) (filter (λ x. is_covered p.topology p.corners x y) (range_with_len left width))

-- in so many rows of a layer
abbrev pub fragments_in_layer : Primitive → (left width top height : ℕ) → (layer : ℕ) → List Fragment
fragments_in_layer p left width top height layer = flat_map (fragments_in_row p left width layer) (range_with_len top height)

-- in a layer, where a mask has it
abbrev pub fragments_if_masked : Primitive → (left width top height : ℕ) → (mask layer : ℕ) → List Fragment
fragments_if_masked p left width top height mask layer =
    if has_bit mask layer then fragments_in_layer p left width top height layer else []

-- in the first n layers, as far as a mask has them
abbrev pub fragments_in_layers : Primitive → (left width top height : ℕ) → (mask n : ℕ) → List Fragment
fragments_in_layers p left width top height mask n =
    flat_map (fragments_in_layer p left width top height) (filter (has_bit mask) (range_with_len 0 n))

-- without views it is layer 0
abbrev pub some_mask : ℕ → ℕ
some_mask mask = if mask == 0 then 1 else mask

-- in the scissor, layer by layer
unfoldable pub fragments_by : Primitive → Dynamic → (view_mask : ℕ) → List Fragment
fragments_by p dynamic mask =
    flat_map (fragments_in_layer p (slice_index dynamic.scissor 0) (slice_index dynamic.scissor 2) (slice_index dynamic.scissor 1) (slice_index dynamic.scissor 3)) (layers_of mask)
