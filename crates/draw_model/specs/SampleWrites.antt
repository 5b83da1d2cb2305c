-- What becomes of the samples of one fragment (Vulkan specification, "Fragment Operations": "Sample Mask", "Depth Test", and
-- "The Framebuffer": "Logical Operations", "Color Write Mask").
use Rattle.std.specs.Prelude.{ℕ, Bool, true, if◌then◌else◌, List, [], ◌∷◌, slice_index, slice_index_or, filter, is_some, Option, None, Some}
use Rattle.std.specs.List.{fold, range_with_len}
use Rattle.std.specs.Option.{option_map, option_and_then}
use Rattle.limits.specs.declared.TheConstants.{ATTACHMENTS}
use Rattle.spirv_model.specs.declared.module.Inst.{Inst}
use Rattle.spirv_model.specs.declared.decoration.TheConstants.{LOCATION}
use Rattle.state_model.specs.Lawful.{present_at}
use Rattle.state_model.specs.declared.parts.Depth.{Depth}
use Rattle.state_model.specs.declared.parts.Multisample.{Multisample}
use Rattle.state_model.specs.declared.parts.Attachment.{Attachment}
use Rattle.state_model.specs.declared.parts.FragmentPart.{FragmentPart}
use Rattle.state_model.specs.declared.parts.OutputPart.{OutputPart}
use Rattle.stage_model.specs.Program.{program_of}
use Rattle.stage_model.specs.Stage.{output_with}
use Rattle.draw_model.specs.declared.command.Dynamic.{Dynamic}
use Rattle.draw_model.specs.declared.framebuffer.TheConstants.{DEPTH_FORMAT}
use Rattle.draw_model.specs.declared.framebuffer.Target.{Target}
use Rattle.draw_model.specs.declared.framebuffer.Targets.{Targets}
use Rattle.draw_model.specs.Pixel.{passes_depth, stored_pixel, has_bit}
use Rattle.draw_model.specs.Invocation.{Fragment}
use Rattle.draw_model.specs.TargetWords.{usable, sample_words, with_sample, with_target}

-- The fragment shader of a draw, with what comes after it.
pub record FragmentStage : Type 0 where
  pub insts : List Inst
  pub part : FragmentPart
  pub output : OutputPart

-- the samples of the mask, in order
abbrev pub samples_of : Multisample → List ℕ
samples_of multisample = filter (has_bit multisample.mask) (range_with_len 0 multisample.samples)

-- the module has an output at the location
abbrev pub has_output : List Inst → ℕ → Bool
has_output insts location = is_some (output_with (program_of insts) LOCATION location)

-- ---- depth

-- A depth test, and the target that it reads and writes.
pub record DepthTest : Type 0 where
  pub depth : Depth
  pub number : ℕ
  pub target : Target

-- the test of the samples of a fragment, where the state has one and a depth target is bound that has the fragment's pixel and
-- layer and the output's sample count
unfoldable pub depth_test : FragmentStage → Dynamic → Fragment → Targets → Option DepthTest
depth_test stage dynamic f targets =
    option_and_then (λ depth. option_and_then (λ number. option_map
    (λ target. record { depth = depth; number = number; target = target })
    (usable targets DEPTH_FORMAT stage.output.multisample.samples f number)) dynamic.depth) stage.part.depth

-- the sample goes on: without a test always
abbrev pub goes_on : Option DepthTest → Fragment → ℕ → Bool
goes_on None f sample = true
goes_on (Some test) f sample = passes_depth test.depth.compare f.depth (slice_index (sample_words test.target f sample) 0)

-- with the sample's depth stored, where the test writes
abbrev pub with_depth : Option DepthTest → Fragment → ℕ → Targets → Targets
with_depth None f sample targets = targets
with_depth (Some test) f sample targets =
    if test.depth.write then with_target test.number (with_sample test.target f sample (f.depth ∷ [])) targets else targets

-- ---- attachments

-- An attachment, and the target that it writes.
pub record Write : Type 0 where
  pub attachment : Attachment
  pub number : ℕ
  pub target : Target

-- the write at a location, where the module has an output and the state an attachment there, and a target is bound that has the
-- attachment's format, the output's sample count, and the fragment's pixel and layer
unfoldable pub write_at : FragmentStage → Dynamic → Fragment → Targets → ℕ → Option Write
write_at stage dynamic f targets location =
    if has_output stage.insts location then
    option_and_then (λ attachment. option_and_then (λ number. option_map
    (λ target. record { attachment = attachment; number = number; target = target })
    (usable targets attachment.format stage.output.multisample.samples f number)) (present_at dynamic.colour location))
    (present_at stage.output.attachments location)
    else None

-- with the output's words stored, by the logic operation and the write mask
abbrev pub with_write : Option ℕ → Option Write → Fragment → List ℕ → ℕ → Targets → Targets
with_write logic None f words sample targets = targets
with_write logic (Some write) f words sample targets =
    let stored = stored_pixel logic write.attachment.write_mask words (sample_words write.target f sample) in
    with_target write.number (with_sample write.target f sample stored) targets

-- after the attachment at a location
unfoldable pub after_location : FragmentStage → Dynamic → Fragment → List (List ℕ) → ℕ → Targets → ℕ → Targets
after_location stage dynamic f slots sample targets location =
    with_write stage.output.logic (write_at stage dynamic f targets location) f (slice_index_or slots location []) sample targets

-- ---- all of a sample

-- after the depth that is stored, and the attachments in the order of their locations
abbrev pub after_writes : FragmentStage → Dynamic → Fragment → List (List ℕ) → ℕ → Targets → Targets
after_writes stage dynamic f slots sample targets =
    fold (after_location stage dynamic f slots sample) targets (range_with_len 0 ATTACHMENTS)

-- after one sample of a fragment whose outputs are these
unfoldable pub after_sample : FragmentStage → Dynamic → Fragment → List (List ℕ) → Targets → ℕ → Targets
after_sample stage dynamic f slots targets sample =
    let test = depth_test stage dynamic f targets in
    if goes_on test f sample then after_writes stage dynamic f slots sample (with_depth test f sample targets) else targets
