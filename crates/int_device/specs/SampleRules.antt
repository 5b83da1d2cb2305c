-- What becomes of samples, as far as it is the same in a whole draw, and what that makes of one target.
use Rattle.std.specs.Prelude.{◌≡◌, ℕ, ◌<◌, ◌≤◌, ◌==◌, Bool, true, ◌&&◌, if◌then◌else◌, List, [], ◌∷◌, map, slice_get, slice_set, slice_index, slice_index_or, filter, Option, None, Some, IfSome}
use Rattle.std.specs.List.{fold, range_with_len}
use Rattle.std.specs.Option.{option_map, option_map_or, option_and_then}
use Rattle.limits.specs.declared.TheConstants.{ATTACHMENTS, COMPONENTS, MAX_SIDE}
use Rattle.spirv_model.specs.declared.module.Inst.{Inst}
use Rattle.spirv_model.specs.declared.op.TheConstants as op
use Rattle.spirv_model.specs.declared.storage_class.TheConstants as class
use Rattle.spirv_model.specs.declared.decoration.TheConstants.{LOCATION}
use Rattle.spirv_model.specs.Operands.{word_at}
use Rattle.spv_types.specs.declared.ids.Ids.{Ids}
use Rattle.spv_types.specs.Answers.{decoration_at}
use Rattle.stage_model.specs.Stage.{is_number}
use Rattle.state_model.specs.declared.vulkan.TheConstants.{COMPARE_OP_ALWAYS, LOGIC_OP_SET, SAMPLE_COUNT_4}
use Rattle.state_model.specs.declared.format.TheConstants.{FORMAT_R32_UINT}
use Rattle.state_model.specs.declared.parts.Attachment.{Attachment}
use Rattle.state_model.specs.declared.parts.Depth.{Depth}
use Rattle.state_model.specs.Lawful.{present_at}
use Rattle.draw_model.specs.declared.command.Dynamic.{Dynamic}
use Rattle.draw_model.specs.declared.framebuffer.TheConstants.{DEPTH_FORMAT}
use Rattle.draw_model.specs.declared.framebuffer.Target.{Target}
use Rattle.draw_model.specs.declared.framebuffer.Targets.{Targets}
use Rattle.draw_model.specs.Pixel.{passes_depth, stored_pixel, has_bit}
use Rattle.draw_model.specs.Invocation.{Fragment}
use Rattle.draw_model.specs.TargetWords.{sample_words, with_sample, suits}
use Rattle.draw_model.specs.SampleWrites.{FragmentStage, has_output}
use Rattle.int_device.specs.declared.sample_rules.BoundDepth.{BoundDepth}
use Rattle.int_device.specs.declared.sample_rules.BoundAttachment.{BoundAttachment}
use Rattle.int_device.specs.declared.sample_rules.SampleRules.{SampleRules}
use Rattle.int_device.specs.declared.fragment.Fragment.{Fragment as Shaded}

-- ---- rules

abbrev pub bound_depth : Option Depth → Option ℕ → Option BoundDepth
bound_depth depth number = option_and_then (λ depth. option_map (λ number. record { depth = depth; number = number }) number) depth

abbrev pub bound_attachment : Bool → Option Attachment → Option ℕ → Option BoundAttachment
bound_attachment written attachment number =
    if written
    then option_and_then (λ attachment. option_map (λ number. record { attachment = attachment; number = number }) number) attachment
    else None

abbrev pub attachment_at : FragmentStage → Dynamic → ℕ → Option BoundAttachment
attachment_at stage dynamic location =
    bound_attachment (has_output stage.insts location) (present_at stage.output.attachments location) (present_at dynamic.colour location)

-- those of a draw with this fragment stage
unfoldable pub rules_of : FragmentStage → Dynamic → SampleRules
rules_of stage dynamic = record {
  samples = stage.output.multisample.samples;
  mask = stage.output.multisample.mask;
  depth = bound_depth stage.part.depth dynamic.depth;
  logic = stage.output.logic;
  attachments = map (attachment_at stage dynamic) (range_with_len 0 ATTACHMENTS);
}

-- the instruction makes an Output variable at the location, as the ids tell
abbrev pub is_output_told : Ids → ℕ → Inst → Bool
is_output_told ids location inst =
    (inst.op == op.VARIABLE) && (word_at 2 inst == class.OUTPUT) && is_number location (decoration_at ids (word_at 1 inst) LOCATION)

-- its numbers are within their limits
pub record AreRules (rules : SampleRules) : Type 0 where
  pub samples : rules.samples ≤ SAMPLE_COUNT_4
  pub compare : IfSome rules.depth (λ bound. bound.depth.compare ≤ COMPARE_OP_ALWAYS)
  pub logic : IfSome rules.logic (λ op. op ≤ LOGIC_OP_SET)

-- ---- one target

-- the fragment of the device, as the definitions have it
abbrev pub told : Shaded → Fragment
told f = record { layer = f.layer; x = f.x; y = f.y; depth = f.depth; front = f.front; slots = f.slots.now }

-- it stands within the greatest target
pub record IsPlace (f : Shaded) : Type 0 where
  pub x : f.x < MAX_SIDE
  pub y : f.y < MAX_SIDE

-- four words, with zeros for those that are missing
abbrev pub four : List ℕ → List ℕ
four words = map (slice_index words) (range_with_len 0 COMPONENTS)

-- its sides are within the limit, and its format is a format
pub record IsLimited (t : Target) : Type 0 where
  pub format : FORMAT_R32_UINT ≤ t.format
  pub width : t.width ≤ MAX_SIDE
  pub height : t.height ≤ MAX_SIDE

abbrev pub AreLimited : List Target → Type 0
AreLimited targets = (number : ℕ) (t : Target) → slice_get targets number ≡ Some t → IsLimited t

-- the target passes over what isn't for it
abbrev pub passes_in : Depth → (samples : ℕ) → Fragment → (sample : ℕ) → Target → Bool
passes_in depth samples f sample t =
    if suits DEPTH_FORMAT samples f t then passes_depth depth.compare f.depth (slice_index (sample_words t f sample) 0) else true

abbrev pub with_depth_in : Depth → (samples : ℕ) → Fragment → (sample : ℕ) → Target → Target
with_depth_in depth samples f sample t =
    if suits DEPTH_FORMAT samples f t && passes_in depth samples f sample t && depth.write then with_sample t f sample (f.depth ∷ []) else t

abbrev pub with_write_in : Attachment → (logic : Option ℕ) → (samples : ℕ) → Fragment → List ℕ → (sample : ℕ) → Target → Target
with_write_in attachment logic samples f words sample t =
    if suits attachment.format samples f t
    then with_sample t f sample (stored_pixel logic attachment.write_mask words (sample_words t f sample))
    else t

-- ---- all targets

-- the target with a number is changed, where there is one
abbrev pub changed_at : ℕ → (Target → Target) → Targets → Targets
changed_at number change targets =
    option_map_or (λ t. record { list = slice_set targets.list number (change t) }) (slice_get targets.list number) targets

unfoldable pub passes_by : Option BoundDepth → (samples : ℕ) → Fragment → (sample : ℕ) → Targets → Bool
passes_by bound samples f sample targets = option_map_or
    (λ (b : BoundDepth). option_map_or (passes_in b.depth samples f sample) (slice_get targets.list b.number) true)
    bound true

unfoldable pub with_depth_by : Option BoundDepth → (samples : ℕ) → Fragment → (sample : ℕ) → Targets → Targets
with_depth_by bound samples f sample targets = option_map_or
    (λ (b : BoundDepth). changed_at b.number (with_depth_in b.depth samples f sample) targets)
    bound targets

unfoldable pub with_write_by : Option BoundAttachment → (logic : Option ℕ) → (samples : ℕ) → Fragment → List ℕ → (sample : ℕ) → Targets → Targets
with_write_by bound logic samples f words sample targets = option_map_or
    (λ (b : BoundAttachment). changed_at b.number (with_write_in b.attachment logic samples f words sample) targets)
    bound targets

abbrev pub location_by : SampleRules → Fragment → List (List ℕ) → ℕ → Targets → ℕ → Targets
location_by rules f slots sample targets location =
    with_write_by (present_at rules.attachments location) rules.logic rules.samples f (slice_index_or slots location []) sample targets

unfoldable pub locations_by : SampleRules → Fragment → List (List ℕ) → ℕ → Targets → Targets
locations_by rules f slots sample targets = fold (location_by rules f slots sample) targets (range_with_len 0 ATTACHMENTS)

-- after one sample
unfoldable pub sample_by : SampleRules → Fragment → List (List ℕ) → Targets → ℕ → Targets
sample_by rules f slots targets sample =
    if passes_by rules.depth rules.samples f sample targets
    then locations_by rules f slots sample (with_depth_by rules.depth rules.samples f sample targets)
    else targets

-- after the samples of the mask
unfoldable pub samples_by : SampleRules → Fragment → List (List ℕ) → Targets → Targets
samples_by rules f slots targets = fold (sample_by rules f slots) targets (filter (has_bit rules.mask) (range_with_len 0 rules.samples))
