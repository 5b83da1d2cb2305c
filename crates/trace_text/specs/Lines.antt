-- What the readers of lines answer.
use Rattle.std.specs.Prelude.{◌≡◌, ◌<◌, ◌≤◌, Bool, true, false, [], Option, None, Some, Result}
use Rattle.basics.specs.Answer.{UnlessMemory}
use Rattle.trace_model.specs.declared.line_fault.Cause.{Cause}
use Rattle.trace_model.specs.declared.line_fault.Cause.TheVariants.{Memory, BadLine}
use Rattle.limits.specs.declared.TheConstants.{MAX_SIDE}
use Rattle.state_model.specs.declared.vulkan.TheConstants.{SAMPLE_COUNT_4}
use Rattle.draw_model.specs.declared.framebuffer.TheConstants.{DEPTH_FORMAT, MAX_LAYERS}
use Rattle.draw_model.specs.declared.framebuffer.Target.{Target}
use Rattle.trace_model.specs.declared.limit.TheConstants.{RECORDERS}
use Rattle.trace_model.specs.Lines.{Line, target_line}
use Rattle.trace_model.specs.SetupLines.{cleared}
use Rattle.trace_text.specs.declared.setup_lines.TargetLine.{TargetLine}

-- want of memory
abbrev pub is_memory : Cause → Bool
is_memory Memory = true
is_memory cause = false

-- what is read, seen by a view, is what is said, or nothing is said
abbrev pub Reads : {X Y : Type 0} → (X → Y) → Result X Cause → Option Y → Type 0
Reads view answer said = UnlessMemory is_memory (λ x. said ≡ Some (view x)) (λ cause. (cause ≡ BadLine) × (said ≡ None)) answer

-- the same of what a line says
abbrev pub Says : {X : Type 0} → (X → Line) → Result X Cause → Option Line → Type 0
Says view answer said = Reads view answer said

-- ---- what lines say, as it is kept

abbrev pub bare_target : TargetLine → Target
bare_target line = record {
  format = line.format;
  width = line.width;
  height = line.height;
  layers = line.layers;
  samples = line.samples;
  words = [];
}

abbrev pub target_line_of : TargetLine → Line
target_line_of line = target_line line.recorder (cleared (bare_target line) line.clear)

pub record IsTargetLine (line : TargetLine) : Type 0 where
  pub recorder : line.recorder < RECORDERS
  pub format : line.format ≤ DEPTH_FORMAT
  pub width : line.width ≤ MAX_SIDE
  pub height : line.height ≤ MAX_SIDE
  pub layers : line.layers ≤ MAX_LAYERS
  pub samples : line.samples ≤ SAMPLE_COUNT_4
