-- What a line of a trace says, by its form alone: nothing is looked up yet, so objects stand by their numbers.
use Rattle.std.specs.Prelude.{ℕ, Bool, List, Option}
use Rattle.state_model.specs.declared.parts.Topology.{Topology}
use Rattle.state_model.specs.declared.parts.VertexBinding.{VertexBinding}
use Rattle.state_model.specs.declared.parts.Attribute.{Attribute}
use Rattle.state_model.specs.declared.parts.Layout.{Layout}
use Rattle.state_model.specs.declared.parts.Entry.{Entry}
use Rattle.state_model.specs.declared.parts.Depth.{Depth}
use Rattle.state_model.specs.declared.parts.Multisample.{Multisample}
use Rattle.state_model.specs.declared.parts.OutputPart.{OutputPart}
use Rattle.draw_model.specs.declared.framebuffer.Target.{Target}
use Rattle.trace_model.specs.declared.whole.Step.{Step}

-- an attribute and its location
pub record LocatedAttribute : Type 0 where
  pub location : ℕ
  pub attribute : Attribute

pub record VertexLine : Type 0 where
  pub retain : Bool
  pub topology : Topology
  pub bindings : List (Option VertexBinding)
  pub attributes : List LocatedAttribute

pub record PrerastLine : Type 0 where
  pub retain : Bool
  pub module_number : ℕ
  pub layout_number : ℕ
  pub view_mask : ℕ
  pub discard : Bool
  pub cull : ℕ
  pub ccw : Bool
  pub entries : List Entry

pub record FragmentLine : Type 0 where
  pub retain : Bool
  pub module_number : ℕ
  pub layout_number : ℕ
  pub view_mask : ℕ
  pub depth : Option Depth
  pub multisample : Option Multisample
  pub entries : List Entry

pub data Line : Type 0 where
  -- a buffer's words
  data_line : List ℕ → Line
  -- a module's words
  code_line : List ℕ → Line
  layout_line : Layout → Line
  vertex_line : VertexLine → Line
  prerast_line : PrerastLine → Line
  fragment_line : FragmentLine → Line
  output_line : OutputPart → Line
  -- the numbers of a pipe's libraries
  pipe_line : List ℕ → Line
  -- a recorder's target, as it is cleared
  target_line : ℕ → Target → Line
  -- what a recorder records
  step_line : ℕ → Step → Line
