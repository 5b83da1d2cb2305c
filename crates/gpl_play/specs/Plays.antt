-- What a play has drawn, draw by draw.
use Rattle.std.specs.Prelude.{◌≡◌, ℕ, ◌<◌, List, [], ◌∷◌, ◌++◌, length, IfSome, Result}
use Rattle.std.specs.List.{fold, filter_map, enumerate_from}
use Rattle.spirv_model.specs.declared.module.Words.{Words}
use Rattle.state_model.specs.declared.buffers.Buffers.{Buffers}
use Rattle.state_model.specs.declared.parts.State.{State}
use Rattle.state_model.specs.declared.rule.Rule.{Rule}
use Rattle.draw_model.specs.declared.command.Dynamic.{Dynamic}
use Rattle.draw_model.specs.declared.command.DrawCall.{DrawCall}
use Rattle.draw_model.specs.declared.framebuffer.Targets.{Targets}
use Rattle.draw_model.specs.LawfulDraw.{LawfulDraw}
use Rattle.trace_model.specs.declared.whole.Step.{Step}
use Rattle.trace_model.specs.Pipes.{vertex_insts, fragment_insts}
use Rattle.trace_model.specs.declared.whole.Trace.{Trace}
use Rattle.trace_model.specs.LawfulPlay.{LawfulTrace}
use Rattle.trace_model.specs.Playing.{RecordedDraw, draws_of, first_targets, after_draw, refusal}
use Rattle.gpl_play.specs.Links.{AreLinks}

-- What all draws of a trace are made from; the links are those of its pipes.
pub record Drawables : Type 0 where
  pub modules : List Words
  pub buffers : Buffers
  pub links : List (Result State Rule)

pub record AreOf (trace : Trace) (objects : Drawables) : Type 0 where
  pub modules : trace.modules ≡ objects.modules
  pub buffers : trace.buffers ≡ objects.buffers
  pub links : AreLinks trace objects.links

-- the targets and the refused draws after these first draws of a trace
pub record AreLeftBy (trace : Trace) (front : List RecordedDraw) (targets : Targets) (refused : List (ℕ × Rule)) : Type 0 where
  pub targets_are : targets ≡ fold (after_draw trace) (first_targets trace) front
  pub refused_are : refused ≡ filter_map (refusal trace) (enumerate_from 0 front)

-- a recorder's draw
abbrev pub drawn_by : (recorder pipe : ℕ) → Dynamic → DrawCall → RecordedDraw
drawn_by recorder pipe dynamic call = record { recorder = recorder; pipe = pipe; dynamic = dynamic; call = call }

-- A draw of a lawful trace, with the draws before it and behind it.
pub record IsDrawOf (objects : Drawables) (number : ℕ) (drawn : RecordedDraw) (targets : Targets) (refused : List (ℕ × Rule)) : Type 0 where
  pub trace : Trace
  pub lawful : LawfulTrace trace
  pub of : AreOf trace objects
  pub front : List RecordedDraw
  pub rest : List RecordedDraw
  pub split : draws_of trace ≡ front ++ drawn ∷ rest
  pub count : number ≡ length front
  pub left : AreLeftBy trace front targets refused

-- the whole play of a lawful trace, before its first line
pub record IsPlayOf (objects : Drawables) (steps : List (ℕ × Step)) (targets : Targets) (refused : List (ℕ × Rule)) : Type 0 where
  pub trace : Trace
  pub lawful : LawfulTrace trace
  pub of : AreOf trace objects
  pub steps_are : trace.steps ≡ steps
  pub left : AreLeftBy trace [] targets refused

-- a draw with this state, whose modules are modules of the trace
pub record IsDraw (trace : Trace) (state : State) (dynamic : Dynamic) (call : DrawCall) (targets : Targets) : Type 0 where
  pub vertex : state.prerast.«module» < length trace.modules
  pub fragment : IfSome state.fragment (λ part. part.«module» < length trace.modules)
  pub lawful : LawfulDraw (vertex_insts trace state) (fragment_insts trace state) state dynamic call trace.buffers targets
