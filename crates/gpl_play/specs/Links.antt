-- What a trace's pipes link to.
use Rattle.std.specs.Prelude.{◌≡◌, ℕ, List, [], ◌∷◌, ◌++◌, length, slice_get, slice_index_or, false, Some, Result, Ok, Err}
use Rattle.std.specs.List.{filter_map}
use Rattle.spirv_model.specs.declared.module.Words.{Words}
use Rattle.state_model.specs.declared.parts.State.{State}
use Rattle.state_model.specs.declared.rule.Rule.{Rule}
use Rattle.state_model.specs.Link.{Libraries, failed_rule}
use Rattle.state_model.specs.PipeKey.{state_if_linked}
use Rattle.trace_model.specs.declared.whole.Library.{Library}
use Rattle.trace_model.specs.declared.whole.Trace.{Trace}
use Rattle.trace_model.specs.Pipes.{libraries_by_subset, pipe_libraries}

-- a trace with these modules alone
abbrev pub with_modules : List Words → Trace
with_modules modules =
    record { modules = modules; buffers = record { list = [] }; libs = []; pipes = []; targets = []; steps = [] }

-- libraries by subset, each with the interface of its module
abbrev pub libraries_given : List Words → List Library → Libraries
libraries_given modules given = libraries_by_subset (with_modules modules) given

-- these libraries, and one more
abbrev pub with_library : List Words → Libraries → Library → Libraries
with_library modules libs library = let one = libraries_given modules (library ∷ []) in record {
  vertex = libs.vertex ++ one.vertex;
  prerast = libs.prerast ++ one.prerast;
  fragment = libs.fragment ++ one.fragment;
  output = libs.output ++ one.output;
}

-- the libraries of a pipe, by its number
abbrev pub libraries_at : List Words → List Library → List (List ℕ) → ℕ → Libraries
libraries_at modules libs pipes pipe = libraries_given modules (filter_map (slice_get libs) (slice_index_or pipes pipe []))

-- the trace has these objects
pub record HasObjects (trace : Trace) (modules : List Words) (libs : List Library) (pipes : List (List ℕ)) : Type 0 where
  pub modules_are : trace.modules ≡ modules
  pub libs_are : trace.libs ≡ libs
  pub pipes_are : trace.pipes ≡ pipes

-- libraries link to their state, or a rule fails
abbrev pub IsLinkOf : Libraries → Result State Rule → Type 0
IsLinkOf libs (Ok state) = state_if_linked libs ≡ Some state
IsLinkOf libs (Err rule) = failed_rule libs false ≡ Some rule

-- what each pipe links to, by its number
pub record AreLinks (trace : Trace) (links : List (Result State Rule)) : Type 0 where
  pub count : length links ≡ length trace.pipes
  pub each : (pipe : ℕ) (link : Result State Rule) → slice_get links pipe ≡ Some link → IsLinkOf (pipe_libraries trace pipe) link

-- what each of the first pipes links to, by these objects
pub record AreLinksUntil (modules : List Words) (libs : List Library) (pipes : List (List ℕ)) (n : ℕ) (links : List (Result State Rule)) : Type 0 where
  pub count : length links ≡ n
  pub each : (pipe : ℕ) (link : Result State Rule) → slice_get links pipe ≡ Some link → IsLinkOf (libraries_at modules libs pipes pipe) link
