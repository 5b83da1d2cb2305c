-- What it is to take a line.
use Rattle.std.specs.Prelude.{◌≡◌, ℕ, nat_le, if◌then◌else◌, Bool, List, map, Option, None, Some, Result, Ok, Err}
use Rattle.std.specs.List.{list_any}
use Rattle.basics.specs.Answer.{UnlessMemory}
use Rattle.trace_model.specs.declared.line_fault.Cause.{Cause}
use Rattle.trace_model.specs.declared.line_fault.Cause.TheVariants.{BadLine, BadModule, Memory}
use Rattle.check_model.specs.declared.fault.CheckFault.{CheckFault}
use Rattle.check_model.specs.declared.fault.CheckFault.TheVariants as check
use Rattle.body_model.specs.Switches.{repeat}
use Rattle.trace_model.specs.Lines.{LocatedAttribute, Line}
use Rattle.trace_model.specs.LinesBefore.{Before, after_line}
use Rattle.trace_model.specs.Reading.{cause_of}
use Rattle.trace_model.proofs.ReadingLaws.{verdict_of}
use Rattle.trace_text.specs.Lines.{is_memory}
use Rattle.trace_text.specs.declared.made.Made.{Made}

-- what was made, as it stands before the next line
abbrev pub before_of : Made → Before
before_of made = record {
  layouts = made.layouts;
  trace = record {
    modules = made.modules;
    buffers = record { list = made.buffers };
    libs = made.libs;
    pipes = made.pipes;
    targets = made.targets;
    steps = made.steps;
  };
}

-- what stands before the next line, or the cause
abbrev pub unless_cause : Option Cause → Before → Result Before Cause
unless_cause None after = Ok after
unless_cause (Some cause) after = Err cause

-- the same of a line of a form
abbrev pub settled : Before → Line → Result Before Cause
settled before line = unless_cause (cause_of verdict_of before line) (after_line verdict_of before line)

-- the same of fields that say this
abbrev pub given_by : Before → Option Line → Result Before Cause
given_by before None = Err BadLine
given_by before (Some line) = settled before line

-- a call that answers this, and leaves this behind, gives what is to be given, unless memory ran out
abbrev pub Takes : Result (Unit {0}) Cause → Before → Result Before Cause → Type 0
Takes answer after given = UnlessMemory is_memory (λ _. given ≡ Ok after) (λ cause. given ≡ Err cause) answer

-- ---- modules and numbers

-- the cause that the fault of a line's words is
abbrev pub cause_of_module : CheckFault → Cause
cause_of_module check.Memory = Memory
cause_of_module fault = BadModule fault

-- the numbers, if all are among so many
abbrev pub known_among : ℕ → List ℕ → Option (List ℕ)
known_among count numbers = if list_any (λ number. nat_le count number) numbers then None else Some numbers

-- two attributes have one location
abbrev pub repeat_locations : List LocatedAttribute → Bool
repeat_locations attributes = repeat (map (λ a. a.location) attributes)
