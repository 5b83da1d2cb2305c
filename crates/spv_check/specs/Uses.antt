-- What the pass over the places of a module is given and keeps.
use Rattle.std.specs.Prelude.{◌≡◌, ℕ, ◌<◌, Bool, not, List, length, Option, None, slice_index_or}
use Rattle.std.specs.Option.{option_map, option_or}
use Rattle.spirv_model.specs.declared.module.Inst.{Inst}
use Rattle.body_model.specs.Grammar.{Derives}
use Rattle.check_model.specs.Intervals.{Interval, intervals_of}
use Rattle.check_model.specs.declared.fault.CheckFault.{CheckFault}
use Rattle.check_model.specs.declared.fault.CheckFault.TheVariants as fault
use Rattle.check_model.specs.OperandTypes.{operands_fit}
use Rattle.check_model.specs.Storage.{is_wrong_storage}
use Rattle.check_model.specs.Validity.{use_fault_of}
use Rattle.check_model.specs.Visibility.{not_visible}
use Rattle.spv_check.specs.declared.typing.ModuleIds.{ModuleIds}
use Rattle.spv_check.specs.TypingIn.{typing_in}

-- of each place the first id that isn't visible
abbrev pub AreHidden : List Interval → List Inst → List (Option ℕ) → Type 0
AreHidden intervals insts hidden = (place : ℕ) → place < length insts → slice_index_or hidden place None ≡ not_visible intervals insts place

-- that, whatever the derivation
pub record AreAllHidden (insts : List Inst) (hidden : List (Option ℕ)) : Type 0 where
  pub for_each : length hidden ≡ length insts
  pub at : (derivation : Derives insts) → AreHidden (intervals_of derivation) insts hidden

-- the fault of an instruction at a place, in the function or outside it, where this id isn't visible
abbrev pub use_fault_with : ModuleIds → Bool → Inst → ℕ → Option ℕ → Option CheckFault
use_fault_with known inside inst place hidden =
    use_fault_of place hidden (not (operands_fit (typing_in known) inst)) (is_wrong_storage (typing_in known) inside inst)

-- the first fault of entry points, uses, inputs that aren't Flat and locations
abbrev pub first_fault_of : Option ℕ → Option CheckFault → Option ℕ → Option ℕ → Option CheckFault
first_fault_of count used smooth twice =
    option_or (option_map fault.EntryCount count) (option_or used (option_or (option_map fault.NotFlat smooth) (option_map fault.LocationTwice twice)))
