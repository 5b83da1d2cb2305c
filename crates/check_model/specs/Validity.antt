-- Valid modules, and the first fault of any other: that of its words, its function, its ids, its entry points, the one at the
-- lowest place, and then those of its interface.
use Rattle.std.specs.Prelude.{◌≡◌, ℕ, zero, suc, Bool, true, false, not, if◌then◌else◌, List, length, Option, None, Some, Ok, Err}
use Rattle.std.specs.Option.{option_map, option_or}
use Rattle.spirv_model.specs.declared.module.Inst.{Inst}
use Rattle.spirv_model.specs.declared.module.Words.{Words}
use Rattle.spirv_model.specs.declared.module.WordsFault.{WordsFault}
use Rattle.spirv_model.specs.Module.{module_of, IsWritable}
use Rattle.body_model.specs.declared.fault.TreeFault.{TreeFault}
use Rattle.body_model.specs.Grammar.{Derives}
use Rattle.body_model.specs.Faults.{HasFault}
use Rattle.valid_model.specs.declared.type_fault.TypeFault.{TypeFault}
use Rattle.valid_model.specs.Definitions.{inst_at}
use Rattle.valid_model.specs.FirstFault.{type_fault}
use Rattle.check_model.specs.declared.fault.CheckFault.{CheckFault}
use Rattle.check_model.specs.declared.fault.CheckFault.TheVariants as fault
use Rattle.check_model.specs.Intervals.{Interval, intervals_of}
use Rattle.check_model.specs.Visibility.{not_visible}
use Rattle.check_model.specs.Typing.{typing_of}
use Rattle.check_model.specs.OperandTypes.{operands_fit}
use Rattle.check_model.specs.Storage.{is_in_function, is_wrong_storage}
use Rattle.check_model.specs.EntryPoints.{bad_entry_count}
use Rattle.check_model.specs.Interfaces.{not_flat, location_twice}

-- ---- at a place

unfoldable pub has_bad_operands : List Inst → ℕ → Bool
has_bad_operands insts place = not (operands_fit (typing_of insts) (inst_at insts place))

unfoldable pub has_wrong_storage : List Inst → ℕ → Bool
has_wrong_storage insts place = is_wrong_storage (typing_of insts) (is_in_function insts place) (inst_at insts place)

-- an id that isn't visible comes first, then operands of another type, then a wrong storage class
abbrev pub use_fault_of : ℕ → Option ℕ → Bool → Bool → Option CheckFault
use_fault_of place (Some id) unfit misplaced = Some (fault.NotVisible id)
use_fault_of place None unfit misplaced =
    if unfit then Some (fault.OperandType place) else if misplaced then Some (fault.WrongStorage place) else None

unfoldable pub use_fault_at : List Interval → List Inst → ℕ → Option CheckFault
use_fault_at intervals insts place =
    use_fault_of place (not_visible intervals insts place) (has_bad_operands insts place) (has_wrong_storage insts place)

-- the fault at the lowest of the first n places
abbrev pub first_use_fault : (ℕ → Option CheckFault) → ℕ → Option CheckFault
first_use_fault fault_at zero = None
first_use_fault fault_at (suc n) = option_or (first_use_fault fault_at n) (fault_at n)

unfoldable pub use_fault : List Interval → List Inst → Option CheckFault
use_fault intervals insts = first_use_fault (use_fault_at intervals insts) (length insts)

-- ---- of a list whose function is structured, with these intervals, and whose ids are sound

unfoldable pub list_fault : List Interval → List Inst → Option CheckFault
list_fault intervals insts =
    option_or (option_map fault.EntryCount (bad_entry_count insts)) (option_or (use_fault intervals insts)
    (option_or (option_map fault.NotFlat (not_flat insts)) (option_map fault.LocationTwice (location_twice insts))))

-- ---- of a list and a bound

-- the instructions and the bound are a valid module
pub record IsValidList (words : Words) : Type 0 where
  pub writable : IsWritable words
  pub derivation : Derives words.insts
  pub sound : type_fault words ≡ None
  pub faultless : list_fault (intervals_of derivation) words.insts ≡ None

-- they can be written, but are none, and this is the first fault
pub data HasListFault (words : Words) : CheckFault → Type 0 where
  of_function : {reason : TreeFault} → HasFault words.insts reason → HasListFault words (fault.Tree reason)
  of_ids : {reason : TypeFault} → Derives words.insts → type_fault words ≡ Some reason → HasListFault words (fault.Ids reason)
  of_list : {reason : CheckFault} (derivation : Derives words.insts) → type_fault words ≡ None
      → list_fault (intervals_of derivation) words.insts ≡ Some reason → HasListFault words reason

-- ---- of words

-- the words are a valid module, with these instructions and this bound
pub record IsValid (words : List ℕ) (read : Words) : Type 0 where
  pub reads : module_of words ≡ Ok read
  pub valid : IsValidList read

-- they are none, and this is the first fault
pub data HasModuleFault (words : List ℕ) : CheckFault → Type 0 where
  of_words : {reason : WordsFault} → module_of words ≡ Err reason → HasModuleFault words (fault.Words reason)
  of_module : {reason : CheckFault} (read : Words) → module_of words ≡ Ok read → HasListFault read reason → HasModuleFault words reason

-- want of memory
abbrev pub is_memory : CheckFault → Bool
is_memory fault.Memory = true
is_memory other = false
