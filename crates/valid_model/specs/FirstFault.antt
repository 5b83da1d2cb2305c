-- The faults of ids, types, constants and decorations at a place, and their order: the lowest place, and there the order of
-- the faults.
use Rattle.std.specs.Prelude.{ℕ, suc, Bool, true, false, ◌||◌, if◌then◌else◌, List, Option, None, Some, zero, length}
use Rattle.std.specs.Option.{option_or}
use Rattle.spirv_model.specs.declared.module.Inst.{Inst}
use Rattle.spirv_model.specs.declared.module.Words.{Words}
use Rattle.valid_model.specs.declared.type_fault.TypeFault.{TypeFault}
use Rattle.valid_model.specs.declared.type_fault.TypeFault.TheVariants.{IdTwice, IdOutOfBound, BadType, BadConstant, BadDecoration, Memory}
use Rattle.valid_model.specs.Constants.{breaks_constants}
use Rattle.valid_model.specs.Decorations.{bad_decoration}
use Rattle.valid_model.specs.Definitions.{id_out_of_bound, id_twice, inst_at}
use Rattle.valid_model.specs.Meanings.{known_before}
use Rattle.valid_model.specs.Types.{breaks_types, has_later_type}

unfoldable pub bad_type : List Inst → ℕ → Bool
bad_type insts place =
    breaks_types (known_before insts place) (inst_at insts place) || has_later_type insts place

unfoldable pub bad_constant : List Inst → ℕ → Bool
bad_constant insts place = breaks_constants (known_before insts place) (inst_at insts place)

-- the fault at a place where these rules are broken
abbrev pub fault_of : ℕ → Option ℕ → Bool → Bool → Bool → Option TypeFault
fault_of place (Some id) outside misdeclared unfit = Some (IdTwice id)
fault_of place None outside misdeclared unfit =
    if outside then Some (IdOutOfBound place)
    else if misdeclared then Some (BadType place)
    else if unfit then Some (BadConstant place)
    else None

-- the fault at a place, decorations aside
unfoldable pub rule_fault : Words → ℕ → Option TypeFault
rule_fault words place =
    fault_of place (id_twice words.insts place) (id_out_of_bound words.bound (inst_at words.insts place)) (bad_type words.insts place) (bad_constant words.insts place)

-- the fault at a place
abbrev pub type_fault_at : Words → ℕ → Option TypeFault
type_fault_at words place =
    option_or (rule_fault words place) (if bad_decoration words.insts place then Some (BadDecoration place) else None)

-- the fault at the lowest of the first n places
abbrev pub first_fault : (ℕ → Option TypeFault) → ℕ → Option TypeFault
first_fault fault_at zero = None
first_fault fault_at (suc n) = option_or (first_fault fault_at n) (fault_at n)

-- the fault of a module's ids, types, constants and decorations
unfoldable pub type_fault : Words → Option TypeFault
type_fault words = first_fault (type_fault_at words) (length words.insts)

-- want of memory
abbrev pub is_memory : TypeFault → Bool
is_memory Memory = true
is_memory fault = false
