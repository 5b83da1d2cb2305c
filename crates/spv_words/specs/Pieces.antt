-- What reading the words after the header keeps.
use Rattle.std.specs.Prelude.{◌≡◌, ℕ, Bool, not, List, ◌++◌, None, Some, Result, Ok, Err}
use Rattle.spirv_model.specs.declared.module.Inst.{Inst}
use Rattle.spirv_model.specs.declared.module.WordsFault.{WordsFault}
use Rattle.spirv_model.specs.Module.{fault_at, is_skipped}

-- the list with these instructions in front
abbrev pub with_front : List Inst → Result (List Inst) WordsFault → Result (List Inst) WordsFault
with_front front (Ok insts) = Ok (front ++ insts)
with_front front (Err fault) = Err fault

-- whether the instruction is listed, or the rule that it breaks at this place
abbrev pub IsListed : Result Bool WordsFault → ℕ → Inst → Type 0
IsListed (Ok listed) place inst = (fault_at place inst ≡ None) × (is_skipped inst ≡ not listed)
IsListed (Err fault) place inst = fault_at place inst ≡ Some fault
