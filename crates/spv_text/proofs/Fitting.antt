-- The instructions of a list that was read fit their operands.
use Rattle.std.proofs.Common.{◌≡◌, ℕ, zero, suc, true, List, [], ◌∷◌, arith}
use Rattle.std.specs.Prelude.{Ok, IsSome}
use Rattle.std.specs.List.{All, list_all}
use Rattle.basics.proofs.Bools.{first_of_both, second_of_both}
use Rattle.spirv_model.specs.declared.module.Inst.{Inst}
use Rattle.spirv_model.specs.declared.module.Words.{Words}
use Rattle.spirv_model.specs.Operands.{kinds}
use Rattle.spirv_model.specs.Module.{fits_table, module_of}
use Rattle.spirv_model.proofs.ReadModules.{read_writable}

pub all_from : (insts : List Inst) → list_all fits_table insts ≡ true → All (λ inst. IsSome (kinds inst)) insts
all_from [] h k d lt = absurd (omega (arith, lt))
all_from (inst ∷ insts) h zero d lt = first_of_both (fits_table inst) (list_all fits_table insts) h
all_from (inst ∷ insts) h (suc k) d lt = all_from insts (second_of_both (fits_table inst) (list_all fits_table insts) h) k d (omega (arith, lt))

pub all_fit : (words : List ℕ) (m : Words) → module_of words ≡ Ok m → All (λ inst. IsSome (kinds inst)) m.insts
all_fit words m h = all_from m.insts (read_writable words m h).fit
