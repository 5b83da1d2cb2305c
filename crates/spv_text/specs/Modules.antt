-- A module by its parts.
use Rattle.std.specs.Prelude.{ℕ, List}
use Rattle.spirv_model.specs.declared.module.Inst.{Inst}
use Rattle.spirv_model.specs.declared.module.Words.{Words}

-- the module with this id bound and these instructions
abbrev pub words_with : ℕ → List Inst → Words
words_with bound insts = record { bound = bound; insts = insts }
