-- The modules of a pipeline.
use Rattle.std.specs.Prelude.{List, Option}
use Rattle.std.specs.Borrow.{Bor}
use Rattle.std.specs.Option.{option_map, option_copied}
use Rattle.spirv_model.specs.declared.module.Inst.{Inst}
use Rattle.spirv_model.specs.declared.module.Words.{Words}

-- The two modules of a pipeline; there is no fragment module where rasterization is discarded.
pub record Modules : Type 0 where
  pub vertex : Words
  pub fragment : Option Words

abbrev pub fragment_insts : Modules → Option (List Inst)
fragment_insts modules = option_map (λ (words : Words). words.insts) modules.fragment

-- the instructions of a borrowed module, where there is one
abbrev pub insts_of : Option (Bor Words) → Option (List Inst)
insts_of shader = option_map (λ (words : Words). words.insts) (option_copied shader)
