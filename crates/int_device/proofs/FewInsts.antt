-- A valid module has few instructions.
use Rattle.std.proofs.Common.{◌≤◌, List, [], ◌∷◌, length, arith, length-append}
use Rattle.std.specs.List.{flat_map}
use Rattle.limits.specs.declared.TheConstants.{MODULE_WORDS}
use Rattle.spirv_model.specs.declared.module.Inst.{Inst}
use Rattle.spirv_model.specs.declared.module.Words.{Words}
use Rattle.spirv_model.specs.Module.{words_of}
use Rattle.check_model.specs.Validity.{IsValidList}

no_longer : (insts : List Inst) → length insts ≤ length (flat_map words_of insts)
no_longer [] = omega arith
no_longer (inst ∷ insts) = let k = no_longer insts in omega (arith, k, length-append inst.words (flat_map words_of insts))

pub few_insts : (words : Words) → IsValidList words → length words.insts ≤ MODULE_WORDS
few_insts words valid = let k = no_longer words.insts in omega (arith, k, valid.writable.few)
