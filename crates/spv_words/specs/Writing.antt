-- What was written is read again, and what was read can be written.
use Rattle.std.specs.Prelude.{◌≡◌, ℕ, ◌≤◌, false, List, length, IsOk, Ok}
use Rattle.std.specs.List.{All}
use Rattle.spirv_model.specs.declared.module.Inst.{Inst}
use Rattle.spirv_model.specs.declared.module.TheConstants.{OPERAND_WORDS_LIMIT}
use Rattle.spirv_model.specs.Module.{module_of, is_skipped}

-- each instruction's word count has 16 bits
abbrev pub AreShort : List Inst → Type 0
AreShort insts = All (λ inst. length inst.words ≤ OPERAND_WORDS_LIMIT) insts

-- words that are a module give the instructions and the bound back, if no opcode is skipped
abbrev pub ReadsAgain : List Inst → ℕ → List ℕ → Type 0
ReadsAgain insts bound words = IsOk (module_of words) → All (λ inst. is_skipped inst ≡ false) insts → module_of words ≡ Ok (record { bound = bound; insts = insts })
