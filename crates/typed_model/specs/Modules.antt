-- What is known of a module that the judgement rests on.
use Rattle.std.specs.Prelude.{◌≡◌, ℕ, ◌<◌, ◌≤◌, ◌==◌, ◌||◌, true, length, is_some, None}
use Rattle.spirv_model.specs.declared.module.Words.{Words}
use Rattle.spirv_model.specs.declared.op.TheConstants.{FUNCTION}
use Rattle.spirv_model.specs.Operands.{kinds}
use Rattle.body_model.specs.Classes.{is_module_level}
use Rattle.valid_model.specs.Definitions.{inst_at}
use Rattle.valid_model.specs.FirstFault.{type_fault}
use Rattle.check_model.specs.Typing.{typing_of}
use Rattle.check_model.specs.OperandTypes.{operands_fit}

-- its ids are sound, the words of each instruction are the operands that the table lists, and these have the types that the rules ask
pub record IsSound (words : Words) : Type 0 where
  pub sound : type_fault words ≡ None
  pub shaped : (place : ℕ) → place < length words.insts → is_some (kinds (inst_at words.insts place)) ≡ true
  pub fit : (place : ℕ) → place < length words.insts → operands_fit (typing_of words.insts) (inst_at words.insts place) ≡ true

-- only the module's level and OpFunction stand before the place
pub record IsFront (words : Words) (place : ℕ) : Type 0 where
  pub within : place ≤ length words.insts
  pub level : (before : ℕ) → before < place → (is_module_level (inst_at words.insts before).op || ((inst_at words.insts before).op == FUNCTION)) ≡ true
