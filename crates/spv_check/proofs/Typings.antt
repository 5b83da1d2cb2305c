-- What the ids of a module tell is what its words say, and so are the faults of operands and of storage.
use Rattle.std.proofs.Common.{◌≡◌, ℕ, not, sym, ap}
use Rattle.std.specs.Option.{option_and_then}
use Rattle.spirv_model.specs.declared.module.Words.{Words}
use Rattle.valid_model.specs.Definitions.{inst_at}
use Rattle.check_model.specs.Typing.{Typing, typing_of, constant_in, constant_word}
use Rattle.check_model.specs.OperandTypes.{operands_fit}
use Rattle.check_model.specs.Storage.{is_in_function, is_wrong_storage}
use Rattle.check_model.specs.Validity.{has_bad_operands, has_wrong_storage}
use Rattle.spv_check.specs.declared.typing.ModuleIds.{ModuleIds}
use Rattle.spv_check.specs.TypingIn.{AreModuleIds, typing_in}

pub typing_told : (words : Words) (known : ModuleIds) → AreModuleIds words known → typing_in known ≡ typing_of words.insts
unfolding typing_of constant_word
typing_told words known told = λ i. record {
  meaning = λ id. told.ids.meanings id i;
  constant = λ id. option_and_then (λ place. constant_in (inst_at (told.insts i) place)) (told.ids.places id i);
  vertex = told.vertex i;
}

pub operands_told : (words : Words) (known : ModuleIds) (place : ℕ) → AreModuleIds words known
    → has_bad_operands words.insts place ≡ not (operands_fit (typing_in known) (inst_at words.insts place))
unfolding has_bad_operands
operands_told words known place told =
    sym (ap (λ (typing : Typing). not (operands_fit typing (inst_at words.insts place))) (typing_told words known told))

pub storage_told : (words : Words) (known : ModuleIds) (place : ℕ) → AreModuleIds words known
    → has_wrong_storage words.insts place ≡ is_wrong_storage (typing_in known) (is_in_function words.insts place) (inst_at words.insts place)
unfolding has_wrong_storage
storage_told words known place told =
    sym (ap (λ (typing : Typing). is_wrong_storage typing (is_in_function words.insts place) (inst_at words.insts place)) (typing_told words known told))
