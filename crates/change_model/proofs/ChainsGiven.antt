-- What a chain gives: a value, which no other chain leads into.
use Rattle.std.proofs.Common.{◌≡◌, ℕ, ◌<◌, ◌==◌, true, false, List, refl, ap, ◌∙◌, Some}
use Rattle.std.proofs.lemmas.Bool.{eq-eqb}
use Rattle.spirv_model.specs.declared.module.Inst.{Inst}
use Rattle.spirv_model.specs.declared.module.Words.{Words}
use Rattle.spirv_model.specs.declared.op.TheConstants as op
use Rattle.spirv_model.specs.Operands.{word_at, words_from, entry_of, class_of, result}
use Rattle.body_model.specs.Classes.{is_plain}
use Rattle.valid_model.specs.declared.meaning.IdFacts.{IdFacts}
use Rattle.valid_model.specs.declared.meaning.Meaning.{Meaning}
use Rattle.valid_model.specs.declared.meaning.Meaning.TheVariants.{Value as OfValue}
use Rattle.valid_model.specs.Definitions.{definition, inst_at}
use Rattle.valid_model.specs.Meanings.{is_constant, known_before, meaning}
use Rattle.valid_model.specs.Types.{is_type}
use Rattle.check_model.specs.MemoryOperands.{chain_fits, memory_operands_fit}
use Rattle.check_model.specs.OperandTypes.{operands_fit}
use Rattle.check_model.specs.Typing.{Typing, typing_of}
use Rattle.check_model.specs.Validity.{IsValidList}
use Rattle.stage_model.specs.Effect.{has_result_class}
use Rattle.typed_model.proofs.EffectsRun.{instruction}
use Rattle.typed_model.proofs.FunctionRuns.{function_within}
use Rattle.typed_model.proofs.ModuleValues.{meaning_at}
use Rattle.typed_model.proofs.PlainRuns.{at_op}
use Rattle.typed_model.proofs.ResultIds.{typed_result_id}
use Rattle.typed_model.proofs.ValidModules.{valid_sound}
use Rattle.change_model.proofs.FoundUses.{chain_inside, stands_inside}
use Rattle.change_model.proofs.FunctionKnown.{function_known, plain_facts}
use Rattle.change_model.proofs.PlanRunsValues.{own_defined}
use Rattle.change_model.proofs.TakenOperands.{clash}
use Rattle.change_model.proofs.TypesNamed.{means}

pub chain_gives : (has_result_class (class_of op.ACCESS_CHAIN) ≡ true) × (is_plain op.ACCESS_CHAIN ≡ true) × (is_type op.ACCESS_CHAIN ≡ false) × (is_constant op.ACCESS_CHAIN ≡ false)
unfolding class_of entry_of
chain_gives = (refl, refl, refl, refl)

chain_fit : (typing : Typing) (words : List ℕ) → operands_fit typing (instruction op.ACCESS_CHAIN words) ≡ true
    → chain_fits typing (word_at 0 (instruction op.ACCESS_CHAIN words)) (typing.meaning (word_at 2 (instruction op.ACCESS_CHAIN words))) (words_from 3 (instruction op.ACCESS_CHAIN words)) ≡ true
unfolding operands_fit class_of entry_of memory_operands_fit
chain_fit typing words fit = fit

-- a chain of a valid module leads somewhere
pub chain_here : (words : Words) (v : IsValidList words) (place : ℕ) → (inst_at words.insts place).op ≡ op.ACCESS_CHAIN
    → chain_fits (typing_of words.insts) (word_at 0 (inst_at words.insts place)) ((typing_of words.insts).meaning (word_at 2 (inst_at words.insts place))) (words_from 3 (inst_at words.insts place)) ≡ true
chain_here words v place is =
    let typing = typing_of words.insts in
    let chain = inst_at words.insts place in
    let w = stands_inside words v place op.ACCESS_CHAIN chain_inside is in
    at_op (λ (i : Inst). operands_fit typing i ≡ true → chain_fits typing (word_at 0 i) (typing.meaning (word_at 2 i)) (words_from 3 i) ≡ true) chain op.ACCESS_CHAIN (eq-eqb chain.op op.ACCESS_CHAIN is) (chain_fit typing chain.words)
    ((valid_sound words v).fit place (function_within words.insts v.derivation place w.1))

-- it leads into a variable
pub no_value_chain : (words : Words) (v : IsValidList words) (place id type : ℕ) → (inst_at words.insts place).op ≡ op.ACCESS_CHAIN → word_at 2 (inst_at words.insts place) ≡ id → meaning words.insts id ≡ OfValue type → ⊥
no_value_chain words v place id type is at value =
    let typing = typing_of words.insts in
    let chain = inst_at words.insts place in
    clash (chain_fits typing (word_at 0 chain) (typing.meaning (word_at 2 chain)) (words_from 3 chain)) (chain_here words v place is)
    (ap (λ (m : Meaning). chain_fits typing (word_at 0 chain) m (words_from 3 chain)) (ap typing.meaning at ∙ means words.insts id ∙ value))

-- its result
pub chain_result : (insts : List Inst) (place : ℕ) → (inst_at insts place).op ≡ op.ACCESS_CHAIN → result (inst_at insts place) ≡ Some (word_at 1 (inst_at insts place))
chain_result insts place is = typed_result_id (inst_at insts place) (ap (λ (o : ℕ). has_result_class (class_of o)) is ∙ chain_gives.0) (ap (λ (o : ℕ). o == op.STORE) is)

pub chain_defined : (words : Words) (v : IsValidList words) (place : ℕ) → place < v.derivation.after → (inst_at words.insts place).op ≡ op.ACCESS_CHAIN
    → definition words.insts (word_at 1 (inst_at words.insts place)) ≡ Some place
chain_defined words v place high is = own_defined words v place (word_at 1 (inst_at words.insts place)) (function_within words.insts v.derivation place high) (chain_result words.insts place is)

pub chain_meaning : (words : Words) (v : IsValidList words) (place : ℕ) → place < v.derivation.after → (inst_at words.insts place).op ≡ op.ACCESS_CHAIN
    → meaning words.insts (word_at 1 (inst_at words.insts place)) ≡ OfValue (word_at 0 (inst_at words.insts place))
chain_meaning words v place high is =
    let insts = words.insts in
    let chain = inst_at insts place in
    meaning_at insts place (word_at 1 chain) (chain_defined words v place high is)
    ∙ ap (λ (k : IdFacts). k.meaning)
    (function_known (known_before insts place) chain (ap is_type is ∙ chain_gives.2) (ap is_constant is ∙ chain_gives.3) ∙ plain_facts chain (ap is_plain is ∙ chain_gives.1))
