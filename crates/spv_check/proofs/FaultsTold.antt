-- The faults of the parts are faults of the whole.
use Rattle.std.proofs.Common.{◌≡◌, ℕ, ◌<◌, ◌^◌, List, length, Some, Result, Ok, Err, subst, sym, arith}
use Rattle.basics.specs.Answer.{FaultUnlessMemory, UnlessMemory, IsAnswer}
use Rattle.spirv_model.specs.declared.module.Inst.{Inst}
use Rattle.spirv_model.specs.declared.module.Words.{Words}
use Rattle.spirv_model.specs.declared.module.WordsFault.{WordsFault}
use Rattle.spirv_model.specs.declared.module.WordsFault.TheVariants.{BadHeader, ZeroLength, CutShort, UnknownOp, BadShape, FloatType, Memory as WordsMemory}
use Rattle.spirv_model.specs.Module as modules
use Rattle.spirv_model.specs.Module.{module_of, IsWritable}
use Rattle.spirv_model.proofs.ReadModules.{few_written, read_writable}
use Rattle.body_model.specs.declared.fault.TreeFault.{TreeFault}
use Rattle.body_model.specs.declared.fault.TreeFault.TheVariants.{BadBlock, BadMerge, BadExit, TooDeep, Memory as TreeMemory}
use Rattle.body_model.specs.Grammar.{Derives}
use Rattle.body_model.specs.Faults.{HasFault}
use Rattle.valid_model.specs.declared.type_fault.TypeFault.{TypeFault}
use Rattle.valid_model.specs.declared.type_fault.TypeFault.TheVariants.{IdTwice, IdOutOfBound, BadType, BadConstant, BadDecoration, Memory as IdsMemory}
use Rattle.valid_model.specs.FirstFault as first_fault
use Rattle.valid_model.specs.FirstFault.{type_fault}
use Rattle.check_model.specs.declared.fault.CheckFault.{CheckFault}
use Rattle.check_model.specs.Validity.{HasListFault, of_function, of_ids, HasModuleFault, of_words, is_memory}
use Rattle.spv_tree.specs.Answers as answers
use Rattle.spv_tree.specs.declared.tree.Body.{Body}
use Rattle.spv_types.specs.declared.ids.Ids.{Ids}
use Rattle.spv_types.specs.Answers.{AnswersIds}
use Rattle.spv_check.specs.Faults.{words_fault, tree_fault, ids_fault}

pub words_told : (words : List ℕ) (reason : WordsFault) → FaultUnlessMemory modules.is_memory (λ (r : WordsFault). module_of words ≡ Err r) reason
    → FaultUnlessMemory is_memory (HasModuleFault words) (words_fault reason)
words_told words BadHeader is = of_words is
words_told words ZeroLength is = of_words is
words_told words CutShort is = of_words is
words_told words (UnknownOp op) is = of_words is
words_told words (BadShape place) is = of_words is
words_told words FloatType is = of_words is
words_told words WordsMemory is = tt

pub tree_told : (words : Words) (reason : TreeFault) → FaultUnlessMemory answers.is_memory (HasFault words.insts) reason
    → FaultUnlessMemory is_memory (HasListFault words) (tree_fault reason)
tree_told words (BadBlock place) has = of_function has
tree_told words (BadMerge place) has = of_function has
tree_told words (BadExit place) has = of_function has
tree_told words (TooDeep place) has = of_function has
tree_told words TreeMemory has = tt

pub ids_told : (words : Words) (reason : TypeFault) → Derives words.insts → FaultUnlessMemory first_fault.is_memory (λ (r : TypeFault). type_fault words ≡ Some r) reason
    → FaultUnlessMemory is_memory (HasListFault words) (ids_fault reason)
ids_told words (IdTwice id) d is = of_ids d is
ids_told words (IdOutOfBound place) d is = of_ids d is
ids_told words (BadType place) d is = of_ids d is
ids_told words (BadConstant place) d is = of_ids d is
ids_told words (BadDecoration place) d is = of_ids d is
ids_told words IdsMemory d is = tt

-- ---- as the code meets them

pub of_tree : (words : Words) (insts : List Inst) (answer : Result Body TreeFault) (reason : TreeFault) (found : CheckFault) → insts ≡ words.insts
    → UnlessMemory answers.is_memory (λ body. Derives insts) (HasFault insts) answer → answer ≡ Err reason → found ≡ tree_fault reason → FaultUnlessMemory is_memory (HasListFault words) found
of_tree words insts answer reason found same tells is found_is =
    let told = subst (λ (a : Result Body TreeFault). UnlessMemory answers.is_memory (λ body. Derives insts) (HasFault insts) a) is tells in
    subst (λ (f : CheckFault). FaultUnlessMemory is_memory (HasListFault words) f) (sym found_is)
    (tree_told words reason (subst (λ (l : List Inst). FaultUnlessMemory answers.is_memory (HasFault l) reason) same told))

pub of_sound : (words : Words) (answer : Result Ids TypeFault) (reason : TypeFault) (found : CheckFault) → Derives words.insts → AnswersIds words answer → answer ≡ Err reason
    → found ≡ ids_fault reason → FaultUnlessMemory is_memory (HasListFault words) found
of_sound words answer reason found d tells is found_is =
    subst (λ (f : CheckFault). FaultUnlessMemory is_memory (HasListFault words) f) (sym found_is)
    (ids_told words reason d (subst (λ (a : Result Ids TypeFault). AnswersIds words a) is tells))

pub of_read : (words : List ℕ) (answer : Result Words WordsFault) (reason : WordsFault) (found : CheckFault) → IsAnswer modules.is_memory (module_of words) answer → answer ≡ Err reason
    → found ≡ words_fault reason → FaultUnlessMemory is_memory (HasModuleFault words) found
of_read words answer reason found tells is found_is =
    subst (λ (f : CheckFault). FaultUnlessMemory is_memory (HasModuleFault words) f) (sym found_is)
    (words_told words reason (subst (λ (a : Result Words WordsFault). IsAnswer modules.is_memory (module_of words) a) is tells))

pub writable_read : (words : List ℕ) (answer : Result Words WordsFault) (read : Words) → IsAnswer modules.is_memory (module_of words) answer → answer ≡ Ok read → IsWritable read
writable_read words answer read tells is =
    read_writable words read (subst (λ (a : Result Words WordsFault). IsAnswer modules.is_memory (module_of words) a) is tells)

pub few_listed : (words : Words) → IsWritable words → length words.insts < 2 ^ 32
few_listed words writable = omega (arith, few_written words writable)

-- a call that fails with another's fault
pub fails_too : {Value : Type 0} (HasValue : Value → Type 0) (Fails : CheckFault → Type 0) (answer : Result Value CheckFault) (reason : CheckFault) → answer ≡ Err reason
    → FaultUnlessMemory is_memory Fails reason → UnlessMemory is_memory HasValue Fails answer
fails_too {Value = Value} HasValue Fails answer reason is has = subst (λ (a : Result Value CheckFault). UnlessMemory is_memory HasValue Fails a) (sym is) has
