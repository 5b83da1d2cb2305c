-- A variable of a valid module's function runs: it gives a pointer of its type.
use Rattle.std.proofs.Common.{◌≡◌, ℕ, zero, suc, ◌+◌, ◌<◌, ◌≤◌, ◌==◌, ◌||◌, not, Bool, true, false, if◌then◌else◌, List, [], ◌∷◌, take, slice_index, refl, ap, ◌∙◌, arith, Option, None, Some}
use Rattle.std.specs.Prelude.{slice_get}
use Rattle.std.specs.List.{list_any}
use Rattle.std.proofs.lemmas.Bool.Decides.{nat_tests}
use Rattle.spirv_model.specs.declared.module.Inst.{Inst}
use Rattle.spirv_model.specs.declared.module.Words.{Words}
use Rattle.spirv_model.specs.declared.op.TheConstants as op
use Rattle.spirv_model.specs.declared.storage_class.TheConstants as storage_class
use Rattle.spirv_model.specs.Operands.{word_at, entry_of, class_of}
use Rattle.body_model.specs.Grammar.{IsOp, Derives}
use Rattle.valid_model.specs.declared.meaning.Meaning.TheVariants.{Variable, Other}
use Rattle.valid_model.specs.Definitions.{inst_at}
use Rattle.valid_model.specs.Knowledge.{is_storage_class}
use Rattle.valid_model.specs.Meanings.{variable_meaning, known_of, known_before, meaning}
use Rattle.check_model.specs.EntryPoints.{is_op_function}
use Rattle.check_model.specs.Storage.{is_in_function, is_wrong_storage}
use Rattle.check_model.specs.Typing.{Typing, typing_of}
use Rattle.check_model.specs.Validity.{has_wrong_storage, IsValidList}
use Rattle.stage_model.specs.Program.{program_of}
use Rattle.stage_model.specs.Start.{Values, Memory}
use Rattle.stage_model.specs.Effect.{read_ids}
use Rattle.typed_model.specs.Types.{HasTypes}
use Rattle.typed_model.proofs.EffectsRun.{instruction}
use Rattle.typed_model.proofs.PlainRuns.{at_op, variable_runs}
use Rattle.typed_model.proofs.InstructionsRun.{Does}
use Rattle.typed_model.proofs.KeptSteps.{variable_class}
use Rattle.typed_model.proofs.ModuleSteps.{variable_known}
use Rattle.typed_model.proofs.ModuleValues.{defined_at, meaning_at}
use Rattle.typed_model.proofs.ResultIds.{defines, defined_id}
use Rattle.typed_model.proofs.TypeLayouts.{same}
use Rattle.typed_model.proofs.ValidModules.{valid_stored}
use Rattle.typed_model.proofs.ValidTypes.{keeps_rules, valid_types}
use Rattle.typed_model.proofs.FunctionRuns.{function_within}

equal : (a b : ℕ) → a ≡ b → a == b ≡ true
equal a b is = grind (arith, nat_tests)

or_right : (a b : Bool) → b ≡ true → (a || b) ≡ true
or_right true b is = refl
or_right false b is = is

function_before : (insts : List Inst) (before place : ℕ) (found : Option Inst) → slice_get insts before ≡ found → IsOp op.FUNCTION found → before < place → list_any is_op_function (take place insts) ≡ true
function_before [] before place None at is less = absurd is
function_before [] before place (Some inst) at is less = cc
function_before (inst ∷ insts) before zero found at is less = absurd (omega (arith, less))
function_before (inst ∷ insts) zero (suc place) None at is less = absurd is
function_before (inst ∷ insts) zero (suc place) (Some own) at is less = ap (λ (b : Bool). b || list_any is_op_function (take place insts)) (ap (λ (i : Inst). i.op == op.FUNCTION) (same_inst inst own at) ∙ equal own.op op.FUNCTION is)
  where
    same_inst : (a b : Inst) → ◌≡◌ {A = Option Inst} (Some a) (Some b) → a ≡ b
    same_inst a b is = cc
function_before (inst ∷ insts) (suc before) (suc place) found at is less = or_right (is_op_function inst) (list_any is_op_function (take place insts)) (function_before insts before place found at is (omega (arith, less)))

in_function : (insts : List Inst) (d : Derives insts) (place : ℕ) → d.before + 1 ≤ place → is_in_function insts place ≡ true
unfolding is_in_function
in_function insts d place low = function_before insts d.before place (slice_get insts d.before) refl d.begins.function (omega (arith, low))

abbrev IsFunctionVariable : Typing → Inst → Type 0
IsFunctionVariable typing inst = (inside : Bool) → inside ≡ true → is_wrong_storage typing inside inst ≡ false → word_at 2 inst == storage_class.FUNCTION ≡ true

function_variable : (typing : Typing) (words : List ℕ) → IsFunctionVariable typing (instruction op.VARIABLE words)
unfolding is_wrong_storage
function_variable typing words true is none = not_false (slice_index words 2 == storage_class.FUNCTION) none
  where
    not_false : (b : Bool) → not b ≡ false → b ≡ true
    not_false true is = refl
    not_false false is = cc
function_variable typing words false is none = cc

-- it is of class Function
pub class_is : (words : Words) (v : IsValidList words) (place : ℕ) → v.derivation.before + 1 ≤ place → place < v.derivation.after → (inst_at words.insts place).op == op.VARIABLE ≡ true → word_at 2 (inst_at words.insts place) == storage_class.FUNCTION ≡ true
unfolding has_wrong_storage
class_is words v place low high is =
    let insts = words.insts in
    at_op (IsFunctionVariable (typing_of insts)) (inst_at insts place) op.VARIABLE is (function_variable (typing_of insts) (inst_at insts place).words) (is_in_function insts place)
    (in_function insts v.derivation place low) (valid_stored words v place (function_within insts v.derivation place high))

function_class : is_storage_class storage_class.FUNCTION ≡ true
function_class = refl

made : (type class : ℕ) → is_storage_class class ≡ true → variable_meaning type class ≡ Variable type class
made type class is = by_test (is_storage_class class) is
  where
    by_test : (b : Bool) → b ≡ true → (if b then Variable type class else Other) ≡ Variable type class
    by_test true is = refl
    by_test false is = cc

variable_words : (insts : List Inst) → HasTypes (program_of insts) → (values : Values) (memory : Memory) (before : ℕ) (words : List ℕ) (class : ℕ) → meaning insts (slice_index words 1) ≡ Variable (slice_index words 0) class → Does insts values memory before (instruction op.VARIABLE words)
unfolding read_ids class_of entry_of program_of
variable_words insts types values memory before words class means = record { read = []; are = refl; suit = tt; runs = variable_runs (program_of insts) types memory words [] class means }

pub variable_does : (words : Words) (v : IsValidList words) (place : ℕ) → v.derivation.before + 1 ≤ place → place < v.derivation.after → (inst_at words.insts place).op == op.VARIABLE ≡ true → (values : Values) (memory : Memory) (before : ℕ)
    → Does words.insts values memory before (inst_at words.insts place)
variable_does words v place low high is values memory before =
    let insts = words.insts in let inst = inst_at insts place in
    let within = function_within insts v.derivation place high in
    let defined = at_op (λ inst. defines (class_of inst.op) ≡ true) inst op.VARIABLE is variable_class in
    let at = defined_at insts place (word_at 1 inst) within (defined_id inst defined) (keeps_rules words v.sound place within).once in
    let stores : is_storage_class (word_at 2 inst) ≡ true = ap is_storage_class (same (word_at 2 inst) storage_class.FUNCTION (class_is words v place low high is)) ∙ function_class in
    let means : meaning insts (word_at 1 inst) ≡ Variable (word_at 0 inst) (word_at 2 inst) =
    meaning_at insts place (word_at 1 inst) at
    ∙ (at_op (λ inst. (known_of (known_before insts place) inst).meaning ≡ variable_meaning (word_at 0 inst) (word_at 2 inst)) inst op.VARIABLE is (variable_known (known_before insts place) inst.words) ∙ made (word_at 0 inst) (word_at 2 inst) stores) in
    at_op (λ inst. meaning insts (word_at 1 inst) ≡ Variable (word_at 0 inst) (word_at 2 inst) → Does insts values memory before inst) inst op.VARIABLE is
    (λ known. variable_words insts (valid_types words v.sound) values memory before inst.words (word_at 2 inst) known) means
