-- What is known of the results of a function's instructions.
use Rattle.std.proofs.Common.{◌≡◌, ℕ, ◌==◌, Bool, true, false, if◌then◌else◌, List, [], ◌∷◌, refl, ap, ◌∙◌, None}
use Rattle.spirv_model.specs.declared.module.Inst.{Inst}
use Rattle.spirv_model.specs.declared.op.TheConstants as op
use Rattle.spirv_model.specs.Operands.{word_at, entry_of, class_of, kinds, kinds_in, result_in, result}
use Rattle.body_model.specs.Classes.{is_plain}
use Rattle.valid_model.specs.declared.meaning.IdFacts.{IdFacts}
use Rattle.valid_model.specs.declared.meaning.Meaning.TheVariants.{Label, Other, Value as OfValue}
use Rattle.valid_model.specs.Knowledge.{Knowledge, means}
use Rattle.valid_model.specs.Types.{is_type}
use Rattle.valid_model.specs.Meanings.{is_constant, variable_meaning, other_meaning, known_of}
use Rattle.typed_model.proofs.BlockParts.{another}
use Rattle.change_model.specs.Plans.{Plan, renamed_by, kept_at, phi_left, predecessors_left, block_at}

-- ---- what is known

-- of the result of an instruction that is no type and no constant
abbrev pub function_facts : Inst → IdFacts
function_facts inst =
    if inst.op == op.VARIABLE then means (variable_meaning (word_at 0 inst) (word_at 2 inst)) else means (other_meaning inst.op (word_at 0 inst))

pub function_known : (known : Knowledge) (inst : Inst) → is_type inst.op ≡ false → is_constant inst.op ≡ false → known_of known inst ≡ function_facts inst
unfolding known_of
function_known known inst no_type no_constant = rw no_type (rw no_constant refl)

-- by the opcode
by_opcode : (inst : Inst) (opcode : ℕ) → inst.op ≡ opcode
    → function_facts inst ≡ (if opcode == op.VARIABLE then means (variable_meaning (word_at 0 inst) (word_at 2 inst)) else means (other_meaning opcode (word_at 0 inst)))
by_opcode inst opcode is = ap (λ (o : ℕ). if o == op.VARIABLE then means (variable_meaning (word_at 0 inst) (word_at 2 inst)) else means (other_meaning o (word_at 0 inst))) is

pub label_facts : (inst : Inst) → inst.op ≡ op.LABEL → function_facts inst ≡ means Label
label_facts inst is = by_opcode inst op.LABEL is

pub op_function_facts : (inst : Inst) → inst.op ≡ op.FUNCTION → function_facts inst ≡ means Other
op_function_facts inst is = by_opcode inst op.FUNCTION is

pub phi_facts : (inst : Inst) → inst.op ≡ op.PHI → function_facts inst ≡ means (OfValue (word_at 0 inst))
phi_facts inst is = by_opcode inst op.PHI is

record NoPlain : Type 0 where
  variable : is_plain op.VARIABLE ≡ false
  label : is_plain op.LABEL ≡ false
  function : is_plain op.FUNCTION ≡ false
  import : is_plain op.EXT_INST_IMPORT ≡ false
  phi : is_plain op.PHI ≡ false

no_plain : NoPlain
unfolding class_of entry_of
no_plain = record { variable = refl; label = refl; function = refl; import = refl; phi = refl }

pub plain_facts : (inst : Inst) → is_plain inst.op ≡ true → function_facts inst ≡ means (OfValue (word_at 0 inst))
plain_facts inst is =
    rw (another is_plain op.VARIABLE no_plain.variable inst.op is) (rw (another is_plain op.LABEL no_plain.label inst.op is)
    (rw (another is_plain op.FUNCTION no_plain.function inst.op is) (rw (another is_plain op.EXT_INST_IMPORT no_plain.import inst.op is) refl)))

-- ---- instructions without a result

no_result : (inst : Inst) (opcode : ℕ) → inst.op ≡ opcode → ((inst : Inst) → result_in (entry_of opcode) inst ≡ None) → result inst ≡ None
unfolding result
no_result inst opcode is none = ap (λ (o : ℕ). result_in (entry_of o) inst) is ∙ none inst

pub store_result : (inst : Inst) → inst.op ≡ op.STORE → result inst ≡ None
unfolding entry_of
store_result inst is = no_result inst op.STORE is (λ inst. refl)

pub selection_merge_result : (inst : Inst) → inst.op ≡ op.SELECTION_MERGE → result inst ≡ None
unfolding entry_of
selection_merge_result inst is = no_result inst op.SELECTION_MERGE is (λ inst. refl)

pub loop_merge_result : (inst : Inst) → inst.op ≡ op.LOOP_MERGE → result inst ≡ None
unfolding entry_of
loop_merge_result inst is = no_result inst op.LOOP_MERGE is (λ inst. refl)

pub function_end_result : (inst : Inst) → inst.op ≡ op.FUNCTION_END → result inst ≡ None
unfolding entry_of
function_end_result inst is = no_result inst op.FUNCTION_END is (λ inst. refl)

-- ---- instructions that read no ids stay as they are

abbrev KeepsWords : ℕ → Type 0
KeepsWords opcode = (name : ℕ → ℕ) (words : List ℕ) → renamed_by name (kinds_in (entry_of opcode) words) words ≡ words

label_words : KeepsWords op.LABEL
unfolding entry_of
label_words name [] = refl
label_words name (a ∷ []) = refl
label_words name (a ∷ b ∷ words) = refl

variable_words : KeepsWords op.VARIABLE
unfolding entry_of
variable_words name [] = refl
variable_words name (a ∷ []) = refl
variable_words name (a ∷ b ∷ []) = refl
variable_words name (a ∷ b ∷ c ∷ []) = refl
variable_words name (a ∷ b ∷ c ∷ d ∷ words) = refl

as_it_is : (plan : Plan) (insts : List Inst) (place : ℕ) (inst : Inst) (opcode : ℕ) → inst.op ≡ opcode → opcode == op.PHI ≡ false → KeepsWords opcode → kept_at plan insts place inst ≡ inst
unfolding kinds
as_it_is plan insts place inst opcode is isnt keeps =
    ap (λ (b : Bool). if b then phi_left plan.name (predecessors_left plan insts (block_at insts place)) inst else record inst { words = renamed_by plan.name (kinds inst) inst.words })
    (ap (λ (o : ℕ). o == op.PHI) is ∙ isnt)
    ∙ ap (λ (l : List ℕ). record inst { words = l }) (ap (λ (o : ℕ). renamed_by plan.name (kinds_in (entry_of o) inst.words) inst.words) is ∙ keeps plan.name inst.words)

pub label_as_is : (plan : Plan) (insts : List Inst) (place : ℕ) (inst : Inst) → inst.op ≡ op.LABEL → kept_at plan insts place inst ≡ inst
label_as_is plan insts place inst is = as_it_is plan insts place inst op.LABEL is refl label_words

pub variable_as_is : (plan : Plan) (insts : List Inst) (place : ℕ) (inst : Inst) → inst.op ≡ op.VARIABLE → kept_at plan insts place inst ≡ inst
variable_as_is plan insts place inst is = as_it_is plan insts place inst op.VARIABLE is refl variable_words
