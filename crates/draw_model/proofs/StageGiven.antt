-- What the outcome of a stage depends on, of what it is given.
use Rattle.std.proofs.Common.{◌≡◌, ℕ, Bool, true, false, List, [], ◌∷◌, refl, ap, sym, ◌∙◌}
use Rattle.std.proofs.Math.Path.{fun_ext}
use Rattle.std.specs.Prelude.{Option, None, Some, take, ◌==◌, unwrap_or, slice_index}
use Rattle.std.specs.Option.{option_map, option_and_then}
use Rattle.std.specs.List.{fold}
use Rattle.spirv_model.specs.declared.module.Inst.{Inst}
use Rattle.spirv_model.specs.declared.storage_class.TheConstants.{INPUT}
use Rattle.spirv_model.specs.declared.decoration.TheConstants.{SPEC_ID, BUILT_IN, LOCATION}
use Rattle.valid_model.specs.declared.meaning.Meaning.{Meaning}
use Rattle.valid_model.specs.declared.meaning.Meaning.TheVariants.{Variable}
use Rattle.valid_model.specs.Meanings.{meaning}
use Rattle.valid_model.specs.DecorationWords.{decoration_of}
use Rattle.state_model.specs.declared.buffers.Buffers.{Buffers}
use Rattle.state_model.specs.declared.parts.SpecValues.{SpecValues}
use Rattle.stage_model.specs.declared.inputs.Inputs.{Inputs}
use Rattle.stage_model.specs.Program.{Program, program_of}
use Rattle.stage_model.specs.Start.{Values, Memory, entry_word, specialized, constant_of, with_definition, defined_by, input_word, class_word, variable_word, first_memory, no_values}
use Rattle.stage_model.specs.Machine.{run}
use Rattle.stage_model.specs.Stage.{Given, Outcome, start_at, first_label, outcome_of, enough_steps, stage}
use Rattle.draw_model.specs.Invocation.{invoked, no_outcome}
use Rattle.draw_model.specs.Agreement.{HasInput, slot}
use Rattle.draw_model.proofs.Entries.{same_number}

-- the outcome by the values of ids before the first block, and the memory
abbrev outcome_from : List Inst → (ℕ → Values) → Memory → Option Outcome
outcome_from insts values memory = option_and_then
    (λ first. option_map (outcome_of (program_of insts)) (run (enough_steps insts) (program_of insts) (record {
      place = first;
      state = record { label = 0; before = 0; values = values first; values_at_entry = values first; memory = memory; back_edges = 0; steps = 0 };
    })))
    (first_label insts)

outcome_is : (insts : List Inst) (given : Given) → stage insts given
    ≡ outcome_from insts (λ first. defined_by (program_of insts) given.entries (take first (program_of insts).insts)) (first_memory (program_of insts) given.inputs given.buffers)
unfolding stage start_at
outcome_is insts given = refl

then_same : {A B : Type 0} (f g : A → Option B) (o : Option A) → ((x : A) → o ≡ Some x → f x ≡ g x) → option_and_then f o ≡ option_and_then g o
then_same f g None h = refl
then_same f g (Some x) h = h x refl

-- ---- entries

-- two lists of entries say the same of each id that the module declares
abbrev pub SaySame : List Inst → SpecValues → SpecValues → Type 0
SaySame insts a b = (id word : ℕ) → decoration_of insts id SPEC_ID ≡ Some word → entry_word a.entries word ≡ entry_word b.entries word

specialized_same : (insts : List Inst) (a b : SpecValues) → SaySame insts a b → (id : ℕ) → specialized (program_of insts) a id ≡ specialized (program_of insts) b id
unfolding program_of
specialized_same insts a b h id = then_same (entry_word a.entries) (entry_word b.entries) (decoration_of insts id SPEC_ID) (h id)

constant_same : (program : Program) (a b : SpecValues) → ((id : ℕ) → specialized program a id ≡ specialized program b id) →
    (values : Values) (opcode : ℕ) (words : List ℕ) → constant_of program a values opcode words ≡ constant_of program b values opcode words
unfolding constant_of
constant_same program a b h values opcode [] = refl
constant_same program a b h values opcode (type ∷ []) = refl
constant_same program a b h values opcode (type ∷ id ∷ words) = rw (h id) refl

definition_same : (program : Program) (a b : SpecValues) → ((id : ℕ) → specialized program a id ≡ specialized program b id) →
    (values : Values) (inst : Inst) → with_definition program a values inst ≡ with_definition program b values inst
definition_same program a b h values inst = rw (constant_same program a b h values inst.op inst.words) refl

defined_same : (program : Program) (a b : SpecValues) → ((id : ℕ) → specialized program a id ≡ specialized program b id) →
    (insts : List Inst) → defined_by program a insts ≡ defined_by program b insts
unfolding defined_by
defined_same program a b h insts =
    ap (λ (f : Values → Inst → Values). fold f no_values insts) (fun_ext (λ values. fun_ext (λ inst. definition_same program a b h values inst)))

pub entries_same : (insts : List Inst) (a b : SpecValues) (buffers : Buffers) (inputs : Inputs) → SaySame insts a b → invoked insts a buffers inputs ≡ invoked insts b buffers inputs
unfolding invoked
entries_same insts a b buffers inputs h =
    let memory = first_memory (program_of insts) inputs buffers in
    let values : (λ first. defined_by (program_of insts) a (take first (program_of insts).insts)) ≡ (λ first. defined_by (program_of insts) b (take first (program_of insts).insts)) =
    fun_ext (λ first. defined_same (program_of insts) a b (specialized_same insts a b h) (take first (program_of insts).insts)) in
    ap (λ (o : Option Outcome). unwrap_or o no_outcome)
    (outcome_is insts (record { entries = a; inputs = inputs; buffers = buffers })
    ∙ ap (λ (v : ℕ → Values). outcome_from insts v memory) values
    ∙ sym (outcome_is insts (record { entries = b; inputs = inputs; buffers = buffers })))

-- ---- slots

-- two lists of slots are the same where the module has an input
abbrev pub ReadSame : List Inst → List (List ℕ) → List (List ℕ) → Type 0
ReadSame insts a b = (location : ℕ) → HasInput insts location → slot a location ≡ slot b location

input_same : (insts : List Inst) (inputs : Inputs) (slots : List (List ℕ)) (variable type at : ℕ) → meaning insts variable ≡ Variable type INPUT → ReadSame insts inputs.slots slots →
    (built_in location : Option ℕ) → decoration_of insts variable LOCATION ≡ location →
    input_word inputs built_in location at ≡ input_word (record inputs { slots = slots }) built_in location at
input_same insts inputs slots variable type at is h (Some number) location located = refl
input_same insts inputs slots variable type at is h None None located = refl
input_same insts inputs slots variable type at is h None (Some location) located =
    ap (λ (words : List ℕ). slice_index words at) (h location (variable, record { type = type; variable = is; located = located }))

class_same : (insts : List Inst) (inputs : Inputs) (slots : List (List ℕ)) (buffers : Buffers) (variable type storage at : ℕ) → meaning insts variable ≡ Variable type storage →
    ReadSame insts inputs.slots slots → (same : Bool) → (storage == INPUT) ≡ same →
    class_word (program_of insts) inputs buffers variable storage at ≡ class_word (program_of insts) (record inputs { slots = slots }) buffers variable storage at
unfolding program_of
class_same insts inputs slots buffers variable type storage at is h true test =
    rw test (input_same insts inputs slots variable type at (is ∙ ap (Variable type) (same_number storage INPUT test)) h (decoration_of insts variable BUILT_IN) (decoration_of insts variable LOCATION) refl)
class_same insts inputs slots buffers variable type storage at is h false test = rw test refl

word_same : (insts : List Inst) (inputs : Inputs) (slots : List (List ℕ)) (buffers : Buffers) (variable at : ℕ) → ReadSame insts inputs.slots slots →
    (kind : Meaning) → meaning insts variable ≡ kind →
    variable_word (program_of insts) inputs buffers variable kind at ≡ variable_word (program_of insts) (record inputs { slots = slots }) buffers variable kind at
word_same insts inputs slots buffers variable at h (Variable type storage) is =
    class_same insts inputs slots buffers variable type storage at is h (storage == INPUT) refl
word_same insts inputs slots buffers variable at h kind is = refl

memory_same : (insts : List Inst) (inputs : Inputs) (slots : List (List ℕ)) (buffers : Buffers) → ReadSame insts inputs.slots slots →
    first_memory (program_of insts) inputs buffers ≡ first_memory (program_of insts) (record inputs { slots = slots }) buffers
unfolding first_memory program_of
memory_same insts inputs slots buffers h =
    fun_ext (λ variable. fun_ext (λ at. word_same insts inputs slots buffers variable at h (meaning insts variable) refl))

-- an invocation reads its slots only where its module has an input
pub slots_same : (insts : List Inst) (entries : SpecValues) (buffers : Buffers) (inputs : Inputs) (slots : List (List ℕ)) → ReadSame insts inputs.slots slots →
    invoked insts entries buffers inputs ≡ invoked insts entries buffers (record inputs { slots = slots })
unfolding invoked
slots_same insts entries buffers inputs slots h =
    ap (λ (o : Option Outcome). unwrap_or o no_outcome)
    (outcome_is insts (record { entries = entries; inputs = inputs; buffers = buffers })
    ∙ ap (λ (m : Memory). outcome_from insts (λ first. defined_by (program_of insts) entries (take first (program_of insts).insts)) m) (memory_same insts inputs slots buffers h)
    ∙ sym (outcome_is insts (record { entries = entries; inputs = record inputs { slots = slots }; buffers = buffers })))
