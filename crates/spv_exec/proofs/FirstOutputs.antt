-- The first outputs among the instructions of a module, by one more instruction.
use Rattle.std.proofs.Common.{◌≡◌, ℕ, ◌+◌, ◌<◌, ◌==◌, ◌&&◌, Bool, true, false, cond, List, [], ◌∷◌, length, take, get_or, replicate, refl, ap, sym, ◌∙◌, subst, Option, None, Some}
use Rattle.std.specs.Prelude.{slice_index, slice_index_or}
use Rattle.std.specs.List.{find}
use Rattle.std.specs.Option.{option_or}
use Rattle.std.proofs.lemmas.List.{take_more}
use Rattle.std.proofs.lemmas.List.Folds.{find-append}
use Rattle.basics.proofs.Bools.{first_of_both, second_of_both}
use Rattle.limits.specs.declared.TheConstants.{LOCATIONS}
use Rattle.spirv_model.specs.declared.module.Inst.{Inst}
use Rattle.spirv_model.specs.declared.op.TheConstants as op
use Rattle.spirv_model.specs.declared.storage_class.TheConstants as class
use Rattle.spirv_model.specs.declared.builtin.TheConstants as builtin
use Rattle.spirv_model.specs.declared.decoration.TheConstants.{BUILT_IN, LOCATION}
use Rattle.valid_model.specs.Definitions.{inst_at, no_instruction}
use Rattle.stage_model.specs.Program.{Program, program_of}
use Rattle.stage_model.specs.Stage.{is_number, is_output_with}
use Rattle.frame_model.specs.Frame.{memory_place, variable_words}
use Rattle.spv_exec.specs.declared.outputs.Output.{Output}
use Rattle.spv_exec.specs.declared.outputs.Outputs.{Outputs}
use Rattle.spv_exec.specs.Outputs.{first_or, IsOutputOf, IsOutput, AreOutputs}

found_more : (p : Inst → Bool) (insts : List Inst) (place : ℕ) → place < length insts
    → find p (take (place + 1) insts) ≡ option_or (find p (take place insts)) (cond (p (inst_at insts place)) (Some (inst_at insts place)) None)
found_more p insts place within = ap (find p) (take_more insts place no_instruction within) ∙ find-append p (take place insts) (inst_at insts place ∷ [])

output_more : (program : Program) (found : Option Inst) (inst : Inst) (b : Bool) (before : Option Output) (new : Output) → IsOutputOf program inst new → IsOutput program found before
    → IsOutput program (option_or found (cond b (Some inst) None)) (first_or before b new)
output_more program None inst true None new is before = is
output_more program None inst false None new is before = tt
output_more program None inst b (Some output) new is before = absurd before
output_more program (Some first) inst b (Some output) new is before = before
output_more program (Some first) inst b None new is before = absurd before

none_more : {found : Option Inst} (inst : Inst) (b : Bool) → b ≡ false → found ≡ option_or found (cond b (Some inst) None)
none_more {found = None} inst true is = cc
none_more {found = None} inst false is = refl
none_more {found = Some first} inst b is = refl

-- what makes no output
is_none : (program : Program) (decoration word : ℕ) (inst : Inst) → ((inst.op == op.VARIABLE) && (slice_index inst.words 2 == class.OUTPUT)) ≡ false → is_output_with program decoration word inst ≡ false
is_none program decoration word inst isnt = ap (λ (b : Bool). b && is_number word (program.decoration (slice_index inst.words 1) decoration)) isnt

is_some : (program : Program) (decoration word : ℕ) (inst : Inst) → inst.op == op.VARIABLE ≡ true → slice_index inst.words 2 == class.OUTPUT ≡ true
    → is_output_with program decoration word inst ≡ is_number word (program.decoration (slice_index inst.words 1) decoration)
is_some program decoration word inst variable output =
    ap (λ (b : Bool). (b && (slice_index inst.words 2 == class.OUTPUT)) && is_number word (program.decoration (slice_index inst.words 1) decoration)) variable
    ∙ ap (λ (b : Bool). (true && b) && is_number word (program.decoration (slice_index inst.words 1) decoration)) output

kept : (insts : List Inst) (place decoration word : ℕ) (output : Option Output) → place < length insts → ((inst_at insts place).op == op.VARIABLE) && (slice_index (inst_at insts place).words 2 == class.OUTPUT) ≡ false
    → IsOutput (program_of insts) (find (is_output_with (program_of insts) decoration word) (take place insts)) output → IsOutput (program_of insts) (find (is_output_with (program_of insts) decoration word) (take (place + 1) insts)) output
kept insts place decoration word output within isnt before =
    let p = is_output_with (program_of insts) decoration word in
    subst (λ (found : Option Inst). IsOutput (program_of insts) found output)
    (none_more (inst_at insts place) (p (inst_at insts place)) (is_none (program_of insts) decoration word (inst_at insts place) isnt) ∙ sym (found_more p insts place within)) before

pub outputs_kept : (insts : List Inst) (place : ℕ) (outputs : Outputs) → place < length insts → ((inst_at insts place).op == op.VARIABLE) && (slice_index (inst_at insts place).words 2 == class.OUTPUT) ≡ false
    → AreOutputs insts place outputs → AreOutputs insts (place + 1) outputs
outputs_kept insts place outputs within isnt before = record {
  position = kept insts place BUILT_IN builtin.POSITION outputs.position within isnt before.position;
  length_is = before.length_is;
  slots = λ k less. kept insts place LOCATION k (slice_index_or outputs.slots k None) within isnt (before.slots k less);
}

-- what makes one
added : (insts : List Inst) (place decoration word : ℕ) (before after : Option Output) (new : Output) → place < length insts → (inst_at insts place).op == op.VARIABLE ≡ true → slice_index (inst_at insts place).words 2 == class.OUTPUT ≡ true
    → IsOutputOf (program_of insts) (inst_at insts place) new → after ≡ first_or before (is_number word ((program_of insts).decoration (slice_index (inst_at insts place).words 1) decoration)) new
    → IsOutput (program_of insts) (find (is_output_with (program_of insts) decoration word) (take place insts)) before → IsOutput (program_of insts) (find (is_output_with (program_of insts) decoration word) (take (place + 1) insts)) after
added insts place decoration word before after new within variable output is first was =
    let inst = inst_at insts place in
    let p = is_output_with (program_of insts) decoration word in
    let same = is_some (program_of insts) decoration word inst variable output in
    subst (λ (found : Option Inst). IsOutput (program_of insts) found after) (sym (found_more p insts place within))
    (subst (λ (o : Option Output). IsOutput (program_of insts) (option_or (find p (take place insts)) (cond (p inst) (Some inst) None)) o) (ap (λ (b : Bool). first_or before b new) same ∙ sym first)
    (output_more (program_of insts) (find p (take place insts)) inst (p inst) before new is was))

pub outputs_added : (insts : List Inst) (place : ℕ) (outputs after : Outputs) (new : Output) → place < length insts → (inst_at insts place).op == op.VARIABLE ≡ true → slice_index (inst_at insts place).words 2 == class.OUTPUT ≡ true
    → new.start ≡ memory_place (program_of insts) place → new.count ≡ variable_words (program_of insts) (inst_at insts place) → (program_of insts).insts ≡ insts → AreOutputs insts place outputs
    → after.position ≡ first_or outputs.position (is_number builtin.POSITION ((program_of insts).decoration (slice_index (inst_at insts place).words 1) BUILT_IN)) new → length after.slots ≡ LOCATIONS
    → ((k : ℕ) → k < LOCATIONS → slice_index_or after.slots k None ≡ first_or (slice_index_or outputs.slots k None) (is_number k ((program_of insts).decoration (slice_index (inst_at insts place).words 1) LOCATION)) new)
    → AreOutputs insts (place + 1) after
outputs_added insts place outputs after new within variable output start count are before position long slots =
    let is : IsOutputOf (program_of insts) (inst_at insts place) new = record {
      place = place;
      within = subst (λ (list : List Inst). place < length list) (sym are) within;
      at = ap (λ (list : List Inst). inst_at list place) are;
      makes = variable;
      start = start;
      count = count;
    } in
    record {
      position = added insts place BUILT_IN builtin.POSITION outputs.position after.position new within variable output is position before.position;
      length_is = long;
      slots = λ k less. added insts place LOCATION k (slice_index_or outputs.slots k None) (slice_index_or after.slots k None) new within variable output is (slots k less) (before.slots k less);
    }

-- ---- by an instruction that was read

abbrev makes_output : Inst → Bool
makes_output inst = (inst.op == op.VARIABLE) && (slice_index inst.words 2 == class.OUTPUT)

pub outputs_kept_by : (insts : List Inst) (place : ℕ) (inst : Inst) (outputs : Outputs) (b : Bool) → place < length insts → inst ≡ inst_at insts place → b ≡ makes_output inst → b ≡ false → AreOutputs insts place outputs → AreOutputs insts (place + 1) outputs
outputs_kept_by insts place inst outputs b within at is isnt before = outputs_kept insts place outputs within (sym (is ∙ ap makes_output at) ∙ isnt) before

-- the decorations of the result of an instruction
abbrev pub IsOfResult : List Inst → ℕ → (id decoration : ℕ) → Option ℕ → Type 0
IsOfResult insts place id decoration word = (id ≡ slice_index (inst_at insts place).words 1) × (word ≡ (program_of insts).decoration id decoration)

of_result : (insts : List Inst) (place id decoration : ℕ) (word : Option ℕ) → IsOfResult insts place id decoration word → word ≡ (program_of insts).decoration (slice_index (inst_at insts place).words 1) decoration
of_result insts place id decoration word is = is.1 ∙ ap (λ (n : ℕ). (program_of insts).decoration n decoration) is.0

insts_are : (insts : List Inst) → (program_of insts).insts ≡ insts
unfolding program_of
insts_are insts = refl

pub outputs_added_by : (insts : List Inst) (place : ℕ) (inst : Inst) (outputs after : Outputs) (new : Output) (b : Bool) (first_id second_id : ℕ) (number location : Option ℕ) → place < length insts → inst ≡ inst_at insts place
    → b ≡ makes_output inst → b ≡ true → new.start ≡ memory_place (program_of insts) place → new.count ≡ variable_words (program_of insts) inst → AreOutputs insts place outputs
    → first_id ≡ slice_index inst.words 1 → number ≡ (program_of insts).decoration first_id BUILT_IN → second_id ≡ slice_index inst.words 1 → location ≡ (program_of insts).decoration second_id LOCATION
    → after.position ≡ first_or outputs.position (is_number builtin.POSITION number) new → length after.slots ≡ LOCATIONS
    → ((k : ℕ) → k < LOCATIONS → slice_index_or after.slots k None ≡ first_or (slice_index_or outputs.slots k None) (is_number k location) new)
    → AreOutputs insts (place + 1) after
outputs_added_by insts place inst outputs after new b first_id second_id number location within at is output start count before first_is number_is second_is location_is position long slots =
    let makes : makes_output (inst_at insts place) ≡ true = sym (is ∙ ap makes_output at) ∙ output in
    let word : slice_index inst.words 1 ≡ slice_index (inst_at insts place).words 1 = ap (λ (i : Inst). slice_index i.words 1) at in
    outputs_added insts place outputs after new within
    (first_of_both ((inst_at insts place).op == op.VARIABLE) (slice_index (inst_at insts place).words 2 == class.OUTPUT) makes)
    (second_of_both ((inst_at insts place).op == op.VARIABLE) (slice_index (inst_at insts place).words 2 == class.OUTPUT) makes)
    start (count ∙ ap (variable_words (program_of insts)) at) (insts_are insts) before
    (position ∙ ap (λ (o : Option ℕ). first_or outputs.position (is_number builtin.POSITION o) new) (of_result insts place first_id BUILT_IN number (first_is ∙ word, number_is))) long
    (λ k less. slots k less ∙ ap (λ (o : Option ℕ). first_or (slice_index_or outputs.slots k None) (is_number k o) new) (of_result insts place second_id LOCATION location (second_is ∙ word, location_is)))
