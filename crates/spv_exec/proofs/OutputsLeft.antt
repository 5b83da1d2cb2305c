-- What the outputs of a module hold, and the words of its memory.
use Rattle.std.proofs.Common.{◌≡◌, ℕ, zero, suc, ◌+◌, ◌<◌, ◌≤◌, ◌==◌, Bool, true, false, if◌then◌else◌, List, [], ◌∷◌, length, map, take, refl, ap, sym, ◌∙◌, subst, arith, Option, None, Some}
use Rattle.std.specs.Prelude.{nat_lt, slice_index, slice_index_or}
use Rattle.std.specs.List.{find, range_with_len}
use Rattle.std.specs.Option.{option_map}
use Rattle.std.proofs.lemmas.Bool.Decides.{nat_tests}
use Rattle.std.proofs.lemmas.List.{take_all}
use Rattle.limits.specs.declared.TheConstants.{LOCATIONS, COMPONENTS}
use Rattle.spirv_model.specs.declared.module.Inst.{Inst}
use Rattle.spirv_model.specs.declared.module.Words.{Words}
use Rattle.spirv_model.specs.declared.op.TheConstants as op
use Rattle.spirv_model.specs.declared.builtin.TheConstants as builtin
use Rattle.spirv_model.specs.declared.decoration.TheConstants.{BUILT_IN, LOCATION}
use Rattle.spirv_model.specs.Operands.{word_at, result}
use Rattle.state_model.specs.declared.buffers.Buffers.{Buffers}
use Rattle.valid_model.specs.Definitions.{definition, inst_at}
use Rattle.check_model.specs.Validity.{IsValidList}
use Rattle.stage_model.specs.declared.inputs.Inputs.{Inputs}
use Rattle.stage_model.specs.Program.{Program, program_of, held_layout}
use Rattle.stage_model.specs.Start.{Memory, first_memory}
use Rattle.stage_model.specs.Stage.{size_in, is_output_with, output_with, components_left, position_left, slots_left}
use Rattle.typed_model.proofs.ValidTypes.{defined_within}
use Rattle.frame_model.specs.Frame.{memory_place, variable_words}
use Rattle.frame_model.specs.Shown.{ShowsMemory}
use Rattle.frame_model.specs.Truths.{HoldsTruths}
use Rattle.frame_model.proofs.FrameSizes.{memory_place_within}
use Rattle.frame_model.proofs.ResultWords.{makes_variable}
use Rattle.spv_exec.specs.declared.variables.Fill.{Fill}
use Rattle.spv_exec.specs.declared.outputs.Output.{Output}
use Rattle.spv_exec.specs.declared.outputs.Outputs.{Outputs}
use Rattle.spv_exec.specs.Outputs.{IsOutputOf, IsOutput, AreOutputs, component_at, components_at, slots_at}
use Rattle.spv_exec.specs.Variables.{filled, AreFills}

-- ---- one output

by_less : (k count x y : ℕ) → (k < count → x ≡ y) → (if nat_lt k count then x else 0) ≡ (if nat_lt k count then y else 0)
by_less k count x y same = by_test (nat_lt k count) refl x y same
  where
    by_test : (b : Bool) → b ≡ nat_lt k count → (x y : ℕ) → (k < count → x ≡ y) → (if b then x else 0) ≡ (if b then y else 0)
    by_test true is x y same = same (grind (arith, nat_tests))
    by_test false is x y same = refl

held_words : (program : Program) (inst : Inst) (id : ℕ) → inst.op == op.VARIABLE ≡ true → result inst ≡ Some id → variable_words program inst ≡ size_in (held_layout program id)
unfolding variable_words
held_words program inst id is own =
    ap (λ (b : Bool). if b then size_in (elim (result inst) [ None ↦ None | Some id ↦ held_layout program id ]) else 0) is
    ∙ ap (λ (o : Option ℕ). size_in (elim o [ None ↦ None | Some id ↦ held_layout program id ])) own

abbrev component_of : Program → Memory → ℕ → ℕ → ℕ
component_of program held variable k = if nat_lt k (size_in (held_layout program variable)) then held variable k else 0

component_is : (words : Words) → IsValidList words → (memory : List ℕ) (held : Memory) → ShowsMemory (program_of words.insts) memory held → (inst : Inst) (output : Output) → IsOutputOf (program_of words.insts) inst output
    → (k : ℕ) → component_at memory output k ≡ component_of (program_of words.insts) held (slice_index inst.words 1) k
unfolding program_of
component_is words v memory held shows inst output is k =
    let program = program_of words.insts in
    let there = inst_at words.insts is.place in
    let makes : there.op == op.VARIABLE ≡ true = ap (λ (i : Inst). i.op == op.VARIABLE) is.at ∙ is.makes in
    let m = makes_variable words v is.place is.within makes in
    let size : variable_words program there ≡ size_in (held_layout program (word_at 1 there)) = held_words program there (word_at 1 there) makes m.own in
    let count : output.count ≡ size_in (held_layout program (word_at 1 there)) = is.count ∙ sym (ap (variable_words program) is.at) ∙ size in
    ap (λ (n : ℕ). if nat_lt k n then slice_index memory (output.start + k) else 0) count
    ∙ by_less k (size_in (held_layout program (word_at 1 there))) (slice_index memory (output.start + k)) (held (word_at 1 there) k)
    (λ less. ap (λ (n : ℕ). slice_index memory (n + k)) is.start ∙ shows.shows (word_at 1 there) is.place k m.there (omega (arith, less, size)))
    ∙ ap (λ (i : Inst). component_of program held (slice_index i.words 1) k) is.at

components_are : (words : Words) → IsValidList words → (memory : List ℕ) (held : Memory) → ShowsMemory (program_of words.insts) memory held → (found : Option Inst) (output : Option Output) → IsOutput (program_of words.insts) found output
    → components_at memory output ≡ components_left (program_of words.insts) held (option_map (λ (inst : Inst). slice_index inst.words 1) found)
components_are words v memory held shows None None is = refl
components_are words v memory held shows None (Some output) is = absurd is
components_are words v memory held shows (Some inst) None is = absurd is
components_are words v memory held shows (Some inst) (Some output) is = λ i. map (λ k. component_is words v memory held shows inst output is k i) (range_with_len 0 COMPONENTS)

-- ---- all outputs

all_insts : (insts : List Inst) → take (length insts) insts ≡ insts
all_insts insts = take_all (length insts) insts (omega arith)

found_left : (words : Words) → IsValidList words → (memory : List ℕ) (held : Memory) → ShowsMemory (program_of words.insts) memory held → (decoration word : ℕ) (output : Option Output)
    → IsOutput (program_of words.insts) (find (is_output_with (program_of words.insts) decoration word) (take (length words.insts) words.insts)) output
    → components_at memory output ≡ components_left (program_of words.insts) held (output_with (program_of words.insts) decoration word)
unfolding program_of
found_left words v memory held shows decoration word output is =
    components_are words v memory held shows (find (is_output_with (program_of words.insts) decoration word) (take (length words.insts) words.insts)) output is
    ∙ ap (λ (l : List Inst). components_left (program_of words.insts) held (option_map (λ (inst : Inst). slice_index inst.words 1) (find (is_output_with (program_of words.insts) decoration word) l))) (all_insts words.insts)

pub position_is : (words : Words) → IsValidList words → (memory : List ℕ) (held : Memory) (outputs : Outputs) → AreOutputs words.insts (length words.insts) outputs → ShowsMemory (program_of words.insts) memory held
    → components_at memory outputs.position ≡ position_left (program_of words.insts) held
unfolding position_left
position_is words v memory held outputs are shows = found_left words v memory held shows BUILT_IN builtin.POSITION outputs.position are.position

same_range : {X : Type 0} (f g : ℕ → X) (a n : ℕ) → ((k : ℕ) → k < a + n → f k ≡ g k) → map f (range_with_len a n) ≡ map g (range_with_len a n)
same_range f g a zero same = refl
same_range f g a (suc n) same = ap (λ x. x ∷ map f (range_with_len (a + 1) n)) (same a (omega arith)) ∙ ap (λ l. g a ∷ l) (same_range f g (a + 1) n (λ k less. same k (omega (arith, less))))

pub slots_are : (words : Words) → IsValidList words → (memory : List ℕ) (held : Memory) (outputs : Outputs) → AreOutputs words.insts (length words.insts) outputs → ShowsMemory (program_of words.insts) memory held
    → slots_at memory outputs.slots ≡ slots_left (program_of words.insts) held
unfolding slots_left
slots_are words v memory held outputs are shows =
    same_range (λ (k : ℕ). components_at memory (slice_index_or outputs.slots k None)) (λ (k : ℕ). components_left (program_of words.insts) held (output_with (program_of words.insts) LOCATION k)) 0 LOCATIONS
    (λ k less. found_left words v memory held shows LOCATION k (slice_index_or outputs.slots k None) (are.slots k less))

-- ---- the memory when a run begins

pub shows_filled : (insts : List Inst) (fills : List Fill) (inputs : Inputs) (buffers : Buffers) (old new : List ℕ) → HoldsTruths (program_of insts) (first_memory (program_of insts) inputs buffers) → length new ≡ length old → length old ≡ memory_place (program_of insts) (length insts) → AreFills (program_of insts) (length insts) fills
    → ((at : ℕ) → at < length old → slice_index new at ≡ filled inputs buffers fills at) → ShowsMemory (program_of insts) new (first_memory (program_of insts) inputs buffers)
unfolding program_of
shows_filled insts fills inputs buffers old new truths same long are is = record {
  size = same ∙ long;
  shows = λ variable place k at less.
      let within = defined_within insts variable place at in
      let last = memory_place_within (program_of insts) place within in
      is (memory_place (program_of insts) place + k) (omega (arith, less, last, long)) ∙ are.held inputs buffers variable place k within at less;
  truths = truths;
}
