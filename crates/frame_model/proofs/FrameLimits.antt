-- Frames and memories of valid modules are short.
use Rattle.std.proofs.Common.{ℕ, zero, suc, ◌+◌, ◌*◌, ◌^◌, ◌≤◌, ◌==◌, Bool, true, false, if◌then◌else◌, List, [], ◌∷◌, length, subst, arith, Option, None, Some}
use Rattle.std.specs.Option.{option_and_then}
use Rattle.std.specs.List.{sum_by, flat_map}
use Rattle.std.proofs.lemmas.List.Concat.{length-flat_map}
use Rattle.std.proofs.lemmas.List.Sums.{sum_by-cons}
use Rattle.limits.specs.declared.TheConstants.{TYPE_WORDS, MODULE_WORDS}
use Rattle.spirv_model.specs.declared.module.Inst.{Inst}
use Rattle.spirv_model.specs.declared.module.Words.{Words}
use Rattle.spirv_model.specs.declared.op.TheConstants.{VARIABLE}
use Rattle.spirv_model.specs.Operands.{result}
use Rattle.spirv_model.specs.Module.{words_of}
use Rattle.valid_model.specs.declared.meaning.Meaning.{Meaning}
use Rattle.valid_model.specs.declared.meaning.Meaning.TheVariants.{Shape as OfShape}
use Rattle.valid_model.specs.declared.meaning.Shape.TheVariants.{Pointer as PointerType}
use Rattle.valid_model.specs.Definitions.{inst_at}
use Rattle.check_model.specs.Typing.{type_id}
use Rattle.check_model.specs.Validity.{IsValidList}
use Rattle.stage_model.specs.Program.{program_of, held_type, held_layout}
use Rattle.stage_model.specs.Stage.{size_in}
use Rattle.frame_model.specs.Frame.{type_words, words_of_type, id_words, frame_words, variable_words, frame_place, memory_place}
use Rattle.frame_model.proofs.FrameSizes.{frame_place_first, memory_place_first, frame_place_next, memory_place_next}
use Rattle.frame_model.proofs.KnownSizes.{known_size, known_few}

-- ---- one result

-- values of a type have few words
pub layout_few : (insts : List Inst) (type : ℕ) → size_in ((program_of insts).layout type) ≤ TYPE_WORDS
layout_few insts type = subst (λ (n : ℕ). n ≤ TYPE_WORDS) (known_size insts type) (known_few insts type)

by_meaning : (insts : List Inst) (type : ℕ) (m : Meaning) → type_words (program_of insts) type m ≤ TYPE_WORDS
by_meaning insts type (OfShape (PointerType class to)) = omega arith
by_meaning insts type m = layout_few insts type

by_type : (insts : List Inst) (type : Option ℕ) → words_of_type (program_of insts) type ≤ TYPE_WORDS
by_type insts None = omega arith
by_type insts (Some type) = by_meaning insts type ((program_of insts).meaning type)

by_id : (insts : List Inst) (id : Option ℕ) → id_words (program_of insts) id ≤ TYPE_WORDS
by_id insts None = omega arith
by_id insts (Some id) = by_type insts (type_id ((program_of insts).meaning id))

pub frame_words_few : (insts : List Inst) (inst : Inst) → frame_words (program_of insts) inst ≤ TYPE_WORDS
unfolding frame_words
frame_words_few insts inst = by_id insts (result inst)

by_held : (insts : List Inst) (type : Option ℕ) → size_in (option_and_then (program_of insts).layout type) ≤ TYPE_WORDS
by_held insts None = omega arith
by_held insts (Some type) = layout_few insts type

by_variable : (insts : List Inst) (id : Option ℕ) → size_in (elim id [ None ↦ None | Some id ↦ held_layout (program_of insts) id ]) ≤ TYPE_WORDS
unfolding held_layout
by_variable insts None = omega arith
by_variable insts (Some id) = by_held insts (held_type (program_of insts) id)

by_test : (b : Bool) (n : ℕ) → n ≤ TYPE_WORDS → (if b then n else 0) ≤ TYPE_WORDS
by_test true n few = few
by_test false n few = omega arith

pub variable_words_few : (insts : List Inst) (inst : Inst) → variable_words (program_of insts) inst ≤ TYPE_WORDS
unfolding variable_words
variable_words_few insts inst = by_test (inst.op == VARIABLE) _ (by_variable insts (result inst))

-- ---- all of them

-- so many instructions have at least so many words
pub fewer_words : (insts : List Inst) → sum_by (λ (inst : Inst). length inst.words) insts + length insts ≤ length (flat_map words_of insts)
fewer_words insts = let e = length-flat_map words_of insts in let l = by_sum insts in omega (arith, e, l)
  where
    by_sum : (insts : List Inst) → sum_by (λ (inst : Inst). length inst.words) insts + length insts ≤ sum_by (λ (inst : Inst). length (words_of inst)) insts
    by_sum [] = omega arith
    by_sum (inst ∷ insts) =
        let a = sum_by-cons (λ (inst : Inst). length inst.words) inst insts in
        let b = sum_by-cons (λ (inst : Inst). length (words_of inst)) inst insts in
        let l = by_sum insts in
        omega (arith, a, b, l)

-- the words of a valid module's instructions
pub words_few : (words : Words) → IsValidList words → sum_by (λ (inst : Inst). length inst.words) words.insts + length words.insts ≤ MODULE_WORDS
words_few words v = let l = fewer_words words.insts in let few = v.writable.few in omega (arith, l, few)

pub insts_few : (words : Words) → IsValidList words → length words.insts ≤ MODULE_WORDS
insts_few words v = let l = words_few words v in omega (arith, l)

frame_by_place : (insts : List Inst) (place : ℕ) → place ≤ length insts → frame_place (program_of insts) place ≤ place * TYPE_WORDS
unfolding program_of
frame_by_place insts zero within = let e = frame_place_first (program_of insts) in omega (arith, e)
frame_by_place insts (suc place) within =
    let e = frame_place_next (program_of insts) place (omega arith) in
    let l = frame_by_place insts place (omega arith) in
    let few = frame_words_few insts (inst_at insts place) in
    omega (arith, e, l, few)

memory_by_place : (insts : List Inst) (place : ℕ) → place ≤ length insts → memory_place (program_of insts) place ≤ place * TYPE_WORDS
unfolding program_of
memory_by_place insts zero within = let e = memory_place_first (program_of insts) in omega (arith, e)
memory_by_place insts (suc place) within =
    let e = memory_place_next (program_of insts) place (omega arith) in
    let l = memory_by_place insts place (omega arith) in
    let few = variable_words_few insts (inst_at insts place) in
    omega (arith, e, l, few)

-- a frame has few words, and a memory
pub frame_few : (words : Words) → IsValidList words → (place : ℕ) → place ≤ length words.insts → frame_place (program_of words.insts) place ≤ 2 ^ 26
frame_few words v place within = let l = frame_by_place words.insts place within in let few = insts_few words v in omega (arith, l, few)

pub memory_few : (words : Words) → IsValidList words → (place : ℕ) → place ≤ length words.insts → memory_place (program_of words.insts) place ≤ 2 ^ 26
memory_few words v place within = let l = memory_by_place words.insts place within in let few = insts_few words v in omega (arith, l, few)
