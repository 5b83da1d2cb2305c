-- What a store leaves in the memory.
use Rattle.std.proofs.Common.{◌≡◌, ℕ, ◌+◌, ◌≤◌, List, length, ap, sym, ◌∙◌, subst, arith, Option, Some}
use Rattle.spirv_model.specs.declared.module.Words.{Words}
use Rattle.valid_model.specs.Definitions.{inst_at}
use Rattle.check_model.specs.Validity.{IsValidList}
use Rattle.stage_model.specs.Value.{Value}
use Rattle.stage_model.specs.Program.{Program, program_of}
use Rattle.stage_model.specs.Start.{Memory}
use Rattle.stage_model.specs.Effect.{Effect, Passes, with_words}
use Rattle.frame_model.specs.Frame.{frame_words, frame_place, in_frame}
use Rattle.frame_model.specs.Shown.{words_at, ShowsMemory}
use Rattle.frame_model.specs.Written.{written}
use Rattle.frame_model.proofs.AccessOperands.{StoreStands, store_stands, StoreWrites}
use Rattle.frame_model.proofs.FrameWrites.{OperandWords}
use Rattle.spv_exec.specs.Accesses.{StoresAt, memory_after}

pub stands_for_store : (words : Words) → IsValidList words → (frame memory : List ℕ) (held : Memory) (place : ℕ) (effect : Effect) → StoresAt (program_of words.insts) frame memory held place effect → StoreStands words frame memory held place effect
unfolding program_of
stands_for_store words v frame memory held place effect s = store_stands words v frame memory held place effect s.within s.stores s.size s.values s.shows s.holds s.read s.are s.suit s.effect_is

-- nothing is done
pub passed : (program : Program) (memory : List ℕ) (held : Memory) (effect : Effect) → ShowsMemory program memory held → effect ≡ Passes → ShowsMemory program memory (memory_after held effect)
passed program memory held effect shows is = subst (λ (e : Effect). ShowsMemory program memory (memory_after held e)) (sym is) shows

pub same_place : (a b : ℕ) → ◌≡◌ {A = Option ℕ} (Some a) (Some b) → a ≡ b
same_place a b is = cc

-- the object's words are written where the pointer's word says
pub store_at_word : (words : Words) (frame memory after : List ℕ) (held : Memory) (object : Value) (effect : Effect) (object_at to own from count : ℕ) → OperandWords (program_of words.insts) frame object_at object → to ≡ own
    → from ≡ frame_place (program_of words.insts) object_at → count ≡ frame_words (program_of words.insts) (inst_at words.insts object_at) → StoreWrites (program_of words.insts) memory held object effect own
    → (from + count ≤ length frame → to + count ≤ length memory → after ≡ written memory to (words_at frame from count)) → ShowsMemory (program_of words.insts) after (memory_after held effect)
unfolding program_of
store_at_word words frame memory after held object effect object_at to own from count o to_is from_is count_is w copied =
    let program = program_of words.insts in
    let size = o.size in let fits = o.fits in let room = w.fits in
    let is = copied (omega (arith, from_is, count_is, size, fits)) (omega (arith, to_is, count_is, size, room)) in
    let stands : words_at frame from count ≡ in_frame program object =
    ap (λ (n : ℕ). words_at frame n count) from_is ∙ (ap (words_at frame (frame_place program object_at)) count_is ∙ o.stands) in
    let made : after ≡ written memory own (in_frame program object) = is ∙ (ap (written memory to) stands ∙ ap (λ (n : ℕ). written memory n (in_frame program object)) to_is) in
    subst (λ (e : Effect). ShowsMemory program after (memory_after held e)) (sym w.writes) (subst (λ (m : List ℕ). ShowsMemory program m (with_words w.variable w.from (in_frame program object) held)) (sym made) w.after)
