-- Places that are put into a list one behind another.
use Rattle.std.proofs.Common.{◌≡◌, ℕ, suc, ◌+◌, ◌<◌, ◌≤◌, ◌^◌, inl, inr, List, [], ◌∷◌, ◌++◌, length, get_or, slice_index, refl, ap, sym, ◌∙◌, arith, length-append}
use Rattle.std.proofs.Math.ListN.{get_or-append}
use Rattle.std.proofs.Math.Seq.{get_or-append_seam}
use Rattle.std.proofs.lemmas.Bool.{cases_lt}
use Rattle.std.proofs.lemmas.List.{get_or_default}
use Rattle.spirv_model.specs.declared.module.Words.{Words}
use Rattle.spirv_model.specs.declared.module.Inst.{Inst}
use Rattle.valid_model.specs.Definitions.{inst_at, no_instruction}
use Rattle.check_model.specs.Validity.{IsValidList}
use Rattle.stage_model.specs.Program.{program_of}
use Rattle.frame_model.specs.Frame.{frame_words, variable_words, frame_place, memory_place}
use Rattle.frame_model.proofs.FrameSizes.{frame_place_first, memory_place_first, frame_place_next, memory_place_next}
use Rattle.frame_model.proofs.FrameLimits.{frame_words_few, variable_words_few, frame_few, memory_few}
use Rattle.spv_exec.specs.ModuleFrames.{AreFramePlaces, AreMemoryPlaces}

-- the places up to this one are in the list, and it is the last
pub record AreTo (of : ℕ → ℕ) (places : List ℕ) (last place : ℕ) : Type 0 where
  pub count : length places ≡ place + 1
  pub is : last ≡ of place
  pub are : (k : ℕ) → k ≤ place → slice_index places k ≡ of k

pub first_place : (of : ℕ → ℕ) → of 0 ≡ 0 → AreTo of (0 ∷ []) 0 0
first_place of is = record { count = refl; is = sym is; are = λ k less. let e : k ≡ 0 = omega (arith, less) in ap (slice_index (0 ∷ [])) e ∙ (sym is ∙ ap of (sym e)) }

pub next_place : (of : ℕ → ℕ) (places : List ℕ) (last place new : ℕ) → AreTo of places last place → new ≡ of (place + 1) → AreTo of (places ++ new ∷ []) new (place + 1)
next_place of places last place new to is = record {
  count = let e = length-append places (new ∷ []) in let c = to.count in omega (arith, e, c);
  is = is;
  are = λ k less.
      elim (cases_lt k (place + 1)) [
        | inl low ↦ get_or-append places (new ∷ []) 0 k (let c = to.count in omega (arith, low, c)) ∙ to.are k (omega (arith, low))
        | inr high ↦
            let e : k ≡ length places = let c = to.count in omega (arith, high, less, c) in
            let f : k ≡ place + 1 = omega (arith, high, less) in
            ap (slice_index (places ++ new ∷ [])) e ∙ (get_or-append_seam places new [] 0 ∙ (is ∙ ap of (sym f)))
      ];
}

-- the instruction at a place, and what is read of it
pub there : (list insts : List Inst) (item : Inst) (place : ℕ) → list ≡ insts → place < length list → item ≡ get_or list place item → (place < length insts) × (item ≡ inst_at insts place)
there list insts item place same within is =
    let e : length list ≡ length insts = ap length same in (
      omega (arith, e, within),
      is ∙ (get_or_default list place item no_instruction within ∙ ap (λ (l : List Inst). inst_at l place) same),
    )

pub read_there : (of : Inst → ℕ) (list insts : List Inst) (item : Inst) (place count : ℕ) → list ≡ insts → place < length list → item ≡ get_or list place item → count ≡ of item → (place < length insts) × (count ≡ of (inst_at insts place))
read_there of list insts item place count same within is known = let at = there list insts item place same within is in (at.0, known ∙ ap of at.1)

-- ---- in the frame

pub frame_first : (words : Words) → AreTo (frame_place (program_of words.insts)) (0 ∷ []) 0 0
frame_first words = first_place (frame_place (program_of words.insts)) (frame_place_first (program_of words.insts))

pub frame_step : (insts : List Inst) (place : ℕ) → place < length insts → frame_place (program_of insts) (place + 1) ≡ frame_place (program_of insts) place + frame_words (program_of insts) (inst_at insts place)
unfolding program_of
frame_step insts place within = let e : place + 1 ≡ suc place = omega arith in ap (frame_place (program_of insts)) e ∙ frame_place_next (program_of insts) place within

pub frame_next : (words : Words) (places : List ℕ) (last place count : ℕ) → place < length words.insts → count ≡ frame_words (program_of words.insts) (inst_at words.insts place) → AreTo (frame_place (program_of words.insts)) places last place
    → AreTo (frame_place (program_of words.insts)) (places ++ (last + count) ∷ []) (last + count) (place + 1)
unfolding program_of
frame_next words places last place count within is to =
    let program = program_of words.insts in
    let e = frame_place_next program place within in
    let l = to.is in
    let f : suc place ≡ place + 1 = omega arith in
    let g : last + count ≡ frame_place program (suc place) = omega (arith, e, l, is) in
    next_place (frame_place program) places last place (last + count) to (g ∙ ap (frame_place program) f)

pub frame_room : (words : Words) (places : List ℕ) (last place count : ℕ) → IsValidList words → place < length words.insts → count ≡ frame_words (program_of words.insts) (inst_at words.insts place) → AreTo (frame_place (program_of words.insts)) places last place
    → last + count < 2 ^ 32
frame_room words places last place count v within is to =
    let few = frame_few words v place (omega (arith, within)) in
    let more = frame_words_few words.insts (inst_at words.insts place) in
    let l = to.is in
    omega (arith, few, more, l, is)

pub frame_all : (words : Words) (places : List ℕ) (last place : ℕ) → length words.insts ≡ place → AreTo (frame_place (program_of words.insts)) places last place → AreFramePlaces words.insts places
frame_all words places last place all to = record { count = let c = to.count in omega (arith, c, all); are = λ k less. to.are k (omega (arith, less, all)) }

-- ---- in the memory

pub memory_first : (words : Words) → AreTo (memory_place (program_of words.insts)) (0 ∷ []) 0 0
memory_first words = first_place (memory_place (program_of words.insts)) (memory_place_first (program_of words.insts))

pub memory_step : (insts : List Inst) (place : ℕ) → place < length insts → memory_place (program_of insts) (place + 1) ≡ memory_place (program_of insts) place + variable_words (program_of insts) (inst_at insts place)
unfolding program_of
memory_step insts place within = let e : place + 1 ≡ suc place = omega arith in ap (memory_place (program_of insts)) e ∙ memory_place_next (program_of insts) place within

pub memory_next : (words : Words) (places : List ℕ) (last place count : ℕ) → place < length words.insts → count ≡ variable_words (program_of words.insts) (inst_at words.insts place) → AreTo (memory_place (program_of words.insts)) places last place
    → AreTo (memory_place (program_of words.insts)) (places ++ (last + count) ∷ []) (last + count) (place + 1)
unfolding program_of
memory_next words places last place count within is to =
    let program = program_of words.insts in
    let e = memory_place_next program place within in
    let l = to.is in
    let f : suc place ≡ place + 1 = omega arith in
    let g : last + count ≡ memory_place program (suc place) = omega (arith, e, l, is) in
    next_place (memory_place program) places last place (last + count) to (g ∙ ap (memory_place program) f)

pub memory_room : (words : Words) (places : List ℕ) (last place count : ℕ) → IsValidList words → place < length words.insts → count ≡ variable_words (program_of words.insts) (inst_at words.insts place) → AreTo (memory_place (program_of words.insts)) places last place
    → last + count < 2 ^ 32
memory_room words places last place count v within is to =
    let few = memory_few words v place (omega (arith, within)) in
    let more = variable_words_few words.insts (inst_at words.insts place) in
    let l = to.is in
    omega (arith, few, more, l, is)

pub memory_all : (words : Words) (places : List ℕ) (last place : ℕ) → length words.insts ≡ place → AreTo (memory_place (program_of words.insts)) places last place → AreMemoryPlaces words.insts places
memory_all words places last place all to = record { count = let c = to.count in omega (arith, c, all); are = λ k less. to.are k (omega (arith, less, all)) }

-- a place isn't above the next
pub frame_rises : (insts : List Inst) (places : List ℕ) (place next own : ℕ) → AreFramePlaces insts places → place < length insts → next ≡ get_or places (place + 1) next → own ≡ get_or places place own → own ≤ next
frame_rises insts places place next own all within next_is own_is =
    let c = all.count in
    let e : next ≡ frame_place (program_of insts) (place + 1) = next_is ∙ (get_or_default places (place + 1) next 0 (omega (arith, c, within)) ∙ all.are (place + 1) (omega (arith, within))) in
    let f : own ≡ frame_place (program_of insts) place = own_is ∙ (get_or_default places place own 0 (omega (arith, c, within)) ∙ all.are place (omega (arith, within))) in
    let s = frame_step insts place within in
    omega (arith, e, f, s)

-- a place isn't above the next
pub memory_rises : (insts : List Inst) (places : List ℕ) (place next own : ℕ) → AreMemoryPlaces insts places → place < length insts → next ≡ get_or places (place + 1) next → own ≡ get_or places place own → own ≤ next
memory_rises insts places place next own all within next_is own_is =
    let c = all.count in
    let e : next ≡ memory_place (program_of insts) (place + 1) = next_is ∙ (get_or_default places (place + 1) next 0 (omega (arith, c, within)) ∙ all.are (place + 1) (omega (arith, within))) in
    let f : own ≡ memory_place (program_of insts) place = own_is ∙ (get_or_default places place own 0 (omega (arith, c, within)) ∙ all.are place (omega (arith, within))) in
    let s = memory_step insts place within in
    omega (arith, e, f, s)
