-- What loads, stores and chains do on a frame and a memory of words.
use Rattle.std.proofs.Common.{◌≡◌, ℕ, ◌+◌, ◌<◌, ◌≤◌, ◌^◌, ◌-◌, ◌==◌, ◌&&◌, nat_le, nat_lt, Bool, true, false, if◌then◌else◌, List, [], ◌∷◌, ◌++◌, length, get_or, replicate, refl, ap, sym, ◌∙◌, subst, arith, Option, None, Some}
use Rattle.std.specs.Option.{option_map}
use Rattle.std.proofs.lemmas.Bool.{ltb-true, leb-true}
use Rattle.std.proofs.lemmas.Bool.Decides.{nat_tests}
use Rattle.std.proofs.lemmas.List.FromFn.{length-map-range_with_len, get_or-map-range_with_len}
use Rattle.spirv_model.specs.declared.module.Words.{Words}
use Rattle.valid_model.specs.Definitions.{definition}
use Rattle.check_model.specs.Validity.{IsValidList}
use Rattle.stage_model.specs.Value.{Value, Truth, Word, Composite, Pointer, Outside, Layout, size_of, words_of, value_of, zero_of, part_along}
use Rattle.stage_model.specs.Program.{Program, held_layout, program_of}
use Rattle.stage_model.specs.Start.{Memory}
use Rattle.stage_model.specs.Effect.{Effect, Passes, Writes, words_from, with_words, place_of, loaded, stored, pointer_along, chained}
use Rattle.typed_model.specs.Values.{HasLayout, IsPointer}
use Rattle.frame_model.specs.Along.{word_along}
use Rattle.frame_model.specs.Frame.{OUTSIDE, memory_place, in_frame}
use Rattle.frame_model.specs.Shown.{words_at, ShowsMemory}
use Rattle.frame_model.specs.Truths.{HoldsTruths, is_truth_at}
use Rattle.frame_model.specs.Written.{written}
use Rattle.frame_model.proofs.FrameSizes.{layout_size}
use Rattle.frame_model.proofs.LayoutParts.{further, along_more, lies_along}
use Rattle.frame_model.proofs.LoadedWords.{AreTruths, read_in_frame, zero_in_frame, value_truths}
use Rattle.frame_model.proofs.MemoryWrites.{Stored, shows_stored}
use Rattle.frame_model.proofs.PartWords.{in_frame_words}
use Rattle.frame_model.proofs.WrittenWords.{words_at_is}
use Rattle.frame_model.proofs.PointerWords.{PointerLies, pointer_lies, found_place, pointer_word, outside_word, place_few, room_of}

same : (a b : ℕ) → a == b ≡ true → a ≡ b
same a b is = grind (arith, nat_tests)

same_some : {A : Type 0} (x y : A) → Some x ≡ Some y → x ≡ y
same_some x y is = cc

-- ---- loads

-- what a load through a pointer gives: the words in the memory, or zeros outside
pub data Loads (program : Program) (memory : List ℕ) (layout : Layout) (pointer value : Value) : Type 0 where
  load_outside : in_frame program pointer ≡ OUTSIDE ∷ [] → in_frame program value ≡ replicate (size_of layout) 0 → Loads program memory layout pointer value
  load_from : (at : ℕ) → in_frame program pointer ≡ at ∷ [] → at ≤ 2 ^ 26 → at + size_of layout ≤ length memory → in_frame program value ≡ words_at memory at (size_of layout) → Loads program memory layout pointer value

length_words_from : (held : Memory) (variable place count : ℕ) → length (words_from held variable place count) ≡ count
length_words_from held variable place count = length-map-range_with_len (λ k. held variable (place + k)) 0 count

words_from_index : (held : Memory) (variable place count k : ℕ) → k < count → get_or (words_from held variable place count) k 0 ≡ held variable (place + k)
words_from_index held variable place count k less = get_or-map-range_with_len (λ k. held variable (place + k)) 0 count k k 0 less (omega arith)

-- the memory has the words of a variable's part
part_words : (words : Words) → IsValidList words → (memory : List ℕ) (held : Memory) → ShowsMemory (program_of words.insts) memory held → (variable : ℕ) (indices : List ℕ) (layout : Layout) (l : PointerLies (program_of words.insts) variable indices layout)
    → words_from held variable l.place (size_of layout) ≡ words_at memory (memory_place (program_of words.insts) l.lies.place + l.place) (size_of layout)
part_words words v memory held shows variable indices layout l =
    let program = program_of words.insts in
    let part = words_from held variable l.place (size_of layout) in
    let long = length_words_from held variable l.place (size_of layout) in
    let room = (room_of words v memory held shows variable indices layout l).0 in
    let at = memory_place program l.lies.place + l.place in
    let fits = l.fits in
    sym (words_at_is memory part at (omega (arith, room, long))
    (λ k less.
    let less_size : k < size_of layout = omega (arith, less, long) in
    let e : at + k ≡ memory_place program l.lies.place + (l.place + k) = omega arith in
    ap (λ (n : ℕ). get_or memory n 0) e
    ∙ (shows.shows variable l.lies.place (l.place + k) l.lies.defined (omega (arith, fits, less_size)) ∙ sym (words_from_index held variable l.place (size_of layout) k less_size))))
    ∙ ap (words_at memory at) long

part_truths : (words : Words) (memory : List ℕ) (held : Memory) → ShowsMemory (program_of words.insts) memory held → (variable : ℕ) (indices : List ℕ) (layout : Layout) (l : PointerLies (program_of words.insts) variable indices layout)
    → AreTruths (size_of layout) (is_truth_at layout) (words_from held variable l.place (size_of layout))
part_truths words memory held shows variable indices layout l k less is =
    let lies = lies_along indices l.whole l.place layout l.found in
    let fits = lies.fits in
    subst (λ (n : ℕ). n < 2) (sym (words_from_index held variable l.place (size_of layout) k less)) (shows.truths variable l.whole (l.place + k) l.holds (omega (arith, fits, less)) (lies.same k less ∙ is))

load_at : (words : Words) → IsValidList words → (memory : List ℕ) (held : Memory) → ShowsMemory (program_of words.insts) memory held → (variable : ℕ) (indices : List ℕ) (layout : Layout) (value : Value) (l : PointerLies (program_of words.insts) variable indices layout)
    → loaded (program_of words.insts) held layout (Pointer variable indices) ≡ Some value → Loads (program_of words.insts) memory layout (Pointer variable indices) value
load_at words v memory held shows variable indices layout value l is =
    let program = program_of words.insts in
    let part = words_from held variable l.place (size_of layout) in
    let made : value_of layout part ≡ value = same_some (value_of layout part) value (sym (ap (option_map (λ place. value_of layout (words_from held variable place (size_of layout)))) l.place_is) ∙ is) in
    let room = room_of words v memory held shows variable indices layout l in
    let fits = room.0 in let few = room.1 in
    load_from (memory_place program l.lies.place + l.place) l.word (omega (arith, fits, few)) fits
    (ap (in_frame program) (sym made)
    ∙ (read_in_frame program layout part (length_words_from held variable l.place (size_of layout)) (part_truths words memory held shows variable indices layout l) ∙ part_words words v memory held shows variable indices layout l))

pub loads : (words : Words) → IsValidList words → (memory : List ℕ) (held : Memory) → ShowsMemory (program_of words.insts) memory held → (class type : ℕ) (layout : Layout) (pointer value : Value) → (program_of words.insts).layout type ≡ Some layout
    → IsPointer (program_of words.insts) class type pointer → loaded (program_of words.insts) held layout pointer ≡ Some value → Loads (program_of words.insts) memory layout pointer value
loads words v memory held shows class type layout (Pointer variable indices) value known points is =
    let l = pointer_lies words class type variable indices points in
    let e : points.layout ≡ layout = same_some points.layout layout (sym points.known ∙ known) in
    load_at words v memory held shows variable indices layout value (subst (λ (own : Layout). PointerLies (program_of words.insts) variable indices own) e l) is
loads words v memory held shows class type layout Outside value known points is =
    load_outside (outside_word (program_of words.insts)) (ap (in_frame (program_of words.insts)) (sym (same_some (zero_of layout) value is)) ∙ zero_in_frame (program_of words.insts) layout)
loads words v memory held shows class type layout (Truth b) value known points is = absurd points
loads words v memory held shows class type layout (Word word) value known points is = absurd points
loads words v memory held shows class type layout (Composite parts) value known points is = absurd points

-- ---- stores

-- what a store through a pointer does: it writes the object's words, or nothing outside
pub data Stores (program : Program) (memory : List ℕ) (held : Memory) (pointer object : Value) (effect : Effect) : Type 0 where
  store_outside : in_frame program pointer ≡ OUTSIDE ∷ [] → effect ≡ Passes → Stores program memory held pointer object effect
  store_at : (at variable place : ℕ) → in_frame program pointer ≡ at ∷ [] → at ≤ 2 ^ 26 → at + length (in_frame program object) ≤ length memory → effect ≡ Writes variable place (in_frame program object)
      → ShowsMemory program (written memory at (in_frame program object)) (with_words variable place (in_frame program object) held) → Stores program memory held pointer object effect

inside_test : {x y : ℕ} (a b c : Bool) → (a ≡ true → b ≡ true → c ≡ true → x < 2) → y < 2 → (if (a && b) && c then x else y) < 2
inside_test true true true new old = new refl refl refl
inside_test true true false new old = old
inside_test true false c new old = old
inside_test false b c new old = old

-- truth values stay 0 or 1
stored_truths : (program : Program) (held : Memory) → HoldsTruths program held → (variable : ℕ) (indices : List ℕ) (layout : Layout) (object : Value) (new : List ℕ) (l : PointerLies program variable indices layout) → HasLayout layout object → words_of object ≡ Some new
    → HoldsTruths program (with_words variable l.place new held)
stored_truths program held truths variable indices layout object new l has are other whole k holds less is =
    let s = layout_size object layout has in
    let long : length new ≡ size_of layout = ap length (same_some new s.list (sym are ∙ s.is)) ∙ s.count in
    inside_test (other == variable) (nat_le l.place k) (nat_lt k (l.place + length new))
    (λ own low high.
    let from = leb-true l.place k low in let below = ltb-true k (l.place + length new) high in
    let e : l.place + (k - l.place) ≡ k = omega (arith, from) in
    let inner : k - l.place < size_of layout = omega (arith, from, below, long) in
    let w : whole ≡ l.whole = same_some whole l.whole (sym holds ∙ (ap (held_layout program) (same other variable own) ∙ l.holds)) in
    value_truths object layout new has are (k - l.place) inner
    (sym ((lies_along indices l.whole l.place layout l.found).same (k - l.place) inner) ∙ (ap (is_truth_at l.whole) e ∙ (ap (λ (o : Layout). is_truth_at o k) (sym w) ∙ is))))
    (truths other whole k holds less is)

store_to : (words : Words) → IsValidList words → (memory : List ℕ) (held : Memory) → ShowsMemory (program_of words.insts) memory held → (variable : ℕ) (indices : List ℕ) (layout : Layout) (object : Value) (new : List ℕ) (effect : Effect)
    (l : PointerLies (program_of words.insts) variable indices layout) → HasLayout layout object → words_of object ≡ Some new → stored (program_of words.insts) new (Pointer variable indices) ≡ Some effect
    → Stores (program_of words.insts) memory held (Pointer variable indices) object effect
store_to words v memory held shows variable indices layout object new effect l has are is =
    let program = program_of words.insts in
    let s = layout_size object layout has in
    let long : length new ≡ size_of layout = ap length (same_some new s.list (sym are ∙ s.is)) ∙ s.count in
    let made : Writes variable l.place new ≡ effect = same_some (Writes variable l.place new) effect (sym (ap (option_map (λ place. Writes variable place new)) l.place_is) ∙ is) in
    let room = room_of words v memory held shows variable indices layout l in
    let fits = room.0 in let few = room.1 in let inner = l.fits in
    let own : in_frame program object ≡ new = in_frame_words program object new are in
    let stored_here : Stored program variable l.lies.place l.place new = record { defined = l.lies.defined; fits = omega (arith, inner, long) } in
    let after = shows_stored program memory held variable l.lies.place l.place new shows stored_here (stored_truths program held shows.truths variable indices layout object new l has are) in
    store_at (memory_place program l.lies.place + l.place) variable l.place l.word (omega (arith, fits, few)) (let own_long = ap length own in omega (arith, fits, long, own_long))
    (sym made ∙ ap (Writes variable l.place) (sym own))
    (subst (λ (w : List ℕ). ShowsMemory program (written memory (memory_place program l.lies.place + l.place) w) (with_words variable l.place w held)) (sym own) after)

pub stores_by : (words : Words) → IsValidList words → (memory : List ℕ) (held : Memory) → ShowsMemory (program_of words.insts) memory held → (class type : ℕ) (layout : Layout) (pointer object : Value) (new : List ℕ) (effect : Effect)
    → (program_of words.insts).layout type ≡ Some layout → IsPointer (program_of words.insts) class type pointer → HasLayout layout object → words_of object ≡ Some new → stored (program_of words.insts) new pointer ≡ Some effect
    → Stores (program_of words.insts) memory held pointer object effect
stores_by words v memory held shows class type layout (Pointer variable indices) object new effect known points has are is =
    let l = pointer_lies words class type variable indices points in
    let e : points.layout ≡ layout = same_some points.layout layout (sym points.known ∙ known) in
    store_to words v memory held shows variable indices layout object new effect (subst (λ (own : Layout). PointerLies (program_of words.insts) variable indices own) e l) has are is
stores_by words v memory held shows class type layout Outside object new effect known points has are is = store_outside (outside_word (program_of words.insts)) (sym (same_some Passes effect is))
stores_by words v memory held shows class type layout (Truth b) object new effect known points has are is = absurd points
stores_by words v memory held shows class type layout (Word word) object new effect known points has are is = absurd points
stores_by words v memory held shows class type layout (Composite parts) object new effect known points has are is = absurd points

-- ---- chains

-- what a chain from a pointer along indices gives
pub data Chains (program : Program) (layout : Layout) (more : List ℕ) (pointer value : Value) : Type 0 where
  chain_outside : in_frame program pointer ≡ OUTSIDE ∷ [] → in_frame program value ≡ OUTSIDE ∷ [] → Chains program layout more pointer value
  chain_at : (at : ℕ) → in_frame program pointer ≡ at ∷ [] → at + size_of layout ≤ 2 ^ 26 → in_frame program value ≡ word_along at (part_along layout more) ∷ [] → Chains program layout more pointer value

-- the word of a pointer along indices of a variable
along_word : (program : Program) (variable : ℕ) (indices : List ℕ) (whole : Layout) (at : ℕ) → held_layout program variable ≡ Some whole → definition program.insts variable ≡ Some at
    → in_frame program (pointer_along (place_of program variable indices) variable indices) ≡ word_along (memory_place program at) (part_along whole indices) ∷ []
along_word program variable indices whole at holds defined = by_part (part_along whole indices) (found_place program variable indices whole holds)
  where
    by_part : (found : Option (ℕ × Layout)) → place_of program variable indices ≡ option_map (λ (place, layout). place) found
        → in_frame program (pointer_along (place_of program variable indices) variable indices) ≡ word_along (memory_place program at) found ∷ []
    by_part None is = ap (λ (o : Option ℕ). in_frame program (pointer_along o variable indices)) is ∙ outside_word program
    by_part (Some (place, layout)) is = ap (λ (o : Option ℕ). in_frame program (pointer_along o variable indices)) is ∙ pointer_word program variable indices at place defined is

pub further_word : (at place : ℕ) (found : Option (ℕ × Layout)) → word_along at (further place found) ≡ word_along (at + place) found
further_word at place None = refl
further_word at place (Some (within, layout)) = omega arith

chain_from : (words : Words) → IsValidList words → (variable : ℕ) (indices more : List ℕ) (layout : Layout) (value : Value) (l : PointerLies (program_of words.insts) variable indices layout)
    → chained (program_of words.insts) (Pointer variable indices) more ≡ Some value → Chains (program_of words.insts) layout more (Pointer variable indices) value
chain_from words v variable indices more layout value l is =
    let program = program_of words.insts in
    let few = place_few words v variable indices layout l in
    let fits = few.0 in let small = few.1 in
    chain_at (memory_place program l.lies.place + l.place) l.word (omega (arith, fits, small))
    (ap (in_frame program) (sym (same_some _ value is))
    ∙ (along_word program variable (indices ++ more) l.whole l.lies.place l.holds l.lies.defined
    ∙ ap (λ (n : ℕ). n ∷ []) (ap (word_along (memory_place program l.lies.place)) (along_more indices more l.whole l.place layout l.found) ∙ further_word (memory_place program l.lies.place) l.place (part_along layout more))))

pub chains : (words : Words) → IsValidList words → (class type : ℕ) (layout : Layout) (more : List ℕ) (pointer value : Value) → (program_of words.insts).layout type ≡ Some layout → IsPointer (program_of words.insts) class type pointer
    → chained (program_of words.insts) pointer more ≡ Some value → Chains (program_of words.insts) layout more pointer value
chains words v class type layout more (Pointer variable indices) value known points is =
    let l = pointer_lies words class type variable indices points in
    let e : points.layout ≡ layout = same_some points.layout layout (sym points.known ∙ known) in
    chain_from words v variable indices more layout value (subst (λ (own : Layout). PointerLies (program_of words.insts) variable indices own) e l) is
chains words v class type layout more Outside value known points is = chain_outside (outside_word (program_of words.insts)) (ap (in_frame (program_of words.insts)) (sym (same_some Outside value is)) ∙ outside_word (program_of words.insts))
chains words v class type layout more (Truth b) value known points is = absurd points
chains words v class type layout more (Word word) value known points is = absurd points
chains words v class type layout more (Composite parts) value known points is = absurd points
