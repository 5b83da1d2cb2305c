-- The operands of loads, stores and chains in a valid module's frame.
use Rattle.std.proofs.Common.{◌≡◌, ℕ, ◌+◌, ◌<◌, ◌≤◌, ◌==◌, true, List, [], ◌∷◌, length, get_or, slice_index, replicate, refl, ap, sym, ◌∙◌, subst, arith, Option, None, Some, is_some}
use Rattle.std.specs.Option.{option_map, option_and_then}
use Rattle.std.proofs.lemmas.Bool.Decides.{nat_tests}
use Rattle.std.proofs.lemmas.List.{length-replicate}
use Rattle.spirv_model.specs.declared.module.Inst.{Inst}
use Rattle.spirv_model.specs.declared.module.Words.{Words}
use Rattle.spirv_model.specs.declared.op.TheConstants as op
use Rattle.spirv_model.specs.declared.class.Class.{Class}
use Rattle.spirv_model.specs.declared.class.Class.TheVariants as class
use Rattle.spirv_model.specs.Operands.{word_at, entry_of, class_of, kinds}
use Rattle.valid_model.specs.declared.meaning.IdFacts.{IdFacts}
use Rattle.valid_model.specs.declared.meaning.Meaning.{Meaning}
use Rattle.valid_model.specs.declared.meaning.Meaning.TheVariants.{Shape as OfShape}
use Rattle.valid_model.specs.declared.meaning.Shape.TheVariants.{Pointer as PointerType}
use Rattle.valid_model.specs.Definitions.{definition, inst_at}
use Rattle.valid_model.specs.Knowledge.{meaning_in}
use Rattle.valid_model.specs.Meanings.{meaning}
use Rattle.valid_model.specs.ModuleFacts.{is_vertex, facts_of}
use Rattle.valid_model.proofs.KnownIds.{unknown_without_definition}
use Rattle.check_model.specs.MemoryOperands.{memory_operands_fit}
use Rattle.check_model.specs.OperandTypes.{operands_fit, operands_fit_class}
use Rattle.check_model.specs.Typing.{type_id, typing_of, constant_word}
use Rattle.check_model.specs.Validity.{IsValidList}
use Rattle.stage_model.specs.Value.{Value, Pointer, Layout, size_of, words_of, part_along}
use Rattle.stage_model.specs.Program.{Program, program_of}
use Rattle.stage_model.specs.Start.{Values, Memory, all_values}
use Rattle.stage_model.specs.Effect.{Effect, Passes, Gives, Writes, read_ids, result_of, effect_of, with_words, loaded, stored}
use Rattle.typed_model.specs.Values.{PointsTo, IsData, IsOfMeaning, IsOfType}
use Rattle.typed_model.specs.Types.{Suits, AllSuit}
use Rattle.typed_model.proofs.BlockResults.{gives_value, variable_gives}
use Rattle.typed_model.proofs.EffectsRun.{instruction}
use Rattle.typed_model.proofs.MemoryValues.{PointerOperand, pointer_operand, pointer_value, object_by}
use Rattle.typed_model.proofs.PlainRuns.{at_op}
use Rattle.typed_model.proofs.ReadValues.{typing_here}
use Rattle.typed_model.proofs.TypeLayouts.{word_is, type_has_layout}
use Rattle.typed_model.proofs.ValidModules.{valid_sound}
use Rattle.typed_model.proofs.ValidTypes.{valid_types}
use Rattle.frame_model.specs.Frame.{OUTSIDE, frame_words, frame_place, memory_place, in_frame}
use Rattle.frame_model.specs.Shown.{words_at, IsFrame, Shows, ShowsMemory}
use Rattle.frame_model.specs.Written.{GivesAt, written, reads_at}
use Rattle.frame_model.proofs.FrameWrites.{OperandWords, operand_words, frame_room}
use Rattle.frame_model.proofs.GivenResults.{given_result}
use Rattle.frame_model.proofs.MemoryAccesses.{Loads, load_outside, load_from, loads, Stores, store_outside, store_at, stores_by}
use Rattle.frame_model.proofs.PointerWords.{pointer_lies}
use Rattle.frame_model.proofs.ResultWords.{Gave, by_variable, by_class, gave}
use Rattle.frame_model.proofs.WrittenWords.{length_words_at, words_at_index}

same_some : {A : Type 0} (x y : A) → Some x ≡ Some y → x ≡ y
same_some x y is = cc

-- ---- operands of this class

pub memory_class : (class_of op.LOAD ≡ Some class.Memory) × (class_of op.STORE ≡ Some class.Memory) × (class_of op.ACCESS_CHAIN ≡ Some class.Memory)
unfolding class_of entry_of
memory_class = (refl, refl, refl)

-- what the rule of the instruction at a place asks
abbrev pub FitsHere : Words → Inst → Type 0
FitsHere words inst = memory_operands_fit (typing_here words.insts (is_vertex (facts_of words.insts))) inst ≡ true

pub memory_fit : (words : Words) → IsValidList words → (place : ℕ) → place < length words.insts → class_of (inst_at words.insts place).op ≡ Some class.Memory → FitsHere words (inst_at words.insts place)
unfolding operands_fit typing_of program_of
memory_fit words v place within is =
    sym (ap (λ (of : Option Class). operands_fit_class (typing_of words.insts) of (inst_at words.insts place)) is) ∙ (valid_sound words v).fit place within

-- ---- ids with types

defined_by : (insts : List Inst) (id type : ℕ) (found : Option ℕ) → definition insts id ≡ found → type_id (meaning insts id) ≡ Some type → (at : ℕ) × (definition insts id ≡ Some at)
defined_by insts id type (Some at) is typed = (at, is)
defined_by insts id type None is typed = absurd (never type (sym (ap (λ (f : Option IdFacts). type_id (meaning_in f)) (unknown_without_definition insts id is)) ∙ typed))
  where
    never : (type : ℕ) → ◌≡◌ {A = Option ℕ} None (Some type) → ⊥
    never type is = cc

-- an id with a type and a value stands in the frame
pub record StandsFor (insts : List Inst) (frame : List ℕ) (id : ℕ) (value : Value) : Type 0 where
  pub at : ℕ
  pub defined : definition insts id ≡ Some at
  pub words : OperandWords (program_of insts) frame at value

pub stands_for : (insts : List Inst) (frame : List ℕ) (values : Values) (id type : ℕ) (value : Value) → IsFrame (program_of insts) frame → Shows (program_of insts) frame values → type_id ((program_of insts).meaning id) ≡ Some type → values id ≡ Some value
    → StandsFor insts frame id value
unfolding program_of
stands_for insts frame values id type value size shows typed has =
    let d = defined_by insts id type (definition insts id) refl typed in
    record { at = d.0; defined = d.1; words = operand_words (program_of insts) frame values size shows id d.0 value d.1 has }

-- the word of a value that has one
one_word : (program : Program) (frame : List ℕ) (at word : ℕ) (value : Value) → OperandWords program frame at value → in_frame program value ≡ word ∷ [] → get_or frame (frame_place program at) 0 ≡ word
one_word program frame at word value w is =
    let long = ap length is in let size = w.size in
    let zero_place : frame_place program at + 0 ≡ frame_place program at = omega arith in
    ap (λ (n : ℕ). get_or frame n 0) (sym zero_place)
    ∙ (sym (words_at_index frame (frame_place program at) (frame_words program (inst_at program.insts at)) 0 (omega (arith, size, long)))
    ∙ (ap (λ (l : List ℕ). get_or l 0 0) w.stands ∙ ap (λ (l : List ℕ). get_or l 0 0) is))

pub word_of_value : (insts : List Inst) (frame : List ℕ) (id word : ℕ) (value : Value) (s : StandsFor insts frame id value) → in_frame (program_of insts) value ≡ word ∷ [] → get_or frame (frame_place (program_of insts) s.at) 0 ≡ word
word_of_value insts frame id word value s is = one_word (program_of insts) frame s.at word value s.words is

-- the first of the values that are read
pub first_read : (values : Values) (id : ℕ) (ids : List ℕ) (value : Value) (read : List Value) → all_values values (id ∷ ids) ≡ Some (value ∷ read) → (values id ≡ Some value) × (all_values values ids ≡ Some read)
first_read values id ids value read are = by_both (values id) (all_values values ids) value read are
  where
    by_both : (first : Option Value) (rest : Option (List Value)) (value : Value) (read : List Value) → option_and_then (λ first. option_map (λ rest. first ∷ rest) rest) first ≡ Some (value ∷ read) → (first ≡ Some value) × (rest ≡ Some read)
    by_both None rest value read are = cc
    by_both (Some first) None value read are = cc
    by_both (Some first) (Some rest) value read are = (cc, cc)

-- ---- loads

-- the operand of a load, and what it gives
pub record LoadParts (program : Program) (constant : ℕ → Option ℕ) (held : Memory) (words : List ℕ) (read : List Value) (value : Value) : Type 0 where
  pub pointer : Value
  pub read_is : read ≡ pointer ∷ []
  pub suits : Suits program constant (slice_index words 2) pointer
  pub operand : PointerOperand program (slice_index words 2) (slice_index words 0)
  pub gives : option_and_then (λ layout. loaded program held layout pointer) (program.layout (slice_index words 0)) ≡ Some value

pub some_gives : (found : Option Value) (value : Value) → option_map Gives found ≡ Some (Gives value) → found ≡ Some value
some_gives None value is = cc
some_gives (Some own) value is = cc

abbrev IsLoad : Words → Memory → Value → (read : List Value) → Inst → Type 0
IsLoad words held value read inst =
    is_some (kinds inst) ≡ true → FitsHere words inst → AllSuit (program_of words.insts) (constant_word words.insts) (read_ids inst.op 0 inst.words) read → effect_of (program_of words.insts) held inst read ≡ Some (Gives value)
    → LoadParts (program_of words.insts) (constant_word words.insts) held inst.words read value

load_parts : (words : Words) (held : Memory) (value : Value) (list : List ℕ) (read : List Value) → IsLoad words held value read (instruction op.LOAD list)
unfolding kinds class_of entry_of memory_operands_fit read_ids effect_of result_of
load_parts words held value (type ∷ id ∷ pointer ∷ []) (own ∷ []) has fit suit is = record {
  pointer = own;
  read_is = refl;
  suits = suit.0;
  operand = pointer_operand (program_of words.insts) (constant_word words.insts) (is_vertex (facts_of words.insts)) pointer type (word_is type _ fit);
  gives = some_gives _ value is;
}
load_parts words held value (type ∷ id ∷ pointer ∷ []) [] has fit suit is = absurd suit
load_parts words held value (type ∷ id ∷ pointer ∷ []) (own ∷ other ∷ read) has fit suit is = absurd suit.1
load_parts words held value (type ∷ id ∷ pointer ∷ more ∷ list) read has fit suit is = cc
load_parts words held value (type ∷ id ∷ []) read has fit suit is = cc
load_parts words held value (type ∷ []) read has fit suit is = cc
load_parts words held value [] read has fit suit is = cc

load_ids : (list : List ℕ) → read_ids op.LOAD 0 list ≡ slice_index list 2 ∷ []
unfolding read_ids
load_ids list = refl

-- what the frame and the memory have for a load
pub record LoadStands (words : Words) (frame memory : List ℕ) (place : ℕ) (value : Value) : Type 0 where
  pub pointer : Value
  pub layout : Layout
  pub stands : StandsFor words.insts frame (word_at 2 (inst_at words.insts place)) pointer
  pub loads : Loads (program_of words.insts) memory layout pointer value
  pub size : frame_words (program_of words.insts) (inst_at words.insts place) ≡ size_of layout
  pub room : frame_place (program_of words.insts) place + size_of layout ≤ length frame

layout_of : (program : Program) (held : Memory) (pointer value : Value) (layout : Option Layout) → option_and_then (λ layout. loaded program held layout pointer) layout ≡ Some value
    → (known : Layout) × (layout ≡ Some known) × (loaded program held known pointer ≡ Some value)
layout_of program held pointer value None is = cc
layout_of program held pointer value (Some layout) is = (layout, refl, is)

pub op_is : (a b : ℕ) → a == b ≡ true → a ≡ b
op_is a b is = grind (arith, nat_tests)

loaded_length : (program : Program) (memory : List ℕ) (layout : Layout) (pointer value : Value) → Loads program memory layout pointer value → length (in_frame program value) ≡ size_of layout
loaded_length program memory layout pointer value (load_outside outside is) = ap length is ∙ length-replicate (size_of layout) 0
loaded_length program memory layout pointer value (load_from at word few fits is) = ap length is ∙ length_words_at memory at (size_of layout) fits

pub load_stands : (words : Words) → IsValidList words → (frame memory : List ℕ) (held : Memory) (place : ℕ) (value : Value) → ShowsMemory (program_of words.insts) memory held → GivesAt (program_of words.insts) frame held place value
    → (inst_at words.insts place).op == op.LOAD ≡ true → LoadStands words frame memory place value
unfolding program_of
load_stands words v frame memory held place value shows g is =
    let inst = inst_at words.insts place in
    let program = program_of words.insts in
    let types = valid_types words v.sound in
    let fit = memory_fit words v place g.within (ap class_of (op_is inst.op op.LOAD is) ∙ memory_class.0) in
    let p = at_op (IsLoad words held value g.read) inst op.LOAD is (load_parts words held value inst.words g.read) ((valid_sound words v).shaped place g.within) fit g.suit g.effect in
    let reads : read_ids inst.op 0 inst.words ≡ slice_index inst.words 2 ∷ [] = at_op (λ inst. read_ids inst.op 0 inst.words ≡ slice_index inst.words 2 ∷ []) inst op.LOAD is (load_ids inst.words) in
    let are : all_values g.values (slice_index inst.words 2 ∷ []) ≡ Some (p.pointer ∷ []) = ap (all_values g.values) (sym reads) ∙ (g.are ∙ ap (λ (l : List Value). Some l) p.read_is) in
    let has = (first_read g.values (slice_index inst.words 2) [] p.pointer [] are).0 in
    let points = pointer_value program p.operand.type p.operand.class (slice_index inst.words 0) p.pointer p.operand.means (p.suits.of_type p.operand.type p.operand.is) in
    let l = layout_of program held p.pointer value (program.layout (slice_index inst.words 0)) p.gives in
    let made = loads words v memory held shows p.operand.class (slice_index inst.words 0) l.0 p.pointer value l.1 points l.2 in
    let long = loaded_length program memory l.0 p.pointer value made in
    let size = (given_result words v frame held place value g).size in
    let room = frame_room program place g.within in
    let frame_is = g.size in
    record {
      pointer = p.pointer;
      layout = l.0;
      stands = stands_for words.insts frame g.values (slice_index inst.words 2) p.operand.type p.pointer g.size g.shows p.operand.is has;
      loads = made;
      size = sym size ∙ long;
      room = omega (arith, room, size, long, frame_is);
    }

-- the word that the code reads for the pointer tells what the load gives
pub load_clears : (words : Words) (frame memory : List ℕ) (place : ℕ) (value : Value) (s : LoadStands words frame memory place value) → get_or frame (frame_place (program_of words.insts) s.stands.at) 0 ≡ OUTSIDE
    → in_frame (program_of words.insts) value ≡ replicate (frame_words (program_of words.insts) (inst_at words.insts place)) 0
load_clears words frame memory place value s is = by_case s.loads
  where
    by_case : Loads (program_of words.insts) memory s.layout s.pointer value → in_frame (program_of words.insts) value ≡ replicate (frame_words (program_of words.insts) (inst_at words.insts place)) 0
    by_case (load_outside outside zeros) = zeros ∙ ap (λ (n : ℕ). replicate n 0) (sym s.size)
    by_case (load_from at word few fits same) = let e = word_of_value words.insts frame (word_at 2 (inst_at words.insts place)) at s.pointer s.stands word in absurd (omega (arith, e, is, few))

pub load_copies : (words : Words) (frame memory : List ℕ) (place : ℕ) (value : Value) (s : LoadStands words frame memory place value) → (get_or frame (frame_place (program_of words.insts) s.stands.at) 0 ≡ OUTSIDE → ⊥)
    → (get_or frame (frame_place (program_of words.insts) s.stands.at) 0 + frame_words (program_of words.insts) (inst_at words.insts place) ≤ length memory)
    × (in_frame (program_of words.insts) value ≡ words_at memory (get_or frame (frame_place (program_of words.insts) s.stands.at) 0) (frame_words (program_of words.insts) (inst_at words.insts place)))
load_copies words frame memory place value s isnt = by_case s.loads
  where
    by_case : Loads (program_of words.insts) memory s.layout s.pointer value → (get_or frame (frame_place (program_of words.insts) s.stands.at) 0 + frame_words (program_of words.insts) (inst_at words.insts place) ≤ length memory)
        × (in_frame (program_of words.insts) value ≡ words_at memory (get_or frame (frame_place (program_of words.insts) s.stands.at) 0) (frame_words (program_of words.insts) (inst_at words.insts place)))
    by_case (load_outside outside zeros) = absurd (isnt (word_of_value words.insts frame (word_at 2 (inst_at words.insts place)) OUTSIDE s.pointer s.stands outside))
    by_case (load_from at word few fits same) =
        let e = word_of_value words.insts frame (word_at 2 (inst_at words.insts place)) at s.pointer s.stands word in
        let size = s.size in
        (omega (arith, e, fits, size), same ∙ (ap (λ (n : ℕ). words_at memory n (size_of s.layout)) (sym e) ∙ ap (words_at memory (get_or frame (frame_place (program_of words.insts) s.stands.at) 0)) (sym size)))

-- ---- stores

-- the operands of a store, and what it does
pub record StoreParts (program : Program) (constant : ℕ → Option ℕ) (words : List ℕ) (read : List Value) (effect : Effect) : Type 0 where
  pub pointer : Value
  pub object : Value
  pub read_is : read ≡ pointer ∷ object ∷ []
  pub suits : Suits program constant (slice_index words 0) pointer
  pub object_suits : Suits program constant (slice_index words 1) object
  pub type : ℕ
  pub operand : PointerOperand program (slice_index words 0) type
  pub typed : type_id (program.meaning (slice_index words 1)) ≡ Some type
  pub does : option_and_then (λ words. stored program words pointer) (words_of object) ≡ Some effect

abbrev IsStore : Words → Memory → Effect → (read : List Value) → Inst → Type 0
IsStore words held effect read inst =
    is_some (kinds inst) ≡ true → FitsHere words inst → AllSuit (program_of words.insts) (constant_word words.insts) (read_ids inst.op 0 inst.words) read → effect_of (program_of words.insts) held inst read ≡ Some effect
    → StoreParts (program_of words.insts) (constant_word words.insts) inst.words read effect

store_parts : (words : Words) (held : Memory) (effect : Effect) (list : List ℕ) (read : List Value) → IsStore words held effect read (instruction op.STORE list)
unfolding kinds class_of entry_of memory_operands_fit read_ids effect_of
store_parts words held effect (pointer ∷ object ∷ []) (to ∷ new ∷ []) has fit suit is =
    let o = object_by (program_of words.insts) (constant_word words.insts) (is_vertex (facts_of words.insts)) _ object fit in
    record {
      pointer = to;
      object = new;
      read_is = refl;
      suits = suit.0;
      object_suits = suit.1.0;
      type = o.0;
      operand = pointer_operand (program_of words.insts) (constant_word words.insts) (is_vertex (facts_of words.insts)) pointer o.0 o.1;
      typed = o.2;
      does = is;
    }
store_parts words held effect (pointer ∷ object ∷ []) [] has fit suit is = absurd suit
store_parts words held effect (pointer ∷ object ∷ []) (to ∷ []) has fit suit is = absurd suit.1
store_parts words held effect (pointer ∷ object ∷ []) (to ∷ new ∷ other ∷ read) has fit suit is = absurd suit.1.1
store_parts words held effect (pointer ∷ object ∷ more ∷ list) read has fit suit is = cc
store_parts words held effect (pointer ∷ []) read has fit suit is = cc
store_parts words held effect [] read has fit suit is = cc

-- a store reads its first two words, of which the table says that there are no more
abbrev ReadsTwo : Inst → Type 0
ReadsTwo inst = is_some (kinds inst) ≡ true → read_ids inst.op 0 inst.words ≡ slice_index inst.words 0 ∷ slice_index inst.words 1 ∷ []

store_ids : (list : List ℕ) → ReadsTwo (instruction op.STORE list)
unfolding kinds class_of entry_of read_ids
store_ids (pointer ∷ object ∷ []) has = refl
store_ids (pointer ∷ object ∷ more ∷ list) has = cc
store_ids (pointer ∷ []) has = cc
store_ids [] has = cc

-- what the frame and the memory have for a store
pub record StoreStands (words : Words) (frame memory : List ℕ) (held : Memory) (place : ℕ) (effect : Effect) : Type 0 where
  pub pointer : Value
  pub object : Value
  pub stands : StandsFor words.insts frame (word_at 0 (inst_at words.insts place)) pointer
  pub object_stands : StandsFor words.insts frame (word_at 1 (inst_at words.insts place)) object
  pub stores : Stores (program_of words.insts) memory held pointer object effect

words_by : (program : Program) (pointer : Value) (words : Option (List ℕ)) (effect : Effect) → option_and_then (λ words. stored program words pointer) words ≡ Some effect → (new : List ℕ) × (words ≡ Some new) × (stored program new pointer ≡ Some effect)
words_by program pointer None effect is = cc
words_by program pointer (Some new) effect is = (new, refl, is)

pub store_stands : (words : Words) → IsValidList words → (frame memory : List ℕ) (held : Memory) (place : ℕ) (effect : Effect) → place < length words.insts → (inst_at words.insts place).op == op.STORE ≡ true → IsFrame (program_of words.insts) frame
    → (values : Values) → Shows (program_of words.insts) frame values → ShowsMemory (program_of words.insts) memory held → (read : List Value) → all_values values (reads_at (program_of words.insts) place) ≡ Some read
    → AllSuit (program_of words.insts) (constant_word words.insts) (reads_at (program_of words.insts) place) read → effect_of (program_of words.insts) held (inst_at words.insts place) read ≡ Some effect
    → StoreStands words frame memory held place effect
unfolding program_of
store_stands words v frame memory held place effect within is size values shows holds read are suit does =
    let inst = inst_at words.insts place in
    let program = program_of words.insts in
    let types = valid_types words v.sound in
    let shaped = (valid_sound words v).shaped place within in
    let fit = memory_fit words v place within (ap class_of (op_is inst.op op.STORE is) ∙ memory_class.1) in
    let p = at_op (IsStore words held effect read) inst op.STORE is (store_parts words held effect inst.words read) shaped fit suit does in
    let reads : read_ids inst.op 0 inst.words ≡ slice_index inst.words 0 ∷ slice_index inst.words 1 ∷ [] = at_op ReadsTwo inst op.STORE is (store_ids inst.words) shaped in
    let two : all_values values (slice_index inst.words 0 ∷ slice_index inst.words 1 ∷ []) ≡ Some (p.pointer ∷ p.object ∷ []) = ap (all_values values) (sym reads) ∙ (are ∙ ap (λ (l : List Value). Some l) p.read_is) in
    let first = first_read values (slice_index inst.words 0) (slice_index inst.words 1 ∷ []) p.pointer (p.object ∷ []) two in
    let second = first_read values (slice_index inst.words 1) [] p.object [] first.1 in
    let points = pointer_value program p.operand.type p.operand.class p.type p.pointer p.operand.means (p.suits.of_type p.operand.type p.operand.is) in
    let l = types.there p.type (types.pointee p.operand.type p.operand.class p.type p.operand.means) in
    let has = type_has_layout program types p.type p.object l.0 l.1 (p.object_suits.of_type p.type p.typed) in
    let w = words_by program p.pointer (words_of p.object) effect p.does in
    record {
      pointer = p.pointer;
      object = p.object;
      stands = stands_for words.insts frame values (slice_index inst.words 0) p.operand.type p.pointer size shows p.operand.is first.0;
      object_stands = stands_for words.insts frame values (slice_index inst.words 1) p.type p.object size shows p.typed second.0;
      stores = stores_by words v memory held holds p.operand.class p.type l.0 p.pointer p.object w.0 effect l.1 points has w.1 w.2;
    }

-- outside the word that the code reads for the pointer is the one that stands for it, and nothing is done
pub store_passes : (words : Words) (frame memory : List ℕ) (held : Memory) (place : ℕ) (effect : Effect) (s : StoreStands words frame memory held place effect) → get_or frame (frame_place (program_of words.insts) s.stands.at) 0 ≡ OUTSIDE → effect ≡ Passes
store_passes words frame memory held place effect s is = by_case s.stores
  where
    by_case : Stores (program_of words.insts) memory held s.pointer s.object effect → effect ≡ Passes
    by_case (store_outside outside passes) = passes
    by_case (store_at at variable from word few fits writes after) = let e = word_of_value words.insts frame (word_at 0 (inst_at words.insts place)) at s.pointer s.stands word in absurd (omega (arith, e, is, few))

-- inside of a variable it is where the object's words are written
pub record StoreWrites (program : Program) (memory : List ℕ) (held : Memory) (object : Value) (effect : Effect) (at : ℕ) : Type 0 where
  pub variable : ℕ
  pub from : ℕ
  pub writes : effect ≡ Writes variable from (in_frame program object)
  pub fits : at + length (in_frame program object) ≤ length memory
  pub after : ShowsMemory program (written memory at (in_frame program object)) (with_words variable from (in_frame program object) held)

pub store_writes : (words : Words) (frame memory : List ℕ) (held : Memory) (place : ℕ) (effect : Effect) (s : StoreStands words frame memory held place effect) → (get_or frame (frame_place (program_of words.insts) s.stands.at) 0 ≡ OUTSIDE → ⊥)
    → StoreWrites (program_of words.insts) memory held s.object effect (get_or frame (frame_place (program_of words.insts) s.stands.at) 0)
store_writes words frame memory held place effect s isnt = by_case s.stores
  where
    by_case : Stores (program_of words.insts) memory held s.pointer s.object effect → StoreWrites (program_of words.insts) memory held s.object effect (get_or frame (frame_place (program_of words.insts) s.stands.at) 0)
    by_case (store_outside outside passes) = absurd (isnt (word_of_value words.insts frame (word_at 0 (inst_at words.insts place)) OUTSIDE s.pointer s.stands outside))
    by_case (store_at at variable from word few fits writes after) =
        let e = word_of_value words.insts frame (word_at 0 (inst_at words.insts place)) at s.pointer s.stands word in
        subst (λ (n : ℕ). StoreWrites (program_of words.insts) memory held s.object effect n) (sym e) (record { variable = variable; from = from; writes = writes; fits = fits; after = after })

-- ---- results of one word

pub one_room : (words : Words) → IsValidList words → (frame : List ℕ) (held : Memory) (place word : ℕ) (value : Value) → GivesAt (program_of words.insts) frame held place value → in_frame (program_of words.insts) value ≡ word ∷ []
    → frame_place (program_of words.insts) place < length frame
unfolding program_of
one_room words v frame held place word value g is =
    let size = (given_result words v frame held place value g).size in
    let room = frame_room (program_of words.insts) place g.within in
    let long = ap length is in let frame_is = g.size in
    omega (arith, size, room, long, frame_is)

-- ---- variables

pointed : (program : Program) (type variable : ℕ) (m : Meaning) → IsOfMeaning program type m (Pointer variable []) → (class : ℕ) × (to : ℕ) × PointsTo program class to variable []
pointed program type variable (OfShape (PointerType class to)) is = (class, to, is)
pointed program type variable m is = absurd (no_data program type variable is)
  where
    no_data : (program : Program) (type variable : ℕ) → IsData program type (Pointer variable []) → ⊥
    no_data program type variable is = let e = is.has in cc

made_by : (program : Program) (held : Memory) (inst : Inst) (read : List Value) (value : Value) → inst.op == op.VARIABLE ≡ true → Gave program held inst read value → value ≡ Pointer (word_at 1 inst) []
made_by program held inst read value is (by_variable at whole) = whole
made_by program held inst read value is (by_class has isnt made) = let e = sym (ap gives_value (op_is inst.op op.VARIABLE is) ∙ variable_gives) ∙ has in cc

first_or : ℕ → Option (ℕ × Layout) → ℕ
first_or place None = place
first_or place (Some (found, layout)) = found

first_place : (whole layout : Layout) (place : ℕ) → part_along whole [] ≡ Some (place, layout) → 0 ≡ place
unfolding first_or
first_place whole layout place is = ap (first_or 0) is

-- OpVariable gives a pointer to where its variable begins
pub variable_word : (words : Words) → IsValidList words → (frame : List ℕ) (held : Memory) (place : ℕ) (value : Value) → GivesAt (program_of words.insts) frame held place value → (inst_at words.insts place).op == op.VARIABLE ≡ true
    → in_frame (program_of words.insts) value ≡ memory_place (program_of words.insts) place ∷ []
unfolding program_of
variable_word words v frame held place value g is =
    let inst = inst_at words.insts place in
    let program = program_of words.insts in
    let whole = made_by program held inst g.read value is (gave program held inst g.read value g.effect) in
    let typed = subst (λ (x : Value). IsOfType program (word_at 0 inst) x) whole g.typed in
    let p = pointed program (word_at 0 inst) (word_at 1 inst) (meaning words.insts (word_at 0 inst)) typed in
    let l = pointer_lies words p.0 p.1 (word_at 1 inst) [] p.2 in
    let same_place : l.lies.place ≡ place = same_some l.lies.place place (sym l.lies.defined ∙ (given_result words v frame held place value g).defined) in
    let none = first_place l.whole p.2.layout l.place l.found in
    let f = ap (memory_place program) same_place in
    let e : memory_place program l.lies.place + l.place ≡ memory_place program place = omega (arith, none, f) in
    ap (in_frame program) whole ∙ (l.word ∙ ap (λ (n : ℕ). n ∷ []) e)
