-- The operands of chains in a valid module's frame.
use Rattle.std.proofs.Common.{◌≡◌, ℕ, ◌+◌, ◌≤◌, ◌^◌, ◌==◌, get_or, Bool, true, List, [], ◌∷◌, drop, slice_index, refl, ap, sym, ◌∙◌, subst, arith, Option, None, Some, is_some}
use Rattle.std.specs.Option.{option_map, option_and_then}
use Rattle.spirv_model.specs.declared.module.Inst.{Inst}
use Rattle.spirv_model.specs.declared.module.Words.{Words}
use Rattle.spirv_model.specs.declared.op.TheConstants as op
use Rattle.spirv_model.specs.Operands.{word_at, entry_of, class_of, kinds}
use Rattle.valid_model.specs.declared.meaning.Meaning.TheVariants.{Shape as OfShape, Variable}
use Rattle.valid_model.specs.declared.meaning.Shape.TheVariants.{Pointer as PointerType}
use Rattle.valid_model.specs.Definitions.{inst_at}
use Rattle.valid_model.specs.Meanings.{meaning}
use Rattle.valid_model.specs.ModuleFacts.{is_vertex, facts_of}
use Rattle.check_model.specs.declared.components.Part.{Part}
use Rattle.check_model.specs.declared.components.Part.TheVariants as part
use Rattle.check_model.specs.MemoryOperands.{chain_along, chain_step, memory_operands_fit}
use Rattle.check_model.specs.Typing.{type_id, constant_word}
use Rattle.check_model.specs.Validity.{IsValidList}
use Rattle.stage_model.specs.Value.{Value, Word, Layout, Several, Layouts, size_of, part_at, part_along}
use Rattle.stage_model.specs.Program.{Program, program_of}
use Rattle.stage_model.specs.Start.{Values, Memory, all_values}
use Rattle.stage_model.specs.Effect.{Gives, read_ids, result_of, effect_of, all_words, chained}
use Rattle.typed_model.specs.Types.{HasTypes, part_layout, Suits, AllSuit}
use Rattle.typed_model.proofs.Chains.{ChainRule, ChainStep, rule_by, step_is, nowhere}
use Rattle.typed_model.proofs.EffectsRun.{instruction}
use Rattle.typed_model.proofs.MemoryValues.{pointer_value}
use Rattle.typed_model.proofs.PlainRuns.{at_op}
use Rattle.typed_model.proofs.ReadTypes.{Each, IsTyped, chain_typed}
use Rattle.typed_model.proofs.ReadValues.{typing_here, numbers_typed}
use Rattle.typed_model.proofs.ValidModules.{valid_sound}
use Rattle.typed_model.proofs.ValidTypes.{valid_types}
use Rattle.frame_model.specs.Along.{word_along, ShowsIndices, TakesIndices}
use Rattle.frame_model.specs.Frame.{OUTSIDE, frame_place, in_frame}
use Rattle.frame_model.specs.Shown.{IsFrame, Shows}
use Rattle.frame_model.specs.Written.{GivesAt}
use Rattle.frame_model.proofs.AccessOperands.{StandsFor, stands_for, word_of_value, first_read, memory_class, memory_fit, FitsHere, some_gives, op_is}
use Rattle.frame_model.proofs.LayoutParts.{further, same_part}
use Rattle.frame_model.proofs.MemoryAccesses.{Chains, chain_outside, chain_at, chains}

same_some : {A : Type 0} (x y : A) → Some x ≡ Some y → x ≡ y
same_some x y is = cc

-- ---- indices

word_in_frame : (program : Program) (word : ℕ) → in_frame program (Word word) ≡ word ∷ []
unfolding in_frame
word_in_frame program word = refl

-- one index leads to a part with an index
one_index : (parts : Layouts) (index place : ℕ) (layout : Layout) → part_along (Several parts) (index ∷ []) ≡ Some (place, layout) → (at : ℕ) × (part_at parts index ≡ Some (at, layout))
one_index parts index place layout is = by_found (part_at parts index) is
  where
    by_found : (found : Option (ℕ × Layout)) → option_and_then (λ (place, part). further place (part_along part [])) found ≡ Some (place, layout) → (at : ℕ) × (found ≡ Some (at, layout))
    by_found None is = cc
    by_found (Some (at, own)) is = (at, ap (λ (l : Layout). Some (at, l)) (same_part (at + 0) place own layout is).1)

-- what the values of ids are as indices: words that the frame shows, each of a composite
pub record AreIndices (program : Program) (frame : List ℕ) (layout : Layout) (ids : List ℕ) (values : List Value) : Type 0 where
  pub indices : List ℕ
  pub are : all_words values ≡ Some indices
  pub shows : ShowsIndices program frame ids indices
  pub takes : TakesIndices layout indices

takes_more : (parts : Layouts) (index : ℕ) (rest : List ℕ) (layout : Layout) → ((place : ℕ) (found : Layout) → part_at parts index ≡ Some (place, found) → found ≡ layout) → TakesIndices layout rest → TakesIndices (Several parts) (index ∷ rest)
takes_more parts index rest layout same takes place part found =
    let one = one_index parts index place part found in
    subst (λ (l : Layout). TakesIndices l rest) (sym (same one.0 part one.1)) takes

one_more : (insts : List Inst) (frame : List ℕ) (id : ℕ) (ids : List ℕ) (value : Value) (values : List Value) (whole : Layout) (next : Part) (s : ChainStep (program_of insts) whole value next) → StandsFor insts frame id value
    → AreIndices (program_of insts) frame s.layout ids values → AreIndices (program_of insts) frame whole (id ∷ ids) (value ∷ values)
unfolding program_of
one_more insts frame id ids value values whole next s stands rest = record {
  indices = s.word ∷ rest.indices;
  are = ap (λ (v : Value). all_words (v ∷ values)) s.is_word ∙ ap (option_map (λ words. s.word ∷ words)) rest.are;
  shows = (
    record {
      place = stands.at;
      defined = stands.defined;
      is = word_of_value insts frame id s.word value stands (ap (in_frame (program_of insts)) s.is_word ∙ word_in_frame (program_of insts) s.word);
    },
    rest.shows,
  );
  takes = subst (λ (l : Layout). TakesIndices l (s.word ∷ rest.indices)) (sym s.is) (takes_more s.parts s.word rest.indices s.layout s.same rest.takes);
}

indices_by : (insts : List Inst) (vertex : Bool) → HasTypes (program_of insts) → (frame : List ℕ) (all : Values) → IsFrame (program_of insts) frame → Shows (program_of insts) frame all → (ids : List ℕ) (values : List Value) (from to : Part) (whole : Layout)
    → part_layout (program_of insts) from ≡ Some whole → chain_along (typing_here insts vertex) (Some from) ids ≡ Some to → AllSuit (program_of insts) (constant_word insts) ids values → Each (IsTyped (typing_here insts vertex)) ids
    → all_values all ids ≡ Some values → AreIndices (program_of insts) frame whole ids values
indices_by insts vertex types frame all size shows [] [] from to whole known leads suit typed are = record { indices = []; are = refl; shows = tt; takes = tt }
indices_by insts vertex types frame all size shows [] (value ∷ values) from to whole known leads suit typed are = absurd suit
indices_by insts vertex types frame all size shows (id ∷ ids) [] from to whole known leads suit typed are = absurd suit
indices_by insts vertex types frame all size shows (id ∷ ids) (value ∷ values) from to whole known leads suit typed are =
    let read = first_read all id ids value values are in
    by_next (chain_step (typing_here insts vertex) id from) refl leads
    (λ next layout known leads. indices_by insts vertex types frame all size shows ids values next to layout known leads suit.1 typed.1 read.1)
  where
    by_next : (next : Option Part) → chain_step (typing_here insts vertex) id from ≡ next → chain_along (typing_here insts vertex) next ids ≡ Some to
        → ((next : Part) (layout : Layout) → part_layout (program_of insts) next ≡ Some layout → chain_along (typing_here insts vertex) (Some next) ids ≡ Some to → AreIndices (program_of insts) frame layout ids values)
        → AreIndices (program_of insts) frame whole (id ∷ ids) (value ∷ values)
    by_next None one leads go = let e = nowhere (typing_here insts vertex) ids in cc
    by_next (Some next) one leads go =
        let s = step_is (program_of insts) types (constant_word insts) vertex id value from next whole known one suit.0 in
        one_more insts frame id ids value values whole next s (stands_for insts frame all id typed.0.type value size shows typed.0.of (first_read all id ids value values are).0) (go next s.layout s.known leads)

-- ---- chains

-- the operands of a chain, and what it gives
pub record ChainParts (insts : List Inst) (vertex : Bool) (words : List ℕ) (read : List Value) (value : Value) : Type 0 where
  pub pointer : Value
  pub rest : List Value
  pub read_is : read ≡ pointer ∷ rest
  pub reads : read_ids op.ACCESS_CHAIN 0 words ≡ slice_index words 2 ∷ drop 3 words
  pub rule : ChainRule (program_of insts) (constant_word insts) vertex (slice_index words 0) (slice_index words 2) (drop 3 words)
  pub typed : Each (IsTyped (typing_here insts vertex)) (slice_index words 2 ∷ drop 3 words)
  pub suits : Suits (program_of insts) (constant_word insts) (slice_index words 2) pointer
  pub suit : AllSuit (program_of insts) (constant_word insts) (drop 3 words) rest
  pub gives : option_and_then (chained (program_of insts) pointer) (all_words rest) ≡ Some value

abbrev IsChain : Words → Memory → Value → (read : List Value) → Inst → Type 0
IsChain words held value read inst =
    HasTypes (program_of words.insts) → is_some (kinds inst) ≡ true → FitsHere words inst → AllSuit (program_of words.insts) (constant_word words.insts) (read_ids inst.op 0 inst.words) read
    → effect_of (program_of words.insts) held inst read ≡ Some (Gives value) → ChainParts words.insts (is_vertex (facts_of words.insts)) inst.words read value

chain_parts : (words : Words) (held : Memory) (value : Value) (list : List ℕ) (read : List Value) → IsChain words held value read (instruction op.ACCESS_CHAIN list)
unfolding kinds class_of entry_of memory_operands_fit read_ids effect_of result_of
chain_parts words held value (type ∷ id ∷ base ∷ indices) (pointer ∷ rest) types has fit suit is =
    let vertex = is_vertex (facts_of words.insts) in
    record {
      pointer = pointer;
      rest = rest;
      read_is = refl;
      reads = refl;
      rule = rule_by (program_of words.insts) types (constant_word words.insts) vertex type base indices ((program_of words.insts).meaning base) refl fit;
      typed = chain_typed (typing_here words.insts vertex) (numbers_typed words.insts vertex) type base indices fit;
      suits = suit.0;
      suit = suit.1;
      gives = some_gives _ value is;
    }
chain_parts words held value (type ∷ id ∷ base ∷ indices) [] types has fit suit is = absurd suit
chain_parts words held value (type ∷ id ∷ []) read types has fit suit is = cc
chain_parts words held value (type ∷ []) read types has fit suit is = cc
chain_parts words held value [] read types has fit suit is = cc

-- what the frame has for a chain
pub record ChainStands (words : Words) (frame : List ℕ) (place : ℕ) (value : Value) : Type 0 where
  pub pointer : Value
  pub stands : StandsFor words.insts frame (word_at 2 (inst_at words.insts place)) pointer
  pub held : ℕ
  pub class : ℕ
  pub from : ℕ
  pub is_variable : meaning words.insts (word_at 2 (inst_at words.insts place)) ≡ Variable held class
  pub holds : meaning words.insts held ≡ OfShape (PointerType class from)
  pub layout : Layout
  pub known : (program_of words.insts).layout from ≡ Some layout
  pub indices : List ℕ
  pub shows : ShowsIndices (program_of words.insts) frame (drop 3 (inst_at words.insts place).words) indices
  pub takes : TakesIndices layout indices
  pub chains : Chains (program_of words.insts) layout indices pointer value

pub chain_stands : (words : Words) → IsValidList words → (frame : List ℕ) (held : Memory) (place : ℕ) (value : Value) → GivesAt (program_of words.insts) frame held place value → (inst_at words.insts place).op == op.ACCESS_CHAIN ≡ true
    → ChainStands words frame place value
unfolding program_of
chain_stands words v frame held place value g is =
    let inst = inst_at words.insts place in
    let program = program_of words.insts in
    let vertex = is_vertex (facts_of words.insts) in
    let types = valid_types words v.sound in
    let fit = memory_fit words v place g.within (ap class_of (op_is inst.op op.ACCESS_CHAIN is) ∙ memory_class.2) in
    let p = at_op (IsChain words held value g.read) inst op.ACCESS_CHAIN is (chain_parts words held value inst.words g.read) types ((valid_sound words v).shaped place g.within) fit g.suit g.effect in
    let base = slice_index inst.words 2 in let ids = drop 3 inst.words in
    let reads : read_ids inst.op 0 inst.words ≡ base ∷ ids = ap (λ (o : ℕ). read_ids o 0 inst.words) (op_is inst.op op.ACCESS_CHAIN is) ∙ p.reads in
    let are : all_values g.values (base ∷ ids) ≡ Some (p.pointer ∷ p.rest) = ap (all_values g.values) (sym reads) ∙ (g.are ∙ ap (λ (l : List Value). Some l) p.read_is) in
    let read = first_read g.values base ids p.pointer p.rest are in
    let r = p.rule in
    let l = types.there r.from (types.pointee r.held r.class r.from r.holds) in
    let i = indices_by words.insts vertex types frame g.values g.size g.shows ids p.rest (part.Type r.from) r.reached l.0 l.1 r.leads p.suit p.typed.1 read.1 in
    let points = pointer_value program r.held r.class r.from p.pointer r.holds (p.suits.of_type r.held (ap type_id r.is_variable)) in
    record {
      pointer = p.pointer;
      stands = stands_for words.insts frame g.values base r.held p.pointer g.size g.shows (ap type_id r.is_variable) read.0;
      held = r.held;
      class = r.class;
      from = r.from;
      is_variable = r.is_variable;
      holds = r.holds;
      layout = l.0;
      known = l.1;
      indices = i.indices;
      shows = i.shows;
      takes = i.takes;
      chains = chains words v r.class r.from l.0 i.indices p.pointer value l.1 points (sym (ap (option_and_then (chained program p.pointer)) i.are) ∙ p.gives);
    }

-- outside the word that the code reads for the pointer stays
pub chain_stays : (words : Words) (frame : List ℕ) (place : ℕ) (value : Value) (s : ChainStands words frame place value) → get_or frame (frame_place (program_of words.insts) s.stands.at) 0 ≡ OUTSIDE → in_frame (program_of words.insts) value ≡ OUTSIDE ∷ []
chain_stays words frame place value s is = by_case s.chains
  where
    by_case : Chains (program_of words.insts) s.layout s.indices s.pointer value → in_frame (program_of words.insts) value ≡ OUTSIDE ∷ []
    by_case (chain_outside outside stays) = stays
    by_case (chain_at at word few made) = let e = word_of_value words.insts frame (word_at 2 (inst_at words.insts place)) at s.pointer s.stands word in absurd (omega (arith, e, is, few))

-- inside of a variable it is the place from which the indices lead
pub chain_goes : (words : Words) (frame : List ℕ) (place : ℕ) (value : Value) (s : ChainStands words frame place value) → (get_or frame (frame_place (program_of words.insts) s.stands.at) 0 ≡ OUTSIDE → ⊥)
    → (get_or frame (frame_place (program_of words.insts) s.stands.at) 0 + size_of s.layout ≤ 2 ^ 26)
    × (in_frame (program_of words.insts) value ≡ word_along (get_or frame (frame_place (program_of words.insts) s.stands.at) 0) (part_along s.layout s.indices) ∷ [])
chain_goes words frame place value s isnt = by_case s.chains
  where
    by_case : Chains (program_of words.insts) s.layout s.indices s.pointer value → (get_or frame (frame_place (program_of words.insts) s.stands.at) 0 + size_of s.layout ≤ 2 ^ 26)
        × (in_frame (program_of words.insts) value ≡ word_along (get_or frame (frame_place (program_of words.insts) s.stands.at) 0) (part_along s.layout s.indices) ∷ [])
    by_case (chain_outside outside stays) = absurd (isnt (word_of_value words.insts frame (word_at 2 (inst_at words.insts place)) OUTSIDE s.pointer s.stands outside))
    by_case (chain_at at word few made) =
        let e = word_of_value words.insts frame (word_at 2 (inst_at words.insts place)) at s.pointer s.stands word in
        (omega (arith, e, few), made ∙ ap (λ (n : ℕ). word_along n (part_along s.layout s.indices) ∷ []) (sym e))
