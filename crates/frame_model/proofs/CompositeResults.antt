-- The words of what instructions make that make composites or take them apart, by those of their operands.
use Rattle.std.proofs.Common.{◌≡◌, ℕ, zero, suc, ◌+◌, ◌<◌, ◌≤◌, ◌==◌, ◌||◌, ◌&&◌, Bool, true, false, nat_lt, nat_le, List, [], ◌∷◌, ◌++◌, length, take, drop, map, replicate, refl, ap, sym, ◌∙◌, subst, arith, length-append, length-drop, Option, None, Some}
use Rattle.std.specs.Prelude.{slice_get, slice_index}
use Rattle.std.specs.Option.{option_map, option_and_then}
use Rattle.std.specs.List.{flat_map, list_all}
use Rattle.std.proofs.lemmas.Bool.{leb-true}
use Rattle.std.proofs.lemmas.Bool.Decides.{nat_tests}
use Rattle.std.proofs.lemmas.List.{length-take-le, length-replicate}
use Rattle.std.proofs.lemmas.List.Concat.{flat_map-cons}
use Rattle.basics.proofs.Bools.{first_of_both, second_of_both}
use Rattle.spirv_model.specs.declared.module.Inst.{Inst}
use Rattle.spirv_model.specs.declared.op.TheConstants as op
use Rattle.spirv_model.specs.Operands.{word_at, words_from, class_of, entry_of, kinds}
use Rattle.valid_model.specs.declared.meaning.Meaning.{Meaning}
use Rattle.valid_model.specs.declared.meaning.Meaning.TheVariants.{Shape as OfShape}
use Rattle.valid_model.specs.declared.meaning.Shape.TheVariants.{Pointer as PointerType}
use Rattle.valid_model.specs.Definitions.{definition, inst_at}
use Rattle.valid_model.specs.Meanings.{meaning}
use Rattle.check_model.specs.declared.components.Component.{Component}
use Rattle.check_model.specs.declared.components.Components.{Components}
use Rattle.check_model.specs.CompositeOperands.{composite_operands_fit, is_same_component, is_vector_of, count_in, components_of, no_component, shuffle_into, is_of, whole_of, part_along}
use Rattle.check_model.specs.ScalarOperands.{is_truth}
use Rattle.check_model.specs.Typing.{type_id, has_type, components_in}
use Rattle.stage_model.specs.Value as value_model
use Rattle.stage_model.specs.Value.{Value, Truth, Word, Composite, Pointer, Outside, Parts, Layout, Several, Layouts, size_of, repeated, words_of, zero_of, list_of}
use Rattle.stage_model.specs.Program.{Program, program_of}
use Rattle.stage_model.specs.Start.{Memory}
use Rattle.stage_model.specs.Operations.{parts_in, extracted, inserted, constructed, is_vector, shuffled}
use Rattle.stage_model.specs.Effect.{Gives, read_ids, result_of, effect_of}
use Rattle.typed_model.specs.Values.{HasLayout, IsData, IsOfMeaning, IsOfType}
use Rattle.typed_model.specs.Results.{scalar_layout, vector_layout}
use Rattle.typed_model.specs.Types.{HasTypes, typing_in, Suits, AllSuit}
use Rattle.typed_model.proofs.Composites.{parts_have}
use Rattle.typed_model.proofs.EffectsRun.{instruction, HasOperands}
use Rattle.typed_model.proofs.Layouts.{several_of, same_parts}
use Rattle.typed_model.proofs.TypeLayouts.{own_type, components_suit}
use Rattle.frame_model.specs.Frame.{frame_place, frame_words, in_frame}
use Rattle.frame_model.specs.Shown.{words_at}
use Rattle.frame_model.specs.ShownWords.{shown_at, shown_of}
use Rattle.frame_model.specs.Written.{written}
use Rattle.frame_model.proofs.FrameSizes.{layout_size}
use Rattle.frame_model.proofs.PartWords.{in_frame_words, both_there, words_within, spliced, put, taken_words, inserted_words, replaced_by}
use Rattle.frame_model.proofs.ReadOperands.{OperandAt, OperandsAt}
use Rattle.frame_model.proofs.VectorWords.{zero_words, list_words, both_lists, constructed_words, AreWords, component_words, picked, shuffled_words}

same_some : {A : Type 0} (x y : A) → Some x ≡ Some y → x ≡ y
same_some x y is = cc

-- the result of an effect that gives one
given_by : (found : Option Value) (value : Value) → option_map Gives found ≡ Some (Gives value) → found ≡ Some value
given_by None value is = cc
given_by (Some own) value is = cc

-- ---- data

-- the words of a value of a type that is data
pub record DataWords (program : Program) (type : ℕ) (value : Value) : Type 0 where
  pub layout : Layout
  pub known : program.layout type ≡ Some layout
  pub has : HasLayout layout value
  pub list : List ℕ
  pub are : words_of value ≡ Some list
  pub count : length list ≡ size_of layout
  pub shown : in_frame program value ≡ list

data_words : (program : Program) (type : ℕ) (value : Value) → IsData program type value → DataWords program type value
data_words program type value is =
    let s = layout_size value is.layout is.has in
    record { layout = is.layout; known = is.known; has = is.has; list = s.list; are = s.is; count = s.count; shown = in_frame_words program value s.list s.is }

composite_data : (program : Program) (type : ℕ) (parts : Parts) (m : Meaning) → IsOfMeaning program type m (Composite parts) → IsData program type (Composite parts)
composite_data program type parts (OfShape (PointerType class to)) is = absurd is
composite_data program type parts m is = is

composite_words : (program : Program) (type : ℕ) (parts : Parts) → IsOfType program type (Composite parts) → DataWords program type (Composite parts)
composite_words program type parts is = data_words program type (Composite parts) (composite_data program type parts (program.meaning type) is)

-- a value with a part
with_part : (value : Value) (index : ℕ) (part : Value) → slice_get (parts_in value) index ≡ Some part → (parts : Parts) × (value ≡ Composite parts)
with_part (Composite parts) index part is = (parts, refl)
with_part (Truth b) index part is = cc
with_part (Word word) index part is = cc
with_part (Pointer variable indices) index part is = cc
with_part Outside index part is = cc

part_words_of : (program : Program) (type : ℕ) (value : Value) (index : ℕ) (part : Value) → slice_get (parts_in value) index ≡ Some part → IsOfType program type value → DataWords program type value
part_words_of program type value index part is of =
    let c = with_part value index part is in
    subst (λ (v : Value). DataWords program type v) (sym c.1) (composite_words program type c.0 (subst (λ (v : Value). IsOfType program type v) c.1 of))

-- an operand's words are those that the frame shows
abbrev pub operand_place : List Inst → ℕ → ℕ
operand_place insts at = frame_place (program_of insts) at

abbrev pub operand_count : List Inst → ℕ → ℕ
operand_count insts at = frame_words (program_of insts) (inst_at insts at)

-- ---- OpCompositeExtract

pub record ExtractAt (insts : List Inst) (frame : List ℕ) (place : ℕ) (value : Value) (inst : Inst) : Type 0 where
  pub at : ℕ
  pub defined : definition insts (word_at 2 inst) ≡ Some at
  pub before : operand_place insts at + operand_count insts at ≤ operand_place insts place
  pub type : ℕ
  pub typed : type_id (meaning insts (word_at 2 inst)) ≡ Some type
  pub layout : Layout
  pub known : (program_of insts).layout type ≡ Some layout
  pub start : ℕ
  pub part : Layout
  pub found : value_model.part_along layout (words_from 3 inst) ≡ Some (start, part)
  pub fits : start + size_of part ≤ operand_count insts at
  pub count : length (in_frame (program_of insts) value) ≡ size_of part
  pub are : in_frame (program_of insts) value ≡ words_at frame (operand_place insts at + start) (size_of part)

extract_by : (insts : List Inst) (frame : List ℕ) (place : ℕ) (type id source index : ℕ) (indices : List ℕ) (whole value : Value) (part : Option Value) → OperandAt insts frame place source whole → slice_get (parts_in whole) index ≡ part
    → option_and_then (extracted indices) part ≡ Some value → ExtractAt insts frame place value (instruction op.COMPOSITE_EXTRACT (type ∷ id ∷ source ∷ index ∷ indices))
extract_by insts frame place type id source index indices whole value None o found is = cc
extract_by insts frame place type id source index indices whole value (Some part) o found is =
    let program = program_of insts in
    let d = part_words_of program o.type whole index part found o.is in
    let t = taken_words (index ∷ indices) d.layout whole value d.list d.has d.are (ap (option_and_then (extracted indices)) found ∙ is) in
    let s = layout_size value t.part t.has in
    let size : length d.list ≡ operand_count insts o.at = ap length (sym d.shown) ∙ o.size in
    let within = t.within in
    let shown : d.list ≡ words_at frame (operand_place insts o.at) (operand_count insts o.at) = sym d.shown ∙ sym o.stands in
    let here : in_frame program value ≡ words_at d.list t.place (size_of t.part) = in_frame_words program value (words_at d.list t.place (size_of t.part)) t.are in
    record {
      at = o.at;
      defined = o.defined;
      before = o.before;
      type = o.type;
      typed = o.typed;
      layout = d.layout;
      known = d.known;
      start = t.place;
      part = t.part;
      found = t.at;
      fits = omega (arith, within, size);
      count = ap length (in_frame_words program value s.list s.is) ∙ s.count;
      are = here ∙ (ap (λ (l : List ℕ). words_at l t.place (size_of t.part)) shown ∙ words_within frame (operand_place insts o.at) (operand_count insts o.at) t.place (size_of t.part) (omega (arith, within, size)));
    }

pub extract_words : (insts : List Inst) (frame : List ℕ) (held : Memory) (place : ℕ) (words : List ℕ) (read : List Value) (value : Value) → HasOperands op.COMPOSITE_EXTRACT words
    → OperandsAt insts frame place (read_ids op.COMPOSITE_EXTRACT 0 words) read → effect_of (program_of insts) held (instruction op.COMPOSITE_EXTRACT words) read ≡ Some (Gives value) → ExtractAt insts frame place value (instruction op.COMPOSITE_EXTRACT words)
unfolding kinds class_of entry_of read_ids effect_of result_of
extract_words insts frame held place (type ∷ id ∷ source ∷ index ∷ indices) (whole ∷ []) value has operands is =
    extract_by insts frame place type id source index indices whole value (slice_get (parts_in whole) index) operands.0 refl (given_by _ value is)
extract_words insts frame held place (type ∷ id ∷ source ∷ index ∷ indices) [] value has operands is = absurd operands
extract_words insts frame held place (type ∷ id ∷ source ∷ index ∷ indices) (whole ∷ other ∷ values) value has operands is = absurd operands.1
extract_words insts frame held place (type ∷ id ∷ source ∷ []) read value has operands is = cc
extract_words insts frame held place (type ∷ id ∷ []) read value has operands is = cc
extract_words insts frame held place (type ∷ []) read value has operands is = cc
extract_words insts frame held place [] read value has operands is = cc

-- ---- OpCompositeInsert

-- what is put has words, where the whole does
put_there : (indices : List ℕ) (object value new : Value) (list : List ℕ) → inserted object indices value ≡ Some new → words_of new ≡ Some list → (words : List ℕ) × (words_of object ≡ Some words)
put_there [] object value new list is are = (list, ap words_of (same_some object new is) ∙ are)
put_there (index ∷ indices) object value new list is are =
    let r = replaced_by object index indices value new is in
    let all : list_words (put index r.inner (parts_in value)) ≡ Some list = sym (ap words_of r.result) ∙ are in
    let b = both_lists (take index (parts_in value)) (r.inner ∷ drop (index + 1) (parts_in value)) list all in
    let one = both_there (words_of r.inner) (list_words (drop (index + 1) (parts_in value))) b.back b.second_is in
    put_there indices object r.part r.inner one.front r.made one.first_is

pub record InsertAt (insts : List Inst) (frame : List ℕ) (place : ℕ) (value : Value) (inst : Inst) : Type 0 where
  pub object : ℕ
  pub object_defined : definition insts (word_at 2 inst) ≡ Some object
  pub object_before : operand_place insts object + operand_count insts object ≤ operand_place insts place
  pub at : ℕ
  pub defined : definition insts (word_at 3 inst) ≡ Some at
  pub before : operand_place insts at + operand_count insts at ≤ operand_place insts place
  pub type : ℕ
  pub typed : type_id (meaning insts (word_at 3 inst)) ≡ Some type
  pub layout : Layout
  pub known : (program_of insts).layout type ≡ Some layout
  pub start : ℕ
  pub part : Layout
  pub found : value_model.part_along layout (words_from 4 inst) ≡ Some (start, part)
  pub count : length (in_frame (program_of insts) value) ≡ operand_count insts at
  pub fits : start + operand_count insts object ≤ operand_count insts at
  pub are : in_frame (program_of insts) value ≡ written (words_at frame (operand_place insts at) (operand_count insts at)) start (words_at frame (operand_place insts object) (operand_count insts object))

length_spliced : (words new : List ℕ) (place count : ℕ) → place + count ≤ length words → length (spliced words place count new) + count ≡ length words + length new
length_spliced words new place count fits =
    let a = length-append (take place words ++ new) (drop (place + count) words) in
    let b = length-append (take place words) new in
    let t = length-take-le place words (omega (arith, fits)) in
    let d = length-drop (place + count) words in
    omega (arith, a, b, t, d, fits)

insert_by : (insts : List Inst) (frame : List ℕ) (place : ℕ) (type id of into index : ℕ) (indices : List ℕ) (object whole value : Value) → OperandAt insts frame place of object → OperandAt insts frame place into whole → type_id (meaning insts into) ≡ Some type
    → IsOfType (program_of insts) type value → inserted object (index ∷ indices) whole ≡ Some value → InsertAt insts frame place value (instruction op.COMPOSITE_INSERT (type ∷ id ∷ of ∷ into ∷ index ∷ indices))
insert_by insts frame place type id of into index indices object whole value o w own typed is =
    let program = program_of insts in
    let r = replaced_by object index indices whole value is in
    let same_type : w.type ≡ type = same_some w.type type (sym w.typed ∙ own) in
    let d = part_words_of program w.type whole index r.part r.is w.is in
    let n = subst (λ (v : Value). DataWords program type v) (sym r.result) (composite_words program type _ (subst (λ (v : Value). IsOfType program type v) r.result typed)) in
    let p = put_there (index ∷ indices) object whole value n.list is n.are in
    let i = inserted_words (index ∷ indices) d.layout object whole value d.list p.0 d.has d.are p.1 is in
    let list_is : n.list ≡ spliced d.list i.place (size_of i.part) p.0 = same_some n.list _ (sym n.are ∙ i.are) in
    let layouts : d.layout ≡ n.layout = same_some d.layout n.layout (sym d.known ∙ (ap program.layout same_type ∙ n.known)) in
    let sizes : length n.list ≡ length d.list = n.count ∙ (sym (ap size_of layouts) ∙ sym d.count) in
    let within = i.within in
    let long : length p.0 ≡ size_of i.part = (let l = length_spliced d.list p.0 i.place (size_of i.part) i.within in let e = ap length list_is in omega (arith, l, e, sizes)) in
    let object_shown : p.0 ≡ words_at frame (operand_place insts o.at) (operand_count insts o.at) = sym (in_frame_words program object p.0 p.1) ∙ sym o.stands in
    let object_size : length p.0 ≡ operand_count insts o.at = ap length (sym (in_frame_words program object p.0 p.1)) ∙ o.size in
    let whole_shown : d.list ≡ words_at frame (operand_place insts w.at) (operand_count insts w.at) = sym d.shown ∙ sym w.stands in
    let whole_size : length d.list ≡ operand_count insts w.at = ap length (sym d.shown) ∙ w.size in
    record {
      object = o.at;
      object_defined = o.defined;
      object_before = o.before;
      at = w.at;
      defined = w.defined;
      before = w.before;
      type = w.type;
      typed = w.typed;
      layout = d.layout;
      known = d.known;
      start = i.place;
      part = i.part;
      found = i.at;
      count = ap length n.shown ∙ (sizes ∙ whole_size);
      fits = omega (arith, within, long, object_size, whole_size);
      are = n.shown ∙ (list_is ∙ (ap (λ (n : ℕ). spliced d.list i.place n p.0) (sym long) ∙ (ap (λ (l : List ℕ). written l i.place p.0) whole_shown
          ∙ ap (λ (l : List ℕ). written (words_at frame (operand_place insts w.at) (operand_count insts w.at)) i.place l) object_shown)));
    }

pub insert_words : (insts : List Inst) (constant : ℕ → Option ℕ) (vertex : Bool) (frame : List ℕ) (held : Memory) (place : ℕ) (words : List ℕ) (read : List Value) (value : Value) → HasOperands op.COMPOSITE_INSERT words
    → composite_operands_fit (typing_in (program_of insts) constant vertex) (instruction op.COMPOSITE_INSERT words) ≡ true → OperandsAt insts frame place (read_ids op.COMPOSITE_INSERT 0 words) read
    → effect_of (program_of insts) held (instruction op.COMPOSITE_INSERT words) read ≡ Some (Gives value) → IsOfType (program_of insts) (word_at 0 (instruction op.COMPOSITE_INSERT words)) value
    → InsertAt insts frame place value (instruction op.COMPOSITE_INSERT words)
unfolding kinds class_of entry_of composite_operands_fit read_ids effect_of result_of program_of
insert_words insts constant vertex frame held place (type ∷ id ∷ of ∷ into ∷ index ∷ indices) (object ∷ whole ∷ []) value has fit operands is typed =
    let typing = typing_in (program_of insts) constant vertex in
    insert_by insts frame place type id of into index indices object whole value operands.0 operands.1.0
    (own_type (program_of insts) constant vertex type into (first_of_both (has_type typing type into) (is_of typing (type_id (typing.meaning of)) (part_along typing (whole_of typing into) (index ∷ indices))) fit)) typed (given_by _ value is)
insert_words insts constant vertex frame held place (type ∷ id ∷ of ∷ into ∷ index ∷ indices) [] value has fit operands is typed = absurd operands
insert_words insts constant vertex frame held place (type ∷ id ∷ of ∷ into ∷ index ∷ indices) (object ∷ []) value has fit operands is typed = absurd operands.1
insert_words insts constant vertex frame held place (type ∷ id ∷ of ∷ into ∷ index ∷ indices) (object ∷ whole ∷ other ∷ values) value has fit operands is typed = absurd operands.1.1
insert_words insts constant vertex frame held place (type ∷ id ∷ of ∷ into ∷ []) read value has fit operands is typed = cc
insert_words insts constant vertex frame held place (type ∷ id ∷ of ∷ []) read value has fit operands is typed = cc
insert_words insts constant vertex frame held place (type ∷ id ∷ []) read value has fit operands is typed = cc
insert_words insts constant vertex frame held place (type ∷ []) read value has fit operands is typed = cc
insert_words insts constant vertex frame held place [] read value has fit operands is typed = cc

-- ---- OpCompositeConstruct

-- the words of values are those that the frame shows of their ids
shown_words : (insts : List Inst) (frame : List ℕ) (place : ℕ) (ids : List ℕ) (read : List Value) → OperandsAt insts frame place ids read → flat_map (shown_of insts frame) ids ≡ flat_map (in_frame (program_of insts)) read
shown_words insts frame place [] [] operands = refl
shown_words insts frame place [] (value ∷ values) operands = absurd operands
shown_words insts frame place (id ∷ ids) [] operands = absurd operands
shown_words insts frame place (id ∷ ids) (value ∷ values) operands =
    let f : ℕ → List ℕ = shown_of insts frame in
    let here : f id ≡ in_frame (program_of insts) value = ap (shown_at insts frame) operands.0.defined ∙ operands.0.stands in
    flat_map-cons f id ids ∙ (ap (λ (l : List ℕ). l ++ flat_map f ids) here ∙ (ap (λ (l : List ℕ). in_frame (program_of insts) value ++ l) (shown_words insts frame place ids values operands.1)
    ∙ sym (flat_map-cons (in_frame (program_of insts)) value values)))

-- an id is defined, and stands in front of the result
pub record IsBefore (insts : List Inst) (place id : ℕ) : Type 0 where
  pub at : ℕ
  pub defined : definition insts id ≡ Some at
  pub before : operand_place insts at + operand_count insts at ≤ operand_place insts place

abbrev pub AreBefore : List Inst → ℕ → List ℕ → Type 0
AreBefore insts place ids = (k : ℕ) → k < length ids → IsBefore insts place (slice_index ids k)

are_before : (insts : List Inst) (frame : List ℕ) (place : ℕ) (ids : List ℕ) (read : List Value) → OperandsAt insts frame place ids read → AreBefore insts place ids
are_before insts frame place [] read operands k less = absurd (omega (arith, less))
are_before insts frame place (id ∷ ids) [] operands k less = absurd operands
are_before insts frame place (id ∷ ids) (value ∷ values) operands zero less = let o = operands.0 in record { at = o.at; defined = o.defined; before = o.before }
are_before insts frame place (id ∷ ids) (value ∷ values) operands (suc k) less = are_before insts frame place ids values operands.1 k (omega (arith, less))

pub record ConstructAt (insts : List Inst) (frame : List ℕ) (place : ℕ) (value : Value) (inst : Inst) : Type 0 where
  pub before : AreBefore insts place (words_from 2 inst)
  pub are : in_frame (program_of insts) value ≡ flat_map (shown_of insts frame) (words_from 2 inst)

construct_by : (insts : List Inst) (frame : List ℕ) (place : ℕ) (type id : ℕ) (ids : List ℕ) (vector : Bool) (read : List Value) (value : Value) → OperandsAt insts frame place ids read → IsOfType (program_of insts) type value
    → ◌≡◌ {A = Option Value} (Some (constructed vector read)) (Some value) → ConstructAt insts frame place value (instruction op.COMPOSITE_CONSTRUCT (type ∷ id ∷ ids))
construct_by insts frame place type id ids vector read value operands typed is =
    let program = program_of insts in
    let made : value ≡ constructed vector read = sym (same_some _ value is) in
    let d = subst (λ (v : Value). DataWords program type v) (sym made) (composite_words program type _ (subst (λ (v : Value). IsOfType program type v) made typed)) in
    let parts = constructed_words program vector read d.list (sym (ap words_of made) ∙ d.are) in
    record { before = are_before insts frame place ids read operands; are = d.shown ∙ (sym parts ∙ sym (shown_words insts frame place ids read operands)) }

pub construct_words : (insts : List Inst) (frame : List ℕ) (held : Memory) (place : ℕ) (words : List ℕ) (read : List Value) (value : Value) → HasOperands op.COMPOSITE_CONSTRUCT words → OperandsAt insts frame place (read_ids op.COMPOSITE_CONSTRUCT 0 words) read
    → effect_of (program_of insts) held (instruction op.COMPOSITE_CONSTRUCT words) read ≡ Some (Gives value) → IsOfType (program_of insts) (word_at 0 (instruction op.COMPOSITE_CONSTRUCT words)) value
    → ConstructAt insts frame place value (instruction op.COMPOSITE_CONSTRUCT words)
unfolding kinds class_of entry_of read_ids effect_of result_of
construct_words insts frame held place (type ∷ id ∷ ids) read value has operands is typed =
    construct_by insts frame place type id ids (is_vector ((program_of insts).meaning type)) read value operands typed (given_by _ value is)
construct_words insts frame held place (type ∷ []) read value has operands is typed = cc
construct_words insts frame held place [] read value has operands is typed = cc

-- ---- OpUndef

pub undef_words : (program : Program) (held : Memory) (words : List ℕ) (read : List Value) (value : Value) → effect_of program held (instruction op.UNDEF words) read ≡ Some (Gives value)
    → in_frame program value ≡ replicate (length (in_frame program value)) 0
unfolding class_of entry_of effect_of result_of
undef_words program held words read value is = by_layout program value (program.layout (slice_index words 0)) (given_by _ value is)
  where
    by_layout : (program : Program) (value : Value) (layout : Option Layout) → option_map zero_of layout ≡ Some value → in_frame program value ≡ replicate (length (in_frame program value)) 0
    by_layout program value None is = cc
    by_layout program value (Some layout) is =
        let are : in_frame program value ≡ replicate (size_of layout) 0 = in_frame_words program value (replicate (size_of layout) 0) (sym (ap words_of (same_some (zero_of layout) value is)) ∙ zero_words layout) in
        are ∙ ap (λ (n : ℕ). replicate n 0) (sym (ap length are ∙ length-replicate (size_of layout) 0))

-- ---- OpVectorShuffle

-- the words of a vector's components
record VectorAt (insts : List Inst) (frame : List ℕ) (value : Value) (at : ℕ) (of : Option Components) : Type 0 where
  are : AreWords (parts_in value) (words_at frame (operand_place insts at) (operand_count insts at))
  count : operand_count insts at ≡ count_in of

vector_at : (insts : List Inst) → HasTypes (program_of insts) → (constant : ℕ → Option ℕ) (vertex : Bool) (frame : List ℕ) (place id : ℕ) (value : Value) (component : Component) (of : Option Components) → components_of (typing_in (program_of insts) constant vertex) id ≡ of
    → is_vector_of component of ≡ true → (o : OperandAt insts frame place id value) → Suits (program_of insts) constant id value → VectorAt insts frame value o.at of
vector_at insts types constant vertex frame place id value component None is fits o suits = cc
vector_at insts types constant vertex frame place id value component (Some of) is fits o suits =
    let program = program_of insts in
    let scalar : Layout = scalar_layout (is_truth of.component) in
    let more : 2 ≤ of.count = leb-true 2 of.count (second_of_both (is_same_component component of.component) (nat_le 2 of.count) fits) in
    let has = components_suit program types constant vertex id value of is suits in
    let several : HasLayout (Several (repeated of.count scalar)) value = subst (λ b. HasLayout (vector_layout b of.count (is_truth of.component)) value) (not_one of.count more) has in
    let c = several_of value (repeated of.count scalar) several in
    let p = parts_have scalar of.count c.0 c.2 in
    let w = component_words (is_truth of.component) (list_of c.0) p.0 in
    let shown : in_frame program value ≡ w.words = in_frame_words program value w.words (ap words_of c.1 ∙ (sym (ap value_model.words_of_parts (same_parts c.0)) ∙ w.list)) in
    let list : w.words ≡ words_at frame (operand_place insts o.at) (operand_count insts o.at) = sym shown ∙ sym o.stands in
    record {
      are = subst (λ (l : List ℕ). AreWords (parts_in value) l) list (subst (λ (v : Value). AreWords (parts_in v) w.words) (sym c.1) w.are);
      count = sym o.size ∙ (ap length shown ∙ (w.count ∙ p.1));
    }
  where
    not_one : (count : ℕ) → 2 ≤ count → count == 1 ≡ false
    not_one count more = grind (arith, nat_tests)

pub record ShuffleAt (insts : List Inst) (frame : List ℕ) (place : ℕ) (value : Value) (inst : Inst) : Type 0 where
  pub first : ℕ
  pub first_defined : definition insts (word_at 2 inst) ≡ Some first
  pub first_before : operand_place insts first + operand_count insts first ≤ operand_place insts place
  pub second : ℕ
  pub second_defined : definition insts (word_at 3 inst) ≡ Some second
  pub second_before : operand_place insts second + operand_count insts second ≤ operand_place insts place
  -- the literals number the components of both
  pub fit : list_all (λ literal. nat_lt literal (operand_count insts first + operand_count insts second) || (literal == no_component)) (words_from 4 inst) ≡ true
  pub are : in_frame (program_of insts) value ≡ map (picked (words_at frame (operand_place insts first) (operand_count insts first) ++ words_at frame (operand_place insts second) (operand_count insts second))) (words_from 4 inst)

each_of_five : (a b c d e : Bool) → (a && b && c && d && e) ≡ true → (c ≡ true) × (d ≡ true) × (e ≡ true)
each_of_five true true true true true is = (refl, refl, refl)
each_of_five true true true true false is = cc
each_of_five true true true false e is = cc
each_of_five true true false d e is = cc
each_of_five true false c d e is = cc
each_of_five false b c d e is = cc

shuffle_by : (insts : List Inst) → HasTypes (program_of insts) → (constant : ℕ → Option ℕ) (vertex : Bool) (frame : List ℕ) (place : ℕ) (type id a b : ℕ) (literals : List ℕ) (of : Option Components) (first second value : Value)
    → shuffle_into of (components_of (typing_in (program_of insts) constant vertex) a) (components_of (typing_in (program_of insts) constant vertex) b) literals ≡ true
    → OperandAt insts frame place a first → OperandAt insts frame place b second → Suits (program_of insts) constant a first → Suits (program_of insts) constant b second → shuffled first second literals ≡ Some value
    → ShuffleAt insts frame place value (instruction op.VECTOR_SHUFFLE (type ∷ id ∷ a ∷ b ∷ literals))
shuffle_by insts types constant vertex frame place type id a b literals None first second value fit x y suits also is = cc
shuffle_by insts types constant vertex frame place type id a b literals (Some of) first second value fit x y suits also is =
    let typing = typing_in (program_of insts) constant vertex in
    let each : Bool = list_all (λ literal. nat_lt literal (count_in (components_of typing a) + count_in (components_of typing b)) || (literal == no_component)) literals in
    let e = each_of_five (nat_le 2 of.count) (of.count == length literals) (is_vector_of of.component (components_of typing a)) (is_vector_of of.component (components_of typing b)) each fit in
    let v = vector_at insts types constant vertex frame place a first of.component (components_of typing a) refl e.0 x suits in
    let w = vector_at insts types constant vertex frame place b second of.component (components_of typing b) refl e.1 y also in
    let both : count_in (components_of typing a) + count_in (components_of typing b) ≡ operand_count insts x.at + operand_count insts y.at = (let m = v.count in let n = w.count in omega (arith, m, n)) in
    let xs = words_at frame (operand_place insts x.at) (operand_count insts x.at) in let ys = words_at frame (operand_place insts y.at) (operand_count insts y.at) in
    record {
      first = x.at;
      first_defined = x.defined;
      first_before = x.before;
      second = y.at;
      second_defined = y.defined;
      second_before = y.before;
      fit = subst (λ (n : ℕ). list_all (λ literal. nat_lt literal n || (literal == no_component)) literals ≡ true) both e.2;
      are = in_frame_words (program_of insts) value (map (picked (xs ++ ys)) literals) (shuffled_words first second value xs ys literals v.are w.are is);
    }

pub shuffle_words : (insts : List Inst) → HasTypes (program_of insts) → (constant : ℕ → Option ℕ) (vertex : Bool) (frame : List ℕ) (held : Memory) (place : ℕ) (words : List ℕ) (read : List Value) (value : Value) → HasOperands op.VECTOR_SHUFFLE words
    → composite_operands_fit (typing_in (program_of insts) constant vertex) (instruction op.VECTOR_SHUFFLE words) ≡ true → OperandsAt insts frame place (read_ids op.VECTOR_SHUFFLE 0 words) read
    → AllSuit (program_of insts) constant (read_ids op.VECTOR_SHUFFLE 0 words) read → effect_of (program_of insts) held (instruction op.VECTOR_SHUFFLE words) read ≡ Some (Gives value)
    → ShuffleAt insts frame place value (instruction op.VECTOR_SHUFFLE words)
unfolding kinds class_of entry_of composite_operands_fit read_ids effect_of result_of program_of
shuffle_words insts types constant vertex frame held place (type ∷ id ∷ a ∷ b ∷ literals) (first ∷ second ∷ []) value has fit operands suit is =
    shuffle_by insts types constant vertex frame place type id a b literals (components_in ((program_of insts).meaning type)) first second value fit operands.0 operands.1.0 suit.0 suit.1.0 (given_by _ value is)
shuffle_words insts types constant vertex frame held place (type ∷ id ∷ a ∷ b ∷ literals) [] value has fit operands suit is = absurd operands
shuffle_words insts types constant vertex frame held place (type ∷ id ∷ a ∷ b ∷ literals) (first ∷ []) value has fit operands suit is = absurd operands.1
shuffle_words insts types constant vertex frame held place (type ∷ id ∷ a ∷ b ∷ literals) (first ∷ second ∷ other ∷ values) value has fit operands suit is = absurd operands.1.1
shuffle_words insts types constant vertex frame held place (type ∷ id ∷ a ∷ []) read value has fit operands suit is = cc
shuffle_words insts types constant vertex frame held place (type ∷ id ∷ []) read value has fit operands suit is = cc
shuffle_words insts types constant vertex frame held place (type ∷ []) read value has fit operands suit is = cc
shuffle_words insts types constant vertex frame held place [] read value has fit operands suit is = cc
