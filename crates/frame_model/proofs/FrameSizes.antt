-- The words that values take in a frame, and where they lie in it.
use Rattle.std.proofs.Common.{◌≡◌, ℕ, suc, ◌+◌, ◌<◌, ◌≤◌, List, [], ◌++◌, length, take, refl, ap, sym, ◌∙◌, subst, arith, length-append, Option, None, Some}
use Rattle.std.specs.List.{sum_by}
use Rattle.std.specs.Option.{option_map, unwrap_or}
use Rattle.std.proofs.lemmas.List.{take_all}
use Rattle.std.proofs.lemmas.List.Sums.{sum_by_more, sum_by_more_le}
use Rattle.spirv_model.specs.declared.module.Inst.{Inst}
use Rattle.valid_model.specs.declared.meaning.Meaning.{Meaning}
use Rattle.valid_model.specs.declared.meaning.Meaning.TheVariants.{Shape as OfShape}
use Rattle.valid_model.specs.declared.meaning.Shape.TheVariants.{Pointer as PointerType}
use Rattle.valid_model.specs.Definitions.{inst_at, no_instruction}
use Rattle.stage_model.specs.Value.{Value, Truth, Word, Composite, Pointer, Outside, Parts, NoParts, PartsOf, Layout, OneTruth, OneWord, Several, Layouts, NoLayouts, LayoutsOf, size_of, sizes_of, words_with, words_of, words_of_parts}
use Rattle.stage_model.specs.Program.{Program}
use Rattle.stage_model.specs.Stage.{size_in}
use Rattle.typed_model.specs.Values.{layouts_with, layout_in, layouts_in, HasLayout, IsData, IsPointer, IsOfMeaning, IsOfType}
use Rattle.typed_model.specs.Types.{HasTypes}
use Rattle.frame_model.specs.Frame.{type_words, frame_words, variable_words, frame_place, memory_place, in_frame}

-- ---- values

-- the words of data are as many as their layout says
pub record HasSize (words : Option (List ℕ)) (size : ℕ) : Type 0 where
  pub list : List ℕ
  pub is : words ≡ Some list
  pub count : length list ≡ size

two_lists : (a b : Option (List ℕ)) (m n : ℕ) → HasSize a m → HasSize b n → HasSize (words_with a b) (m + n)
two_lists a b m n first rest = record {
  list = first.list ++ rest.list;
  is = ap (λ (o : Option (List ℕ)). words_with o b) first.is ∙ ap (words_with (Some first.list)) rest.is;
  count = let e : length (first.list ++ rest.list) ≡ length first.list + length rest.list = length-append first.list rest.list in let f = first.count in let g = rest.count in omega (arith, e, f, g);
}

no_several : (o : Option Layouts) (layout : Layout) → option_map Several o ≡ Some layout → (all : Layouts) × (o ≡ Some all) × (layout ≡ Several all)
no_several None layout is = cc
no_several (Some all) layout is = (all, refl, cc)

both_there : (first : Option Layout) (more : Option Layouts) (all : Layouts) → layouts_with first more ≡ Some all → (a : Layout) × (b : Layouts) × (first ≡ Some a) × (more ≡ Some b) × (all ≡ LayoutsOf a b)
both_there None more all is = cc
both_there (Some a) None all is = cc
both_there (Some a) (Some b) all is = (a, b, refl, refl, cc)

same_some : {A : Type 0} (x y : A) → Some x ≡ Some y → x ≡ y
same_some x y is = cc

mutual
  pub layout_size : (value : Value) (layout : Layout) → layout_in value ≡ Some layout → HasSize (words_of value) (size_of layout)
  layout_size (Truth b) layout has = record { list = _; is = refl; count = ap size_of (same_some OneTruth layout has) }
  layout_size (Word word) layout has = record { list = _; is = refl; count = ap size_of (same_some OneWord layout has) }
  layout_size (Composite parts) layout has =
      let s = no_several (layouts_in parts) layout has in
      subst (λ (l : Layout). HasSize (words_of_parts parts) (size_of l)) (sym s.2) (layouts_size parts s.0 s.1)
  layout_size (Pointer variable indices) layout has = cc
  layout_size Outside layout has = cc

  pub layouts_size : (parts : Parts) (all : Layouts) → layouts_in parts ≡ Some all → HasSize (words_of_parts parts) (sizes_of all)
  layouts_size NoParts all has = record { list = []; is = refl; count = ap sizes_of (same_some NoLayouts all has) }
  layouts_size (PartsOf value parts) all has =
      let s = both_there (layout_in value) (layouts_in parts) all has in
      subst (λ (l : Layouts). HasSize (words_with (words_of value) (words_of_parts parts)) (sizes_of l)) (sym s.4)
      (two_lists (words_of value) (words_of_parts parts) (size_of s.0) (sizes_of s.1) (layout_size value s.0 s.2) (layouts_size parts s.1 s.3))

no_words : (value : Value) (layout : Layout) → layout_in value ≡ Some layout → (program : Program) → in_frame program value ≡ unwrap_or (words_of value) []
unfolding in_frame
no_words (Truth b) layout has program = refl
no_words (Word word) layout has program = refl
no_words (Composite parts) layout has program = refl
no_words (Pointer variable indices) layout has program = cc
no_words Outside layout has program = cc

-- the words of data in the frame are as many as their layout says
pub data_words : (program : Program) (value : Value) (layout : Layout) → HasLayout layout value → length (in_frame program value) ≡ size_of layout
data_words program value layout has =
    let s = layout_size value layout has in
    ap length (no_words value layout has program) ∙ (ap (λ (o : Option (List ℕ)). length (unwrap_or o [])) s.is ∙ s.count)

pointer_words : (program : Program) (class to : ℕ) (value : Value) → IsPointer program class to value → length (in_frame program value) ≡ 1
unfolding in_frame
pointer_words program class to (Pointer variable indices) is = refl
pointer_words program class to Outside is = refl
pointer_words program class to (Truth b) is = absurd is
pointer_words program class to (Word word) is = absurd is
pointer_words program class to (Composite parts) is = absurd is

by_data : (program : Program) (type : ℕ) (value : Value) → IsData program type value → length (in_frame program value) ≡ size_in (program.layout type)
by_data program type value is = data_words program value is.layout is.has ∙ sym (ap size_in is.known)

by_meaning : (program : Program) (type : ℕ) (value : Value) (m : Meaning) → IsOfMeaning program type m value → length (in_frame program value) ≡ type_words program type m
by_meaning program type value (OfShape (PointerType class to)) is = pointer_words program class to value is
by_meaning program type value m is = by_data program type value is

-- a value of a type takes the type's words
pub value_size : (program : Program) → HasTypes program → (type : ℕ) (value : Value) → IsOfType program type value → length (in_frame program value) ≡ type_words program type (program.meaning type)
value_size program types type value is = by_meaning program type value (program.meaning type) is

-- ---- places

pub frame_place_first : (program : Program) → frame_place program 0 ≡ 0
unfolding frame_place
frame_place_first program = refl

pub memory_place_first : (program : Program) → memory_place program 0 ≡ 0
unfolding memory_place
memory_place_first program = refl

-- each result begins where the one before it ends
pub frame_place_next : (program : Program) (place : ℕ) → place < length program.insts → frame_place program (suc place) ≡ frame_place program place + frame_words program (inst_at program.insts place)
unfolding frame_place
frame_place_next program place within =
    let e : suc place ≡ place + 1 = omega arith in
    ap (λ (n : ℕ). sum_by (frame_words program) (take n program.insts)) e ∙ sum_by_more (frame_words program) program.insts place no_instruction within

pub memory_place_next : (program : Program) (place : ℕ) → place < length program.insts → memory_place program (suc place) ≡ memory_place program place + variable_words program (inst_at program.insts place)
unfolding memory_place
memory_place_next program place within =
    let e : suc place ≡ place + 1 = omega arith in
    ap (λ (n : ℕ). sum_by (variable_words program) (take n program.insts)) e ∙ sum_by_more (variable_words program) program.insts place no_instruction within

-- a result ends within the frame
pub frame_place_within : (program : Program) (place : ℕ) → place < length program.insts → frame_place program place + frame_words program (inst_at program.insts place) ≤ frame_place program (length program.insts)
unfolding frame_place
frame_place_within program place within =
    let e : take (length program.insts) program.insts ≡ program.insts = take_all (length program.insts) program.insts (omega arith) in
    let l = sum_by_more_le (frame_words program) program.insts place no_instruction within in
    subst (λ (l : List Inst). sum_by (frame_words program) (take place program.insts) + frame_words program (inst_at program.insts place) ≤ sum_by (frame_words program) l) (sym e) l

pub memory_place_within : (program : Program) (place : ℕ) → place < length program.insts → memory_place program place + variable_words program (inst_at program.insts place) ≤ memory_place program (length program.insts)
unfolding memory_place
memory_place_within program place within =
    let e : take (length program.insts) program.insts ≡ program.insts = take_all (length program.insts) program.insts (omega arith) in
    let l = sum_by_more_le (variable_words program) program.insts place no_instruction within in
    subst (λ (l : List Inst). sum_by (variable_words program) (take place program.insts) + variable_words program (inst_at program.insts place) ≤ sum_by (variable_words program) l) (sym e) l
