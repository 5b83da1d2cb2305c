-- The words of composites that are made of others: of their parts, of components that are picked, and of zeros.
use Rattle.std.proofs.Common.{◌≡◌, ℕ, zero, suc, ◌==◌, ◌^◌, ◌-◌, Bool, true, false, if◌then◌else◌, List, [], ◌∷◌, ◌++◌, length, map, drop, replicate, slice_index, refl, ap, sym, ◌∙◌, subst, arith, append_assoc, Option, None, Some}
use Rattle.std.specs.Prelude.{slice_get}
use Rattle.std.specs.Option.{option_map, option_and_then}
use Rattle.std.specs.List.{flat_map}
use Rattle.std.proofs.lemmas.List.{append-nil, drop_all, replicate-append-replicate}
use Rattle.std.proofs.lemmas.List.Concat.{flat_map-cons}
use Rattle.stage_model.specs.Value.{Value, Truth, Word, Composite, Pointer, Outside, Parts, Layout, OneTruth, OneWord, Several, Layouts, NoLayouts, LayoutsOf, size_of, sizes_of, words_of, words_of_parts, value_of, parts_of, zero_of, parts_from}
use Rattle.stage_model.specs.Program.{Program}
use Rattle.stage_model.specs.Operations.{parts_in, composite, components_of, constructed, zero_like, shuffled_component, all_of, shuffled}
use Rattle.typed_model.specs.Values.{HasLayout}
use Rattle.typed_model.specs.Results.{scalar_layout}
use Rattle.typed_model.proofs.Composites.{AllHave}
use Rattle.typed_model.proofs.Layouts.{truth_of, word_of, same_parts}
use Rattle.frame_model.specs.Frame.{in_frame}
use Rattle.frame_model.proofs.PartWords.{in_frame_words, Both, both_there, both_are}

same_some : {A : Type 0} (x y : A) → Some x ≡ Some y → x ≡ y
same_some x y is = cc

-- ---- zeros

nothing_left : (n : ℕ) → ◌≡◌ {A = List ℕ} (drop n []) []
nothing_left n = drop_all n [] (omega arith)

mutual
  zeros_of : (layout : Layout) → words_of (value_of layout []) ≡ Some (replicate (size_of layout) 0)
  zeros_of OneTruth = refl
  zeros_of OneWord = refl
  zeros_of (Several all) = zeros_in all

  zeros_in : (all : Layouts) → words_of_parts (parts_of all []) ≡ Some (replicate (sizes_of all) 0)
  zeros_in NoLayouts = refl
  zeros_in (LayoutsOf layout all) =
      both_are (words_of (value_of layout [])) (words_of_parts (parts_of all (drop (size_of layout) []))) (replicate (size_of layout) 0) (replicate (sizes_of all) 0)
      (zeros_of layout) (ap (λ (l : List ℕ). words_of_parts (parts_of all l)) (nothing_left (size_of layout)) ∙ zeros_in all)
      ∙ ap (λ (l : List ℕ). Some l) (replicate-append-replicate (size_of layout) (sizes_of all) 0)

-- the words of a zero are zeros
pub zero_words : (layout : Layout) → words_of (zero_of layout) ≡ Some (replicate (size_of layout) 0)
zero_words layout = zeros_of layout

-- ---- parts one after another

abbrev pub list_words : List Value → Option (List ℕ)
list_words values = words_of_parts (parts_from values)

-- the words of two lists of values
pub both_lists : (xs ys : List Value) (words : List ℕ) → list_words (xs ++ ys) ≡ Some words → Both (list_words xs) (list_words ys) words
both_lists [] ys words is = record { front = []; back = words; first_is = refl; second_is = is; are = refl }
both_lists (x ∷ xs) ys words is =
    let b = both_there (words_of x) (list_words (xs ++ ys)) words is in
    let r = both_lists xs ys b.back b.second_is in
    record {
      front = b.front ++ r.front;
      back = r.back;
      first_is = both_are (words_of x) (list_words xs) b.front r.front b.first_is r.first_is;
      second_is = r.second_is;
      are = b.are ∙ (ap (λ (l : List ℕ). b.front ++ l) r.are ∙ sym (append_assoc b.front r.front r.back));
    }

alone : (program : Program) (value : Value) (words : List ℕ) → list_words (value ∷ []) ≡ Some words → in_frame program value ≡ words
alone program value words is =
    let b = both_there (words_of value) (Some []) words is in
    in_frame_words program value b.front b.first_is ∙ (sym (append-nil b.front) ∙ (ap (λ (l : List ℕ). b.front ++ l) (same_some [] b.back b.second_is) ∙ sym b.are))

components_words : (program : Program) (value : Value) (words : List ℕ) → list_words (components_of value) ≡ Some words → in_frame program value ≡ words
components_words program (Composite parts) words is = in_frame_words program (Composite parts) words (sym (ap words_of_parts (same_parts parts)) ∙ is)
components_words program (Truth b) words is = alone program (Truth b) words is
components_words program (Word word) words is = alone program (Word word) words is
components_words program (Pointer variable indices) words is = alone program (Pointer variable indices) words is
components_words program Outside words is = alone program Outside words is

parts_words : (program : Program) (values : List Value) (words : List ℕ) → list_words values ≡ Some words → flat_map (in_frame program) values ≡ words
parts_words program [] words is = same_some [] words is
parts_words program (value ∷ values) words is =
    let b = both_there (words_of value) (list_words values) words is in
    flat_map-cons (in_frame program) value values
    ∙ (ap (λ (l : List ℕ). l ++ flat_map (in_frame program) values) (in_frame_words program value b.front b.first_is)
    ∙ (ap (λ (l : List ℕ). b.front ++ l) (parts_words program values b.back b.second_is) ∙ sym b.are))

vector_words : (program : Program) (values : List Value) (words : List ℕ) → list_words (flat_map components_of values) ≡ Some words → flat_map (in_frame program) values ≡ words
vector_words program [] words is = same_some [] words is
vector_words program (value ∷ values) words is =
    let b = both_lists (components_of value) (flat_map components_of values) words (sym (ap list_words (flat_map-cons components_of value values)) ∙ is) in
    flat_map-cons (in_frame program) value values
    ∙ (ap (λ (l : List ℕ). l ++ flat_map (in_frame program) values) (components_words program value b.front b.first_is)
    ∙ (ap (λ (l : List ℕ). b.front ++ l) (vector_words program values b.back b.second_is) ∙ sym b.are))

-- a composite's words are those of what it is made of, one after another
pub constructed_words : (program : Program) (vector : Bool) (values : List Value) (words : List ℕ) → words_of (constructed vector values) ≡ Some words → flat_map (in_frame program) values ≡ words
constructed_words program true values words is = vector_words program values words is
constructed_words program false values words is = parts_words program values words is

-- ---- components

-- each value is one word
abbrev pub AreWords : List Value → List ℕ → Type 0
AreWords [] [] = Unit {0}
AreWords (value ∷ values) (word ∷ words) = (words_of value ≡ Some (word ∷ [])) × AreWords values words
AreWords values words = ⊥

-- scalars are a word each
pub record ComponentWords (values : List Value) : Type 0 where
  pub words : List ℕ
  pub are : AreWords values words
  pub list : list_words values ≡ Some words
  pub count : length words ≡ length values

scalar_word : (truths : Bool) (value : Value) → HasLayout (scalar_layout truths) value → (word : ℕ) × (words_of value ≡ Some (word ∷ []))
scalar_word true (Truth b) has = (_, refl)
scalar_word true (Word word) has = (_, refl)
scalar_word true (Composite parts) has = let t = truth_of (Composite parts) has in absurd (no_truth parts t.0 t.1)
  where
    no_truth : (parts : Parts) (b : Bool) → Composite parts ≡ Truth b → ⊥
    no_truth parts b is = cc
scalar_word true (Pointer variable indices) has = cc
scalar_word true Outside has = cc
scalar_word false (Truth b) has = (_, refl)
scalar_word false (Word word) has = (_, refl)
scalar_word false (Composite parts) has = let t = word_of (Composite parts) has in absurd (no_word parts t.0 t.1)
  where
    no_word : (parts : Parts) (word : ℕ) → Composite parts ≡ Word word → ⊥
    no_word parts word is = cc
scalar_word false (Pointer variable indices) has = cc
scalar_word false Outside has = cc

pub component_words : (truths : Bool) (values : List Value) → AllHave (scalar_layout truths) values → ComponentWords values
component_words truths [] have = record { words = []; are = tt; list = refl; count = refl }
component_words truths (value ∷ values) have =
    let first = scalar_word truths value have.0 in
    let rest = component_words truths values have.1 in
    record {
      words = first.0 ∷ rest.words;
      are = (first.1, rest.are);
      list = both_are (words_of value) (list_words values) (first.0 ∷ []) rest.words first.1 rest.list;
      count = ap (λ (n : ℕ). suc n) rest.count;
    }

pub both_words : (xs ys : List Value) (a b : List ℕ) → AreWords xs a → AreWords ys b → AreWords (xs ++ ys) (a ++ b)
both_words [] ys [] b are also = also
both_words [] ys (word ∷ a) b are also = absurd are
both_words (x ∷ xs) ys [] b are also = absurd are
both_words (x ∷ xs) ys (word ∷ a) b are also = (are.0, both_words xs ys a b are.1 also)

pub words_list : (values : List Value) (words : List ℕ) → AreWords values words → list_words values ≡ Some words
words_list [] [] are = refl
words_list [] (word ∷ words) are = absurd are
words_list (value ∷ values) [] are = absurd are
words_list (value ∷ values) (word ∷ words) are = both_are (words_of value) (list_words values) (word ∷ []) words are.0 (words_list values words are.1)

-- a component's word
word_there : (values : List Value) (words : List ℕ) (index : ℕ) (value : Value) → AreWords values words → slice_get values index ≡ Some value → words_of value ≡ Some (slice_index words index ∷ [])
word_there [] words index value are is = cc
word_there (first ∷ values) [] index value are is = absurd are
word_there (first ∷ values) (word ∷ words) zero value are is = sym (ap words_of (same_some first value is)) ∙ are.0
word_there (first ∷ values) (word ∷ words) (suc index) value are is = word_there values words index value are.1 is

-- the word that a literal picks
abbrev pub picked : List ℕ → ℕ → ℕ
picked words literal = if literal == 2 ^ 32 - 1 then 0 else slice_index words literal

zero_word : (value : Value) → words_of (zero_like value) ≡ Some (0 ∷ [])
zero_word (Truth b) = refl
zero_word (Word word) = refl
zero_word (Composite parts) = refl
zero_word (Pointer variable indices) = refl
zero_word Outside = refl

picked_word : (values : List Value) (words : List ℕ) (literal : ℕ) (value : Value) → AreWords values words → shuffled_component values literal ≡ Some value → words_of value ≡ Some (picked words literal ∷ [])
picked_word values words literal value are is = by_test values words literal value (literal == 2 ^ 32 - 1) are is
  where
    by_first : (first : Option Value) (value : Value) → option_map zero_like first ≡ Some value → words_of value ≡ Some (0 ∷ [])
    by_first None value is = cc
    by_first (Some first) value is = sym (ap words_of (same_some (zero_like first) value is)) ∙ zero_word first

    by_test : (values : List Value) (words : List ℕ) (literal : ℕ) (value : Value) (b : Bool) → AreWords values words → (if b then option_map zero_like (slice_get values 0) else slice_get values literal) ≡ Some value
        → words_of value ≡ Some ((if b then 0 else slice_index words literal) ∷ [])
    by_test values words literal value true are is = by_first (slice_get values 0) value is
    by_test values words literal value false are is = word_there values words literal value are is

picked_words : (values : List Value) (words : List ℕ) (literals : List ℕ) (made : List Value) → AreWords values words → all_of (map (shuffled_component values) literals) ≡ Some made → AreWords made (map (picked words) literals)
picked_words values words [] made are is = subst (λ (l : List Value). AreWords l []) (same_some [] made is) tt
picked_words values words (literal ∷ literals) made are is =
    by_both (shuffled_component values literal) (all_of (map (shuffled_component values) literals)) made (picked words literal) (map (picked words) literals) is
    (λ value e. picked_word values words literal value are e) (λ rest e. picked_words values words literals rest are e)
  where
    by_both : (first : Option Value) (rest : Option (List Value)) (made : List Value) (word : ℕ) (others : List ℕ) → option_and_then (λ first. option_map (λ rest. first ∷ rest) rest) first ≡ Some made
        → ((value : Value) → first ≡ Some value → words_of value ≡ Some (word ∷ [])) → ((values : List Value) → rest ≡ Some values → AreWords values others) → AreWords made (word ∷ others)
    by_both None rest made word others is here there = cc
    by_both (Some first) None made word others is here there = cc
    by_both (Some first) (Some rest) made word others is here there = subst (λ (l : List Value). AreWords l (word ∷ others)) (same_some (first ∷ rest) made is) (here first refl, there rest refl)

-- a shuffled vector's words are those that the literals pick
pub shuffled_words : (first second value : Value) (a b literals : List ℕ) → AreWords (parts_in first) a → AreWords (parts_in second) b → shuffled first second literals ≡ Some value → words_of value ≡ Some (map (picked (a ++ b)) literals)
shuffled_words first second value a b literals are also is =
    by_all (all_of (map (shuffled_component (parts_in first ++ parts_in second)) literals)) value (map (picked (a ++ b)) literals) is
    (λ made e. picked_words (parts_in first ++ parts_in second) (a ++ b) literals made (both_words (parts_in first) (parts_in second) a b are also) e)
  where
    by_all : (made : Option (List Value)) (value : Value) (words : List ℕ) → option_map composite made ≡ Some value → ((values : List Value) → made ≡ Some values → AreWords values words) → words_of value ≡ Some words
    by_all None value words is here = cc
    by_all (Some made) value words is here = sym (ap words_of (same_some (composite made) value is)) ∙ words_list made words (here made refl)
