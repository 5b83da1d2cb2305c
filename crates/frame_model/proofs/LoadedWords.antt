-- The words of values that are read from words, and where truth values stand among the words of a value.
use Rattle.std.proofs.Common.{◌≡◌, ℕ, zero, suc, ◌+◌, ◌-◌, ◌<◌, ◌≤◌, ◌==◌, Bool, true, false, not, nat_lt, if◌then◌else◌, List, [], ◌∷◌, ◌++◌, length, take, drop, get_or, replicate, refl, ap, sym, ◌∙◌, subst, arith, length-drop, inl, inr, Option, None, Some}
use Rattle.std.specs.Option.{option_map}
use Rattle.std.proofs.Math.Seq.{take-add, drop-nil}
use Rattle.std.proofs.lemmas.Bool.{cases_lt}
use Rattle.std.proofs.lemmas.Bool.Decides.{nat_tests}
use Rattle.std.proofs.lemmas.List.{get_or-drop, get_or_append_left, get_or-append_right, replicate-append-replicate, take_all}
use Rattle.stage_model.specs.Value.{Value, Truth, Word, Composite, Pointer, Outside, Parts, NoParts, PartsOf, Layout, OneTruth, OneWord, Several, Layouts, NoLayouts, LayoutsOf, size_of, sizes_of, word_of_truth, words_of, words_of_parts, value_of, parts_of, zero_of}
use Rattle.stage_model.specs.Program.{Program}
use Rattle.typed_model.specs.Values.{layout_in, layouts_in, layouts_with, HasLayout}
use Rattle.frame_model.specs.Frame.{in_frame}
use Rattle.frame_model.specs.Truths.{is_truth_at, is_truth_in}
use Rattle.frame_model.proofs.FrameSizes.{layout_size}
use Rattle.frame_model.proofs.PartWords.{in_frame_words, both_there, both_are}

same_some : {A : Type 0} (x y : A) → Some x ≡ Some y → x ≡ y
same_some x y is = cc

-- ---- read from words

-- each truth value of so many words is 0 or 1 among these
abbrev pub AreTruths : ℕ → (ℕ → Bool) → List ℕ → Type 0
AreTruths count truths words = (k : ℕ) → k < count → truths k ≡ true → get_or words k 0 < 2

truth_word : (word : ℕ) → word < 2 → word_of_truth (not (word == 0)) ≡ word
truth_word word less = by_test word (word == 0) refl less
  where
    by_test : (word : ℕ) (b : Bool) → word == 0 ≡ b → word < 2 → word_of_truth (not b) ≡ word
    by_test word true is less = grind (arith, nat_tests)
    by_test word false is less = grind (arith, nat_tests)

first_truth : (layout : Layout) (all : Layouts) (k : ℕ) → k < size_of layout → is_truth_in (LayoutsOf layout all) k ≡ is_truth_at layout k
first_truth layout all k less = ap (λ (b : Bool). if b then is_truth_at layout k else is_truth_in all (k - size_of layout)) (is_less k (size_of layout) less)
  where
    is_less : (a b : ℕ) → a < b → nat_lt a b ≡ true
    is_less a b less = grind (arith, nat_tests)

later_truth : (layout : Layout) (all : Layouts) (k : ℕ) → is_truth_in (LayoutsOf layout all) (size_of layout + k) ≡ is_truth_in all k
later_truth layout all k =
    let e : size_of layout + k - size_of layout ≡ k = omega arith in
    ap (λ (b : Bool). if b then is_truth_at layout (size_of layout + k) else is_truth_in all (size_of layout + k - size_of layout)) (isnt_less (size_of layout) k) ∙ ap (is_truth_in all) e
  where
    isnt_less : (a b : ℕ) → nat_lt (a + b) a ≡ false
    isnt_less a b = grind (arith, nat_tests)

mutual
  pub read_words : (layout : Layout) (words : List ℕ) → size_of layout ≤ length words → AreTruths (size_of layout) (is_truth_at layout) words → words_of (value_of layout words) ≡ Some (take (size_of layout) words)
  read_words OneTruth [] fits truths = absurd (omega (arith, fits))
  read_words OneTruth (word ∷ words) fits truths = ap (λ (n : ℕ). Some (n ∷ [])) (truth_word word (truths 0 (omega arith) refl))
  read_words OneWord [] fits truths = absurd (omega (arith, fits))
  read_words OneWord (word ∷ words) fits truths = refl
  read_words (Several all) words fits truths = read_parts all words fits truths

  read_parts : (all : Layouts) (words : List ℕ) → sizes_of all ≤ length words → AreTruths (sizes_of all) (is_truth_in all) words → words_of_parts (parts_of all words) ≡ Some (take (sizes_of all) words)
  read_parts NoLayouts words fits truths = refl
  read_parts (LayoutsOf layout all) words fits truths =
      let l = length-drop (size_of layout) words in
      both_are (words_of (value_of layout words)) (words_of_parts (parts_of all (drop (size_of layout) words))) (take (size_of layout) words) (take (sizes_of all) (drop (size_of layout) words))
      (read_words layout words (omega (arith, fits)) (λ k less is. truths k (omega (arith, less)) (first_truth layout all k less ∙ is)))
      (read_parts all (drop (size_of layout) words) (omega (arith, fits, l))
      (λ k less is. subst (λ (n : ℕ). n < 2) (sym (get_or-drop (size_of layout) words k 0)) (truths (size_of layout + k) (omega (arith, less)) (later_truth layout all k ∙ is))))
      ∙ ap (λ (w : List ℕ). Some w) (sym (take-add (size_of layout) (sizes_of all) words))

-- ---- zeros

mutual
  pub zero_words : (layout : Layout) → words_of (zero_of layout) ≡ Some (replicate (size_of layout) 0)
  zero_words OneTruth = refl
  zero_words OneWord = refl
  zero_words (Several all) = zero_parts all

  zero_parts : (all : Layouts) → words_of_parts (parts_of all []) ≡ Some (replicate (sizes_of all) 0)
  zero_parts NoLayouts = refl
  zero_parts (LayoutsOf layout all) =
      both_are (words_of (value_of layout [])) (words_of_parts (parts_of all (drop (size_of layout) []))) (replicate (size_of layout) 0) (replicate (sizes_of all) 0)
      (zero_words layout) (ap (λ (w : List ℕ). words_of_parts (parts_of all w)) (drop-nil (size_of layout)) ∙ zero_parts all)
      ∙ ap (λ (w : List ℕ). Some w) (replicate-append-replicate (size_of layout) (sizes_of all) 0)

-- ---- in the frame

pub read_in_frame : (program : Program) (layout : Layout) (words : List ℕ) → length words ≡ size_of layout → AreTruths (size_of layout) (is_truth_at layout) words → in_frame program (value_of layout words) ≡ words
read_in_frame program layout words long truths =
    in_frame_words program (value_of layout words) (take (size_of layout) words) (read_words layout words (omega (arith, long)) truths) ∙ take_all (size_of layout) words (omega (arith, long))

pub zero_in_frame : (program : Program) (layout : Layout) → in_frame program (zero_of layout) ≡ replicate (size_of layout) 0
zero_in_frame program layout = in_frame_words program (zero_of layout) (replicate (size_of layout) 0) (zero_words layout)

-- ---- of values

below_two : (b : Bool) (k : ℕ) → get_or (word_of_truth b ∷ []) k 0 < 2
below_two true zero = omega arith
below_two false zero = omega arith
below_two b (suc k) = omega arith

no_word : (k : ℕ) → false ≡ true → k < 2
no_word k is = cc

several_inside : (known : Option Layouts) (layout : Layout) → option_map Several known ≡ Some layout → (all : Layouts) × (known ≡ Some all) × (Several all ≡ layout)
several_inside None layout is = cc
several_inside (Some known) layout is = (known, refl, same_some _ _ is)

layouts_both : (layout : Option Layout) (others : Option Layouts) (all : Layouts) → layouts_with layout others ≡ Some all → (first : Layout) × (more : Layouts) × (layout ≡ Some first) × (others ≡ Some more) × (LayoutsOf first more ≡ all)
layouts_both None others all is = cc
layouts_both (Some layout) None all is = cc
layouts_both (Some layout) (Some others) all is = (layout, others, refl, refl, same_some _ _ is)

by_part : (layout : Layout) (all : Layouts) (front back words : List ℕ) → words ≡ front ++ back → length front ≡ size_of layout → (k : ℕ) → k < size_of layout + sizes_of all → is_truth_in (LayoutsOf layout all) k ≡ true
    → AreTruths (size_of layout) (is_truth_at layout) front → AreTruths (sizes_of all) (is_truth_in all) back → get_or words k 0 < 2
by_part layout all front back words joined long k less is first rest = subst (λ (w : List ℕ). get_or w k 0 < 2) (sym joined) (elim (cases_lt k (size_of layout)) [
  | inl early ↦ subst (λ (n : ℕ). n < 2) (sym (get_or_append_left front back 0 k (omega (arith, early, long)))) (first k early (sym (first_truth layout all k early) ∙ is))
  | inr late ↦
      let e : size_of layout + (k - size_of layout) ≡ k = omega (arith, late) in
      subst (λ (n : ℕ). n < 2) (sym (get_or-append_right front back (size_of layout) k 0 long late))
      (rest (k - size_of layout) (omega (arith, less, late)) (sym (later_truth layout all (k - size_of layout)) ∙ (ap (is_truth_in (LayoutsOf layout all)) e ∙ is)))
])

mutual
  pub value_truths : (value : Value) (layout : Layout) (words : List ℕ) → HasLayout layout value → words_of value ≡ Some words → AreTruths (size_of layout) (is_truth_at layout) words
  value_truths (Truth b) layout words has are k less is = subst (λ (w : List ℕ). get_or w k 0 < 2) (same_some (word_of_truth b ∷ []) words are) (below_two b k)
  value_truths (Word word) layout words has are k less is = no_word _ (ap (λ (l : Layout). is_truth_at l k) (same_some OneWord layout has) ∙ is)
  value_truths (Composite parts) layout words has are k less is =
      let s = several_inside (layouts_in parts) layout has in
      parts_truths parts s.0 words s.1 are k (subst (λ (l : Layout). k < size_of l) (sym s.2) less) (ap (λ (l : Layout). is_truth_at l k) s.2 ∙ is)
  value_truths (Pointer variable indices) layout words has are k less is = cc
  value_truths Outside layout words has are k less is = cc

  parts_truths : (parts : Parts) (all : Layouts) (words : List ℕ) → layouts_in parts ≡ Some all → words_of_parts parts ≡ Some words → AreTruths (sizes_of all) (is_truth_in all) words
  parts_truths NoParts all words have are k less is = no_word _ (ap (λ (l : Layouts). is_truth_in l k) (same_some NoLayouts all have) ∙ is)
  parts_truths (PartsOf value parts) all words have are k less is =
      let l = layouts_both (layout_in value) (layouts_in parts) all have in
      let b = both_there (words_of value) (words_of_parts parts) words are in
      let s = layout_size value l.0 l.2 in
      let long : length b.front ≡ size_of l.0 = ap length (same_some b.front s.list (sym b.first_is ∙ s.is)) ∙ s.count in
      by_part l.0 l.1 b.front b.back words b.are long k (subst (λ (l : Layouts). k < sizes_of l) (sym l.4) less) (ap (λ (l : Layouts). is_truth_in l k) l.4 ∙ is)
      (value_truths value l.0 b.front l.2 b.first_is) (parts_truths parts l.1 b.back l.3 b.second_is)
