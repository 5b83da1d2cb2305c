-- The word of an operation's result is the word that its operands' words give.
use Rattle.std.proofs.Common.{◌≡◌, ℕ, ◌==◌, Bool, true, false, if◌then◌else◌, List, [], ◌∷◌, map, Option, None, Some, refl, ap, sym, ◌∙◌, subst, rules, tests}
use Rattle.std.specs.Option.{option_map, option_or}
use Rattle.spirv_model.specs.declared.op.TheConstants.{LOGICAL_EQUAL, LOGICAL_NOT_EQUAL, LOGICAL_OR, LOGICAL_AND, LOGICAL_NOT, SELECT}
use Rattle.scalar_model.specs.declared.scalar_value.Scalar.{Scalar}
use Rattle.scalar_model.specs.declared.scalar_value.Scalar.TheVariants.{Bool as Truth, Word}
use Rattle.scalar_model.specs.Scalars.{scalar_result, selected, word_from_word, word_from_words, arithmetic, bitwise, comparison, truth_from_truth, truth_from_truths}
use Rattle.spv_ops.specs.ScalarWords.{truth_word, scalar_word, is_true_word, word_by_word, truth_by_truth, word_by_words, truth_by_words, truth_by_truths, word_of_one, word_of_two, word_of_choice, word_of_all}

true_word : (b : Bool) → is_true_word (truth_word b) ≡ b
true_word true = refl
true_word false = refl

same : (a b : ℕ) → a == b ≡ true → a ≡ b
same a b is = search (rules, tests)

-- one of two choices, by the test
by_test : {A : Type 0} (P : Option A → Type 0) (b : Bool) (x y : Option A) → (b ≡ true → P x) → P y → P (if b then x else y)
by_test P true x y here there = here refl
by_test P false x y here there = there

-- ---- one operand

abbrev NoWord : ℕ → Type 0
NoWord op = word_from_word op ≡ None

not_alone : (op : ℕ) → op ≡ LOGICAL_NOT → NoWord op
unfolding word_from_word
not_alone op is = subst NoWord (sym is) refl

abbrev NoWordIfTruth : ℕ → Option (Bool → Bool) → Type 0
NoWordIfTruth op found = (f : Bool → Bool) → found ≡ Some f → NoWord op

truth_alone : (op : ℕ) → NoWordIfTruth op (truth_from_truth op)
unfolding truth_from_truth
truth_alone op = by_test (NoWordIfTruth op) (op == LOGICAL_NOT) _ None (λ is f _. not_alone op (same op LOGICAL_NOT is)) (λ f is. cc)

word_gives : (found : Option (ℕ → ℕ)) (a other : ℕ) (value : Scalar) → option_map (λ f. Word (f a)) found ≡ Some value → word_by_word found a other ≡ scalar_word value
word_gives None a other value is = cc
word_gives (Some f) a other (Word word) is = cc
word_gives (Some f) a other (Truth b) is = cc

truth_gives : (found : Option (Bool → Bool)) (words : Option (ℕ → ℕ)) (a : Bool) (value : Scalar) → option_map (λ f. Truth (f a)) found ≡ Some value → ((f : Bool → Bool) → found ≡ Some f → words ≡ None)
    → word_by_word words (truth_word a) (truth_by_truth found (truth_word a)) ≡ scalar_word value
truth_gives None words a value is none = cc
truth_gives (Some f) words a (Word word) is none = cc
truth_gives (Some f) (Some g) a (Truth b) is none = absurd (no (none f refl))
  where
    no : Some g ≡ None → ⊥
    no e = cc
truth_gives (Some f) None a (Truth b) is none = ap (λ x. truth_word (f x)) (true_word a) ∙ ap truth_word (inner (f a) b is)
  where
    inner : (x y : Bool) → Some (Truth x) ≡ Some (Truth y) → x ≡ y
    inner x y e = cc

pub is_word_of_one : (op a : ℕ) (first value : Scalar) → scalar_result op (first ∷ []) ≡ Some value → a ≡ scalar_word first → word_of_one op a ≡ scalar_word value
unfolding scalar_result word_of_one
is_word_of_one op a (Word word) value is at = subst (λ w. word_of_one op w ≡ scalar_word value) (sym at) (word_gives (word_from_word op) word _ value is)
is_word_of_one op a (Truth b) value is at = subst (λ w. word_of_one op w ≡ scalar_word value) (sym at) (truth_gives (truth_from_truth op) (word_from_word op) b value is (truth_alone op))

-- ---- two operands

abbrev NoWords : ℕ → Type 0
NoWords op = (word_from_words op ≡ None) × (comparison op ≡ None)

abbrev NoWordsIfTruths : ℕ → Option (Bool → Bool → Bool) → Type 0
NoWordsIfTruths op found = (f : Bool → Bool → Bool) → found ≡ Some f → NoWords op

equal_alone : NoWords LOGICAL_EQUAL
unfolding arithmetic bitwise comparison
equal_alone = (refl, refl)

unequal_alone : NoWords LOGICAL_NOT_EQUAL
unfolding arithmetic bitwise comparison
unequal_alone = (refl, refl)

or_alone : NoWords LOGICAL_OR
unfolding arithmetic bitwise comparison
or_alone = (refl, refl)

and_alone : NoWords LOGICAL_AND
unfolding arithmetic bitwise comparison
and_alone = (refl, refl)

at_op : (op other : ℕ) → NoWords other → op == other ≡ true → NoWords op
at_op op other none is = subst NoWords (sym (same op other is)) none

truths_alone : (op : ℕ) → NoWordsIfTruths op (truth_from_truths op)
unfolding truth_from_truths
truths_alone op =
    by_test (NoWordsIfTruths op) (op == LOGICAL_EQUAL) _ _ (λ is f _. at_op op LOGICAL_EQUAL equal_alone is)
    (by_test (NoWordsIfTruths op) (op == LOGICAL_NOT_EQUAL) _ _ (λ is f _. at_op op LOGICAL_NOT_EQUAL unequal_alone is)
    (by_test (NoWordsIfTruths op) (op == LOGICAL_OR) _ _ (λ is f _. at_op op LOGICAL_OR or_alone is)
    (by_test (NoWordsIfTruths op) (op == LOGICAL_AND) _ None (λ is f _. at_op op LOGICAL_AND and_alone is) (λ f is. cc))))

words_give : (words : Option (ℕ → ℕ → ℕ)) (compared : Option (ℕ → ℕ → Bool)) (a b other : ℕ) (value : Scalar) → option_or (option_map (λ f. Word (f a b)) words) (option_map (λ f. Truth (f a b)) compared) ≡ Some value
    → word_by_words words a b (truth_by_words compared a b other) ≡ scalar_word value
words_give None None a b other value is = cc
words_give (Some f) compared a b other (Word word) is = cc
words_give (Some f) compared a b other (Truth t) is = cc
words_give None (Some f) a b other (Word word) is = cc
words_give None (Some f) a b other (Truth t) is = ap truth_word (inner (f a b) t is)
  where
    inner : (x y : Bool) → Some (Truth x) ≡ Some (Truth y) → x ≡ y
    inner x y e = cc

truths_give : (found : Option (Bool → Bool → Bool)) (words : Option (ℕ → ℕ → ℕ)) (compared : Option (ℕ → ℕ → Bool)) (a b : Bool) (value : Scalar) → option_map (λ f. Truth (f a b)) found ≡ Some value
    → ((f : Bool → Bool → Bool) → found ≡ Some f → (words ≡ None) × (compared ≡ None))
    → word_by_words words (truth_word a) (truth_word b) (truth_by_words compared (truth_word a) (truth_word b) (truth_by_truths found (truth_word a) (truth_word b))) ≡ scalar_word value
truths_give None words compared a b value is none = cc
truths_give (Some f) (Some g) compared a b value is none = absurd (no (none f refl).0)
  where
    no : Some g ≡ None → ⊥
    no e = cc
truths_give (Some f) None (Some g) a b value is none = absurd (no (none f refl).1)
  where
    no : Some g ≡ None → ⊥
    no e = cc
truths_give (Some f) None None a b (Word word) is none = cc
truths_give (Some f) None None a b (Truth t) is none =
    ap (λ x. truth_word (f x (is_true_word (truth_word b)))) (true_word a) ∙ ap (λ x. truth_word (f a x)) (true_word b) ∙ ap truth_word (inner (f a b) t is)
  where
    inner : (x y : Bool) → Some (Truth x) ≡ Some (Truth y) → x ≡ y
    inner x y e = cc

of_scalars : (op : ℕ) (first second value : Scalar) → scalar_result op (first ∷ second ∷ []) ≡ Some value → word_of_two op (scalar_word first) (scalar_word second) ≡ scalar_word value
unfolding scalar_result word_of_two
of_scalars op (Word a) (Word b) value is = words_give (word_from_words op) (comparison op) a b _ value is
of_scalars op (Truth a) (Truth b) value is = truths_give (truth_from_truths op) (word_from_words op) (comparison op) a b value is (truths_alone op)
of_scalars op (Word a) (Truth b) value is = cc
of_scalars op (Truth a) (Word b) value is = cc

pub is_word_of_two : (op a b : ℕ) (first second value : Scalar) → scalar_result op (first ∷ second ∷ []) ≡ Some value → a ≡ scalar_word first → b ≡ scalar_word second → word_of_two op a b ≡ scalar_word value
is_word_of_two op a b first second value is at also = ap (λ w. word_of_two op w b) at ∙ ap (word_of_two op (scalar_word first)) also ∙ of_scalars op first second value is

-- ---- one, two or three

chosen_word : (condition : Bool) (first second value : Scalar) → selected condition first second ≡ Some value → word_of_choice (truth_word condition) (scalar_word first) (scalar_word second) ≡ scalar_word value
chosen_word true (Word a) (Word b) value is = search (rules)
chosen_word true (Truth a) (Truth b) value is = search (rules)
chosen_word false (Word a) (Word b) value is = search (rules)
chosen_word false (Truth a) (Truth b) value is = search (rules)
chosen_word condition (Word a) (Truth b) value is = cc
chosen_word condition (Truth a) (Word b) value is = cc

if_selected : (b : Bool) (found : Option Scalar) (value : Scalar) → (if b then found else None) ≡ Some value → found ≡ Some value
if_selected true found value is = is
if_selected false found value is = cc

selects : (op : ℕ) (condition : Bool) (first second : Scalar) → scalar_result op (Truth condition ∷ first ∷ second ∷ []) ≡ (if op == SELECT then selected condition first second else None)
unfolding scalar_result
selects op condition (Word a) second = refl
selects op condition (Truth a) second = refl

all_words_give : (op : ℕ) (operands : List Scalar) (value : Scalar) → scalar_result op operands ≡ Some value → word_of_all op (map scalar_word operands) ≡ scalar_word value
unfolding scalar_result word_of_all
all_words_give op [] value is = cc
all_words_give op (first ∷ []) value is = is_word_of_one op (scalar_word first) first value is refl
all_words_give op (first ∷ second ∷ []) value is = of_scalars op first second value is
all_words_give op (Truth condition ∷ first ∷ second ∷ []) value is = chosen_word condition first second value (if_selected (op == SELECT) (selected condition first second) value (sym (selects op condition first second) ∙ is))
all_words_give op (Word a ∷ Word b ∷ c ∷ []) value is = cc
all_words_give op (Word a ∷ Truth b ∷ c ∷ []) value is = cc
all_words_give op (Truth a ∷ Truth b ∷ c ∷ d ∷ more) value is = cc
all_words_give op (Truth a ∷ Word b ∷ c ∷ d ∷ more) value is = cc
all_words_give op (Word a ∷ Truth b ∷ c ∷ d ∷ more) value is = cc
all_words_give op (Word a ∷ Word b ∷ c ∷ d ∷ more) value is = cc

pub is_word_of_all : (op : ℕ) (words : List ℕ) (operands : List Scalar) (value : Scalar) → scalar_result op operands ≡ Some value → words ≡ map scalar_word operands → word_of_all op words ≡ scalar_word value
is_word_of_all op words operands value is are = ap (word_of_all op) are ∙ all_words_give op operands value is
