-- The parts of a record, and the modules that they are.
use Rattle.std.proofs.Common.{◌≡◌, ℕ, ◌==◌, Bool, true, false, List, [], ◌∷◌, length, refl, ap, sym, ◌∙◌, arith, Option, None, Some}
use Rattle.std.specs.Prelude.{IfSome}
use Rattle.std.proofs.lemmas.Bool.Decides.{nat_tests}
use Rattle.spirv_model.specs.declared.module.Words.{Words}
use Rattle.check_model.specs.Validity.{IsValidList}
use Rattle.unit_model.specs.Fits.{words_of, words_there}
use Rattle.unit_records.specs.Records.{HasModules, AreOfModule}

-- ---- the modules

pub vertex_is : (words part : List ℕ) (has : HasModules words) → part ≡ words_of has.vs → AreOfModule part
vertex_is words part has is = record { own = has.vs; valid = has.are.vertex; is = is }

no_words : (words : Words) → [] ≡ words_of words → ⊥
no_words words is = cc

some_words : (word : ℕ) (words : List ℕ) → word ∷ words ≡ [] → ⊥
some_words word words is = cc

-- a part with words is that of a module
pub fragment_is : (part : List ℕ) (fs : Option Words) → IfSome fs IsValidList → part ≡ words_there fs → (part ≡ [] → ⊥) → AreOfModule part
fragment_is part None valid is full = absurd (full is)
fragment_is part (Some fs) valid is full = record { own = fs; valid = valid; is = is }

-- a part without words is that of none
pub none_there : (fs : Option Words) → [] ≡ words_there fs → ◌≡◌ {A = Option Words} None fs
none_there None is = refl
none_there (Some fs) is = absurd (no_words fs is)

-- a module that is each one of these words is the one that is there
pub some_there : (part : List ℕ) (fs : Option Words) (read : Words) → IfSome fs IsValidList → part ≡ words_there fs → (part ≡ [] → ⊥)
    → ((own : Words) → IsValidList own → part ≡ words_of own → read ≡ own) → Some read ≡ fs
some_there part None read valid is full each = absurd (full is)
some_there part (Some fs) read valid is full each = ap (λ (own : Words). Some own) (each fs valid is)

-- ---- whether a part has words

pub is_full : (part : List ℕ) (empty : Bool) → empty ≡ (length part == 0) → empty ≡ false → part ≡ [] → ⊥
is_full part empty is isnt none = never (sym isnt ∙ is ∙ ap (λ (ws : List ℕ). length ws == 0) none)
  where
    never : false ≡ true → ⊥
    never same = cc

is_zero : (n : ℕ) → n == 0 ≡ true → n ≡ 0
is_zero n is = grind (arith, nat_tests)

pub none_read : (part : List ℕ) (fs : Option Words) (empty : Bool) → empty ≡ (length part == 0) → empty ≡ true → part ≡ words_there fs → ◌≡◌ {A = Option Words} None fs
none_read [] fs empty is there of = none_there fs of
none_read (word ∷ part) fs empty is there of = absurd (omega (arith, is_zero (length (word ∷ part)) (sym is ∙ there)))
