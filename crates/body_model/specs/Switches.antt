-- The words of an OpSwitch: the selector, the default, and then literals with their targets.
use Rattle.std.specs.Prelude.{ℕ, ◌-◌, ◌==◌, Bool, false, not, ◌||◌, List, [], ◌∷◌, map, filter, slice_index, slice_get, Option, None, Some}
use Rattle.spirv_model.specs.declared.module.Inst.{Inst}
use Rattle.body_model.specs.declared.block_end.SwitchHead.{SwitchHead}

-- a literal and the label where it leads
pub record Case : Type 0 where
  pub literal : ℕ
  pub target : ℕ

abbrev pub cases_in : List ℕ → List Case
cases_in [] = []
cases_in (literal ∷ []) = []
cases_in (literal ∷ target ∷ words) = record { literal = literal; target = target } ∷ cases_in words

abbrev pub cases_of : List ℕ → List Case
cases_of [] = []
cases_of (selector ∷ []) = []
cases_of (selector ∷ default ∷ words) = cases_in words

abbrev pub is_among : ℕ → List ℕ → Bool
is_among x [] = false
is_among x (y ∷ ys) = (y == x) || is_among x ys

-- two of them are equal
abbrev pub repeat : List ℕ → Bool
repeat [] = false
repeat (x ∷ xs) = is_among x xs || repeat xs

abbrev pub literals_of : List ℕ → List ℕ
literals_of words = map (λ (case : Case). case.literal) (cases_of words)

abbrev pub targets_of : List ℕ → List ℕ
targets_of words = slice_index words 1 ∷ map (λ (case : Case). case.target) (cases_of words)

abbrev pub without : ℕ → List ℕ → List ℕ
without label labels = filter (λ other. not (other == label)) labels

-- the labels of the arms: all targets but the merge block
abbrev pub arm_labels : ℕ → List ℕ → List ℕ
arm_labels merge words = without merge (targets_of words)

-- the words of the OpSwitch that ends the block of a head
abbrev pub words_at : Option Inst → List ℕ
words_at None = []
words_at (Some inst) = inst.words

unfoldable pub switch_words : List Inst → SwitchHead → List ℕ
switch_words insts head = words_at (slice_get insts (head.after - 1))

-- the labels of its arms
unfoldable pub labels_of : List Inst → SwitchHead → List ℕ
labels_of insts head = arm_labels head.merge (switch_words insts head)
