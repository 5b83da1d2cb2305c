-- Values of ids, the data types that they are of, and the words that variables hold.
use Rattle.std.specs.Prelude.{ℕ, zero, suc, ◌+◌, ◌-◌, ◌==◌, Bool, true, false, not, ◌&&◌, nat_lt, nat_le, if◌then◌else◌, List, [], ◌∷◌, ◌++◌, length, take, drop, slice_index, Option, None, Some}
use Rattle.std.specs.Option.{option_map, option_and_then}

-- What an id stands for: a truth value, a word, a list of values, a pointer to a part of a variable, by the indices that lead to it, or a pointer outside of its variable.
mutual
  pub data Value : Type 0 where
    Truth : Bool → Value
    Word : ℕ → Value
    Composite : Parts → Value
    Pointer : (variable : ℕ) (indices : List ℕ) → Value
    Outside : Value

  pub data Parts : Type 0 where
    NoParts : Parts
    PartsOf : Value → Parts → Parts

-- What values of a type are made of. A vector, an array and a structure differ in nothing but their parts.
mutual
  pub data Layout : Type 0 where
    OneTruth : Layout
    OneWord : Layout
    Several : Layouts → Layout

  pub data Layouts : Type 0 where
    NoLayouts : Layouts
    LayoutsOf : Layout → Layouts → Layouts

-- ---- words

-- the words that a value of a layout takes
abbrev mutual
  pub size_of : Layout → ℕ
  size_of OneTruth = 1
  size_of OneWord = 1
  size_of (Several layouts) = sizes_of layouts

  pub sizes_of : Layouts → ℕ
  sizes_of NoLayouts = 0
  sizes_of (LayoutsOf layout layouts) = size_of layout + sizes_of layouts

abbrev pub word_of_truth : Bool → ℕ
word_of_truth true = 1
word_of_truth false = 0

-- two lists of words, where both are there
abbrev pub words_with : Option (List ℕ) → Option (List ℕ) → Option (List ℕ)
words_with None more = None
words_with (Some words) None = None
words_with (Some words) (Some more) = Some (words ++ more)

-- the words of a value, its parts one after another; a pointer has none
abbrev mutual
  pub words_of : Value → Option (List ℕ)
  words_of (Truth b) = Some (word_of_truth b ∷ [])
  words_of (Word word) = Some (word ∷ [])
  words_of (Composite parts) = words_of_parts parts
  words_of (Pointer variable indices) = None
  words_of Outside = None

  pub words_of_parts : Parts → Option (List ℕ)
  words_of_parts NoParts = Some []
  words_of_parts (PartsOf value parts) = words_with (words_of value) (words_of_parts parts)

-- the value of a layout that begins these words; missing words are 0
abbrev mutual
  pub value_of : Layout → List ℕ → Value
  value_of OneTruth words = Truth (not (slice_index words 0 == 0))
  value_of OneWord words = Word (slice_index words 0)
  value_of (Several layouts) words = Composite (parts_of layouts words)

  pub parts_of : Layouts → List ℕ → Parts
  parts_of NoLayouts words = NoParts
  parts_of (LayoutsOf layout layouts) words = PartsOf (value_of layout words) (parts_of layouts (drop (size_of layout) words))

-- the value all of whose words are 0
abbrev pub zero_of : Layout → Value
zero_of layout = value_of layout []

-- ---- parts

abbrev pub count_of : Layouts → ℕ
count_of NoLayouts = 0
count_of (LayoutsOf layout layouts) = suc (count_of layouts)

-- so many parts of one layout
abbrev pub repeated : ℕ → Layout → Layouts
repeated zero layout = NoLayouts
repeated (suc n) layout = LayoutsOf layout (repeated n layout)

-- where the part with this index begins, in words, and its layout
abbrev pub part_at : Layouts → ℕ → Option (ℕ × Layout)
part_at NoLayouts index = None
part_at (LayoutsOf layout layouts) index =
    if index == 0 then Some (0, layout) else option_map (λ (place, part). (size_of layout + place, part)) (part_at layouts (index - 1))

-- where the part begins to which the indices lead, in words, and its layout
abbrev pub part_along : Layout → List ℕ → Option (ℕ × Layout)
part_along layout [] = Some (0, layout)
part_along OneTruth (index ∷ indices) = None
part_along OneWord (index ∷ indices) = None
part_along (Several layouts) (index ∷ indices) =
    option_and_then (λ (place, part). option_map (λ (further, found). (place + further, found)) (part_along part indices)) (part_at layouts index)

abbrev pub list_of : Parts → List Value
list_of NoParts = []
list_of (PartsOf value parts) = value ∷ list_of parts

abbrev pub parts_from : List Value → Parts
parts_from [] = NoParts
parts_from (value ∷ values) = PartsOf value (parts_from values)
