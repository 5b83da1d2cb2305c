-- Where each word stands in a key.
use Rattle.std.proofs.Common.{◌≡◌, ℕ, ◌+◌, ◌<◌, List, [], ◌∷◌, ◌++◌, None, map, length, zero, suc, get_or, slice_index, refl, ap, ◌∙◌, arith, append_assoc}
use Rattle.std.proofs.lemmas.List.{get_or-append-add, length-map}
use Rattle.std.proofs.Math.ListN.{get_or-append}
use Rattle.state_model.specs.Key.{key, binding_word, attribute_word, entry_word, fixed_words, fragment_entries, flags_word, modules_word, counts_word}
use Rattle.limits.specs.declared.TheConstants.{LOCATIONS, VERTEX_BINDINGS, ENTRIES}
use Rattle.state_key.specs.declared.unpack.TheConstants.{BINDINGS_AT, ATTRIBUTES_AT, FIXED_AT, FIXED_WORDS, ENTRIES_AT, FRAGMENT_ENTRIES_AT}
use Rattle.state_model.specs.declared.parts.State.{State}

-- past a front of n
skip : (n : ℕ) (xs ys : List ℕ) (i : ℕ) → length xs ≡ n → get_or (xs ++ ys) (n + i) 0 ≡ get_or ys i 0
skip n xs ys i long = rw (← long) (get_or-append-add xs ys i 0)

-- a word of a section
word_at : {X : Type 0} (word : X → ℕ) (xs : List X) (rest : List ℕ) (i : ℕ) (d : X) → i < length xs → get_or (map word xs ++ rest) i 0 ≡ word (get_or xs i d)
word_at word [] rest i d within = absurd (omega arith)
word_at word (x ∷ xs) rest zero d within = refl
word_at word (x ∷ xs) rest (suc i) d within = word_at word xs rest i d (omega arith)

last_word_at : {X : Type 0} (word : X → ℕ) (xs : List X) (i : ℕ) (d : X) → i < length xs → get_or (map word xs) i 0 ≡ word (get_or xs i d)
last_word_at word [] i d within = absurd (omega arith)
last_word_at word (x ∷ xs) zero d within = refl
last_word_at word (x ∷ xs) (suc i) d within = last_word_at word xs i d (omega arith)

module _ (s : State) where
  abbrev head : List ℕ
  head = flags_word s ∷ modules_word s ∷ counts_word s ∷ 0 ∷ []

  abbrev after_entries : List ℕ
  after_entries = map entry_word (fragment_entries s.fragment)

  abbrev after_fixed : List ℕ
  after_fixed = map entry_word s.prerast.entries.entries ++ after_entries

  abbrev after_attributes : List ℕ
  after_attributes = fixed_words s ++ after_fixed

  abbrev after_bindings : List ℕ
  after_bindings = map attribute_word s.vertex.attributes ++ after_attributes

  key_in_sections : key s ≡ head ++ (map binding_word s.vertex.bindings ++ after_bindings)
  unfolding key
  key_in_sections = simp append_assoc

-- the lists of the state are as long as their sections
pub record HasLengths (s : State) : Type 0 where
  pub bindings : length s.vertex.bindings ≡ VERTEX_BINDINGS
  pub attributes : length s.vertex.attributes ≡ LOCATIONS
  pub entries : length s.prerast.entries.entries ≡ ENTRIES
  pub fragment_entries : length (fragment_entries s.fragment) ≡ ENTRIES

module _ (s : State) (lengths : HasLengths s) where
  past_head : (i : ℕ) → get_or (key s) (BINDINGS_AT + i) 0 ≡ get_or (map binding_word s.vertex.bindings ++ after_bindings s) i 0
  past_head i =
      ap (λ k. get_or k (BINDINGS_AT + i) 0) (key_in_sections s) ∙ skip BINDINGS_AT (head s) (map binding_word s.vertex.bindings ++ after_bindings s) i refl

  past_bindings : (i : ℕ) → get_or (key s) (ATTRIBUTES_AT + i) 0 ≡ get_or (after_bindings s) i 0
  past_bindings i =
      let place : ATTRIBUTES_AT + i ≡ BINDINGS_AT + (VERTEX_BINDINGS + i) = omega arith in
      ap (λ j. get_or (key s) j 0) place ∙ past_head (VERTEX_BINDINGS + i) ∙ skip VERTEX_BINDINGS (map binding_word s.vertex.bindings) (after_bindings s) i (length-map s.vertex.bindings binding_word ∙ lengths.bindings)

  past_attributes : (i : ℕ) → get_or (key s) (FIXED_AT + i) 0 ≡ get_or (after_attributes s) i 0
  past_attributes i =
      let place : FIXED_AT + i ≡ ATTRIBUTES_AT + (LOCATIONS + i) = omega arith in
      ap (λ j. get_or (key s) j 0) place ∙ past_bindings (LOCATIONS + i) ∙ skip LOCATIONS (map attribute_word s.vertex.attributes) (after_attributes s) i (length-map s.vertex.attributes attribute_word ∙ lengths.attributes)

  past_fixed : (i : ℕ) → get_or (key s) (ENTRIES_AT + i) 0 ≡ get_or (after_fixed s) i 0
  past_fixed i =
      let place : ENTRIES_AT + i ≡ FIXED_AT + (FIXED_WORDS + i) = omega arith in
      ap (λ j. get_or (key s) j 0) place ∙ past_attributes (FIXED_WORDS + i) ∙ skip FIXED_WORDS (fixed_words s) (after_fixed s) i refl

  past_entries : (i : ℕ) → get_or (key s) (FRAGMENT_ENTRIES_AT + i) 0 ≡ get_or (after_entries s) i 0
  past_entries i =
      let place : FRAGMENT_ENTRIES_AT + i ≡ ENTRIES_AT + (ENTRIES + i) = omega arith in
      ap (λ j. get_or (key s) j 0) place ∙ past_fixed (ENTRIES + i) ∙ skip ENTRIES (map entry_word s.prerast.entries.entries) (after_entries s) i (length-map s.prerast.entries.entries entry_word ∙ lengths.entries)

  pub binding_word_at : (i : ℕ) → i < VERTEX_BINDINGS → slice_index (key s) (BINDINGS_AT + i) ≡ binding_word (get_or s.vertex.bindings i None)
  binding_word_at i within =
      past_head i ∙ word_at binding_word s.vertex.bindings (after_bindings s) i None (omega (arith, lengths.bindings))

  pub attribute_word_at : (i : ℕ) → i < LOCATIONS → slice_index (key s) (ATTRIBUTES_AT + i) ≡ attribute_word (get_or s.vertex.attributes i None)
  attribute_word_at i within =
      past_bindings i ∙ word_at attribute_word s.vertex.attributes (after_attributes s) i None (omega (arith, lengths.attributes))

  pub fixed_word_at : (i : ℕ) → i < FIXED_WORDS → slice_index (key s) (FIXED_AT + i) ≡ get_or (fixed_words s) i 0
  fixed_word_at i within = past_attributes i ∙ get_or-append (fixed_words s) (after_fixed s) 0 i within

  pub entry_word_at : (i : ℕ) → i < ENTRIES → slice_index (key s) (ENTRIES_AT + i) ≡ entry_word (get_or s.prerast.entries.entries i None)
  entry_word_at i within =
      past_fixed i ∙ word_at entry_word s.prerast.entries.entries (after_entries s) i None (omega (arith, lengths.entries))

  pub fragment_entry_word_at : (i : ℕ) → i < ENTRIES → slice_index (key s) (FRAGMENT_ENTRIES_AT + i) ≡ entry_word (get_or (fragment_entries s.fragment) i None)
  fragment_entry_word_at i within =
      past_entries i ∙ last_word_at entry_word (fragment_entries s.fragment) i None (omega (arith, lengths.fragment_entries))
