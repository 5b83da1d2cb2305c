-- What becomes of one sample: the depth comparison, the logic operation and the write mask.
use Rattle.std.specs.Prelude.{◌==◌, ℕ, ◌^◌, ◌/◌, ◌%◌, int_lt, Bool, true, false, ◌||◌, List, [], ◌∷◌, Option, map, slice_index, slice_index_or, if◌then◌else◌, bit_and, bit_or, bit_xor}
use Rattle.std.specs.List.{range_with_len}
use Rattle.std.specs.Option.{option_map_or}
use Rattle.basics.specs.Word.{signed_word, inverted}
use Rattle.limits.specs.declared.TheConstants.{COMPONENTS}

-- each comparison, by what holds of the new and the old depth: below, equal, above
abbrev pub comparison_results : (below equal above : Bool) → List Bool
comparison_results below equal above =
    false  -- COMPARE_OP_NEVER
    ∷ below  -- COMPARE_OP_LESS
    ∷ equal  -- COMPARE_OP_EQUAL
    ∷ (below || equal)  -- COMPARE_OP_LESS_OR_EQUAL
    ∷ above  -- COMPARE_OP_GREATER
    ∷ (below || above)  -- COMPARE_OP_NOT_EQUAL
    ∷ (above || equal)  -- COMPARE_OP_GREATER_OR_EQUAL
    ∷ true  -- COMPARE_OP_ALWAYS
    ∷ []

-- whether the comparison of the new with the old depth holds, both signed
abbrev pub passes_depth : ℕ → ℕ → ℕ → Bool
passes_depth compare new old =
    let below = int_lt (signed_word new) (signed_word old) in
    let above = int_lt (signed_word old) (signed_word new) in
    slice_index_or (comparison_results below (new == old) above) compare false

-- each logic operation, of the source s and the destination d
abbrev pub logic_results : ℕ → ℕ → List ℕ
logic_results s d =
    0  -- LOGIC_OP_CLEAR
    ∷ bit_and s d  -- LOGIC_OP_AND
    ∷ bit_and s (inverted d)  -- LOGIC_OP_AND_REVERSE
    ∷ s  -- LOGIC_OP_COPY
    ∷ bit_and (inverted s) d  -- LOGIC_OP_AND_INVERTED
    ∷ d  -- LOGIC_OP_NO_OP
    ∷ bit_xor s d  -- LOGIC_OP_XOR
    ∷ bit_or s d  -- LOGIC_OP_OR
    ∷ inverted (bit_or s d)  -- LOGIC_OP_NOR
    ∷ inverted (bit_xor s d)  -- LOGIC_OP_EQUIVALENT
    ∷ inverted d  -- LOGIC_OP_INVERT
    ∷ bit_or s (inverted d)  -- LOGIC_OP_OR_REVERSE
    ∷ inverted s  -- LOGIC_OP_COPY_INVERTED
    ∷ bit_or (inverted s) d  -- LOGIC_OP_OR_INVERTED
    ∷ inverted (bit_and s d)  -- LOGIC_OP_NAND
    ∷ inverted 0  -- LOGIC_OP_SET
    ∷ []

abbrev pub logic_result : ℕ → ℕ → ℕ → ℕ
logic_result op s d = slice_index (logic_results s d) op

-- without an operation it is the source
abbrev pub written_component : Option ℕ → ℕ → ℕ → ℕ
written_component op s d = option_map_or (λ op. logic_result op s d) op s

abbrev pub has_bit : ℕ → ℕ → Bool
has_bit mask i = mask / 2 ^ i % 2 == 1

-- component i: written where its bit of the mask is set, else as it was
abbrev pub stored_component : Option ℕ → ℕ → List ℕ → List ℕ → ℕ → ℕ
stored_component op mask s d i =
    if has_bit mask i then written_component op (slice_index s i) (slice_index d i) else slice_index d i

unfoldable pub stored_pixel : Option ℕ → ℕ → List ℕ → List ℕ → List ℕ
stored_pixel op mask s d = map (stored_component op mask s d) (range_with_len 0 COMPONENTS)
