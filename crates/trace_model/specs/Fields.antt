-- The fields of a trace's lines: what bytes between two spaces say.
use Rattle.std.specs.Prelude.{ℕ, suc, ◌-◌, ◌^◌, Bool, true, false, ◌||◌, ◌==◌, nat_lt, nat_le, bytes_eq, if◌then◌else◌, List, [], ◌∷◌, length, codes, Option, None, Some}
use Rattle.std.specs.List.{slice_split, position}
use Rattle.std.specs.Option.{option_map}
use Rattle.state_model.specs.declared.vulkan.TheConstants.{SAMPLE_COUNT_1, SAMPLE_COUNT_2, SAMPLE_COUNT_4}
use Rattle.state_model.specs.declared.parts.Multisample.{Multisample}
use Rattle.draw_model.specs.declared.framebuffer.TheConstants.{DEPTH_FORMAT}
use Rattle.trace_model.specs.Text.{◌>>=◌, decimal_value}

-- ---- several fields

-- what each of them says, in their order
abbrev pub each : {A : Type 0} → (List ℕ → Option A) → List (List ℕ) → Option (List A)
each read [] = Some []
each read (field ∷ fields) = read field >>= λ x. each read fields >>= λ xs. Some (x ∷ xs)

-- the same of exactly so many
abbrev pub exactly : {A : Type 0} → ℕ → (List ℕ → Option A) → List (List ℕ) → Option (List A)
exactly count read fields = if length fields == count then each read fields else None

-- the same of at most so many
abbrev pub at_most : {A : Type 0} → ℕ → (List ℕ → Option A) → List (List ℕ) → Option (List A)
at_most count read fields = if nat_le (length fields) count then each read fields else None

-- the same of at least one, and at most so many
abbrev pub some_of : {A : Type 0} → ℕ → (List ℕ → Option A) → List (List ℕ) → Option (List A)
some_of count read fields = if nat_lt 0 (length fields) then at_most count read fields else None

-- ---- one field

-- a decimal number of any size, which has as many digits as the field
abbrev pub number_value : List ℕ → Option ℕ
number_value field = decimal_value (10 ^ length field) field

-- a number that isn't above the greatest nor below the least
abbrev pub range_value : (least greatest : ℕ) → List ℕ → Option ℕ
range_value least greatest field = decimal_value greatest field >>= λ n. if nat_le least n then Some n else None

-- a number below the bound
abbrev pub below : ℕ → List ℕ → Option ℕ
below bound field = decimal_value (bound - 1) field

abbrev pub flag_value : List ℕ → Option Bool
flag_value field = option_map (λ n. n == 1) (decimal_value 1 field)

-- `-` for none
abbrev pub optional : {A : Type 0} → (List ℕ → Option A) → List ℕ → Option (Option A)
optional read field = if bytes_eq field (codes "-") then Some None else option_map Some (read field)

-- one of two words: false for the first, true for the second
abbrev pub word_choice : (first second : List ℕ) → List ℕ → Option Bool
word_choice first second field =
    if bytes_eq field first then Some false else if bytes_eq field second then Some true else None

-- ---- a field of several parts

-- the parts between colons
abbrev pub colon_parts : List ℕ → List (List ℕ)
colon_parts field = slice_split (λ b. b == 58) field

-- two parts and the colon between them
abbrev pub pair_value : {A B : Type 0} → (List ℕ → Option A) → (List ℕ → Option B) → List (List ℕ) → Option (A × B)
pair_value first second (a ∷ b ∷ []) = first a >>= λ x. second b >>= λ y. Some (x, y)
pair_value first second parts = None

-- a number of samples: 1, 2 or 4
abbrev pub samples_value : List ℕ → Option ℕ
samples_value field = decimal_value SAMPLE_COUNT_4 field >>= λ n.
    if (n == SAMPLE_COUNT_1) || (n == SAMPLE_COUNT_2) || (n == SAMPLE_COUNT_4) then Some n else None

-- a mask of so many bits
abbrev pub mask_value : ℕ → List ℕ → Option ℕ
mask_value bits field = below (2 ^ bits) field

-- `samples:mask`
abbrev pub multisample_parts : List (List ℕ) → Option Multisample
multisample_parts (samples ∷ mask ∷ []) =
    samples_value samples >>= λ n. mask_value n mask >>= λ bits. Some (record { samples = n; mask = bits })
multisample_parts parts = None

abbrev pub multisample_value : List ℕ → Option Multisample
multisample_value field = multisample_parts (colon_parts field)

-- ---- formats

-- the names of the formats, by their numbers from 1 on
abbrev pub format_names : List (List ℕ)
format_names =
    codes "u1" ∷ codes "u2" ∷ codes "u3" ∷ codes "u4" ∷ codes "s1" ∷ codes "s2" ∷ codes "s3" ∷ codes "s4" ∷ codes "z" ∷ []

abbrev pub format_value : List ℕ → Option ℕ
format_value field = option_map (λ place. suc place) (position (bytes_eq field) format_names)

-- the same without the depth format
abbrev pub colour_value : List ℕ → Option ℕ
colour_value field = format_value field >>= λ format. if format == DEPTH_FORMAT then None else Some format
