-- The words of a variable, by where they come from.
use Rattle.std.proofs.Common.{◌≡◌, ℕ, ◌/◌, ◌==◌, Bool, true, false, if◌then◌else◌, List, [], refl, ap, sym, ◌∙◌, Option, None, Some}
use Rattle.std.specs.Prelude.{slice_index, slice_get}
use Rattle.std.specs.Option.{option_map}
use Rattle.spirv_model.specs.declared.storage_class.TheConstants as class
use Rattle.spirv_model.specs.declared.decoration.TheConstants.{BUILT_IN, LOCATION, BINDING, DESCRIPTOR_SET}
use Rattle.state_model.specs.declared.buffers.Buffers.{Buffers}
use Rattle.valid_model.specs.DecorationWords.{both}
use Rattle.valid_model.specs.declared.meaning.Meaning.{Meaning}
use Rattle.valid_model.specs.declared.meaning.Meaning.TheVariants.{Variable}
use Rattle.stage_model.specs.declared.inputs.Inputs.{Inputs}
use Rattle.stage_model.specs.Program.{Program, pointee, held, block_offsets}
use Rattle.stage_model.specs.Start.{option_word, buffer_word, bound_buffer, input_word, class_word, variable_word, first_memory}
use Rattle.spv_exec.specs.declared.origins.Origin.{Origin}
use Rattle.spv_exec.specs.declared.origins.Origin.TheVariants.{Cleared, Push}
use Rattle.spv_exec.specs.Origins.{input_origin, bound_origin, origin_in, index_of, origin_word}

by_offset : (word : ℕ → ℕ) (found : Option ℕ) → option_word (λ offset. word (offset / 4)) found ≡ option_word word (option_map (λ offset. offset / 4) found)
by_offset word None = refl
by_offset word (Some offset) = refl

no_word : (found : Option ℕ) → option_word (λ offset. 0) found ≡ 0
no_word None = refl
no_word (Some offset) = refl

-- the word with a number of a variable whose words come from there
abbrev word_by : Inputs → Buffers → List ℕ → ℕ → Origin → ℕ
word_by inputs buffers offsets at origin = option_word (origin_word inputs buffers origin) (index_of origin offsets at)

input_by : (inputs : Inputs) (buffers : Buffers) (offsets : List ℕ) (at : ℕ) (number location : Option ℕ) → input_word inputs number location at ≡ word_by inputs buffers offsets at (input_origin number location)
input_by inputs buffers offsets at (Some number) location = refl
input_by inputs buffers offsets at None (Some location) = refl
input_by inputs buffers offsets at None None = refl

buffer_by : (inputs : Inputs) (buffers : Buffers) (offsets : List ℕ) (at : ℕ) (set binding : Option ℕ)
    → option_word (λ offset. buffer_word buffers (bound_buffer inputs set binding) (offset / 4)) (slice_get offsets at) ≡ word_by inputs buffers offsets at (bound_origin (both set binding))
buffer_by inputs buffers offsets at (Some set) (Some binding) = by_offset (buffer_word buffers (bound_buffer inputs (Some set) (Some binding))) (slice_get offsets at)
buffer_by inputs buffers offsets at (Some set) None = no_word (slice_get offsets at)
buffer_by inputs buffers offsets at None (Some binding) = no_word (slice_get offsets at)
buffer_by inputs buffers offsets at None None = no_word (slice_get offsets at)

by_class : (inputs : Inputs) (buffers : Buffers) (offsets : List ℕ) (at : ℕ) (number location set binding : Option ℕ) (i u p : Bool)
    → (if i then input_word inputs number location at
    else if u then option_word (λ offset. buffer_word buffers (bound_buffer inputs set binding) (offset / 4)) (slice_get offsets at)
    else if p then option_word (λ offset. slice_index inputs.push (offset / 4)) (slice_get offsets at)
    else 0)
    ≡ word_by inputs buffers offsets at (if i then input_origin number location else if u then bound_origin (both set binding) else if p then Push else Cleared)
by_class inputs buffers offsets at number location set binding true u p = input_by inputs buffers offsets at number location
by_class inputs buffers offsets at number location set binding false true p = buffer_by inputs buffers offsets at set binding
by_class inputs buffers offsets at number location set binding false false true = by_offset (λ (index : ℕ). slice_index inputs.push index) (slice_get offsets at)
by_class inputs buffers offsets at number location set binding false false false = refl

class_by : (program : Program) (inputs : Inputs) (buffers : Buffers) (variable storage at : ℕ) (offsets : List ℕ) → offsets ≡ block_offsets program (held program.meaning (program.meaning variable))
    → class_word program inputs buffers variable storage at ≡ word_by inputs buffers offsets at (origin_in program variable storage)
unfolding origin_in
class_by program inputs buffers variable storage at offsets are =
    by_class inputs buffers (block_offsets program (held program.meaning (program.meaning variable))) at (program.decoration variable BUILT_IN) (program.decoration variable LOCATION)
    (program.decoration variable DESCRIPTOR_SET) (program.decoration variable BINDING) (storage == class.INPUT) (storage == class.UNIFORM) (storage == class.PUSH_CONSTANT)
    ∙ ap (λ (l : List ℕ). word_by inputs buffers l at (origin_in program variable storage)) (sym are)

-- what a variable holds when a run begins
pub first_word : (program : Program) (inputs : Inputs) (buffers : Buffers) (variable type storage at : ℕ) (offsets : List ℕ) → program.meaning variable ≡ Variable type storage → offsets ≡ block_offsets program (pointee (program.meaning type))
    → first_memory program inputs buffers variable at ≡ option_word (origin_word inputs buffers (origin_in program variable storage)) (index_of (origin_in program variable storage) offsets at)
unfolding first_memory
first_word program inputs buffers variable type storage at offsets means are =
    ap (λ (m : Meaning). variable_word program inputs buffers variable m at) means
    ∙ class_by program inputs buffers variable storage at offsets (are ∙ sym (ap (λ (m : Meaning). block_offsets program (held program.meaning m)) means))

-- and what is no variable
abbrev pub IsNoVariable : Meaning → Type 0
IsNoVariable (Variable type storage) = ⊥
IsNoVariable meaning = Unit {0}

no_variable : (program : Program) (inputs : Inputs) (buffers : Buffers) (variable at : ℕ) (m : Meaning) → IsNoVariable m → variable_word program inputs buffers variable m at ≡ 0
no_variable program inputs buffers variable at (Variable type storage) isnt = absurd isnt
no_variable program inputs buffers variable at m isnt = refl

pub first_zero : (program : Program) (inputs : Inputs) (buffers : Buffers) (variable at : ℕ) → IsNoVariable (program.meaning variable) → first_memory program inputs buffers variable at ≡ 0
unfolding first_memory
first_zero program inputs buffers variable at isnt = no_variable program inputs buffers variable at (program.meaning variable) isnt
