-- Where the words of an array's elements stand in a block.
use Rattle.std.specs.Prelude.{ℕ, ◌*◌, List}
use Rattle.std.specs.List.{flat_map, range_with_len}
use Rattle.valid_model.specs.declared.meaning.Meaning.{Meaning}
use Rattle.stage_model.specs.Program.{component_offsets, shifted}

-- of so many elements, which stand so many bytes apart
abbrev pub element_offsets : Meaning → ℕ → ℕ → List ℕ
element_offsets element stride count = flat_map (λ i. shifted (i * stride) (component_offsets element)) (range_with_len 0 count)
