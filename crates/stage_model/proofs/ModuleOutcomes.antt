-- Outcomes of the sample modules, by computing. The work is one step for each instruction from an OpLabel to its block's terminator.
use Rattle.std.proofs.Common.{◌≡◌, ℕ, true, false, List, [], ◌∷◌, map, replicate, refl}
use Rattle.std.specs.Prelude.{None, Some, Option}
use Rattle.state_model.specs.declared.parts.Entry.{Entry}
use Rattle.state_model.specs.declared.buffers.Buffers.{Buffers}
use Rattle.stage_model.specs.declared.inputs.Inputs.{Inputs}
use Rattle.stage_model.specs.declared.outcome.Kind.TheVariants.{Done}
use Rattle.stage_model.specs.declared.inputs.Inputs.{Inputs}
use Rattle.stage_model.specs.declared.outcome.Kind.TheVariants.{Done}
use Rattle.scalar_model.specs.Scalars.{scalar_result, word_from_word, arithmetic, bitwise, comparison, truth_from_truth, truth_from_truths}
use Rattle.valid_model.specs.Meanings.{known_by, known_after, known_of}
use Rattle.valid_model.specs.Types.{type_of}
use Rattle.valid_model.specs.DecorationWords.{decoration_of, offset_of}
use Rattle.spirv_model.specs.Operands.{result, entry_of, class_of}
use Rattle.stage_model.specs.Program.{program_of, first_label_place, layouts_by, held_layout, block_offsets}
use Rattle.stage_model.specs.Start.{constant_of, defined_by, first_memory}
use Rattle.stage_model.specs.Operations.{operation}
use Rattle.stage_model.specs.Effect.{read_ids, result_of, effect_of}
use Rattle.stage_model.specs.Machine.{read_values, done, step}
use Rattle.stage_model.specs.Stage.{Given, Outcome, start_at, position_left, slots_left, stage}
use Rattle.body_model.proofs.SampleModules.{v1, v2, f1, f2, f3, f4, f5, f6, f7, f8, f9, f10}

abbrev no_inputs : Inputs
no_inputs = record { slots = replicate 8 (replicate 4 0); vertex_index = 0; instance_index = 0; frag_coord = replicate 4 0; front = true; push = replicate 32 0; uniforms = replicate 4 (replicate 8 None) }

abbrev no_buffers : Buffers
no_buffers = record { list = [] }

-- nothing but these entries
abbrev given : List (Option Entry) → Given
given entries = record { entries = record { entries = entries }; inputs = no_inputs; buffers = no_buffers }

-- the same with these inputs and buffers
abbrev given_with : List (Option Entry) → Inputs → List (List ℕ) → Given
given_with entries inputs buffers = record { entries = record { entries = entries }; inputs = inputs; buffers = record { list = buffers } }

abbrev entry : ℕ → ℕ → List (Option Entry)
entry id value = Some (record { id = id; value = value }) ∷ []

-- these words in the first location, and zeros in all others
abbrev first_slot : List ℕ → List (List ℕ)
first_slot words = words ∷ replicate 7 (replicate 4 0)

abbrev done_with : ℕ → ℕ → ℕ → Option Outcome
done_with word back_edges work = Some (record { kind = Done; position = replicate 4 0; slots = first_slot (word ∷ 0 ∷ 0 ∷ 0 ∷ []); back_edges = back_edges; work = work })

-- a vertex module leaves a position, and nothing in its slots
abbrev stands_at : List ℕ → ℕ → Option Outcome
stands_at position work = Some (record { kind = Done; position = position; slots = replicate 8 (replicate 4 0); back_edges = 0; work = work })

-- a fixed position
pub v1-outcome : stage v1 (given []) ≡ stands_at (128 ∷ 128 ∷ 0 ∷ 0 ∷ []) 3
unfolding result entry_of first_label_place scalar_result word_from_word arithmetic bitwise comparison truth_from_truth truth_from_truths known_by known_after known_of type_of decoration_of offset_of program_of layouts_by held_layout block_offsets constant_of defined_by first_memory operation class_of read_ids result_of effect_of read_values done step start_at position_left slots_left stage
v1-outcome = refl

abbrev at_location_0 : List ℕ → Given
at_location_0 words = given_with [] (record no_inputs { slots = first_slot words }) []

-- the position is that at location 0, which may be negative
pub v2-outcomes : map (stage v2) (given [] ∷ at_location_0 (512 ∷ 0xffff_ff00 ∷ 5 ∷ 7 ∷ []) ∷ [])
    ≡ stands_at (0 ∷ 0 ∷ 0 ∷ 0 ∷ []) 4 ∷ stands_at (512 ∷ 0xffff_ff00 ∷ 5 ∷ 7 ∷ []) 4 ∷ []
unfolding result entry_of first_label_place scalar_result word_from_word arithmetic bitwise comparison truth_from_truth truth_from_truths known_by known_after known_of type_of decoration_of offset_of program_of layouts_by held_layout block_offsets constant_of defined_by first_memory operation class_of read_ids result_of effect_of read_values done step start_at position_left slots_left stage
v2-outcomes = refl

-- a constant
pub f1-outcome : stage f1 (given []) ≡ done_with 42 0 3
unfolding result entry_of first_label_place scalar_result word_from_word arithmetic bitwise comparison truth_from_truth truth_from_truths known_by known_after known_of type_of decoration_of offset_of program_of layouts_by held_layout block_offsets constant_of defined_by first_memory operation class_of read_ids result_of effect_of read_values done step start_at position_left slots_left stage
f1-outcome = refl

-- 100 / 7, by an entry 100 / 0, and an entry of another id
pub f2-outcomes : map (stage f2) (given [] ∷ given (entry 0 0) ∷ given (entry 1 0) ∷ [])
    ≡ done_with 14 0 4 ∷ done_with 0 0 4 ∷ done_with 14 0 4 ∷ []
unfolding result entry_of first_label_place scalar_result word_from_word arithmetic bitwise comparison truth_from_truth truth_from_truths known_by known_after known_of type_of decoration_of offset_of program_of layouts_by held_layout block_offsets constant_of defined_by first_memory operation class_of read_ids result_of effect_of read_values done step start_at position_left slots_left stage
f2-outcomes = refl

-- three turns, none, and two
pub f3-outcomes : map (stage f3) (given [] ∷ given (entry 1 0) ∷ given (entry 1 2) ∷ [])
    ≡ done_with 3 3 57 ∷ done_with 0 0 15 ∷ done_with 2 2 43 ∷ []
unfolding result entry_of first_label_place scalar_result word_from_word arithmetic bitwise comparison truth_from_truth truth_from_truths known_by known_after known_of type_of decoration_of offset_of program_of layouts_by held_layout block_offsets constant_of defined_by first_memory operation class_of read_ids result_of effect_of read_values done step start_at position_left slots_left stage
f3-outcomes = refl

-- buffer 0 at set 0, binding 0
abbrev bound : List (Option Entry) → List (List ℕ) → Given
bound entries buffers = given_with entries (record no_inputs { uniforms = (Some 0 ∷ replicate 7 None) ∷ replicate 3 (replicate 8 None) }) buffers

-- 100 / 7, 100 / 5, a buffer without a word, one that isn't there, and none
pub f4-outcomes : map (stage f4) (bound [] ((100 ∷ []) ∷ []) ∷ bound (entry 0 5) ((100 ∷ []) ∷ []) ∷ bound [] ([] ∷ []) ∷ bound [] [] ∷ given [] ∷ [])
    ≡ done_with 14 0 6 ∷ done_with 20 0 6 ∷ done_with 0 0 6 ∷ done_with 0 0 6 ∷ done_with 0 0 6 ∷ []
unfolding result entry_of first_label_place scalar_result word_from_word arithmetic bitwise comparison truth_from_truth truth_from_truths known_by known_after known_of type_of decoration_of offset_of program_of layouts_by held_layout block_offsets constant_of defined_by first_memory operation class_of read_ids result_of effect_of read_values done step start_at position_left slots_left stage
f4-outcomes = refl

-- a truth value is true by default, where its entry is 0 it is false, and where that is another word it is true
pub f5-outcomes : map (stage f5) (given [] ∷ given (entry 2 0) ∷ given (entry 2 2) ∷ [])
    ≡ done_with 11 0 9 ∷ done_with 22 0 9 ∷ done_with 11 0 9 ∷ []
unfolding result entry_of first_label_place scalar_result word_from_word arithmetic bitwise comparison truth_from_truth truth_from_truths known_by known_after known_of type_of decoration_of offset_of program_of layouts_by held_layout block_offsets constant_of defined_by first_memory operation class_of read_ids result_of effect_of read_values done step start_at position_left slots_left stage
f5-outcomes = refl

abbrev at_location_3 : ℕ → Given
at_location_3 word = given_with [] (record no_inputs { slots = replicate 4 0 ∷ replicate 4 0 ∷ replicate 4 0 ∷ (word ∷ 8 ∷ 8 ∷ 8 ∷ []) ∷ replicate 4 (replicate 4 0) }) []

-- one more than at location 3, modulo 2^32
pub f6-outcomes : map (stage f6) (given [] ∷ at_location_3 41 ∷ at_location_3 0xffff_ffff ∷ [])
    ≡ done_with 1 0 5 ∷ done_with 42 0 5 ∷ done_with 0 0 5 ∷ []
unfolding result entry_of first_label_place scalar_result word_from_word arithmetic bitwise comparison truth_from_truth truth_from_truths known_by known_after known_of type_of decoration_of offset_of program_of layouts_by held_layout block_offsets constant_of defined_by first_memory operation class_of read_ids result_of effect_of read_values done step start_at position_left slots_left stage
f6-outcomes = refl

-- an arm, the same one by another literal, the merge block, and the default
pub f7-outcomes : map (stage f7) (given [] ∷ given (entry 3 1) ∷ given (entry 3 5) ∷ given (entry 3 9) ∷ [])
    ≡ done_with 10 0 9 ∷ done_with 10 0 9 ∷ done_with 30 0 7 ∷ done_with 20 0 9 ∷ []
unfolding result entry_of first_label_place scalar_result word_from_word arithmetic bitwise comparison truth_from_truth truth_from_truths known_by known_after known_of type_of decoration_of offset_of program_of layouts_by held_layout block_offsets constant_of defined_by first_memory operation class_of read_ids result_of effect_of read_values done step start_at position_left slots_left stage
f7-outcomes = refl

-- 0 + 1 + 2, nothing, and 0
pub f8-outcomes : map (stage f8) (given [] ∷ given (entry 1 0) ∷ given (entry 1 1) ∷ [])
    ≡ done_with 3 3 55 ∷ done_with 0 0 13 ∷ done_with 0 1 27 ∷ []
unfolding result entry_of first_label_place scalar_result word_from_word arithmetic bitwise comparison truth_from_truth truth_from_truths known_by known_after known_of type_of decoration_of offset_of program_of layouts_by held_layout block_offsets constant_of defined_by first_memory operation class_of read_ids result_of effect_of read_values done step start_at position_left slots_left stage
f8-outcomes = refl

-- all phis of a block take their values at once, so they change places with each turn
pub f9-outcomes : map (stage f9) (given [] ∷ given (entry 1 2) ∷ [])
    ≡ done_with 2 3 56 ∷ done_with 1 2 42 ∷ []
unfolding result entry_of first_label_place scalar_result word_from_word arithmetic bitwise comparison truth_from_truth truth_from_truths known_by known_after known_of type_of decoration_of offset_of program_of layouts_by held_layout block_offsets constant_of defined_by first_memory operation class_of read_ids result_of effect_of read_values done step start_at position_left slots_left stage
f9-outcomes = refl

abbrev back_side : Given
back_side = given_with [] (record no_inputs { front = false }) []

-- a front side and a back side
pub f10-outcomes : map (stage f10) (given [] ∷ back_side ∷ [])
    ≡ done_with 10 0 13 ∷ done_with 20 0 13 ∷ []
unfolding result entry_of first_label_place scalar_result word_from_word arithmetic bitwise comparison truth_from_truth truth_from_truths known_by known_after known_of type_of decoration_of offset_of program_of layouts_by held_layout block_offsets constant_of defined_by first_memory operation class_of read_ids result_of effect_of read_values done step start_at position_left slots_left stage
f10-outcomes = refl
