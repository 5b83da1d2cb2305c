-- Results that SPIR-V leaves undefined, and what invocations that don't come to their end leave, by computing.
use Rattle.std.proofs.Common.{◌≡◌, ℕ, true, List, [], ◌∷◌, ◌++◌, replicate, refl}
use Rattle.std.specs.Prelude.{None, Some, Option}
use Rattle.spirv_model.specs.declared.module.Inst.{Inst}
use Rattle.stage_model.specs.declared.inputs.Inputs.{Inputs}
use Rattle.stage_model.specs.declared.outcome.Kind.TheVariants.{Done, Killed}
use Rattle.stage_model.specs.declared.inputs.Inputs.{Inputs}
use Rattle.stage_model.specs.declared.outcome.Kind.TheVariants.{Done, Killed}
use Rattle.scalar_model.specs.Scalars.{scalar_result, word_from_word, arithmetic, bitwise, comparison, truth_from_truth, truth_from_truths}
use Rattle.valid_model.specs.Meanings.{known_by, known_after, known_of}
use Rattle.valid_model.specs.Types.{type_of}
use Rattle.valid_model.specs.DecorationWords.{decoration_of, offset_of}
use Rattle.spirv_model.specs.Operands.{result, entry_of, class_of}
use Rattle.stage_model.specs.Program.{program_of, first_label_place, layouts_by, held_layout, block_offsets}
use Rattle.stage_model.specs.Start.{constant_of, defined_by, first_memory}
use Rattle.stage_model.specs.Operations.{operation}
use Rattle.stage_model.specs.Effect.{read_ids, result_of, effect_of}
use Rattle.stage_model.specs.Machine.{read_values, done, step}
use Rattle.stage_model.specs.Stage.{Given, Outcome, start_at, position_left, slots_left, stage}

abbrev i : ℕ → List ℕ → Inst
i op words = record { op = op; words = words }

abbrev no_inputs : Inputs
no_inputs = record { slots = replicate 8 (replicate 4 0); vertex_index = 0; instance_index = 0; frag_coord = replicate 4 0; front = true; push = replicate 32 0; uniforms = replicate 4 (replicate 8 None) }

abbrev nothing_given : Given
nothing_given = record { entries = record { entries = [] }; inputs = no_inputs; buffers = record { list = [] } }

-- a fragment module with these declarations and this body, whose colour is the variable 5 of four words, and the vector 15 is (11, 12, 13, 14)
abbrev of_four_words : (declarations body : List Inst) → List Inst
of_four_words declarations body =
    (i 17 (1 ∷ [])
    ∷ i 14 (0 ∷ 1 ∷ [])
    ∷ i 15 (4 ∷ 7 ∷ 1852399981 ∷ 0 ∷ 5 ∷ [])
    ∷ i 16 (7 ∷ 7 ∷ [])
    ∷ i 71 (5 ∷ 30 ∷ 0 ∷ [])
    ∷ i 19 (1 ∷ [])
    ∷ i 33 (2 ∷ 1 ∷ [])
    ∷ i 21 (3 ∷ 32 ∷ 0 ∷ [])
    ∷ i 23 (50 ∷ 3 ∷ 4 ∷ [])
    ∷ i 32 (4 ∷ 3 ∷ 50 ∷ [])
    ∷ i 59 (4 ∷ 5 ∷ 3 ∷ [])
    ∷ i 43 (3 ∷ 11 ∷ 11 ∷ [])
    ∷ i 43 (3 ∷ 12 ∷ 12 ∷ [])
    ∷ i 43 (3 ∷ 13 ∷ 13 ∷ [])
    ∷ i 43 (3 ∷ 14 ∷ 14 ∷ [])
    ∷ i 44 (50 ∷ 15 ∷ 11 ∷ 12 ∷ 13 ∷ 14 ∷ [])
    ∷ [])
    ++ declarations ++ i 54 (1 ∷ 7 ∷ 0 ∷ 2 ∷ []) ∷ i 248 (8 ∷ []) ∷ body ++ i 56 [] ∷ []

-- these words at location 0
abbrev four_words : List ℕ → ℕ → Option Outcome
four_words words work = Some (record { kind = Done; position = replicate 4 0; slots = words ∷ replicate 7 (replicate 4 0); back_edges = 0; work = work })

-- 20 is an array of two vectors, 21 its second one, 22 one behind them, and 24 a component that the second one lacks
abbrev stores_outside : List Inst
stores_outside =
    of_four_words
    (i 43 (3 ∷ 10 ∷ 2 ∷ [])
    ∷ i 28 (51 ∷ 50 ∷ 10 ∷ [])
    ∷ i 32 (52 ∷ 7 ∷ 51 ∷ [])
    ∷ i 32 (53 ∷ 7 ∷ 50 ∷ [])
    ∷ i 32 (54 ∷ 7 ∷ 3 ∷ [])
    ∷ i 43 (3 ∷ 16 ∷ 1 ∷ [])
    ∷ i 43 (3 ∷ 17 ∷ 9 ∷ [])
    ∷ [])
    (i 59 (52 ∷ 20 ∷ 7 ∷ [])
    ∷ i 65 (53 ∷ 21 ∷ 20 ∷ 16 ∷ [])
    ∷ i 62 (21 ∷ 15 ∷ [])
    ∷ i 65 (53 ∷ 22 ∷ 20 ∷ 17 ∷ [])
    ∷ i 62 (22 ∷ 15 ∷ [])
    ∷ i 61 (50 ∷ 23 ∷ 22 ∷ [])
    ∷ i 65 (54 ∷ 24 ∷ 20 ∷ 16 ∷ 17 ∷ [])
    ∷ i 62 (24 ∷ 17 ∷ [])
    ∷ i 61 (3 ∷ 25 ∷ 24 ∷ [])
    ∷ i 61 (50 ∷ 26 ∷ 21 ∷ [])
    ∷ i 82 (50 ∷ 27 ∷ 25 ∷ 26 ∷ 0 ∷ [])
    ∷ i 81 (3 ∷ 28 ∷ 23 ∷ 3 ∷ [])
    ∷ i 82 (50 ∷ 29 ∷ 28 ∷ 27 ∷ 1 ∷ [])
    ∷ i 62 (5 ∷ 29 ∷ [])
    ∷ i 253 []
    ∷ [])

-- both stores outside wrote nothing, and both loads gave zeros
pub outside_is_zero : stage stores_outside nothing_given ≡ four_words (0 ∷ 0 ∷ 13 ∷ 14 ∷ []) 16
unfolding result entry_of first_label_place scalar_result word_from_word arithmetic bitwise comparison truth_from_truth truth_from_truths known_by known_after known_of type_of decoration_of offset_of program_of layouts_by held_layout block_offsets constant_of defined_by first_memory operation class_of read_ids result_of effect_of read_values done step start_at position_left slots_left stage
outside_is_zero = refl

-- 19 is an undefined vector, and 20 the components 3, none, 5 and 0 of 15 and 19
abbrev shuffles : List Inst
shuffles = of_four_words [] (i 1 (50 ∷ 19 ∷ []) ∷ i 79 (50 ∷ 20 ∷ 15 ∷ 19 ∷ 3 ∷ 0xffff_ffff ∷ 5 ∷ 0 ∷ []) ∷ i 62 (5 ∷ 20 ∷ []) ∷ i 253 [] ∷ [])

pub undefined_is_zero : stage shuffles nothing_given ≡ four_words (14 ∷ 0 ∷ 0 ∷ 11 ∷ []) 5
unfolding result entry_of first_label_place scalar_result word_from_word arithmetic bitwise comparison truth_from_truth truth_from_truths known_by known_after known_of type_of decoration_of offset_of program_of layouts_by held_layout block_offsets constant_of defined_by first_memory operation class_of read_ids result_of effect_of read_values done step start_at position_left slots_left stage
undefined_is_zero = refl

-- (11, 12, 13, 14) / (0, 1, 12, 13) + (1, 1, 1, 1) << (0, 31, 32, 33)
abbrev divides_and_shifts : List Inst
divides_and_shifts =
    of_four_words
    (i 43 (3 ∷ 16 ∷ 0 ∷ [])
    ∷ i 43 (3 ∷ 17 ∷ 1 ∷ [])
    ∷ i 43 (3 ∷ 18 ∷ 31 ∷ [])
    ∷ i 43 (3 ∷ 19 ∷ 32 ∷ [])
    ∷ i 43 (3 ∷ 20 ∷ 33 ∷ [])
    ∷ i 44 (50 ∷ 21 ∷ 16 ∷ 17 ∷ 12 ∷ 13 ∷ [])
    ∷ i 44 (50 ∷ 22 ∷ 17 ∷ 17 ∷ 17 ∷ 17 ∷ [])
    ∷ i 44 (50 ∷ 23 ∷ 16 ∷ 18 ∷ 19 ∷ 20 ∷ [])
    ∷ [])
    (i 134 (50 ∷ 24 ∷ 15 ∷ 21 ∷ []) ∷ i 196 (50 ∷ 25 ∷ 22 ∷ 23 ∷ []) ∷ i 128 (50 ∷ 26 ∷ 24 ∷ 25 ∷ []) ∷ i 62 (5 ∷ 26 ∷ []) ∷ i 253 [] ∷ [])

pub by_zero_and_beyond : stage divides_and_shifts nothing_given ≡ four_words (1 ∷ 0x8000_000c ∷ 1 ∷ 1 ∷ []) 6
unfolding result entry_of first_label_place scalar_result word_from_word arithmetic bitwise comparison truth_from_truth truth_from_truths known_by known_after known_of type_of decoration_of offset_of program_of layouts_by held_layout block_offsets constant_of defined_by first_memory operation class_of read_ids result_of effect_of read_values done step start_at position_left slots_left stage
by_zero_and_beyond = refl

-- (11 % 0, 12 / 0, 13 % 0, 14 % 0), by OpUMod, OpSDiv, OpSRem and OpSMod, and (11, 12, 13, 14) added
abbrev divides_by_zero : List Inst
divides_by_zero =
    of_four_words (i 43 (3 ∷ 16 ∷ 0 ∷ []) ∷ [])
    (i 137 (3 ∷ 24 ∷ 11 ∷ 16 ∷ []) ∷ i 135 (3 ∷ 25 ∷ 12 ∷ 16 ∷ []) ∷ i 138 (3 ∷ 26 ∷ 13 ∷ 16 ∷ []) ∷ i 139 (3 ∷ 27 ∷ 14 ∷ 16 ∷ [])
    ∷ i 80 (50 ∷ 28 ∷ 24 ∷ 25 ∷ 26 ∷ 27 ∷ []) ∷ i 128 (50 ∷ 29 ∷ 28 ∷ 15 ∷ []) ∷ i 62 (5 ∷ 29 ∷ []) ∷ i 253 [] ∷ [])

pub by_zero : stage divides_by_zero nothing_given ≡ four_words (11 ∷ 12 ∷ 13 ∷ 14 ∷ []) 9
unfolding result entry_of first_label_place scalar_result word_from_word arithmetic bitwise comparison truth_from_truth truth_from_truths known_by known_after known_of type_of decoration_of offset_of program_of layouts_by held_layout block_offsets constant_of defined_by first_memory operation class_of read_ids result_of effect_of read_values done step start_at position_left slots_left stage
by_zero = refl

-- 16 is an undefined vector of the module's level, 17 a Private variable, and 20 a Function variable; these and the output before
-- its first store are added to (11, 12, 13, 14), and OpUnreachable ends the invocation
abbrev reads_before_stores : List Inst
reads_before_stores =
    of_four_words
    (i 1 (50 ∷ 16 ∷ []) ∷ i 32 (52 ∷ 6 ∷ 50 ∷ []) ∷ i 32 (53 ∷ 7 ∷ 50 ∷ []) ∷ i 59 (52 ∷ 17 ∷ 6 ∷ []) ∷ [])
    (i 59 (53 ∷ 20 ∷ 7 ∷ [])
    ∷ i 61 (50 ∷ 21 ∷ 17 ∷ []) ∷ i 61 (50 ∷ 22 ∷ 20 ∷ []) ∷ i 61 (50 ∷ 23 ∷ 5 ∷ [])
    ∷ i 128 (50 ∷ 24 ∷ 15 ∷ 16 ∷ []) ∷ i 128 (50 ∷ 25 ∷ 24 ∷ 21 ∷ []) ∷ i 128 (50 ∷ 26 ∷ 25 ∷ 22 ∷ []) ∷ i 128 (50 ∷ 27 ∷ 26 ∷ 23 ∷ [])
    ∷ i 62 (5 ∷ 27 ∷ [])
    ∷ i 255 []
    ∷ [])

pub before_stores_is_zero : stage reads_before_stores nothing_given ≡ four_words (11 ∷ 12 ∷ 13 ∷ 14 ∷ []) 11
unfolding result entry_of first_label_place scalar_result word_from_word arithmetic bitwise comparison truth_from_truth truth_from_truths known_by known_after known_of type_of decoration_of offset_of program_of layouts_by held_layout block_offsets constant_of defined_by first_memory operation class_of read_ids result_of effect_of read_values done step start_at position_left slots_left stage
before_stores_is_zero = refl

-- what it had stored is not left
pub killed : stage (of_four_words [] (i 62 (5 ∷ 15 ∷ []) ∷ i 252 [] ∷ [])) nothing_given
    ≡ Some (record { kind = Killed; position = replicate 4 0; slots = replicate 8 (replicate 4 0); back_edges = 0; work = 3 })
unfolding result entry_of first_label_place scalar_result word_from_word arithmetic bitwise comparison truth_from_truth truth_from_truths known_by known_after known_of type_of decoration_of offset_of program_of layouts_by held_layout block_offsets constant_of defined_by first_memory operation class_of read_ids result_of effect_of read_values done step start_at position_left slots_left stage
killed = refl
