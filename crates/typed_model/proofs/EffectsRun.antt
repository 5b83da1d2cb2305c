-- An instruction whose operands fit runs: it has an effect, and a result of its type.
use Rattle.std.proofs.Common.{◌≡◌, ℕ, Bool, true, List, [], ◌∷◌, slice_index, refl, ap, ◌∙◌, Option, is_some}
use Rattle.std.specs.Option.{option_map}
use Rattle.spirv_model.specs.declared.module.Inst.{Inst}
use Rattle.spirv_model.specs.declared.op.TheConstants as op
use Rattle.spirv_model.specs.Operands.{entry_of, class_of, kinds}
use Rattle.check_model.specs.CompositeOperands.{composite_operands_fit}
use Rattle.check_model.specs.MemoryOperands.{memory_operands_fit}
use Rattle.stage_model.specs.Value.{Value}
use Rattle.stage_model.specs.Program.{Program}
use Rattle.stage_model.specs.Start.{Memory}
use Rattle.stage_model.specs.Effect.{Effect, Passes, Gives, Writes, read_ids, result_of, effect_of}
use Rattle.typed_model.specs.Types.{HasTypes, typing_in, AllSuit, HasTypedResult}
use Rattle.typed_model.specs.Effects.{Runs}
use Rattle.typed_model.proofs.Composites.{construct_result, shuffle_result, extract_result, insert_result}
use Rattle.typed_model.proofs.MemoryValues.{load_result, IsStored, is_written, is_outside, store_result}
use Rattle.typed_model.proofs.Chains.{chain_result}
use Rattle.typed_model.proofs.ScalarTypes.{any_typed, all_typed}

abbrev pub instruction : ℕ → List ℕ → Inst
instruction opcode words = record { op = opcode; words = words }

pub gives_result : (program : Program) (memory : Memory) (inst : Inst) (values : List Value) (result : Option Value) → effect_of program memory inst values ≡ option_map Gives result → HasTypedResult program (slice_index inst.words 0) result
    → Runs program memory inst values
gives_result program memory inst values result is r = record { effect = Gives r.value; is = is ∙ ap (option_map Gives) r.is; typed = r.has }

stores_run : (program : Program) (memory : Memory) (inst : Inst) (values : List Value) (found : Option Effect) → effect_of program memory inst values ≡ found → IsStored found → Runs program memory inst values
stores_run program memory inst values found is (is_written variable place words so) = record { effect = Writes variable place words; is = is ∙ so; typed = tt }
stores_run program memory inst values found is (is_outside so) = record { effect = Passes; is = is ∙ so; typed = tt }

-- what the words of an instruction of memory, or of composites, are like: the table says how many they are
abbrev pub HasOperands : ℕ → List ℕ → Type 0
HasOperands opcode words = is_some (kinds (instruction opcode words)) ≡ true

-- the operands have values that suit them
abbrev pub ReadsSuit : Program → (ℕ → Option ℕ) → ℕ → ℕ → List ℕ → List Value → Type 0
ReadsSuit program constant opcode before words values = AllSuit program constant (read_ids opcode before words) values

-- ---- memory

pub load_runs : (program : Program) → HasTypes program → (constant : ℕ → Option ℕ) (vertex : Bool) (memory : Memory) (before : ℕ) (words : List ℕ) (values : List Value) → HasOperands op.LOAD words
    → memory_operands_fit (typing_in program constant vertex) (instruction op.LOAD words) ≡ true → ReadsSuit program constant op.LOAD before words values → Runs program memory (instruction op.LOAD words) values
unfolding kinds class_of entry_of memory_operands_fit read_ids effect_of result_of
load_runs program types constant vertex memory before (type ∷ id ∷ pointer ∷ []) (value ∷ []) has fit suit =
    gives_result program memory _ _ _ refl (load_result program types constant vertex memory type pointer value fit suit.0)
load_runs program types constant vertex memory before (type ∷ id ∷ pointer ∷ []) [] has fit suit = absurd suit
load_runs program types constant vertex memory before (type ∷ id ∷ pointer ∷ []) (value ∷ other ∷ values) has fit suit = absurd suit.1
load_runs program types constant vertex memory before (type ∷ id ∷ pointer ∷ more ∷ words) values has fit suit = cc
load_runs program types constant vertex memory before (type ∷ id ∷ []) values has fit suit = cc
load_runs program types constant vertex memory before (type ∷ []) values has fit suit = cc
load_runs program types constant vertex memory before [] values has fit suit = cc

pub store_runs : (program : Program) → HasTypes program → (constant : ℕ → Option ℕ) (vertex : Bool) (memory : Memory) (before : ℕ) (words : List ℕ) (values : List Value) → HasOperands op.STORE words
    → memory_operands_fit (typing_in program constant vertex) (instruction op.STORE words) ≡ true → ReadsSuit program constant op.STORE before words values → Runs program memory (instruction op.STORE words) values
unfolding kinds class_of entry_of memory_operands_fit read_ids effect_of result_of
store_runs program types constant vertex memory before (pointer ∷ object ∷ []) (value ∷ new ∷ []) has fit suit =
    stores_run program memory _ _ _ refl (store_result program types constant vertex pointer object value new fit suit.0 suit.1.0)
store_runs program types constant vertex memory before (pointer ∷ object ∷ []) [] has fit suit = absurd suit
store_runs program types constant vertex memory before (pointer ∷ object ∷ []) (value ∷ []) has fit suit = absurd suit.1
store_runs program types constant vertex memory before (pointer ∷ object ∷ []) (value ∷ new ∷ other ∷ values) has fit suit = absurd suit.1.1
store_runs program types constant vertex memory before (pointer ∷ object ∷ more ∷ words) values has fit suit = cc
store_runs program types constant vertex memory before (pointer ∷ []) values has fit suit = cc
store_runs program types constant vertex memory before [] values has fit suit = cc

pub chain_runs : (program : Program) → HasTypes program → (constant : ℕ → Option ℕ) (vertex : Bool) (memory : Memory) (before : ℕ) (words : List ℕ) (values : List Value) → HasOperands op.ACCESS_CHAIN words
    → memory_operands_fit (typing_in program constant vertex) (instruction op.ACCESS_CHAIN words) ≡ true → ReadsSuit program constant op.ACCESS_CHAIN before words values → Runs program memory (instruction op.ACCESS_CHAIN words) values
unfolding kinds class_of entry_of memory_operands_fit read_ids effect_of result_of
chain_runs program types constant vertex memory before (type ∷ id ∷ base ∷ indices) (value ∷ values) has fit suit =
    gives_result program memory _ _ _ refl (chain_result program types constant vertex type base indices value values fit suit.0 suit.1)
chain_runs program types constant vertex memory before (type ∷ id ∷ base ∷ indices) [] has fit suit = absurd suit
chain_runs program types constant vertex memory before (type ∷ id ∷ []) values has fit suit = cc
chain_runs program types constant vertex memory before (type ∷ []) values has fit suit = cc
chain_runs program types constant vertex memory before [] values has fit suit = cc

-- ---- composites

pub construct_runs : (program : Program) → HasTypes program → (constant : ℕ → Option ℕ) (vertex : Bool) (memory : Memory) (before : ℕ) (words : List ℕ) (values : List Value) → HasOperands op.COMPOSITE_CONSTRUCT words
    → composite_operands_fit (typing_in program constant vertex) (instruction op.COMPOSITE_CONSTRUCT words) ≡ true → ReadsSuit program constant op.COMPOSITE_CONSTRUCT before words values → Runs program memory (instruction op.COMPOSITE_CONSTRUCT words) values
unfolding kinds class_of entry_of composite_operands_fit read_ids effect_of result_of
construct_runs program types constant vertex memory before (type ∷ id ∷ parts) values has fit suit =
    gives_result program memory _ _ _ refl (construct_result program types constant vertex type parts values fit suit)
construct_runs program types constant vertex memory before (type ∷ []) values has fit suit = cc
construct_runs program types constant vertex memory before [] values has fit suit = cc

pub extract_runs : (program : Program) → HasTypes program → (constant : ℕ → Option ℕ) (vertex : Bool) (memory : Memory) (before : ℕ) (words : List ℕ) (values : List Value) → HasOperands op.COMPOSITE_EXTRACT words
    → composite_operands_fit (typing_in program constant vertex) (instruction op.COMPOSITE_EXTRACT words) ≡ true → ReadsSuit program constant op.COMPOSITE_EXTRACT before words values → Runs program memory (instruction op.COMPOSITE_EXTRACT words) values
unfolding kinds class_of entry_of composite_operands_fit read_ids effect_of result_of
extract_runs program types constant vertex memory before (type ∷ id ∷ composite ∷ indices) (value ∷ []) has fit suit =
    gives_result program memory _ _ _ refl (extract_result program types constant vertex type composite indices value fit suit.0)
extract_runs program types constant vertex memory before (type ∷ id ∷ composite ∷ indices) [] has fit suit = absurd suit
extract_runs program types constant vertex memory before (type ∷ id ∷ composite ∷ indices) (value ∷ other ∷ values) has fit suit = absurd suit.1
extract_runs program types constant vertex memory before (type ∷ id ∷ []) values has fit suit = cc
extract_runs program types constant vertex memory before (type ∷ []) values has fit suit = cc
extract_runs program types constant vertex memory before [] values has fit suit = cc

pub insert_runs : (program : Program) → HasTypes program → (constant : ℕ → Option ℕ) (vertex : Bool) (memory : Memory) (before : ℕ) (words : List ℕ) (values : List Value) → HasOperands op.COMPOSITE_INSERT words
    → composite_operands_fit (typing_in program constant vertex) (instruction op.COMPOSITE_INSERT words) ≡ true → ReadsSuit program constant op.COMPOSITE_INSERT before words values → Runs program memory (instruction op.COMPOSITE_INSERT words) values
unfolding kinds class_of entry_of composite_operands_fit read_ids effect_of result_of
insert_runs program types constant vertex memory before (type ∷ id ∷ object ∷ composite ∷ indices) (new ∷ value ∷ []) has fit suit =
    gives_result program memory _ _ _ refl (insert_result program types constant vertex type object composite indices new value fit suit.0 suit.1.0)
insert_runs program types constant vertex memory before (type ∷ id ∷ object ∷ composite ∷ indices) [] has fit suit = absurd suit
insert_runs program types constant vertex memory before (type ∷ id ∷ object ∷ composite ∷ indices) (new ∷ []) has fit suit = absurd suit.1
insert_runs program types constant vertex memory before (type ∷ id ∷ object ∷ composite ∷ indices) (new ∷ value ∷ other ∷ values) has fit suit = absurd suit.1.1
insert_runs program types constant vertex memory before (type ∷ id ∷ object ∷ []) values has fit suit = cc
insert_runs program types constant vertex memory before (type ∷ id ∷ []) values has fit suit = cc
insert_runs program types constant vertex memory before (type ∷ []) values has fit suit = cc
insert_runs program types constant vertex memory before [] values has fit suit = cc

pub shuffle_runs : (program : Program) → HasTypes program → (constant : ℕ → Option ℕ) (vertex : Bool) (memory : Memory) (before : ℕ) (words : List ℕ) (values : List Value) → HasOperands op.VECTOR_SHUFFLE words
    → composite_operands_fit (typing_in program constant vertex) (instruction op.VECTOR_SHUFFLE words) ≡ true → ReadsSuit program constant op.VECTOR_SHUFFLE before words values → Runs program memory (instruction op.VECTOR_SHUFFLE words) values
unfolding kinds class_of entry_of composite_operands_fit read_ids effect_of result_of
shuffle_runs program types constant vertex memory before (type ∷ id ∷ a ∷ b ∷ literals) (first ∷ second ∷ []) has fit suit =
    gives_result program memory _ _ _ refl (shuffle_result program types constant vertex type a b first second literals fit suit.0 suit.1.0)
shuffle_runs program types constant vertex memory before (type ∷ id ∷ a ∷ b ∷ literals) [] has fit suit = absurd suit
shuffle_runs program types constant vertex memory before (type ∷ id ∷ a ∷ b ∷ literals) (first ∷ []) has fit suit = absurd suit.1
shuffle_runs program types constant vertex memory before (type ∷ id ∷ a ∷ b ∷ literals) (first ∷ second ∷ other ∷ values) has fit suit = absurd suit.1.1
shuffle_runs program types constant vertex memory before (type ∷ id ∷ a ∷ []) values has fit suit = cc
shuffle_runs program types constant vertex memory before (type ∷ id ∷ []) values has fit suit = cc
shuffle_runs program types constant vertex memory before (type ∷ []) values has fit suit = cc
shuffle_runs program types constant vertex memory before [] values has fit suit = cc

pub any_runs : (program : Program) → HasTypes program → (constant : ℕ → Option ℕ) (vertex : Bool) (memory : Memory) (before : ℕ) (words : List ℕ) (values : List Value) → HasOperands op.ANY words
    → composite_operands_fit (typing_in program constant vertex) (instruction op.ANY words) ≡ true → ReadsSuit program constant op.ANY before words values → Runs program memory (instruction op.ANY words) values
unfolding kinds class_of entry_of composite_operands_fit read_ids effect_of result_of
any_runs program types constant vertex memory before (type ∷ id ∷ vector ∷ []) (value ∷ []) has fit suit =
    gives_result program memory _ _ _ refl (any_typed program types constant vertex type vector value fit suit.0)
any_runs program types constant vertex memory before (type ∷ id ∷ vector ∷ []) [] has fit suit = absurd suit
any_runs program types constant vertex memory before (type ∷ id ∷ vector ∷ []) (value ∷ other ∷ values) has fit suit = absurd suit.1
any_runs program types constant vertex memory before (type ∷ id ∷ vector ∷ more ∷ words) values has fit suit = cc
any_runs program types constant vertex memory before (type ∷ id ∷ []) values has fit suit = cc
any_runs program types constant vertex memory before (type ∷ []) values has fit suit = cc
any_runs program types constant vertex memory before [] values has fit suit = cc

pub all_run : (program : Program) → HasTypes program → (constant : ℕ → Option ℕ) (vertex : Bool) (memory : Memory) (before : ℕ) (words : List ℕ) (values : List Value) → HasOperands op.ALL words
    → composite_operands_fit (typing_in program constant vertex) (instruction op.ALL words) ≡ true → ReadsSuit program constant op.ALL before words values → Runs program memory (instruction op.ALL words) values
unfolding kinds class_of entry_of composite_operands_fit read_ids effect_of result_of
all_run program types constant vertex memory before (type ∷ id ∷ vector ∷ []) (value ∷ []) has fit suit =
    gives_result program memory _ _ _ refl (all_typed program types constant vertex type vector value fit suit.0)
all_run program types constant vertex memory before (type ∷ id ∷ vector ∷ []) [] has fit suit = absurd suit
all_run program types constant vertex memory before (type ∷ id ∷ vector ∷ []) (value ∷ other ∷ values) has fit suit = absurd suit.1
all_run program types constant vertex memory before (type ∷ id ∷ vector ∷ more ∷ words) values has fit suit = cc
all_run program types constant vertex memory before (type ∷ id ∷ []) values has fit suit = cc
all_run program types constant vertex memory before (type ∷ []) values has fit suit = cc
all_run program types constant vertex memory before [] values has fit suit = cc
