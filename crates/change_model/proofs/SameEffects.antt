-- An instruction does the same in programs in which ids mean the same, with the same values and the same words of the variables that it reads.
use Rattle.std.proofs.Common.{◌≡◌, ℕ, List, [], ◌∷◌, ◌++◌, drop, slice_index, refl, ap, ◌∙◌, Option, None, Some, sym}
use Rattle.std.specs.Option.{option_map, option_and_then}
use Rattle.spirv_model.specs.declared.module.Inst.{Inst}
use Rattle.valid_model.specs.declared.meaning.Meaning.{Meaning}
use Rattle.valid_model.specs.declared.meaning.Meaning.TheVariants.{Constant, Variable}
use Rattle.stage_model.specs.Value.{Value, Truth, Word, Composite, Pointer, Outside, Layout, words_of}
use Rattle.stage_model.specs.Program.{Program, pointee, held, held_type, held_layout}
use Rattle.stage_model.specs.Operations.{is_vector}
use Rattle.stage_model.specs.Start.{Memory}
use Rattle.stage_model.specs.Effect.{place_of, loaded, stored, stores, all_words, chained, chain_of, one, result_of, effect_of}
use Rattle.stage_model.specs.Machine.{State, after_effect, done, read_values}
use Rattle.change_model.specs.Programs.{plainly, MeanSame}

-- what doesn't tell constants from other values says the same of both sides
pub by_plain : {A : Type 0} (F : Meaning → A) → ((meaning : Meaning) → F meaning ≡ F (plainly meaning)) → (new old : Meaning) → plainly new ≡ plainly old → F new ≡ F old
by_plain F plain new old is = plain new ∙ ap F is ∙ sym (plain old)

pointee_plain : (meaning : Meaning) → pointee meaning ≡ pointee (plainly meaning)
pointee_plain (Constant type) = refl
pointee_plain meaning = refl

vector_plain : (meaning : Meaning) → is_vector meaning ≡ is_vector (plainly meaning)
vector_plain (Constant type) = refl
vector_plain meaning = refl

held_plain : (means : ℕ → Meaning) (meaning : Meaning) → held means meaning ≡ held means (plainly meaning)
held_plain means (Constant type) = refl
held_plain means meaning = refl

held_by : (new old : ℕ → Meaning) → ((id : ℕ) → plainly (new id) ≡ plainly (old id)) → (meaning : Meaning) → held new meaning ≡ held old meaning
held_by new old same (Variable type class) = by_plain pointee pointee_plain (new type) (old type) (same type)
held_by new old same meaning = refl

pub type_same : (p q : Program) → MeanSame p q → (variable : ℕ) → held_type p variable ≡ held_type q variable
type_same p q s variable = held_by p.meaning q.meaning s.meaning (p.meaning variable) ∙ by_plain (held q.meaning) (held_plain q.meaning) (p.meaning variable) (q.meaning variable) (s.meaning variable)

pub held_same : (p q : Program) → MeanSame p q → (variable : ℕ) → held_layout p variable ≡ held_layout q variable
unfolding held_layout
held_same p q s variable =
    ap (option_and_then p.layout) (type_same p q s variable) ∙ ap (λ (l : ℕ → Option Layout). option_and_then l (held_type q variable)) s.layout

pub place_same : (p q : Program) → MeanSame p q → (variable : ℕ) (indices : List ℕ) → place_of p variable indices ≡ place_of q variable indices
place_same p q s variable indices = rw (held_same p q s variable) refl

loaded_same : (p q : Program) → MeanSame p q → (memory : Memory) (layout : Layout) (pointer : Value) → loaded p memory layout pointer ≡ loaded q memory layout pointer
loaded_same p q s memory layout (Pointer variable indices) = rw (place_same p q s variable indices) refl
loaded_same p q s memory layout Outside = refl
loaded_same p q s memory layout (Truth b) = refl
loaded_same p q s memory layout (Word word) = refl
loaded_same p q s memory layout (Composite parts) = refl

-- a load of one of these values
load_same : (p q : Program) → MeanSame p q → (memory : Memory) (layout : Layout) (pointer : Option Value) → option_and_then (loaded p memory layout) pointer ≡ option_and_then (loaded q memory layout) pointer
load_same p q s memory layout None = refl
load_same p q s memory layout (Some pointer) = loaded_same p q s memory layout pointer

loads_same : (p q : Program) → MeanSame p q → (memory : Memory) (values : List Value) (layout : Option Layout)
    → option_and_then (λ layout. option_and_then (loaded p memory layout) (one values)) layout ≡ option_and_then (λ layout. option_and_then (loaded q memory layout) (one values)) layout
loads_same p q s memory values None = refl
loads_same p q s memory values (Some layout) = load_same p q s memory layout (one values)

stored_same : (p q : Program) → MeanSame p q → (words : List ℕ) (pointer : Value) → stored p words pointer ≡ stored q words pointer
stored_same p q s words (Pointer variable indices) = rw (place_same p q s variable indices) refl
stored_same p q s words Outside = refl
stored_same p q s words (Truth b) = refl
stored_same p q s words (Word word) = refl
stored_same p q s words (Composite parts) = refl

store_words_same : (p q : Program) → MeanSame p q → (pointer : Value) (words : Option (List ℕ)) → option_and_then (λ words. stored p words pointer) words ≡ option_and_then (λ words. stored q words pointer) words
store_words_same p q s pointer None = refl
store_words_same p q s pointer (Some words) = stored_same p q s words pointer

stores_same : (p q : Program) → MeanSame p q → (values : List Value) → stores p values ≡ stores q values
stores_same p q s [] = refl
stores_same p q s (pointer ∷ []) = refl
stores_same p q s (pointer ∷ object ∷ []) = store_words_same p q s pointer (words_of object)
stores_same p q s (pointer ∷ object ∷ more ∷ values) = refl

chained_same : (p q : Program) → MeanSame p q → (pointer : Value) (more : List ℕ) → chained p pointer more ≡ chained q pointer more
chained_same p q s (Pointer variable indices) more = rw (place_same p q s variable (indices ++ more)) refl
chained_same p q s Outside more = refl
chained_same p q s (Truth b) more = refl
chained_same p q s (Word word) more = refl
chained_same p q s (Composite parts) more = refl

chain_words_same : (p q : Program) → MeanSame p q → (pointer : Value) (indices : Option (List ℕ)) → option_and_then (chained p pointer) indices ≡ option_and_then (chained q pointer) indices
chain_words_same p q s pointer None = refl
chain_words_same p q s pointer (Some indices) = chained_same p q s pointer indices

chain_same : (p q : Program) → MeanSame p q → (values : List Value) → chain_of p values ≡ chain_of q values
chain_same p q s [] = refl
chain_same p q s (pointer ∷ indices) = chain_words_same p q s pointer (all_words indices)

result_same : (p q : Program) → MeanSame p q → (memory : Memory) (opcode type : ℕ) (words : List ℕ) (values : List Value) → result_of p memory opcode type words values ≡ result_of q memory opcode type words values
unfolding result_of
result_same p q s memory opcode type words values =
    rw (ap (λ (l : ℕ → Option Layout). l type) s.layout) (rw (loads_same p q s memory values (q.layout type))
    (rw (chain_same p q s values) (rw (by_plain is_vector vector_plain (p.meaning type) (q.meaning type) (s.meaning type)) refl)))

pub effect_same : (p q : Program) → MeanSame p q → (memory : Memory) (inst : Inst) (values : List Value) → effect_of p memory inst values ≡ effect_of q memory inst values
unfolding effect_of
effect_same p q s memory inst values = rw (stores_same p q s values) (rw (result_same p q s memory inst.op (slice_index inst.words 0) (drop 2 inst.words) values) refl)

effects_same : (p q : Program) → MeanSame p q → (memory : Memory) (inst : Inst) (values : Option (List Value)) → option_and_then (effect_of p memory inst) values ≡ option_and_then (effect_of q memory inst) values
effects_same p q s memory inst None = refl
effects_same p q s memory inst (Some values) = effect_same p q s memory inst values

-- an instruction does the same from a state
pub done_same : (p q : Program) → MeanSame p q → (inst : Inst) (state : State) → done p inst state ≡ done q inst state
unfolding done
done_same p q s inst state = ap (option_map (after_effect inst state)) (effects_same p q s state.memory inst (read_values inst state))
