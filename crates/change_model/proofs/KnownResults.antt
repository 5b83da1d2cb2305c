-- An instruction whose result is known before: without it, and with its value from the start, the machine does the same in fewer steps.
use Rattle.std.proofs.Common.{◌≡◌, ℕ, zero, suc, ◌+◌, ◌-◌, ◌<◌, ◌≤◌, ◌==◌, ◌&&◌, ◌⊎◌, inl, inr, Bool, true, false, nat_le, if◌then◌else◌, List, [], ◌∷◌, ◌++◌, length, take, drop, slice_index, refl, ap, sym, ◌∙◌, arith, Option, None, Some}
use Rattle.std.proofs.Math.Path.{fun_ext}
use Rattle.std.specs.Prelude.{slice_get}
use Rattle.std.specs.Option.{option_map, option_and_then}
use Rattle.std.proofs.lemmas.Bool.{cases_lt}
use Rattle.std.proofs.lemmas.Bool.Decides.{nat_tests}
use Rattle.spirv_model.specs.declared.module.Inst.{Inst}
use Rattle.spirv_model.specs.declared.op.TheConstants as op
use Rattle.spirv_model.specs.Operands.{word_at}
use Rattle.valid_model.specs.Definitions.{inst_at}
use Rattle.stage_model.specs.Value.{Value}
use Rattle.stage_model.specs.Program.{Program, is_label, first_label_place}
use Rattle.stage_model.specs.Start.{Values, with_value, all_values}
use Rattle.stage_model.specs.Effect.{Effect, Passes, Gives, Writes, Enters, Goes, Stops, read_ids, effect_of}
use Rattle.stage_model.specs.Machine.{State, Flow, Next, read_values, after_effect, counted, done}
use Rattle.change_model.specs.Programs.{MeanSame}
use Rattle.change_model.proofs.SameEffects.{effect_same}

-- ---- states with a value more

-- the state with this value for an id, now and at the block's entry, after so many steps
unfoldable pub beside : (own : ℕ) (value : Value) → State → (steps : ℕ) → State
beside own value state steps = record state {
  values = with_value own (Some value) state.values;
  values_at_entry = with_value own (Some value) state.values_at_entry;
  steps = steps;
}

-- the id has no value yet, or this one
abbrev pub IsKnown : ℕ → Value → Values → Type 0
IsKnown own value values = (values own ≡ None) ⊎ (values own ≡ Some value)

same_id : (a b : ℕ) → a == b ≡ true → a ≡ b
same_id a b is = grind (arith, nat_tests)

one_value : (own id : ℕ) (value found : Value) (values : Values) → IsKnown own value values → values id ≡ Some found → with_value own (Some value) values id ≡ Some found
one_value own id value found values known is = by_test (id == own) refl known
  where
    by_test : (b : Bool) → id == own ≡ b → IsKnown own value values → (if b then Some value else values id) ≡ Some found
    by_test false isnt known = is
    by_test true equal (inl none) = let e : values id ≡ values own = ap values (same_id id own equal) in cc
    by_test true equal (inr some) = let e : values id ≡ values own = ap values (same_id id own equal) in sym some ∙ sym e ∙ is

front_of : (first : Option Value) (rest : Option (List Value)) (read : List Value) → option_and_then (λ (a : Value). option_map (λ (l : List Value). a ∷ l) rest) first ≡ Some read
    → (a : Value) × (l : List Value) × (first ≡ Some a) × (rest ≡ Some l) × (a ∷ l ≡ read)
front_of None rest read is = cc
front_of (Some a) None read is = cc
front_of (Some a) (Some l) read is = (a, l, refl, refl, cc)

-- whatever is read is read with that value too
reads_same : (own : ℕ) (value : Value) (values : Values) → IsKnown own value values → (ids : List ℕ) (read : List Value) → all_values values ids ≡ Some read → all_values (with_value own (Some value) values) ids ≡ Some read
reads_same own value values known [] read is = is
reads_same own value values known (id ∷ ids) read is =
    let f = front_of (values id) (all_values values ids) read is in
    ap (option_and_then (λ (a : Value). option_map (λ (l : List Value). a ∷ l) (all_values (with_value own (Some value) values) ids))) (one_value own id value f.0 values known f.2)
    ∙ ap (option_map (λ (l : List Value). f.0 ∷ l)) (reads_same own value values known ids f.1 f.3) ∙ ap (λ (l : List Value). Some l) f.4

read_beside : (own : ℕ) (value : Value) (inst : Inst) (state : State) (steps : ℕ) (read : List Value) → IsKnown own value state.values → IsKnown own value state.values_at_entry → read_values inst state ≡ Some read
    → read_values inst (beside own value state steps) ≡ Some read
unfolding read_values beside
read_beside own value inst state steps read now entry is = by_test (inst.op == op.PHI) is
  where
    by_test : (b : Bool) → all_values (if b then state.values_at_entry else state.values) (read_ids inst.op state.before inst.words) ≡ Some read
        → all_values (if b then with_value own (Some value) state.values_at_entry else with_value own (Some value) state.values) (read_ids inst.op state.before inst.words) ≡ Some read
    by_test true is = reads_same own value state.values_at_entry entry (read_ids inst.op state.before inst.words) read is
    by_test false is = reads_same own value state.values now (read_ids inst.op state.before inst.words) read is

-- ---- effects

-- the effect gives another id a value, if any
abbrev pub GivesOther : ℕ → Inst → Effect → Type 0
GivesOther own inst (Gives value) = word_at 1 inst == own ≡ false
GivesOther own inst effect = Unit {0}

swapped : (a b : ℕ) (x y : Option Value) (values : Values) → a == b ≡ false → with_value a x (with_value b y values) ≡ with_value b y (with_value a x values)
swapped a b x y values isnt = fun_ext (λ id. by_tests id (id == a) (id == b) refl refl)
  where
    both : (id a b : ℕ) → id == a ≡ true → id == b ≡ true → a == b ≡ false → ⊥
    both id a b is also isnt = grind (arith, nat_tests)

    by_tests : (id : ℕ) (p q : Bool) → id == a ≡ p → id == b ≡ q → (if p then x else if q then y else values id) ≡ (if q then y else if p then x else values id)
    by_tests id true true is also = absurd (both id a b is also isnt)
    by_tests id true false is also = refl
    by_tests id false true is also = refl
    by_tests id false false is also = refl

given_beside : (own : ℕ) (value given : Value) (inst : Inst) (state : State) (steps : ℕ) → word_at 1 inst == own ≡ false
    → after_effect inst (beside own value state steps) (Gives given) ≡ (Next, beside own value (after_effect inst state (Gives given)).1 (steps + 1))
unfolding beside
given_beside own value given inst state steps isnt =
    ap (λ (v : Values). (Next, record (counted (record state { values_at_entry = with_value own (Some value) state.values_at_entry; steps = steps })) { values = v })) (swapped (word_at 1 inst) own (Some given) (Some value) state.values isnt)

-- the same comes of an effect beside
pub after_beside : (own : ℕ) (value : Value) (inst : Inst) (state : State) (steps : ℕ) (effect : Effect) → GivesOther own inst effect
    → after_effect inst (beside own value state steps) effect ≡ ((after_effect inst state effect).0, beside own value (after_effect inst state effect).1 (steps + 1))
unfolding beside
after_beside own value inst state steps (Gives given) other = given_beside own value given inst state steps other
after_beside own value inst state steps Passes other = refl
after_beside own value inst state steps (Writes variable place words) other = refl
after_beside own value inst state steps (Enters label) other = refl
after_beside own value inst state steps (Goes label) other = refl
after_beside own value inst state steps (Stops kind) other = refl

flip : (a b : ℕ) → a == b ≡ false → b == a ≡ false
flip a b is = grind (arith, nat_tests)

-- what is known stays known
pub record StaysKnown (own : ℕ) (value : Value) (state : State) : Type 0 where
  pub now : IsKnown own value state.values
  pub entry : IsKnown own value state.values_at_entry

known_as : (own : ℕ) (value : Value) (new old : Values) → new own ≡ old own → IsKnown own value old → IsKnown own value new
known_as own value new old is (inl none) = inl (is ∙ none)
known_as own value new old is (inr some) = inr (is ∙ some)

pub still_known : (own : ℕ) (value : Value) (inst : Inst) (state : State) (effect : Effect) → GivesOther own inst effect → StaysKnown own value state → StaysKnown own value (after_effect inst state effect).1
still_known own value inst state (Gives given) other known = record {
  now = known_as own value (with_value (word_at 1 inst) (Some given) state.values) state.values (ap (λ (b : Bool). if b then Some given else state.values own) (flip (word_at 1 inst) own other)) known.now;
  entry = known.entry;
}
still_known own value inst state Passes other known = record { now = known.now; entry = known.entry }
still_known own value inst state (Writes variable place words) other known = record { now = known.now; entry = known.entry }
still_known own value inst state (Enters label) other known = record { now = known.now; entry = known.now }
still_known own value inst state (Goes label) other known = record { now = known.now; entry = known.entry }
still_known own value inst state (Stops kind) other known = record { now = known.now; entry = known.entry }

-- an instruction does the same beside
pub done_beside : (p q : Program) → MeanSame p q → (own : ℕ) (value : Value) (inst : Inst) (state : State) (steps : ℕ) (read : List Value) (effect : Effect) → StaysKnown own value state → read_values inst state ≡ Some read
    → effect_of q state.memory inst read ≡ Some effect → GivesOther own inst effect
    → done p inst (beside own value state steps) ≡ Some ((after_effect inst state effect).0, beside own value (after_effect inst state effect).1 (steps + 1))
unfolding done beside
done_beside p q s own value inst state steps read effect known reads is other =
    ap (λ (o : Option (List Value)). option_map (after_effect inst (beside own value state steps)) (option_and_then (effect_of p (beside own value state steps).memory inst) o)) (read_beside own value inst state steps read known.now known.entry reads)
    ∙ ap (option_map (after_effect inst (beside own value state steps))) (same_memory ∙ is)
    ∙ ap (λ (r : Flow × State). Some r) (after_beside own value inst state steps effect other)
  where
    same_memory : effect_of p (beside own value state steps).memory inst read ≡ effect_of q state.memory inst read
    same_memory = effect_same p q s state.memory inst read

-- the instruction itself, on the side that has it
overwritten : (own : ℕ) (x y : Option Value) (values : Values) → with_value own x (with_value own y values) ≡ with_value own x values
overwritten own x y values = fun_ext (λ id. by_test id (id == own))
  where
    by_test : (id : ℕ) (b : Bool) → (if b then x else if b then y else values id) ≡ (if b then x else values id)
    by_test id true = refl
    by_test id false = refl

pub given_own : (own : ℕ) (value : Value) (inst : Inst) (state : State) (steps : ℕ) → word_at 1 inst ≡ own → beside own value (after_effect inst state (Gives value)).1 steps ≡ beside own value state steps
unfolding beside
given_own own value inst state steps is =
    ap (λ (v : Values). record state { values = v; values_at_entry = with_value own (Some value) state.values_at_entry; steps = steps })
    (ap (λ (n : ℕ). with_value own (Some value) (with_value n (Some value) state.values)) is ∙ overwritten own (Some value) (Some value) state.values)

pub known_now : (own : ℕ) (value : Value) (inst : Inst) (state : State) → word_at 1 inst ≡ own → StaysKnown own value state → StaysKnown own value (after_effect inst state (Gives value)).1
known_now own value inst state is known = record {
  now = inr (ap (λ (n : ℕ). with_value n (Some value) state.values own) is ∙ ap (λ (b : Bool). if b then Some value else state.values own) (self own));
  entry = known.entry;
}
  where
    self : (a : ℕ) → a == a ≡ true
    self a = grind (arith, nat_tests)

-- ---- places without one

-- the list without the instruction at a place
unfoldable pub without_one : ℕ → List Inst → List Inst
without_one gone insts = take gone insts ++ drop (suc gone) insts

-- where the instruction at a place stands then
abbrev pub moved : ℕ → ℕ → ℕ
moved gone place = if nat_le place gone then place else place - 1

upto : (gone place : ℕ) → place ≤ gone → moved gone place ≡ place
upto gone place less = grind (arith, nat_tests)

past : (gone place : ℕ) → gone < place → moved gone place ≡ place - 1
past gone place more = grind (arith, nat_tests)

get_upto : (insts : List Inst) (gone place : ℕ) → place < gone → slice_get (without_one gone insts) place ≡ slice_get insts place
unfolding without_one
get_upto [] zero place less = absurd (omega (arith, less))
get_upto [] (suc gone) place less = refl
get_upto (inst ∷ insts) zero place less = absurd (omega (arith, less))
get_upto (inst ∷ insts) (suc gone) zero less = refl
get_upto (inst ∷ insts) (suc gone) (suc place) less = get_upto insts gone place (omega (arith, less))

get_past : (insts : List Inst) (gone place : ℕ) → gone ≤ place → slice_get (without_one gone insts) place ≡ slice_get insts (suc place)
unfolding without_one
get_past [] zero place less = refl
get_past [] (suc gone) place less = refl
get_past (inst ∷ insts) zero place less = refl
get_past (inst ∷ insts) (suc gone) zero less = absurd (omega (arith, less))
get_past (inst ∷ insts) (suc gone) (suc place) less = get_past insts gone place (omega (arith, less))

-- each other instruction stands there
pub get_moved : (insts : List Inst) (gone place : ℕ) → (place ≡ gone → ⊥) → slice_get (without_one gone insts) (moved gone place) ≡ slice_get insts place
get_moved insts gone place other = elim (cases_lt place gone) [
  | inl less ↦ ap (slice_get (without_one gone insts)) (upto gone place (omega (arith, less))) ∙ get_upto insts gone place less
  | inr rest ↦ elim (cases_lt gone place) [
    | inl more ↦ ap (slice_get (without_one gone insts)) (past gone place more) ∙ get_past insts gone (place - 1) (omega (arith, more))
        ∙ ap (slice_get insts) {x = suc (place - 1)} {y = place} (omega (arith, more))
    | inr less ↦ absurd (other (omega (arith, less, rest)))
  ]
]

moved_more : (gone k : ℕ) → moved (suc gone) (suc k) ≡ suc (moved gone k)
moved_more gone k = grind (arith, nat_tests)

moved_first : (gone : ℕ) → moved (suc gone) 0 ≡ 0
moved_first gone = grind (arith, nat_tests)

moved_all : (k : ℕ) → moved 0 (suc k) ≡ k
moved_all k = grind (arith, nat_tests)

more_places : (gone : ℕ) (found : Option ℕ) → option_map (λ (k : ℕ). suc k) (option_map (moved gone) found) ≡ option_map (moved (suc gone)) (option_map (λ (k : ℕ). suc k) found)
more_places gone None = refl
more_places gone (Some k) = ap (λ (n : ℕ). Some n) (sym (moved_more gone k))

all_places : (found : Option ℕ) → found ≡ option_map (moved 0) (option_map (λ (k : ℕ). suc k) found)
all_places None = refl
all_places (Some k) = ap (λ (n : ℕ). Some n) (sym (moved_all k))

no_label : (label : ℕ) (inst : Inst) → inst.op == op.LABEL ≡ false → is_label label inst ≡ false
no_label label inst isnt = ap (λ (b : Bool). b && (slice_index inst.words 0 == label)) isnt

-- labels stand there
pub label_moved : (insts : List Inst) (gone label : ℕ) → gone < length insts → (inst_at insts gone).op == op.LABEL ≡ false → first_label_place (without_one gone insts) label ≡ option_map (moved gone) (first_label_place insts label)
unfolding first_label_place without_one
label_moved [] gone label within isnt = absurd (omega (arith, within))
label_moved (inst ∷ insts) zero label within isnt =
    all_places (first_label_place insts label)
    ∙ ap (λ (b : Bool). option_map (moved 0) (if b then Some 0 else option_map (λ (k : ℕ). suc k) (first_label_place insts label))) (sym (no_label label inst isnt))
label_moved (inst ∷ insts) (suc gone) label within isnt = by_test (is_label label inst) (label_moved insts gone label (omega (arith, within)) isnt)
  where
    by_test : (b : Bool) → first_label_place (take gone insts ++ drop (suc gone) insts) label ≡ option_map (moved gone) (first_label_place insts label)
        → (if b then Some 0 else option_map (λ (k : ℕ). suc k) (first_label_place (take gone insts ++ drop (suc gone) insts) label))
        ≡ option_map (moved (suc gone)) (if b then Some 0 else option_map (λ (k : ℕ). suc k) (first_label_place insts label))
    by_test true rest = ap (λ (n : ℕ). Some n) (sym (moved_first gone))
    by_test false rest = ap (option_map (λ (k : ℕ). suc k)) rest ∙ more_places gone (first_label_place insts label)

-- a jump between others goes back exactly where it did
pub back_same : (gone from to : ℕ) → (from ≡ gone → ⊥) → (to ≡ gone → ⊥) → nat_le (moved gone to) (moved gone from) ≡ nat_le to from
back_same gone from to other also = elim (cases_lt from gone) [
  | inl a ↦ elim (cases_lt to gone) [
    | inl b ↦ ap (λ (n : ℕ). nat_le n (moved gone from)) (upto gone to (omega (arith, b))) ∙ ap (nat_le to) (upto gone from (omega (arith, a)))
    | inr b ↦ let c : gone < to = above to gone b also in
        ap (λ (n : ℕ). nat_le n (moved gone from)) (past gone to c) ∙ ap (nat_le (to - 1)) (upto gone from (omega (arith, a))) ∙ both_false gone from to a c
  ]
  | inr a ↦ let d : gone < from = above from gone a other in elim (cases_lt to gone) [
    | inl b ↦ ap (λ (n : ℕ). nat_le n (moved gone from)) (upto gone to (omega (arith, b))) ∙ ap (nat_le to) (past gone from d) ∙ both_true gone from to b d
    | inr b ↦ let c : gone < to = above to gone b also in
        ap (λ (n : ℕ). nat_le n (moved gone from)) (past gone to c) ∙ ap (nat_le (to - 1)) (past gone from d) ∙ both_less gone from to c d
  ]
]
  where
    above : (n gone : ℕ) → gone ≤ n → (n ≡ gone → ⊥) → gone < n
    above n gone low other = elim (cases_lt gone n) [ inl more ↦ more | inr less ↦ absurd (other (omega (arith, less, low))) ]

    both_false : (gone from to : ℕ) → from < gone → gone < to → nat_le (to - 1) from ≡ nat_le to from
    both_false gone from to less more = grind (arith, nat_tests)

    both_true : (gone from to : ℕ) → to < gone → gone < from → nat_le to (from - 1) ≡ nat_le to from
    both_true gone from to less more = grind (arith, nat_tests)

    both_less : (gone from to : ℕ) → gone < to → gone < from → nat_le (to - 1) (from - 1) ≡ nat_le to from
    both_less gone from to less more = grind (arith, nat_tests)
