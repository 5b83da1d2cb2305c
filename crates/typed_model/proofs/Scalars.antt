-- Scalar operations, component by component: a result of the layout that the class says.
use Rattle.std.proofs.Common.{◌≡◌, ℕ, zero, suc, ◌==◌, Bool, true, false, ◌&&◌, ◌||◌, if◌then◌else◌, List, [], ◌∷◌, refl, ap, sym, ◌∙◌, subst, Option, None, Some, is_some}
use Rattle.std.specs.Prelude.{is_none}
use Rattle.std.specs.Option.{option_map, option_and_then, option_or}
use Rattle.basics.proofs.Bools.{first_of_both, second_of_both}
use Rattle.spirv_model.specs.declared.op.TheConstants as op
use Rattle.scalar_model.specs.declared.scalar_value.Scalar.TheVariants.{Bool as TruthOf, Word as WordOf}
use Rattle.scalar_model.specs.Scalars.{word_from_word, word_from_words, comparison, truth_from_truth, truth_from_truths, scalar_result}
use Rattle.stage_model.specs.Value.{Value, Truth, Word, Composite, Parts, Layout, OneTruth, OneWord, Several, Layouts, NoLayouts, LayoutsOf, repeated, list_of, parts_from}
use Rattle.stage_model.specs.Start.{of_scalar, scalar_value}
use Rattle.stage_model.specs.Operations.{composite, on_each, on_pairs, chosen, selected_components, any_true, all_true, operation}
use Rattle.typed_model.specs.Values.{layouts_in, HasLayout}
use Rattle.typed_model.specs.Results.{scalar_layout, vector_layout, HasResult}
use Rattle.typed_model.proofs.Layouts.{truth_of, word_of, several_of, composite_has, front_of, no_parts, both_have, HaveLayouts}

pub there_is : {A : Type 0} (o : Option A) → is_some o ≡ true → (x : A) × (o ≡ Some x)
there_is None is = cc
there_is (Some x) is = (x, refl)

nothing : {A : Type 0} (o : Option A) → is_none o ≡ true → o ≡ None
nothing None is = refl
nothing (Some x) is = cc

-- ---- on scalars

-- an operation on one scalar, or two
abbrev pub OnOne : ℕ → (from to : Bool) → Type 0
OnOne opcode from to = (a : Value) → HasLayout (scalar_layout from) a → HasResult (scalar_layout to) (scalar_value opcode (a ∷ []))

abbrev pub OnTwo : ℕ → (from to : Bool) → Type 0
OnTwo opcode from to = (a b : Value) → HasLayout (scalar_layout from) a → HasLayout (scalar_layout from) b → HasResult (scalar_layout to) (scalar_value opcode (a ∷ b ∷ []))

word_by : (opcode : ℕ) (f : ℕ → ℕ) (a : ℕ) → word_from_word opcode ≡ Some f → HasResult OneWord (scalar_value opcode (Word a ∷ []))
unfolding scalar_result
word_by opcode f a is = record { value = Word (f a); is = ap (λ (o : Option (ℕ → ℕ)). option_map of_scalar (option_map (λ f. WordOf (f a)) o)) is; has = refl }

pub on_word : (opcode : ℕ) → is_some (word_from_word opcode) ≡ true → OnOne opcode false false
on_word opcode is a has =
    let f = there_is (word_from_word opcode) is in let w = word_of a has in
    subst (λ v. HasResult OneWord (scalar_value opcode (v ∷ []))) (sym w.1) (word_by opcode f.0 w.0 f.1)

truth_by : (opcode : ℕ) (f : Bool → Bool) (a : Bool) → truth_from_truth opcode ≡ Some f → HasResult OneTruth (scalar_value opcode (Truth a ∷ []))
unfolding scalar_result
truth_by opcode f a is = record { value = Truth (f a); is = ap (λ (o : Option (Bool → Bool)). option_map of_scalar (option_map (λ f. TruthOf (f a)) o)) is; has = refl }

pub on_truth : (opcode : ℕ) → is_some (truth_from_truth opcode) ≡ true → OnOne opcode true true
on_truth opcode is a has =
    let f = there_is (truth_from_truth opcode) is in let w = truth_of a has in
    subst (λ v. HasResult OneTruth (scalar_value opcode (v ∷ []))) (sym w.1) (truth_by opcode f.0 w.0 f.1)

abbrev of_words : Option (ℕ → ℕ → ℕ) → Option (ℕ → ℕ → Bool) → ℕ → ℕ → Option Value
of_words words truths a b = option_map of_scalar (option_or (option_map (λ f. WordOf (f a b)) words) (option_map (λ f. TruthOf (f a b)) truths))

words_by : (opcode : ℕ) (f : ℕ → ℕ → ℕ) (a b : ℕ) → word_from_words opcode ≡ Some f → HasResult OneWord (scalar_value opcode (Word a ∷ Word b ∷ []))
unfolding scalar_result
words_by opcode f a b is = record { value = Word (f a b); is = ap (λ (o : Option (ℕ → ℕ → ℕ)). of_words o (comparison opcode) a b) is; has = refl }

pub on_words : (opcode : ℕ) → is_some (word_from_words opcode) ≡ true → OnTwo opcode false false
on_words opcode is a b has also =
    let f = there_is (word_from_words opcode) is in let v = word_of a has in let w = word_of b also in
    subst (λ x. HasResult OneWord (scalar_value opcode (x ∷ b ∷ []))) (sym v.1)
    (subst (λ x. HasResult OneWord (scalar_value opcode (Word v.0 ∷ x ∷ []))) (sym w.1) (words_by opcode f.0 v.0 w.0 f.1))

compared_by : (opcode : ℕ) (f : ℕ → ℕ → Bool) (a b : ℕ) → word_from_words opcode ≡ None → comparison opcode ≡ Some f → HasResult OneTruth (scalar_value opcode (Word a ∷ Word b ∷ []))
unfolding scalar_result
compared_by opcode f a b isnt is = record {
  value = Truth (f a b);
  is = ap (λ (o : Option (ℕ → ℕ → ℕ)). of_words o (comparison opcode) a b) isnt ∙ ap (λ (o : Option (ℕ → ℕ → Bool)). of_words None o a b) is;
  has = refl;
}

pub on_compared : (opcode : ℕ) → (is_none (word_from_words opcode) && is_some (comparison opcode)) ≡ true → OnTwo opcode false true
on_compared opcode is a b has also =
    let none = nothing (word_from_words opcode) (first_of_both (is_none (word_from_words opcode)) (is_some (comparison opcode)) is) in
    let f = there_is (comparison opcode) (second_of_both (is_none (word_from_words opcode)) (is_some (comparison opcode)) is) in
    let v = word_of a has in let w = word_of b also in
    subst (λ x. HasResult OneTruth (scalar_value opcode (x ∷ b ∷ []))) (sym v.1)
    (subst (λ x. HasResult OneTruth (scalar_value opcode (Word v.0 ∷ x ∷ []))) (sym w.1) (compared_by opcode f.0 v.0 w.0 none f.1))

truths_by : (opcode : ℕ) (f : Bool → Bool → Bool) (a b : Bool) → truth_from_truths opcode ≡ Some f → HasResult OneTruth (scalar_value opcode (Truth a ∷ Truth b ∷ []))
unfolding scalar_result
truths_by opcode f a b is = record { value = Truth (f a b); is = ap (λ (o : Option (Bool → Bool → Bool)). option_map of_scalar (option_map (λ f. TruthOf (f a b)) o)) is; has = refl }

pub on_truths : (opcode : ℕ) → is_some (truth_from_truths opcode) ≡ true → OnTwo opcode true true
on_truths opcode is a b has also =
    let f = there_is (truth_from_truths opcode) is in let v = truth_of a has in let w = truth_of b also in
    subst (λ x. HasResult OneTruth (scalar_value opcode (x ∷ b ∷ []))) (sym v.1)
    (subst (λ x. HasResult OneTruth (scalar_value opcode (Truth v.0 ∷ x ∷ []))) (sym w.1) (truths_by opcode f.0 v.0 w.0 f.1))

-- ---- on each component

-- results one by one
pub record HaveResults (layouts : Layouts) (results : Option (List Value)) : Type 0 where
  pub values : List Value
  pub is : results ≡ Some values
  pub has : HaveLayouts layouts values

abbrev with_first : Option Value → Option (List Value) → Option (List Value)
with_first first rest = option_and_then (λ first. option_map (λ rest. first ∷ rest) rest) first

pub none_yet : HaveResults NoLayouts (Some [])
none_yet = record { values = []; is = refl; has = refl }

pub one_more : (layout : Layout) (layouts : Layouts) (first : Option Value) (rest : Option (List Value)) → HasResult layout first → HaveResults layouts rest → HaveResults (LayoutsOf layout layouts) (with_first first rest)
one_more layout layouts first rest one more = record {
  values = one.value ∷ more.values;
  is = ap (λ (o : Option Value). with_first o rest) one.is ∙ ap (λ (o : Option (List Value)). with_first (Some one.value) o) more.is;
  has = both_have one.value (parts_from more.values) layout layouts one.has more.has;
}

each_result : (opcode : ℕ) (from to : Bool) → OnOne opcode from to → (n : ℕ) (parts : Parts) → layouts_in parts ≡ Some (repeated n (scalar_layout from)) → HaveResults (repeated n (scalar_layout to)) (on_each opcode (list_of parts))
each_result opcode from to one zero parts have = subst (λ p. HaveResults NoLayouts (on_each opcode (list_of p))) (sym (no_parts parts have)) none_yet
each_result opcode from to one (suc n) parts have =
    let f = front_of parts (scalar_layout from) (repeated n (scalar_layout from)) have in
    subst (λ p. HaveResults (repeated (suc n) (scalar_layout to)) (on_each opcode (list_of p))) (sym f.is)
    (one_more (scalar_layout to) (repeated n (scalar_layout to)) _ _ (one f.value f.has) (each_result opcode from to one n f.rest f.behind))

pair_results : (opcode : ℕ) (from to : Bool) → OnTwo opcode from to → (n : ℕ) (parts others : Parts) → layouts_in parts ≡ Some (repeated n (scalar_layout from)) → layouts_in others ≡ Some (repeated n (scalar_layout from))
    → HaveResults (repeated n (scalar_layout to)) (on_pairs opcode (list_of parts) (list_of others))
pair_results opcode from to two zero parts others have also =
    subst (λ p. HaveResults NoLayouts (on_pairs opcode (list_of p) (list_of others))) (sym (no_parts parts have))
    (subst (λ p. HaveResults NoLayouts (on_pairs opcode [] (list_of p))) (sym (no_parts others also)) none_yet)
pair_results opcode from to two (suc n) parts others have also =
    let f = front_of parts (scalar_layout from) (repeated n (scalar_layout from)) have in
    let g = front_of others (scalar_layout from) (repeated n (scalar_layout from)) also in
    subst (λ p. HaveResults (repeated (suc n) (scalar_layout to)) (on_pairs opcode (list_of p) (list_of others))) (sym f.is)
    (subst (λ p. HaveResults (repeated (suc n) (scalar_layout to)) (on_pairs opcode (f.value ∷ list_of f.rest) (list_of p))) (sym g.is)
    (one_more (scalar_layout to) (repeated n (scalar_layout to)) _ _ (two f.value g.value f.has g.has) (pair_results opcode from to two n f.rest g.rest f.behind g.behind)))

pub composed : (layouts : Layouts) (results : Option (List Value)) → HaveResults layouts results → HasResult (Several layouts) (option_map composite results)
composed layouts results r = record { value = composite r.values; is = ap (option_map composite) r.is; has = composite_has (parts_from r.values) layouts r.has }

-- ---- on scalars or vectors

scalar_alone : (opcode : ℕ) (truths : Bool) (a : Value) → HasLayout (scalar_layout truths) a → operation opcode (a ∷ []) ≡ scalar_value opcode (a ∷ [])
unfolding operation
scalar_alone opcode true a has = let v = truth_of a has in subst (λ x. operation opcode (x ∷ []) ≡ scalar_value opcode (x ∷ [])) (sym v.1) refl
scalar_alone opcode false a has = let v = word_of a has in subst (λ x. operation opcode (x ∷ []) ≡ scalar_value opcode (x ∷ [])) (sym v.1) refl

neither : {A : Type 0} (x y : A) {z : A} (a b : Bool) → a ≡ false → b ≡ false → (if a then x else if b then y else z) ≡ z
neither x y true b isnt also = cc
neither x y false true isnt also = cc
neither x y false false isnt also = refl

vector_alone : (opcode : ℕ) (parts : Parts) → opcode == op.ANY ≡ false → opcode == op.ALL ≡ false → operation opcode (Composite parts ∷ []) ≡ option_map composite (on_each opcode (list_of parts))
unfolding operation
vector_alone opcode parts isnt also = neither _ _ (opcode == op.ANY) (opcode == op.ALL) isnt also

pub unary_result : (opcode : ℕ) (from to : Bool) → OnOne opcode from to → opcode == op.ANY ≡ false → opcode == op.ALL ≡ false → (is_scalar : Bool) (count : ℕ) (a : Value)
    → HasLayout (vector_layout is_scalar count from) a → HasResult (vector_layout is_scalar count to) (operation opcode (a ∷ []))
unary_result opcode from to one isnt also true count a has = subst (HasResult (scalar_layout to)) (sym (scalar_alone opcode from a has)) (one a has)
unary_result opcode from to one isnt also false count a has =
    let p = several_of a (repeated count (scalar_layout from)) has in
    subst (λ v. HasResult (Several (repeated count (scalar_layout to))) (operation opcode (v ∷ []))) (sym p.1)
    (subst (HasResult (Several (repeated count (scalar_layout to)))) (sym (vector_alone opcode p.0 isnt also))
    (composed (repeated count (scalar_layout to)) _ (each_result opcode from to one count p.0 p.2)))

scalars_alone : (opcode : ℕ) (truths : Bool) (a b : Value) → HasLayout (scalar_layout truths) a → operation opcode (a ∷ b ∷ []) ≡ scalar_value opcode (a ∷ b ∷ [])
unfolding operation
scalars_alone opcode true a b has = let v = truth_of a has in subst (λ x. operation opcode (x ∷ b ∷ []) ≡ scalar_value opcode (x ∷ b ∷ [])) (sym v.1) refl
scalars_alone opcode false a b has = let v = word_of a has in subst (λ x. operation opcode (x ∷ b ∷ []) ≡ scalar_value opcode (x ∷ b ∷ [])) (sym v.1) refl

vectors_alone : (opcode : ℕ) (parts others : Parts) → operation opcode (Composite parts ∷ Composite others ∷ []) ≡ option_map composite (on_pairs opcode (list_of parts) (list_of others))
unfolding operation
vectors_alone opcode parts others = refl

pub binary_result : (opcode : ℕ) (from to : Bool) → OnTwo opcode from to → (is_scalar : Bool) (count : ℕ) (a b : Value)
    → HasLayout (vector_layout is_scalar count from) a → HasLayout (vector_layout is_scalar count from) b → HasResult (vector_layout is_scalar count to) (operation opcode (a ∷ b ∷ []))
binary_result opcode from to two true count a b has also = subst (HasResult (scalar_layout to)) (sym (scalars_alone opcode from a b has)) (two a b has also)
binary_result opcode from to two false count a b has also =
    let p = several_of a (repeated count (scalar_layout from)) has in
    let q = several_of b (repeated count (scalar_layout from)) also in
    subst (λ v. HasResult (Several (repeated count (scalar_layout to))) (operation opcode (v ∷ b ∷ []))) (sym p.1)
    (subst (λ v. HasResult (Several (repeated count (scalar_layout to))) (operation opcode (Composite p.0 ∷ v ∷ []))) (sym q.1)
    (subst (HasResult (Several (repeated count (scalar_layout to)))) (sym (vectors_alone opcode p.0 q.0))
    (composed (repeated count (scalar_layout to)) _ (pair_results opcode from to two count p.0 q.0 p.2 q.2))))

-- ---- OpSelect

pub chosen_has : (layout : Layout) (condition : Bool) (a b : Value) → HasLayout layout a → HasLayout layout b → HasLayout layout (chosen condition a b)
chosen_has layout true a b has also = has
chosen_has layout false a b has also = also

selects_one : (condition : Bool) (a b : Value) → operation op.SELECT (Truth condition ∷ a ∷ b ∷ []) ≡ Some (chosen condition a b)
unfolding operation
selects_one condition a b = refl

-- one of two objects of any layout
pub select_result : (layout : Layout) (condition a b : Value) → HasLayout OneTruth condition → HasLayout layout a → HasLayout layout b → HasResult layout (operation op.SELECT (condition ∷ a ∷ b ∷ []))
select_result layout condition a b is has also =
    let c = truth_of condition is in
    subst (λ v. HasResult layout (operation op.SELECT (v ∷ a ∷ b ∷ []))) (sym c.1)
    (record { value = chosen c.0 a b; is = selects_one c.0 a b; has = chosen_has layout c.0 a b has also })

with_chosen : (layout : Layout) (layouts : Layouts) (value : Value) (rest : Option (List Value)) → HasLayout layout value → HaveResults layouts rest → HaveResults (LayoutsOf layout layouts) (option_map (λ rest. value ∷ rest) rest)
with_chosen layout layouts value rest has more = one_more layout layouts (Some value) rest (record { value = value; is = refl; has = has }) more

selected_results : (layout : Layout) (n : ℕ) (conditions parts others : Parts) → layouts_in conditions ≡ Some (repeated n OneTruth) → layouts_in parts ≡ Some (repeated n layout) → layouts_in others ≡ Some (repeated n layout)
    → HaveResults (repeated n layout) (selected_components (list_of conditions) (list_of parts) (list_of others))
selected_results layout zero conditions parts others are have also =
    subst (λ p. HaveResults NoLayouts (selected_components (list_of p) (list_of parts) (list_of others))) (sym (no_parts conditions are))
    (subst (λ p. HaveResults NoLayouts (selected_components [] (list_of p) (list_of others))) (sym (no_parts parts have))
    (subst (λ p. HaveResults NoLayouts (selected_components [] [] (list_of p))) (sym (no_parts others also)) none_yet))
selected_results layout (suc n) conditions parts others are have also =
    let c = front_of conditions OneTruth (repeated n OneTruth) are in let t = truth_of c.value c.has in
    let f = front_of parts layout (repeated n layout) have in let g = front_of others layout (repeated n layout) also in
    subst (λ p. HaveResults (repeated (suc n) layout) (selected_components (list_of p) (list_of parts) (list_of others))) (sym c.is)
    (subst (λ v. HaveResults (repeated (suc n) layout) (selected_components (v ∷ list_of c.rest) (list_of parts) (list_of others))) (sym t.1)
    (subst (λ p. HaveResults (repeated (suc n) layout) (selected_components (Truth t.0 ∷ list_of c.rest) (list_of p) (list_of others))) (sym f.is)
    (subst (λ p. HaveResults (repeated (suc n) layout) (selected_components (Truth t.0 ∷ list_of c.rest) (f.value ∷ list_of f.rest) (list_of p))) (sym g.is)
    (with_chosen layout (repeated n layout) _ _ (chosen_has layout t.0 f.value g.value f.has g.has) (selected_results layout n c.rest f.rest g.rest c.behind f.behind g.behind)))))

selects_each : (conditions parts others : Parts) → operation op.SELECT (Composite conditions ∷ Composite parts ∷ Composite others ∷ []) ≡ option_map composite (selected_components (list_of conditions) (list_of parts) (list_of others))
unfolding operation
selects_each conditions parts others = refl

-- a condition for each component
pub select_each_result : (truths : Bool) (count : ℕ) (condition a b : Value) → HasLayout (Several (repeated count OneTruth)) condition → HasLayout (Several (repeated count (scalar_layout truths))) a → HasLayout (Several (repeated count (scalar_layout truths))) b
    → HasResult (Several (repeated count (scalar_layout truths))) (operation op.SELECT (condition ∷ a ∷ b ∷ []))
select_each_result truths count condition a b is has also =
    let c = several_of condition (repeated count OneTruth) is in
    let p = several_of a (repeated count (scalar_layout truths)) has in
    let q = several_of b (repeated count (scalar_layout truths)) also in
    subst (λ v. HasResult (Several (repeated count (scalar_layout truths))) (operation op.SELECT (v ∷ a ∷ b ∷ []))) (sym c.1)
    (subst (λ v. HasResult (Several (repeated count (scalar_layout truths))) (operation op.SELECT (Composite c.0 ∷ v ∷ b ∷ []))) (sym p.1)
    (subst (λ v. HasResult (Several (repeated count (scalar_layout truths))) (operation op.SELECT (Composite c.0 ∷ Composite p.0 ∷ v ∷ []))) (sym q.1)
    (subst (HasResult (Several (repeated count (scalar_layout truths)))) (sym (selects_each c.0 p.0 q.0))
    (composed (repeated count (scalar_layout truths)) _ (selected_results (scalar_layout truths) count c.0 p.0 q.0 c.2 p.2 q.2)))))

-- ---- OpAny and OpAll

any_there : (n : ℕ) (parts : Parts) → layouts_in parts ≡ Some (repeated n OneTruth) → (b : Bool) × (any_true (list_of parts) ≡ Some b)
any_there zero parts have = subst (λ p. (b : Bool) × (any_true (list_of p) ≡ Some b)) (sym (no_parts parts have)) (false, refl)
any_there (suc n) parts have =
    let f = front_of parts OneTruth (repeated n OneTruth) have in let t = truth_of f.value f.has in let rest = any_there n f.rest f.behind in
    subst (λ p. (b : Bool) × (any_true (list_of p) ≡ Some b)) (sym f.is)
    (subst (λ v. (b : Bool) × (any_true (v ∷ list_of f.rest) ≡ Some b)) (sym t.1) (t.0 || rest.0, ap (option_map (λ rest. t.0 || rest)) rest.1))

all_there : (n : ℕ) (parts : Parts) → layouts_in parts ≡ Some (repeated n OneTruth) → (b : Bool) × (all_true (list_of parts) ≡ Some b)
all_there zero parts have = subst (λ p. (b : Bool) × (all_true (list_of p) ≡ Some b)) (sym (no_parts parts have)) (true, refl)
all_there (suc n) parts have =
    let f = front_of parts OneTruth (repeated n OneTruth) have in let t = truth_of f.value f.has in let rest = all_there n f.rest f.behind in
    subst (λ p. (b : Bool) × (all_true (list_of p) ≡ Some b)) (sym f.is)
    (subst (λ v. (b : Bool) × (all_true (v ∷ list_of f.rest) ≡ Some b)) (sym t.1) (t.0 && rest.0, ap (option_map (λ rest. t.0 && rest)) rest.1))

any_alone : (parts : Parts) → operation op.ANY (Composite parts ∷ []) ≡ option_map Truth (any_true (list_of parts))
unfolding operation
any_alone parts = refl

all_alone : (parts : Parts) → operation op.ALL (Composite parts ∷ []) ≡ option_map Truth (all_true (list_of parts))
unfolding operation
all_alone parts = refl

pub any_result : (count : ℕ) (vector : Value) → HasLayout (Several (repeated count OneTruth)) vector → HasResult OneTruth (operation op.ANY (vector ∷ []))
any_result count vector has =
    let p = several_of vector (repeated count OneTruth) has in let t = any_there count p.0 p.2 in
    subst (λ v. HasResult OneTruth (operation op.ANY (v ∷ []))) (sym p.1) (record { value = Truth t.0; is = any_alone p.0 ∙ ap (option_map Truth) t.1; has = refl })

pub all_result : (count : ℕ) (vector : Value) → HasLayout (Several (repeated count OneTruth)) vector → HasResult OneTruth (operation op.ALL (vector ∷ []))
all_result count vector has =
    let p = several_of vector (repeated count OneTruth) has in let t = all_there count p.0 p.2 in
    subst (λ v. HasResult OneTruth (operation op.ALL (v ∷ []))) (sym p.1) (record { value = Truth t.0; is = all_alone p.0 ∙ ap (option_map Truth) t.1; has = refl })
