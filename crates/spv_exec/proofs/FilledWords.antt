-- What the memory holds after words are filled in.
use Rattle.std.proofs.Common.{◌≡◌, ◌≢◌, ℕ, zero, suc, ◌+◌, ◌-◌, ◌<◌, ◌≤◌, ◌==◌, inl, inr, Bool, true, false, if◌then◌else◌, List, [], ◌∷◌, ◌++◌, length, take, get_or, refl, ap, sym, ◌∙◌, subst, arith, Option, None, Some}
use Rattle.std.specs.Prelude.{slice_index}
use Rattle.std.specs.List.{fold}
use Rattle.std.proofs.lemmas.Bool.{cases_lt}
use Rattle.std.proofs.lemmas.Bool.Decides.{nat_tests}
use Rattle.std.proofs.lemmas.List.{append-nil}
use Rattle.std.proofs.lemmas.List.Sums.{fold-append, fold_more}
use Rattle.state_model.specs.declared.buffers.Buffers.{Buffers}
use Rattle.stage_model.specs.declared.inputs.Inputs.{Inputs}
use Rattle.stage_model.specs.Start.{option_word}
use Rattle.spv_exec.specs.declared.variables.Fill.{Fill}
use Rattle.spv_exec.specs.declared.origins.Origin.{Origin}
use Rattle.spv_exec.specs.Origins.{index_of, origin_word}
use Rattle.spv_exec.specs.Variables.{filled_by, filled, AddsWords, one_fill}

-- one more word
pub filled_one_more : (inputs : Inputs) (buffers : Buffers) (fills : List Fill) (fill : Fill) (at : ℕ) → filled inputs buffers (fills ++ fill ∷ []) at ≡ filled_by inputs buffers at (filled inputs buffers fills at) fill
unfolding filled
filled_one_more inputs buffers fills fill at = fold-append (filled_by inputs buffers at) 0 fills (fill ∷ [])

pub filled_none : (inputs : Inputs) (buffers : Buffers) (at : ℕ) → filled inputs buffers [] at ≡ 0
unfolding filled
filled_none inputs buffers at = refl

pub filled_next : (inputs : Inputs) (buffers : Buffers) (fills : List Fill) (i at : ℕ) (fill : Fill) → i < length fills → filled inputs buffers (take (i + 1) fills) at ≡ filled_by inputs buffers at (filled inputs buffers (take i fills) at) (get_or fills i fill)
unfolding filled
filled_next inputs buffers fills i at fill within = fold_more (filled_by inputs buffers at) 0 fills i fill within

chosen : (a b : ℕ) (x y : ℕ) → a ≡ b → (if a == b then x else y) ≡ x
chosen a b x y is = grind (arith, nat_tests)

unchosen : (a b : ℕ) (x y : ℕ) → a ≢ b → (if a == b then x else y) ≡ y
unchosen a b x y isnt = grind (arith, nat_tests)

-- ---- the words of a variable, up to a place

pub adds_none : (origin : Origin) (offsets : List ℕ) (start : ℕ) (fills : List Fill) → AddsWords origin offsets start start fills fills
adds_none origin offsets start fills = record { before = λ inputs buffers at less. refl; held = λ inputs buffers k less. absurd (omega (arith, less)); beyond = λ inputs buffers at past more. refl }

-- nothing is filled in at the next place
pub adds_nothing : (origin : Origin) (offsets : List ℕ) (start at : ℕ) (old fills : List Fill) → start ≤ at → index_of origin offsets (at - start) ≡ None → AddsWords origin offsets start at old fills → AddsWords origin offsets start (at + 1) old fills
adds_nothing origin offsets start at old fills low none adds = record {
  before = adds.before;
  held = λ inputs buffers k less clear. elim (cases_lt (start + k) at) [
    | inl early ↦ adds.held inputs buffers k early clear
    | inr late ↦
        let e : start + k ≡ at = omega (arith, less, late) in
        adds.beyond inputs buffers (start + k) late (omega arith) ∙ clear ∙ sym (ap (option_word (origin_word inputs buffers origin)) (ap (index_of origin offsets) {x = k} {y = at - start} (omega (arith, e)) ∙ none))
  ];
  beyond = λ inputs buffers other past more. adds.beyond inputs buffers other (omega (arith, past)) more;
}

-- a word is filled in there
pub adds_word : (origin : Origin) (offsets : List ℕ) (start at index : ℕ) (old fills new : List Fill) (fill : Fill) → start ≤ at → index_of origin offsets (at - start) ≡ Some index → fill.at ≡ at → fill.index ≡ index → fill.origin ≡ origin
    → new ≡ fills ++ fill ∷ [] → AddsWords origin offsets start at old fills → AddsWords origin offsets start (at + 1) old new
adds_word origin offsets start at index old fills new fill low some is_at is_index is_origin is_new adds =
    let more : (inputs : Inputs) (buffers : Buffers) (other : ℕ) → filled inputs buffers new other ≡ filled_by inputs buffers other (filled inputs buffers fills other) fill
    = λ inputs buffers other. ap (λ (l : List Fill). filled inputs buffers l other) is_new ∙ filled_one_more inputs buffers fills fill other in
    let other_than : (inputs : Inputs) (buffers : Buffers) (other : ℕ) → at ≢ other → filled inputs buffers new other ≡ filled inputs buffers fills other
    = λ inputs buffers other isnt. more inputs buffers other ∙ unchosen fill.at other (origin_word inputs buffers fill.origin fill.index) (filled inputs buffers fills other) (λ e. isnt (sym is_at ∙ e)) in
    record {
      before = λ inputs buffers other less. other_than inputs buffers other (λ e. omega (arith, e, less, low)) ∙ adds.before inputs buffers other less;
      held = λ inputs buffers k less clear. elim (cases_lt (start + k) at) [
        | inl early ↦ other_than inputs buffers (start + k) (λ e. omega (arith, e, early)) ∙ adds.held inputs buffers k early clear
        | inr late ↦
            let e : start + k ≡ at = omega (arith, less, late) in
            more inputs buffers (start + k) ∙ chosen fill.at (start + k) (origin_word inputs buffers fill.origin fill.index) (filled inputs buffers fills (start + k)) (is_at ∙ sym e)
            ∙ ap (λ (o : Origin). origin_word inputs buffers o fill.index) is_origin ∙ ap (origin_word inputs buffers origin) is_index
            ∙ sym (ap (option_word (origin_word inputs buffers origin)) (ap (index_of origin offsets) {x = k} {y = at - start} (omega (arith, e)) ∙ some))
      ];
      beyond = λ inputs buffers other past more. other_than inputs buffers other (λ e. omega (arith, e, past)) ∙ adds.beyond inputs buffers other (omega (arith, past)) more;
    }

pub adds_more : (origin : Origin) (offsets : List ℕ) (start at : ℕ) (old fills new : List Fill) (index : Option ℕ) → start ≤ at → index ≡ index_of origin offsets (at - start) → new ≡ fills ++ one_fill origin at index → AddsWords origin offsets start at old fills
    → AddsWords origin offsets start (at + 1) old new
adds_more origin offsets start at old fills new None low is is_new adds =
    subst (λ (l : List Fill). AddsWords origin offsets start (at + 1) old l) (sym (append-nil fills) ∙ sym is_new) (adds_nothing origin offsets start at old fills low (sym is) adds)
adds_more origin offsets start at old fills new (Some index) low is is_new adds =
    adds_word origin offsets start at index old fills new (record { at = at; index = index; origin = origin }) low (sym is) refl refl refl is_new adds

-- ---- all of the memory

pub cleared : (inputs : Inputs) (buffers : Buffers) (at word : ℕ) → word ≡ 0 → word ≡ filled inputs buffers [] at
cleared inputs buffers at word is = is ∙ sym (filled_none inputs buffers at)

pub filled_more : (inputs : Inputs) (buffers : Buffers) (fills : List Fill) (i at word : ℕ) (memory new : List ℕ) (default : Fill) → i < length fills → word ≡ origin_word inputs buffers (get_or fills i default).origin (get_or fills i default).index
    → slice_index new at ≡ (if (get_or fills i default).at == at then word else slice_index memory at) → slice_index memory at ≡ filled inputs buffers (take i fills) at → slice_index new at ≡ filled inputs buffers (take (i + 1) fills) at
filled_more inputs buffers fills i at word memory new default within is_word is_new before =
    is_new ∙ ap (λ (w : ℕ). if (get_or fills i default).at == at then w else slice_index memory at) is_word ∙ ap (λ (w : ℕ). filled_by inputs buffers at w (get_or fills i default)) before
    ∙ sym (filled_next inputs buffers fills i at default within)
