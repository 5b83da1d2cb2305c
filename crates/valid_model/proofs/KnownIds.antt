-- What is known of an id, by the instruction that defines it.
use Rattle.std.proofs.Common.{◌≡◌, ℕ, zero, suc, ◌+◌, ◌<◌, Bool, true, false, ◌&&◌, ◌||◌, if◌then◌else◌, List, [], ◌∷◌, length, take, drop, refl, sym, ◌∙◌, ap, arith, take-append-drop, ◌⊎◌, inl, inr}
use Rattle.std.specs.Prelude.{is_some, is_none, Option, None, Some}
use Rattle.std.specs.Option.{option_map}
use Rattle.std.specs.List.{fold}
use Rattle.std.proofs.lemmas.List.Sums.{fold-append, fold_more}
use Rattle.spirv_model.specs.declared.module.Inst.{Inst}
use Rattle.valid_model.specs.declared.meaning.IdFacts.{IdFacts}
use Rattle.valid_model.specs.Definitions.{gives, definition, inst_at, no_instruction}
use Rattle.valid_model.specs.Knowledge.{Knowledge, nothing_known}
use Rattle.valid_model.specs.Meanings.{known_of, known_after, known_by, known_before}

-- ---- what is known stays

after_kept : (here : Bool) (before : Option IdFacts) (made known : IdFacts) → before ≡ Some known → (if here && is_none before then Some made else before) ≡ Some known
after_kept here None made known is = cc
after_kept true (Some own) made known is = is
after_kept false (Some own) made known is = is

kept : (insts : List Inst) (before : Knowledge) (id : ℕ) (known : IdFacts) → before id ≡ Some known → fold known_after before insts id ≡ Some known
unfolding known_after
kept [] before id known is = is
kept (inst ∷ insts) before id known is =
    kept insts (known_after before inst) id known (after_kept (gives id inst) (before id) (known_of before inst) known is)

by_parts : (insts : List Inst) (place : ℕ) → known_by insts ≡ fold known_after (known_by (take place insts)) (drop place insts)
unfolding known_by
by_parts insts place =
    ap (fold known_after nothing_known) (sym (take-append-drop place insts)) ∙ fold-append known_after nothing_known (take place insts) (drop place insts)

pub known_stays : (insts : List Inst) (place id : ℕ) (known : IdFacts) → known_before insts place id ≡ Some known → known_by insts id ≡ Some known
known_stays insts place id known is =
    ap (λ (k : Knowledge). k id) (by_parts insts place) ∙ kept (drop place insts) (known_before insts place) id known is

-- ---- an id is known where it is defined

seen_now : (here : Bool) (before : Option IdFacts) (made : IdFacts) (later : Option ℕ)
    → (is_some (if here && is_none before then Some made else before) || is_some later)
    ≡ (is_some before || is_some (if here then Some 0 else option_map (λ (place : ℕ). suc place) later))
seen_now true None made later = refl
seen_now true (Some known) made later = refl
seen_now false None made None = refl
seen_now false None made (Some place) = refl
seen_now false (Some known) made later = refl

nothing_later : (b : Bool) → b ≡ (b || false)
nothing_later true = refl
nothing_later false = refl

seen : (insts : List Inst) (before : Knowledge) (id : ℕ) → is_some (fold known_after before insts id) ≡ (is_some (before id) || is_some (definition insts id))
unfolding known_after definition
seen [] before id = nothing_later (is_some (before id))
seen (inst ∷ insts) before id =
    seen insts (known_after before inst) id ∙ seen_now (gives id inst) (before id) (known_of before inst) (definition insts id)

none_by : {T : Type 0} (found : Option T) → is_some found ≡ false → found ≡ None
none_by None no_one = refl
none_by (Some x) no_one = cc

pub unknown_without_definition : (insts : List Inst) (id : ℕ) → definition insts id ≡ None → known_by insts id ≡ None
unfolding known_by
unknown_without_definition insts id is = none_by (known_by insts id) (seen insts nothing_known id ∙ ap is_some is)

-- ---- what is known of an id is what its definition makes known of it

at_front : (here : Bool) (later : Option ℕ) (place : ℕ) → (if here then Some 0 else option_map (λ (n : ℕ). suc n) later) ≡ Some place
    → ((here ≡ true) × (place ≡ 0)) ⊎ ((here ≡ false) × (before : ℕ) × (later ≡ Some before) × (place ≡ suc before))
at_front true later place is = inl (refl, cc)
at_front false None place is = cc
at_front false (Some before) place is = inr (refl, before, refl, cc)

not_at_front : (here : Bool) (later : Option ℕ) → here ≡ false → later ≡ None → (if here then Some 0 else option_map (λ (n : ℕ). suc n) later) ≡ None
not_at_front true later past none = cc
not_at_front false later past none = ap (option_map (λ (n : ℕ). suc n)) none

before_definition : (insts : List Inst) (id place : ℕ) → definition insts id ≡ Some place
    → (place < length insts) × (gives id (inst_at insts place) ≡ true) × (definition (take place insts) id ≡ None)
unfolding definition
before_definition [] id place is = cc
before_definition (inst ∷ insts) id zero is =
    elim (at_front (gives id inst) (definition insts id) 0 is) [
      | inl (here, at) ↦ (omega arith, here, refl)
      | inr (past, before, same, at) ↦ absurd (omega (arith, at))
    ]
before_definition (inst ∷ insts) id (suc place) is =
    elim (at_front (gives id inst) (definition insts id) (suc place) is) [
      | inl (here, at) ↦ absurd (omega (arith, at))
      | inr (past, before, same, at) ↦
          let rest = before_definition insts id place (same ∙ ap (λ (n : ℕ). Some n) {x = before} {y = place} (omega (arith, at))) in
          (omega (arith, rest.0), rest.1, not_at_front (gives id inst) (definition (take place insts) id) past rest.2)
    ]

known_after_definition : (here : Bool) (before : Option IdFacts) (made : IdFacts) → here ≡ true → before ≡ None → (if here && is_none before then Some made else before) ≡ Some made
known_after_definition true None made is none = refl
known_after_definition true (Some known) made is none = cc
known_after_definition false before made is none = cc

pub known_by_definition : (insts : List Inst) (id place : ℕ) → definition insts id ≡ Some place
    → known_by insts id ≡ Some (known_of (known_before insts place) (inst_at insts place))
unfolding known_by known_after
known_by_definition insts id place is =
    let at = before_definition insts id place is in
    known_stays insts (place + 1) id _
    (ap (λ (k : Knowledge). k id) (fold_more known_after nothing_known insts place no_instruction at.0)
    ∙ known_after_definition (gives id (inst_at insts place)) (known_before insts place id) (known_of (known_before insts place) (inst_at insts place))
    at.1 (unknown_without_definition (take place insts) id at.2))
