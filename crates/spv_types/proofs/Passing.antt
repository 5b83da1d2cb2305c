-- One more instruction, as the loops over a module's instructions meet it.
use Rattle.std.proofs.Common.{◌≡◌, ℕ, zero, suc, ◌+◌, ◌<◌, ◌≤◌, Bool, true, false, if◌then◌else◌, List, [], ◌∷◌, length, take, get_or, refl, sym, ◌∙◌, ap, arith}
use Rattle.std.specs.Prelude.{Option, None, Some}
use Rattle.std.specs.Option.{option_map}
use Rattle.std.proofs.Math.Path.{fun_ext}
use Rattle.std.proofs.Math.ListN.{get_or-eq_default}
use Rattle.std.proofs.lemmas.List.{get_or_default}
use Rattle.std.proofs.lemmas.List.Sums.{fold_more}
use Rattle.spirv_model.specs.declared.module.Inst.{Inst}
use Rattle.valid_model.specs.Definitions.{gives, definition, inst_at, no_instruction}
use Rattle.valid_model.specs.Knowledge.{Knowledge, nothing_known}
use Rattle.valid_model.specs.Meanings.{known_after, known_by}
use Rattle.spv_types.specs.Tables.{first_place}

pub inst_past : (insts : List Inst) (place : ℕ) → length insts ≤ place → inst_at insts place ≡ no_instruction
inst_past insts place past = get_or-eq_default insts no_instruction past

pub inst_within : (insts : List Inst) (place : ℕ) (d : Inst) → place < length insts → get_or insts place d ≡ inst_at insts place
inst_within insts place d within = get_or_default insts place d no_instruction within

pub known_more : (insts : List Inst) (place : ℕ) → place < length insts → known_by (take (place + 1) insts) ≡ known_after (known_by (take place insts)) (inst_at insts place)
unfolding known_by
known_more insts place within = fold_more known_after nothing_known insts place no_instruction within

pub known_step : (insts : List Inst) (place : ℕ) (before after : Knowledge) (inst : Inst) → place < length insts
    → before ≡ known_by (take place insts) → inst ≡ inst_at insts place → ((id : ℕ) → after id ≡ known_after before inst id)
    → after ≡ known_by (take (place + 1) insts)
known_step insts place before after inst within same here more =
    fun_ext more ∙ ap (λ (k : Knowledge). known_after k inst) same ∙ ap (known_after (known_by (take place insts))) here
    ∙ sym (known_more insts place within)

-- ---- places of definitions

moved : (found : Option ℕ) (here : Bool) (place : ℕ) → option_map (λ (at : ℕ). suc at) (first_place found here place) ≡ first_place (option_map (λ (at : ℕ). suc at) found) here (suc place)
moved (Some at) here place = refl
moved None true place = refl
moved None false place = refl

either : (first : Bool) (now found : Option ℕ) (here : Bool) (place : ℕ) → now ≡ first_place found here place
    → (if first then Some 0 else option_map (λ (at : ℕ). suc at) now) ≡ first_place (if first then Some 0 else option_map (λ (at : ℕ). suc at) found) here (suc place)
either true now found here place same = refl
either false now found here place same = ap (option_map (λ (at : ℕ). suc at)) same ∙ moved found here place

alone : (first : Bool) → (if first then Some 0 else None) ≡ first_place None first 0
alone true = refl
alone false = refl

next_definition : (insts : List Inst) (id place : ℕ) → place < length insts
    → definition (take (suc place) insts) id ≡ first_place (definition (take place insts) id) (gives id (inst_at insts place)) place
unfolding definition
next_definition [] id place within = absurd (omega arith)
next_definition (inst ∷ insts) id zero within = alone (gives id inst)
next_definition (inst ∷ insts) id (suc place) within =
    either (gives id inst) _ _ _ place (next_definition insts id place (omega arith))

pub definition_more : (insts : List Inst) (id place : ℕ) (before after : Option ℕ) (inst : Inst) → place < length insts
    → before ≡ definition (take place insts) id → inst ≡ inst_at insts place → after ≡ first_place before (gives id inst) place
    → after ≡ definition (take (place + 1) insts) id
definition_more insts id place before after inst within same here more =
    more ∙ ap (λ (o : Option ℕ). first_place o (gives id inst) place) same
    ∙ ap (λ (i : Inst). first_place (definition (take place insts) id) (gives id i) place) here
    ∙ sym (next_definition insts id place within) ∙ ap (λ (n : ℕ). definition (take n insts) id) {x = suc place} {y = place + 1} (omega arith)
