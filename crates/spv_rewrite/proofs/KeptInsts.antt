-- Instructions that stay, and what is written of a list.
use Rattle.std.proofs.Common.{◌≡◌, ℕ, ◌+◌, ◌-◌, ◌<◌, ◌≤◌, ◌==◌, Bool, true, false, if◌then◌else◌, List, ◌++◌, length, take, refl, ap, sym, ◌∙◌, subst}
use Rattle.std.specs.Prelude.{Result, Ok, Err, IfOk}
use Rattle.std.specs.List.{flat_map, range_with_len}
use Rattle.std.proofs.lemmas.Bool.{eq-eqb, ne_eqb}
use Rattle.spirv_model.specs.declared.module.Inst.{Inst}
use Rattle.spirv_model.specs.declared.module.Words.{Words}
use Rattle.spirv_model.specs.declared.op.TheConstants as op
use Rattle.spirv_model.specs.Operands.{words_from, kinds}
use Rattle.valid_model.specs.Definitions.{inst_at}
use Rattle.check_model.specs.Validity.{IsValidList}
use Rattle.change_model.specs.declared.fate.Fate.{Fate}
use Rattle.change_model.specs.Folding.{function_at}
use Rattle.change_model.specs.Plans.{predecessors_left, renamed_by, phi_left, block_at, kept_at, written_at, constant_as, constant_at, later_places, changed, fate_in, name_in, plan_of}
use Rattle.id_table.specs.Tables.{at}
use Rattle.spv_rewrite.specs.declared.change.Change.{Change}
use Rattle.spv_rewrite.specs.Changes.{plan_in, IsOfModule}
use Rattle.spv_rewrite.specs.PhiPairs.{is_left, pairs_by}
use Rattle.spv_rewrite.proofs.Fronts.{one_more}
use Rattle.spv_rewrite.proofs.Pairs.{phi_same}

choose : (b : Bool) (x y : Inst) → b ≡ true → (if b then x else y) ≡ x
choose true x y is = refl
choose false x y is = cc

pass : (b : Bool) (x y : Inst) → b ≡ false → (if b then x else y) ≡ y
pass true x y isnt = cc
pass false x y isnt = refl

abbrev pub with_words : Inst → List ℕ → Inst
with_words inst words = record { op = inst.op; words = words }

pub kept_phi : (change : Change) (known : IsOfModule change) (place label : ℕ) (inst : Inst) (words : List ℕ) → place < length change.insts.now → inst ≡ inst_at change.insts.now place → inst.op ≡ op.PHI
    → label ≡ block_at change.insts.now place
    → words ≡ take 2 inst.words ++ pairs_by (name_in change.names.now) (λ block. is_left change.fates.now label (at change.ends block)) (words_from 2 inst)
    → with_words inst words ≡ kept_at (plan_in change) change.insts.now place (inst_at change.insts.now place)
kept_phi change known place label inst words within same phi so made =
    let x = inst_at change.insts.now place in
    let is : x.op == op.PHI ≡ true = eq-eqb x.op op.PHI (ap (λ (i : Inst). i.op) (sym same) ∙ phi) in
    ap (λ (i : Inst). with_words i words) same
    ∙ ap (with_words x)
    (made ∙ ap (λ (i : Inst). take 2 i.words ++ pairs_by (name_in change.names.now) (λ block. is_left change.fates.now label (at change.ends block)) (words_from 2 i)) same
    ∙ sym (phi_same change known place label within is so))
    ∙ sym (choose (x.op == op.PHI) (phi_left (name_in change.names.now) (predecessors_left (plan_in change) change.insts.now (block_at change.insts.now place)) x) (with_words x (renamed_by (name_in change.names.now) (kinds x) x.words)) is)

pub kept_other : (change : Change) (place : ℕ) (inst : Inst) (words : List ℕ) → inst ≡ inst_at change.insts.now place → (inst.op ≡ op.PHI → ⊥)
    → words ≡ renamed_by (name_in change.names.now) (kinds inst) inst.words → with_words inst words ≡ kept_at (plan_in change) change.insts.now place (inst_at change.insts.now place)
kept_other change place inst words same isnt made =
    let x = inst_at change.insts.now place in
    let no : x.op == op.PHI ≡ false = ne_eqb x.op op.PHI (λ phi. isnt (ap (λ (i : Inst). i.op) same ∙ phi)) in
    ap (λ (i : Inst). with_words i words) same ∙ ap (with_words x) (made ∙ ap (λ (i : Inst). renamed_by (name_in change.names.now) (kinds i) i.words) same)
    ∙ sym (pass (x.op == op.PHI) (phi_left (name_in change.names.now) (predecessors_left (plan_in change) change.insts.now (block_at change.insts.now place)) x) (with_words x (renamed_by (name_in change.names.now) (kinds x) x.words)) no)

-- ---- place by place

pub constant_more : (change : Change) (first place : ℕ) (start old new : List Inst) (inst : Inst) (fate : Fate) → first ≤ place → inst ≡ inst_at change.insts.now place → fate ≡ fate_in change.fates.now place
    → old ≡ start ++ flat_map (constant_at (plan_in change) change.insts.now) (range_with_len first (place - first)) → new ≡ old ++ constant_as inst fate
    → new ≡ start ++ flat_map (constant_at (plan_in change) change.insts.now) (range_with_len first (place + 1 - first))
unfolding constant_at
constant_more change first place start old new inst fate least same so front more =
    one_more (constant_at (plan_in change) change.insts.now) first place start old new least front
    (more ∙ ap (λ (i : Inst). old ++ constant_as i fate) same ∙ ap (λ (f : Fate). old ++ constant_as (inst_at change.insts.now place) f) so)

pub all_places : (f : ℕ → List Inst) (insts : List Inst) (first place : ℕ) (start now : List Inst) → first ≡ function_at insts → place ≡ length insts
    → now ≡ start ++ flat_map f (range_with_len first (place - first)) → now ≡ start ++ flat_map f (later_places insts)
all_places f insts first place start now is whole so =
    so ∙ ap (λ (n : ℕ). start ++ flat_map f (range_with_len n (place - n))) is ∙ ap (λ (n : ℕ). start ++ flat_map f (range_with_len (function_at insts) (n - function_at insts))) whole

-- ---- the whole list

pub changed_any : (fates : List Fate) (names : List ℕ) (is_unread : ℕ → Bool) (insts : List Inst) → changed (plan_of fates names (λ _. false)) insts ≡ changed (plan_of fates names is_unread) insts
unfolding changed constant_at written_at predecessors_left
changed_any fates names is_unread insts = refl

pub for_any : {E : Type 0} (result : Result (List Inst) E) (fates : List Fate) (names : List ℕ) (insts given : List Inst) → insts ≡ given
    → IfOk result (λ list. list ≡ changed (plan_of fates names (λ _. false)) insts) → IfOk result (λ list. (is_unread : ℕ → Bool) → list ≡ changed (plan_of fates names is_unread) given)
for_any (Ok list) fates names insts given same is = λ is_unread. is ∙ changed_any fates names is_unread insts ∙ ap (changed (plan_of fates names is_unread)) same
for_any (Err e) fates names insts given same is = tt

pub valid_parts : (words : Words) → IsValidList words → (bound : ℕ) (insts : List Inst) → bound ≡ words.bound → insts ≡ words.insts → IsValidList (record { bound = bound; insts = insts })
valid_parts words v bound insts b i =
    subst (λ (n : ℕ). IsValidList (record { bound = n; insts = insts })) (sym b) (subst (λ (l : List Inst). IsValidList (record { bound = words.bound; insts = l })) (sym i) v)
