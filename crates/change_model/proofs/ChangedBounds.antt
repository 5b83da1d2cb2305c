-- The ids of what a plan writes are below the bound.
use Rattle.std.proofs.Common.{◌≡◌, ℕ, ◌<◌, ◌%◌, ◌==◌, ◌&&◌, ◌⊎◌, not, nat_lt, inl, inr, Bool, true, false, if◌then◌else◌, List, [], ◌∷◌, ◌++◌, length, take, drop, map, refl, ap, sym, ◌∙◌, Option, None, Some}
use Rattle.std.specs.Prelude.{is_some}
use Rattle.std.specs.Option.{option_map}
use Rattle.std.specs.List.{list_all}
use Rattle.spirv_model.specs.declared.module.Inst.{Inst}
use Rattle.spirv_model.specs.declared.op.TheConstants as op
use Rattle.spirv_model.specs.declared.table.Operand.{Operand}
use Rattle.spirv_model.specs.declared.table.Operand.TheVariants.{IdResultType, IdResult, IdRef, LiteralInteger, Fixed, LiteralString}
use Rattle.spirv_model.specs.Operands.{words_from, entry_of, class_of, kinds_in, kinds, ids_among, ids_by, ids, result}
use Rattle.body_model.specs.Switches.{is_among}
use Rattle.valid_model.specs.Definitions.{inst_at, definition, id_out_of_bound}
use Rattle.typed_model.proofs.SilentSteps.{given_id}
use Rattle.typed_model.proofs.TypedSteps.{gives_at}
use Rattle.typed_model.proofs.ValidModules.{valid_sound}
use Rattle.typed_model.proofs.ValidTypes.{defined_within}
use Rattle.change_model.specs.declared.fate.Fate.TheVariants.{Resolves}
use Rattle.change_model.specs.Plans.{Plan, renamed_words, renamed_by, pairs_left, kept_at, phi_left, predecessors_left, block_at}
use Rattle.change_model.specs.PlanRules.{IsResolvedId}
use Rattle.change_model.proofs.BehindLevel.{is_setting_class}
use Rattle.change_model.proofs.ConstantsSound.{keeps_all}
use Rattle.change_model.proofs.KindsByLength.{same_kinds, renamed_long}
use Rattle.change_model.proofs.Planned.{Planned, inside, fits_there}
use Rattle.change_model.proofs.ResultsAmongIds.{true_of_result}
use Rattle.change_model.proofs.Settlings.{op_is}

-- ---- ids of the old list

abbrev pub is_in_bound : ℕ → ℕ → Bool
is_in_bound bound id = nat_lt 0 id && nat_lt id bound

not_false : (b : Bool) → not b ≡ false → b ≡ true
not_false true is = refl
not_false false is = cc

pub ids_bounded : (g : Planned) (place : ℕ) → place < length g.words.insts → list_all (is_in_bound g.words.bound) (ids (inst_at g.words.insts place)) ≡ true
unfolding id_out_of_bound
ids_bounded g place within = not_false (list_all (is_in_bound g.words.bound) (ids (inst_at g.words.insts place))) (keeps_all g.words g.valid.sound place within).inside

defined_bounded : (g : Planned) (id place : ℕ) → definition g.words.insts id ≡ Some place → is_in_bound g.words.bound id ≡ true
defined_bounded g id place at =
    let within = defined_within g.words.insts id place at in
    true_of_result (is_in_bound g.words.bound) (inst_at g.words.insts place) id ((valid_sound g.words g.valid).shaped place within) (ids_bounded g place within)
    (given_id id (result (inst_at g.words.insts place)) (gives_at g.words.insts id place at))

-- another name is an id that is defined
pub name_bounded : (g : Planned) (id : ℕ) → is_in_bound g.words.bound id ≡ true → is_in_bound g.words.bound (g.plan.name id) ≡ true
name_bounded g id is = by_name (g.is.names id)
  where
    by_name : (g.plan.name id ≡ id) ⊎ IsResolvedId g.plan g.words.insts id → is_in_bound g.words.bound (g.plan.name id) ≡ true
    by_name (inl same) = ap (is_in_bound g.words.bound) same ∙ is
    by_name (inr r) =
        let f = fits_there g r.place Resolves r.resolves (inside g r.place Resolves r.resolves refl) in
        ap (is_in_bound g.words.bound) (ap g.plan.name (sym r.own) ∙ f.stands) ∙ defined_bounded g (g.plan.name f.pair.value) f.at f.defined

-- ---- operands

first_of : (a b : Bool) → (a && b) ≡ true → (a ≡ true) × (b ≡ true)
first_of true b is = (refl, is)
first_of false b is = cc

both_of : (a b : Bool) → a ≡ true → b ≡ true → (a && b) ≡ true
both_of true b is also = also
both_of false b is also = cc

-- a test that names keep
abbrev KeepsTest : (ℕ → Bool) → (ℕ → ℕ) → Type 0
KeepsTest ok name = (id : ℕ) → ok id ≡ true → ok (name id) ≡ true

renamed_ok : (ok : ℕ → Bool) (name : ℕ → ℕ) → KeepsTest ok name → (found : List Operand) (words : List ℕ) → list_all ok (ids_among found words) ≡ true → list_all ok (ids_among found (renamed_words name found words)) ≡ true
renamed_ok ok name keeps [] words all = refl
renamed_ok ok name keeps (kind ∷ found) [] all = refl
renamed_ok ok name keeps (IdRef ∷ found) (word ∷ words) all =
    let f = first_of (ok word) (list_all ok (ids_among found words)) all in
    both_of (ok (name word)) (list_all ok (ids_among found (renamed_words name found words))) (keeps word f.0) (renamed_ok ok name keeps found words f.1)
renamed_ok ok name keeps (IdResultType ∷ found) (word ∷ words) all =
    let f = first_of (ok word) (list_all ok (ids_among found words)) all in
    both_of (ok word) (list_all ok (ids_among found (renamed_words name found words))) f.0 (renamed_ok ok name keeps found words f.1)
renamed_ok ok name keeps (IdResult ∷ found) (word ∷ words) all =
    let f = first_of (ok word) (list_all ok (ids_among found words)) all in
    both_of (ok word) (list_all ok (ids_among found (renamed_words name found words))) f.0 (renamed_ok ok name keeps found words f.1)
renamed_ok ok name keeps (LiteralInteger ∷ found) (word ∷ words) all = renamed_ok ok name keeps found words all
renamed_ok ok name keeps (Fixed expected ∷ found) (word ∷ words) all = renamed_ok ok name keeps found words all
renamed_ok ok name keeps (LiteralString ∷ found) (word ∷ words) all = renamed_ok ok name keeps found words all

renamed_all : (ok : ℕ → Bool) (name : ℕ → ℕ) → KeepsTest ok name → (found : Option (List Operand)) (words : List ℕ) → list_all ok (ids_by found words) ≡ true → list_all ok (ids_by found (renamed_by name found words)) ≡ true
renamed_all ok name keeps None words all = refl
renamed_all ok name keeps (Some found) words all = renamed_ok ok name keeps found words all

renamed_bounded : (ok : ℕ → Bool) (name : ℕ → ℕ) → KeepsTest ok name → (inst : Inst) → is_setting_class (class_of inst.op) ≡ false → list_all ok (ids inst) ≡ true
    → list_all ok (ids (record inst { words = renamed_by name (kinds inst) inst.words })) ≡ true
unfolding ids kinds
renamed_bounded ok name keeps inst isnt all =
    let found = kinds_in (entry_of inst.op) inst.words in
    ap (λ (k : Option (List Operand)). list_all ok (ids_by k (renamed_by name found inst.words)))
    (same_kinds inst.op (renamed_by name found inst.words) inst.words isnt (renamed_long name found inst.words))
    ∙ renamed_all ok name keeps found inst.words all

-- ---- phis

refs_all : (ok : ℕ → Bool) (words : List ℕ) → list_all ok (ids_among (map (λ (_ : ℕ). IdRef) words) words) ≡ list_all ok words
refs_all ok [] = refl
refs_all ok (word ∷ words) = ap (λ (b : Bool). ok word && b) (refs_all ok words)

pairs_ok : (ok : ℕ → Bool) (name : ℕ → ℕ) → KeepsTest ok name → (blocks words : List ℕ) → list_all ok words ≡ true → list_all ok (pairs_left name blocks words) ≡ true
pairs_ok ok name keeps blocks [] all = refl
pairs_ok ok name keeps blocks (value ∷ []) all = refl
pairs_ok ok name keeps blocks (value ∷ block ∷ words) all =
    let f = first_of (ok value) (ok block && list_all ok words) all in
    let s = first_of (ok block) (list_all ok words) f.1 in
    by_test (is_among block blocks) (keeps value f.0) s.0 (pairs_ok ok name keeps blocks words s.1)
  where
    by_test : (b : Bool) → ok (name value) ≡ true → ok block ≡ true → list_all ok (pairs_left name blocks words) ≡ true
        → list_all ok (if b then name value ∷ block ∷ pairs_left name blocks words else pairs_left name blocks words) ≡ true
    by_test true first second rest = both_of (ok (name value)) (ok block && list_all ok (pairs_left name blocks words)) first (both_of (ok block) (list_all ok (pairs_left name blocks words)) second rest)
    by_test false first second rest = rest

phi_all : (ok : ℕ → Bool) (name : ℕ → ℕ) → KeepsTest ok name → (blocks words : List ℕ) → is_some (kinds_in (entry_of op.PHI) words) ≡ true → list_all ok (ids_by (kinds_in (entry_of op.PHI) words) words) ≡ true
    → list_all ok (ids_by (kinds_in (entry_of op.PHI) (take 2 words ++ pairs_left name blocks (drop 2 words))) (take 2 words ++ pairs_left name blocks (drop 2 words))) ≡ true
unfolding entry_of
phi_all ok name keeps blocks [] fits all = cc
phi_all ok name keeps blocks (a ∷ []) fits all = cc
phi_all ok name keeps blocks (a ∷ b ∷ words) fits all = by_old (length words % 2 == 0) fits all
  where
    pairs : List ℕ
    pairs = pairs_left name blocks words

    by_new : (even : Bool) → ok a ≡ true → ok b ≡ true → list_all ok (pairs_left name blocks words) ≡ true
        → list_all ok (ids_by (option_map (λ (k : List Operand). IdResultType ∷ k) (option_map (λ (k : List Operand). IdResult ∷ k) (if even then Some (map (λ (_ : ℕ). IdRef) (pairs_left name blocks words)) else None)))
        (a ∷ b ∷ pairs_left name blocks words)) ≡ true
    by_new true first second rest =
        both_of (ok a) (ok b && list_all ok (ids_among (map (λ (_ : ℕ). IdRef) (pairs_left name blocks words)) (pairs_left name blocks words))) first
        (both_of (ok b) (list_all ok (ids_among (map (λ (_ : ℕ). IdRef) (pairs_left name blocks words)) (pairs_left name blocks words))) second (refs_all ok (pairs_left name blocks words) ∙ rest))
    by_new false first second rest = refl

    by_old : (even : Bool) → is_some (option_map (λ (k : List Operand). IdResultType ∷ k) (option_map (λ (k : List Operand). IdResult ∷ k) (if even then Some (map (λ (_ : ℕ). IdRef) words) else None))) ≡ true
        → list_all ok (ids_by (option_map (λ (k : List Operand). IdResultType ∷ k) (option_map (λ (k : List Operand). IdResult ∷ k) (if even then Some (map (λ (_ : ℕ). IdRef) words) else None))) (a ∷ b ∷ words)) ≡ true
        → list_all ok (ids_by (option_map (λ (k : List Operand). IdResultType ∷ k) (option_map (λ (k : List Operand). IdResult ∷ k) (if length (pairs_left name blocks words) % 2 == 0 then Some (map (λ (_ : ℕ). IdRef) (pairs_left name blocks words)) else None)))
        (a ∷ b ∷ pairs_left name blocks words)) ≡ true
    by_old true fits all =
        let f = first_of (ok a) (ok b && list_all ok (ids_among (map (λ (_ : ℕ). IdRef) words) words)) all in
        let s = first_of (ok b) (list_all ok (ids_among (map (λ (_ : ℕ). IdRef) words) words)) f.1 in
        by_new (length (pairs_left name blocks words) % 2 == 0) f.0 s.0 (pairs_ok ok name keeps blocks words (sym (refs_all ok words) ∙ s.1))
    by_old false fits all = cc

phi_bounded : (ok : ℕ → Bool) (name : ℕ → ℕ) → KeepsTest ok name → (blocks : List ℕ) (inst : Inst) → inst.op ≡ op.PHI → is_some (kinds inst) ≡ true → list_all ok (ids inst) ≡ true → list_all ok (ids (phi_left name blocks inst)) ≡ true
unfolding ids kinds
phi_bounded ok name keeps blocks inst is fits all =
    let words = take 2 inst.words ++ pairs_left name blocks (words_from 2 inst) in
    ap (λ (o : ℕ). list_all ok (ids_by (kinds_in (entry_of o) words) words)) is
    ∙ phi_all ok name keeps blocks inst.words (ap (λ (o : ℕ). is_some (kinds_in (entry_of o) inst.words)) (sym is) ∙ fits)
    (ap (λ (o : ℕ). list_all ok (ids_by (kinds_in (entry_of o) inst.words) inst.words)) (sym is) ∙ all)

pub kept_bounded : (ok : ℕ → Bool) (plan : Plan) (insts : List Inst) (place : ℕ) (inst : Inst) → KeepsTest ok plan.name → is_setting_class (class_of inst.op) ≡ false → is_some (kinds inst) ≡ true → list_all ok (ids inst) ≡ true
    → list_all ok (ids (kept_at plan insts place inst)) ≡ true
kept_bounded ok plan insts place inst keeps isnt fits all = by_test (inst.op == op.PHI) refl
  where
    blocks : List ℕ
    blocks = predecessors_left plan insts (block_at insts place)

    by_test : (b : Bool) → inst.op == op.PHI ≡ b → list_all ok (ids (if b then phi_left plan.name blocks inst else record inst { words = renamed_by plan.name (kinds inst) inst.words })) ≡ true
    by_test true is = phi_bounded ok plan.name keeps blocks inst (op_is inst.op op.PHI is) fits all
    by_test false is = renamed_bounded ok plan.name keeps inst isnt all
