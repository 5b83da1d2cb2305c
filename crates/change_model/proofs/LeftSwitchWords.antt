-- An OpSwitch that stays keeps its literals and its labels, whose names are their own.
use Rattle.std.proofs.Common.{◌≡◌, ℕ, ◌==◌, ◌||◌, Bool, true, false, if◌then◌else◌, List, [], ◌∷◌, length, map, refl, ap, ◌∙◌, None, Some}
use Rattle.std.specs.Prelude.{◌%◌}
use Rattle.std.specs.Option.{option_map}
use Rattle.spirv_model.specs.declared.module.Inst.{Inst}
use Rattle.spirv_model.specs.declared.table.Operand.{Operand}
use Rattle.spirv_model.specs.declared.table.Operand.TheVariants.{IdRef}
use Rattle.spirv_model.specs.declared.op.TheConstants as op
use Rattle.spirv_model.specs.Operands.{word_at, literal_and_id, entry_of, kinds_in, kinds}
use Rattle.body_model.specs.Switches.{Case, is_among, cases_in, cases_of, literals_of, targets_of}
use Rattle.change_model.specs.Plans.{Plan, renamed_words, renamed_by, phi_left, predecessors_left, block_at, kept_at}
use Rattle.change_model.proofs.LeftCases.{among_first}
use Rattle.change_model.proofs.LeftNames.{kept_word}

-- each of these labels has its own name
abbrev pub AreNamed : (ℕ → ℕ) → List ℕ → Type 0
AreNamed name labels = (label : ℕ) → is_among label labels ≡ true → name label ≡ label

abbrev case_targets : List ℕ → List ℕ
case_targets words = map (λ (case : Case). case.target) (cases_in words)

or_right : (a b : Bool) → b ≡ true → (a || b) ≡ true
or_right true b is = refl
or_right false b is = is

cases_kept : (name : ℕ → ℕ) (words : List ℕ) → AreNamed name (case_targets words) → cases_in (renamed_words name (literal_and_id words) words) ≡ cases_in words
cases_kept name [] named = refl
cases_kept name (literal ∷ []) named = refl
cases_kept name (literal ∷ target ∷ words) named =
    ap (λ (n : ℕ). record { literal = literal; target = n } ∷ cases_in (renamed_words name (literal_and_id words) words)) (named target (among_first target (case_targets words)))
    ∙ ap (λ (l : List Case). record { literal = literal; target = target } ∷ l) (cases_kept name words (λ label among. named label (or_right (target == label) (is_among label (case_targets words)) among)))

switch_cases : (name : ℕ → ℕ) (words : List ℕ) → AreNamed name (targets_of words) → cases_of (renamed_by name (kinds_in (entry_of op.SWITCH) words) words) ≡ cases_of words
unfolding entry_of
switch_cases name [] named = refl
switch_cases name (selector ∷ []) named = refl
switch_cases name (selector ∷ default ∷ words) named =
    by_even (length words % 2 == 0) (cases_kept name words (λ label among. named label (or_right (default == label) (is_among label (case_targets words)) among)))
  where
    by_even : (even : Bool) → cases_in (renamed_words name (literal_and_id words) words) ≡ cases_in words
        → cases_of (renamed_by name (option_map (λ (k : List Operand). IdRef ∷ k) (option_map (λ (k : List Operand). IdRef ∷ k) (if even then Some (literal_and_id words) else None))) (selector ∷ default ∷ words)) ≡ cases_in words
    by_even true same = same
    by_even false same = refl

kept_words : (plan : Plan) (insts : List Inst) (place : ℕ) (inst : Inst) → inst.op == op.PHI ≡ false → (kept_at plan insts place inst).words ≡ renamed_by plan.name (kinds inst) inst.words
kept_words plan insts place inst isnt = by_test (inst.op == op.PHI) isnt
  where
    by_test : (b : Bool) → b ≡ false → (if b then phi_left plan.name (predecessors_left plan insts (block_at insts place)) inst else record inst { words = renamed_by plan.name (kinds inst) inst.words }).words ≡ renamed_by plan.name (kinds inst) inst.words
    by_test true is = cc
    by_test false is = refl

pub record SameSwitch (plan : Plan) (insts : List Inst) (place : ℕ) (inst : Inst) : Type 0 where
  pub cases : cases_of (kept_at plan insts place inst).words ≡ cases_of inst.words
  pub targets : targets_of (kept_at plan insts place inst).words ≡ targets_of inst.words

pub kept_switch : (plan : Plan) (insts : List Inst) (place : ℕ) (inst : Inst) → inst.op ≡ op.SWITCH → AreNamed plan.name (targets_of inst.words) → SameSwitch plan insts place inst
unfolding kinds
kept_switch plan insts place inst is named =
    let no_phi : inst.op == op.PHI ≡ false = ap (λ (o : ℕ). o == op.PHI) is in
    let default = kept_word plan insts place 1 inst no_phi (named (word_at 1 inst) (among_first (word_at 1 inst) (map (λ (case : Case). case.target) (cases_of inst.words)))) in
    let cases : cases_of (kept_at plan insts place inst).words ≡ cases_of inst.words = ap cases_of (kept_words plan insts place inst no_phi) ∙ ap (λ (o : ℕ). cases_of (renamed_by plan.name (kinds_in (entry_of o) inst.words) inst.words)) is ∙ switch_cases plan.name inst.words named in
    record {
      cases = cases;
      targets = ap (λ (n : ℕ). n ∷ map (λ (case : Case). case.target) (cases_of (kept_at plan insts place inst).words)) default ∙ ap (λ (l : List Case). word_at 1 inst ∷ map (λ (case : Case). case.target) l) cases;
    }

pub same_literals : (plan : Plan) (insts : List Inst) (place : ℕ) (inst : Inst) → SameSwitch plan insts place inst → literals_of (kept_at plan insts place inst).words ≡ literals_of inst.words
same_literals plan insts place inst s = ap (λ (l : List Case). map (λ (case : Case). case.literal) l) s.cases
