-- What a plan writes fits the table, in no more words than before.
use Rattle.std.proofs.Common.{◌≡◌, ℕ, suc, ◌<◌, ◌≤◌, ◌%◌, ◌==◌, Bool, true, false, if◌then◌else◌, List, [], ◌∷◌, ◌++◌, length, take, drop, map, refl, ap, sym, ◌∙◌, subst, arith, Option, None, Some}
use Rattle.std.specs.Prelude.{is_some}
use Rattle.std.specs.Option.{option_map}
use Rattle.std.proofs.lemmas.Bool.Decides.{nat_tests}
use Rattle.spirv_model.specs.declared.module.Inst.{Inst}
use Rattle.spirv_model.specs.declared.op.TheConstants as op
use Rattle.spirv_model.specs.declared.table.Operand.{Operand}
use Rattle.spirv_model.specs.declared.table.Operand.TheVariants.{IdResultType, IdResult, IdRef}
use Rattle.spirv_model.specs.Operands.{word_at, words_from, entry_of, class_of, kinds_in, kinds}
use Rattle.scalar_model.specs.declared.scalar_value.Scalar.{Scalar}
use Rattle.scalar_model.specs.declared.scalar_value.Scalar.TheVariants.{Bool as TruthOf, Word as WordOf}
use Rattle.body_model.specs.Switches.{is_among}
use Rattle.valid_model.specs.Definitions.{inst_at}
use Rattle.stage_model.specs.Start.{of_scalar}
use Rattle.typed_model.proofs.ValidModules.{valid_sound}
use Rattle.change_model.specs.Constants.{scalar_constant}
use Rattle.change_model.specs.Folding.{function_at}
use Rattle.change_model.specs.Plans.{Plan, pairs_left, kept_at, phi_left, predecessors_left, block_at, renamed_by, branch_to, switch_to}
use Rattle.change_model.proofs.BehindLevel.{is_setting_class, setting_fails, fails_function}
use Rattle.change_model.proofs.FoldedWords.{scalar_long, constant_short}
use Rattle.change_model.proofs.KindsByLength.{same_kinds, renamed_long}
use Rattle.change_model.proofs.Planned.{Planned, IsWritten, keeps, goes, picks, IsNewConstant, folds, nulls, IsChoice, conditional, switch, choice_of}
use Rattle.change_model.proofs.Settlings.{op_is}

-- an instruction fits the table, and has no more words than another one
pub record IsNoLonger (new old : Inst) : Type 0 where
  pub fits : is_some (kinds new) ≡ true
  pub short : length new.words ≤ length old.words

-- ---- phis

even_more : (n : ℕ) → n % 2 == 0 ≡ true → suc (suc n) % 2 == 0 ≡ true
even_more n is = grind (arith, nat_tests)

pairs_even : (name : ℕ → ℕ) (blocks words : List ℕ) → length (pairs_left name blocks words) % 2 == 0 ≡ true
pairs_even name blocks [] = refl
pairs_even name blocks (value ∷ []) = refl
pairs_even name blocks (value ∷ block ∷ words) = by_test (is_among block blocks) (pairs_even name blocks words)
  where
    by_test : (b : Bool) → length (pairs_left name blocks words) % 2 == 0 ≡ true
        → length (if b then name value ∷ block ∷ pairs_left name blocks words else pairs_left name blocks words) % 2 == 0 ≡ true
    by_test true rest = even_more (length (pairs_left name blocks words)) rest
    by_test false rest = rest

pairs_short : (name : ℕ → ℕ) (blocks words : List ℕ) → length (pairs_left name blocks words) ≤ length words
pairs_short name blocks [] = omega arith
pairs_short name blocks (value ∷ []) = omega arith
pairs_short name blocks (value ∷ block ∷ words) = by_test (is_among block blocks) (pairs_short name blocks words)
  where
    by_test : (b : Bool) → length (pairs_left name blocks words) ≤ length words
        → length (if b then name value ∷ block ∷ pairs_left name blocks words else pairs_left name blocks words) ≤ length (value ∷ block ∷ words)
    by_test true rest = omega (arith, rest)
    by_test false rest = omega (arith, rest)

phi_fits : (name : ℕ → ℕ) (blocks words : List ℕ) → is_some (kinds_in (entry_of op.PHI) words) ≡ true → is_some (kinds_in (entry_of op.PHI) (take 2 words ++ pairs_left name blocks (drop 2 words))) ≡ true
unfolding entry_of
phi_fits name blocks [] fits = cc
phi_fits name blocks (a ∷ []) fits = cc
phi_fits name blocks (a ∷ b ∷ words) fits = by_even (length (pairs_left name blocks words) % 2 == 0) (pairs_even name blocks words)
  where
    by_even : (even : Bool) → even ≡ true
        → is_some (option_map (λ (k : List Operand). IdResultType ∷ k) (option_map (λ (k : List Operand). IdResult ∷ k) (if even then Some (map (λ (_ : ℕ). IdRef) (pairs_left name blocks words)) else None))) ≡ true
    by_even true is = refl
    by_even false is = cc

phi_short : (name : ℕ → ℕ) (blocks words : List ℕ) → length (take 2 words ++ pairs_left name blocks (drop 2 words)) ≤ length words
phi_short name blocks [] = omega arith
phi_short name blocks (a ∷ []) = omega arith
phi_short name blocks (a ∷ b ∷ words) = let rest = pairs_short name blocks words in omega (arith, rest)

phi_no_longer : (name : ℕ → ℕ) (blocks : List ℕ) (inst : Inst) → inst.op ≡ op.PHI → is_some (kinds inst) ≡ true → IsNoLonger (phi_left name blocks inst) inst
unfolding kinds
phi_no_longer name blocks inst is fits = record {
  fits = ap (λ (o : ℕ). is_some (kinds_in (entry_of o) (take 2 inst.words ++ pairs_left name blocks (words_from 2 inst)))) is
      ∙ phi_fits name blocks inst.words (ap (λ (o : ℕ). is_some (kinds_in (entry_of o) inst.words)) (sym is) ∙ fits);
  short = phi_short name blocks inst.words;
}

-- ---- all that stay

renamed_no_longer : (name : ℕ → ℕ) (inst : Inst) → is_setting_class (class_of inst.op) ≡ false → is_some (kinds inst) ≡ true → IsNoLonger (record inst { words = renamed_by name (kinds inst) inst.words }) inst
unfolding kinds
renamed_no_longer name inst isnt fits =
    let long = renamed_long name (kinds_in (entry_of inst.op) inst.words) inst.words in
    record {
      fits = ap is_some (same_kinds inst.op (renamed_by name (kinds_in (entry_of inst.op) inst.words) inst.words) inst.words isnt long) ∙ fits;
      short = omega (arith, long);
    }

kept_no_longer : (plan : Plan) (insts : List Inst) (place : ℕ) (inst : Inst) → is_setting_class (class_of inst.op) ≡ false → is_some (kinds inst) ≡ true → IsNoLonger (kept_at plan insts place inst) inst
kept_no_longer plan insts place inst isnt fits = by_test (inst.op == op.PHI) refl
  where
    blocks : List ℕ
    blocks = predecessors_left plan insts (block_at insts place)

    by_test : (b : Bool) → inst.op == op.PHI ≡ b → IsNoLonger (if b then phi_left plan.name blocks inst else record inst { words = renamed_by plan.name (kinds inst) inst.words }) inst
    by_test true is = phi_no_longer plan.name blocks inst (op_is inst.op op.PHI is) fits
    by_test false is = renamed_no_longer plan.name inst isnt fits

-- ---- branches

conditional_long : (words : List ℕ) → is_some (kinds_in (entry_of op.BRANCH_CONDITIONAL) words) ≡ true → 2 ≤ length words
unfolding entry_of
conditional_long [] fits = cc
conditional_long (a ∷ []) fits = cc
conditional_long (a ∷ b ∷ words) fits = omega arith

switch_long : (words : List ℕ) → is_some (kinds_in (entry_of op.SWITCH) words) ≡ true → 2 ≤ length words
unfolding entry_of
switch_long [] fits = cc
switch_long (a ∷ []) fits = cc
switch_long (a ∷ b ∷ words) fits = omega arith

pub choice_long : (inst : Inst) → IsChoice inst.op → is_some (kinds inst) ≡ true → 2 ≤ length inst.words
unfolding kinds
choice_long inst (conditional is) fits = conditional_long inst.words (ap (λ (o : ℕ). is_some (kinds_in (entry_of o) inst.words)) (sym is) ∙ fits)
choice_long inst (switch is) fits = switch_long inst.words (ap (λ (o : ℕ). is_some (kinds_in (entry_of o) inst.words)) (sym is) ∙ fits)

branch_fits : (label : ℕ) → is_some (kinds (branch_to label)) ≡ true
unfolding kinds entry_of
branch_fits label = refl

switch_fits : (selector label : ℕ) → is_some (kinds (switch_to selector label)) ≡ true
unfolding kinds entry_of
switch_fits selector label = refl

pub written_no_longer : (g : Planned) (place : ℕ) (inst : Inst) → IsWritten g place inst → function_at g.words.insts ≤ place → place < length g.words.insts → IsNoLonger inst (inst_at g.words.insts place)
written_no_longer g place inst (keeps same is) low within =
    subst (λ (i : Inst). IsNoLonger i (inst_at g.words.insts place)) is
    (kept_no_longer g.plan g.words.insts place (inst_at g.words.insts place) (fails_function g is_setting_class setting_fails place low within) ((valid_sound g.words g.valid).shaped place within))
written_no_longer g place inst (goes label same may is) low within =
    let long = choice_long (inst_at g.words.insts place) (choice_of g.plan g.words.insts (inst_at g.words.insts place) label may.only) ((valid_sound g.words g.valid).shaped place within) in
    subst (λ (i : Inst). IsNoLonger i (inst_at g.words.insts place)) is (record { fits = branch_fits label; short = omega (arith, long) })
written_no_longer g place inst (picks label same may is) low within =
    let long = choice_long (inst_at g.words.insts place) (choice_of g.plan g.words.insts (inst_at g.words.insts place) label may.only) ((valid_sound g.words g.valid).shaped place within) in
    subst (λ (i : Inst). IsNoLonger i (inst_at g.words.insts place)) is (record { fits = switch_fits (g.plan.name (word_at 0 (inst_at g.words.insts place))) label; short = omega (arith, long) })

-- ---- constants

null_fits : (type own : ℕ) → is_some (kinds (record { op = op.CONSTANT_NULL; words = type ∷ own ∷ [] })) ≡ true
unfolding kinds entry_of
null_fits type own = refl

true_fits : (type own : ℕ) → is_some (kinds (record { op = op.CONSTANT_TRUE; words = type ∷ own ∷ [] })) ≡ true
unfolding kinds entry_of
true_fits type own = refl

false_fits : (type own : ℕ) → is_some (kinds (record { op = op.CONSTANT_FALSE; words = type ∷ own ∷ [] })) ≡ true
unfolding kinds entry_of
false_fits type own = refl

number_fits : (type own word : ℕ) → is_some (kinds (record { op = op.CONSTANT; words = type ∷ own ∷ word ∷ [] })) ≡ true
unfolding kinds entry_of
number_fits type own word = refl

same_inst : (a b : Inst) → ◌≡◌ {A = Option Inst} (Some a) (Some b) → a ≡ b
same_inst a b is = cc

scalar_fits : (type own : ℕ) (scalar : Scalar) (inst : Inst) → scalar_constant type own (Some (of_scalar scalar)) ≡ Some inst → is_some (kinds inst) ≡ true
scalar_fits type own (TruthOf true) inst is = subst (λ (i : Inst). is_some (kinds i) ≡ true) (same_inst _ inst is) (true_fits type own)
scalar_fits type own (TruthOf false) inst is = subst (λ (i : Inst). is_some (kinds i) ≡ true) (same_inst _ inst is) (false_fits type own)
scalar_fits type own (WordOf word) inst is = subst (λ (i : Inst). is_some (kinds i) ≡ true) (same_inst _ inst is) (number_fits type own word)

load_long : (words : List ℕ) → is_some (kinds_in (entry_of op.LOAD) words) ≡ true → 3 ≤ length words
unfolding entry_of
load_long [] fits = cc
load_long (a ∷ []) fits = cc
load_long (a ∷ b ∷ []) fits = cc
load_long (a ∷ b ∷ c ∷ words) fits = omega arith

op_load_long : (inst : Inst) → inst.op ≡ op.LOAD → is_some (kinds inst) ≡ true → 3 ≤ length inst.words
unfolding kinds
op_load_long inst is fits = load_long inst.words (ap (λ (o : ℕ). is_some (kinds_in (entry_of o) inst.words)) (sym is) ∙ fits)

pub constant_no_longer : (g : Planned) (place : ℕ) (inst : Inst) → IsNewConstant g place inst → place < length g.words.insts → IsNoLonger inst (inst_at g.words.insts place)
constant_no_longer g place inst (folds scalar same may is) within =
    let old = inst_at g.words.insts place in
    let long = scalar_long old may.is_scalar ((valid_sound g.words g.valid).shaped place within) in
    let short = constant_short (word_at 0 old) (word_at 1 old) (of_scalar scalar) inst is in
    record { fits = scalar_fits (word_at 0 old) (word_at 1 old) scalar inst is; short = omega (arith, long, short) }
constant_no_longer g place inst (nulls same may is) within =
    let old = inst_at g.words.insts place in
    let long = op_load_long old may.is_load ((valid_sound g.words g.valid).shaped place within) in
    subst (λ (i : Inst). IsNoLonger i (inst_at g.words.insts place)) is (record { fits = null_fits (word_at 0 old) (word_at 1 old); short = omega (arith, long) })
