-- What an instruction uses that stays: what it used, under other names.
use Rattle.std.proofs.Common.{◌≡◌, ℕ, zero, suc, ◌<◌, ◌≤◌, ◌==◌, ◌||◌, Bool, true, false, not, if◌then◌else◌, List, [], ◌∷◌, ◌++◌, length, map, drop, slice_index, refl, ap, sym, ◌∙◌, Option, None, Some}
use Rattle.std.specs.Prelude.{is_some, replicate}
use Rattle.std.specs.List.{list_all}
use Rattle.std.specs.Option.{option_map}
use Rattle.std.proofs.lemmas.Bool.{eqb-true}
use Rattle.basics.proofs.Bools.{first_of_both, second_of_both}
use Rattle.spirv_model.specs.declared.module.Inst.{Inst}
use Rattle.spirv_model.specs.declared.op.TheConstants as op
use Rattle.spirv_model.specs.declared.table.TheConstants.{ROWS}
use Rattle.spirv_model.specs.declared.table.Operand.{Operand}
use Rattle.spirv_model.specs.declared.table.Operand.TheVariants.{IdResultType, IdResult, IdRef, LiteralInteger, Fixed, LiteralString}
use Rattle.spirv_model.specs.declared.table.Rest.{Rest}
use Rattle.spirv_model.specs.declared.table.Rest.TheVariants.{Nothing, IdRefs, LiteralIntegers, PairsIdRefIdRef, PairsLiteralIntegerIdRef}
use Rattle.spirv_model.specs.declared.table.Entry.{Entry}
use Rattle.spirv_model.specs.declared.table.Entry.TheVariants.{Listed, Skipped, Float}
use Rattle.spirv_model.specs.Operands.{word_at, entry_of, class_of, operand_words, literal_and_id, rest_kinds, kinds_from, listed_of, kinds_in, kinds}
use Rattle.valid_model.specs.Definitions.{inst_at}
use Rattle.valid_model.specs.Types.{is_result_type}
use Rattle.check_model.specs.Visibility.{uses_operands, used_among, used_by, is_choice, used_ids}
use Rattle.typed_model.proofs.ResultIds.{in_rows}
use Rattle.typed_model.proofs.ValidModules.{valid_sound}
use Rattle.change_model.specs.Folding.{function_at}
use Rattle.change_model.specs.Plans.{renamed_words, renamed_by, kept_at}
use Rattle.change_model.proofs.BehindLevel.{is_setting_class, setting_fails, fails_function}
use Rattle.change_model.proofs.KindsByLength.{same_kinds, renamed_long}
use Rattle.change_model.proofs.Planned.{Planned}
use Rattle.change_model.proofs.PlanRunsRenamed.{renamed}
use Rattle.change_model.proofs.PlanRunsRoots.{kept_plain}
use Rattle.change_model.proofs.TypesNamed.{has_type_word, type_named}

-- ---- words that are types of results

-- those keep their names
abbrev KeepTypes : (ℕ → ℕ) → List Operand → List ℕ → Type 0
KeepTypes name [] words = Unit {0}
KeepTypes name (kind ∷ found) [] = Unit {0}
KeepTypes name (IdResultType ∷ found) (word ∷ words) = (name word ≡ word) × KeepTypes name found words
KeepTypes name (kind ∷ found) (word ∷ words) = KeepTypes name found words

abbrev KeepTypesBy : (ℕ → ℕ) → Option (List Operand) → List ℕ → Type 0
KeepTypesBy name None words = Unit {0}
KeepTypesBy name (Some found) words = KeepTypes name found words

used_named : (name : ℕ → ℕ) (found : List Operand) (words : List ℕ) → KeepTypes name found words → used_among found (renamed_words name found words) ≡ map name (used_among found words)
used_named name [] words keep = refl
used_named name (kind ∷ found) [] keep = refl
used_named name (IdRef ∷ found) (word ∷ words) keep = ap (λ (l : List ℕ). name word ∷ l) (used_named name found words keep)
used_named name (IdResultType ∷ found) (word ∷ words) keep =
    ap (λ (l : List ℕ). word ∷ l) (used_named name found words keep.1) ∙ ap (λ (n : ℕ). n ∷ map name (used_among found words)) (sym keep.0)
used_named name (IdResult ∷ found) (word ∷ words) keep = used_named name found words keep
used_named name (LiteralInteger ∷ found) (word ∷ words) keep = used_named name found words keep
used_named name (Fixed expected ∷ found) (word ∷ words) keep = used_named name found words keep
used_named name (LiteralString ∷ found) (word ∷ words) keep = used_named name found words keep

used_named_by : (name : ℕ → ℕ) (found : Option (List Operand)) (words : List ℕ) → KeepTypesBy name found words → used_by found (renamed_by name found words) ≡ map name (used_by found words)
used_named_by name None words keep = refl
used_named_by name (Some found) words keep = used_named name found words keep

-- ---- only the first word is one

abbrev is_type_operand : Option Operand → Bool
is_type_operand (Some IdResultType) = true
is_type_operand operand = false

abbrev no_types : List (Option Operand) → Bool
no_types listed = list_all (λ (operand : Option Operand). not (is_type_operand operand)) listed

abbrev are_types_first : List (Option Operand) → Bool
are_types_first [] = true
are_types_first (first ∷ more) = no_types more

abbrev is_type_row : Option Entry → Bool
is_type_row (Some (Listed of operands)) = are_types_first (listed_of operands)
is_type_row entry = true

all_type_rows : list_all (λ row. is_type_row (Some row.entry)) ROWS ≡ true
all_type_rows = refl

type_row : (opcode : ℕ) → is_type_row (entry_of opcode) ≡ true
unfolding entry_of
type_row opcode = in_rows (λ opcode entry. is_type_row entry) (λ opcode. refl) ROWS opcode all_type_rows

refs_keep : (name : ℕ → ℕ) (others words : List ℕ) → KeepTypes name (map (λ (_ : ℕ). IdRef) others) words
refs_keep name [] words = tt
refs_keep name (other ∷ others) [] = tt
refs_keep name (other ∷ others) (word ∷ words) = refs_keep name others words

literals_keep : (name : ℕ → ℕ) (others words : List ℕ) → KeepTypes name (map (λ (_ : ℕ). LiteralInteger) others) words
literals_keep name [] words = tt
literals_keep name (other ∷ others) [] = tt
literals_keep name (other ∷ others) (word ∷ words) = literals_keep name others words

turns_keep : (name : ℕ → ℕ) (others words : List ℕ) → KeepTypes name (literal_and_id others) words
turns_keep name [] words = tt
turns_keep name (literal ∷ []) [] = tt
turns_keep name (literal ∷ []) (word ∷ words) = tt
turns_keep name (literal ∷ id ∷ others) [] = tt
turns_keep name (literal ∷ id ∷ others) (word ∷ []) = tt
turns_keep name (literal ∷ id ∷ others) (word ∷ second ∷ words) = turns_keep name others words

even_keep : (name : ℕ → ℕ) (found : List Operand) (words : List ℕ) (b : Bool) → KeepTypes name found words → KeepTypesBy name (if b then Some found else None) words
even_keep name found words true keep = keep
even_keep name found words false keep = tt

rest_keep : (name : ℕ → ℕ) (rest : Rest) (words : List ℕ) → KeepTypesBy name (rest_kinds rest words) words
rest_keep name Nothing [] = tt
rest_keep name Nothing (word ∷ words) = tt
rest_keep name IdRefs words = refs_keep name words words
rest_keep name LiteralIntegers words = literals_keep name words words
rest_keep name PairsIdRefIdRef words = even_keep name (map (λ (_ : ℕ). IdRef) words) words _ (refs_keep name words words)
rest_keep name PairsLiteralIntegerIdRef words = even_keep name (literal_and_id words) words _ (turns_keep name words words)

one_keeps : (name : ℕ → ℕ) (operand : Operand) (found : List Operand) (word : ℕ) (words : List ℕ) → not (is_type_operand (Some operand)) ≡ true → KeepTypes name found words → KeepTypes name (operand ∷ found) (word ∷ words)
one_keeps name IdResultType found word words isnt keep = cc
one_keeps name IdResult found word words isnt keep = keep
one_keeps name IdRef found word words isnt keep = keep
one_keeps name LiteralInteger found word words isnt keep = keep
one_keeps name (Fixed expected) found word words isnt keep = keep
one_keeps name LiteralString found word words isnt keep = keep

several_keep : (name : ℕ → ℕ) (n : ℕ) (operand : Operand) (found : List Operand) (words : List ℕ) → not (is_type_operand (Some operand)) ≡ true → KeepTypes name found (drop n words) → KeepTypes name (replicate n operand ++ found) words
several_keep name zero operand found words isnt keep = keep
several_keep name (suc n) operand found [] isnt keep = tt
several_keep name (suc n) operand found (word ∷ words) isnt keep = one_keeps name operand (replicate n operand ++ found) word words isnt (several_keep name n operand found words isnt keep)

more_keep : (name : ℕ → ℕ) (listed : List (Option Operand)) (rest : Rest) (words : List ℕ) → no_types listed ≡ true → KeepTypesBy name (kinds_from listed rest words) words
more_keep name [] rest words none = rest_keep name rest words
more_keep name (None ∷ more) rest words none = rest_keep name rest words
more_keep name (Some operand ∷ more) rest words none =
    by_words (operand_words operand words) (λ n. more_keep name more rest (drop n words) (second_of_both (not (is_type_operand (Some operand))) (no_types more) none))
  where
    isnt : not (is_type_operand (Some operand)) ≡ true
    isnt = first_of_both (not (is_type_operand (Some operand))) (no_types more) none

    by_rest : (n : ℕ) (found : Option (List Operand)) → KeepTypesBy name found (drop n words) → KeepTypesBy name (option_map (λ (k : List Operand). replicate n operand ++ k) found) words
    by_rest n None keep = tt
    by_rest n (Some found) keep = several_keep name n operand found words isnt keep

    by_words : (taken : Option ℕ) → ((n : ℕ) → KeepTypesBy name (kinds_from more rest (drop n words)) (drop n words)) → KeepTypesBy name (elim taken [ None ↦ None | Some n ↦ option_map (λ (k : List Operand). replicate n operand ++ k) (kinds_from more rest (drop n words)) ]) words
    by_words None keep = tt
    by_words (Some n) keep = by_rest n (kinds_from more rest (drop n words)) (keep n)

listed_keep : (name : ℕ → ℕ) (listed : List (Option Operand)) (rest : Rest) (words : List ℕ) → are_types_first listed ≡ true → (is_result_type listed ≡ true → name (slice_index words 0) ≡ slice_index words 0)
    → KeepTypesBy name (kinds_from listed rest words) words
listed_keep name [] rest words first named = rest_keep name rest words
listed_keep name (None ∷ more) rest words first named = rest_keep name rest words
listed_keep name (Some IdResultType ∷ more) rest [] first named = tt
listed_keep name (Some IdResultType ∷ more) rest (word ∷ words) first named = by_rest (kinds_from more rest words) (more_keep name more rest words first)
  where
    by_rest : (found : Option (List Operand)) → KeepTypesBy name found words → KeepTypesBy name (option_map (λ (k : List Operand). IdResultType ∷ k) found) (word ∷ words)
    by_rest None keep = tt
    by_rest (Some found) keep = (named refl, keep)
listed_keep name (Some IdResult ∷ more) rest words first named = more_keep name (Some IdResult ∷ more) rest words first
listed_keep name (Some IdRef ∷ more) rest words first named = more_keep name (Some IdRef ∷ more) rest words first
listed_keep name (Some LiteralInteger ∷ more) rest words first named = more_keep name (Some LiteralInteger ∷ more) rest words first
listed_keep name (Some (Fixed expected) ∷ more) rest words first named = more_keep name (Some (Fixed expected) ∷ more) rest words first
listed_keep name (Some LiteralString ∷ more) rest words first named = more_keep name (Some LiteralString ∷ more) rest words first

entry_keep : (name : ℕ → ℕ) (entry : Option Entry) (words : List ℕ) → is_type_row entry ≡ true → (has_type_word entry ≡ true → name (slice_index words 0) ≡ slice_index words 0) → KeepTypesBy name (kinds_in entry words) words
entry_keep name (Some (Listed of operands)) words first named = listed_keep name (listed_of operands) operands.rest words first named
entry_keep name (Some Skipped) words first named = tt
entry_keep name (Some Float) words first named = tt
entry_keep name None words first named = tt

-- ---- branches

conditional_word : (name : ℕ → ℕ) (words : List ℕ) → is_some (kinds_in (entry_of op.BRANCH_CONDITIONAL) words) ≡ true → slice_index (renamed_by name (kinds_in (entry_of op.BRANCH_CONDITIONAL) words) words) 0 ≡ name (slice_index words 0)
unfolding entry_of
conditional_word name (a ∷ b ∷ c ∷ []) has = refl
conditional_word name (a ∷ b ∷ c ∷ more ∷ words) has = cc
conditional_word name (a ∷ b ∷ []) has = cc
conditional_word name (a ∷ []) has = cc
conditional_word name [] has = cc

switch_word : (name : ℕ → ℕ) (words : List ℕ) → is_some (kinds_in (entry_of op.SWITCH) words) ≡ true → slice_index (renamed_by name (kinds_in (entry_of op.SWITCH) words) words) 0 ≡ name (slice_index words 0)
unfolding entry_of
switch_word name [] has = cc
switch_word name (a ∷ []) has = cc
switch_word name (a ∷ b ∷ words) has = by_rest _ has
  where
    by_rest : (found : Option (List Operand)) → is_some (option_map (λ (k : List Operand). IdRef ∷ k) (option_map (λ (k : List Operand). IdRef ∷ k) found)) ≡ true
        → slice_index (renamed_by name (option_map (λ (k : List Operand). IdRef ∷ k) (option_map (λ (k : List Operand). IdRef ∷ k) found)) (a ∷ b ∷ words)) 0 ≡ name a
    by_rest None has = cc
    by_rest (Some found) has = refl

pub choice_word : (name : ℕ → ℕ) (inst : Inst) → is_choice inst.op ≡ true → is_some (kinds inst) ≡ true → word_at 0 (renamed name inst) ≡ name (word_at 0 inst)
unfolding kinds
choice_word name inst is has = by_tests (inst.op == op.BRANCH_CONDITIONAL) (inst.op == op.SWITCH) refl refl is
  where
    by_tests : (a b : Bool) → inst.op == op.BRANCH_CONDITIONAL ≡ a → inst.op == op.SWITCH ≡ b → (a || b) ≡ true → slice_index (renamed_by name (kinds_in (entry_of inst.op) inst.words) inst.words) 0 ≡ name (slice_index inst.words 0)
    by_tests true b one other either =
        let e = eqb-true inst.op op.BRANCH_CONDITIONAL one in
        ap (λ (o : ℕ). slice_index (renamed_by name (kinds_in (entry_of o) inst.words) inst.words) 0) e ∙ conditional_word name inst.words (ap (λ (o : ℕ). is_some (kinds_in (entry_of o) inst.words)) (sym e) ∙ has)
    by_tests false true one other either =
        let e = eqb-true inst.op op.SWITCH other in
        ap (λ (o : ℕ). slice_index (renamed_by name (kinds_in (entry_of o) inst.words) inst.words) 0) e ∙ switch_word name inst.words (ap (λ (o : ℕ). is_some (kinds_in (entry_of o) inst.words)) (sym e) ∙ has)
    by_tests false false one other either = cc

-- ---- an instruction that stays

pub kinds_same : (name : ℕ → ℕ) (inst : Inst) → is_setting_class (class_of inst.op) ≡ false → kinds (renamed name inst) ≡ kinds inst
unfolding kinds
kinds_same name inst isnt = same_kinds inst.op (renamed_by name (kinds_in (entry_of inst.op) inst.words) inst.words) inst.words isnt (renamed_long name (kinds_in (entry_of inst.op) inst.words) inst.words)

kinds_keep : (name : ℕ → ℕ) (inst : Inst) → (has_type_word (entry_of inst.op) ≡ true → name (word_at 0 inst) ≡ word_at 0 inst) → KeepTypesBy name (kinds inst) inst.words
unfolding kinds
kinds_keep name inst named = entry_keep name (entry_of inst.op) inst.words (type_row inst.op) named

operands_named : (name : ℕ → ℕ) (inst : Inst) → is_setting_class (class_of inst.op) ≡ false → (has_type_word (entry_of inst.op) ≡ true → name (word_at 0 inst) ≡ word_at 0 inst)
    → used_by (kinds (renamed name inst)) (renamed name inst).words ≡ map name (used_by (kinds inst) inst.words)
operands_named name inst isnt named =
    ap (λ (k : Option (List Operand)). used_by k (renamed name inst).words) (kinds_same name inst isnt)
    ∙ used_named_by name (kinds inst) inst.words (kinds_keep name inst named)

renamed_uses : (name : ℕ → ℕ) (inst : Inst) → is_setting_class (class_of inst.op) ≡ false → is_some (kinds inst) ≡ true
    → (uses_operands (class_of inst.op) ≡ true → has_type_word (entry_of inst.op) ≡ true → name (word_at 0 inst) ≡ word_at 0 inst) → used_ids (renamed name inst) ≡ map name (used_ids inst)
unfolding used_ids
renamed_uses name inst isnt has named = by_tests (uses_operands (class_of inst.op)) (is_choice inst.op) (λ is. operands_named name inst isnt (named is)) (λ is. choice_word name inst is has)
  where
    by_tests : (a b : Bool) → (a ≡ true → used_by (kinds (renamed name inst)) (renamed name inst).words ≡ map name (used_by (kinds inst) inst.words)) → (b ≡ true → word_at 0 (renamed name inst) ≡ name (word_at 0 inst))
        → (if a then used_by (kinds (renamed name inst)) (renamed name inst).words else if b then word_at 0 (renamed name inst) ∷ [] else [])
        ≡ map name (if a then used_by (kinds inst) inst.words else if b then word_at 0 inst ∷ [] else [])
    by_tests true b operands choice = operands refl
    by_tests false true operands choice = ap (λ (n : ℕ). n ∷ []) (choice refl)
    by_tests false false operands choice = refl

-- an instruction of the function that stays uses what it used, under other names
pub kept_uses : (g : Planned) (place : ℕ) → function_at g.words.insts ≤ place → place < length g.words.insts → (inst_at g.words.insts place).op == op.PHI ≡ false
    → used_ids (kept_at g.plan g.words.insts place (inst_at g.words.insts place)) ≡ map g.plan.name (used_ids (inst_at g.words.insts place))
kept_uses g place low within no_phi =
    let inst = inst_at g.words.insts place in
    ap used_ids (kept_plain g.plan g.words.insts place inst no_phi)
    ∙ renamed_uses g.plan.name inst (fails_function g is_setting_class setting_fails place low within) ((valid_sound g.words g.valid).shaped place within) (λ uses has. type_named g place low within uses has)
