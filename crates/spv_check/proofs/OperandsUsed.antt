-- An instruction that uses all ids that it names beside its result has it as its second id, or not at all.
use Rattle.std.proofs.Common.{◌≡◌, ℕ, zero, suc, ◌%◌, ◌==◌, Bool, true, false, not, ◌&&◌, if◌then◌else◌, List, [], ◌∷◌, ◌++◌, length, map, drop, replicate, Option, None, Some, is_some, refl, ap, sym, ◌∙◌}
use Rattle.std.specs.List.{list_all}
use Rattle.std.specs.Option.{option_map}
use Rattle.spirv_model.specs.declared.module.Inst.{Inst}
use Rattle.spirv_model.specs.declared.table.Operand.{Operand}
use Rattle.spirv_model.specs.declared.table.Operand.TheVariants.{IdResultType, IdResult, IdRef, LiteralInteger, Fixed, LiteralString}
use Rattle.spirv_model.specs.declared.table.Rest.{Rest}
use Rattle.spirv_model.specs.declared.table.Rest.TheVariants.{Nothing, IdRefs, LiteralIntegers, PairsIdRefIdRef, PairsLiteralIntegerIdRef}
use Rattle.spirv_model.specs.declared.table.Entry.{Entry}
use Rattle.spirv_model.specs.declared.table.Entry.TheVariants.{Skipped, Float, Listed}
use Rattle.spirv_model.specs.declared.table.Row.{Row}
use Rattle.spirv_model.specs.declared.table.TheConstants.{ROWS}
use Rattle.spirv_model.specs.Operands.{word_at, entry_in, entry_of, class_in, class_of, operand_words, literal_and_id, rest_kinds, kinds_from, listed_of, kinds_in, kinds, ids_among, ids_by, ids, result_place, result_in, result}
use Rattle.spv_words.specs.Ids.{TakesFirst}
use Rattle.check_model.specs.Visibility.{used_among, used_by, uses_operands}
use Rattle.spv_check.specs.UsesLeft.{uses_left}

-- ---- operands without a result

abbrev is_result : Operand → Bool
is_result IdResult = true
is_result operand = false

abbrev no_result : List Operand → Bool
no_result kinds = list_all (λ kind. not (is_result kind)) kinds

abbrev no_result_in : Option (List Operand) → Bool
no_result_in None = true
no_result_in (Some kinds) = no_result kinds

abbrev none_listed : List (Option Operand) → Bool
none_listed [] = true
none_listed (None ∷ more) = true
none_listed (Some operand ∷ more) = not (is_result operand) && none_listed more

all_refs : (words : List ℕ) → no_result (map (λ _. IdRef) words) ≡ true
all_refs [] = refl
all_refs (word ∷ words) = all_refs words

all_literals : (words : List ℕ) → no_result (map (λ _. LiteralInteger) words) ≡ true
all_literals [] = refl
all_literals (word ∷ words) = all_literals words

by_turns : (words : List ℕ) → no_result (literal_and_id words) ≡ true
by_turns [] = refl
by_turns (literal ∷ []) = refl
by_turns (literal ∷ id ∷ words) = by_turns words

where_even : (even : Bool) (kinds : List Operand) → no_result kinds ≡ true → no_result_in (if even then Some kinds else None) ≡ true
where_even true kinds is = is
where_even false kinds is = refl

rest_has_none : (rest : Rest) (words : List ℕ) → no_result_in (rest_kinds rest words) ≡ true
rest_has_none Nothing [] = refl
rest_has_none Nothing (word ∷ words) = refl
rest_has_none IdRefs words = all_refs words
rest_has_none LiteralIntegers words = all_literals words
rest_has_none PairsIdRefIdRef words = where_even (length words % 2 == 0) _ (all_refs words)
rest_has_none PairsLiteralIntegerIdRef words = where_even (length words % 2 == 0) _ (by_turns words)

run_has_none : (operand : Operand) (n : ℕ) (kinds : List Operand) → not (is_result operand) ≡ true → no_result kinds ≡ true → no_result (replicate n operand ++ kinds) ≡ true
run_has_none operand zero kinds one is = is
run_has_none operand (suc n) kinds one is = ap (λ (b : Bool). b && no_result (replicate n operand ++ kinds)) one ∙ run_has_none operand n kinds one is

mapped_has_none : (operand : Operand) (n : ℕ) (after : Option (List Operand)) → not (is_result operand) ≡ true → no_result_in after ≡ true
    → no_result_in (option_map (λ kinds. replicate n operand ++ kinds) after) ≡ true
mapped_has_none operand n None one is = refl
mapped_has_none operand n (Some kinds) one is = run_has_none operand n kinds one is

operand_has_none : (operand : Operand) (count : Option ℕ) (more : List (Option Operand)) (rest : Rest) (words : List ℕ) → not (is_result operand) ≡ true
    → ((words : List ℕ) → no_result_in (kinds_from more rest words) ≡ true)
    → no_result_in (elim count [ None ↦ None | Some n ↦ option_map (λ kinds. replicate n operand ++ kinds) (kinds_from more rest (drop n words)) ]) ≡ true
operand_has_none operand None more rest words one behind = refl
operand_has_none operand (Some n) more rest words one behind = mapped_has_none operand n (kinds_from more rest (drop n words)) one (behind (drop n words))

first_of : (a b : Bool) → (a && b) ≡ true → a ≡ true
first_of true b is = refl
first_of false b is = is

second_of : (a b : Bool) → (a && b) ≡ true → b ≡ true
second_of true b is = is
second_of false b is = absurd (cc)

listed_have_none : (listed : List (Option Operand)) (rest : Rest) → none_listed listed ≡ true → (words : List ℕ) → no_result_in (kinds_from listed rest words) ≡ true
listed_have_none [] rest is words = rest_has_none rest words
listed_have_none (None ∷ more) rest is words = rest_has_none rest words
listed_have_none (Some operand ∷ more) rest is words =
    operand_has_none operand (operand_words operand words) more rest words (first_of (not (is_result operand)) (none_listed more) is)
    (listed_have_none more rest (second_of (not (is_result operand)) (none_listed more) is))

-- ---- the ids that are used are then all ids

all_used : (kinds : List Operand) (words : List ℕ) → no_result kinds ≡ true → used_among kinds words ≡ ids_among kinds words
all_used [] words is = refl
all_used (kind ∷ kinds) [] is = refl
all_used (IdResultType ∷ kinds) (word ∷ words) is = ap (λ (l : List ℕ). word ∷ l) (all_used kinds words is)
all_used (IdResult ∷ kinds) (word ∷ words) is = absurd (cc)
all_used (IdRef ∷ kinds) (word ∷ words) is = ap (λ (l : List ℕ). word ∷ l) (all_used kinds words is)
all_used (LiteralInteger ∷ kinds) (word ∷ words) is = all_used kinds words is
all_used (Fixed expected ∷ kinds) (word ∷ words) is = all_used kinds words is
all_used (LiteralString ∷ kinds) (word ∷ words) is = all_used kinds words is

all_used_by : (kinds : Option (List Operand)) (words : List ℕ) → no_result_in kinds ≡ true → used_by kinds words ≡ ids_by kinds words
all_used_by None words is = refl
all_used_by (Some kinds) words is = all_used kinds words is

without : (listed : List (Option Operand)) (rest : Rest) (words : List ℕ) → none_listed listed ≡ true
    → used_by (kinds_from listed rest words) words ≡ ids_by (kinds_from listed rest words) words
without listed rest words is = all_used_by (kinds_from listed rest words) words (listed_have_none listed rest is words)

-- ---- a result behind its type

abbrev without_second : List ℕ → List ℕ
without_second [] = []
without_second (id ∷ []) = id ∷ []
without_second (id ∷ second ∷ more) = id ∷ more

-- the second id is dropped, if there is a result
abbrev beside : Option ℕ → List ℕ → List ℕ
beside None ids = ids
beside (Some id) ids = without_second ids

typed_kinds : (type id : ℕ) (words : List ℕ) (after : Option (List Operand)) → no_result_in after ≡ true
    → used_by (option_map (λ kinds. IdResultType ∷ kinds) (option_map (λ kinds. IdResult ∷ kinds) after)) (type ∷ id ∷ words)
    ≡ without_second (ids_by (option_map (λ kinds. IdResultType ∷ kinds) (option_map (λ kinds. IdResult ∷ kinds) after)) (type ∷ id ∷ words))
typed_kinds type id words None is = refl
typed_kinds type id words (Some kinds) is = ap (λ (l : List ℕ). type ∷ l) (all_used kinds words is)

typed : (more : List (Option Operand)) (rest : Rest) (words : List ℕ) → none_listed more ≡ true
    → used_by (kinds_from (Some IdResultType ∷ Some IdResult ∷ more) rest words) words ≡ without_second (ids_by (kinds_from (Some IdResultType ∷ Some IdResult ∷ more) rest words) words)
typed more rest [] is = refl
typed more rest (type ∷ []) is = refl
typed more rest (type ∷ id ∷ words) is = typed_kinds type id words (kinds_from more rest words) (listed_have_none more rest is words)

-- ---- the operands of an instruction that uses them

abbrev at_most_second : List (Option Operand) → Bool
at_most_second (Some IdResultType ∷ Some IdResult ∷ more) = none_listed more
at_most_second listed = none_listed listed

by_operands : (listed : List (Option Operand)) (rest : Rest) (words : List ℕ) → at_most_second listed ≡ true
    → used_by (kinds_from listed rest words) words ≡ beside (result_place listed) (ids_by (kinds_from listed rest words) words)
by_operands [] rest words is = without [] rest words is
by_operands (None ∷ more) rest words is = without (None ∷ more) rest words is
by_operands (Some IdResult ∷ more) rest words is = absurd (cc)
by_operands (Some IdRef ∷ more) rest words is = without (Some IdRef ∷ more) rest words is
by_operands (Some LiteralInteger ∷ more) rest words is = without (Some LiteralInteger ∷ more) rest words is
by_operands (Some (Fixed expected) ∷ more) rest words is = without (Some (Fixed expected) ∷ more) rest words is
by_operands (Some LiteralString ∷ more) rest words is = without (Some LiteralString ∷ more) rest words is
by_operands (Some IdResultType ∷ []) rest words is = without (Some IdResultType ∷ []) rest words is
by_operands (Some IdResultType ∷ None ∷ more) rest words is = without (Some IdResultType ∷ None ∷ more) rest words is
by_operands (Some IdResultType ∷ Some IdResultType ∷ more) rest words is = without (Some IdResultType ∷ Some IdResultType ∷ more) rest words is
by_operands (Some IdResultType ∷ Some IdResult ∷ more) rest words is = typed more rest words is
by_operands (Some IdResultType ∷ Some IdRef ∷ more) rest words is = without (Some IdResultType ∷ Some IdRef ∷ more) rest words is
by_operands (Some IdResultType ∷ Some LiteralInteger ∷ more) rest words is = without (Some IdResultType ∷ Some LiteralInteger ∷ more) rest words is
by_operands (Some IdResultType ∷ Some (Fixed expected) ∷ more) rest words is = without (Some IdResultType ∷ Some (Fixed expected) ∷ more) rest words is
by_operands (Some IdResultType ∷ Some LiteralString ∷ more) rest words is = without (Some IdResultType ∷ Some LiteralString ∷ more) rest words is

-- ---- by the table

abbrev has_at_most_second : Entry → Bool
has_at_most_second (Listed class operands) = if uses_operands (Some class) then at_most_second (listed_of operands) else true
has_at_most_second entry = true

abbrev has_at_most_second_in : Option Entry → Bool
has_at_most_second_in None = true
has_at_most_second_in (Some entry) = has_at_most_second entry

rows_have : list_all (λ (row : Row). has_at_most_second row.entry) ROWS ≡ true
rows_have = refl

found : (is_it : Bool) (entry : Entry) (other : Option Entry) → has_at_most_second entry ≡ true → has_at_most_second_in other ≡ true
    → has_at_most_second_in (if is_it then Some entry else other) ≡ true
found true entry other one two = one
found false entry other one two = two

entry_has : (rows : List Row) (op : ℕ) → list_all (λ (row : Row). has_at_most_second row.entry) rows ≡ true → has_at_most_second_in (entry_in rows op) ≡ true
entry_has [] op is = refl
entry_has (row ∷ rows) op is =
    let one = has_at_most_second row.entry in
    let others = list_all (λ (row : Row). has_at_most_second row.entry) rows in
    found (row.op == op) row.entry (entry_in rows op) (first_of one others is) (entry_has rows op (second_of one others is))

chosen_for : (uses other : Bool) → uses ≡ true → (if uses then other else true) ≡ true → other ≡ true
chosen_for true other one is = is
chosen_for false other one is = absurd (cc)

beside_mapped : (f : ℕ → ℕ) (place : Option ℕ) (ids : List ℕ) → beside place ids ≡ beside (option_map f place) ids
beside_mapped f None ids = refl
beside_mapped f (Some place) ids = refl

by_entry : (entry : Option Entry) (inst : Inst) → has_at_most_second_in entry ≡ true → uses_operands (class_in entry) ≡ true
    → used_by (kinds_in entry inst.words) inst.words ≡ beside (result_in entry inst) (ids_by (kinds_in entry inst.words) inst.words)
by_entry None inst has uses = refl
by_entry (Some Skipped) inst has uses = refl
by_entry (Some Float) inst has uses = refl
by_entry (Some (Listed class operands)) inst has uses =
    by_operands (listed_of operands) operands.rest inst.words (chosen_for (uses_operands (Some class)) (at_most_second (listed_of operands)) uses has)
    ∙ beside_mapped (λ place. word_at place inst) (result_place (listed_of operands)) (ids_by (kinds_from (listed_of operands) operands.rest inst.words) inst.words)

beside_result : (inst : Inst) → uses_operands (class_of inst.op) ≡ true → used_by (kinds inst) inst.words ≡ beside (result inst) (ids inst)
unfolding class_of entry_of kinds result ids
beside_result inst uses = by_entry (entry_in ROWS inst.op) inst (entry_has ROWS inst.op rows_have) uses

-- ---- the ids that are left behind the result

without_taken : (ids after left : List ℕ) (first second : Option ℕ) → TakesFirst ids after first → TakesFirst after left second → uses_left first (Some left) ≡ without_second ids
without_taken ids after left None None one two = two.1 ∙ ap without_second (sym one.0)
without_taken ids after left None (Some id) one two = absurd (cc)
without_taken ids after left (Some type) None one two = ap (λ (l : List ℕ). type ∷ l) two.1 ∙ ap without_second (sym (one ∙ ap (λ (l : List ℕ). type ∷ l) two.0))
without_taken ids after left (Some type) (Some id) one two = ap without_second (sym (one ∙ ap (λ (l : List ℕ). type ∷ l) two))

all_beside : (found : Option ℕ) (ids : List ℕ) → is_some found ≡ false → ids ≡ beside found ids
all_beside None ids is = refl
all_beside (Some id) ids is = absurd (cc)

others_beside : (found : Option ℕ) (ids : List ℕ) → is_some found ≡ true → without_second ids ≡ beside found ids
others_beside None ids is = absurd (cc)
others_beside (Some id) ids is = refl

beside_found : (inst : Inst) (found : Option ℕ) (all : List ℕ) → uses_operands (class_of inst.op) ≡ true → all ≡ ids inst → found ≡ result inst → beside found all ≡ used_by (kinds inst) inst.words
beside_found inst found all uses all_are found_is =
    ap (beside found) all_are ∙ ap (λ (o : Option ℕ). beside o (ids inst)) found_is ∙ sym (beside_result inst uses)

pub none_named : (inst : Inst) (found : Option ℕ) (all : List ℕ) → uses_operands (class_of inst.op) ≡ true → all ≡ ids inst → found ≡ result inst → is_some found ≡ false
    → all ≡ used_by (kinds inst) inst.words
none_named inst found all uses all_are found_is none = all_beside found all none ∙ beside_found inst found all uses all_are found_is

pub one_named : (inst : Inst) (found : Option ℕ) (all after left : List ℕ) (first second : Option ℕ) → uses_operands (class_of inst.op) ≡ true → all ≡ ids inst → found ≡ result inst
    → is_some found ≡ true → TakesFirst all after first → TakesFirst after left second → uses_left first (Some left) ≡ used_by (kinds inst) inst.words
one_named inst found all after left first second uses all_are found_is some one two =
    without_taken all after left first second one two ∙ others_beside found all some ∙ beside_found inst found all uses all_are found_is
