-- A list has no more words with a scalar operation folded.
use Rattle.std.proofs.Common.{◌≡◌, ℕ, zero, suc, ◌+◌, ◌<◌, ◌≤◌, ◌&&◌, Bool, true, false, List, [], ◌∷◌, ◌++◌, length, take, drop, refl, ap, sym, ◌∙◌, subst, arith, length-append, length-drop, Option, None, Some}
use Rattle.std.specs.Prelude.{is_some}
use Rattle.std.specs.List.{flat_map, list_all}
use Rattle.std.proofs.lemmas.Grind.{flat_map-append}
use Rattle.std.proofs.lemmas.List.{get_or-drop}
use Rattle.spirv_model.specs.declared.module.Inst.{Inst}
use Rattle.spirv_model.specs.declared.module.Words.{Words}
use Rattle.spirv_model.specs.declared.table.Operand.{Operand}
use Rattle.spirv_model.specs.declared.table.Operand.TheVariants.{IdResultType, IdResult, IdRef}
use Rattle.spirv_model.specs.declared.table.Operands.{Operands}
use Rattle.spirv_model.specs.declared.table.Rest.{Rest}
use Rattle.spirv_model.specs.declared.table.Entry.{Entry}
use Rattle.spirv_model.specs.declared.table.Entry.TheVariants.{Skipped, Float, Listed}
use Rattle.spirv_model.specs.declared.table.TheConstants.{ROWS}
use Rattle.spirv_model.specs.Operands.{word_at, entry_of, class_in, class_of, listed_of, kinds_from, kinds_in, kinds}
use Rattle.spirv_model.specs.Module.{words_of, module_words}
use Rattle.valid_model.specs.Definitions.{inst_at, no_instruction}
use Rattle.check_model.specs.Validity.{IsValidList}
use Rattle.stage_model.specs.Value.{Value, Truth, Word, Composite, Pointer, Outside}
use Rattle.typed_model.proofs.ResultIds.{in_rows}
use Rattle.typed_model.proofs.ValidModules.{valid_sound}
use Rattle.change_model.specs.Constants.{scalar_constant}
use Rattle.change_model.specs.Folding.{moved_up}
use Rattle.change_model.proofs.FoldedRuns.{is_scalar_class, is_scalar}
use Rattle.change_model.proofs.KnownResults.{without_one}
use Rattle.change_model.proofs.MovedUp.{moved_up_is}
use Rattle.change_model.proofs.FoldedMeanings.{by_level}

-- ---- a scalar operation has at least three words behind its first

abbrev pub is_type_operand : Option Operand → Bool
is_type_operand (Some IdResultType) = true
is_type_operand other = false

abbrev pub is_result_operand : Option Operand → Bool
is_result_operand (Some IdResult) = true
is_result_operand other = false

abbrev pub is_ref_operand : Option Operand → Bool
is_ref_operand (Some IdRef) = true
is_ref_operand other = false

pub type_operand : (o : Option Operand) → is_type_operand o ≡ true → o ≡ Some IdResultType
type_operand (Some IdResultType) is = refl
type_operand other is = cc

pub result_operand : (o : Option Operand) → is_result_operand o ≡ true → o ≡ Some IdResult
result_operand (Some IdResult) is = refl
result_operand other is = cc

ref_operand : (o : Option Operand) → is_ref_operand o ≡ true → o ≡ Some IdRef
ref_operand (Some IdRef) is = refl
ref_operand other is = cc

-- the operands begin with the result's type, the result and an id
abbrev pub begins_so : Operands → Bool
begins_so operands = is_type_operand operands.listed.0 && (is_result_operand operands.listed.1 && is_ref_operand operands.listed.2)

abbrev implies : Bool → Bool → Bool
implies true b = b
implies false b = true

abbrev pub is_long_row : ℕ → Option Entry → Bool
is_long_row opcode (Some (Listed of operands)) = implies (is_scalar_class (Some of)) (begins_so operands)
is_long_row opcode entry = true

all_long : list_all (λ row. is_long_row row.op (Some row.entry)) ROWS ≡ true
all_long = refl

pub long_row : (opcode : ℕ) → is_long_row opcode (entry_of opcode) ≡ true
unfolding entry_of
long_row opcode = in_rows is_long_row (λ opcode. refl) ROWS opcode all_long

pub implied : (a b : Bool) → a ≡ true → implies a b ≡ true → b ≡ true
implied true b is so = so
implied false b is so = cc

pub both : (a b : Bool) → (a && b) ≡ true → (a ≡ true) × (b ≡ true)
both true b is = (refl, is)
both false b is = cc

long_listed : (more : List (Option Operand)) (rest : Rest) (words : List ℕ) → is_some (kinds_from (Some IdResultType ∷ Some IdResult ∷ Some IdRef ∷ more) rest words) ≡ true → 3 ≤ length words
long_listed more rest [] fits = cc
long_listed more rest (a ∷ []) fits = cc
long_listed more rest (a ∷ b ∷ []) fits = cc
long_listed more rest (a ∷ b ∷ c ∷ words) fits = omega arith

long_operands : (operands : Operands) (words : List ℕ) → begins_so operands ≡ true → is_some (kinds_from (listed_of operands) operands.rest words) ≡ true → 3 ≤ length words
long_operands operands words begins fits =
    let one = both (is_type_operand operands.listed.0) (is_result_operand operands.listed.1 && is_ref_operand operands.listed.2) begins in
    let two = both (is_result_operand operands.listed.1) (is_ref_operand operands.listed.2) one.1 in
    long_listed (operands.listed.3 ∷ operands.listed.4 ∷ []) operands.rest words
    (sym (ap (λ (o : Option Operand). is_some (kinds_from (o ∷ operands.listed.1 ∷ operands.listed.2 ∷ operands.listed.3 ∷ operands.listed.4 ∷ []) operands.rest words)) (type_operand operands.listed.0 one.0)
    ∙ ap (λ (o : Option Operand). is_some (kinds_from (Some IdResultType ∷ o ∷ operands.listed.2 ∷ operands.listed.3 ∷ operands.listed.4 ∷ []) operands.rest words)) (result_operand operands.listed.1 two.0)
    ∙ ap (λ (o : Option Operand). is_some (kinds_from (Some IdResultType ∷ Some IdResult ∷ o ∷ operands.listed.3 ∷ operands.listed.4 ∷ []) operands.rest words)) (ref_operand operands.listed.2 two.1)) ∙ fits)

long_entry : (opcode : ℕ) (entry : Option Entry) (words : List ℕ) → is_scalar_class (class_in entry) ≡ true → is_long_row opcode entry ≡ true → is_some (kinds_in entry words) ≡ true → 3 ≤ length words
long_entry opcode (Some (Listed of operands)) words is long fits = long_operands operands words (implied (is_scalar_class (Some of)) (begins_so operands) is long) fits
long_entry opcode (Some Skipped) words is long fits = cc
long_entry opcode (Some Float) words is long fits = cc
long_entry opcode None words is long fits = cc

pub scalar_long : (inst : Inst) → is_scalar inst.op ≡ true → is_some (kinds inst) ≡ true → 3 ≤ length inst.words
unfolding class_of kinds
scalar_long inst is fits = long_entry inst.op (entry_of inst.op) inst.words is (long_row inst.op) fits

-- ---- the constant has at most three

same_inst : (a b : Inst) → ◌≡◌ {A = Option Inst} (Some a) (Some b) → a ≡ b
same_inst a b is = cc

pub constant_short : (type id : ℕ) (value : Value) (constant : Inst) → scalar_constant type id (Some value) ≡ Some constant → length constant.words ≤ 3
constant_short type id (Truth true) constant is = subst (λ (i : Inst). length i.words ≤ 3) (same_inst _ constant is) (omega arith)
constant_short type id (Truth false) constant is = subst (λ (i : Inst). length i.words ≤ 3) (same_inst _ constant is) (omega arith)
constant_short type id (Word word) constant is = subst (λ (i : Inst). length i.words ≤ 3) (same_inst _ constant is) (omega arith)
constant_short type id (Composite parts) constant is = cc
constant_short type id (Pointer variable indices) constant is = cc
constant_short type id Outside constant is = cc

-- ---- all of them

abbrev pub size : List Inst → ℕ
size insts = length (flat_map words_of insts)

pub size_more : (inst : Inst) (insts : List Inst) → size (inst ∷ insts) ≡ length inst.words + 1 + size insts
size_more inst insts = let e = length-append (words_of inst) (flat_map words_of insts) in omega (arith, e)

pub size_both : (xs ys : List Inst) → size (xs ++ ys) ≡ size xs + size ys
size_both xs ys = ap length (flat_map-append words_of xs ys) ∙ length-append (flat_map words_of xs) (flat_map words_of ys)

size_without : (insts : List Inst) (gone : ℕ) → gone < length insts → size insts ≡ size (without_one gone insts) + (length (inst_at insts gone).words + 1)
unfolding without_one
size_without [] gone within = absurd (omega (arith, within))
size_without (inst ∷ insts) zero within = let e = size_more inst insts in omega (arith, e)
size_without (inst ∷ insts) (suc gone) within =
    let rest = size_without insts gone (omega (arith, within)) in
    let a = size_more inst insts in let b = size_more inst (take gone insts ++ drop (suc gone) insts) in
    sum_of (size (inst ∷ insts)) (size insts) (size (inst ∷ (take gone insts ++ drop (suc gone) insts))) (size (take gone insts ++ drop (suc gone) insts)) (length inst.words + 1) (length (inst_at insts gone).words + 1) a rest b
  where
    sum_of : (a b c e n k : ℕ) → a ≡ n + b → b ≡ e + k → c ≡ n + e → a ≡ c + k
    sum_of a b c e n k p q r = omega (arith, p, q, r)

pub whole_size : (insts : List Inst) (bound : ℕ) → length (module_words insts bound) ≡ 5 + size insts
whole_size insts bound = omega arith

no_more : (new old level constant function without gone rest : ℕ) → new ≡ level + (constant + 1 + (function + 1 + without)) → old ≡ level + (function + 1 + rest) → rest ≡ without + (gone + 1) → constant ≤ gone → new ≤ old
no_more new old level constant function without gone rest a b c less = omega (arith, a, b, c, less)

-- in a valid module a scalar operation has at least as many words as the constant of its value
pub fold_shortens : (words : Words) (v : IsValidList words) (gone : ℕ) (constant : Inst) (value : Value) → v.derivation.before + 1 + gone < length words.insts → is_scalar (inst_at words.insts (v.derivation.before + 1 + gone)).op ≡ true
    → scalar_constant (word_at 0 (inst_at words.insts (v.derivation.before + 1 + gone))) (word_at 1 (inst_at words.insts (v.derivation.before + 1 + gone))) (Some value) ≡ Some constant
    → length (module_words (moved_up (v.derivation.before + 1 + gone) constant words.insts) words.bound) ≤ length (module_words words.insts words.bound)
fold_shortens words v gone constant value within scalar is =
    let insts = words.insts in let d = v.derivation in
    let place = d.before + 1 + gone in
    let x = inst_at insts place in
    let level = take d.before insts in let fn = inst_at insts d.before in let rest = drop (d.before + 1) insts in
    let new = moved_up place constant insts in
    let short = constant_short (word_at 0 x) (word_at 1 x) value constant is in
    let long = scalar_long x scalar ((valid_sound words v).shaped place within) in
    let e = length-drop (d.before + 1) insts in
    let same : length (inst_at rest gone).words ≡ length x.words = ap (λ (i : Inst). length i.words) (get_or-drop (d.before + 1) insts gone no_instruction) in
    let new_size : size new ≡ size level + (length constant.words + 1 + (length fn.words + 1 + size (without_one gone rest))) =
    ap size (moved_up_is insts d gone constant) ∙ size_both level (constant ∷ fn ∷ without_one gone rest)
    ∙ ap (λ (n : ℕ). size level + n) (size_more constant (fn ∷ without_one gone rest) ∙ ap (λ (n : ℕ). length constant.words + 1 + n) (size_more fn (without_one gone rest))) in
    let old_size : size insts ≡ size level + (length fn.words + 1 + size rest) = ap size (by_level insts d) ∙ size_both level (fn ∷ rest) ∙ ap (λ (n : ℕ). size level + n) (size_more fn rest) in
    let rest_size = size_without rest gone (omega (arith, e, within)) in
    let less : size new ≤ size insts =
    no_more (size new) (size insts) (size level) (length constant.words) (length fn.words) (size (without_one gone rest)) (length (inst_at rest gone).words) (size rest) new_size old_size rest_size (omega (arith, short, long, same)) in
    let a = whole_size new words.bound in let b = whole_size insts words.bound in
    omega (arith, less, a, b)
