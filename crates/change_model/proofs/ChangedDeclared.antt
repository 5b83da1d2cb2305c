-- What the list that a plan makes declares is allowed.
use Rattle.std.proofs.Common.{◌≡◌, ℕ, ◌<◌, ◌≤◌, ◌==◌, ◌&&◌, ◌||◌, not, inl, inr, Bool, true, false, if◌then◌else◌, List, [], ◌∷◌, length, slice_index, refl, ap, sym, ◌∙◌, subst, arith}
use Rattle.std.specs.Prelude.{is_some, is_none}
use Rattle.std.proofs.lemmas.Bool.{cases_lt}
use Rattle.std.proofs.lemmas.Bool.Decides.{nat_tests}
use Rattle.spirv_model.specs.declared.module.Inst.{Inst}
use Rattle.spirv_model.specs.declared.op.TheConstants as op
use Rattle.spirv_model.specs.Operands.{word_at, entry_of, class_of, kinds_in, kinds}
use Rattle.valid_model.specs.declared.meaning.Shape.TheVariants.{Void, Pointer, Function}
use Rattle.valid_model.specs.declared.meaning.Meaning.{Meaning}
use Rattle.valid_model.specs.declared.meaning.Meaning.TheVariants.{Shape as OfShape}
use Rattle.valid_model.specs.Definitions.{inst_at}
use Rattle.valid_model.specs.FirstFault.{bad_type}
use Rattle.valid_model.specs.Knowledge.{Knowledge, is_void, meaning_in}
use Rattle.valid_model.specs.Types.{is_type_class, is_type, is_pointer_of, is_function, type_of, breaks_types, has_later_type}
use Rattle.valid_model.specs.Meanings.{known_by, known_before}
use Rattle.typed_model.proofs.BlockParts.{another, clash}
use Rattle.typed_model.proofs.ValidModules.{valid_sound}
use Rattle.typed_model.proofs.ValidTypes.{keeps_rules, unbroken, pointer_by, stays_known}
use Rattle.change_model.specs.Folding.{function_at}
use Rattle.change_model.specs.Plans.{Plan, changed, kept_at, phi_left, predecessors_left, block_at, renamed_by}
use Rattle.change_model.specs.Settling.{is_plain_constant_class}
use Rattle.change_model.proofs.BehindLevel.{BehindLevel, new_one, written_one, behind_level, fails_function, fails_written, type_fails}
use Rattle.change_model.proofs.ChangedMeanings.{level_before, level_inst}
use Rattle.change_model.proofs.ChangedNames.{name_of_type}
use Rattle.change_model.proofs.ChangedPlaces.{function_within}
use Rattle.change_model.proofs.ChangedTypes.{later_changed, type_behind, breaks_none}
use Rattle.change_model.proofs.ChangedVariables.{written_variable}
use Rattle.change_model.proofs.NewConstants.{new_is_plain}
use Rattle.change_model.proofs.Planned.{Planned, IsWritten, keeps, goes, picks}
use Rattle.change_model.proofs.RenamedWords.{place_in, is_second, kept_result}
use Rattle.change_model.proofs.SettledMeanings.{constant_is_no_type}
use Rattle.change_model.proofs.Settlings.{op_is}

self : (a : ℕ) → a == a ≡ true
self a = grind (arith, nat_tests)

-- ---- variables

variable_allowed : (g : Planned) (old k : ℕ) → function_at g.words.insts ≤ old → old < length g.words.insts → function_at g.words.insts ≤ k → (inst_at g.words.insts old).op == op.VARIABLE ≡ true
    → is_pointer_of (word_at 2 (inst_at g.words.insts old)) (meaning_in (known_before (changed g.plan g.words.insts) k (word_at 0 (inst_at g.words.insts old)))) ≡ true
variable_allowed g old k low within late is =
    let inst = inst_at g.words.insts old in
    let points = unbroken (known_before g.words.insts old) inst (keeps_rules g.words g.valid.sound old within).types (fails_function g is_type_class type_fails old low within) is in
    let p = pointer_by (meaning_in (known_before g.words.insts old (word_at 0 inst))) (word_at 2 inst) points in
    ap (is_pointer_of (word_at 2 inst)) (type_behind g old k (word_at 0 inst) (Pointer (word_at 2 inst) p.0) late p.1) ∙ self (word_at 2 inst)

-- ---- the function

unbroken_function : (known : Knowledge) (inst : Inst) → breaks_types known inst ≡ false → is_type inst.op ≡ false → inst.op == op.FUNCTION ≡ true
    → (is_void (meaning_in (known (word_at 0 inst))) && is_function (meaning_in (known (word_at 3 inst)))) ≡ true
unfolding breaks_types
unbroken_function known inst breaks no_type is = by_tests (is_type inst.op) (inst.op == op.VARIABLE) (inst.op == op.FUNCTION) no_type (no_variable inst.op is) is breaks
  where
    no_variable : (o : ℕ) → o == op.FUNCTION ≡ true → o == op.VARIABLE ≡ false
    no_variable o is = ap (λ (n : ℕ). n == op.VARIABLE) (op_is o op.FUNCTION is)

    not_false : (b : Bool) → not b ≡ false → b ≡ true
    not_false true is = refl
    not_false false is = cc

    by_tests : (a b c : Bool) → a ≡ false → b ≡ false → c ≡ true
        → (if a then is_none (type_of known inst) else if b then not (is_pointer_of (word_at 2 inst) (meaning_in (known (word_at 0 inst))))
        else if c then not (is_void (meaning_in (known (word_at 0 inst))) && is_function (meaning_in (known (word_at 3 inst)))) else false) ≡ false
        → (is_void (meaning_in (known (word_at 0 inst))) && is_function (meaning_in (known (word_at 3 inst)))) ≡ true
    by_tests true b c first second third is = cc
    by_tests false true c first second third is = cc
    by_tests false false false first second third is = cc
    by_tests false false true first second third is = not_false (is_void (meaning_in (known (word_at 0 inst))) && is_function (meaning_in (known (word_at 3 inst)))) is

void_by : (m : Meaning) → is_void m ≡ true → m ≡ OfShape Void
void_by (OfShape Void) is = refl
void_by m is = cc

function_by : (m : Meaning) → is_function m ≡ true → m ≡ OfShape Function
function_by (OfShape Function) is = refl
function_by m is = cc

both_of : (a b : Bool) → a ≡ true → b ≡ true → (a && b) ≡ true
both_of true b is also = also
both_of false b is also = cc

first_of : (a b : Bool) → (a && b) ≡ true → (a ≡ true) × (b ≡ true)
first_of true b is = (refl, is)
first_of false b is = cc

fourth_word : (name : ℕ → ℕ) (words : List ℕ) → is_some (kinds_in (entry_of op.FUNCTION) words) ≡ true → slice_index (renamed_by name (kinds_in (entry_of op.FUNCTION) words) words) 3 ≡ name (slice_index words 3)
unfolding entry_of
fourth_word name [] fits = cc
fourth_word name (a ∷ []) fits = cc
fourth_word name (a ∷ b ∷ []) fits = cc
fourth_word name (a ∷ b ∷ c ∷ []) fits = cc
fourth_word name (a ∷ b ∷ c ∷ d ∷ []) fits = refl
fourth_word name (a ∷ b ∷ c ∷ d ∷ e ∷ words) fits = cc

fourth_kept : (plan : Plan) (insts : List Inst) (place : ℕ) (inst : Inst) → inst.op ≡ op.FUNCTION → is_some (kinds inst) ≡ true → word_at 3 (kept_at plan insts place inst) ≡ plan.name (word_at 3 inst)
unfolding kinds
fourth_kept plan insts place inst is fits =
    ap (λ (b : Bool). word_at 3 (if b then phi_left plan.name (predecessors_left plan insts (block_at insts place)) inst else record inst { words = renamed_by plan.name (kinds inst) inst.words }))
    (ap (λ (o : ℕ). o == op.PHI) is)
    ∙ ap (λ (o : ℕ). slice_index (renamed_by plan.name (kinds_in (entry_of o) inst.words) inst.words) 3) is
    ∙ fourth_word plan.name inst.words (ap (λ (o : ℕ). is_some (kinds_in (entry_of o) inst.words)) (sym is) ∙ fits)

function_typed : is_second (place_in (entry_of op.FUNCTION)) ≡ true
unfolding entry_of
function_typed = refl

function_allowed : (g : Planned) (old k : ℕ) (inst : Inst) → kept_at g.plan g.words.insts old (inst_at g.words.insts old) ≡ inst → function_at g.words.insts ≤ old → old < length g.words.insts → function_at g.words.insts ≤ k
    → inst.op == op.FUNCTION ≡ true
    → (is_void (meaning_in (known_before (changed g.plan g.words.insts) k (word_at 0 inst))) && is_function (meaning_in (known_before (changed g.plan g.words.insts) k (word_at 3 inst)))) ≡ true
function_allowed g old k inst at low within late is =
    let before = inst_at g.words.insts old in
    let list = changed g.plan g.words.insts in
    let kept = kept_result g.plan g.words.insts old before in
    let same_op : before.op ≡ op.FUNCTION = sym kept.op ∙ ap (λ (i : Inst). i.op) at ∙ op_is inst.op op.FUNCTION is in
    let both = first_of (is_void (meaning_in (known_before g.words.insts old (word_at 0 before)))) (is_function (meaning_in (known_before g.words.insts old (word_at 3 before))))
    (unbroken_function (known_before g.words.insts old) before (keeps_rules g.words g.valid.sound old within).types (fails_function g is_type_class type_fails old low within)
    (ap (λ (o : ℕ). o == op.FUNCTION) same_op ∙ self op.FUNCTION)) in
    let void = void_by (meaning_in (known_before g.words.insts old (word_at 0 before))) both.0 in
    let func = function_by (meaning_in (known_before g.words.insts old (word_at 3 before))) both.1 in
    let first_word : word_at 0 inst ≡ word_at 0 before = ap (word_at 0) (sym at) ∙ kept.front.type (ap (λ (o : ℕ). is_second (place_in (entry_of o))) same_op ∙ function_typed) in
    let named = name_of_type g (word_at 3 before) Function (stays_known g.words.insts old (word_at 3 before) Function (known_before g.words.insts old (word_at 3 before)) refl func) in
    let last_word : word_at 3 inst ≡ word_at 3 before = ap (word_at 3) (sym at) ∙ fourth_kept g.plan g.words.insts old before same_op ((valid_sound g.words g.valid).shaped old within) ∙ named in
    both_of (is_void (meaning_in (known_before list k (word_at 0 inst)))) (is_function (meaning_in (known_before list k (word_at 3 inst))))
    (ap (λ (n : ℕ). is_void (meaning_in (known_before list k n))) first_word ∙ ap is_void (type_behind g old k (word_at 0 before) Void late void))
    (ap (λ (n : ℕ). is_function (meaning_in (known_before list k n))) last_word ∙ ap is_function (type_behind g old k (word_at 3 before) Function late func))

-- ---- all of them

record AreNo : Type 0 where
  branch_variable : op.BRANCH == op.VARIABLE ≡ false
  branch_function : op.BRANCH == op.FUNCTION ≡ false
  switch_variable : op.SWITCH == op.VARIABLE ≡ false
  switch_function : op.SWITCH == op.FUNCTION ≡ false
  constant_variable : is_plain_constant_class (class_of op.VARIABLE) ≡ false
  constant_function : is_plain_constant_class (class_of op.FUNCTION) ≡ false

are_no : AreNo
unfolding class_of entry_of
are_no = record { branch_variable = refl; branch_function = refl; switch_variable = refl; switch_function = refl; constant_variable = refl; constant_function = refl }

written_allowed : (g : Planned) (old k : ℕ) (inst : Inst) → IsWritten g old inst → function_at g.words.insts ≤ old → old < length g.words.insts → function_at g.words.insts ≤ k → breaks_types (known_before (changed g.plan g.words.insts) k) inst ≡ false
written_allowed g old k inst w low within late = by_kind w
  where
    known : Knowledge
    known = known_before (changed g.plan g.words.insts) k

    variable : inst.op == op.VARIABLE ≡ true → is_pointer_of (word_at 2 inst) (meaning_in (known_before (changed g.plan g.words.insts) k (word_at 0 inst))) ≡ true
    variable is =
        let e = written_variable g old inst w is in
        subst (λ (i : Inst). is_pointer_of (word_at 2 i) (meaning_in (known_before (changed g.plan g.words.insts) k (word_at 0 i))) ≡ true) e
        (variable_allowed g old k low within late (ap (λ (i : Inst). i.op == op.VARIABLE) e ∙ is))

    by_kind : IsWritten g old inst → breaks_types (known_before (changed g.plan g.words.insts) k) inst ≡ false
    by_kind (keeps same at) = breaks_none known inst (fails_written g is_type_class type_fails old inst w low within) variable (function_allowed g old k inst at low within late)
    by_kind (goes label same may at) = breaks_none known inst (fails_written g is_type_class type_fails old inst w low within) variable
        (λ is. absurd (clash (inst.op == op.FUNCTION) is (ap (λ (i : Inst). i.op == op.FUNCTION) (sym at) ∙ are_no.branch_function)))
    by_kind (picks label same may at) = breaks_none known inst (fails_written g is_type_class type_fails old inst w low within) variable
        (λ is. absurd (clash (inst.op == op.FUNCTION) is (ap (λ (i : Inst). i.op == op.FUNCTION) (sym at) ∙ are_no.switch_function)))

allowed_behind : (g : Planned) (k : ℕ) → function_at g.words.insts ≤ k → BehindLevel g k → breaks_types (known_before (changed g.plan g.words.insts) k) (inst_at (changed g.plan g.words.insts) k) ≡ false
allowed_behind g k late (written_one old inst w least most there at) =
    ap (breaks_types (known_before (changed g.plan g.words.insts) k)) at ∙ written_allowed g old k inst w least most late
allowed_behind g k late (new_one old inst n least most there at) =
    let c = (new_is_plain g old inst n).class_is in
    ap (breaks_types (known_before (changed g.plan g.words.insts) k)) at
    ∙ breaks_none (known_before (changed g.plan g.words.insts) k) inst (constant_is_no_type (class_of inst.op) c)
    (λ is. absurd (clash (inst.op == op.VARIABLE) is (another (λ o. is_plain_constant_class (class_of o)) op.VARIABLE are_no.constant_variable inst.op c)))
    (λ is. absurd (clash (inst.op == op.FUNCTION) is (another (λ o. is_plain_constant_class (class_of o)) op.FUNCTION are_no.constant_function inst.op c)))

short_of : (a b : ℕ) → a < b → a ≤ b
short_of a b less = omega (arith, less)

pub types_changed : (g : Planned) (k : ℕ) → k < length (changed g.plan g.words.insts) → bad_type (changed g.plan g.words.insts) k ≡ false
unfolding bad_type
types_changed g k within =
    ap (λ (b : Bool). b || has_later_type (changed g.plan g.words.insts) k) allowed ∙ later_changed g k within
  where
    allowed : breaks_types (known_before (changed g.plan g.words.insts) k) (inst_at (changed g.plan g.words.insts) k) ≡ false
    allowed = elim (cases_lt k (function_at g.words.insts)) [
      | inl low ↦
          let most = function_within g.words.insts in
          ap (λ (l : List Inst). breaks_types (known_by l) (inst_at (changed g.plan g.words.insts) k)) (level_before g k (short_of k (function_at g.words.insts) low))
          ∙ ap (breaks_types (known_before g.words.insts k)) (level_inst g k low) ∙ (keeps_rules g.words g.valid.sound k (omega (arith, low, most))).types
      | inr late ↦ allowed_behind g k late (behind_level g k late within)
    ]
