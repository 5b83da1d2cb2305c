-- Variables stand where those of their class do in the list that a plan makes, and nothing is stored where it may only be read.
use Rattle.std.proofs.Common.{◌≡◌, ℕ, ◌<◌, ◌≤◌, ◌==◌, inl, inr, Bool, true, false, List, [], ◌∷◌, length, take, refl, ap, sym, ◌∙◌, arith, None, is_some}
use Rattle.std.specs.List.{list_any}
use Rattle.std.proofs.lemmas.Bool.{cases_lt}
use Rattle.spirv_model.specs.declared.module.Inst.{Inst}
use Rattle.spirv_model.specs.declared.op.TheConstants as op
use Rattle.spirv_model.specs.declared.storage_class.TheConstants as storage_class
use Rattle.spirv_model.specs.Operands.{word_at, entry_of, class_of, kinds}
use Rattle.body_model.specs.Classes.{is_module_level}
use Rattle.valid_model.specs.Definitions.{inst_at}
use Rattle.check_model.specs.EntryPoints.{is_op_function}
use Rattle.check_model.specs.Intervals.{Interval}
use Rattle.check_model.specs.Storage.{points_to_read_only, is_in_function, is_wrong_storage}
use Rattle.check_model.specs.Typing.{Typing, typing_of, type_of}
use Rattle.check_model.specs.Validity.{has_wrong_storage}
use Rattle.check_model.specs.Visibility.{used_ids, not_visible}
use Rattle.typed_model.proofs.BlockParts.{another, clash}
use Rattle.typed_model.proofs.EffectsRun.{instruction}
use Rattle.typed_model.proofs.PlainRuns.{at_op}
use Rattle.typed_model.proofs.ReadTypes.{Each}
use Rattle.typed_model.proofs.ValidModules.{valid_sound, valid_stored}
use Rattle.change_model.specs.Folding.{function_at}
use Rattle.change_model.specs.Plans.{changed, kept_at}
use Rattle.change_model.specs.Settling.{is_plain_constant_class}
use Rattle.change_model.proofs.AlikeTypes.{AreAlike, IsAlike, read_only_by, says_alike}
use Rattle.change_model.proofs.BehindLevel.{BehindLevel, new_one, written_one, behind_level}
use Rattle.change_model.proofs.ChangedDecorated.{any_there}
use Rattle.change_model.proofs.ChangedDefinitions.{written_there}
use Rattle.change_model.proofs.ChangedEntry.{first_op, first_within, function_new, function_written}
use Rattle.change_model.proofs.ChangedMeanings.{level_before, level_inst}
use Rattle.change_model.proofs.ChangedPlaces.{function_within, place_left, rises_behind}
use Rattle.change_model.proofs.ChangedVariables.{written_variable, variable_new}
use Rattle.change_model.proofs.MovedUp.{function_is, level_inst as level_class}
use Rattle.change_model.proofs.NamedAlike.{are_alike}
use Rattle.change_model.proofs.NewConstants.{new_is_plain}
use Rattle.change_model.proofs.Planned.{Planned, IsWritten, keeps, goes, picks}
use Rattle.change_model.proofs.PlanOperands.{IsGiven, used_there, given_alike}
use Rattle.change_model.proofs.PlanRunsRenamed.{renamed}
use Rattle.change_model.proofs.PlanRunsRoots.{kept_plain}
use Rattle.change_model.proofs.RenamedWords.{kept_result}
use Rattle.change_model.proofs.SettledOperands.{constant_storage}
use Rattle.change_model.proofs.Settlings.{op_is}

-- ---- which rule an opcode has

no_level_store : is_module_level op.STORE ≡ false
unfolding class_of entry_of
no_level_store = refl

-- no store asks nothing of types
free_storage : (typing also : Typing) (inside : Bool) (inst : Inst) → inst.op == op.STORE ≡ false → is_wrong_storage typing inside inst ≡ is_wrong_storage also inside inst
unfolding is_wrong_storage
free_storage typing also inside inst isnt = rw isnt refl

-- neither does what is no variable
pub storage_of_none : (typing : Typing) (inside : Bool) (inst : Inst) → inst.op == op.STORE ≡ false → inst.op == op.VARIABLE ≡ false → is_wrong_storage typing inside inst ≡ false
unfolding is_wrong_storage
storage_of_none typing inside inst isnt neither = rw isnt (rw neither refl)

pub storage_of_store : (typing : Typing) (inside : Bool) (inst : Inst) → inst.op == op.STORE ≡ true → is_wrong_storage typing inside inst ≡ points_to_read_only (type_of typing (word_at 0 inst))
unfolding is_wrong_storage
storage_of_store typing inside inst is = rw is refl

-- a variable of class Function inside
storage_of_variable : (typing : Typing) (inside : Bool) (inst : Inst) → inst.op == op.STORE ≡ false → inst.op == op.VARIABLE ≡ true → inside ≡ true → word_at 2 inst == storage_class.FUNCTION ≡ true → is_wrong_storage typing inside inst ≡ false
unfolding is_wrong_storage
storage_of_variable typing inside inst isnt is within class = rw isnt (rw is (rw within (rw class refl)))

-- ---- the module's level

old_good : (g : Planned) (k : ℕ) → k < length g.words.insts → is_wrong_storage (typing_of g.words.insts) (is_in_function g.words.insts k) (inst_at g.words.insts k) ≡ false
unfolding has_wrong_storage
old_good g k within = valid_stored g.words g.valid k within

inside_level : (g : Planned) (k : ℕ) → k < function_at g.words.insts → is_in_function (changed g.plan g.words.insts) k ≡ is_in_function g.words.insts k
unfolding is_in_function
inside_level g k low = ap (list_any is_op_function) (level_before g k (below k (function_at g.words.insts) low))
  where
    below : (a b : ℕ) → a < b → a ≤ b
    below a b less = omega (arith, less)

level_good : (g : Planned) (k : ℕ) → k < function_at g.words.insts → is_wrong_storage (typing_of (changed g.plan g.words.insts)) (is_in_function (changed g.plan g.words.insts) k) (inst_at (changed g.plan g.words.insts) k) ≡ false
level_good g k low =
    let insts = g.words.insts in let list = changed g.plan insts in
    let most = function_within insts in
    let first = function_is insts g.valid.derivation in
    ap (is_wrong_storage (typing_of list) (is_in_function list k)) (level_inst g k low)
    ∙ ap (λ (b : Bool). is_wrong_storage (typing_of list) b (inst_at insts k)) (inside_level g k low)
    ∙ free_storage (typing_of list) (typing_of insts) (is_in_function insts k) (inst_at insts k)
    (another is_module_level op.STORE no_level_store (inst_at insts k).op (level_class insts g.valid.derivation k (omega (arith, low, first))))
    ∙ old_good g k (omega (arith, low, most))

-- ---- stores

pub store_words : (new old : Typing) (name : ℕ → ℕ) → AreAlike new old → (P : ℕ → Type 0) → ((id : ℕ) → P (name id) → IsAlike new old (name id) id) → (words : List ℕ) → is_some (kinds (instruction op.STORE words)) ≡ true
    → Each P (used_ids (renamed name (instruction op.STORE words))) → points_to_read_only (type_of new (word_at 0 (renamed name (instruction op.STORE words)))) ≡ points_to_read_only (type_of old (word_at 0 (instruction op.STORE words)))
unfolding kinds class_of entry_of used_ids
store_words new old name a P alike (pointer ∷ object ∷ []) has used = says_alike points_to_read_only read_only_by new old a (name pointer) pointer (alike pointer used.0)
store_words new old name a P alike (pointer ∷ object ∷ more ∷ words) has used = cc
store_words new old name a P alike (pointer ∷ []) has used = cc
store_words new old name a P alike [] has used = cc

-- ---- what is written

no_store : (opcode : ℕ) → opcode == op.VARIABLE ≡ true → opcode == op.STORE ≡ false
no_store opcode is = ap (λ (o : ℕ). o == op.STORE) (op_is opcode op.VARIABLE is)

no_constant : is_plain_constant_class (class_of op.VARIABLE) ≡ false
unfolding class_of entry_of
no_constant = refl

-- a variable behind the module's level stands in the function
function_before : (g : Planned) (k : ℕ) → function_at g.words.insts ≤ k → k < length (changed g.plan g.words.insts) → (inst_at (changed g.plan g.words.insts) k).op == op.VARIABLE ≡ true → is_in_function (changed g.plan g.words.insts) k ≡ true
unfolding is_in_function
function_before g k late within is = by_kind (behind_level g k late within)
  where
    insts : List Inst
    insts = g.words.insts

    list : List Inst
    list = changed g.plan g.words.insts

    by_kind : BehindLevel g k → list_any is_op_function (take k list) ≡ true
    by_kind (new_one old inst n least most there at) =
        absurd (clash (inst.op == op.VARIABLE) (ap (λ (i : Inst). i.op == op.VARIABLE) (sym at) ∙ is) (another (λ o. is_plain_constant_class (class_of o)) op.VARIABLE no_constant inst.op (new_is_plain g old inst n).class_is))
    by_kind (written_one old inst w least most there at) =
        let first = function_at insts in
        let e = written_variable g old inst w (ap (λ (i : Inst). i.op == op.VARIABLE) (sym at) ∙ is) in
        let differs : first ≡ old → ⊥ =
        (λ same. clash ((inst_at insts old).op == op.VARIABLE) (ap (λ (i : Inst). i.op == op.VARIABLE) (e ∙ sym at) ∙ is)
        (ap (λ (o : ℕ). o == op.VARIABLE) (ap (λ (n : ℕ). (inst_at insts n).op) (sym same) ∙ first_op g))) in
        let before = function_written g in
        let behind = rises_behind g.plan insts first old (function_new g) (omega arith) (less_of first old least differs) before in
        any_there is_op_function k list (place_left g.plan insts first) (omega (arith, behind, there)) (omega (arith, behind, there, within))
        (ap is_op_function (written_there g first (function_new g) (omega arith) (first_within g) before)
        ∙ ap (λ (o : ℕ). o == op.FUNCTION) ((kept_result g.plan insts first (inst_at insts first)).op ∙ first_op g))
      where
        less_of : (a b : ℕ) → a ≤ b → (a ≡ b → ⊥) → a < b
        less_of a b least differs = elim (cases_lt a b) [ inl less ↦ less | inr upto ↦ absurd (differs (omega (arith, least, upto))) ]

module _ (g : Planned) (intervals : List Interval) (seen : (k : ℕ) → k < length (changed g.plan g.words.insts) → not_visible intervals (changed g.plan g.words.insts) k ≡ None) (k : ℕ) (within : k < length (changed g.plan g.words.insts)) where
  store_good : (old : ℕ) (inst : Inst) → old < length g.words.insts → kept_at g.plan g.words.insts old (inst_at g.words.insts old) ≡ inst → inst_at (changed g.plan g.words.insts) k ≡ inst → inst.op == op.STORE ≡ true
      → is_wrong_storage (typing_of (changed g.plan g.words.insts)) (is_in_function (changed g.plan g.words.insts) k) inst ≡ false
  store_good old inst most is at store =
      let insts = g.words.insts in let list = changed g.plan insts in
      let before = inst_at insts old in
      let op_store : before.op == op.STORE ≡ true = ap (λ (o : ℕ). o == op.STORE) (sym (kept_result g.plan insts old before).op ∙ ap (λ (i : Inst). i.op) is) ∙ store in
      let isnt : before.op == op.PHI ≡ false = ap (λ (o : ℕ). o == op.PHI) (op_is before.op op.STORE op_store) in
      let named : renamed g.plan.name before ≡ inst = sym (kept_plain g.plan insts old before isnt) ∙ is in
      let used = used_there g intervals seen k within (renamed g.plan.name before) (at ∙ sym named) isnt in
      let S : Inst → Type 0 = λ i. is_some (kinds i) ≡ true → Each (IsGiven intervals list) (used_ids (renamed g.plan.name i))
      → points_to_read_only (type_of (typing_of list) (word_at 0 (renamed g.plan.name i))) ≡ points_to_read_only (type_of (typing_of insts) (word_at 0 i)) in
      storage_of_store (typing_of list) (is_in_function list k) inst store
      ∙ ap (λ (i : Inst). points_to_read_only (type_of (typing_of list) (word_at 0 i))) (sym named)
      ∙ at_op S before op.STORE op_store (store_words (typing_of list) (typing_of insts) g.plan.name (are_alike g) (IsGiven intervals list) (given_alike g intervals seen k within) before.words)
      ((valid_sound g.words g.valid).shaped old most) used
      ∙ sym (storage_of_store (typing_of insts) (is_in_function insts old) before op_store) ∙ old_good g old most

  written_good : (old : ℕ) (inst : Inst) → old < length g.words.insts → function_at g.words.insts ≤ k → IsWritten g old inst → inst_at (changed g.plan g.words.insts) k ≡ inst
      → is_wrong_storage (typing_of (changed g.plan g.words.insts)) (is_in_function (changed g.plan g.words.insts) k) inst ≡ false
  written_good old inst most late (goes label same may is) at =
      storage_of_none (typing_of (changed g.plan g.words.insts)) (is_in_function (changed g.plan g.words.insts) k) inst (ap (λ (i : Inst). i.op == op.STORE) (sym is)) (ap (λ (i : Inst). i.op == op.VARIABLE) (sym is))
  written_good old inst most late (picks label same may is) at =
      storage_of_none (typing_of (changed g.plan g.words.insts)) (is_in_function (changed g.plan g.words.insts) k) inst (ap (λ (i : Inst). i.op == op.STORE) (sym is)) (ap (λ (i : Inst). i.op == op.VARIABLE) (sym is))
  written_good old inst most late (keeps same is) at = by_tests (inst.op == op.STORE) refl (inst.op == op.VARIABLE) refl
    where
      list : List Inst
      list = changed g.plan g.words.insts

      by_tests : (b : Bool) → inst.op == op.STORE ≡ b → (c : Bool) → inst.op == op.VARIABLE ≡ c → is_wrong_storage (typing_of list) (is_in_function list k) inst ≡ false
      by_tests true store c _ = store_good old inst most is at store
      by_tests false isnt true variable =
          let there : (inst_at list k).op == op.VARIABLE ≡ true = ap (λ (i : Inst). i.op == op.VARIABLE) at ∙ variable in
          storage_of_variable (typing_of list) (is_in_function list k) inst isnt variable (function_before g k late within there) (sym (ap (λ (i : Inst). word_at 2 i == storage_class.FUNCTION) at) ∙ variable_new g k late within there)
      by_tests false isnt false neither = storage_of_none (typing_of list) (is_in_function list k) inst isnt neither

  good_there : is_wrong_storage (typing_of (changed g.plan g.words.insts)) (is_in_function (changed g.plan g.words.insts) k) (inst_at (changed g.plan g.words.insts) k) ≡ false
  good_there = elim (cases_lt k (function_at g.words.insts)) [ inl low ↦ level_good g k low | inr late ↦ by_kind late (behind_level g k late within) ]
    where
      list : List Inst
      list = changed g.plan g.words.insts

      by_kind : function_at g.words.insts ≤ k → BehindLevel g k → is_wrong_storage (typing_of list) (is_in_function list k) (inst_at list k) ≡ false
      by_kind late (new_one old inst n least most there at) =
          ap (is_wrong_storage (typing_of list) (is_in_function list k)) at ∙ constant_storage (typing_of list) (is_in_function list k) inst (new_is_plain g old inst n).class_is
      by_kind late (written_one old inst w least most there at) = ap (is_wrong_storage (typing_of list) (is_in_function list k)) at ∙ written_good old inst most late w at

-- each variable stands where those of its class do, and each store writes where it may
pub storage_changed : (g : Planned) (intervals : List Interval) → ((k : ℕ) → k < length (changed g.plan g.words.insts) → not_visible intervals (changed g.plan g.words.insts) k ≡ None)
    → (k : ℕ) → k < length (changed g.plan g.words.insts) → has_wrong_storage (changed g.plan g.words.insts) k ≡ false
unfolding has_wrong_storage
storage_changed g intervals seen k within = good_there g intervals seen k within
