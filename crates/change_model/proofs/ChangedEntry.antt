-- The function and the entry point are the same in the list that a plan makes.
use Rattle.std.proofs.Common.{◌≡◌, ℕ, ◌<◌, ◌==◌, inl, inr, true, false, if◌then◌else◌, List, [], ◌∷◌, length, refl, ap, sym, ◌∙◌, arith, Option, None, Some}
use Rattle.std.specs.Option.{option_map}
use Rattle.std.specs.List.{find}
use Rattle.std.proofs.lemmas.Bool.{cases_lt}
use Rattle.std.proofs.lemmas.Bool.Decides.{nat_tests}
use Rattle.spirv_model.specs.declared.module.Inst.{Inst}
use Rattle.spirv_model.specs.declared.op.TheConstants as op
use Rattle.spirv_model.specs.Operands.{word_at, entry_of, class_of, result_in, result}
use Rattle.body_model.specs.Classes.{is_module_level}
use Rattle.body_model.proofs.ClassFacts.{no_level_function}
use Rattle.body_model.proofs.ModuleLevels.{within_list}
use Rattle.valid_model.specs.Definitions.{inst_at}
use Rattle.valid_model.specs.ModuleFacts.{is_entry}
use Rattle.check_model.specs.EntryPoints.{is_op_function, function_id, entry_points, is_one_entry, bad_entry_count}
use Rattle.typed_model.proofs.BlockParts.{another}
use Rattle.change_model.specs.Folding.{function_at}
use Rattle.change_model.specs.Plans.{kept_at, written_as, written_at, changed}
use Rattle.change_model.specs.Settling.{is_plain_constant_class}
use Rattle.change_model.proofs.BehindLevel.{BehindLevel, new_one, written_one, behind_level, setting_filtered, no_setting, are_settings}
use Rattle.change_model.proofs.ChangedDefinitions.{written_there}
use Rattle.change_model.proofs.ChangedMeanings.{level_inst}
use Rattle.change_model.proofs.ChangedPlaces.{place_left, rises, kept_there}
use Rattle.change_model.proofs.FoldedKeeps.{function_op}
use Rattle.change_model.proofs.LevelFinds.{find_first}
use Rattle.change_model.proofs.MovedUp.{function_is, level_inst as level_op}
use Rattle.change_model.proofs.NewConstants.{new_is_plain}
use Rattle.change_model.proofs.Pieces.{got_within}
use Rattle.change_model.proofs.Planned.{Planned}
use Rattle.change_model.proofs.RenamedWords.{kept_result, keeps_result}

-- ---- OpFunction

abbrev first_at : Planned → ℕ
first_at g = function_at g.words.insts

abbrev function_old : Planned → Inst
function_old g = inst_at g.words.insts (function_at g.words.insts)

abbrev pub function_new : Planned → Inst
function_new g = kept_at g.plan g.words.insts (function_at g.words.insts) (inst_at g.words.insts (function_at g.words.insts))

pub first_op : (g : Planned) → (function_old g).op ≡ op.FUNCTION
first_op g = ap (λ (n : ℕ). (inst_at g.words.insts n).op) (function_is g.words.insts g.valid.derivation) ∙ function_op g.words.insts g.valid.derivation

pub first_within : (g : Planned) → first_at g < length g.words.insts
first_within g =
    let e = function_is g.words.insts g.valid.derivation in
    let w = within_list op.FUNCTION g.words.insts g.valid.derivation.before g.valid.derivation.begins.function in
    omega (arith, e, w)

-- it is written
pub function_written : (g : Planned) → written_at g.plan g.words.insts (function_at g.words.insts) ≡ function_new g ∷ []
unfolding written_at
function_written g =
    let e = function_is g.words.insts g.valid.derivation in
    ap (written_as g.plan g.words.insts (function_at g.words.insts) (function_old g)) (g.is.outside (function_at g.words.insts) (inl (omega (arith, e))))

function_result : (inst : Inst) → inst.op ≡ op.FUNCTION → result inst ≡ Some (word_at 1 inst)
unfolding result entry_of
function_result inst is = ap (λ (o : ℕ). result_in (entry_of o) inst) is

self : (a : ℕ) → a == a ≡ true
self a = grind (arith, nat_tests)

is_function : (inst : Inst) → inst.op ≡ op.FUNCTION → is_op_function inst ≡ true
is_function inst is = ap (λ (o : ℕ). o == op.FUNCTION) is ∙ self op.FUNCTION

level_none : (g : Planned) (k : ℕ) → k < function_at g.words.insts → is_op_function (inst_at g.words.insts k) ≡ false
level_none g k low =
    let e = function_is g.words.insts g.valid.derivation in
    another is_module_level op.FUNCTION no_level_function (inst_at g.words.insts k).op (level_op g.words.insts g.valid.derivation k (omega (arith, low, e)))

no_constant : is_plain_constant_class (class_of op.FUNCTION) ≡ false
unfolding class_of entry_of
no_constant = refl

none_before : (g : Planned) (k : ℕ) → k < place_left g.plan g.words.insts (function_at g.words.insts) → k < length (changed g.plan g.words.insts) → is_op_function (inst_at (changed g.plan g.words.insts) k) ≡ false
none_before g k less within = elim (cases_lt k (function_at g.words.insts)) [
  | inl low ↦ ap is_op_function (level_inst g k low) ∙ level_none g k low
  | inr late ↦ by_kind (behind_level g k late within)
]
  where
    by_kind : BehindLevel g k → is_op_function (inst_at (changed g.plan g.words.insts) k) ≡ false
    by_kind (new_one old inst n least most there at) =
        ap is_op_function at ∙ another (λ o. is_plain_constant_class (class_of o)) op.FUNCTION no_constant inst.op (new_is_plain g old inst n).class_is
    by_kind (written_one old inst w least most there at) =
        let more = rises g.plan g.words.insts (function_at g.words.insts) old least in absurd (omega (arith, more, there, less))

pub function_found : (g : Planned) → find is_op_function (changed g.plan g.words.insts) ≡ Some (function_new g)
function_found g =
    let list = changed g.plan g.words.insts in
    let there = place_left g.plan g.words.insts (function_at g.words.insts) in
    let here = written_there g (function_at g.words.insts) (function_new g) (omega arith) (first_within g) (function_written g) in
    let within = got_within list there (function_new g) (kept_there g.plan g.words.insts (function_at g.words.insts) (function_new g) (omega arith) (first_within g) (function_written g)) in
    find_first is_op_function list there within
    (ap is_op_function here ∙ is_function (function_new g) ((kept_result g.plan g.words.insts (function_at g.words.insts) (function_old g)).op ∙ first_op g))
    (λ k less. none_before g k less (omega (arith, less, within)))
    ∙ ap (λ (i : Inst). Some i) here

pub function_id_changed : (g : Planned) → function_id (changed g.plan g.words.insts) ≡ function_id g.words.insts
function_id_changed g =
    let k = kept_result g.plan g.words.insts (function_at g.words.insts) (function_old g) in
    ap (option_map (word_at 1)) (function_found g) ∙ sym (function_result (function_new g) (k.op ∙ first_op g))
    ∙ keeps_result (function_new g) (function_old g) k ∙ function_result (function_old g) (first_op g)
    ∙ sym (ap (option_map (word_at 1)) (find_first is_op_function g.words.insts (function_at g.words.insts) (first_within g) (is_function (function_old g) (first_op g)) (level_none g)))

-- ---- the entry point

pub entry_changed : (g : Planned) → bad_entry_count (changed g.plan g.words.insts) ≡ bad_entry_count g.words.insts
unfolding bad_entry_count
entry_changed g =
    let list = changed g.plan g.words.insts in
    ap (λ (l : List Inst). if is_one_entry (function_id list) l then None else Some (length l))
    (setting_filtered g is_entry (λ inst isnt. no_setting op.ENTRY_POINT inst.op are_settings.entry isnt))
    ∙ ap (λ (o : Option ℕ). if is_one_entry o (entry_points g.words.insts) then None else Some (length (entry_points g.words.insts))) (function_id_changed g)
