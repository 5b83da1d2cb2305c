-- What stands behind the module's level in the list that a plan makes, and which tests nothing there passes.
use Rattle.std.proofs.Common.{◌≡◌, ℕ, ◌<◌, ◌≤◌, ◌==◌, inl, inr, Bool, true, false, List, length, slice_get, refl, ap, sym, ◌∙◌, arith, Option, None, Some}
use Rattle.std.specs.Prelude.{filter}
use Rattle.std.specs.List.{find}
use Rattle.std.proofs.lemmas.Bool.{cases_lt}
use Rattle.std.proofs.lemmas.Option.{get_or_from_slice_get}
use Rattle.spirv_model.specs.declared.module.Inst.{Inst}
use Rattle.spirv_model.specs.declared.class.Class.{Class}
use Rattle.spirv_model.specs.declared.class.Class.TheVariants as class
use Rattle.spirv_model.specs.declared.op.TheConstants as op
use Rattle.spirv_model.specs.Operands.{entry_of, class_of}
use Rattle.body_model.specs.Classes.{is_plain_class, is_terminator_class}
use Rattle.body_model.specs.Grammar.{IsOp, Derives}
use Rattle.body_model.proofs.ClassFacts.{ends_branch, ends_switch}
use Rattle.valid_model.specs.Definitions.{inst_at, no_instruction}
use Rattle.valid_model.specs.Types.{is_type_class}
use Rattle.typed_model.proofs.BlockParts.{BlockPart, a_label, a_phi, a_variable, a_selection_merge, a_loop_merge, a_plain_one, a_terminator}
use Rattle.typed_model.proofs.FunctionRuns.{part_at}
use Rattle.change_model.specs.Folding.{function_at}
use Rattle.change_model.specs.Plans.{changed}
use Rattle.change_model.specs.Settling.{is_plain_constant_class}
use Rattle.change_model.proofs.ChangedPlaces.{place_left, constant_left, constant_there, ConstantAt, constant_stood, function_within, front_left, StoodAt, of_level, of_constant, of_function, stood_at}
use Rattle.change_model.proofs.FoldedKeeps.{function_op}
use Rattle.change_model.proofs.LevelFinds.{FailsFrom, find_same, filter_same}
use Rattle.change_model.proofs.MovedUp.{function_is}
use Rattle.change_model.proofs.NewConstants.{new_is_plain}
use Rattle.change_model.proofs.Planned.{Planned, IsWritten, keeps, goes, picks, is_written, IsNewConstant, is_new_constant}
use Rattle.change_model.proofs.RenamedWords.{kept_result}
use Rattle.change_model.proofs.SettledMeanings.{constant_is_no_type}
use Rattle.change_model.proofs.Settlings.{op_is}

-- ---- what stands there

-- a new constant, or what is written for an instruction of the function
pub data BehindLevel (g : Planned) (place : ℕ) : Type 0 where
  new_one : (old : ℕ) (inst : Inst) → IsNewConstant g old inst → function_at g.words.insts ≤ old → old < length g.words.insts
      → constant_left g.plan g.words.insts old ≡ place → inst_at (changed g.plan g.words.insts) place ≡ inst → BehindLevel g place
  written_one : (old : ℕ) (inst : Inst) → IsWritten g old inst → function_at g.words.insts ≤ old → old < length g.words.insts
      → place_left g.plan g.words.insts old ≡ place → inst_at (changed g.plan g.words.insts) place ≡ inst → BehindLevel g place

pub behind_level : (g : Planned) (place : ℕ) → function_at g.words.insts ≤ place → place < length (changed g.plan g.words.insts) → BehindLevel g place
behind_level g place late within = by_stood (stood_at g.plan g.words.insts place (function_within g.words.insts) within)
  where
    of_new : ConstantAt g.plan g.words.insts place → BehindLevel g place
    of_new c = new_one c.old c.inst (is_new_constant g c.old c.inst c.is) c.low c.high c.there
        (ap (inst_at (changed g.plan g.words.insts)) (sym c.there)
        ∙ get_or_from_slice_get (changed g.plan g.words.insts) (constant_left g.plan g.words.insts c.old) c.inst no_instruction (constant_there g.plan g.words.insts c.old c.inst c.low c.high c.is))

    by_stood : StoodAt g.plan g.words.insts place → BehindLevel g place
    by_stood (of_level low) = absurd (omega (arith, low, late))
    by_stood (of_constant old inst low high is also early there) = of_new (constant_stood g.plan g.words.insts place also early)
    by_stood (of_function old inst low high is there at) =
        written_one old inst (is_written g old inst is) low high there (get_or_from_slice_get (changed g.plan g.words.insts) place inst no_instruction at)

-- ---- tests

-- no instruction of a function passes the test
pub record FailsInFunction (test : Option Class → Bool) : Type 0 where
  pub label : test (class_of op.LABEL) ≡ false
  pub phi : test (class_of op.PHI) ≡ false
  pub variable : test (class_of op.VARIABLE) ≡ false
  pub selection_merge : test (class_of op.SELECTION_MERGE) ≡ false
  pub loop_merge : test (class_of op.LOOP_MERGE) ≡ false
  pub function : test (class_of op.FUNCTION) ≡ false
  pub function_end : test (class_of op.FUNCTION_END) ≡ false
  pub plain : (of : Option Class) → is_plain_class of ≡ true → test of ≡ false
  pub terminator : (of : Option Class) → is_terminator_class of ≡ true → test of ≡ false

part_fails : (test : Option Class → Bool) → FailsInFunction test → (inst : Inst) → BlockPart inst → test (class_of inst.op) ≡ false
part_fails test f inst (a_label is) = ap (λ (o : ℕ). test (class_of o)) (op_is inst.op op.LABEL is) ∙ f.label
part_fails test f inst (a_phi is) = ap (λ (o : ℕ). test (class_of o)) (op_is inst.op op.PHI is) ∙ f.phi
part_fails test f inst (a_variable is) = ap (λ (o : ℕ). test (class_of o)) (op_is inst.op op.VARIABLE is) ∙ f.variable
part_fails test f inst (a_selection_merge is) = ap (λ (o : ℕ). test (class_of o)) (op_is inst.op op.SELECTION_MERGE is) ∙ f.selection_merge
part_fails test f inst (a_loop_merge is) = ap (λ (o : ℕ). test (class_of o)) (op_is inst.op op.LOOP_MERGE is) ∙ f.loop_merge
part_fails test f inst (a_plain_one is) = f.plain (class_of inst.op) is
part_fails test f inst (a_terminator is) = f.terminator (class_of inst.op) is

pub end_op : (insts : List Inst) (d : Derives insts) → (inst_at insts d.after).op ≡ op.FUNCTION_END
end_op insts d = by_found (slice_get insts d.after) refl d.function_end
  where
    by_found : (found : Option Inst) → slice_get insts d.after ≡ found → IsOp op.FUNCTION_END found → (inst_at insts d.after).op ≡ op.FUNCTION_END
    by_found None at is = absurd is
    by_found (Some inst) at is = ap (λ (i : Inst). i.op) (get_or_from_slice_get insts d.after inst no_instruction at) ∙ is

pub fails_old : (test : Option Class → Bool) → FailsInFunction test → (insts : List Inst) (d : Derives insts) (k : ℕ) → d.before ≤ k → k < length insts → test (class_of (inst_at insts k).op) ≡ false
fails_old test f insts d k low within = elim (cases_lt d.before k) [
  | inl more ↦ elim (cases_lt k d.after) [
    | inl early ↦ part_fails test f (inst_at insts k) (part_at insts d k (omega (arith, more)) early)
    | inr late ↦ let last = d.last in
        ap (λ (n : ℕ). test (class_of (inst_at insts n).op)) {x = k} {y = d.after} (omega (arith, late, within, last)) ∙ ap (λ (o : ℕ). test (class_of o)) (end_op insts d) ∙ f.function_end
  ]
  | inr upto ↦ ap (λ (n : ℕ). test (class_of (inst_at insts n).op)) {x = k} {y = d.before} (omega (arith, low, upto)) ∙ ap (λ (o : ℕ). test (class_of o)) (function_op insts d) ∙ f.function
]

pub fails_function : (g : Planned) (test : Option Class → Bool) → FailsInFunction test → (k : ℕ) → function_at g.words.insts ≤ k → k < length g.words.insts → test (class_of (inst_at g.words.insts k).op) ≡ false
fails_function g test f k low within = let e = function_is g.words.insts g.valid.derivation in fails_old test f g.words.insts g.valid.derivation k (omega (arith, low, e)) within

pub fails_written : (g : Planned) (test : Option Class → Bool) → FailsInFunction test → (old : ℕ) (inst : Inst) → IsWritten g old inst → function_at g.words.insts ≤ old → old < length g.words.insts → test (class_of inst.op) ≡ false
fails_written g test f old inst (keeps same is) low within =
    ap (λ (i : Inst). test (class_of i.op)) (sym is) ∙ ap (λ (o : ℕ). test (class_of o)) (kept_result g.plan g.words.insts old (inst_at g.words.insts old)).op ∙ fails_function g test f old low within
fails_written g test f old inst (goes label same may is) low within = ap (λ (i : Inst). test (class_of i.op)) (sym is) ∙ f.terminator (class_of op.BRANCH) ends_branch
fails_written g test f old inst (picks label same may is) low within = ap (λ (i : Inst). test (class_of i.op)) (sym is) ∙ f.terminator (class_of op.SWITCH) ends_switch

-- no constant passes the test either
abbrev pub FailsOnConstants : (Option Class → Bool) → Type 0
FailsOnConstants test = (of : Option Class) → is_plain_constant_class of ≡ true → test of ≡ false

pub fails_new : (g : Planned) (test : Option Class → Bool) → FailsInFunction test → FailsOnConstants test → (k : ℕ) → function_at g.words.insts ≤ k → k < length (changed g.plan g.words.insts)
    → test (class_of (inst_at (changed g.plan g.words.insts) k).op) ≡ false
fails_new g test f c k low within = by_kind (behind_level g k low within)
  where
    by_kind : BehindLevel g k → test (class_of (inst_at (changed g.plan g.words.insts) k).op) ≡ false
    by_kind (new_one old inst n least most there at) = ap (λ (i : Inst). test (class_of i.op)) at ∙ c (class_of inst.op) (new_is_plain g old inst n).class_is
    by_kind (written_one old inst w least most there at) = ap (λ (i : Inst). test (class_of i.op)) at ∙ fails_written g test f old inst w least most

-- ---- settings and types

abbrev pub is_setting_class : Option Class → Bool
is_setting_class (Some class.Setting) = true
is_setting_class other = false

setting_plain : (of : Option Class) → is_plain_class of ≡ true → is_setting_class of ≡ false
setting_plain None is = cc
setting_plain (Some class.Setting) is = cc
setting_plain (Some other) is = refl

setting_terminator : (of : Option Class) → is_terminator_class of ≡ true → is_setting_class of ≡ false
setting_terminator None is = cc
setting_terminator (Some class.Setting) is = cc
setting_terminator (Some other) is = refl

setting_constant : FailsOnConstants is_setting_class
setting_constant None is = cc
setting_constant (Some class.Setting) is = cc
setting_constant (Some other) is = refl

pub setting_fails : FailsInFunction is_setting_class
unfolding class_of entry_of
setting_fails = record { label = refl; phi = refl; variable = refl; selection_merge = refl; loop_merge = refl; function = refl; function_end = refl; plain = setting_plain; terminator = setting_terminator }

type_plain : (of : Option Class) → is_plain_class of ≡ true → is_type_class of ≡ false
type_plain None is = cc
type_plain (Some class.TypeDeclaration) is = cc
type_plain (Some other) is = refl

type_terminator : (of : Option Class) → is_terminator_class of ≡ true → is_type_class of ≡ false
type_terminator None is = cc
type_terminator (Some class.TypeDeclaration) is = cc
type_terminator (Some other) is = refl

pub type_fails : FailsInFunction is_type_class
unfolding class_of entry_of
type_fails = record { label = refl; phi = refl; variable = refl; selection_merge = refl; loop_merge = refl; function = refl; function_end = refl; plain = type_plain; terminator = type_terminator }

pub no_type_behind : (g : Planned) (k : ℕ) → function_at g.words.insts ≤ k → k < length (changed g.plan g.words.insts) → is_type_class (class_of (inst_at (changed g.plan g.words.insts) k).op) ≡ false
no_type_behind g = fails_new g is_type_class type_fails constant_is_no_type

-- a test that only settings pass
abbrev pub OnlySettings : (Inst → Bool) → Type 0
OnlySettings p = (inst : Inst) → is_setting_class (class_of inst.op) ≡ false → p inst ≡ false

pub setting_new : (g : Planned) (p : Inst → Bool) → OnlySettings p → FailsFrom p (changed g.plan g.words.insts) (function_at g.words.insts)
setting_new g p only = λ k low within. only (inst_at (changed g.plan g.words.insts) k) (fails_new g is_setting_class setting_fails setting_constant k low within)

pub setting_old : (g : Planned) (p : Inst → Bool) → OnlySettings p → FailsFrom p g.words.insts (function_at g.words.insts)
setting_old g p only = λ k low within. only (inst_at g.words.insts k) (fails_function g is_setting_class setting_fails k low within)

-- the same settings are found in both lists
pub setting_found : (g : Planned) (p : Inst → Bool) → OnlySettings p → find p (changed g.plan g.words.insts) ≡ find p g.words.insts
setting_found g p only = find_same p (changed g.plan g.words.insts) g.words.insts (function_at g.words.insts) (front_left g.plan g.words.insts) (setting_new g p only) (setting_old g p only)

pub setting_filtered : (g : Planned) (p : Inst → Bool) → OnlySettings p → filter p (changed g.plan g.words.insts) ≡ filter p g.words.insts
setting_filtered g p only = filter_same p (changed g.plan g.words.insts) g.words.insts (function_at g.words.insts) (front_left g.plan g.words.insts) (setting_new g p only) (setting_old g p only)

-- an instruction that is no setting hasn't an opcode of one
pub no_setting : (own opcode : ℕ) → is_setting_class (class_of own) ≡ true → is_setting_class (class_of opcode) ≡ false → opcode == own ≡ false
no_setting own opcode is isnt = by_test (opcode == own) refl
  where
    both : (b : Bool) → b ≡ true → b ≡ false → ⊥
    both true is isnt = cc
    both false is isnt = cc

    by_test : (b : Bool) → opcode == own ≡ b → b ≡ false
    by_test false other = refl
    by_test true equal = absurd (both (is_setting_class (class_of opcode)) (ap (λ (o : ℕ). is_setting_class (class_of o)) (op_is opcode own equal) ∙ is) isnt)

pub record AreSettings : Type 0 where
  pub decorate : is_setting_class (class_of op.DECORATE) ≡ true
  pub member : is_setting_class (class_of op.MEMBER_DECORATE) ≡ true
  pub entry : is_setting_class (class_of op.ENTRY_POINT) ≡ true

pub are_settings : AreSettings
unfolding class_of entry_of
are_settings = record { decorate = refl; member = refl; entry = refl }
