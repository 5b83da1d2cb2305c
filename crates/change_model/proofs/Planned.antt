-- A valid module and a plan that may be carried out on it: what is written for an instruction, and which constant comes for it.
use Rattle.std.proofs.Common.{◌≡◌, ℕ, ◌<◌, ◌==◌, inl, inr, Bool, true, false, if◌then◌else◌, List, [], ◌∷◌, refl, ap, ◌∙◌, subst, Option, None, Some}
use Rattle.std.proofs.lemmas.Bool.{cases_lt}
use Rattle.spirv_model.specs.declared.module.Inst.{Inst}
use Rattle.spirv_model.specs.declared.module.Words.{Words}
use Rattle.spirv_model.specs.declared.op.TheConstants as op
use Rattle.spirv_model.specs.Operands.{word_at, entry_of, class_of}
use Rattle.scalar_model.specs.declared.scalar_value.Scalar.{Scalar}
use Rattle.body_model.specs.Classes.{is_terminator}
use Rattle.valid_model.specs.Definitions.{inst_at}
use Rattle.check_model.specs.Intervals.{intervals_of}
use Rattle.check_model.specs.Validity.{IsValidList}
use Rattle.stage_model.specs.Start.{of_scalar}
use Rattle.typed_model.proofs.BlockParts.{clash}
use Rattle.unit_model.specs.ConstantScalars.{chosen_target}
use Rattle.change_model.specs.declared.fate.Fate.{Fate}
use Rattle.change_model.specs.declared.fate.Fate.TheVariants.{Dead, Stays, Goes, Picks, Folds, Nulls, Resolves, Skips, Unused}
use Rattle.change_model.specs.Constants.{scalar_constant}
use Rattle.change_model.specs.Plans.{Plan, kept_at, branch_to, switch_to, written_as, written_at, listed, constant_as, constant_at, changed}
use Rattle.change_model.specs.PlanRules.{FateFits, MayGo, MayPick, MayFold, MayBeNull, IsPlan, switched_target, scalar_left, only_target, stays}
use Rattle.change_model.proofs.Settlings.{op_is}

pub record Planned : Type 0 where
  pub words : Words
  pub valid : IsValidList words
  pub zeros : List ℕ
  pub plan : Plan
  pub is : IsPlan words valid zeros plan

abbrev pub old_insts : Planned → List Inst
old_insts g = g.words.insts

abbrev pub new_insts : Planned → List Inst
new_insts g = changed g.plan g.words.insts

-- the instruction at a place of the function
abbrev pub old_at : Planned → ℕ → Inst
old_at g place = inst_at g.words.insts place

-- ---- where a plan does anything

-- the place is that of an instruction of the function, between OpFunction and OpFunctionEnd
pub record IsInside (g : Planned) (place : ℕ) : Type 0 where
  pub low : g.valid.derivation.before < place
  pub high : place < g.valid.derivation.after

pub inside : (g : Planned) (place : ℕ) (fate : Fate) → g.plan.fate place ≡ fate → stays fate ≡ false → IsInside g place
inside g place fate is isnt = elim (cases_lt g.valid.derivation.before place) [
  | inl low ↦ elim (cases_lt place g.valid.derivation.after) [
    | inl high ↦ record { low = low; high = high }
    | inr past ↦ absurd (clash (stays (g.plan.fate place)) (ap stays (g.is.outside place (inr past))) (ap stays is ∙ isnt))
  ]
  | inr upto ↦ absurd (clash (stays (g.plan.fate place)) (ap stays (g.is.outside place (inl upto))) (ap stays is ∙ isnt))
]

pub fits_there : (g : Planned) (place : ℕ) (fate : Fate) → g.plan.fate place ≡ fate → IsInside g place → FateFits g.plan g.words.insts (intervals_of g.valid.derivation) g.zeros place fate
fits_there g place fate is i = subst (FateFits g.plan g.words.insts (intervals_of g.valid.derivation) g.zeros place) is (g.is.fits place i.low i.high)

-- ---- what is written

-- what is written for a place: its instruction with other names, OpBranch, or an OpSwitch without literals
pub data IsWritten (g : Planned) (place : ℕ) (inst : Inst) : Type 0 where
  keeps : g.plan.fate place ≡ Stays → kept_at g.plan g.words.insts place (inst_at g.words.insts place) ≡ inst → IsWritten g place inst
  goes : (label : ℕ) → g.plan.fate place ≡ Goes label → MayGo g.plan g.words.insts (intervals_of g.valid.derivation) place label → branch_to label ≡ inst → IsWritten g place inst
  picks : (label : ℕ) → g.plan.fate place ≡ Picks label → MayPick g.plan g.words.insts place label → switch_to (g.plan.name (word_at 0 (inst_at g.words.insts place))) label ≡ inst → IsWritten g place inst

one_element : (a b : Inst) → a ∷ [] ≡ b ∷ [] → a ≡ b
one_element a b is = cc

pub is_written : (g : Planned) (place : ℕ) (inst : Inst) → written_at g.plan g.words.insts place ≡ inst ∷ [] → IsWritten g place inst
unfolding written_at
is_written g place inst is = by_fate (g.plan.fate place) refl is
  where
    by_fate : (fate : Fate) → g.plan.fate place ≡ fate → written_as g.plan g.words.insts place (inst_at g.words.insts place) fate ≡ inst ∷ [] → IsWritten g place inst
    by_fate Stays same is = keeps same (one_element (kept_at g.plan g.words.insts place (inst_at g.words.insts place)) inst is)
    by_fate (Goes label) same is = goes label same (fits_there g place (Goes label) same (inside g place (Goes label) same refl)) (one_element (branch_to label) inst is)
    by_fate (Picks label) same is =
        picks label same (fits_there g place (Picks label) same (inside g place (Picks label) same refl)) (one_element (switch_to (g.plan.name (word_at 0 (inst_at g.words.insts place))) label) inst is)
    by_fate Dead same is = cc
    by_fate (Folds scalar) same is = cc
    by_fate Nulls same is = cc
    by_fate Resolves same is = cc
    by_fate Skips same is = cc
    by_fate Unused same is = cc

-- ---- which constant comes

pub data IsNewConstant (g : Planned) (place : ℕ) (inst : Inst) : Type 0 where
  folds : (scalar : Scalar) → g.plan.fate place ≡ Folds scalar → MayFold g.plan g.words.insts place scalar
      → scalar_constant (word_at 0 (inst_at g.words.insts place)) (word_at 1 (inst_at g.words.insts place)) (Some (of_scalar scalar)) ≡ Some inst → IsNewConstant g place inst
  nulls : g.plan.fate place ≡ Nulls → MayBeNull g.words.insts g.zeros place
      → record { op = op.CONSTANT_NULL; words = word_at 0 (inst_at g.words.insts place) ∷ word_at 1 (inst_at g.words.insts place) ∷ [] } ≡ inst → IsNewConstant g place inst

listed_one : (found : Option Inst) (inst : Inst) → listed found ≡ inst ∷ [] → found ≡ Some inst
listed_one None inst is = cc
listed_one (Some x) inst is = ap (λ (i : Inst). Some i) (one_element x inst is)

pub is_new_constant : (g : Planned) (place : ℕ) (inst : Inst) → constant_at g.plan g.words.insts place ≡ inst ∷ [] → IsNewConstant g place inst
unfolding constant_at
is_new_constant g place inst is = by_fate (g.plan.fate place) refl is
  where
    old : Inst
    old = inst_at g.words.insts place

    by_fate : (fate : Fate) → g.plan.fate place ≡ fate → constant_as (inst_at g.words.insts place) fate ≡ inst ∷ [] → IsNewConstant g place inst
    by_fate (Folds scalar) same is =
        folds scalar same (fits_there g place (Folds scalar) same (inside g place (Folds scalar) same refl)) (listed_one (scalar_constant (word_at 0 old) (word_at 1 old) (Some (of_scalar scalar))) inst is)
    by_fate Nulls same is = nulls same (fits_there g place Nulls same (inside g place Nulls same refl)) (one_element _ inst is)
    by_fate Dead same is = cc
    by_fate Stays same is = cc
    by_fate (Goes label) same is = cc
    by_fate (Picks label) same is = cc
    by_fate Resolves same is = cc
    by_fate Skips same is = cc
    by_fate Unused same is = cc

-- ---- branches that have one way

pub data IsChoice (opcode : ℕ) : Type 0 where
  conditional : opcode ≡ op.BRANCH_CONDITIONAL → IsChoice opcode
  switch : opcode ≡ op.SWITCH → IsChoice opcode

pub choice_of : (plan : Plan) (insts : List Inst) (inst : Inst) (label : ℕ) → only_target plan insts inst ≡ Some label → IsChoice inst.op
choice_of plan insts inst label is = by_tests (inst.op == op.BRANCH_CONDITIONAL) (inst.op == op.SWITCH) refl refl is
  where
    by_tests : (a b : Bool) → inst.op == op.BRANCH_CONDITIONAL ≡ a → inst.op == op.SWITCH ≡ b
        → (if a then chosen_target (scalar_left plan insts (word_at 0 inst)) inst else if b then switched_target (scalar_left plan insts (word_at 0 inst)) inst else None) ≡ Some label → IsChoice inst.op
    by_tests true b one other is = conditional (op_is inst.op op.BRANCH_CONDITIONAL one)
    by_tests false true one other is = switch (op_is inst.op op.SWITCH other)
    by_tests false false one other is = cc

pub branches_end : (is_terminator op.BRANCH_CONDITIONAL ≡ true) × (is_terminator op.SWITCH ≡ true) × (is_terminator op.BRANCH ≡ true)
unfolding class_of entry_of
branches_end = (refl, refl, refl)

pub choice_ends : (opcode : ℕ) → IsChoice opcode → is_terminator opcode ≡ true
choice_ends opcode (conditional is) = ap is_terminator is ∙ branches_end.0
choice_ends opcode (switch is) = ap is_terminator is ∙ branches_end.1
