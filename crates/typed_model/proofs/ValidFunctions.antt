-- The judgement where a valid module's function begins, and along its branches.
use Rattle.std.proofs.Common.{◌≡◌, ℕ, ◌+◌, ◌<◌, ◌≤◌, ◌==◌, ◌||◌, inl, inr, Bool, true, false, List, length, take, get_or, refl, ap, sym, ◌∙◌, arith, Option, None, Some}
use Rattle.std.specs.Prelude.{IsTrue, slice_get}
use Rattle.std.proofs.lemmas.Bool.{cases_lt}
use Rattle.std.proofs.lemmas.Bool.Decides.{nat_tests}
use Rattle.std.proofs.lemmas.List.{get_or-take, length-take-le}
use Rattle.std.proofs.lemmas.Option.{get_or_from_slice_get}
use Rattle.spirv_model.specs.declared.module.Inst.{Inst}
use Rattle.spirv_model.specs.declared.module.Words.{Words}
use Rattle.spirv_model.specs.declared.op.TheConstants.{FUNCTION}
use Rattle.state_model.specs.declared.parts.SpecValues.{SpecValues}
use Rattle.body_model.specs.Classes.{is_module_level}
use Rattle.body_model.specs.Grammar.{IsOp, Begins, Derives}
use Rattle.body_model.proofs.ModuleLevels.{within_list}
use Rattle.valid_model.specs.Definitions.{inst_at, no_instruction}
use Rattle.check_model.specs.Intervals.{inside, intervals_of}
use Rattle.check_model.specs.Validity.{IsValidList}
use Rattle.stage_model.specs.Program.{program_of}
use Rattle.stage_model.specs.Start.{defined_by}
use Rattle.stage_model.proofs.StageRuns.{nowhere}
use Rattle.typed_model.specs.Jumps.{Lands}
use Rattle.typed_model.specs.Judgement.{AreTyped}
use Rattle.typed_model.specs.Modules.{IsFront}
use Rattle.typed_model.proofs.Keeping.{within}
use Rattle.typed_model.proofs.VisibleJumps.{Names, jumps}
use Rattle.typed_model.proofs.ModuleTyped.{module_typed}
use Rattle.typed_model.proofs.ValidModules.{valid_sound}

-- ---- where the function begins

or_left : (a b : Bool) → a ≡ true → (a || b) ≡ true
or_left true b is = refl
or_left false b is = cc

or_right : (a b : Bool) → b ≡ true → (a || b) ≡ true
or_right true b is = refl
or_right false b is = is

equal : (a b : ℕ) → a ≡ b → a == b ≡ true
equal a b is = grind (arith, nat_tests)

function_at : (insts : List Inst) (place : ℕ) (found : Option Inst) → slice_get insts place ≡ found → IsOp FUNCTION found → (inst_at insts place).op ≡ FUNCTION
function_at insts place None at is = absurd is
function_at insts place (Some inst) at is = ap (λ (i : Inst). i.op) (get_or_from_slice_get insts place inst no_instruction at) ∙ is

level_at : (insts : List Inst) (before place : ℕ) → Begins insts before → place < before → before ≤ length insts → is_module_level (inst_at insts place).op ≡ true
level_at insts before place begins less long =
    let is : IsTrue (is_module_level (get_or (take before insts) place no_instruction).op) = begins.module_level place no_instruction (omega (arith, length-take-le before insts)) in
    sym (ap (λ (i : Inst). is_module_level i.op) (get_or-take before insts place no_instruction less)) ∙ is

-- only the module's level and OpFunction stand before the function
pub front_of : (read : Words) (d : Derives read.insts) → IsFront read (d.before + 1)
front_of read d =
    let long = within_list FUNCTION read.insts d.before d.begins.function in
    record {
      within = omega (arith, long);
      level = λ place less. elim (cases_lt place d.before) [
        | inl early ↦ or_left (is_module_level (inst_at read.insts place).op) _ (level_at read.insts d.before place d.begins early (omega (arith, long)))
        | inr late ↦ or_right (is_module_level (inst_at read.insts place).op) _ (let e : place ≡ d.before = omega (arith, less) in
            equal (inst_at read.insts place).op FUNCTION (ap (λ (n : ℕ). (inst_at read.insts n).op) e ∙ function_at read.insts d.before (slice_get read.insts d.before) refl d.begins.function))
      ];
    }

-- at the function's first label each visible id with a type has a value that suits it, whatever is specialized
pub valid_start : (read : Words) (v : IsValidList read) (entries : SpecValues)
    → AreTyped read.insts (intervals_of v.derivation) (v.derivation.before + 1) (defined_by (program_of read.insts) entries (take (v.derivation.before + 1) read.insts))
valid_start read v entries = module_typed read entries (intervals_of v.derivation) (valid_sound read v) (v.derivation.before + 1) (front_of read v.derivation)

-- ---- along branches

-- each label that a terminator of the function names stands in it, and what is visible there is visible at the terminator
pub lands : (insts : List Inst) (d : Derives insts) (place label : ℕ) → Names insts place label → d.before + 1 ≤ place → place < d.after → Lands insts (intervals_of d) (d.before + 1) d.after place label
lands insts d place label names low high =
    elim (jumps insts d.sequence place label names low high) [
      | inl l ↦ record { place = l.place; due = l.due; low = l.low; high = l.high; jump = within (d.before + 1) d.after (inside d.sequence) place l.place low high l.jump }
      | inr may ↦ absurd (nowhere label may)
    ]
