-- A module's function stands at one place and has one code.
use Rattle.std.proofs.Common.{◌≡◌, ℕ, ◌+◌, ◌<◌, false, true, List, take, get_or, Option, None, Some, refl, ap, subst, ◌∙◌, ⊎_elim, arith}
use Rattle.std.specs.Prelude.{IsTrue, slice_get}
use Rattle.std.proofs.lemmas.Bool.{cases_order}
use Rattle.std.proofs.lemmas.List.{get_or-take, length-take-le}
use Rattle.std.proofs.lemmas.Option.{get_or_from_slice_get}
use Rattle.spirv_model.specs.declared.module.Inst.{Inst}
use Rattle.spirv_model.specs.declared.op.TheConstants.{FUNCTION}
use Rattle.body_model.specs.Classes.{is_module_level}
use Rattle.body_model.specs.Grammar.{IsOp, Begins, Derives}
use Rattle.body_model.specs.Code.{code_of}
use Rattle.body_model.proofs.ModuleLevels.{no_function, within_list}
use Rattle.body_model.proofs.OneCode.{one}

record At (op : ℕ) (insts : List Inst) (place : ℕ) : Type 0 where
  inst : Inst
  index : slice_get insts place ≡ Some inst
  is : inst.op ≡ op

op_at : (op : ℕ) (insts : List Inst) (place : ℕ) (found : Option Inst) → slice_get insts place ≡ found → IsOp op found → At op insts place
op_at op insts place None index is = absurd is
op_at op insts place (Some inst) index is = record { inst = inst; index = index; is = is }

-- no function begins before another one
not_before : (insts : List Inst) (a b : ℕ) → Begins insts a → Begins insts b → a < b → ⊥
not_before insts a b first second before =
    let at = op_at FUNCTION insts a (slice_get insts a) refl first.function in
    let within = within_list FUNCTION insts b second.function in
    let level : IsTrue (is_module_level (get_or (take b insts) a at.inst).op) = second.module_level a at.inst (omega (arith, length-take-le b insts)) in
    let same = get_or-take b insts a at.inst before ∙ get_or_from_slice_get insts a at.inst at.inst at.index in
    let never : true ≡ false = no_function FUNCTION true refl (subst (λ (n : ℕ). IsTrue (is_module_level n)) (ap (λ (i : Inst). i.op) same ∙ at.is) level) in
    cc

pub one_start : (insts : List Inst) (a b : ℕ) → Begins insts a → Begins insts b → a ≡ b
one_start insts a b first second =
    ⊎_elim (λ same. same) (⊎_elim (λ less. absurd (not_before insts a b first second less)) (λ more. absurd (not_before insts b a second first more))) (cases_order a b)

pub one_function : (insts : List Inst) (d d' : Derives insts) → (d.before ≡ d'.before) × (d.after ≡ d'.after) × (code_of d.sequence ≡ code_of d'.sequence)
one_function insts d d' =
    let start = one_start insts d.before d'.before d.begins d'.begins in
    let both = one insts d.sequence d'.sequence (ap (λ (n : ℕ). n + 1) start) in
    (start, both.0, both.1)
