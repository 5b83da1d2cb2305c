use Rattle.std.proofs.Common.{◌≡◌, ℕ, ◌≤◌, Bool, true, false, ◌&&◌, nat_lt, List, length, refl, sym, ◌∙◌, ap}
use Rattle.spirv_model.specs.declared.module.Inst.{Inst}
use Rattle.spirv_model.specs.Operands.{entry_of, class_of}
use Rattle.valid_model.specs.Definitions.{inst_at, no_instruction}
use Rattle.valid_model.specs.Types.{is_type, is_type_after}
use Rattle.spv_types.proofs.Passing.{inst_past}
use Rattle.spv_types.proofs.types.is_type_after.Goals as goal

nothing_past : is_type no_instruction.op ≡ false
unfolding class_of entry_of
nothing_past = refl

and_false : (b : Bool) → (b && false) ≡ false
and_false true = refl
and_false false = refl

no_type_past : (insts : List Inst) (place at : ℕ) → length insts ≤ at → (nat_lt place at && is_type (inst_at insts at).op) ≡ false
no_type_past insts place at past =
    ap (λ (inst : Inst). nat_lt place at && is_type inst.op) (inst_past insts at past) ∙ ap (λ b. nat_lt place at && b) nothing_past
    ∙ and_false (nat_lt place at)

pub returns-then-at-insts : goal.returns-then-at-insts
returns-then-at-insts c =
    sym (ap (is_type_after c.args.insts.now c.args.place) c.in-Some.is ∙ no_type_past c.args.insts.now c.args.place c.in-Some.at c.if-at-insts.true)
