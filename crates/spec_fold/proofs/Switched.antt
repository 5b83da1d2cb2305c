-- Where an OpSwitch on a number leads.
use Rattle.std.proofs.Common.{◌≡◌, ℕ, List, ap, sym, ◌∙◌, Option, Some}
use Rattle.spirv_model.specs.declared.module.Inst.{Inst}
use Rattle.spirv_model.specs.Operands.{word_at, words_from}
use Rattle.scalar_model.specs.declared.scalar_value.Scalar.{Scalar}
use Rattle.scalar_model.specs.declared.scalar_value.Scalar.TheVariants.{Word}
use Rattle.stage_model.specs.Effect.{target_for}
use Rattle.change_model.specs.PlanRules.{switched_target}

pub switched : (known : Option Scalar) (selector target default : ℕ) (cases : List ℕ) (inst : Inst) → known ≡ Some (Word selector) → target ≡ target_for selector default cases → default ≡ word_at 1 inst → cases ≡ words_from 2 inst
    → ◌≡◌ {A = Option ℕ} (Some target) (switched_target known inst)
switched known selector target default cases inst is leads first rest =
    ap (λ (n : ℕ). Some n) (leads ∙ ap (λ (d : ℕ). target_for selector d cases) first ∙ ap (target_for selector (word_at 1 inst)) rest)
    ∙ sym (ap (λ (k : Option Scalar). switched_target k inst) is)
