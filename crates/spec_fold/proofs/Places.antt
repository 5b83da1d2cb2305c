-- Places of instructions.
use Rattle.std.proofs.Common.{◌≡◌, ℕ, ◌<◌, List, length, sym, ◌∙◌, subst, Option, Some}
use Rattle.spirv_model.specs.declared.module.Inst.{Inst}
use Rattle.valid_model.specs.Definitions.{definition}
use Rattle.typed_model.proofs.ValidTypes.{defined_within}

-- what is told of where an id is defined lies in the list
pub told_within : (insts given : List Inst) (id place : ℕ) (told : Option ℕ) → given ≡ insts → told ≡ definition insts id → told ≡ Some place → place < length given
told_within insts given id place told same is some = subst (λ (l : List Inst). place < length l) (sym same) (defined_within insts id place (sym is ∙ some))
