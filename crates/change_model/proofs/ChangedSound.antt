-- What is sound of the list that a plan makes: ids are given once and below the bound, and types and decorations are allowed.
use Rattle.std.proofs.Common.{◌≡◌, ℕ, ◌<◌, ◌≤◌, false, List, ap, ◌∙◌, arith}
use Rattle.spirv_model.specs.declared.module.Inst.{Inst}
use Rattle.valid_model.specs.Constants.{breaks_constants}
use Rattle.valid_model.specs.Definitions.{inst_at}
use Rattle.valid_model.specs.FirstFault.{bad_constant}
use Rattle.valid_model.specs.Meanings.{known_by, known_before}
use Rattle.change_model.specs.Folding.{function_at}
use Rattle.change_model.specs.Plans.{changed}
use Rattle.change_model.proofs.ChangedMeanings.{level_before, level_inst}
use Rattle.change_model.proofs.ChangedPlaces.{function_within}
use Rattle.change_model.proofs.ConstantsSound.{keeps_all}
use Rattle.change_model.proofs.Planned.{Planned}

short_of : (a b : ℕ) → a < b → a ≤ b
short_of a b less = omega (arith, less)

-- the constants of the module's level fit their types
pub level_constants : (g : Planned) (k : ℕ) → k < function_at g.words.insts → bad_constant (changed g.plan g.words.insts) k ≡ false
unfolding bad_constant
level_constants g k low =
    let most = function_within g.words.insts in
    ap (λ (l : List Inst). breaks_constants (known_by l) (inst_at (changed g.plan g.words.insts) k)) (level_before g k (short_of k (function_at g.words.insts) low))
    ∙ ap (breaks_constants (known_before g.words.insts k)) (level_inst g k low)
    ∙ (keeps_all g.words g.valid.sound k (omega (arith, low, most))).constants
