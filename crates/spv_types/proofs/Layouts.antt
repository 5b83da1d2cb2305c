-- Members of a block, one after another.
use Rattle.std.proofs.Common.{◌≡◌, ℕ, ◌+◌, ◌<◌, true, false, ◌&&◌, List, length, get_or, drop, ◌∙◌, ap}
use Rattle.basics.proofs.Lists.{drop_first}
use Rattle.valid_model.specs.Blocks.{is_laid_out, are_laid_out}
use Rattle.valid_model.specs.ModuleFacts.{ModuleFacts}

laid_next : (facts : ModuleFacts) (id : ℕ) (types : List ℕ) (i : ℕ) → i < length types
    → are_laid_out facts id i (drop i types) ≡ (is_laid_out facts id i (get_or types i 0) && are_laid_out facts id (i + 1) (drop (i + 1) types))
laid_next facts id types i within = ap (are_laid_out facts id i) (drop_first types i within)

pub laid_more : (facts : ModuleFacts) (id : ℕ) (types : List ℕ) (i : ℕ) → i < length types
    → are_laid_out facts id 0 types ≡ are_laid_out facts id i (drop i types)
    → is_laid_out facts id i (get_or types i 0) ≡ true
    → are_laid_out facts id 0 types ≡ are_laid_out facts id (i + 1) (drop (i + 1) types)
laid_more facts id types i within before here =
    before ∙ laid_next facts id types i within ∙ ap (λ b. b && are_laid_out facts id (i + 1) (drop (i + 1) types)) here

pub laid_not : (facts : ModuleFacts) (id : ℕ) (types : List ℕ) (i : ℕ) → i < length types
    → are_laid_out facts id 0 types ≡ are_laid_out facts id i (drop i types)
    → is_laid_out facts id i (get_or types i 0) ≡ false
    → are_laid_out facts id 0 types ≡ false
laid_not facts id types i within before here =
    before ∙ laid_next facts id types i within ∙ ap (λ b. b && are_laid_out facts id (i + 1) (drop (i + 1) types)) here
