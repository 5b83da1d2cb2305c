-- The first instruction that passes a test, one instruction at a time.
use Rattle.std.proofs.Common.{◌≡◌, ℕ, ◌+◌, ◌<◌, Bool, true, false, List, [], ◌∷◌, ◌++◌, length, take, get_or, ◌∙◌, ap, refl, sym}
use Rattle.std.specs.Prelude.{Option, None, Some}
use Rattle.std.specs.Option.{option_map, option_or}
use Rattle.std.specs.List.{find}
use Rattle.std.proofs.lemmas.List.{take_more}
use Rattle.std.proofs.lemmas.List.Folds.{find-append}
use Rattle.spirv_model.specs.declared.module.Inst.{Inst}
use Rattle.spv_types.specs.Pairs.{word_if}

map_or : (f : Inst → ℕ) (found other : Option Inst) → option_map f (option_or found other) ≡ option_or (option_map f found) (option_map f other)
map_or f None other = refl
map_or f (Some inst) other = refl

only : (test : Bool) (f : Inst → ℕ) (p : Inst → Bool) (inst : Inst) → p inst ≡ test → option_map f (find p (inst ∷ [])) ≡ word_if test (f inst)
only true f p inst is = rw is refl
only false f p inst is = rw is refl

-- what the first instruction that passes says, after one more
pub found_more : (p : Inst → Bool) (f : Inst → ℕ) (insts : List Inst) (i : ℕ) (inst : Inst) → i < length insts → inst ≡ get_or insts i inst
    → option_map f (find p (take (i + 1) insts)) ≡ option_or (option_map f (find p (take i insts))) (word_if (p inst) (f inst))
found_more p f insts i inst within is =
    ap (λ xs. option_map f (find p xs)) (take_more insts i inst within ∙ ap (λ (x : Inst). take i insts ++ x ∷ []) (sym is))
    ∙ ap (option_map f) (find-append p (take i insts) (inst ∷ []))
    ∙ map_or f (find p (take i insts)) (find p (inst ∷ []))
    ∙ ap (option_or (option_map f (find p (take i insts)))) (only (p inst) f p inst refl)

-- a table keeps pace
pub keeps_pace : (p : Inst → Bool) (f : Inst → ℕ) (insts : List Inst) (i : ℕ) (inst : Inst) (old new : Option ℕ) → i < length insts → inst ≡ get_or insts i inst
    → old ≡ option_map f (find p (take i insts)) → new ≡ option_or old (word_if (p inst) (f inst))
    → new ≡ option_map f (find p (take (i + 1) insts))
keeps_pace p f insts i inst old new within is before now =
    now ∙ ap (λ o. option_or o (word_if (p inst) (f inst))) before ∙ sym (found_more p f insts i inst within is)
