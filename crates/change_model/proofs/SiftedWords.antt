-- A list from which instructions are gone, and in which others aren't longer, fits the table and has no more words.
use Rattle.std.proofs.Common.{◌≡◌, ℕ, suc, ◌+◌, ◌<◌, ◌≤◌, ◌&&◌, Bool, true, false, List, [], ◌∷◌, length, refl, ap, sym, ◌∙◌, subst, arith, length-append}
use Rattle.std.specs.Prelude.{is_some}
use Rattle.std.specs.List.{flat_map, list_all}
use Rattle.spirv_model.specs.declared.module.Inst.{Inst}
use Rattle.spirv_model.specs.Operands.{kinds}
use Rattle.spirv_model.specs.Module.{fits_table, words_of, module_words}
use Rattle.valid_model.specs.Definitions.{inst_at}
use Rattle.change_model.proofs.Sifted.{sifted, sifted_cons, sifted_gone}

-- ---- it fits the table

pub sifted_fits : (goes : Inst → Bool) (f : Inst → Inst) (insts : List Inst) → ((k : ℕ) → k < length insts → goes (inst_at insts k) ≡ false → is_some (kinds (f (inst_at insts k))) ≡ true) → list_all fits_table (sifted goes f insts) ≡ true
sifted_fits goes f [] fit = refl
sifted_fits goes f (inst ∷ insts) fit = by_test (sifted_fits goes f insts (λ k within. fit (suc k) (omega (arith, within)))) (goes inst) refl
  where
    by_test : list_all fits_table (sifted goes f insts) ≡ true → (b : Bool) → goes inst ≡ b → list_all fits_table (sifted goes f (inst ∷ insts)) ≡ true
    by_test rest true is = ap (list_all fits_table) (sifted_gone goes f inst insts is) ∙ rest
    by_test rest false isnt =
        ap (list_all fits_table) (sifted_cons goes f inst insts isnt) ∙ ap (λ (b : Bool). b && list_all fits_table (sifted goes f insts)) (fit 0 (omega arith) isnt) ∙ rest

-- ---- it has no more words

abbrev size : List Inst → ℕ
size insts = length (flat_map words_of insts)

size_more : (inst : Inst) (insts : List Inst) → size (inst ∷ insts) ≡ length inst.words + 1 + size insts
size_more inst insts = let e = length-append (words_of inst) (flat_map words_of insts) in omega (arith, e)

-- with one instruction that is gone, and with one that is no longer
grows : (a : ℕ) (new old : ℕ) → new ≤ old → new ≤ a + 1 + old
grows a new old less = omega (arith, less)

both_grow : (a b new old : ℕ) → a ≤ b → new ≤ old → a + 1 + new ≤ b + 1 + old
both_grow a b new old first rest = omega (arith, first, rest)

shorter : (goes : Inst → Bool) (f : Inst → Inst) (insts : List Inst) → ((k : ℕ) → k < length insts → length (f (inst_at insts k)).words ≤ length (inst_at insts k).words) → size (sifted goes f insts) ≤ size insts
shorter goes f [] short = omega arith
shorter goes f (inst ∷ insts) short = by_test (shorter goes f insts (λ k within. short (suc k) (omega (arith, within)))) (goes inst) refl
  where
    by_test : size (sifted goes f insts) ≤ size insts → (b : Bool) → goes inst ≡ b → size (sifted goes f (inst ∷ insts)) ≤ size (inst ∷ insts)
    by_test rest true is =
        subst (λ (n : ℕ). n ≤ size (inst ∷ insts)) (sym (ap size (sifted_gone goes f inst insts is)))
        (subst (λ (n : ℕ). size (sifted goes f insts) ≤ n) (sym (size_more inst insts)) (grows (length inst.words) (size (sifted goes f insts)) (size insts) rest))
    by_test rest false isnt =
        subst (λ (n : ℕ). n ≤ size (inst ∷ insts)) (sym (ap size (sifted_cons goes f inst insts isnt) ∙ size_more (f inst) (sifted goes f insts)))
        (subst (λ (n : ℕ). length (f inst).words + 1 + size (sifted goes f insts) ≤ n) (sym (size_more inst insts))
        (both_grow (length (f inst).words) (length inst.words) (size (sifted goes f insts)) (size insts) (short 0 (omega arith)) rest))

whole_size : (insts : List Inst) (bound : ℕ) → length (module_words insts bound) ≡ 5 + size insts
whole_size insts bound = omega arith

pub sifted_shortens : (goes : Inst → Bool) (f : Inst → Inst) (insts : List Inst) (bound : ℕ) → ((k : ℕ) → k < length insts → length (f (inst_at insts k)).words ≤ length (inst_at insts k).words)
    → length (module_words (sifted goes f insts) bound) ≤ length (module_words insts bound)
sifted_shortens goes f insts bound short =
    let less = shorter goes f insts short in
    let a = whole_size (sifted goes f insts) bound in let b = whole_size insts bound in
    omega (arith, less, a, b)
