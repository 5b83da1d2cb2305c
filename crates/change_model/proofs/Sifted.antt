-- Lists from which some instructions are gone, and in which the others stand as a function gives them.
use Rattle.std.proofs.Common.{◌≡◌, ℕ, zero, suc, ◌+◌, ◌-◌, ◌<◌, ◌≤◌, ◌||◌, Bool, true, false, not, cond, if◌then◌else◌, List, [], ◌∷◌, ◌++◌, map, length, take, drop, refl, ap, sym, ◌∙◌, subst, arith, length-append, Option, None, Some}
use Rattle.std.specs.Prelude.{filter}
use Rattle.std.specs.Option.{option_map}
use Rattle.std.specs.List.{find, list_any}
use Rattle.std.proofs.Math.Seq.{take-add}
use Rattle.spirv_model.specs.declared.module.Inst.{Inst}
use Rattle.valid_model.specs.Definitions.{gives, inst_at, definition}

abbrev pub sifted : (Inst → Bool) → (Inst → Inst) → List Inst → List Inst
sifted goes f insts = map f (filter (λ inst. not (goes inst)) insts)

-- ---- one more instruction

pub sifted_cons : (goes : Inst → Bool) (f : Inst → Inst) (inst : Inst) (insts : List Inst) → goes inst ≡ false → sifted goes f (inst ∷ insts) ≡ f inst ∷ sifted goes f insts
sifted_cons goes f inst insts isnt = ap (λ (b : Bool). map f (cond (not b) (inst ∷ filter (λ (i : Inst). not (goes i)) insts) (filter (λ (i : Inst). not (goes i)) insts))) isnt

pub sifted_gone : (goes : Inst → Bool) (f : Inst → Inst) (inst : Inst) (insts : List Inst) → goes inst ≡ true → sifted goes f (inst ∷ insts) ≡ sifted goes f insts
sifted_gone goes f inst insts is = ap (λ (b : Bool). map f (cond (not b) (inst ∷ filter (λ (i : Inst). not (goes i)) insts) (filter (λ (i : Inst). not (goes i)) insts))) is

pub sifted_append : (goes : Inst → Bool) (f : Inst → Inst) (xs ys : List Inst) → sifted goes f (xs ++ ys) ≡ sifted goes f xs ++ sifted goes f ys
sifted_append goes f [] ys = refl
sifted_append goes f (x ∷ xs) ys = by_test (sifted_append goes f xs ys) (goes x) refl
  where
    by_test : sifted goes f (xs ++ ys) ≡ sifted goes f xs ++ sifted goes f ys → (b : Bool) → goes x ≡ b → sifted goes f (x ∷ (xs ++ ys)) ≡ sifted goes f (x ∷ xs) ++ sifted goes f ys
    by_test rest true is = sifted_gone goes f x (xs ++ ys) is ∙ rest ∙ ap (λ (l : List Inst). l ++ sifted goes f ys) (sym (sifted_gone goes f x xs is))
    by_test rest false isnt =
        sifted_cons goes f x (xs ++ ys) isnt ∙ ap (λ (l : List Inst). f x ∷ l) rest
        ∙ ap (λ (l : List Inst). l ++ sifted goes f ys) (sym (sifted_cons goes f x xs isnt))

-- where all stay as they are
pub sifted_same : (goes : Inst → Bool) (f : Inst → Inst) (insts : List Inst) → ((k : ℕ) → k < length insts → goes (inst_at insts k) ≡ false) → ((k : ℕ) → k < length insts → f (inst_at insts k) ≡ inst_at insts k) → sifted goes f insts ≡ insts
sifted_same goes f [] stay same = refl
sifted_same goes f (inst ∷ insts) stay same =
    sifted_cons goes f inst insts (stay 0 (omega arith))
    ∙ ap (λ (i : Inst). i ∷ sifted goes f insts) (same 0 (omega arith))
    ∙ ap (λ (l : List Inst). inst ∷ l) (sifted_same goes f insts (λ k within. stay (suc k) (omega (arith, within))) (λ k within. same (suc k) (omega (arith, within))))

-- ---- tests

-- a test that says the same of what stands for an instruction, and doesn't pass for what is gone
pub record IsSiftedTest (goes : Inst → Bool) (f : Inst → Inst) (p q : Inst → Bool) : Type 0 where
  pub kept : (inst : Inst) → goes inst ≡ false → q (f inst) ≡ p inst
  pub gone : (inst : Inst) → goes inst ≡ true → p inst ≡ false

pub any_sifted : (goes : Inst → Bool) (f : Inst → Inst) (p q : Inst → Bool) → IsSiftedTest goes f p q → (insts : List Inst) → list_any q (sifted goes f insts) ≡ list_any p insts
any_sifted goes f p q t [] = refl
any_sifted goes f p q t (inst ∷ insts) = by_test (any_sifted goes f p q t insts) (goes inst) refl
  where
    by_test : list_any q (sifted goes f insts) ≡ list_any p insts → (b : Bool) → goes inst ≡ b → list_any q (sifted goes f (inst ∷ insts)) ≡ (p inst || list_any p insts)
    by_test rest true is = ap (list_any q) (sifted_gone goes f inst insts is) ∙ rest ∙ ap (λ (b : Bool). b || list_any p insts) (sym (t.gone inst is))
    by_test rest false is =
        ap (list_any q) (sifted_cons goes f inst insts is) ∙ ap (λ (b : Bool). b || list_any q (sifted goes f insts)) (t.kept inst is)
        ∙ ap (λ (b : Bool). p inst || b) rest

-- where none passed before, none passes then
pub none_sifted : (goes : Inst → Bool) (f : Inst → Inst) (p q : Inst → Bool) → ((inst : Inst) → goes inst ≡ false → p inst ≡ false → q (f inst) ≡ false) → (insts : List Inst)
    → list_any p insts ≡ false → list_any q (sifted goes f insts) ≡ false
none_sifted goes f p q less [] none = refl
none_sifted goes f p q less (inst ∷ insts) none = by_tests (goes inst) (p inst) refl refl none (none_sifted goes f p q less insts)
  where
    by_tests : (a b : Bool) → goes inst ≡ a → p inst ≡ b → (b || list_any p insts) ≡ false → (list_any p insts ≡ false → list_any q (sifted goes f insts) ≡ false) → list_any q (sifted goes f (inst ∷ insts)) ≡ false
    by_tests a true is so none rest = cc
    by_tests true false is so none rest = ap (list_any q) (sifted_gone goes f inst insts is) ∙ rest none
    by_tests false false is so none rest =
        ap (list_any q) (sifted_cons goes f inst insts is) ∙ ap (λ (b : Bool). b || list_any q (sifted goes f insts)) (less inst is so) ∙ rest none

-- what is found is what stands for it
pub find_sifted : (goes : Inst → Bool) (f : Inst → Inst) (p q : Inst → Bool) → IsSiftedTest goes f p q → (insts : List Inst) → find q (sifted goes f insts) ≡ option_map f (find p insts)
find_sifted goes f p q t [] = refl
find_sifted goes f p q t (inst ∷ insts) = by_test (find_sifted goes f p q t insts) (goes inst) refl
  where
    here : find q (sifted goes f insts) ≡ option_map f (find p insts) → (b : Bool) → cond b (Some (f inst)) (find q (sifted goes f insts)) ≡ option_map f (cond b (Some inst) (find p insts))
    here rest true = refl
    here rest false = rest

    by_test : find q (sifted goes f insts) ≡ option_map f (find p insts) → (b : Bool) → goes inst ≡ b → find q (sifted goes f (inst ∷ insts)) ≡ option_map f (cond (p inst) (Some inst) (find p insts))
    by_test rest true is =
        ap (find q) (sifted_gone goes f inst insts is) ∙ rest ∙ ap (λ (b : Bool). option_map f (cond b (Some inst) (find p insts))) (sym (t.gone inst is))
    by_test rest false is =
        ap (find q) (sifted_cons goes f inst insts is) ∙ ap (λ (b : Bool). cond b (Some (f inst)) (find q (sifted goes f insts))) (t.kept inst is) ∙ here rest (p inst)

-- ---- which place of the old list a place is

pub record PlaceIn (goes : Inst → Bool) (f : Inst → Inst) (insts : List Inst) (place : ℕ) : Type 0 where
  pub old : ℕ
  pub within : old < length insts
  pub stays : goes (inst_at insts old) ≡ false
  pub front : take place (sifted goes f insts) ≡ sifted goes f (take old insts)
  pub inst : inst_at (sifted goes f insts) place ≡ f (inst_at insts old)

pub place_in : (goes : Inst → Bool) (f : Inst → Inst) (insts : List Inst) (place : ℕ) → place < length (sifted goes f insts) → PlaceIn goes f insts place
place_in goes f [] place within = absurd (omega (arith, within))
place_in goes f (inst ∷ insts) place within = by_test (place_in goes f insts) (goes inst) refl place within
  where
    by_test : ((place : ℕ) → place < length (sifted goes f insts) → PlaceIn goes f insts place) → (b : Bool) → goes inst ≡ b → (place : ℕ) → place < length (sifted goes f (inst ∷ insts)) → PlaceIn goes f (inst ∷ insts) place
    by_test rest true is place within =
        let e = sifted_gone goes f inst insts is in
        let r = rest place (subst (λ (l : List Inst). place < length l) e within) in
        record {
          old = suc r.old;
          within = let w = r.within in omega (arith, w);
          stays = r.stays;
          front = ap (take place) e ∙ r.front ∙ sym (sifted_gone goes f inst (take r.old insts) is);
          inst = ap (λ (l : List Inst). inst_at l place) e ∙ r.inst;
        }
    by_test rest false isnt zero within = record {
      old = 0;
      within = omega arith;
      stays = isnt;
      front = refl;
      inst = ap (λ (l : List Inst). inst_at l 0) (sifted_cons goes f inst insts isnt);
    }
    by_test rest false isnt (suc place) within =
        let e = sifted_cons goes f inst insts isnt in
        let longer : suc place < length (f inst ∷ sifted goes f insts) = subst (λ (l : List Inst). suc place < length l) e within in
        let r = rest place (omega (arith, longer)) in
        record {
          old = suc r.old;
          within = let w = r.within in omega (arith, w);
          stays = r.stays;
          front = ap (take (suc place)) e ∙ ap (λ (l : List Inst). f inst ∷ l) r.front ∙ sym (sifted_cons goes f inst (take r.old insts) isnt);
          inst = ap (λ (l : List Inst). inst_at l (suc place)) e ∙ r.inst;
        }

-- ---- where an instruction stands that isn't gone

-- so many stand before it
abbrev pub place_left : (Inst → Bool) → (Inst → Inst) → List Inst → ℕ → ℕ
place_left goes f insts old = length (sifted goes f (take old insts))

-- no fewer stand before a later place
pub place_rises : (goes : Inst → Bool) (f : Inst → Inst) (insts : List Inst) (a b : ℕ) → a ≤ b → place_left goes f insts a ≤ place_left goes f insts b
place_rises goes f insts a b less =
    let e : place_left goes f insts b ≡ place_left goes f insts (a + (b - a)) = ap (place_left goes f insts) {x = b} {y = a + (b - a)} (omega (arith, less)) in
    let s = ap (λ (l : List Inst). length (sifted goes f l)) (take-add a (b - a) insts) ∙ ap length (sifted_append goes f (take a insts) (take (b - a) (drop a insts)))
    ∙ length-append (sifted goes f (take a insts)) (sifted goes f (take (b - a) (drop a insts))) in
    omega (arith, e, s)

pub record NewPlace (goes : Inst → Bool) (f : Inst → Inst) (insts : List Inst) (old : ℕ) : Type 0 where
  pub within : place_left goes f insts old < length (sifted goes f insts)
  pub front : take (place_left goes f insts old) (sifted goes f insts) ≡ sifted goes f (take old insts)
  pub inst : inst_at (sifted goes f insts) (place_left goes f insts old) ≡ f (inst_at insts old)

pub new_place : (goes : Inst → Bool) (f : Inst → Inst) (insts : List Inst) (old : ℕ) → old < length insts → goes (inst_at insts old) ≡ false → NewPlace goes f insts old
new_place goes f [] old within isnt = absurd (omega (arith, within))
new_place goes f (inst ∷ insts) zero within isnt =
    let e = sifted_cons goes f inst insts isnt in
    record {
      within = subst (λ (l : List Inst). 0 < length l) (sym e) (omega arith);
      front = refl;
      inst = ap (λ (l : List Inst). inst_at l 0) e;
    }
new_place goes f (inst ∷ insts) (suc old) within isnt = by_test (new_place goes f insts old (omega (arith, within)) isnt) (goes inst) refl
  where
    by_test : NewPlace goes f insts old → (b : Bool) → goes inst ≡ b → NewPlace goes f (inst ∷ insts) (suc old)
    by_test rest true is =
        let e = sifted_gone goes f inst insts is in
        let t = sifted_gone goes f inst (take old insts) is in
        record {
          within = subst (λ (l : List Inst). length l < length (sifted goes f (inst ∷ insts))) (sym t) (subst (λ (l : List Inst). place_left goes f insts old < length l) (sym e) rest.within);
          front = ap (λ (l : List Inst). take (length l) (sifted goes f (inst ∷ insts))) t ∙ ap (take (place_left goes f insts old)) e ∙ rest.front ∙ sym t;
          inst = ap (λ (l : List Inst). inst_at (sifted goes f (inst ∷ insts)) (length l)) t ∙ ap (λ (l : List Inst). inst_at l (place_left goes f insts old)) e ∙ rest.inst;
        }
    by_test rest false is =
        let e = sifted_cons goes f inst insts is in
        let t = sifted_cons goes f inst (take old insts) is in
        let w = rest.within in
        record {
          within = subst (λ (l : List Inst). length l < length (sifted goes f (inst ∷ insts))) (sym t) (subst (λ (l : List Inst). suc (place_left goes f insts old) < length l) (sym e) (omega (arith, w)));
          front = ap (λ (l : List Inst). take (length l) (sifted goes f (inst ∷ insts))) t ∙ ap (take (suc (place_left goes f insts old))) e ∙ ap (λ (l : List Inst). f inst ∷ l) rest.front ∙ sym t;
          inst = ap (λ (l : List Inst). inst_at (sifted goes f (inst ∷ insts)) (length l)) t ∙ ap (λ (l : List Inst). inst_at l (suc (place_left goes f insts old))) e ∙ rest.inst;
        }

-- ---- definitions

-- an id that nothing gone gives is defined where its definition stands then
pub definition_sifted : (goes : Inst → Bool) (f : Inst → Inst) (id : ℕ) → IsSiftedTest goes f (gives id) (gives id) → (insts : List Inst)
    → definition (sifted goes f insts) id ≡ option_map (place_left goes f insts) (definition insts id)
unfolding definition
definition_sifted goes f id t [] = refl
definition_sifted goes f id t (inst ∷ insts) = by_test (definition_sifted goes f id t insts) (goes inst) refl
  where
    shifted : (found : Option ℕ) → goes inst ≡ true → option_map (place_left goes f insts) found ≡ option_map (place_left goes f (inst ∷ insts)) (option_map (λ (n : ℕ). suc n) found)
    shifted None is = refl
    shifted (Some at) is = ap (λ (l : List Inst). Some (length l)) (sym (sifted_gone goes f inst (take at insts) is))

    raised : (found : Option ℕ) → goes inst ≡ false → option_map (λ (n : ℕ). suc n) (option_map (place_left goes f insts) found) ≡ option_map (place_left goes f (inst ∷ insts)) (option_map (λ (n : ℕ). suc n) found)
    raised None is = refl
    raised (Some at) is = ap (λ (l : List Inst). Some (length l)) (sym (sifted_cons goes f inst (take at insts) is))

    here : definition (sifted goes f insts) id ≡ option_map (place_left goes f insts) (definition insts id) → goes inst ≡ false → (b : Bool)
        → (if b then Some 0 else option_map (λ (n : ℕ). suc n) (definition (sifted goes f insts) id)) ≡ option_map (place_left goes f (inst ∷ insts)) (if b then Some 0 else option_map (λ (n : ℕ). suc n) (definition insts id))
    here rest is true = refl
    here rest is false = ap (option_map (λ (n : ℕ). suc n)) rest ∙ raised (definition insts id) is

    by_test : definition (sifted goes f insts) id ≡ option_map (place_left goes f insts) (definition insts id) → (b : Bool) → goes inst ≡ b
        → definition (sifted goes f (inst ∷ insts)) id ≡ option_map (place_left goes f (inst ∷ insts)) (if gives id inst then Some 0 else option_map (λ (n : ℕ). suc n) (definition insts id))
    by_test rest true is =
        ap (λ (l : List Inst). definition l id) (sifted_gone goes f inst insts is) ∙ rest ∙ shifted (definition insts id) is
        ∙ ap (λ (b : Bool). option_map (place_left goes f (inst ∷ insts)) (if b then Some 0 else option_map (λ (n : ℕ). suc n) (definition insts id))) (sym (t.gone inst is))
    by_test rest false is =
        ap (λ (l : List Inst). definition l id) (sifted_cons goes f inst insts is)
        ∙ ap (λ (b : Bool). if b then Some 0 else option_map (λ (n : ℕ). suc n) (definition (sifted goes f insts) id)) (t.kept inst is)
        ∙ here rest is (gives id inst)

-- an id that nothing left gives isn't defined
pub definition_lost : (goes : Inst → Bool) (f : Inst → Inst) (id : ℕ) → ((inst : Inst) → goes inst ≡ false → gives id (f inst) ≡ false) → (insts : List Inst) → definition (sifted goes f insts) id ≡ None
unfolding definition
definition_lost goes f id never [] = refl
definition_lost goes f id never (inst ∷ insts) = by_test (definition_lost goes f id never insts) (goes inst) refl
  where
    by_test : definition (sifted goes f insts) id ≡ None → (b : Bool) → goes inst ≡ b → definition (sifted goes f (inst ∷ insts)) id ≡ None
    by_test rest true is = ap (λ (l : List Inst). definition l id) (sifted_gone goes f inst insts is) ∙ rest
    by_test rest false is =
        ap (λ (l : List Inst). definition l id) (sifted_cons goes f inst insts is)
        ∙ ap (λ (b : Bool). if b then Some 0 else option_map (λ (n : ℕ). suc n) (definition (sifted goes f insts) id)) (never inst is)
        ∙ ap (option_map (λ (n : ℕ). suc n)) rest
