-- One entry point is the first one.
use Rattle.std.proofs.Common.{◌≡◌, ℕ, Bool, true, false, if◌then◌else◌, List, [], ◌∷◌, length, filter, Option, None, Some, refl, ap, sym, ◌∙◌, arith}
use Rattle.std.specs.List.{find}
use Rattle.std.specs.Option.{option_map}
use Rattle.spirv_model.specs.declared.module.Inst.{Inst}
use Rattle.spirv_model.specs.Operands.{word_at}
use Rattle.valid_model.specs.ModuleFacts.{is_entry, model_of}
use Rattle.check_model.specs.EntryPoints.{is_one_entry, entry_points, function_id, bad_entry_count}
use Rattle.spv_check.specs.FactsTold.{is_shader_entry_in}

-- the first of what a filter keeps
abbrev head_of : {X : Type 0} → List X → Option X
head_of [] = None
head_of (x ∷ xs) = Some x

head_by : {X : Type 0} (b : Bool) (x : X) (kept : List X) (found : Option X) → found ≡ head_of kept → (if b then Some x else found) ≡ head_of (if b then x ∷ kept else kept)
head_by true x kept found is = refl
head_by false x kept found is = is

find_head : {X : Type 0} (p : X → Bool) (xs : List X) → find p xs ≡ head_of (filter p xs)
find_head p [] = refl
find_head p (x ∷ xs) = head_by (p x) x (filter p xs) (find p xs) (find_head p xs)

-- the first one, by its two words
by_words : (function : Option ℕ) (entries : List Inst) → length entries ≡ 1
    → is_one_entry function entries ≡ is_shader_entry_in function (option_map (word_at 0) (head_of entries)) (option_map (word_at 1) (head_of entries))
by_words function [] one = absurd (omega arith)
by_words function (entry ∷ []) one = refl
by_words function (entry ∷ other ∷ more) one = absurd (omega arith)

pub one_entry : (insts : List Inst) (function : Option ℕ) → length (filter is_entry insts) ≡ 1
    → is_one_entry function (entry_points insts) ≡ is_shader_entry_in function (option_map (word_at 0) (find is_entry insts)) (option_map (word_at 1) (find is_entry insts))
one_entry insts function one =
    by_words function (filter is_entry insts) one
    ∙ ap (λ (o : Option Inst). is_shader_entry_in function (option_map (word_at 0) o) (option_map (word_at 1) o)) (sym (find_head is_entry insts))

-- more than one or none is not one
not_one : (function : Option ℕ) (entries : List Inst) → (length entries ≡ 1 → ⊥) → is_one_entry function entries ≡ false
not_one function [] other = refl
not_one function (entry ∷ []) other = absurd (other refl)
not_one function (entry ∷ next ∷ more) other = refl

none_where : (b : Bool) (n : ℕ) → b ≡ true → None ≡ (if b then None else Some n)
none_where true n is = refl
none_where false n is = cc

some_where : (b : Bool) (n : ℕ) → b ≡ false → Some n ≡ (if b then None else Some n)
some_where true n is = cc
some_where false n is = refl

pub counted : (insts : List Inst) (b : Bool) (n : ℕ) → length (entry_points insts) ≡ 1 → b ≡ true
    → b ≡ is_shader_entry_in (function_id insts) (option_map (word_at 0) (find is_entry insts)) (option_map (word_at 1) (find is_entry insts)) → None ≡ bad_entry_count insts
unfolding bad_entry_count
counted insts b n one sound is = none_where _ _ (one_entry insts (function_id insts) one ∙ sym is ∙ sound)

pub not_shader : (insts : List Inst) (b : Bool) (n : ℕ) → n ≡ length (entry_points insts) → n ≡ 1 → b ≡ false
    → b ≡ is_shader_entry_in (function_id insts) (option_map (word_at 0) (find is_entry insts)) (option_map (word_at 1) (find is_entry insts)) → Some n ≡ bad_entry_count insts
unfolding bad_entry_count
not_shader insts b n count one sound is = ap (λ (k : ℕ). Some k) count ∙ some_where _ _ (one_entry insts (function_id insts) (sym count ∙ one) ∙ sym is ∙ sound)

pub other_count : (insts : List Inst) (n : ℕ) → n ≡ length (entry_points insts) → (n ≡ 1 → ⊥) → Some n ≡ bad_entry_count insts
unfolding bad_entry_count
other_count insts n count other = ap (λ (k : ℕ). Some k) count ∙ some_where _ _ (not_one (function_id insts) (entry_points insts) (λ one. other (count ∙ one)))

same_words : (b : Bool) (f f' m m' t t' : Option ℕ) → b ≡ is_shader_entry_in f m t → f ≡ f' → m ≡ m' → t ≡ t' → b ≡ is_shader_entry_in f' m' t'
same_words b f f' m m' t t' is x y z = cc

-- what was told of the function and of the first entry point
pub by_words_told : (insts : List Inst) (b : Bool) (function model target : Option ℕ) → b ≡ is_shader_entry_in function model target
    → function ≡ function_id insts → model ≡ model_of insts → target ≡ option_map (word_at 1) (find is_entry insts)
    → b ≡ is_shader_entry_in (function_id insts) (option_map (word_at 0) (find is_entry insts)) (option_map (word_at 1) (find is_entry insts))
unfolding model_of
by_words_told insts b function model target is f m t = same_words b _ _ _ _ _ _ is f m t
