-- The module's level, and what is pushed place by place.
use Rattle.std.proofs.Common.{◌≡◌, ℕ, zero, suc, ◌+◌, ◌-◌, ◌<◌, ◌≤◌, ◌==◌, Bool, true, false, if◌then◌else◌, List, [], ◌∷◌, ◌++◌, length, take, refl, ap, sym, ◌∙◌, arith}
use Rattle.std.specs.List.{flat_map, range_with_len, list_all}
use Rattle.std.specs.Prelude.{IsSome}
use Rattle.std.proofs.lemmas.List.{append-nil, flat_map_more}
use Rattle.std.proofs.lemmas.Option.{slice_get-get_or}
use Rattle.basics.proofs.Bools.{first_of_both, second_of_both}
use Rattle.spirv_model.specs.declared.module.Inst.{Inst}
use Rattle.spirv_model.specs.declared.op.TheConstants as op
use Rattle.spirv_model.specs.Operands.{word_at, class_of, entry_of, kinds}
use Rattle.spirv_model.specs.Module.{fits_table}
use Rattle.body_model.specs.Classes.{is_module_level}
use Rattle.body_model.specs.Grammar.{Derives}
use Rattle.valid_model.specs.Definitions.{inst_at, no_instruction}
use Rattle.check_model.specs.Branches.{label_behind}
use Rattle.typed_model.proofs.BlockLists.{label_behind_next}
use Rattle.typed_model.proofs.BlockParts.{another}
use Rattle.change_model.specs.Folding.{function_at}
use Rattle.change_model.proofs.MovedUp.{function_is, level_inst}

-- ---- no label stands before OpFunction

no_level_label : is_module_level op.LABEL ≡ false
unfolding class_of entry_of
no_level_label = refl

pass_label : (b : Bool) (own label : ℕ) → b ≡ false → (if b then own else label) ≡ label
pass_label true own label isnt = cc
pass_label false own label isnt = refl

no_label : (insts : List Inst) (d : Derives insts) (k : ℕ) → k ≤ d.before → k ≤ length insts → label_behind 0 (take k insts) ≡ 0
no_label insts d zero low within = refl
no_label insts d (suc k) low within =
    label_behind_next 0 insts k (inst_at insts k) (slice_get-get_or insts k no_instruction (omega (arith, within)))
    ∙ pass_label ((inst_at insts k).op == op.LABEL) (word_at 0 (inst_at insts k)) _ (another is_module_level op.LABEL no_level_label (inst_at insts k).op (level_inst insts d k (omega (arith, low))))
    ∙ no_label insts d k (omega (arith, low)) (omega (arith, within))

pub front_label : (insts : List Inst) (d : Derives insts) (first : ℕ) → first ≡ function_at insts → first ≤ length insts → 0 ≡ label_behind 0 (take first insts)
front_label insts d first is within = let e = function_is insts d in sym (no_label insts d first (omega (arith, is, e)) within)

-- ---- what is pushed for one more place

range_more : (a n : ℕ) → range_with_len a (suc n) ≡ range_with_len a n ++ (a + n) ∷ []
range_more a zero = ap (λ (k : ℕ). k ∷ []) {x = a} {y = a + 0} (omega arith)
range_more a (suc n) = ap (λ (l : List ℕ). a ∷ l) (range_more (a + 1) n ∙ ap (λ (k : ℕ). range_with_len (a + 1) n ++ k ∷ []) {x = a + 1 + n} {y = a + suc n} (omega arith))

pub one_more : (f : ℕ → List Inst) (first place : ℕ) (start old new : List Inst) → first ≤ place → old ≡ start ++ flat_map f (range_with_len first (place - first)) → new ≡ old ++ f place
    → new ≡ start ++ flat_map f (range_with_len first (place + 1 - first))
one_more f first place start old new least so more =
    let e : suc (place - first) ≡ place + 1 - first = omega (arith, least) in
    let k : first + (place - first) ≡ place = omega (arith, least) in
    more ∙ ap (λ (l : List Inst). l ++ f place) so ∙ flat_map_more f start (range_with_len first (place - first)) place
    ∙ ap (λ (n : ℕ). start ++ flat_map f (range_with_len first (place - first) ++ n ∷ [])) (sym k)
    ∙ ap (λ (l : List ℕ). start ++ flat_map f l) (sym (range_more first (place - first))) ∙ ap (λ (n : ℕ). start ++ flat_map f (range_with_len first n)) e

pub none_yet : (f : ℕ → List Inst) (first : ℕ) (start : List Inst) → start ≡ start ++ flat_map f (range_with_len first (first - first))
none_yet f first start = sym (ap (λ (n : ℕ). start ++ flat_map f (range_with_len first n)) {x = first - first} {y = 0} (omega arith) ∙ append-nil start)

-- ---- each instruction fits the table

pub all_fit : (insts : List Inst) → list_all fits_table insts ≡ true → (place : ℕ) → place < length insts → IsSome (kinds (inst_at insts place))
all_fit [] all place within = absurd (omega (arith, within))
all_fit (inst ∷ insts) all zero within = first_of_both (fits_table inst) (list_all fits_table insts) all
all_fit (inst ∷ insts) all (suc place) within = all_fit insts (second_of_both (fits_table inst) (list_all fits_table insts) all) place (omega (arith, within))
