-- Types have the same layouts in the list that a plan makes, and decorations, offsets and outputs are the same.
use Rattle.std.proofs.Common.{◌≡◌, ℕ, suc, ◌+◌, ◌<◌, ◌≤◌, ◌==◌, ◌&&◌, ◌||◌, Bool, true, false, if◌then◌else◌, List, [], ◌∷◌, length, take, drop, refl, ap, sym, ◌∙◌, arith, length-drop, take-append-drop, Option, None, Some}
use Rattle.std.proofs.Math.Path.{fun_ext}
use Rattle.std.specs.Prelude.{is_none}
use Rattle.std.specs.Option.{option_map}
use Rattle.std.specs.List.{fold}
use Rattle.std.proofs.lemmas.List.{get_or-drop, get_or-take, length-take-le}
use Rattle.std.proofs.lemmas.List.Sums.{fold-append}
use Rattle.spirv_model.specs.declared.module.Inst.{Inst}
use Rattle.spirv_model.specs.declared.op.TheConstants as op
use Rattle.spirv_model.specs.Operands.{word_at, result}
use Rattle.valid_model.specs.declared.meaning.Meaning.{Meaning}
use Rattle.valid_model.specs.declared.meaning.Meaning.TheVariants.{Variable, Value as OfValue, Label, Other}
use Rattle.valid_model.specs.DecorationWords.{decorates, places_member, decoration_of, offset_of}
use Rattle.valid_model.specs.Definitions.{gives, inst_at, no_instruction, definition}
use Rattle.valid_model.specs.Knowledge.{Knowledge, is_storage_class, meaning_in, means}
use Rattle.valid_model.specs.Types.{is_type, is_type_class}
use Rattle.valid_model.specs.Meanings.{is_constant, constant_known, known_of, known_before, meaning}
use Rattle.stage_model.specs.Value.{Layout}
use Rattle.stage_model.specs.Program.{layout_of, layouts_after, layouts_by}
use Rattle.typed_model.proofs.ModuleValues.{defined_at, meaning_at}
use Rattle.typed_model.proofs.SilentSteps.{given_id}
use Rattle.change_model.specs.Folding.{function_at}
use Rattle.change_model.specs.Plans.{changed}
use Rattle.change_model.proofs.BehindLevel.{type_fails, fails_function, no_type_behind, setting_found, no_setting, are_settings}
use Rattle.change_model.proofs.ChangedDefinitions.{old_defined, once_changed}
use Rattle.change_model.proofs.ChangedMeanings.{level_known}
use Rattle.change_model.proofs.ChangedPlaces.{function_within, front_left}
use Rattle.change_model.proofs.Planned.{Planned}

-- ---- ids without a layout

no_layout : (layout : ℕ → Option Layout) (known : Knowledge) (inst : Inst) → is_type inst.op ≡ false → layout_of layout (known_of known inst).meaning ≡ None
unfolding known_of
no_layout layout known inst isnt = rw isnt (by_tests (is_constant inst.op) (inst.op == op.VARIABLE) (is_storage_class (word_at 2 inst)) (inst.op == op.LABEL) (inst.op == op.FUNCTION) (inst.op == op.EXT_INST_IMPORT))
  where
    by_tests : (a b c d e f : Bool) → layout_of layout (if a then constant_known known inst.op (word_at 0 inst) (word_at 2 inst)
        else if b then means (if c then Variable (word_at 0 inst) (word_at 2 inst) else Other)
        else means (if d then Label else if e || f then Other else OfValue (word_at 0 inst))).meaning ≡ None
    by_tests true b c d e f = refl
    by_tests false true true d e f = refl
    by_tests false true false d e f = refl
    by_tests false false c true e f = refl
    by_tests false false c false true f = refl
    by_tests false false c false false true = refl
    by_tests false false c false false false = refl

-- no id that an instruction of the list gives has a layout
AreShapeless : (ℕ → Meaning) → List Inst → Type 0
AreShapeless means insts = (k id : ℕ) → k < length insts → gives id (inst_at insts k) ≡ true → (layout : ℕ → Option Layout) → layout_of layout (means id) ≡ None

pass_one : (means : ℕ → Meaning) (inst : Inst) → ((id : ℕ) → gives id inst ≡ true → (layout : ℕ → Option Layout) → layout_of layout (means id) ≡ None) → (layout : ℕ → Option Layout) → layouts_after means layout inst ≡ layout
pass_one means inst none layout = fun_ext (λ id. by_test id (gives id inst) refl (layout id))
  where
    by_test : (id : ℕ) (here : Bool) → gives id inst ≡ here → (found : Option Layout) → (if here && is_none found then layout_of layout (means id) else found) ≡ found
    by_test id true is None = none id is layout
    by_test id true is (Some x) = refl
    by_test id false is found = refl

pass_all : (means : ℕ → Meaning) (insts : List Inst) → AreShapeless means insts → (layout : ℕ → Option Layout) → fold (layouts_after means) layout insts ≡ layout
unfolding AreShapeless
pass_all means [] none layout = refl
pass_all means (inst ∷ insts) none layout =
    ap (λ (l : ℕ → Option Layout). fold (layouts_after means) l insts) (pass_one means inst (λ id is. none 0 id (omega arith) is) layout)
    ∙ pass_all means insts (λ k id within is. none (suc k) id (omega (arith, within)) is) layout

-- so layouts are those of the types before a place
layouts_front : (means : ℕ → Meaning) (insts : List Inst) (first : ℕ) → AreShapeless means (drop first insts) → layouts_by means insts ≡ fold (layouts_after means) (λ _. None) (take first insts)
unfolding layouts_by
layouts_front means insts first none =
    ap (fold (layouts_after means) (λ _. None)) (sym (take-append-drop first insts))
    ∙ fold-append (layouts_after means) (λ _. None) (take first insts) (drop first insts)
    ∙ pass_all means (drop first insts) none (fold (layouts_after means) (λ _. None) (take first insts))

-- meanings that are the same for what these instructions give
same_layouts : (means others : ℕ → Meaning) (insts : List Inst) → ((k id : ℕ) → k < length insts → gives id (inst_at insts k) ≡ true → means id ≡ others id) → (layout : ℕ → Option Layout)
    → fold (layouts_after means) layout insts ≡ fold (layouts_after others) layout insts
same_layouts means others [] same layout = refl
same_layouts means others (inst ∷ insts) same layout =
    ap (λ (l : ℕ → Option Layout). fold (layouts_after means) l insts) (fun_ext (λ id. by_test id (gives id inst) refl (layout id)))
    ∙ same_layouts means others insts (λ k id within is. same (suc k) id (omega (arith, within)) is) (layouts_after others layout inst)
  where
    by_test : (id : ℕ) (here : Bool) → gives id inst ≡ here → (found : Option Layout) → (if here && is_none found then layout_of layout (means id) else found) ≡ (if here && is_none found then layout_of layout (others id) else found)
    by_test id true is None = ap (layout_of layout) (same 0 id (omega arith) is)
    by_test id true is (Some x) = refl
    by_test id false is found = refl

shapeless : (insts : List Inst) (first : ℕ) → ((k id : ℕ) → k < length insts → result (inst_at insts k) ≡ Some id → definition insts id ≡ Some k) → ((k : ℕ) → first ≤ k → k < length insts → is_type (inst_at insts k).op ≡ false)
    → AreShapeless (meaning insts) (drop first insts)
unfolding AreShapeless
shapeless insts first defined no_type k id within is layout =
    let long = length-drop first insts in
    let there : first + k < length insts = omega (arith, long, within) in
    let here = given_id id (result (inst_at insts (first + k))) (ap (gives id) (sym (get_or-drop first insts k no_instruction)) ∙ is) in
    ap (layout_of layout) (meaning_at insts (first + k) id (defined (first + k) id there here))
    ∙ no_layout layout (known_before insts (first + k)) (inst_at insts (first + k)) (no_type (first + k) (omega arith) there)

pub layouts_changed : (g : Planned) → layouts_by (meaning (changed g.plan g.words.insts)) (changed g.plan g.words.insts) ≡ layouts_by (meaning g.words.insts) g.words.insts
layouts_changed g =
    layouts_front (meaning list) list first (shapeless list first (λ k id within is. defined_at list k id within is (once_changed g k within)) (no_type_behind g))
    ∙ ap (fold (layouts_after (meaning list)) (λ _. None)) (front_left g.plan insts)
    ∙ same_layouts (meaning list) (meaning insts) (take first insts) at_level (λ _. None)
    ∙ sym (layouts_front (meaning insts) insts first (shapeless insts first (λ k id within is. old_defined g k id within is) (fails_function g is_type_class type_fails)))
  where
    insts : List Inst
    insts = g.words.insts

    list : List Inst
    list = changed g.plan g.words.insts

    first : ℕ
    first = function_at g.words.insts

    at_level : (k id : ℕ) → k < length (take first insts) → gives id (inst_at (take first insts) k) ≡ true → meaning list id ≡ meaning insts id
    at_level k id within is =
        let long = length-take-le first insts (function_within insts) in
        let most = function_within insts in
        let low : k < first = omega (arith, within, long) in
        let here = given_id id (result (inst_at insts k)) (ap (gives id) (sym (get_or-take first insts k no_instruction low)) ∙ is) in
        ap meaning_in (level_known g id k (old_defined g k id (omega (arith, low, most)) here) low)

-- ---- decorations

pub decorations_changed : (g : Planned) → decoration_of (changed g.plan g.words.insts) ≡ decoration_of g.words.insts
unfolding decoration_of
decorations_changed g = fun_ext (λ id. fun_ext (λ decoration.
    ap (option_map (word_at 2)) (setting_found g (decorates id decoration) (λ inst isnt. rw (no_setting op.DECORATE inst.op are_settings.decorate isnt) refl))))

pub offsets_changed : (g : Planned) → offset_of (changed g.plan g.words.insts) ≡ offset_of g.words.insts
unfolding offset_of
offsets_changed g = fun_ext (λ id. fun_ext (λ member.
    ap (option_map (word_at 3)) (setting_found g (places_member id member) (λ inst isnt. rw (no_setting op.MEMBER_DECORATE inst.op are_settings.member isnt) refl))))
