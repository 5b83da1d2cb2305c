-- The function stands as it was where constants stand for specialization constants.
use Rattle.std.proofs.Common.{◌≡◌, ℕ, suc, ◌+◌, ◌<◌, ◌≤◌, ◌==◌, ◌&&◌, ◌||◌, inl, inr, Bool, true, false, nat_lt, if◌then◌else◌, List, [], ◌∷◌, ◌++◌, length, take, drop, get_or, refl, ap, sym, ◌∙◌, subst, arith, length-append, length-drop, take-append-drop, Option, None, Some}
use Rattle.std.specs.Prelude.{slice_get}
use Rattle.std.specs.List.{list_any}
use Rattle.std.proofs.lemmas.Bool.{cases_lt, lt-ltb}
use Rattle.std.proofs.lemmas.List.{drop_at, get_or-drop, get_or-take, get_or_append_left, length-take-le}
use Rattle.std.proofs.lemmas.List.Folds.{list_any_at}
use Rattle.std.proofs.lemmas.List.Sums.{position_or_len_is}
use Rattle.std.proofs.lemmas.Option.{get_or_from_slice_get}
use Rattle.spirv_model.specs.declared.module.Inst.{Inst}
use Rattle.spirv_model.specs.declared.op.TheConstants as op
use Rattle.spirv_model.specs.declared.decoration.TheConstants.{SPEC_ID}
use Rattle.spirv_model.specs.declared.class.Class.{Class}
use Rattle.spirv_model.specs.declared.class.Class.TheVariants as class
use Rattle.spirv_model.specs.Operands.{word_at, entry_of, class_of}
use Rattle.body_model.specs.Classes.{is_module_level, is_plain_class, is_plain, is_terminator_class, is_terminator}
use Rattle.body_model.specs.Grammar.{IsOp, Derives}
use Rattle.body_model.proofs.ClassFacts.{no_level_label}
use Rattle.body_model.proofs.Forward.{forward}
use Rattle.valid_model.specs.Definitions.{inst_at, no_instruction}
use Rattle.stage_model.specs.Stage.{first_label}
use Rattle.typed_model.proofs.BlockParts.{BlockPart, a_label, a_phi, a_variable, a_selection_merge, a_loop_merge, a_plain_one, a_terminator, another, clash}
use Rattle.typed_model.proofs.FunctionRuns.{part_at}
use Rattle.typed_model.proofs.RunningStart.{starts_with_label}
use Rattle.typed_model.proofs.ValidFunctions.{front_of}
use Rattle.change_model.specs.Constants.{is_spec_id}
use Rattle.change_model.specs.Settling.{is_spec_class, StandsFor, same, settles, all_settled}
use Rattle.change_model.proofs.SameFunction.{HaveSameFunction}
use Rattle.change_model.proofs.Sifted.{sifted_same, sifted_append}
use Rattle.change_model.proofs.Settlings.{Settles, IsOther, kept_by_op, any_settled, op_is}

-- ---- instructions that stay

-- neither a specialization constant nor a decoration
pub record Stays (opcode : ℕ) : Type 0 where
  pub no_spec : is_spec_class (class_of opcode) ≡ false
  pub no_decorate : opcode == op.DECORATE ≡ false

stays_label : Stays op.LABEL
unfolding class_of entry_of
stays_label = record { no_spec = refl; no_decorate = refl }

stays_phi : Stays op.PHI
unfolding class_of entry_of
stays_phi = record { no_spec = refl; no_decorate = refl }

stays_variable : Stays op.VARIABLE
unfolding class_of entry_of
stays_variable = record { no_spec = refl; no_decorate = refl }

stays_selection_merge : Stays op.SELECTION_MERGE
unfolding class_of entry_of
stays_selection_merge = record { no_spec = refl; no_decorate = refl }

stays_loop_merge : Stays op.LOOP_MERGE
unfolding class_of entry_of
stays_loop_merge = record { no_spec = refl; no_decorate = refl }

stays_function_end : Stays op.FUNCTION_END
unfolding class_of entry_of
stays_function_end = record { no_spec = refl; no_decorate = refl }

by_same : (own opcode : ℕ) → Stays own → opcode == own ≡ true → Stays opcode
by_same own opcode s is = subst Stays (sym (op_is opcode own is)) s

no_plain_decorate : is_plain op.DECORATE ≡ false
unfolding class_of entry_of
no_plain_decorate = refl

no_terminator_decorate : is_terminator op.DECORATE ≡ false
unfolding class_of entry_of
no_terminator_decorate = refl

no_plain_spec : (of : Option Class) → is_plain_class of ≡ true → is_spec_class of ≡ false
no_plain_spec None is = refl
no_plain_spec (Some class.SpecConstant) is = cc
no_plain_spec (Some class.SpecConstantResult) is = cc
no_plain_spec (Some other) is = refl

no_terminator_spec : (of : Option Class) → is_terminator_class of ≡ true → is_spec_class of ≡ false
no_terminator_spec None is = refl
no_terminator_spec (Some class.SpecConstant) is = cc
no_terminator_spec (Some class.SpecConstantResult) is = cc
no_terminator_spec (Some other) is = refl

plain_stays : (opcode : ℕ) → is_plain opcode ≡ true → Stays opcode
plain_stays opcode is = record { no_spec = no_plain_spec (class_of opcode) is; no_decorate = another is_plain op.DECORATE no_plain_decorate opcode is }

terminator_stays : (opcode : ℕ) → is_terminator opcode ≡ true → Stays opcode
terminator_stays opcode is = record { no_spec = no_terminator_spec (class_of opcode) is; no_decorate = another is_terminator op.DECORATE no_terminator_decorate opcode is }

part_stays : (inst : Inst) → BlockPart inst → Stays inst.op
part_stays inst (a_label is) = by_same op.LABEL inst.op stays_label is
part_stays inst (a_phi is) = by_same op.PHI inst.op stays_phi is
part_stays inst (a_variable is) = by_same op.VARIABLE inst.op stays_variable is
part_stays inst (a_selection_merge is) = by_same op.SELECTION_MERGE inst.op stays_selection_merge is
part_stays inst (a_loop_merge is) = by_same op.LOOP_MERGE inst.op stays_loop_merge is
part_stays inst (a_plain_one is) = plain_stays inst.op is
part_stays inst (a_terminator is) = terminator_stays inst.op is

-- ---- lists

pub stays_same : (new old : Inst) → StandsFor new old → Stays old.op → new ≡ old
stays_same new old (same is) s = is
stays_same new old (settles spec constant type id) s = absurd (clash (is_spec_class (class_of old.op)) spec s.no_spec)

pub stays_kept : (inst : Inst) → Stays inst.op → is_spec_id inst ≡ false
stays_kept inst s = ap (λ (b : Bool). b && (word_at 1 inst == SPEC_ID)) s.no_decorate

pub unchanged : (f : Inst → Inst) → Settles f → (insts : List Inst) → ((k : ℕ) → k < length insts → Stays (inst_at insts k).op) → all_settled f insts ≡ insts
unchanged f s insts stay =
    sifted_same is_spec_id f insts (λ k within. stays_kept (inst_at insts k) (stay k within)) (λ k within. stays_same (f (inst_at insts k)) (inst_at insts k) (s (inst_at insts k)) (stay k within))

pub settled_append : (f : Inst → Inst) (xs ys : List Inst) → all_settled f (xs ++ ys) ≡ all_settled f xs ++ all_settled f ys
settled_append f xs ys = sifted_append is_spec_id f xs ys

-- ---- the function

function_end_op : (insts : List Inst) (d : Derives insts) → Stays (inst_at insts d.after).op
function_end_op insts d = by_found (slice_get insts d.after) refl d.function_end
  where
    by_found : (found : Option Inst) → slice_get insts d.after ≡ found → IsOp op.FUNCTION_END found → Stays (inst_at insts d.after).op
    by_found None at is = absurd is
    by_found (Some inst) at is = subst Stays (sym (ap (λ (i : Inst). i.op) (get_or_from_slice_get insts d.after inst no_instruction at) ∙ is)) stays_function_end

pub function_stays : (insts : List Inst) (d : Derives insts) (k : ℕ) → d.before + 1 ≤ k → k < length insts → Stays (inst_at insts k).op
function_stays insts d k low within = elim (cases_lt k d.after) [
  | inl early ↦ part_stays (inst_at insts k) (part_at insts d k low early)
  | inr late ↦ let last = d.last in let e : d.after ≡ k = omega (arith, late, within, last) in
      subst (λ n. Stays (inst_at insts n).op) e (function_end_op insts d)
]

abbrev pub first_of : (insts : List Inst) → Derives insts → ℕ
first_of insts d = d.before + 1

pub rest_unchanged : (f : Inst → Inst) → Settles f → (insts : List Inst) (d : Derives insts) → all_settled f (drop (first_of insts d) insts) ≡ drop (first_of insts d) insts
rest_unchanged f s insts d = unchanged f s (drop (first_of insts d) insts) (λ k within.
    subst (λ (i : Inst). Stays i.op) (sym (get_or-drop (first_of insts d) insts k no_instruction))
    (function_stays insts d (first_of insts d + k) (omega arith) (let e = length-drop (first_of insts d) insts in omega (arith, within, e))))

-- the list in two parts
pub parts_settled : (f : Inst → Inst) → Settles f → (insts : List Inst) (d : Derives insts) → all_settled f insts ≡ all_settled f (take (first_of insts d) insts) ++ drop (first_of insts d) insts
parts_settled f s insts d =
    ap (all_settled f) (sym (take-append-drop (first_of insts d) insts)) ∙ settled_append f (take (first_of insts d) insts) (drop (first_of insts d) insts)
    ∙ ap (λ (l : List Inst). all_settled f (take (first_of insts d) insts) ++ l) (rest_unchanged f s insts d)

-- where the function's first label stands then
abbrev pub settled_first : (Inst → Inst) → (insts : List Inst) → Derives insts → ℕ
settled_first f insts d = length (all_settled f (take (first_of insts d) insts))

pub same_rest : (f : Inst → Inst) → Settles f → (insts : List Inst) (d : Derives insts) → drop (settled_first f insts d) (all_settled f insts) ≡ drop (first_of insts d) insts
same_rest f s insts d =
    ap (drop (settled_first f insts d)) (parts_settled f s insts d)
    ∙ drop_at (all_settled f (take (first_of insts d) insts)) (drop (first_of insts d) insts) (settled_first f insts d) refl

-- ---- no label before it

pub other_label : IsOther op.LABEL
unfolding class_of entry_of
other_label = record { no_spec = refl; no_constant = refl }

abbrev is_label : Inst → Bool
is_label inst = inst.op == op.LABEL

level_test : (is_module_level op.LABEL || (op.LABEL == op.FUNCTION)) ≡ false
level_test = ap (λ (b : Bool). b || false) no_level_label

pub old_front : (insts : List Inst) (d : Derives insts) (k : ℕ) → k < first_of insts d → (inst_at insts k).op == op.LABEL ≡ false
old_front insts d k less = another (λ opcode. is_module_level opcode || (opcode == op.FUNCTION)) op.LABEL level_test (inst_at insts k).op ((front_of (record { insts = insts; bound = 0 }) d).level k less)

first_within : (insts : List Inst) (d : Derives insts) → first_of insts d < length insts
first_within insts d = let f = forward insts d.sequence in let last = d.last in omega (arith, f.forward, last)

no_label_in : (insts : List Inst) → ((k : ℕ) → k < length insts → is_label (inst_at insts k) ≡ false) → list_any is_label insts ≡ false
no_label_in [] none = refl
no_label_in (inst ∷ insts) none =
    ap (λ (b : Bool). b || list_any is_label insts) (none 0 (omega arith)) ∙ no_label_in insts (λ k within. none (suc k) (omega (arith, within)))

no_label_before : (insts : List Inst) (d : Derives insts) → list_any is_label (take (first_of insts d) insts) ≡ false
no_label_before insts d = no_label_in (take (first_of insts d) insts) (λ k within.
    let w = first_within insts d in let long = length-take-le (first_of insts d) insts in
    let less : k < first_of insts d = omega (arith, within, long, w) in
    ap is_label (get_or-take (first_of insts d) insts k no_instruction less) ∙ old_front insts d k less)

pub new_front : (f : Inst → Inst) → Settles f → (insts : List Inst) (d : Derives insts) (k : ℕ) → k < settled_first f insts d → (inst_at (all_settled f insts) k).op == op.LABEL ≡ false
new_front f s insts d k less =
    let level = all_settled f (take (first_of insts d) insts) in
    ap (λ (l : List Inst). is_label (inst_at l k)) (parts_settled f s insts d)
    ∙ ap is_label (get_or_append_left level (drop (first_of insts d) insts) no_instruction k less)
    ∙ by_test (is_label (inst_at level k)) refl
  where
    level : List Inst
    level = all_settled f (take (first_of insts d) insts)

    by_test : (b : Bool) → is_label (inst_at level k) ≡ b → is_label (inst_at level k) ≡ false
    by_test false isnt = isnt
    by_test true is = absurd (clash (list_any is_label level) (list_any_at is_label level k no_instruction less is)
        (any_settled f is_label is_label (kept_by_op f s op.LABEL other_label refl is_label (λ inst isnt. isnt)) (take (first_of insts d) insts) ∙ no_label_before insts d))

-- ---- both sides

new_within : (f : Inst → Inst) → Settles f → (insts : List Inst) (d : Derives insts) → settled_first f insts d < length (all_settled f insts)
new_within f s insts d =
    let level = all_settled f (take (first_of insts d) insts) in
    let w = first_within insts d in let e = length-drop (first_of insts d) insts in
    let a = length-append level (drop (first_of insts d) insts) in
    let b : length (all_settled f insts) ≡ length (level ++ drop (first_of insts d) insts) = ap length (parts_settled f s insts d) in
    omega (arith, w, e, a, b)

pub function_settled : (f : Inst → Inst) → Settles f → (insts : List Inst) (d : Derives insts) → HaveSameFunction (all_settled f insts) insts (settled_first f insts d) (first_of insts d)
function_settled f s insts d = record {
  same = same_rest f s insts d;
  within = let w = new_within f s insts d in omega (arith, w);
  within' = let w = first_within insts d in omega (arith, w);
  front = new_front f s insts d;
  front' = old_front insts d;
}

label_at_first : (f : Inst → Inst) → Settles f → (insts : List Inst) (d : Derives insts) → is_label (inst_at (all_settled f insts) (settled_first f insts d)) ≡ true
label_at_first f s insts d =
    ap is_label (ap (λ (n : ℕ). inst_at (all_settled f insts) n) (omega arith) ∙ sym (get_or-drop (settled_first f insts d) (all_settled f insts) 0 no_instruction)
    ∙ ap (λ (l : List Inst). get_or l 0 no_instruction) (same_rest f s insts d) ∙ get_or-drop (first_of insts d) insts 0 no_instruction
    ∙ ap (λ (n : ℕ). inst_at insts n) {x = first_of insts d + 0} {y = first_of insts d} (omega arith))
    ∙ starts_with_label insts d

pub first_label_settled : (f : Inst → Inst) → Settles f → (insts : List Inst) (d : Derives insts) → first_label (all_settled f insts) ≡ Some (settled_first f insts d)
first_label_settled f s insts d =
    let new = all_settled f insts in
    let first = settled_first f insts d in
    let within = new_within f s insts d in
    ap (λ (n : ℕ). if nat_lt n (length new) then Some n else None)
    (position_or_len_is is_label new first no_instruction (omega (arith, within)) (new_front f s insts d) (λ more. label_at_first f s insts d))
    ∙ ap (λ (b : Bool). if b then Some first else None) (lt-ltb first (length new) within)
