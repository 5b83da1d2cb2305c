-- A list in which one instruction of the function is gone, and one more constant stands at the end of the module's level.
use Rattle.std.proofs.Common.{◌≡◌, ℕ, zero, suc, ◌+◌, ◌-◌, ◌<◌, ◌≤◌, ◌==◌, inl, inr, Bool, true, false, cond, nat_lt, if◌then◌else◌, List, [], ◌∷◌, ◌++◌, length, take, drop, refl, ap, sym, ◌∙◌, arith, length-append, length-drop, take-append-drop, Option, None, Some}
use Rattle.std.specs.Prelude.{IsTrue, slice_get}
use Rattle.std.specs.List.{find}
use Rattle.std.proofs.lemmas.Bool.{cases_lt, lt-ltb}
use Rattle.std.proofs.lemmas.Bool.Decides.{nat_tests}
use Rattle.std.proofs.lemmas.List.{drop-drop, drop_more, get_or-drop, get_or_append_left, get_or-append-add, get_or-take, length-take-le}
use Rattle.std.proofs.lemmas.List.Sums.{position_or_len_is}
use Rattle.std.proofs.lemmas.Option.{get_or_from_slice_get}
use Rattle.spirv_model.specs.declared.module.Inst.{Inst}
use Rattle.spirv_model.specs.declared.op.TheConstants as op
use Rattle.body_model.specs.Classes.{is_module_level}
use Rattle.body_model.specs.Grammar.{IsOp, Derives}
use Rattle.body_model.proofs.ClassFacts.{no_level_function}
use Rattle.body_model.proofs.ModuleLevels.{within_list}
use Rattle.valid_model.specs.Definitions.{inst_at, no_instruction}
use Rattle.check_model.specs.EntryPoints.{is_op_function}
use Rattle.stage_model.specs.Stage.{first_label}
use Rattle.typed_model.proofs.BlockParts.{another, clash}
use Rattle.typed_model.proofs.RunningStart.{starts_with_label}
use Rattle.change_model.specs.Folding.{function_at, moved_up}
use Rattle.change_model.proofs.KnownResults.{without_one}
use Rattle.change_model.proofs.KnownRuns.{LeavesOut}
use Rattle.change_model.proofs.SettledFunction.{old_front}

-- ---- where the function stands

function_there : (insts : List Inst) (place : ℕ) (found : Option Inst) → slice_get insts place ≡ found → IsOp op.FUNCTION found → is_op_function (inst_at insts place) ≡ true
function_there insts place None at is = absurd is
function_there insts place (Some inst) at is = ap is_op_function (get_or_from_slice_get insts place inst no_instruction at) ∙ equal inst.op op.FUNCTION is
  where
    equal : (a b : ℕ) → a ≡ b → a == b ≡ true
    equal a b is = grind (arith, nat_tests)

pub level_inst : (insts : List Inst) (d : Derives insts) (k : ℕ) → k < d.before → is_module_level (inst_at insts k).op ≡ true
level_inst insts d k less =
    let within = within_list op.FUNCTION insts d.before d.begins.function in
    let long = length-take-le d.before insts in
    let is : IsTrue (is_module_level (inst_at (take d.before insts) k).op) = d.begins.module_level k no_instruction (omega (arith, long, within, less)) in
    sym (ap (λ (i : Inst). is_module_level i.op) (get_or-take d.before insts k no_instruction less)) ∙ is

pub function_is : (insts : List Inst) (d : Derives insts) → function_at insts ≡ d.before
function_is insts d =
    let within = within_list op.FUNCTION insts d.before d.begins.function in
    position_or_len_is is_op_function insts d.before no_instruction (omega (arith, within))
    (λ k less. another is_module_level op.FUNCTION no_level_function (inst_at insts k).op (level_inst insts d k less))
    (λ more. function_there insts d.before (slice_get insts d.before) refl d.begins.function)

-- ---- the parts of the new list

-- the module's level with the constant, OpFunction, and the rest without the instruction
pub moved_up_is : (insts : List Inst) (d : Derives insts) (gone : ℕ) (constant : Inst)
    → moved_up (d.before + 1 + gone) constant insts ≡ take d.before insts ++ (constant ∷ inst_at insts d.before ∷ without_one gone (drop (d.before + 1) insts))
unfolding moved_up without_one
moved_up_is insts d gone constant =
    let within = within_list op.FUNCTION insts d.before d.begins.function in
    ap (λ (n : ℕ). take n insts ++ (constant ∷ (take (d.before + 1 + gone - n) (drop n insts) ++ drop (suc (d.before + 1 + gone)) insts))) (function_is insts d)
    ∙ ap (λ (l : List Inst). take d.before insts ++ (constant ∷ (l ++ drop (suc (d.before + 1 + gone)) insts)))
    (ap (λ (n : ℕ). take n (drop d.before insts)) {x = d.before + 1 + gone - d.before} {y = suc gone} (omega arith) ∙ ap (take (suc gone)) (drop_more insts d.before no_instruction within))
    ∙ ap (λ (l : List Inst). take d.before insts ++ (constant ∷ inst_at insts d.before ∷ (take gone (drop (d.before + 1) insts) ++ l)))
    (ap (λ (n : ℕ). drop n insts) {x = suc (d.before + 1 + gone)} {y = d.before + 1 + suc gone} (omega arith) ∙ sym (drop-drop (suc gone) (d.before + 1) insts))

-- ---- what is found

find_behind : (p : Inst → Bool) (xs ys zs : List Inst) → find p ys ≡ find p zs → find p (xs ++ ys) ≡ find p (xs ++ zs)
find_behind p [] ys zs is = is
find_behind p (x ∷ xs) ys zs is = ap (λ (o : Option Inst). cond (p x) (Some x) o) (find_behind p xs ys zs is)

find_without : (p : Inst → Bool) (insts : List Inst) (gone : ℕ) → p (inst_at insts gone) ≡ false → gone < length insts → find p (without_one gone insts) ≡ find p insts
unfolding without_one
find_without p [] gone isnt within = absurd (omega (arith, within))
find_without p (inst ∷ insts) zero isnt within = sym (ap (λ (b : Bool). cond b (Some inst) (find p insts)) isnt)
find_without p (inst ∷ insts) (suc gone) isnt within = ap (λ (o : Option Inst). cond (p inst) (Some inst) o) (find_without p insts gone isnt (omega (arith, within)))

-- the first instruction that passes a test is the same, where the constant and the instruction that is gone don't pass it
pub find_moved_up : (p : Inst → Bool) (insts : List Inst) (d : Derives insts) (gone : ℕ) (constant : Inst) → p constant ≡ false → p (inst_at insts (d.before + 1 + gone)) ≡ false → d.before + 1 + gone < length insts
    → find p (moved_up (d.before + 1 + gone) constant insts) ≡ find p insts
find_moved_up p insts d gone constant isnt also within =
    let here = within_list op.FUNCTION insts d.before d.begins.function in
    let rest = drop (d.before + 1) insts in
    let e = length-drop (d.before + 1) insts in
    ap (find p) (moved_up_is insts d gone constant)
    ∙ find_behind p (take d.before insts) (constant ∷ inst_at insts d.before ∷ without_one gone rest) (inst_at insts d.before ∷ rest)
    (ap (λ (b : Bool). cond b (Some constant) (find p (inst_at insts d.before ∷ without_one gone rest))) isnt
    ∙ ap (λ (o : Option Inst). cond (p (inst_at insts d.before)) (Some (inst_at insts d.before)) o) (find_without p rest gone (ap p (get_or-drop (d.before + 1) insts gone no_instruction) ∙ also) (omega (arith, e, within))))
    ∙ ap (λ (l : List Inst). find p (take d.before insts ++ l)) (sym (drop_more insts d.before no_instruction here)) ∙ ap (find p) (take-append-drop d.before insts)

-- ---- the function without the instruction

pub level_long : (insts : List Inst) (d : Derives insts) → length (take d.before insts) ≡ d.before
level_long insts d = let within = within_list op.FUNCTION insts d.before d.begins.function in length-take-le d.before insts (omega (arith, within))

drop_front : (level rest : List Inst) (a b : Inst) (n : ℕ) → length level ≡ n → drop (n + 2) (level ++ (a ∷ b ∷ rest)) ≡ rest
drop_front [] rest a b n is = ap (λ (k : ℕ). drop k (a ∷ b ∷ rest)) {x = n + 2} {y = suc (suc zero)} (omega (arith, is))
drop_front (x ∷ level) rest a b zero is = absurd (omega (arith, is))
drop_front (x ∷ level) rest a b (suc n) is = ap (λ (k : ℕ). drop k (x ∷ (level ++ (a ∷ b ∷ rest)))) {x = suc n + 2} {y = suc (n + 2)} (omega arith) ∙ drop_front level rest a b n (omega (arith, is))

new_long : (insts : List Inst) (d : Derives insts) (gone : ℕ) (constant : Inst) → d.before + 2 ≤ length (moved_up (d.before + 1 + gone) constant insts)
new_long insts d gone constant =
    let rest = without_one gone (drop (d.before + 1) insts) in
    let e : length (moved_up (d.before + 1 + gone) constant insts) ≡ length (take d.before insts ++ (constant ∷ inst_at insts d.before ∷ rest)) = ap length (moved_up_is insts d gone constant) in
    let a = length-append (take d.before insts) (constant ∷ inst_at insts d.before ∷ rest) in
    let b = level_long insts d in
    omega (arith, e, a, b)

two_behind : (level rest : List Inst) (a b : Inst) (n k : ℕ) → length level ≡ n → (far : ℕ) → k ≡ n + far → inst_at (level ++ (a ∷ b ∷ rest)) k ≡ inst_at (a ∷ b ∷ rest) far
two_behind level rest a b n k is far here =
    ap (λ (j : ℕ). inst_at (level ++ (a ∷ b ∷ rest)) j) {x = k} {y = length level + far} (omega (arith, is, here)) ∙ get_or-append-add level (a ∷ b ∷ rest) far no_instruction

function_no_label : (insts : List Inst) (d : Derives insts) → (inst_at insts d.before).op == op.LABEL ≡ false
function_no_label insts d = other (inst_at insts d.before).op (function_there insts d.before (slice_get insts d.before) refl d.begins.function)
  where
    other : (a : ℕ) → a == op.FUNCTION ≡ true → a == op.LABEL ≡ false
    other a is = grind (arith, nat_tests)

new_front : (insts : List Inst) (d : Derives insts) (gone : ℕ) (constant : Inst) → constant.op == op.LABEL ≡ false → (k : ℕ) → k < d.before + 2 → (inst_at (moved_up (d.before + 1 + gone) constant insts) k).op == op.LABEL ≡ false
new_front insts d gone constant isnt k less =
    let level = take d.before insts in
    let rest = without_one gone (drop (d.before + 1) insts) in
    let fn = inst_at insts d.before in
    let long = level_long insts d in
    ap (λ (l : List Inst). (inst_at l k).op == op.LABEL) (moved_up_is insts d gone constant)
    ∙ elim (cases_lt k d.before) [
      | inl early ↦ ap (λ (i : Inst). i.op == op.LABEL) (get_or_append_left level (constant ∷ fn ∷ rest) no_instruction k (omega (arith, early, long)) ∙ get_or-take d.before insts k no_instruction early)
          ∙ old_front insts d k (omega (arith, early))
      | inr late ↦ elim (cases_lt d.before k) [
        | inl more ↦ ap (λ (i : Inst). i.op == op.LABEL) (two_behind level rest constant fn d.before k long 1 (omega (arith, more, less))) ∙ function_no_label insts d
        | inr upto ↦ ap (λ (i : Inst). i.op == op.LABEL) (two_behind level rest constant fn d.before k long 0 (omega (arith, late, upto))) ∙ isnt
      ]
    ]

-- the function stands there without the instruction
pub leaves_out_moved_up : (insts : List Inst) (d : Derives insts) (gone : ℕ) (constant : Inst) → constant.op == op.LABEL ≡ false → (inst_at insts (d.before + 1 + gone)).op == op.LABEL ≡ false → d.before + 1 + gone < length insts
    → LeavesOut (moved_up (d.before + 1 + gone) constant insts) insts (d.before + 2) (d.before + 1) gone
leaves_out_moved_up insts d gone constant isnt also within = record {
  same = ap (drop (d.before + 2)) (moved_up_is insts d gone constant)
      ∙ drop_front (take d.before insts) (without_one gone (drop (d.before + 1) insts)) constant (inst_at insts d.before) d.before (level_long insts d);
  within = new_long insts d gone constant;
  within' = omega (arith, within);
  front = new_front insts d gone constant isnt;
  front' = old_front insts d;
  there = let e = length-drop (d.before + 1) insts in omega (arith, e, within);
  no_label = ap (λ (i : Inst). i.op == op.LABEL) (get_or-drop (d.before + 1) insts gone no_instruction) ∙ also;
}

-- where its first label stands
first_stays : (insts : List Inst) (gone : ℕ) → (inst_at insts 0).op == op.LABEL ≡ true → (inst_at insts gone).op == op.LABEL ≡ false → (inst_at (without_one gone insts) 0).op == op.LABEL ≡ true
unfolding without_one
first_stays [] gone is isnt = cc
first_stays (inst ∷ insts) zero is isnt = absurd (clash (inst.op == op.LABEL) is isnt)
first_stays (inst ∷ insts) (suc gone) is isnt = is

pub first_label_moved_up : (insts : List Inst) (d : Derives insts) (gone : ℕ) (constant : Inst) → constant.op == op.LABEL ≡ false → (inst_at insts (d.before + 1 + gone)).op == op.LABEL ≡ false → d.before + 1 + gone < length insts
    → first_label (moved_up (d.before + 1 + gone) constant insts) ≡ Some (d.before + 2)
first_label_moved_up insts d gone constant isnt also within =
    let new = moved_up (d.before + 1 + gone) constant insts in
    let first = d.before + 2 in
    let rest = drop (d.before + 1) insts in
    let l = leaves_out_moved_up insts d gone constant isnt also within in
    let here : (inst_at rest 0).op == op.LABEL ≡ true =
    ap (λ (i : Inst). i.op == op.LABEL) (get_or-drop (d.before + 1) insts 0 no_instruction ∙ ap (λ (n : ℕ). inst_at insts n) {x = d.before + 1 + 0} {y = d.before + 1} (omega arith)) ∙ starts_with_label insts d in
    let label : (inst_at new first).op == op.LABEL ≡ true =
    ap (λ (i : Inst). i.op == op.LABEL) (ap (λ (n : ℕ). inst_at new n) {x = first} {y = first + 0} (omega arith) ∙ sym (get_or-drop first new 0 no_instruction) ∙ ap (λ (i : List Inst). inst_at i 0) l.same)
    ∙ first_stays rest gone here l.no_label in
    let long : first < length new = some_there new first label in
    ap (λ (n : ℕ). if nat_lt n (length new) then Some n else None)
    (position_or_len_is (λ (inst : Inst). inst.op == op.LABEL) new first no_instruction (omega (arith, long)) (new_front insts d gone constant isnt) (λ more. label))
    ∙ ap (λ (b : Bool). if b then Some first else None) (lt-ltb first (length new) long)
  where
    past_end : (insts : List Inst) (place : ℕ) → length insts ≤ place → (inst_at insts place).op == op.LABEL ≡ false
    past_end [] place past = refl
    past_end (inst ∷ insts) zero past = absurd (omega (arith, past))
    past_end (inst ∷ insts) (suc place) past = past_end insts place (omega (arith, past))

    some_there : (insts : List Inst) (place : ℕ) → (inst_at insts place).op == op.LABEL ≡ true → place < length insts
    some_there insts place is = elim (cases_lt place (length insts)) [ inl within ↦ within | inr past ↦ absurd (clash ((inst_at insts place).op == op.LABEL) is (past_end insts place past)) ]
