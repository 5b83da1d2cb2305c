-- What becomes of an instruction, from what the program tests.
use Rattle.std.proofs.Common.{◌≡◌, ℕ, suc, ◌+◌, ◌<◌, ◌≤◌, ◌==◌, ◌&&◌, Bool, true, false, not, if◌then◌else◌, List, [], ◌∷◌, length, refl, ap, sym, ◌∙◌, arith, is_some, Option, None, Some}
use Rattle.std.specs.Option.{option_and_then, option_map}
use Rattle.spirv_model.specs.declared.module.Inst.{Inst}
use Rattle.spirv_model.specs.declared.op.TheConstants as op
use Rattle.spirv_model.specs.Operands.{class_of, word_at}
use Rattle.scalar_model.specs.declared.scalar_value.Scalar.{Scalar}
use Rattle.scalar_model.specs.declared.scalar_value.Scalar.TheVariants.{Bool as TruthOf, Word as WordOf}
use Rattle.scalar_model.specs.Scalars.{scalar_result}
use Rattle.valid_model.specs.Definitions.{inst_at}
use Rattle.valid_model.specs.Meanings.{meaning}
use Rattle.check_model.specs.Intervals.{Interval}
use Rattle.check_model.specs.Visibility.{Incoming}
use Rattle.change_model.specs.declared.fate.Fate.{Fate}
use Rattle.change_model.specs.declared.fate.Fate.TheVariants.{Nulls, Stays, Skips, Unused}
use Rattle.change_model.specs.Folding.{all_constants}
use Rattle.change_model.specs.Plans.{Plan, block_at}
use Rattle.change_model.specs.PlanRules.{is_nothing, is_shape, is_zero_input, root_of}
use Rattle.change_model.specs.Passes.{branch_fate, fate_alive, held_at, heads_loop, is_left_loop, merge_fate, operation_fate, pairs_found, phi_fate, phi_fate_of, skips_to, switch_fate, way_behind}
use Rattle.unit_model.specs.ConstantScalars.{is_scalar_class}
use Rattle.spec_fold.specs.PhiPairs.{left_with, lone_value}
use Rattle.spec_fold.specs.declared.phis.Left.{Left}
use Rattle.spec_fold.specs.declared.phis.Left.TheVariants.{Nothing, One, Several}

-- ---- selections and OpSwitches

pub merge_skips : (intervals : List Interval) (insts : List Inst) (plan : Plan) (place label : ℕ) (held way : Option ℕ) → held ≡ held_at insts place → is_some held ≡ false
    → way ≡ way_behind intervals insts plan (place + 1) → way ≡ Some label → Skips ≡ merge_fate intervals insts plan place
merge_skips intervals insts plan place label held way same free found is =
    sym (by_held held free) ∙ ap (λ (h : Option ℕ). if is_nothing h then Skips else Stays) same
    ∙ ap (λ (w : Option ℕ). if is_nothing (held_at insts place) then skips_to w else Stays)
    (sym is ∙ found ∙ ap (way_behind intervals insts plan) {x = place + 1} {y = suc place} (omega arith))
  where
    by_held : (h : Option ℕ) → is_some h ≡ false → (if is_nothing h then Skips else Stays) ≡ Skips
    by_held None none = refl
    by_held (Some merge) none = cc

-- ---- phis

record Lone (value : ℕ) (pairs : List Incoming) : Type 0 where
  block : ℕ
  are : pairs ≡ (record { value = value; block = block }) ∷ []

inner : (a b : ℕ) → Some a ≡ Some b → a ≡ b
inner a b same = cc

lone : (value : ℕ) (pairs : List Incoming) → lone_value pairs ≡ Some value → Lone value pairs
lone value [] is = cc
lone value (pair ∷ []) is = record { block = pair.block; are = ap (λ (v : ℕ). (record { value = v; block = pair.block }) ∷ []) (inner pair.value value is) }
lone value (pair ∷ other ∷ pairs) is = cc

pub phi_lone : (intervals : List Interval) (insts : List Inst) (plan : Plan) (place value : ℕ) (fate : Fate) → is_shape (meaning insts (word_at 0 (inst_at insts place))) ≡ true
    → heads_loop insts (block_at insts place) ≡ false → lone_value (pairs_found plan insts place) ≡ Some value
    → ((block : ℕ) → fate ≡ phi_fate_of intervals insts plan place ((record { value = value; block = block }) ∷ [])) → fate ≡ phi_fate intervals insts plan place
phi_lone intervals insts plan place value fate shape other is so =
    let l = lone value (pairs_found plan insts place) is in
    so l.block ∙ ap (phi_fate_of intervals insts plan place) (sym l.are)
    ∙ ap (λ (heads : Bool). if heads then Stays else phi_fate_of intervals insts plan place (pairs_found plan insts place)) {x = false} (sym other)
    ∙ ap (λ (is : Bool). if not is then Unused else if heads_loop insts (block_at insts place) then Stays else phi_fate_of intervals insts plan place (pairs_found plan insts place)) {x = true} (sym shape)

-- what is left of several pairs is several
several : (pairs : List Incoming) → left_with Several pairs ≡ Several
several [] = refl
several (pair ∷ pairs) = several pairs

abbrev pub value_of : Left → Option ℕ
value_of (One value) = Some value
value_of left = None

pub left_lone : (pairs : List Incoming) → value_of (left_with Nothing pairs) ≡ lone_value pairs
left_lone [] = refl
left_lone (pair ∷ []) = refl
left_lone (pair ∷ other ∷ pairs) = ap value_of (several pairs)

-- where it isn't one pair, no value stands for all
pub not_one : (pairs : List Incoming) (left : Left) → left ≡ left_with Nothing pairs → ((value : ℕ) → left ≡ One value → ⊥) → None ≡ lone_value pairs
not_one pairs left is isnt = by_left left isnt ∙ ap value_of is ∙ left_lone pairs
  where
    by_left : (left : Left) → ((value : ℕ) → left ≡ One value → ⊥) → None ≡ value_of left
    by_left Nothing isnt = refl
    by_left (One value) isnt = absurd (isnt value refl)
    by_left Several isnt = refl

-- ---- operations

four : (op : ℕ) (a b c d : Scalar) (more : List Scalar) → scalar_result op (a ∷ b ∷ c ∷ d ∷ more) ≡ None
unfolding scalar_result
four op (TruthOf a) (TruthOf b) c d more = refl
four op (TruthOf a) (WordOf b) c d more = refl
four op (WordOf a) (TruthOf b) c d more = refl
four op (WordOf a) (WordOf b) c d more = refl

none : (op : ℕ) → scalar_result op [] ≡ None
unfolding scalar_result
none op = refl

pub none_of_none : (op : ℕ) (constant : ℕ → Option Scalar) (ids : List ℕ) → length ids < 1 → None ≡ option_and_then (scalar_result op) (all_constants constant ids)
none_of_none op constant [] less = sym (none op)
none_of_none op constant (id ∷ ids) less = absurd (omega (arith, less))

abbrev also_one : Option Scalar → Option (List Scalar) → Option (List Scalar)
also_one first rest = option_and_then (λ (one : Scalar). option_map (λ (all : List Scalar). one ∷ all) rest) first

pub none_of_four : (op : ℕ) (constant : ℕ → Option Scalar) (ids : List ℕ) → 4 ≤ length ids → None ≡ option_and_then (scalar_result op) (all_constants constant ids)
none_of_four op constant (a ∷ b ∷ c ∷ d ∷ more) least = by_parts (constant a) (constant b) (constant c) (constant d) (all_constants constant more)
  where
    by_parts : (p q r s : Option Scalar) (rest : Option (List Scalar)) → None ≡ option_and_then (scalar_result op) (also_one p (also_one q (also_one r (also_one s rest))))
    by_parts None q r s rest = refl
    by_parts (Some p) None r s rest = refl
    by_parts (Some p) (Some q) None s rest = refl
    by_parts (Some p) (Some q) (Some r) None rest = refl
    by_parts (Some p) (Some q) (Some r) (Some s) None = refl
    by_parts (Some p) (Some q) (Some r) (Some s) (Some rest) = sym (four op p q r s rest)
none_of_four op constant [] least = absurd (omega (arith, least))
none_of_four op constant (a ∷ []) least = absurd (omega (arith, least))
none_of_four op constant (a ∷ b ∷ []) least = absurd (omega (arith, least))
none_of_four op constant (a ∷ b ∷ c ∷ []) least = absurd (omega (arith, least))

-- ---- branches

-- what becomes of an instruction with an opcode
abbrev with_op : List Interval → List Inst → List ℕ → Plan → ℕ → ℕ → Fate
with_op intervals insts zeros plan place opcode =
    if opcode == op.PHI then phi_fate intervals insts plan place
    else if opcode == op.LOAD then (if is_zero_input insts zeros (root_of insts (word_at 2 (inst_at insts place))) then Nulls else Stays)
    else if opcode == op.ACCESS_CHAIN then (if is_zero_input insts zeros (word_at 2 (inst_at insts place)) then Unused else Stays)
    else if opcode == op.SELECTION_MERGE then merge_fate intervals insts plan place
    else if opcode == op.LOOP_MERGE then (if (opcode == op.LOOP_MERGE) && is_left_loop insts (word_at 0 (inst_at insts place)) then Skips else Stays)
    else if opcode == op.BRANCH_CONDITIONAL then branch_fate intervals insts plan place
    else if opcode == op.SWITCH then switch_fate intervals insts plan place
    else if is_scalar_class (class_of opcode) then operation_fate insts plan place
    else Stays

pub conditional_alive : (intervals : List Interval) (insts : List Inst) (zeros : List ℕ) (plan : Plan) (place : ℕ) → (inst_at insts place).op ≡ op.BRANCH_CONDITIONAL
    → branch_fate intervals insts plan place ≡ fate_alive intervals insts zeros plan place
conditional_alive intervals insts zeros plan place is = sym (ap (with_op intervals insts zeros plan place) is)

pub switch_alive : (intervals : List Interval) (insts : List Inst) (zeros : List ℕ) (plan : Plan) (place : ℕ) → (inst_at insts place).op ≡ op.SWITCH
    → switch_fate intervals insts plan place ≡ fate_alive intervals insts zeros plan place
switch_alive intervals insts zeros plan place is = sym (ap (with_op intervals insts zeros plan place) is)
