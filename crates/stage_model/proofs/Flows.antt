-- Where instructions lead: terminators to a label that they name or to the invocation's end, all others to the next instruction.
use Rattle.std.proofs.Common.{◌≡◌, ◌≢◌, ℕ, ◌+◌, ◌==◌, ◌||◌, ◌&&◌, nat_le, Bool, true, false, if◌then◌else◌, List, [], ◌∷◌, drop, map, slice_index, refl, ap, sym, ◌∙◌, subst, arith, Option, None, Some}
use Rattle.std.specs.Option.{option_map, option_and_then}
use Rattle.std.proofs.lemmas.Bool.Decides.{nat_tests}
use Rattle.spirv_model.specs.declared.module.Inst.{Inst}
use Rattle.spirv_model.specs.declared.op.TheConstants as op
use Rattle.spirv_model.specs.declared.class.Class.{Class}
use Rattle.spirv_model.specs.declared.class.Class.TheVariants as class
use Rattle.spirv_model.specs.Operands.{class_of}
use Rattle.body_model.specs.Classes.{is_terminator_class, is_terminator}
use Rattle.body_model.proofs.ClassFacts.{ends_branch, ends_branch_conditional, ends_switch, ends_return, ends_unreachable, ends_kill, straight_label, straight_variable, straight_store, straight_selection_merge, straight_loop_merge}
use Rattle.body_model.specs.Switches.{Case, is_among, cases_in, targets_of}
use Rattle.body_model.specs.Targets.{targets_by, targets}
use Rattle.stage_model.specs.declared.outcome.Kind.{Kind}
use Rattle.stage_model.specs.Value.{Value, Truth, Word, Composite, Pointer, Outside}
use Rattle.stage_model.specs.Program.{Program}
use Rattle.stage_model.specs.Start.{Memory}
use Rattle.stage_model.specs.Effect.{Effect, Passes, Gives, Writes, Enters, Goes, Stops, stored, stores, branches, target_for, picks, has_result_class, result_of, effect_of, place_of}
use Rattle.stage_model.specs.Machine.{State, Flow, Next, To, Stopped, after_effect, done, read_values}

-- an effect that suits the instruction
abbrev pub Suits : Inst → Option Effect → Type 0
Suits inst None = Unit {0}
Suits inst (Some (Goes label)) = (is_terminator inst.op ≡ true) × (is_among label (targets inst) ≡ true)
Suits inst (Some (Stops kind)) = is_terminator inst.op ≡ true
Suits inst (Some effect) = is_terminator inst.op ≡ false

choose : (P : Option Effect → Type 0) {x y : Option Effect} (b : Bool) → (b ≡ true → P x) → (b ≡ false → P y) → P (if b then x else y)
choose P true f g = f refl
choose P false f g = g refl

op_is : (op known : ℕ) → op == known ≡ true → op ≡ known
op_is op known is = grind (arith, nat_tests)

class_is : (inst : Inst) (op : ℕ) (b : Bool) → inst.op == op ≡ true → is_terminator op ≡ b → is_terminator inst.op ≡ b
class_is inst op b is known = ap is_terminator (op_is inst.op op is) ∙ known

by_class : (of : Option Class) → has_result_class of ≡ true → is_terminator_class of ≡ false
by_class None is = cc
by_class (Some class.Setting) is = cc
by_class (Some class.TypeDeclaration) is = cc
by_class (Some class.Constant) is = cc
by_class (Some class.SpecConstant) is = cc
by_class (Some class.SpecConstantResult) is = cc
by_class (Some class.Undef) is = refl
by_class (Some class.Variable) is = cc
by_class (Some class.Function) is = cc
by_class (Some class.Memory) is = refl
by_class (Some class.Composite) is = refl
by_class (Some (class.Scalar operation)) is = refl
by_class (Some class.Phi) is = refl
by_class (Some class.Merge) is = cc
by_class (Some class.Label) is = cc
by_class (Some class.Terminator) is = cc

results_are_straight : (opcode : ℕ) → has_result_class (class_of opcode) ≡ true → is_terminator opcode ≡ false
results_are_straight opcode is = by_class (class_of opcode) is

gives : (inst : Inst) (value : Option Value) → is_terminator inst.op ≡ false → Suits inst (option_map Gives value)
gives inst None isnt = tt
gives inst (Some value) isnt = isnt

writes : (inst : Inst) (variable : ℕ) (words : List ℕ) (place : Option ℕ) → is_terminator inst.op ≡ false → Suits inst (option_map (λ place. Writes variable place words) place)
writes inst variable words None isnt = tt
writes inst variable words (Some place) isnt = isnt

suits_stored : (inst : Inst) (program : Program) (words : List ℕ) (pointer : Value) → is_terminator inst.op ≡ false → Suits inst (stored program words pointer)
suits_stored inst program words (Pointer variable indices) isnt = writes inst variable words _ isnt
suits_stored inst program words Outside isnt = isnt
suits_stored inst program words (Truth b) isnt = tt
suits_stored inst program words (Word word) isnt = tt
suits_stored inst program words (Composite parts) isnt = tt

some_words : (inst : Inst) (program : Program) (pointer : Value) (words : Option (List ℕ)) → is_terminator inst.op ≡ false
    → Suits inst (option_and_then (λ words. stored program words pointer) words)
some_words inst program pointer None isnt = tt
some_words inst program pointer (Some words) isnt = suits_stored inst program words pointer isnt

suits_stores : (inst : Inst) (program : Program) (values : List Value) → is_terminator inst.op ≡ false → Suits inst (stores program values)
suits_stores inst program [] isnt = tt
suits_stores inst program (pointer ∷ []) isnt = tt
suits_stores inst program (pointer ∷ object ∷ []) isnt = some_words inst program pointer _ isnt
suits_stores inst program (pointer ∷ object ∷ other ∷ more) isnt = tt

equal : (a : ℕ) → a == a ≡ true
equal a = grind (arith, nat_tests)

or_true : (b : Bool) → (b || true) ≡ true
or_true true = refl
or_true false = refl

first_among : (a : ℕ) (labels : List ℕ) → is_among a (a ∷ labels) ≡ true
first_among a labels = ap (λ (b : Bool). b || is_among a labels) (equal a)

later_among : (a b : ℕ) (labels : List ℕ) → is_among a labels ≡ true → is_among a (b ∷ labels) ≡ true
later_among a b labels is = ap (λ (x : Bool). (b == a) || x) is ∙ or_true (b == a)

suits_goes : (inst : Inst) (label : ℕ) (labels : List ℕ) → is_terminator inst.op ≡ true → targets inst ≡ labels → is_among label labels ≡ true → Suits inst (Some (Goes label))
suits_goes inst label labels is are among = (is, ap (is_among label) are ∙ among)

suits_branches : (inst : Inst) (values : List Value) (on_true on_false : ℕ) → is_terminator inst.op ≡ true → targets inst ≡ on_true ∷ on_false ∷ []
    → Suits inst (branches values on_true on_false)
suits_branches inst (Truth true ∷ []) on_true on_false is are = suits_goes inst on_true (on_true ∷ on_false ∷ []) is are (first_among on_true (on_false ∷ []))
suits_branches inst (Truth false ∷ []) on_true on_false is are = suits_goes inst on_false (on_true ∷ on_false ∷ []) is are (later_among on_false on_true (on_false ∷ []) (first_among on_false []))
suits_branches inst [] on_true on_false is are = tt
suits_branches inst (Truth b ∷ value ∷ values) on_true on_false is are = tt
suits_branches inst (Word word ∷ values) on_true on_false is are = tt
suits_branches inst (Composite parts ∷ values) on_true on_false is are = tt
suits_branches inst (Pointer variable indices ∷ values) on_true on_false is are = tt
suits_branches inst (Outside ∷ values) on_true on_false is are = tt

case_targets : List ℕ → List ℕ
case_targets words = map (λ (case : Case). case.target) (cases_in words)

found_among : (selector default : ℕ) (words : List ℕ) → is_among (target_for selector default words) (default ∷ case_targets words) ≡ true
unfolding case_targets
found_among selector default [] = first_among default []
found_among selector default (literal ∷ []) = first_among default []
found_among selector default (literal ∷ target ∷ words) = by_literal selector default target words (literal == selector) (found_among selector default words)
  where
    keep : (a b : Bool) (c : Bool) → (a || b) ≡ true → (a || (c || b)) ≡ true
    keep true b c is = refl
    keep false true c is = or_true c
    keep false false c is = cc

    by_literal : (selector default target : ℕ) (words : List ℕ) (b : Bool) → is_among (target_for selector default words) (default ∷ case_targets words) ≡ true
        → is_among (if b then target else target_for selector default words) (default ∷ target ∷ case_targets words) ≡ true
    by_literal selector default target words true among = later_among target default (target ∷ case_targets words) (first_among target (case_targets words))
    by_literal selector default target words false among = keep (default == target_for selector default words) (is_among (target_for selector default words) (case_targets words)) (target == target_for selector default words) among

switch_targets : (selector : ℕ) (words : List ℕ) → is_among (target_for selector (slice_index words 1) (drop 2 words)) (targets_of words) ≡ true
unfolding case_targets
switch_targets selector [] = refl
switch_targets selector (a ∷ []) = refl
switch_targets selector (a ∷ b ∷ words) = found_among selector b words

suits_picks : (inst : Inst) (values : List Value) → is_terminator inst.op ≡ true → targets inst ≡ targets_of inst.words
    → Suits inst (picks values (slice_index inst.words 1) (drop 2 inst.words))
suits_picks inst (Word selector ∷ []) is are = suits_goes inst (target_for selector (slice_index inst.words 1) (drop 2 inst.words)) (targets_of inst.words) is are (switch_targets selector inst.words)
suits_picks inst [] is are = tt
suits_picks inst (Word selector ∷ value ∷ values) is are = tt
suits_picks inst (Truth b ∷ values) is are = tt
suits_picks inst (Composite parts ∷ values) is are = tt
suits_picks inst (Pointer variable indices ∷ values) is are = tt
suits_picks inst (Outside ∷ values) is are = tt

named : (inst : Inst) (opcode : ℕ) → inst.op == opcode ≡ true → targets inst ≡ targets_by opcode inst.words
named inst opcode is = ap (λ (o : ℕ). targets_by o inst.words) (op_is inst.op opcode is)

pub effect_suits : (program : Program) (memory : Memory) (inst : Inst) (values : List Value) → Suits inst (effect_of program memory inst values)
unfolding effect_of targets_by
effect_suits program memory inst values =
    let P = Suits inst in
    choose P (inst.op == op.LABEL) (λ is. class_is inst op.LABEL false is straight_label)
    (λ _. choose P (inst.op == op.SELECTION_MERGE) (λ is. class_is inst op.SELECTION_MERGE false is straight_selection_merge)
    (λ _. choose P (inst.op == op.LOOP_MERGE) (λ is. class_is inst op.LOOP_MERGE false is straight_loop_merge)
    (λ _. choose P (inst.op == op.VARIABLE) (λ is. class_is inst op.VARIABLE false is straight_variable)
    (λ _. choose P (inst.op == op.STORE) (λ is. suits_stores inst program values (class_is inst op.STORE false is straight_store))
    (λ _. choose P (inst.op == op.BRANCH) (λ is. suits_goes inst (slice_index inst.words 0) (slice_index inst.words 0 ∷ []) (class_is inst op.BRANCH true is ends_branch) (named inst op.BRANCH is) (first_among (slice_index inst.words 0) []))
    (λ _. choose P (inst.op == op.BRANCH_CONDITIONAL) (λ is. suits_branches inst values _ _ (class_is inst op.BRANCH_CONDITIONAL true is ends_branch_conditional) (named inst op.BRANCH_CONDITIONAL is))
    (λ _. choose P (inst.op == op.SWITCH) (λ is. suits_picks inst values (class_is inst op.SWITCH true is ends_switch) (named inst op.SWITCH is))
    (λ _. choose P (inst.op == op.RETURN) (λ is. class_is inst op.RETURN true is ends_return)
    (λ _. choose P (inst.op == op.UNREACHABLE) (λ is. class_is inst op.UNREACHABLE true is ends_unreachable)
    (λ _. choose P (inst.op == op.KILL) (λ is. class_is inst op.KILL true is ends_kill)
    (λ _. choose P (has_result_class (class_of inst.op)) (λ is. gives inst _ (results_are_straight inst.op is)) (λ _. tt))))))))))))

-- ---- what an instruction does

-- the flow suits the instruction, and no back edge is counted
abbrev pub FlowSuits : Inst → State → Option (Flow × State) → Type 0
FlowSuits inst state None = Unit {0}
FlowSuits inst state (Some (Next, after)) = (is_terminator inst.op ≡ false) × (after.back_edges ≡ state.back_edges)
FlowSuits inst state (Some (To label, after)) = (is_terminator inst.op ≡ true) × (is_among label (targets inst) ≡ true) × (after.back_edges ≡ state.back_edges)
FlowSuits inst state (Some (Stopped kind, after)) = (is_terminator inst.op ≡ true) × (after.back_edges ≡ state.back_edges)

flow_suits : (inst : Inst) (state : State) (effect : Option Effect) → Suits inst effect → FlowSuits inst state (option_map (after_effect inst state) effect)
flow_suits inst state None suits = tt
flow_suits inst state (Some Passes) suits = (suits, refl)
flow_suits inst state (Some (Gives value)) suits = (suits, refl)
flow_suits inst state (Some (Writes variable place words)) suits = (suits, refl)
flow_suits inst state (Some (Enters label)) suits = (suits, refl)
flow_suits inst state (Some (Goes label)) suits = (suits.0, suits.1, refl)
flow_suits inst state (Some (Stops kind)) suits = (suits, refl)

by_values : (program : Program) (inst : Inst) (state : State) (values : Option (List Value))
    → FlowSuits inst state (option_map (after_effect inst state) (option_and_then (effect_of program state.memory inst) values))
by_values program inst state None = tt
by_values program inst state (Some values) = flow_suits inst state _ (effect_suits program state.memory inst values)

pub done_suits : (program : Program) (inst : Inst) (state : State) → FlowSuits inst state (done program inst state)
unfolding done
done_suits program inst state = by_values program inst state (read_values inst state)
