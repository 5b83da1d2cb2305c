-- In the function the same is visible, and phis name the same blocks.
use Rattle.std.proofs.Common.{◌≡◌, ℕ, ◌+◌, ◌<◌, ◌≤◌, ◌==◌, ◌||◌, Bool, true, false, not, cond, if◌then◌else◌, List, [], ◌∷◌, length, take, drop, map, refl, ap, sym, ◌∙◌, subst, arith, Option, None, Some}
use Rattle.std.specs.Prelude.{filter}
use Rattle.std.specs.Option.{option_map, unwrap_or}
use Rattle.std.specs.List.{find}
use Rattle.spirv_model.specs.declared.module.Inst.{Inst}
use Rattle.spirv_model.specs.declared.op.TheConstants as op
use Rattle.spirv_model.specs.Operands.{word_at, entry_of, class_of}
use Rattle.spirv_model.specs.declared.class.Class.{Class}
use Rattle.spirv_model.specs.declared.class.Class.TheVariants as class
use Rattle.body_model.specs.Classes.{is_module_level_class, is_module_level, is_terminator_class, is_terminator}
use Rattle.body_model.specs.Grammar.{Derives}
use Rattle.valid_model.specs.Definitions.{inst_at, definition}
use Rattle.check_model.specs.Intervals.{Interval, intervals_of}
use Rattle.check_model.specs.Branches.{Block, blocks_from, blocks_of, leads_to, predecessors, is_labelled, block_end_of, label_behind}
use Rattle.check_model.specs.Visibility.{Use, use_at, used_ids, Incoming, incoming, incoming_blocks, are_those, names_predecessors, incoming_use, phi_uses, uses_at, is_defined_for, is_visible_use, not_visible}
use Rattle.typed_model.proofs.ValidFunctions.{front_of}
use Rattle.change_model.specs.Constants.{is_spec_id}
use Rattle.change_model.specs.Settling.{is_spec_class, is_plain_constant_class, StandsFor, same, settles, all_settled}
use Rattle.change_model.proofs.Settlings.{Settles, by_op, settled_cons, settled_gone, gone_op, op_is}
use Rattle.change_model.proofs.SettledFunction.{Stays, first_of, settled_first, function_settled, other_label, stays_same, function_stays}
use Rattle.change_model.proofs.SettledPlaces.{PlaceOf}
use Rattle.change_model.proofs.SettledUses.{blocks_later, blocks_behind, block_later, filter_later, find_later, NoEarlier, ends_behind, level_place}
use Rattle.change_model.proofs.SettledVisible.{Sides, apart, first_apart, new_of, defined_later, found_same, without_phi}

-- ---- blocks

level_ends : (of : Option Class) → is_module_level_class of ≡ true → is_terminator_class of ≡ false
level_ends None is = refl
level_ends (Some class.Terminator) is = cc
level_ends (Some other) is = refl

function_ends : is_terminator op.FUNCTION ≡ false
unfolding class_of entry_of
function_ends = refl

level_op_ends : (opcode : ℕ) → (is_module_level opcode || (opcode == op.FUNCTION)) ≡ true → is_terminator opcode ≡ false
level_op_ends opcode level = by_tests (is_module_level opcode) (opcode == op.FUNCTION) refl refl level
  where
    by_tests : (a b : Bool) → is_module_level opcode ≡ a → opcode == op.FUNCTION ≡ b → (a || b) ≡ true → is_terminator opcode ≡ false
    by_tests true b is of some = level_ends (class_of opcode) is
    by_tests false true is of some = ap is_terminator (op_is opcode op.FUNCTION of) ∙ function_ends
    by_tests false false is of some = cc

spec_ends : (of : Option Class) → is_spec_class of ≡ true → is_terminator_class of ≡ false
spec_ends None is = cc
spec_ends (Some class.SpecConstant) is = refl
spec_ends (Some class.SpecConstantResult) is = refl
spec_ends (Some other) is = cc

constant_ends : (of : Option Class) → is_plain_constant_class of ≡ true → is_terminator_class of ≡ false
constant_ends None is = cc
constant_ends (Some class.Constant) is = refl
constant_ends (Some other) is = cc

ends_same : (new old : Inst) → StandsFor new old → is_terminator new.op ≡ is_terminator old.op
ends_same new old (same is) = ap (λ (i : Inst). is_terminator i.op) is
ends_same new old (settles spec constant type id) = constant_ends (class_of new.op) constant ∙ sym (spec_ends (class_of old.op) spec)

pub old_level : (insts : List Inst) (d : Derives insts) (k : ℕ) → k < first_of insts d → is_terminator (inst_at insts k).op ≡ false
old_level insts d k less = level_op_ends (inst_at insts k).op ((front_of (record { insts = insts; bound = 0 }) d).level k less)

new_level : (f : Inst → Inst) → Settles f → (insts : List Inst) (d : Derives insts) (k : ℕ) → k < settled_first f insts d → is_terminator (inst_at (all_settled f insts) k).op ≡ false
new_level f s insts d k less =
    let p = level_place f s insts d k less in
    ap (λ (i : Inst). is_terminator i.op) p.0.inst ∙ ends_same (f (inst_at insts p.0.old)) (inst_at insts p.0.old) (s (inst_at insts p.0.old)) ∙ old_level insts d p.0.old p.1

zero_plus : (n : ℕ) → 0 + n ≡ n
zero_plus n = omega arith

old_blocks : (f : Inst → Inst) → Settles f → (insts : List Inst) (d : Derives insts) → blocks_of insts ≡ blocks_from 0 (first_of insts d) (drop (first_of insts d) insts)
unfolding blocks_of
old_blocks f s insts d =
    let w = function_settled f s insts d in
    blocks_behind insts (first_of insts d) 0 0 w.within' (λ k less. (w.front' k less, old_level insts d k less))
    ∙ ap (λ (n : ℕ). blocks_from 0 n (drop (first_of insts d) insts)) (zero_plus (first_of insts d))

new_blocks : (f : Inst → Inst) → Settles f → (insts : List Inst) (d : Derives insts) → blocks_of (all_settled f insts) ≡ blocks_from 0 (settled_first f insts d) (drop (first_of insts d) insts)
unfolding blocks_of
new_blocks f s insts d =
    let w = function_settled f s insts d in
    blocks_behind (all_settled f insts) (settled_first f insts d) 0 0 w.within (λ k less. (w.front k less, new_level f s insts d k less))
    ∙ ap (λ (n : ℕ). blocks_from 0 n (drop (settled_first f insts d) (all_settled f insts))) (zero_plus (settled_first f insts d))
    ∙ ap (blocks_from 0 (settled_first f insts d)) w.same

blocks_apart : (f : Inst → Inst) → Settles f → (insts : List Inst) (d : Derives insts) → blocks_of insts ≡ map (block_later (apart f insts d)) (blocks_of (all_settled f insts))
blocks_apart f s insts d =
    old_blocks f s insts d ∙ blocks_later (apart f insts d) 0 (settled_first f insts d) (first_of insts d) (drop (first_of insts d) insts) (first_apart f insts d s)
    ∙ ap (map (block_later (apart f insts d))) (sym (new_blocks f s insts d))

predecessors_same : (f : Inst → Inst) → Settles f → (insts : List Inst) (d : Derives insts) (label : ℕ) → predecessors (all_settled f insts) label ≡ predecessors insts label
unfolding predecessors
predecessors_same f s insts d label =
    sym (ap (λ (l : List Block). map (λ (b : Block). b.label) (filter (leads_to label) l)) (blocks_apart f s insts d) ∙ filter_later (apart f insts d) label (blocks_of (all_settled f insts)))

end_later : (f : Inst → Inst) → Settles f → (insts : List Inst) (d : Derives insts) (label : ℕ) → block_end_of insts label ≡ option_map (λ (n : ℕ). n + apart f insts d) (block_end_of (all_settled f insts) label)
unfolding block_end_of
end_later f s insts d label =
    ap (λ (l : List Block). option_map (λ (b : Block). b.end) (find (is_labelled label) l)) (blocks_apart f s insts d) ∙ find_later (apart f insts d) label (blocks_of (all_settled f insts))

end_low : (f : Inst → Inst) → Settles f → (insts : List Inst) (d : Derives insts) (label : ℕ) → NoEarlier (settled_first f insts d) (block_end_of (all_settled f insts) label)
unfolding block_end_of
end_low f s insts d label =
    subst (λ (l : List Block). NoEarlier (settled_first f insts d) (option_map (λ (b : Block). b.end) (find (is_labelled label) l))) (sym (new_blocks f s insts d))
    (ends_behind (settled_first f insts d) 0 label (drop (first_of insts d) insts))

-- ---- the label that a place stands behind

first_word : (new old : Inst) → StandsFor new old → word_at 0 new ≡ word_at 0 old
first_word new old (same is) = ap (word_at 0) is
first_word new old (settles spec constant type id) = type

no_label_gone : op.DECORATE == op.LABEL ≡ false
no_label_gone = refl

label_settled : (f : Inst → Inst) → Settles f → (insts : List Inst) (label : ℕ) → label_behind label (all_settled f insts) ≡ label_behind label insts
label_settled f s [] label = refl
label_settled f s (inst ∷ insts) label = by_test (label_settled f s insts) (is_spec_id inst) refl
  where
    by_test : ((label : ℕ) → label_behind label (all_settled f insts) ≡ label_behind label insts) → (b : Bool) → is_spec_id inst ≡ b
        → label_behind label (all_settled f (inst ∷ insts)) ≡ label_behind (if inst.op == op.LABEL then word_at 0 inst else label) insts
    by_test rest true is =
        ap (label_behind label) (settled_gone f inst insts is) ∙ rest label
        ∙ ap (λ (b : Bool). label_behind (if b then word_at 0 inst else label) insts) (sym (ap (λ (o : ℕ). o == op.LABEL) (gone_op inst is) ∙ no_label_gone))
    by_test rest false isnt =
        ap (label_behind label) (settled_cons f inst insts isnt)
        ∙ rest (if (f inst).op == op.LABEL then word_at 0 (f inst) else label)
        ∙ ap (λ (b : Bool). label_behind (if b then word_at 0 (f inst) else label) insts) (by_op op.LABEL other_label (λ i. i.op == op.LABEL) (λ i no. no) (f inst) inst (s inst))
        ∙ ap (λ (w : ℕ). label_behind (if inst.op == op.LABEL then w else label) insts) (first_word (f inst) inst (s inst))

-- ---- phis

pub with_phi : (intervals : List Interval) (insts : List Inst) (place : ℕ) → (inst_at insts place).op == op.PHI ≡ true
    → not_visible intervals insts place ≡ (if not (names_predecessors insts place) then Some (word_at 1 (inst_at insts place))
    else option_map (λ (u : Use). u.id) (find (λ u. not (is_visible_use intervals insts u)) (phi_uses insts place (inst_at insts place))))
unfolding not_visible uses_at
with_phi intervals insts place is = rw is refl

pub names_by : (insts : List Inst) (place : ℕ) → names_predecessors insts place ≡ are_those (incoming_blocks (inst_at insts place)) (predecessors insts (label_behind 0 (take place insts)))
unfolding names_predecessors
names_by insts place = refl

names_same : (f : Inst → Inst) → Settles f → (insts : List Inst) (d : Derives insts) (place : ℕ) → (p : PlaceOf f insts place) → inst_at (all_settled f insts) place ≡ inst_at insts p.old
    → names_predecessors (all_settled f insts) place ≡ names_predecessors insts p.old
names_same f s insts d place p is =
    names_by (all_settled f insts) place
    ∙ ap (λ (i : Inst). are_those (incoming_blocks i) (predecessors (all_settled f insts) (label_behind 0 (take place (all_settled f insts))))) is
    ∙ ap (are_those (incoming_blocks (inst_at insts p.old))) (predecessors_same f s insts d (label_behind 0 (take place (all_settled f insts)))
    ∙ ap (predecessors insts) (ap (label_behind 0) p.front ∙ label_settled f s (take p.old insts) 0))
    ∙ sym (names_by insts p.old)

low_end : (f : Inst → Inst) (insts : List Inst) (d : Derives insts) (both : Sides f insts d) (label end : ℕ) → block_end_of (all_settled f insts) label ≡ Some end → settled_first f insts d ≤ end
low_end f insts d both label end is = end_low f both.stands insts d label end is

incoming_visible : (f : Inst → Inst) (insts : List Inst) (d : Derives insts) (both : Sides f insts d) (place : ℕ) → settled_first f insts d ≤ place → (pair : Incoming)
    → is_visible_use (intervals_of (new_of f insts d both)) (all_settled f insts) (incoming_use (all_settled f insts) place pair)
    ≡ is_visible_use (intervals_of d) insts (incoming_use insts (place + apart f insts d) pair)
incoming_visible f insts d both place low pair =
    by_end (block_end_of (all_settled f insts) pair.block) refl
    ∙ ap (λ (o : Option ℕ). is_defined_for (intervals_of d) (unwrap_or o (place + apart f insts d)) (definition insts pair.value)) (sym (end_later f both.stands insts d pair.block))
  where
    by_end : (end : Option ℕ) → block_end_of (all_settled f insts) pair.block ≡ end
        → is_defined_for (intervals_of (new_of f insts d both)) (unwrap_or (block_end_of (all_settled f insts) pair.block) place) (definition (all_settled f insts) pair.value)
        ≡ is_defined_for (intervals_of d) (unwrap_or (option_map (λ (n : ℕ). n + apart f insts d) (block_end_of (all_settled f insts) pair.block)) (place + apart f insts d)) (definition insts pair.value)
    by_end None is = rw is (defined_later f insts d both place pair.value low)
    by_end (Some end) is = rw is (defined_later f insts d both end pair.value (low_end f insts d both pair.block end is))

-- ---- at a place in the function

function_visible_at : (f : Inst → Inst) (insts : List Inst) (d : Derives insts) (both : Sides f insts d) (place : ℕ) → settled_first f insts d ≤ place → (p : PlaceOf f insts place) → p.old ≡ place + apart f insts d
    → inst_at (all_settled f insts) place ≡ inst_at insts p.old → not_visible (intervals_of (new_of f insts d both)) (all_settled f insts) place ≡ not_visible (intervals_of d) insts p.old
function_visible_at f insts d both place low p far is = by_phi ((inst_at insts p.old).op == op.PHI) refl
  where
    new : List Inst
    new = all_settled f insts

    x : Inst
    x = inst_at insts p.old

    I : List Interval
    I = intervals_of (new_of f insts d both)

    J : List Interval
    J = intervals_of d

    seen : (id : ℕ) → is_visible_use I new (use_at place id) ≡ is_visible_use J insts (use_at p.old id)
    seen id = defined_later f insts d both place id low ∙ ap (λ (n : ℕ). is_defined_for J n (definition insts id)) (sym far)

    coming : (pair : Incoming) → is_visible_use I new (incoming_use new place pair) ≡ is_visible_use J insts (incoming_use insts p.old pair)
    coming pair = incoming_visible f insts d both place low pair ∙ ap (λ (n : ℕ). is_visible_use J insts (incoming_use insts n pair)) (sym far)

    first_use : (a b : Bool) → a ≡ b → (new_rest old_rest : Option ℕ) → new_rest ≡ old_rest → (cond (not a) (Some (word_at 0 x)) new_rest) ≡ (cond (not b) (Some (word_at 0 x)) old_rest)
    first_use a b equal new_rest old_rest rest = rw equal (rw rest refl)

    pushed : (b : Bool) (u : Use) (o : Option Use) → option_map (λ (u : Use). u.id) (cond b (Some u) o) ≡ cond b (Some u.id) (option_map (λ (u : Use). u.id) o)
    pushed true u o = refl
    pushed false u o = refl

    phis : option_map (λ (u : Use). u.id) (find (λ u. not (is_visible_use I new u)) (phi_uses new place x)) ≡ option_map (λ (u : Use). u.id) (find (λ u. not (is_visible_use J insts u)) (phi_uses insts p.old x))
    phis =
        pushed (not (is_visible_use I new (use_at place (word_at 0 x)))) (use_at place (word_at 0 x)) (find (λ u. not (is_visible_use I new u)) (map (incoming_use new place) (incoming x)))
        ∙ first_use _ _ (seen (word_at 0 x)) _ _ (found_same (is_visible_use I new) (is_visible_use J insts) (incoming_use new place) (incoming_use insts p.old) (λ pair. refl) coming (incoming x))
        ∙ sym (pushed (not (is_visible_use J insts (use_at p.old (word_at 0 x)))) (use_at p.old (word_at 0 x)) (find (λ u. not (is_visible_use J insts u)) (map (incoming_use insts p.old) (incoming x))))

    by_phi : (b : Bool) → x.op == op.PHI ≡ b → not_visible I new place ≡ not_visible J insts p.old
    by_phi false isnt =
        without_phi I new place (ap (λ (i : Inst). i.op == op.PHI) is ∙ isnt)
        ∙ ap (λ (i : Inst). option_map (λ (u : Use). u.id) (find (λ u. not (is_visible_use I new u)) (map (use_at place) (used_ids i)))) is
        ∙ found_same (is_visible_use I new) (is_visible_use J insts) (use_at place) (use_at p.old) (λ id. refl) seen (used_ids x)
        ∙ sym (without_phi J insts p.old isnt)
    by_phi true one =
        with_phi I new place (ap (λ (i : Inst). i.op == op.PHI) is ∙ one)
        ∙ ap (λ (i : Inst). if not (names_predecessors new place) then Some (word_at 1 i) else option_map (λ (u : Use). u.id) (find (λ u. not (is_visible_use I new u)) (phi_uses new place i))) is
        ∙ ap (λ (b : Bool). if not b then Some (word_at 1 x) else option_map (λ (u : Use). u.id) (find (λ u. not (is_visible_use I new u)) (phi_uses new place x))) (names_same f both.stands insts d place p is)
        ∙ ap (λ (o : Option ℕ). if not (names_predecessors insts p.old) then Some (word_at 1 x) else o) phis
        ∙ sym (with_phi J insts p.old one)

pub function_visible : (f : Inst → Inst) (insts : List Inst) (d : Derives insts) (both : Sides f insts d) (far : ℕ) → (within : first_of insts d + far < length insts)
    → (p : PlaceOf f insts (settled_first f insts d + far)) → p.old ≡ first_of insts d + far
    → not_visible (intervals_of (new_of f insts d both)) (all_settled f insts) (settled_first f insts d + far) ≡ not_visible (intervals_of d) insts p.old
function_visible f insts d both far within p old =
    let e = first_apart f insts d both.stands in
    function_visible_at f insts d both (settled_first f insts d + far) (omega arith) p (omega (arith, old, e))
    (p.inst ∙ stays_same (f (inst_at insts p.old)) (inst_at insts p.old) (both.stands (inst_at insts p.old))
    (subst (λ n. Stays (inst_at insts n).op) (sym old) (function_stays insts d (first_of insts d + far) (omega arith) within)))
