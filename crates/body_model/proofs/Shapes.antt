-- How the instructions of a block lie: none but the last leads anywhere, and the last is the terminator that the block's end tells.
use Rattle.std.proofs.Common.{◌≡◌, ◌≢◌, ℕ, zero, suc, ◌+◌, ◌-◌, ◌<◌, ◌≤◌, ◌⊎◌, inl, inr, ◌==◌, ◌||◌, ◌&&◌, not, Bool, true, false, nat_le, if◌then◌else◌, List, [], ◌∷◌, ◌++◌, length, drop, slice_index, IsTrue, refl, ap, sym, ◌∙◌, subst, arith, Option, None, Some}
use Rattle.std.proofs.lemmas.Bool.Decides.{nat_tests}
use Rattle.limits.specs.declared.TheConstants.{NESTING}
use Rattle.spirv_model.specs.declared.module.Inst.{Inst}
use Rattle.spirv_model.specs.declared.op.TheConstants.{PHI, VARIABLE, LOOP_MERGE, SELECTION_MERGE, BRANCH, BRANCH_CONDITIONAL, SWITCH, KILL, RETURN, UNREACHABLE}
use Rattle.body_model.specs.declared.scope.End.{End}
use Rattle.body_model.specs.declared.scope.End.TheVariants.{Return, Kill}
use Rattle.body_model.specs.declared.block_end.BlockEnd.{BlockEnd}
use Rattle.body_model.specs.declared.block_end.BlockEnd.TheVariants.{Broken, Ends, GoesOn, Selects, Picks, Loops}
use Rattle.body_model.specs.declared.fault.TreeFault.{TreeFault}
use Rattle.body_model.specs.Classes.{is_plain, is_terminator}
use Rattle.body_model.specs.Scope.{Scope}
use Rattle.body_model.specs.Switches.{is_among, targets_of, repeat, literals_of}
use Rattle.body_model.specs.Blocks.{begins_with, exit_to, branch_end, branch, test_end, last_block, invocation_end, terminator_end, unmerged, selection_head, switch_head, selection_end, loop_head, loop_branch, loop_end, last_part, rest_of_block, leads_to_loop}
use Rattle.body_model.proofs.ClassFacts.{ends_branch, ends_branch_conditional, ends_switch, ends_return, ends_unreachable, ends_kill, straight_phi, straight_variable, straight_selection_merge, straight_loop_merge, plain_is_straight}
use Rattle.body_model.specs.Targets.{targets_by, targets, MayLeaveTo}

-- the terminator of a block that ends so
abbrev pub Terminates : Scope → ℕ → Inst → List Inst → BlockEnd → Type 0
Terminates scope header last behind (Broken fault) = Unit {0}
Terminates scope header last behind (Ends end) = (label : ℕ) → is_among label (targets last) ≡ true → MayLeaveTo scope end.next label
Terminates scope header last behind (GoesOn after) = (label : ℕ) × (targets last ≡ label ∷ []) × (begins_with label behind ≡ true)
Terminates scope header last behind (Selects head) = targets last ≡ head.on_true ∷ head.on_false ∷ []
Terminates scope header last behind (Picks head) = targets last ≡ targets_of last.words
Terminates scope header last behind (Loops head) = (targets last ≡ head.test ∷ []) × (head.header ≡ header)

abbrev pub after_of : BlockEnd → ℕ
after_of (Broken fault) = 0
after_of (Ends end) = end.after
after_of (GoesOn after) = after
after_of (Selects head) = head.after
after_of (Picks head) = head.after
after_of (Loops head) = head.after

abbrev pub IsWhole : BlockEnd → Type 0
IsWhole (Broken fault) = ⊥
IsWhole end = Unit {0}

-- none of these instructions is a terminator
abbrev pub AreStraight : List Inst → Type 0
AreStraight [] = Unit {0}
AreStraight (inst ∷ rest) = (is_terminator inst.op ≡ false) × AreStraight rest

-- these instructions, the first of them at a place, go up to a block's terminator
pub record Shape (scope : Scope) (header : ℕ) (insts : List Inst) (place : ℕ) (end : BlockEnd) : Type 0 where
  pub front : List Inst
  pub last : Inst
  pub behind : List Inst
  pub is : insts ≡ front ++ last ∷ behind
  pub straight : AreStraight front
  pub terminator : is_terminator last.op ≡ true
  pub after : after_of end ≡ place + length front + 1
  pub ends : Terminates scope header last behind end

abbrev pub HasShape : Scope → ℕ → List Inst → ℕ → BlockEnd → Type 0
HasShape scope header insts place end = IsWhole end → Shape scope header insts place end

one_of : (a b : Bool) → (a || b) ≡ true → (a ≡ true) ⊎ (b ≡ true)
one_of true b is = inl refl
one_of false b is = inr is

or_false : (b : Bool) → (b || false) ≡ true → b ≡ true
or_false true is = refl
or_false false is = is

choose : (P : BlockEnd → Type 0) {x y : BlockEnd} (b : Bool) → (b ≡ true → P x) → (b ≡ false → P y) → P (if b then x else y)
choose P true f g = f refl
choose P false f g = g refl

broken : {scope : Scope} {header : ℕ} {insts : List Inst} {place : ℕ} {fault : TreeFault} → HasShape scope header insts place (Broken fault)
broken whole = absurd whole

op_is : (op known : ℕ) → op == known ≡ true → op ≡ known
op_is op known is = grind (arith, nat_tests)

-- the instruction is the terminator
alone : {scope : Scope} {header : ℕ} {inst : Inst} {rest : List Inst} {place : ℕ} {end : BlockEnd} → is_terminator inst.op ≡ true → after_of end ≡ place + 1
    → Terminates scope header inst rest end → Shape scope header (inst ∷ rest) place end
alone {inst = inst} {rest = rest} is after ends =
    record { front = []; last = inst; behind = rest; is = refl; straight = tt; terminator = is; after = omega (arith, after); ends = ends }

-- the one behind a merge instruction is
second : {scope : Scope} {header : ℕ} {merge inst : Inst} {rest : List Inst} {place : ℕ} {end : BlockEnd} → is_terminator merge.op ≡ false → is_terminator inst.op ≡ true
    → after_of end ≡ place + 2 → Terminates scope header inst rest end → Shape scope header (merge ∷ inst ∷ rest) place end
second {merge = merge} {inst = inst} {rest = rest} isnt is after ends =
    record { front = merge ∷ []; last = inst; behind = rest; is = refl; straight = (isnt, tt); terminator = is; after = omega (arith, after); ends = ends }

-- ---- what terminators name

names : (inst : Inst) (op : ℕ) → inst.op == op ≡ true → targets inst ≡ targets_by op inst.words
names inst op is = ap (λ (o : ℕ). targets_by o inst.words) (op_is inst.op op is)

names_branch : (inst : Inst) → inst.op == BRANCH ≡ true → targets inst ≡ slice_index inst.words 0 ∷ []
unfolding targets_by
names_branch inst is = names inst BRANCH is

names_conditional : (inst : Inst) → inst.op == BRANCH_CONDITIONAL ≡ true → targets inst ≡ slice_index inst.words 1 ∷ slice_index inst.words 2 ∷ []
unfolding targets_by
names_conditional inst is = names inst BRANCH_CONDITIONAL is

names_switch : (inst : Inst) → inst.op == SWITCH ≡ true → targets inst ≡ targets_of inst.words
unfolding targets_by
names_switch inst is = names inst SWITCH is

-- an invocation's end names none
names_nothing : (inst : Inst) (op : ℕ) → inst.op == op ≡ true → targets_by op inst.words ≡ [] → (label : ℕ) → is_among label (targets inst) ≡ true → ⊥
names_nothing inst op is none label among =
    let e : is_among label (targets inst) ≡ false = ap (is_among label) (names inst op is ∙ none) in cc

same : (a b : ℕ) → a == b ≡ true → a ≡ b
same a b is = grind (arith, nat_tests)

-- the one label that is named
one_label : (P : ℕ → Type 0) (labels : List ℕ) (one : ℕ) → labels ≡ one ∷ [] → P one → (label : ℕ) → is_among label labels ≡ true → P label
one_label P labels one are has label among =
    let e : ((one == label) || false) ≡ true = sym (ap (is_among label) are) ∙ among in
    subst P (same one label (or_false (one == label) e)) has

-- ---- terminators without a merge instruction

is_terminator_at : (inst : Inst) (op : ℕ) → inst.op == op ≡ true → is_terminator op ≡ true → is_terminator inst.op ≡ true
is_terminator_at inst op is known = ap is_terminator (op_is inst.op op is) ∙ known

shape_branch_end : (scope : Scope) (header : ℕ) (inst : Inst) (rest : List Inst) (place : ℕ) (label : ℕ) (stands : Bool) (exit : Option End) → is_terminator inst.op ≡ true
    → targets inst ≡ label ∷ [] → stands ≡ begins_with label rest → exit ≡ exit_to scope label → HasShape scope header (inst ∷ rest) place (branch_end exit stands place)
shape_branch_end scope header inst rest place label stands (Some end) is names stands_is exit_is whole =
    alone is refl (one_label (MayLeaveTo scope None) (targets inst) label names (inl (λ none. cc)))
shape_branch_end scope header inst rest place label true None is names stands_is exit_is whole = alone is refl (label, names, sym stands_is)
shape_branch_end scope header inst rest place label false None is names stands_is exit_is whole = absurd whole

shape_branch : (scope : Scope) (header : ℕ) (inst : Inst) (rest : List Inst) (place : ℕ) → inst.op == BRANCH ≡ true
    → HasShape scope header (inst ∷ rest) place (branch scope (slice_index inst.words 0) rest place)
shape_branch scope header inst rest place is =
    choose (HasShape scope header (inst ∷ rest) place) (is_among (slice_index inst.words 0) scope.barred) (λ barred. broken)
    (λ free. shape_branch_end scope header inst rest place (slice_index inst.words 0) _ _ (is_terminator_at inst BRANCH is ends_branch) (names_branch inst is) refl refl)

two_labels : (P : ℕ → Type 0) (labels : List ℕ) (a b : ℕ) → labels ≡ a ∷ b ∷ [] → P a → P b → (label : ℕ) → is_among label labels ≡ true → P label
two_labels P labels a b are has_a has_b label among = by_first P a b label has_a has_b (a == label) refl (sym (ap (is_among label) are) ∙ among)
  where
    by_first : (P : ℕ → Type 0) (a b label : ℕ) → P a → P b → (t : Bool) → t ≡ (a == label) → (t || ((b == label) || false)) ≡ true → P label
    by_first P a b label has_a has_b true is among = subst P (same a label (sym is)) has_a
    by_first P a b label has_a has_b false is among = subst P (same b label (or_false (b == label) among)) has_b

shape_test : (scope : Scope) (header : ℕ) (inst : Inst) (rest : List Inst) (place : ℕ) (test : Option ℕ) → inst.op == BRANCH_CONDITIONAL ≡ true → test ≡ scope.test
    → HasShape scope header (inst ∷ rest) place (test_end test (slice_index inst.words 0) (slice_index inst.words 1) (slice_index inst.words 2) place)
shape_test scope header inst rest place None is of_scope = broken
shape_test scope header inst rest place (Some merge) is of_scope =
    let on_true = slice_index inst.words 1 in let on_false = slice_index inst.words 2 in
    let P = HasShape scope header (inst ∷ rest) place in
    choose P (on_true == on_false) (λ equal. broken) (λ differ.
    choose P (on_false == merge) (λ m whole. alone (is_terminator_at inst BRANCH_CONDITIONAL is ends_branch_conditional) refl
    (two_labels (MayLeaveTo scope (Some on_true)) (targets inst) on_true on_false (names_conditional inst is) (inr (inr refl)) (inr (inl (sym of_scope ∙ ap Some (sym (same on_false merge m)))))))
    (λ other. choose P (on_true == merge) (λ m whole. alone (is_terminator_at inst BRANCH_CONDITIONAL is ends_branch_conditional) refl
    (two_labels (MayLeaveTo scope (Some on_false)) (targets inst) on_true on_false (names_conditional inst is) (inr (inl (sym of_scope ∙ ap Some (sym (same on_true merge m))))) (inr (inr refl))))
    (λ neither. broken)))

shape_invocation_end : (scope : Scope) (header : ℕ) (inst : Inst) (rest : List Inst) (place op : ℕ) (may_end : Bool) (end : End) → inst.op == op ≡ true → is_terminator op ≡ true
    → targets_by op inst.words ≡ [] → HasShape scope header (inst ∷ rest) place (invocation_end may_end end place)
shape_invocation_end scope header inst rest place op true end is known none whole =
    alone (is_terminator_at inst op is known) refl (λ label among. absurd (names_nothing inst op is none label among))
shape_invocation_end scope header inst rest place op false end is known none whole = absurd whole

shape_terminator : (scope : Scope) (header : ℕ) (inst : Inst) (rest : List Inst) (place : ℕ) → HasShape scope header (inst ∷ rest) place (terminator_end scope inst rest place)
unfolding targets_by
shape_terminator scope header inst rest place =
    let P = HasShape scope header (inst ∷ rest) place in
    choose P (inst.op == BRANCH) (shape_branch scope header inst rest place)
    (λ _. choose P (inst.op == BRANCH_CONDITIONAL) (λ is. shape_test scope header inst rest place scope.test is refl)
    (λ _. choose P (inst.op == SWITCH) (λ is. broken)
    (λ _. choose P ((inst.op == RETURN) || (inst.op == UNREACHABLE)) (λ is. elim (one_of (inst.op == RETURN) (inst.op == UNREACHABLE) is) [
      | inl is ↦ shape_invocation_end scope header inst rest place RETURN scope.may_end Return is ends_return refl
      | inr is ↦ shape_invocation_end scope header inst rest place UNREACHABLE scope.may_end Return is ends_unreachable refl
    ])
    (λ _. choose P (inst.op == KILL) (λ is. shape_invocation_end scope header inst rest place KILL scope.may_end Kill is ends_kill refl) (λ _. broken)))))

-- ---- merge instructions

straight_at : (inst : Inst) (op : ℕ) → inst.op == op ≡ true → is_terminator op ≡ false → is_terminator inst.op ≡ false
straight_at inst op is known = ap is_terminator (op_is inst.op op is) ∙ known

shape_unmerged : (scope : Scope) (header : ℕ) (insts rest : List Inst) (place : ℕ) → HasShape scope header insts place (unmerged scope rest place)
shape_unmerged scope header insts [] place = choose (HasShape scope header insts place) (nat_le NESTING scope.depth) (λ _. broken) (λ _. broken)
shape_unmerged scope header insts (inst ∷ rest) place =
    choose (HasShape scope header insts place) (is_terminator inst.op) (λ _. broken)
    (λ _. choose (HasShape scope header insts place) (nat_le NESTING scope.depth) (λ _. broken) (λ _. broken))

shape_selection : (scope : Scope) (header label : ℕ) (merge : Inst) (rest : List Inst) (place : ℕ) → is_terminator merge.op ≡ false
    → HasShape scope header (merge ∷ rest) place (selection_end scope label rest place)
shape_selection scope header label merge [] place isnt = shape_unmerged scope header (merge ∷ []) [] place
shape_selection scope header label merge (inst ∷ rest) place isnt =
    let P = HasShape scope header (merge ∷ inst ∷ rest) place in
    choose P (inst.op == BRANCH_CONDITIONAL)
    (λ is. choose P (nat_le NESTING scope.depth) (λ _. broken) (λ _. choose P ((slice_index inst.words 1 == slice_index inst.words 2) && not (slice_index inst.words 1 == label)) (λ _. broken)
    (λ _ whole. second isnt (is_terminator_at inst BRANCH_CONDITIONAL is ends_branch_conditional) refl (names_conditional inst is))))
    (λ _. choose P (inst.op == SWITCH)
    (λ is. choose P (nat_le NESTING scope.depth) (λ _. broken) (λ _. choose P (repeat (literals_of inst.words)) (λ _. broken)
    (λ _ whole. second isnt (is_terminator_at inst SWITCH is ends_switch) refl (names_switch inst is))))
    (λ _. shape_unmerged scope header (merge ∷ inst ∷ rest) (inst ∷ rest) place))

shape_loop : (scope : Scope) (header : ℕ) (words : List ℕ) (merge : Inst) (rest : List Inst) (place : ℕ) → is_terminator merge.op ≡ false
    → HasShape scope header (merge ∷ rest) place (loop_end scope header words rest place)
shape_loop scope header words merge rest place isnt = choose (HasShape scope header (merge ∷ rest) place) scope.may_loop (λ _. by_rest scope header words merge rest place isnt) (λ _. broken)
  where
    by_rest : (scope : Scope) (header : ℕ) (words : List ℕ) (merge : Inst) (rest : List Inst) (place : ℕ) → is_terminator merge.op ≡ false
        → HasShape scope header (merge ∷ rest) place (loop_branch scope header words rest place)
    by_rest scope header words merge [] place isnt = shape_unmerged scope header (merge ∷ []) [] place
    by_rest scope header words merge (inst ∷ rest) place isnt =
        let P = HasShape scope header (merge ∷ inst ∷ rest) place in
        choose P (inst.op == BRANCH)
        (λ is. choose P (nat_le NESTING scope.depth) (λ _. broken) (λ _. choose P (is_among (slice_index inst.words 0) scope.barred) (λ _. broken)
        (λ _ whole. second isnt (is_terminator_at inst BRANCH is ends_branch) refl (names_branch inst is, refl))))
        (λ _. shape_unmerged scope header (merge ∷ inst ∷ rest) (inst ∷ rest) place)

shape_last : (scope : Scope) (header : ℕ) (inst : Inst) (rest : List Inst) (place : ℕ) → HasShape scope header (inst ∷ rest) place (last_part scope header inst rest place)
unfolding last_part
shape_last scope header inst rest place =
    let P = HasShape scope header (inst ∷ rest) place in
    choose P (inst.op == SELECTION_MERGE) (λ is. shape_selection scope header _ inst rest place (straight_at inst SELECTION_MERGE is straight_selection_merge))
    (λ _. choose P (inst.op == LOOP_MERGE) (λ is. shape_loop scope header inst.words inst rest place (straight_at inst LOOP_MERGE is straight_loop_merge))
    (λ _. shape_terminator scope header inst rest place))

-- ---- the rest of a block

further : {scope : Scope} {header : ℕ} {inst : Inst} {rest : List Inst} {place : ℕ} {end : BlockEnd} → is_terminator inst.op ≡ false
    → HasShape scope header rest (place + 1) end → HasShape scope header (inst ∷ rest) place end
further {inst = inst} isnt shape whole =
    let s = shape whole in
    record { front = inst ∷ s.front; last = s.last; behind = s.behind; is = ap (λ (l : List Inst). inst ∷ l) s.is; straight = (isnt, s.straight); terminator = s.terminator; after = omega (arith, s.after); ends = s.ends }

pub shape_rest : (scope : Scope) (header : ℕ) (phis variables : Bool) (rest : List Inst) (place : ℕ) → HasShape scope header rest place (rest_of_block scope header phis variables rest place)
shape_rest scope header phis variables [] place = broken
shape_rest scope header phis variables (inst ∷ rest) place =
    let P = HasShape scope header (inst ∷ rest) place in
    choose P (inst.op == PHI) (λ is. choose P phis (λ _. further (straight_at inst PHI is straight_phi) (shape_rest scope header phis false rest (place + 1))) (λ _. broken))
    (λ _. choose P (inst.op == VARIABLE) (λ is. choose P variables (λ _. further (straight_at inst VARIABLE is straight_variable) (shape_rest scope header false variables rest (place + 1))) (λ _. broken))
    (λ _. choose P (is_plain inst.op) (λ is. further (plain_is_straight inst.op is) (shape_rest scope header false false rest (place + 1)))
    (λ _. shape_last scope header inst rest place)))
