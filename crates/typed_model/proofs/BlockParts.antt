-- What stands in a block: its label, phis, variables, plain instructions, a merge instruction and a terminator.
use Rattle.std.proofs.Common.{◌≡◌, ℕ, zero, suc, ◌+◌, ◌<◌, ◌==◌, ◌||◌, ◌&&◌, not, ◌⊎◌, inl, inr, Bool, true, false, nat_le, if◌then◌else◌, List, [], ◌∷◌, drop, slice_index, refl, ap, sym, ◌∙◌, subst, arith, Option, None, Some}
use Rattle.std.specs.Prelude.{slice_get}
use Rattle.std.proofs.lemmas.Bool.Decides.{nat_tests}
use Rattle.limits.specs.declared.TheConstants.{NESTING}
use Rattle.spirv_model.specs.declared.module.Inst.{Inst}
use Rattle.spirv_model.specs.declared.op.TheConstants.{LABEL, PHI, VARIABLE, LOOP_MERGE, SELECTION_MERGE, BRANCH, BRANCH_CONDITIONAL, SWITCH, KILL, RETURN, UNREACHABLE}
use Rattle.body_model.specs.declared.scope.End.{End}
use Rattle.body_model.specs.declared.scope.End.TheVariants.{Return, Kill}
use Rattle.body_model.specs.declared.block_end.BlockEnd.{BlockEnd}
use Rattle.body_model.specs.declared.block_end.BlockEnd.TheVariants.{Broken}
use Rattle.body_model.specs.declared.fault.TreeFault.{TreeFault}
use Rattle.spirv_model.specs.Operands.{entry_of, class_of}
use Rattle.body_model.specs.declared.scope.Phis.{Phis}
use Rattle.body_model.specs.declared.scope.Phis.TheVariants.{Nowhere, AtHeader, Anywhere}
use Rattle.body_model.specs.Classes.{is_plain, is_terminator}
use Rattle.body_model.specs.Scope.{Scope}
use Rattle.body_model.specs.Switches.{is_among, repeat, literals_of}
use Rattle.body_model.specs.Due.{only, IsDue}
use Rattle.body_model.specs.Blocks.{leads_to_loop, may_have_phis, branch_end, test_end, invocation_end, terminator_end, unmerged, selection_end, loop_branch, loop_end, last_part, rest_of_block, block_from, block_end}
use Rattle.body_model.proofs.ClassFacts.{straight_label, straight_phi, ends_branch, ends_branch_conditional, ends_switch, ends_return, ends_unreachable, ends_kill}
use Rattle.body_model.proofs.Dues.{stands_at}
use Rattle.body_model.proofs.Shapes.{after_of, IsWhole}

-- what an instruction of a block is
pub data BlockPart (inst : Inst) : Type 0 where
  a_label : inst.op == LABEL ≡ true → BlockPart inst
  a_phi : inst.op == PHI ≡ true → BlockPart inst
  a_variable : inst.op == VARIABLE ≡ true → BlockPart inst
  a_selection_merge : inst.op == SELECTION_MERGE ≡ true → BlockPart inst
  a_loop_merge : inst.op == LOOP_MERGE ≡ true → BlockPart inst
  a_plain_one : is_plain inst.op ≡ true → BlockPart inst
  a_terminator : is_terminator inst.op ≡ true → BlockPart inst

-- an instruction of a block behind its label; a phi only where these may stand
pub record LaterPart (may : Bool) (inst : Inst) : Type 0 where
  pub part : BlockPart inst
  pub no_label : inst.op == LABEL ≡ false
  pub no_phi : may ≡ false → inst.op == PHI ≡ false

-- the instructions up to a block's end are such, where the first of them stands at the place
pub record PartsUpTo (may : Bool) (insts : List Inst) (place : ℕ) (end : BlockEnd) : Type 0 where
  pub parts : (index : ℕ) (inst : Inst) → slice_get insts index ≡ Some inst → place + index < after_of end → LaterPart may inst

abbrev pub HasParts : Bool → List Inst → ℕ → BlockEnd → Type 0
HasParts may insts place end = IsWhole end → PartsUpTo may insts place end

choose : (P : BlockEnd → Type 0) {x y : BlockEnd} (b : Bool) → (b ≡ true → P x) → (b ≡ false → P y) → P (if b then x else y)
choose P true f g = f refl
choose P false f g = g refl

broken : (may : Bool) (insts : List Inst) (place : ℕ) (fault : TreeFault) → HasParts may insts place (Broken fault)
broken may insts place fault whole = absurd whole

op_is : (op known : ℕ) → op == known ≡ true → op ≡ known
op_is op known is = grind (arith, nat_tests)

same_inst : (a b : Inst) → ◌≡◌ {A = Option Inst} (Some a) (Some b) → a ≡ b
same_inst a b is = cc

first_part : (may : Bool) (inst : Inst) (rest : List Inst) (found : Inst) → LaterPart may inst → slice_get (inst ∷ rest) 0 ≡ Some found → LaterPart may found
first_part may inst rest found part at = subst (LaterPart may) (same_inst inst found at) part

pub clash : (b : Bool) → b ≡ true → b ≡ false → ⊥
clash true is isnt = cc
clash false is isnt = cc

-- an opcode of which a test holds that fails for one is another one
pub another : (test : ℕ → Bool) (own : ℕ) → test own ≡ false → (opcode : ℕ) → test opcode ≡ true → opcode == own ≡ false
another test own isnt opcode is = by_test test own isnt opcode (opcode == own) refl is
  where
    by_test : (test : ℕ → Bool) (own : ℕ) → test own ≡ false → (opcode : ℕ) (b : Bool) → opcode == own ≡ b → test opcode ≡ true → b ≡ false
    by_test test own isnt opcode true equal is = let e = sym (ap test (op_is opcode own equal)) ∙ is in cc
    by_test test own isnt opcode false equal is = refl

-- a part that is no label and no phi, as its opcode tells
other_part : (may : Bool) (test : ℕ → Bool) → (test LABEL ≡ false) × (test PHI ≡ false) → (inst : Inst) → test inst.op ≡ true → BlockPart inst → LaterPart may inst
other_part may test isnt inst is part = record { part = part; no_label = another test LABEL isnt.0 inst.op is; no_phi = λ _. another test PHI isnt.1 inst.op is }

plain_tests : (is_plain LABEL ≡ false) × (is_plain PHI ≡ false)
unfolding class_of entry_of
plain_tests = (refl, refl)

-- the instruction is the terminator
alone : (may : Bool) (inst : Inst) (rest : List Inst) (place : ℕ) (end : BlockEnd) → LaterPart may inst → after_of end ≡ place + 1 → HasParts may (inst ∷ rest) place end
alone may inst rest place end part after whole = record { parts = all }
  where
    all : (index : ℕ) (found : Inst) → slice_get (inst ∷ rest) index ≡ Some found → place + index < after_of end → LaterPart may found
    all zero found at less = first_part may inst rest found part at
    all (suc index) found at less = absurd (omega (arith, after, less))

-- the one behind it is
second : (may : Bool) (merge inst : Inst) (rest : List Inst) (place : ℕ) (end : BlockEnd) → LaterPart may merge → LaterPart may inst → after_of end ≡ place + 2 → HasParts may (merge ∷ inst ∷ rest) place end
second may merge inst rest place end part also after whole = record { parts = all }
  where
    all : (index : ℕ) (found : Inst) → slice_get (merge ∷ inst ∷ rest) index ≡ Some found → place + index < after_of end → LaterPart may found
    all zero found at less = first_part may merge (inst ∷ rest) found part at
    all (suc zero) found at less = first_part may inst rest found also at
    all (suc (suc index)) found at less = absurd (omega (arith, after, less))

-- ---- terminators

ending : (may : Bool) (inst : Inst) (op : ℕ) → inst.op == op ≡ true → is_terminator op ≡ true → LaterPart may inst
ending may inst op is known = let ends = ap is_terminator (op_is inst.op op is) ∙ known in record {
  part = a_terminator ends;
  no_label = another is_terminator LABEL straight_label inst.op ends;
  no_phi = λ _. another is_terminator PHI straight_phi inst.op ends;
}

branch_end_parts : (may : Bool) (inst : Inst) (rest : List Inst) (place : ℕ) (stands : Bool) (exit : Option End) → LaterPart may inst → HasParts may (inst ∷ rest) place (branch_end exit stands place)
branch_end_parts may inst rest place stands (Some end) part = alone may inst rest place _ part refl
branch_end_parts may inst rest place true None part = alone may inst rest place _ part refl
branch_end_parts may inst rest place false None part = broken may (inst ∷ rest) place _

test_parts : (may : Bool) (scope : Scope) (inst : Inst) (rest : List Inst) (place : ℕ) (test : Option ℕ) → LaterPart may inst
    → HasParts may (inst ∷ rest) place (test_end test (slice_index inst.words 0) (slice_index inst.words 1) (slice_index inst.words 2) place)
test_parts may scope inst rest place None part = broken may (inst ∷ rest) place _
test_parts may scope inst rest place (Some merge) part =
    let P = HasParts may (inst ∷ rest) place in
    choose P (slice_index inst.words 1 == slice_index inst.words 2) (λ _. broken may (inst ∷ rest) place _)
    (λ _. choose P (slice_index inst.words 2 == merge) (λ _. alone may inst rest place _ part refl)
    (λ _. choose P (slice_index inst.words 1 == merge) (λ _. alone may inst rest place _ part refl) (λ _. broken may (inst ∷ rest) place _)))

invocation_parts : (may : Bool) (inst : Inst) (rest : List Inst) (place : ℕ) (may_end : Bool) (end : End) → LaterPart may inst → HasParts may (inst ∷ rest) place (invocation_end may_end end place)
invocation_parts may inst rest place true end part = alone may inst rest place _ part refl
invocation_parts may inst rest place false end part = broken may (inst ∷ rest) place _

one_of : (a b : Bool) → (a || b) ≡ true → (a ≡ true) ⊎ (b ≡ true)
one_of true b is = inl refl
one_of false b is = inr is

returns : (may : Bool) (inst : Inst) → ((inst.op == RETURN) || (inst.op == UNREACHABLE)) ≡ true → LaterPart may inst
returns may inst is = elim (one_of (inst.op == RETURN) (inst.op == UNREACHABLE) is) [ inl at ↦ ending may inst RETURN at ends_return | inr at ↦ ending may inst UNREACHABLE at ends_unreachable ]

terminator_parts : (may : Bool) (scope : Scope) (inst : Inst) (rest : List Inst) (place : ℕ) → HasParts may (inst ∷ rest) place (terminator_end scope inst rest place)
terminator_parts may scope inst rest place =
    let P = HasParts may (inst ∷ rest) place in
    choose P (inst.op == BRANCH) (λ is. choose P (is_among (slice_index inst.words 0) scope.barred) (λ _. broken may (inst ∷ rest) place _) (λ _. branch_end_parts may inst rest place _ _ (ending may inst BRANCH is ends_branch)))
    (λ _. choose P (inst.op == BRANCH_CONDITIONAL) (λ is. test_parts may scope inst rest place scope.test (ending may inst BRANCH_CONDITIONAL is ends_branch_conditional))
    (λ _. choose P (inst.op == SWITCH) (λ is. broken may (inst ∷ rest) place _)
    (λ _. choose P ((inst.op == RETURN) || (inst.op == UNREACHABLE)) (λ is. invocation_parts may inst rest place scope.may_end Return (returns may inst is))
    (λ _. choose P (inst.op == KILL) (λ is. invocation_parts may inst rest place scope.may_end Kill (ending may inst KILL is ends_kill)) (λ _. broken may (inst ∷ rest) place _)))))

-- ---- merge instructions

unmerged_parts : (may : Bool) (scope : Scope) (insts rest : List Inst) (place : ℕ) → HasParts may insts place (unmerged scope rest place)
unmerged_parts may scope insts [] place = choose (HasParts may insts place) (nat_le NESTING scope.depth) (λ _. broken may insts place _) (λ _. broken may insts place _)
unmerged_parts may scope insts (inst ∷ rest) place =
    choose (HasParts may insts place) (is_terminator inst.op) (λ _. broken may insts place _) (λ _. choose (HasParts may insts place) (nat_le NESTING scope.depth) (λ _. broken may insts place _) (λ _. broken may insts place _))

selection_parts : (may : Bool) (scope : Scope) (label : ℕ) (merge : Inst) (rest : List Inst) (place : ℕ) → LaterPart may merge → HasParts may (merge ∷ rest) place (selection_end scope label rest place)
selection_parts may scope label merge [] place part = unmerged_parts may scope (merge ∷ []) [] place
selection_parts may scope label merge (inst ∷ rest) place part =
    let all = merge ∷ inst ∷ rest in let P = HasParts may all place in
    choose P (inst.op == BRANCH_CONDITIONAL)
    (λ is. choose P (nat_le NESTING scope.depth) (λ _. broken may all place _) (λ _. choose P ((slice_index inst.words 1 == slice_index inst.words 2) && not (slice_index inst.words 1 == label)) (λ _. broken may all place _)
    (λ _. second may merge inst rest place _ part (ending may inst BRANCH_CONDITIONAL is ends_branch_conditional) refl)))
    (λ _. choose P (inst.op == SWITCH)
    (λ is. choose P (nat_le NESTING scope.depth) (λ _. broken may all place _) (λ _. choose P (repeat (literals_of inst.words)) (λ _. broken may all place _) (λ _. second may merge inst rest place _ part (ending may inst SWITCH is ends_switch) refl)))
    (λ _. unmerged_parts may scope all (inst ∷ rest) place))

loop_parts : (may : Bool) (scope : Scope) (header : ℕ) (words : List ℕ) (merge : Inst) (rest : List Inst) (place : ℕ) → LaterPart may merge → HasParts may (merge ∷ rest) place (loop_end scope header words rest place)
loop_parts may scope header words merge rest place part = choose (HasParts may (merge ∷ rest) place) scope.may_loop (λ _. by_rest may scope header words merge rest place part) (λ _. broken may (merge ∷ rest) place _)
  where
    by_rest : (may : Bool) (scope : Scope) (header : ℕ) (words : List ℕ) (merge : Inst) (rest : List Inst) (place : ℕ) → LaterPart may merge → HasParts may (merge ∷ rest) place (loop_branch scope header words rest place)
    by_rest may scope header words merge [] place part = unmerged_parts may scope (merge ∷ []) [] place
    by_rest may scope header words merge (inst ∷ rest) place part =
        let all = merge ∷ inst ∷ rest in let P = HasParts may all place in
        choose P (inst.op == BRANCH)
        (λ is. choose P (nat_le NESTING scope.depth) (λ _. broken may all place _) (λ _. choose P (is_among (slice_index inst.words 0) scope.barred) (λ _. broken may all place _)
        (λ _. second may merge inst rest place _ part (ending may inst BRANCH is ends_branch) refl)))
        (λ _. unmerged_parts may scope all (inst ∷ rest) place)

last_parts : (may : Bool) (scope : Scope) (header : ℕ) (inst : Inst) (rest : List Inst) (place : ℕ) → HasParts may (inst ∷ rest) place (last_part scope header inst rest place)
unfolding last_part
last_parts may scope header inst rest place =
    let P = HasParts may (inst ∷ rest) place in
    choose P (inst.op == SELECTION_MERGE) (λ is. selection_parts may scope _ inst rest place (other_part may (λ op. op == SELECTION_MERGE) (refl, refl) inst is (a_selection_merge is)))
    (λ _. choose P (inst.op == LOOP_MERGE) (λ is. loop_parts may scope header inst.words inst rest place (other_part may (λ op. op == LOOP_MERGE) (refl, refl) inst is (a_loop_merge is))) (λ _. terminator_parts may scope inst rest place))

-- ---- the rest of a block

further : (may : Bool) (inst : Inst) (rest : List Inst) (place : ℕ) (end : BlockEnd) → LaterPart may inst → HasParts may rest (place + 1) end → HasParts may (inst ∷ rest) place end
further may inst rest place end part more whole = record { parts = all }
  where
    all : (index : ℕ) (found : Inst) → slice_get (inst ∷ rest) index ≡ Some found → place + index < after_of end → LaterPart may found
    all zero found at less = first_part may inst rest found part at
    all (suc index) found at less = (more whole).parts index found at (omega (arith, less))

phi_part : (may : Bool) (inst : Inst) → (may ≡ false → ⊥) → inst.op == PHI ≡ true → LaterPart may inst
phi_part may inst allowed is = record { part = a_phi is; no_label = another (λ op. op == PHI) LABEL refl inst.op is; no_phi = λ isnt. absurd (allowed isnt) }

rest_parts : (may : Bool) (scope : Scope) (header : ℕ) (phis variables : Bool) → (may ≡ false → phis ≡ false) → (rest : List Inst) (place : ℕ) → HasParts may rest place (rest_of_block scope header phis variables rest place)
rest_parts may scope header phis variables none [] place = broken may [] place _
rest_parts may scope header phis variables none (inst ∷ rest) place =
    let P = HasParts may (inst ∷ rest) place in
    choose P (inst.op == PHI)
    (λ is. choose P phis
    (λ allowed. further may inst rest place _ (phi_part may inst (λ isnt. clash phis allowed (none isnt)) is) (rest_parts may scope header phis false none rest (place + 1)))
    (λ _. broken may (inst ∷ rest) place _))
    (λ _. choose P (inst.op == VARIABLE)
    (λ is. choose P variables
    (λ _. further may inst rest place _ (other_part may (λ op. op == VARIABLE) (refl, refl) inst is (a_variable is)) (rest_parts may scope header false variables (λ _. refl) rest (place + 1)))
    (λ _. broken may (inst ∷ rest) place _))
    (λ _. choose P (is_plain inst.op)
    (λ is. further may inst rest place _ (other_part may is_plain plain_tests inst is (a_plain_one is)) (rest_parts may scope header false false (λ _. refl) rest (place + 1)))
    (λ _. last_parts may scope header inst rest place)))

-- ---- phis come first

-- behind an instruction that is no phi stands none, up to the block's end
pub record PhisFirst (insts : List Inst) (place : ℕ) (end : BlockEnd) : Type 0 where
  pub first : (index : ℕ) (inst other : Inst) → slice_get insts index ≡ Some inst → slice_get insts (suc index) ≡ Some other → place + suc index < after_of end → inst.op == PHI ≡ false → other.op == PHI ≡ false

abbrev HasPhisFirst : List Inst → ℕ → BlockEnd → Type 0
HasPhisFirst insts place end = IsWhole end → PhisFirst insts place end

-- no phi stands behind
no_later : (inst : Inst) (rest : List Inst) (place : ℕ) (end : BlockEnd) → HasParts false rest (place + 1) end → HasPhisFirst (inst ∷ rest) place end
no_later inst rest place end more whole = record { first = λ index found other at behind less isnt. ((more whole).parts index other behind (omega (arith, less))).no_phi refl }

none_here : (inst : Inst) (rest : List Inst) (place : ℕ) (end : BlockEnd) → HasParts false (inst ∷ rest) place end → HasPhisFirst (inst ∷ rest) place end
none_here inst rest place end all whole = record { first = λ index found other at behind less isnt. ((all whole).parts (suc index) other behind less).no_phi refl }

-- a phi in front
phi_before : (inst : Inst) (rest : List Inst) (place : ℕ) (end : BlockEnd) → inst.op == PHI ≡ true → HasPhisFirst rest (place + 1) end → HasPhisFirst (inst ∷ rest) place end
phi_before inst rest place end is more whole = record { first = all }
  where
    all : (index : ℕ) (found other : Inst) → slice_get (inst ∷ rest) index ≡ Some found → slice_get (inst ∷ rest) (suc index) ≡ Some other → place + suc index < after_of end → found.op == PHI ≡ false → other.op == PHI ≡ false
    all zero found other at behind less isnt = absurd (clash (inst.op == PHI) is (ap (λ (i : Inst). i.op == PHI) (same_inst inst found at) ∙ isnt))
    all (suc index) found other at behind less isnt = (more whole).first index found other at behind (omega (arith, less)) isnt

rest_phis : (scope : Scope) (header : ℕ) (phis variables : Bool) (rest : List Inst) (place : ℕ) → HasPhisFirst rest place (rest_of_block scope header phis variables rest place)
rest_phis scope header phis variables [] place = λ whole. absurd whole
rest_phis scope header phis variables (inst ∷ rest) place =
    let P = HasPhisFirst (inst ∷ rest) place in
    choose P (inst.op == PHI)
    (λ is. choose P phis (λ _. phi_before inst rest place _ is (rest_phis scope header phis false rest (place + 1))) (λ _ whole. absurd whole))
    (λ _. choose P (inst.op == VARIABLE)
    (λ is. choose P variables (λ _. no_later inst rest place _ (rest_parts false scope header false variables (λ _. refl) rest (place + 1))) (λ _ whole. absurd whole))
    (λ _. choose P (is_plain inst.op)
    (λ is. no_later inst rest place _ (rest_parts false scope header false false (λ _. refl) rest (place + 1)))
    (λ _. none_here inst rest place _ (last_parts false scope header inst rest place))))

-- ---- all of it

-- phis may stand in some block of the scope
abbrev pub has_phis : Phis → Bool
has_phis Nowhere = false
has_phis AtHeader = true
has_phis Anywhere = true

no_phis : (phis : Phis) (is_header : Bool) → has_phis phis ≡ false → may_have_phis phis is_header ≡ false
no_phis Nowhere is_header none = refl
no_phis AtHeader is_header none = cc
no_phis Anywhere is_header none = cc

-- what stands up to a block's end, its label first
pub record BlockUpTo (may : Bool) (insts : List Inst) (place : ℕ) (end : BlockEnd) : Type 0 where
  pub parts : (index : ℕ) (inst : Inst) → slice_get insts index ≡ Some inst → place + index < after_of end → BlockPart inst
  pub later : (index : ℕ) (inst : Inst) → slice_get insts (suc index) ≡ Some inst → place + suc index < after_of end → LaterPart may inst
  -- phis stand behind the label or other phis
  pub phis : (index : ℕ) (inst other : Inst) → slice_get insts index ≡ Some inst → slice_get insts (suc index) ≡ Some other → place + suc index < after_of end → inst.op == LABEL ≡ false → inst.op == PHI ≡ false → other.op == PHI ≡ false

whole_block : (may : Bool) (inst : Inst) (rest : List Inst) (place : ℕ) (end : BlockEnd) → inst.op == LABEL ≡ true → PartsUpTo may rest (place + 1) end → PhisFirst rest (place + 1) end → BlockUpTo may (inst ∷ rest) place end
whole_block may inst rest place end is more behind = record { parts = all; later = λ index found at less. more.parts index found at (omega (arith, less)); phis = later_phis }
  where
    later_phis : (index : ℕ) (found other : Inst) → slice_get (inst ∷ rest) index ≡ Some found → slice_get (inst ∷ rest) (suc index) ≡ Some other → place + suc index < after_of end → found.op == LABEL ≡ false → found.op == PHI ≡ false
        → other.op == PHI ≡ false
    later_phis zero found other at next less no_label no_phi = absurd (clash (inst.op == LABEL) is (ap (λ (i : Inst). i.op == LABEL) (same_inst inst found at) ∙ no_label))
    later_phis (suc index) found other at next less no_label no_phi = behind.first index found other at next (omega (arith, less)) no_phi

    all : (index : ℕ) (found : Inst) → slice_get (inst ∷ rest) index ≡ Some found → place + index < after_of end → BlockPart found
    all zero found at less = subst BlockPart (same_inst inst found at) (a_label is)
    all (suc index) found at less = (more.parts index found at (omega (arith, less))).part

-- each instruction of the block at a place
pub block_parts : (insts : List Inst) (scope : Scope) (wanted : Option ℕ) (place : ℕ) (end : BlockEnd) → IsDue insts wanted place → block_end insts scope place ≡ end → IsWhole end → BlockUpTo (has_phis scope.phis) (drop place insts) place end
unfolding block_end
block_parts insts scope wanted place end due is whole =
    let s = stands_at insts (only wanted) place due in
    let B : List Inst → BlockEnd → Type 0 = λ l end. BlockUpTo (has_phis scope.phis) l place end in
    let e : block_from scope (s.inst ∷ s.more) place ≡ end = sym (ap (λ (l : List Inst). block_from scope l place) s.front) ∙ is in
    let rest = rest_parts (has_phis scope.phis) scope (slice_index s.inst.words 0) (may_have_phis scope.phis (leads_to_loop s.more)) scope.first (no_phis scope.phis (leads_to_loop s.more)) s.more (place + 1) in
    let phis = rest_phis scope (slice_index s.inst.words 0) (may_have_phis scope.phis (leads_to_loop s.more)) scope.first s.more (place + 1) in
    subst (λ l. B l end) (sym s.front)
    (whole_block (has_phis scope.phis) s.inst s.more place end s.label (subst (HasParts (has_phis scope.phis) s.more (place + 1)) e rest whole) (subst (HasPhisFirst s.more (place + 1)) e phis whole))
