-- What is known of a block's end: the place after it, and the label that has to stand there.
use Rattle.std.proofs.Common.{◌≡◌, ℕ, ◌+◌, ◌-◌, ◌<◌, ◌≤◌, Bool, true, false, not, nat_le, ◌==◌, ◌||◌, ◌&&◌, if◌then◌else◌, List, [], ◌∷◌, length, drop, slice_index, Option, None, Some, refl, sym, arith, length-drop}
use Rattle.std.proofs.lemmas.Bool.Decides.{nat_tests}
use Rattle.limits.specs.declared.TheConstants.{NESTING}
use Rattle.spirv_model.specs.declared.module.Inst.{Inst}
use Rattle.spirv_model.specs.declared.op.TheConstants.{PHI, VARIABLE, LOOP_MERGE, SELECTION_MERGE, BRANCH, BRANCH_CONDITIONAL, SWITCH, KILL, RETURN, UNREACHABLE}
use Rattle.body_model.specs.declared.scope.End.{End}
use Rattle.body_model.specs.declared.block_end.BlockEnd.{BlockEnd}
use Rattle.body_model.specs.declared.block_end.BlockEnd.TheVariants.{Broken, Ends, GoesOn, Selects, Picks, Loops}
use Rattle.body_model.specs.declared.fault.TreeFault.{TreeFault}
use Rattle.body_model.specs.declared.fault.TreeFault.TheVariants.{BadMerge}
use Rattle.body_model.specs.Classes.{is_plain, is_terminator}
use Rattle.body_model.specs.Scope.{Scope}
use Rattle.body_model.specs.Switches.{is_among, repeat, literals_of}
use Rattle.body_model.specs.Blocks.{begins_with, leads_to_loop, may_have_phis, exit_to, last_block, branch_end, branch, test_end, invocation_end, terminator_end, unmerged, selection_end, loop_branch, last_part, rest_of_block, block_end, block_from}

-- what holds of the label behind each end that the scope allows
pub record Leaves (F : Option ℕ → Type 0) (scope : Scope) : Type 0 where
  pub exits : (label : ℕ) (end : End) → exit_to scope label ≡ Some end → F None
  pub ends : scope.may_end ≡ true → F None
  pub tests : (merge label : ℕ) → scope.test ≡ Some merge → F (Some label)

-- the place after a block stands behind the block's start, within the list
pub record Between (place past after : ℕ) : Type 0 where
  pub forward : place < after
  pub within : after ≤ past

abbrev pub Sound : (Option ℕ → Type 0) → Scope → ℕ → ℕ → BlockEnd → Type 0
Sound F scope place past (Broken fault) = Unit {0}
Sound F scope place past (Ends last) = Between place past last.after × F last.next
Sound F scope place past (GoesOn after) = Between place past after
Sound F scope place past (Selects head) = Between place past head.after × (scope.depth < NESTING)
Sound F scope place past (Picks head) = Between place past head.after × (scope.depth < NESTING)
Sound F scope place past (Loops head) = Between place past head.after × (scope.depth < NESTING)

pub record IsSound (F : Option ℕ → Type 0) (scope : Scope) (place past : ℕ) (end : BlockEnd) : Type 0 where
  pub is : Sound F scope place past end

earlier : (place other past after : ℕ) → place ≤ other → Between other past after → Between place past after
earlier place other past after before between = record { forward = omega arith; within = between.within }

by_case : (F : Option ℕ → Type 0) (scope : Scope) (place other past : ℕ) (end : BlockEnd) → place ≤ other → Sound F scope other past end → Sound F scope place past end
by_case F scope place other past (Broken fault) before sound = tt
by_case F scope place other past (Ends last) before sound = (earlier place other past last.after before sound.0, sound.1)
by_case F scope place other past (GoesOn after) before sound = earlier place other past after before sound
by_case F scope place other past (Selects head) before sound = (earlier place other past head.after before sound.0, sound.1)
by_case F scope place other past (Picks head) before sound = (earlier place other past head.after before sound.0, sound.1)
by_case F scope place other past (Loops head) before sound = (earlier place other past head.after before sound.0, sound.1)

pub sound_earlier : (F : Option ℕ → Type 0) (scope : Scope) (place other past : ℕ) (end : BlockEnd) → place ≤ other → IsSound F scope other past end → IsSound F scope place past end
sound_earlier F scope place other past end before sound = record { is = by_case F scope place other past end before sound.is }

below_limit : (depth : ℕ) → nat_le NESTING depth ≡ false → depth < NESTING
below_limit depth is = grind (arith, nat_tests)

pub sound_if : {F : Option ℕ → Type 0} {scope : Scope} {place past : ℕ} {x y : BlockEnd} (b : Bool) → IsSound F scope place past x → IsSound F scope place past y
    → IsSound F scope place past (if b then x else y)
sound_if true is isnt = is
sound_if false is isnt = isnt

pub broken : {F : Option ℕ → Type 0} {scope : Scope} {place past : ℕ} {fault : TreeFault} → IsSound F scope place past (Broken fault)
broken = record { is = tt }

ended : {F : Option ℕ → Type 0} {scope : Scope} {place past : ℕ} {next : Option ℕ} {end : End} → place + 1 ≤ past → F next → IsSound F scope place past (last_block end next place)
ended within leaves = record { is = (record { forward = omega arith; within = within }, leaves) }

sound_exit : (F : Option ℕ → Type 0) (scope : Scope) (place past : ℕ) (exit : Option End) (stands : Bool) → ((end : End) → exit ≡ Some end → F None) → place + 1 ≤ past
    → IsSound F scope place past (branch_end exit stands place)
sound_exit F scope place past (Some end) stands leaves within = ended within (leaves end refl)
sound_exit F scope place past None true leaves within = record { is = record { forward = omega arith; within = within } }
sound_exit F scope place past None false leaves within = broken

sound_branch : (F : Option ℕ → Type 0) (scope : Scope) (label : ℕ) (rest : List Inst) (place past : ℕ) → Leaves F scope → place + 1 ≤ past → IsSound F scope place past (branch scope label rest place)
sound_branch F scope label rest place past leaves within =
    sound_if (is_among label scope.barred) broken (sound_exit F scope place past (exit_to scope label) (begins_with label rest) (leaves.exits label) within)

sound_test : (F : Option ℕ → Type 0) (scope : Scope) (place past : ℕ) (test : Option ℕ) (cond on_true on_false : ℕ) → ((merge label : ℕ) → test ≡ Some merge → F (Some label)) → place + 1 ≤ past
    → IsSound F scope place past (test_end test cond on_true on_false place)
sound_test F scope place past None cond on_true on_false leaves within = broken
sound_test F scope place past (Some merge) cond on_true on_false leaves within =
    sound_if (on_true == on_false) broken
    (sound_if (on_false == merge) (ended within (leaves merge on_true refl)) (sound_if (on_true == merge) (ended within (leaves merge on_false refl)) broken))

sound_end : {F : Option ℕ → Type 0} {scope : Scope} {place past : ℕ} (end : End) (may_end : Bool) → (may_end ≡ true → F None) → place + 1 ≤ past
    → IsSound F scope place past (invocation_end may_end end place)
sound_end end true leaves within = ended within (leaves refl)
sound_end end false leaves within = broken

sound_terminator : (F : Option ℕ → Type 0) (scope : Scope) (inst : Inst) (rest : List Inst) (place past : ℕ) → Leaves F scope → place + 1 ≤ past
    → IsSound F scope place past (terminator_end scope inst rest place)
sound_terminator F scope inst rest place past leaves within =
    sound_if (inst.op == BRANCH) (sound_branch F scope _ rest place past leaves within)
    (sound_if (inst.op == BRANCH_CONDITIONAL) (sound_test F scope place past scope.test _ _ _ leaves.tests within)
    (sound_if (inst.op == SWITCH) broken
    (sound_if ((inst.op == RETURN) || (inst.op == UNREACHABLE)) (sound_end _ scope.may_end leaves.ends within)
    (sound_if (inst.op == KILL) (sound_end _ scope.may_end leaves.ends within) broken))))

sound_unmerged : (F : Option ℕ → Type 0) (scope : Scope) (rest : List Inst) (at place past : ℕ) → IsSound F scope at past (unmerged scope rest place)
sound_unmerged F scope [] at place past = sound_if (nat_le NESTING scope.depth) broken broken
sound_unmerged F scope (inst ∷ rest) at place past = sound_if (is_terminator inst.op) broken (sound_if (nat_le NESTING scope.depth) broken broken)

-- a construct opens only where fewer are open than may be
sound_open : {F : Option ℕ → Type 0} {scope : Scope} {place past : ℕ} {opens : BlockEnd} (fault : TreeFault) (full : Bool) → full ≡ nat_le NESTING scope.depth
    → (scope.depth < NESTING → IsSound F scope place past opens) → IsSound F scope place past (if full then Broken fault else opens)
sound_open fault true is some = broken
sound_open {scope = scope} fault false is some = some (below_limit scope.depth (sym is))

two_on : (place past : ℕ) → place + 2 ≤ past → Between (place + 1) past (place + 2)
two_on place past within = record { forward = omega arith; within = within }

pub sound_selection : (F : Option ℕ → Type 0) (scope : Scope) (merge : ℕ) (rest : List Inst) (place past : ℕ) → place + 1 + length rest ≤ past
    → IsSound F scope (place + 1) past (selection_end scope merge rest place)
sound_selection F scope merge [] place past within = sound_unmerged F scope [] (place + 1) place past
sound_selection F scope merge (inst ∷ rest) place past within =
    sound_if (inst.op == BRANCH_CONDITIONAL)
    (sound_open _ (nat_le NESTING scope.depth) refl
    (λ few. sound_if ((slice_index inst.words 1 == slice_index inst.words 2) && not (slice_index inst.words 1 == merge)) broken (record { is = (two_on place past (omega arith), few) })))
    (sound_if (inst.op == SWITCH)
    (sound_open _ (nat_le NESTING scope.depth) refl (λ few. sound_if (repeat (literals_of inst.words)) broken (record { is = (two_on place past (omega arith), few) })))
    (sound_unmerged F scope (inst ∷ rest) (place + 1) place past))

pub sound_loop : (F : Option ℕ → Type 0) (scope : Scope) (header : ℕ) (words : List ℕ) (rest : List Inst) (place past : ℕ) → place + 1 + length rest ≤ past
    → IsSound F scope (place + 1) past (loop_branch scope header words rest place)
sound_loop F scope header words [] place past within = sound_unmerged F scope [] (place + 1) place past
sound_loop F scope header words (inst ∷ rest) place past within =
    sound_if (inst.op == BRANCH)
    (sound_open _ (nat_le NESTING scope.depth) refl (λ few. sound_if (is_among (slice_index inst.words 0) scope.barred) broken (record { is = (two_on place past (omega arith), few) })))
    (sound_unmerged F scope (inst ∷ rest) (place + 1) place past)

sound_last_part : (F : Option ℕ → Type 0) (scope : Scope) (label : ℕ) (inst : Inst) (rest : List Inst) (place past : ℕ) → Leaves F scope → place + 1 + length rest ≤ past
    → IsSound F scope place past (last_part scope label inst rest place)
unfolding last_part
sound_last_part F scope label inst rest place past leaves within =
    sound_if (inst.op == SELECTION_MERGE) (sound_earlier F scope place (place + 1) past _ (omega arith) (sound_selection F scope _ rest place past within))
    (sound_if (inst.op == LOOP_MERGE)
    (sound_if scope.may_loop (sound_earlier F scope place (place + 1) past (loop_branch scope label inst.words rest place) (omega arith) (sound_loop F scope label inst.words rest place past within)) (broken {fault = BadMerge place}))
    (sound_terminator F scope inst rest place past leaves (omega arith)))

pub sound_rest : (F : Option ℕ → Type 0) (scope : Scope) (label : ℕ) (phis variables : Bool) (rest : List Inst) (place past : ℕ) → Leaves F scope → place + length rest ≡ past
    → IsSound F scope place past (rest_of_block scope label phis variables rest place)
sound_rest F scope label phis variables [] place past leaves is = broken
sound_rest F scope label phis variables (inst ∷ rest) place past leaves is =
    let go = λ (phis variables : Bool). sound_earlier F scope place (place + 1) past (rest_of_block scope label phis variables rest (place + 1)) (omega arith)
    (sound_rest F scope label phis variables rest (place + 1) past leaves (omega arith)) in
    sound_if (inst.op == PHI) (sound_if phis (go phis false) broken)
    (sound_if (inst.op == VARIABLE) (sound_if variables (go false variables) broken)
    (sound_if (is_plain inst.op) (go false false) (sound_last_part F scope label inst rest place past leaves (omega arith))))

sound_from : (F : Option ℕ → Type 0) (scope : Scope) (block : List Inst) (place past : ℕ) → Leaves F scope → length block ≡ past - place → IsSound F scope place past (block_from scope block place)
sound_from F scope [] place past leaves is = broken
sound_from F scope (inst ∷ rest) place past leaves is =
    sound_earlier F scope place (place + 1) past _ (omega arith) (sound_rest F scope _ (may_have_phis scope.phis (leads_to_loop rest)) scope.first rest (place + 1) past leaves (omega arith))

pub nothing_said : (scope : Scope) → Leaves (λ label. Unit {0}) scope
nothing_said scope = record { exits = λ label end is. tt; ends = λ may. tt; tests = λ merge label is. tt }

pub sound_block : (F : Option ℕ → Type 0) (insts : List Inst) (scope : Scope) (place : ℕ) → Leaves F scope → IsSound F scope place (length insts) (block_end insts scope place)
unfolding block_end
sound_block F insts scope place leaves = sound_from F scope (drop place insts) place (length insts) leaves (length-drop place insts)
