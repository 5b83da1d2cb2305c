-- One block of a function: which instructions it may have, and how it ends.
use Rattle.std.specs.Prelude.{ℕ, ◌+◌, Bool, true, false, not, ◌&&◌, ◌||◌, ◌==◌, nat_le, if◌then◌else◌, List, [], ◌∷◌, drop, slice_index, Option, None, Some}
use Rattle.limits.specs.declared.TheConstants.{NESTING}
use Rattle.spirv_model.specs.declared.module.Inst.{Inst}
use Rattle.spirv_model.specs.declared.op.TheConstants.{VARIABLE, PHI, LOOP_MERGE, SELECTION_MERGE, LABEL, BRANCH, BRANCH_CONDITIONAL, SWITCH, KILL, RETURN, UNREACHABLE}
use Rattle.body_model.specs.declared.scope.LoopExits.{LoopExits}
use Rattle.body_model.specs.declared.scope.Phis.{Phis}
use Rattle.body_model.specs.declared.scope.Phis.TheVariants.{Nowhere, AtHeader, Anywhere}
use Rattle.body_model.specs.declared.scope.End.{End}
use Rattle.body_model.specs.declared.scope.End.TheVariants.{Merge, Leave, Break, Continue, Back, Test, Return, Kill}
use Rattle.body_model.specs.declared.block_end.BlockEnd.{BlockEnd}
use Rattle.body_model.specs.declared.block_end.BlockEnd.TheVariants.{Broken, Ends, GoesOn, Selects, Picks, Loops}
use Rattle.body_model.specs.declared.fault.TreeFault.TheVariants.{BadBlock, BadMerge, BadExit, TooDeep}
use Rattle.body_model.specs.Classes.{is_plain, is_terminator}
use Rattle.body_model.specs.Scope.{Scope}
use Rattle.body_model.specs.Switches.{is_among, repeat, literals_of}

-- these instructions of a block lead to OpLoopMerge, so that the block is a loop's header
abbrev pub leads_to_loop : List Inst → Bool
leads_to_loop [] = false
leads_to_loop (inst ∷ rest) =
    if (inst.op == PHI) || (inst.op == VARIABLE) || is_plain inst.op then leads_to_loop rest else inst.op == LOOP_MERGE

-- the label at the front of these instructions is this one
abbrev pub begins_with : ℕ → List Inst → Bool
begins_with label [] = false
begins_with label (inst ∷ rest) = (inst.op == LABEL) && (slice_index inst.words 0 == label)

abbrev pub is_label : Option ℕ → ℕ → Bool
is_label None label = false
is_label (Some known) label = known == label

abbrev pub loop_exit_to : Option LoopExits → ℕ → Option End
loop_exit_to None label = None
loop_exit_to (Some exits) label = if exits.merge == label then Some Break else if exits.next == label then Some Continue else None

-- how OpBranch to a label ends a sequence, where it may
abbrev pub exit_to : Scope → ℕ → Option End
exit_to scope label =
    if is_label scope.merge label then Some Merge
    else if is_label scope.leave label then Some Leave
    else if is_label scope.header label then Some Back
    else loop_exit_to scope.exits label

-- the block at this place is its sequence's last
abbrev pub last_block : End → Option ℕ → ℕ → BlockEnd
last_block end next place = Ends (record { end = end; next = next; after = place + 1 })

-- OpBranch at a place
abbrev pub branch_end : Option End → Bool → ℕ → BlockEnd
branch_end (Some end) stands_next place = last_block end None place
branch_end None stands_next place = if stands_next then GoesOn (place + 1) else Broken (BadExit place)

abbrev pub branch : Scope → ℕ → List Inst → ℕ → BlockEnd
branch scope label rest place =
    if is_among label scope.barred then Broken (BadExit place) else branch_end (exit_to scope label) (begins_with label rest) place

-- OpBranchConditional at a place, without a merge instruction: it ends a condition sequence, with one target the loop's merge block
abbrev pub test_end : Option ℕ → ℕ → ℕ → ℕ → ℕ → BlockEnd
test_end None cond on_true on_false place = Broken (BadMerge place)
test_end (Some merge) cond on_true on_false place =
    if on_true == on_false then Broken (BadMerge place)
    else if on_false == merge then last_block (Test cond true) (Some on_true) place
    else if on_true == merge then last_block (Test cond false) (Some on_false) place
    else Broken (BadMerge place)

-- the invocation ends at a place, where it may
abbrev pub invocation_end : Bool → End → ℕ → BlockEnd
invocation_end may_end end place = if may_end then last_block end None place else Broken (BadExit place)

-- a terminator without a merge instruction at a place, or anything else that no block has
abbrev pub terminator_end : Scope → Inst → List Inst → ℕ → BlockEnd
terminator_end scope inst rest place =
    if inst.op == BRANCH then branch scope (slice_index inst.words 0) rest place
    else if inst.op == BRANCH_CONDITIONAL then test_end scope.test (slice_index inst.words 0) (slice_index inst.words 1) (slice_index inst.words 2) place
    else if inst.op == SWITCH then Broken (BadMerge place)
    else if (inst.op == RETURN) || (inst.op == UNREACHABLE) then invocation_end scope.may_end Return place
    else if inst.op == KILL then invocation_end scope.may_end Kill place
    else Broken (BadBlock place)

-- what stands behind a merge instruction at a place is not a terminator that it wants
abbrev pub unmerged : Scope → List Inst → ℕ → BlockEnd
unmerged scope [] place = if nat_le NESTING scope.depth then Broken (TooDeep place) else Broken (BadBlock (place + 1))
unmerged scope (inst ∷ rest) place =
    if is_terminator inst.op then Broken (BadMerge place)
    else if nat_le NESTING scope.depth then Broken (TooDeep place)
    else Broken (BadBlock (place + 1))

-- OpSelectionMerge at a place with OpBranchConditional behind it
abbrev pub selection_head : Scope → ℕ → List ℕ → ℕ → BlockEnd
selection_head scope merge words place =
    if nat_le NESTING scope.depth then Broken (TooDeep place)
    else if (slice_index words 1 == slice_index words 2) && not (slice_index words 1 == merge) then Broken (BadMerge (place + 1))
    else Selects (record { cond = slice_index words 0; merge = merge; on_true = slice_index words 1; on_false = slice_index words 2; after = place + 2 })

-- OpSelectionMerge at a place with OpSwitch behind it
abbrev pub switch_head : Scope → ℕ → List ℕ → ℕ → BlockEnd
switch_head scope merge words place =
    if nat_le NESTING scope.depth then Broken (TooDeep place)
    else if repeat (literals_of words) then Broken (BadMerge (place + 1))
    else Picks (record { selector = slice_index words 0; merge = merge; default = slice_index words 1; after = place + 2 })

-- OpSelectionMerge at a place, and what stands behind it
abbrev pub selection_end : Scope → ℕ → List Inst → ℕ → BlockEnd
selection_end scope merge [] place = unmerged scope [] place
selection_end scope merge (inst ∷ rest) place =
    if inst.op == BRANCH_CONDITIONAL then selection_head scope merge inst.words place
    else if inst.op == SWITCH then switch_head scope merge inst.words place
    else unmerged scope (inst ∷ rest) place

-- OpLoopMerge with these words at a place in the block with this label, with OpBranch to a label behind it
abbrev pub loop_head : Scope → ℕ → List ℕ → ℕ → ℕ → BlockEnd
loop_head scope header words test place =
    if nat_le NESTING scope.depth then Broken (TooDeep place)
    else if is_among test scope.barred then Broken (BadExit (place + 1))
    else Loops (record { header = header; merge = slice_index words 0; next = slice_index words 1; test = test; after = place + 2 })

-- OpLoopMerge at a place, and what stands behind it
abbrev pub loop_branch : Scope → ℕ → List ℕ → List Inst → ℕ → BlockEnd
loop_branch scope header words [] place = unmerged scope [] place
loop_branch scope header words (inst ∷ rest) place =
    if inst.op == BRANCH then loop_head scope header words (slice_index inst.words 0) place else unmerged scope (inst ∷ rest) place

abbrev pub loop_end : Scope → ℕ → List ℕ → List Inst → ℕ → BlockEnd
loop_end scope header words rest place = if scope.may_loop then loop_branch scope header words rest place else Broken (BadMerge place)

-- the merge instruction or the terminator at a place
unfoldable pub last_part : Scope → ℕ → Inst → List Inst → ℕ → BlockEnd
last_part scope label inst rest place =
    if inst.op == SELECTION_MERGE then selection_end scope (slice_index inst.words 0) rest place
    else if inst.op == LOOP_MERGE then loop_end scope label inst.words rest place
    else terminator_end scope inst rest place

-- phis may stand at the head of a block, which leads to OpLoopMerge or doesn't
abbrev pub may_have_phis : Phis → Bool → Bool
may_have_phis Nowhere is_header = false
may_have_phis AtHeader is_header = is_header
may_have_phis Anywhere is_header = true

-- the instructions of a block from a place on, where phis or variables may still stand
abbrev pub rest_of_block : Scope → ℕ → Bool → Bool → List Inst → ℕ → BlockEnd
rest_of_block scope label phis variables [] place = Broken (BadBlock place)
rest_of_block scope label phis variables (inst ∷ rest) place =
    if inst.op == PHI then (if phis then rest_of_block scope label phis false rest (place + 1) else Broken (BadBlock place))
    else if inst.op == VARIABLE then (if variables then rest_of_block scope label false variables rest (place + 1) else Broken (BadBlock place))
    else if is_plain inst.op then rest_of_block scope label false false rest (place + 1)
    else last_part scope label inst rest place

-- how the block ends that these instructions begin with, the first of them at a place and being its OpLabel
abbrev pub block_from : Scope → List Inst → ℕ → BlockEnd
block_from scope [] place = Broken (BadBlock place)
block_from scope (inst ∷ rest) place =
    rest_of_block scope (slice_index inst.words 0) (may_have_phis scope.phis (leads_to_loop rest)) scope.first rest (place + 1)

-- how the block at a place of the list ends
unfoldable pub block_end : List Inst → Scope → ℕ → BlockEnd
block_end insts scope place = block_from scope (drop place insts) place
