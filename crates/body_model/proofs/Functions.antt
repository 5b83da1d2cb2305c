-- Worked functions: what the grammar says of them, by computing.
use Rattle.std.proofs.Common.{◌≡◌, ℕ, zero, suc, ◌+◌, List, [], ◌∷◌, ◌++◌, refl}
use Rattle.std.specs.Prelude.{None, Some}
use Rattle.spirv_model.specs.declared.module.Inst.{Inst}
use Rattle.spirv_model.specs.declared.op.TheConstants.{TYPE_VOID, TYPE_FUNCTION, FUNCTION, FUNCTION_END, LABEL, BRANCH, BRANCH_CONDITIONAL, LOOP_MERGE, SELECTION_MERGE, RETURN}
use Rattle.spirv_model.specs.Operands.{entry_of, class_of}
use Rattle.body_model.specs.declared.fault.TreeFault.TheVariants.{BadBlock, BadMerge, BadExit, TooDeep}
use Rattle.body_model.specs.Blocks.{block_end, last_part}
use Rattle.body_model.specs.Due.{missing}
use Rattle.body_model.specs.Switches.{switch_words, labels_of}
use Rattle.body_model.specs.Reading.{tree_fault}

abbrev i : ℕ → List ℕ → Inst
i op words = record { op = op; words = words }

-- a module with these blocks: the first of them stands at place 3
abbrev function : List Inst → List Inst
function blocks = i TYPE_VOID (1 ∷ []) ∷ i TYPE_FUNCTION (2 ∷ 1 ∷ []) ∷ i FUNCTION (1 ∷ 3 ∷ 0 ∷ 2 ∷ []) ∷ (blocks ++ i FUNCTION_END [] ∷ [])

-- one block
pub one-block : tree_fault (function (i 248 (20 ∷ []) ∷ i 253 ([]) ∷ [])) ≡ None
unfolding entry_of class_of tree_fault block_end missing last_part labels_of switch_words
one-block = refl

-- a function without a block
pub no-block : tree_fault (function ([])) ≡ Some (BadBlock 3)
unfolding entry_of class_of tree_fault block_end missing last_part labels_of switch_words
no-block = refl

-- an invocation is discarded
pub kill : tree_fault (function (i 248 (20 ∷ []) ∷ i 252 ([]) ∷ [])) ≡ None
unfolding entry_of class_of tree_fault block_end missing last_part labels_of switch_words
kill = refl

-- a loop in the first block, whose body goes to the continue target
pub loop-whole : tree_fault (function (i 248 (20 ∷ []) ∷ i 246 (30 ∷ 31 ∷ 0 ∷ []) ∷ i 249 (32 ∷ []) ∷ i 248 (32 ∷ []) ∷ i 250 (10 ∷ 33 ∷ 30 ∷ []) ∷ i 248 (33 ∷ []) ∷ i 249 (31 ∷ []) ∷ i 248 (31 ∷ []) ∷ i 249 (20 ∷ []) ∷ i 248 (30 ∷ []) ∷ i 253 ([]) ∷ [])) ≡ None
unfolding entry_of class_of tree_fault block_end missing last_part labels_of switch_words
loop-whole = refl

-- or to the merge block
pub loop-left : tree_fault (function (i 248 (20 ∷ []) ∷ i 246 (30 ∷ 31 ∷ 0 ∷ []) ∷ i 249 (32 ∷ []) ∷ i 248 (32 ∷ []) ∷ i 250 (10 ∷ 33 ∷ 30 ∷ []) ∷ i 248 (33 ∷ []) ∷ i 249 (30 ∷ []) ∷ i 248 (31 ∷ []) ∷ i 249 (20 ∷ []) ∷ i 248 (30 ∷ []) ∷ i 253 ([]) ∷ [])) ≡ None
unfolding entry_of class_of tree_fault block_end missing last_part labels_of switch_words
loop-left = refl

-- a body goes to the header
pub loop-body_to_header : tree_fault (function (i 248 (20 ∷ []) ∷ i 246 (30 ∷ 31 ∷ 0 ∷ []) ∷ i 249 (32 ∷ []) ∷ i 248 (32 ∷ []) ∷ i 250 (10 ∷ 33 ∷ 30 ∷ []) ∷ i 248 (33 ∷ []) ∷ i 249 (20 ∷ []) ∷ i 248 (31 ∷ []) ∷ i 249 (20 ∷ []) ∷ i 248 (30 ∷ []) ∷ i 253 ([]) ∷ [])) ≡ Some (BadExit 9)
unfolding entry_of class_of tree_fault block_end missing last_part labels_of switch_words
loop-body_to_header = refl

-- a body goes to its own label
pub loop-body_to_itself : tree_fault (function (i 248 (20 ∷ []) ∷ i 246 (30 ∷ 31 ∷ 0 ∷ []) ∷ i 249 (32 ∷ []) ∷ i 248 (32 ∷ []) ∷ i 250 (10 ∷ 33 ∷ 30 ∷ []) ∷ i 248 (33 ∷ []) ∷ i 249 (33 ∷ []) ∷ i 248 (31 ∷ []) ∷ i 249 (20 ∷ []) ∷ i 248 (30 ∷ []) ∷ i 253 ([]) ∷ [])) ≡ Some (BadExit 9)
unfolding entry_of class_of tree_fault block_end missing last_part labels_of switch_words
loop-body_to_itself = refl

-- a continue sequence goes to the merge block
pub loop-continue_to_merge : tree_fault (function (i 248 (20 ∷ []) ∷ i 246 (30 ∷ 31 ∷ 0 ∷ []) ∷ i 249 (32 ∷ []) ∷ i 248 (32 ∷ []) ∷ i 250 (10 ∷ 33 ∷ 30 ∷ []) ∷ i 248 (33 ∷ []) ∷ i 249 (31 ∷ []) ∷ i 248 (31 ∷ []) ∷ i 249 (30 ∷ []) ∷ i 248 (30 ∷ []) ∷ i 253 ([]) ∷ [])) ≡ Some (BadExit 13)
unfolding entry_of class_of tree_fault block_end missing last_part labels_of switch_words
loop-continue_to_merge = refl

-- a continue sequence goes to the continue target
pub loop-continue_continues : tree_fault (function (i 248 (20 ∷ []) ∷ i 246 (30 ∷ 31 ∷ 0 ∷ []) ∷ i 249 (32 ∷ []) ∷ i 248 (32 ∷ []) ∷ i 250 (10 ∷ 33 ∷ 30 ∷ []) ∷ i 248 (33 ∷ []) ∷ i 249 (31 ∷ []) ∷ i 248 (31 ∷ []) ∷ i 249 (31 ∷ []) ∷ i 248 (30 ∷ []) ∷ i 253 ([]) ∷ [])) ≡ Some (BadExit 11)
unfolding entry_of class_of tree_fault block_end missing last_part labels_of switch_words
loop-continue_continues = refl

-- an invocation returns in a condition sequence
pub loop-return_in_condition : tree_fault (function (i 248 (20 ∷ []) ∷ i 246 (30 ∷ 31 ∷ 0 ∷ []) ∷ i 249 (32 ∷ []) ∷ i 248 (32 ∷ []) ∷ i 253 ([]) ∷ i 248 (33 ∷ []) ∷ i 249 (31 ∷ []) ∷ i 248 (31 ∷ []) ∷ i 249 (20 ∷ []) ∷ i 248 (30 ∷ []) ∷ i 253 ([]) ∷ [])) ≡ Some (BadExit 7)
unfolding entry_of class_of tree_fault block_end missing last_part labels_of switch_words
loop-return_in_condition = refl

-- or is discarded there
pub loop-kill_in_condition : tree_fault (function (i 248 (20 ∷ []) ∷ i 246 (30 ∷ 31 ∷ 0 ∷ []) ∷ i 249 (32 ∷ []) ∷ i 248 (32 ∷ []) ∷ i 252 ([]) ∷ i 248 (33 ∷ []) ∷ i 249 (31 ∷ []) ∷ i 248 (31 ∷ []) ∷ i 249 (20 ∷ []) ∷ i 248 (30 ∷ []) ∷ i 253 ([]) ∷ [])) ≡ Some (BadExit 7)
unfolding entry_of class_of tree_fault block_end missing last_part labels_of switch_words
loop-kill_in_condition = refl

-- an invocation returns in a continue sequence
pub loop-return_in_continue : tree_fault (function (i 248 (20 ∷ []) ∷ i 246 (30 ∷ 31 ∷ 0 ∷ []) ∷ i 249 (32 ∷ []) ∷ i 248 (32 ∷ []) ∷ i 250 (10 ∷ 33 ∷ 30 ∷ []) ∷ i 248 (33 ∷ []) ∷ i 249 (31 ∷ []) ∷ i 248 (31 ∷ []) ∷ i 253 ([]) ∷ i 248 (30 ∷ []) ∷ i 253 ([]) ∷ [])) ≡ Some (BadExit 11)
unfolding entry_of class_of tree_fault block_end missing last_part labels_of switch_words
loop-return_in_continue = refl

-- or is discarded there
pub loop-kill_in_continue : tree_fault (function (i 248 (20 ∷ []) ∷ i 246 (30 ∷ 31 ∷ 0 ∷ []) ∷ i 249 (32 ∷ []) ∷ i 248 (32 ∷ []) ∷ i 250 (10 ∷ 33 ∷ 30 ∷ []) ∷ i 248 (33 ∷ []) ∷ i 249 (31 ∷ []) ∷ i 248 (31 ∷ []) ∷ i 252 ([]) ∷ i 248 (30 ∷ []) ∷ i 253 ([]) ∷ [])) ≡ Some (BadExit 11)
unfolding entry_of class_of tree_fault block_end missing last_part labels_of switch_words
loop-kill_in_continue = refl

-- a loop in a condition sequence
pub loop-in_condition : tree_fault (function (i 248 (20 ∷ []) ∷ i 246 (30 ∷ 31 ∷ 0 ∷ []) ∷ i 249 (32 ∷ []) ∷ i 248 (32 ∷ []) ∷ i 246 (40 ∷ 41 ∷ 0 ∷ []) ∷ i 249 (42 ∷ []) ∷ i 248 (42 ∷ []) ∷ [])) ≡ Some (BadMerge 7)
unfolding entry_of class_of tree_fault block_end missing last_part labels_of switch_words
loop-in_condition = refl

-- a condition sequence ends with one target twice
pub loop-test_twice : tree_fault (function (i 248 (20 ∷ []) ∷ i 246 (30 ∷ 31 ∷ 0 ∷ []) ∷ i 249 (32 ∷ []) ∷ i 248 (32 ∷ []) ∷ i 250 (10 ∷ 30 ∷ 30 ∷ []) ∷ i 248 (33 ∷ []) ∷ i 249 (31 ∷ []) ∷ i 248 (31 ∷ []) ∷ i 249 (20 ∷ []) ∷ i 248 (30 ∷ []) ∷ i 253 ([]) ∷ [])) ≡ Some (BadMerge 7)
unfolding entry_of class_of tree_fault block_end missing last_part labels_of switch_words
loop-test_twice = refl

-- a condition sequence ends with no way to the merge block
pub loop-no_test : tree_fault (function (i 248 (20 ∷ []) ∷ i 246 (30 ∷ 31 ∷ 0 ∷ []) ∷ i 249 (32 ∷ []) ∷ i 248 (32 ∷ []) ∷ i 250 (10 ∷ 33 ∷ 34 ∷ []) ∷ i 248 (33 ∷ []) ∷ i 249 (31 ∷ []) ∷ i 248 (31 ∷ []) ∷ i 249 (20 ∷ []) ∷ i 248 (30 ∷ []) ∷ i 253 ([]) ∷ [])) ≡ Some (BadMerge 7)
unfolding entry_of class_of tree_fault block_end missing last_part labels_of switch_words
loop-no_test = refl

-- a variable in a later block
pub variable-later : tree_fault (function (i 248 (20 ∷ []) ∷ i 249 (21 ∷ []) ∷ i 248 (21 ∷ []) ∷ i 59 (4 ∷ 90 ∷ 7 ∷ []) ∷ i 253 ([]) ∷ [])) ≡ Some (BadBlock 6)
unfolding entry_of class_of tree_fault block_end missing last_part labels_of switch_words
variable-later = refl

-- a variable behind another instruction
pub variable-behind_another : tree_fault (function (i 248 (20 ∷ []) ∷ i 128 (3 ∷ 61 ∷ 6 ∷ 6 ∷ []) ∷ i 59 (4 ∷ 90 ∷ 7 ∷ []) ∷ i 253 ([]) ∷ [])) ≡ Some (BadBlock 5)
unfolding entry_of class_of tree_fault block_end missing last_part labels_of switch_words
variable-behind_another = refl

-- a phi in the first block
pub phi-first_block : tree_fault (function (i 248 (20 ∷ []) ∷ i 245 (3 ∷ 60 ∷ []) ∷ i 253 ([]) ∷ [])) ≡ Some (BadBlock 4)
unfolding entry_of class_of tree_fault block_end missing last_part labels_of switch_words
phi-first_block = refl

-- a phi in a block that is no header and no merge block
pub phi-next_block : tree_fault (function (i 248 (20 ∷ []) ∷ i 249 (21 ∷ []) ∷ i 248 (21 ∷ []) ∷ i 245 (3 ∷ 60 ∷ []) ∷ i 253 ([]) ∷ [])) ≡ Some (BadBlock 6)
unfolding entry_of class_of tree_fault block_end missing last_part labels_of switch_words
phi-next_block = refl

-- a phi in the first block of an arm
pub phi-arm : tree_fault (function (i 248 (20 ∷ []) ∷ i 247 (21 ∷ 0 ∷ []) ∷ i 250 (10 ∷ 22 ∷ 21 ∷ []) ∷ i 248 (22 ∷ []) ∷ i 245 (3 ∷ 60 ∷ []) ∷ i 249 (21 ∷ []) ∷ i 248 (21 ∷ []) ∷ i 253 ([]) ∷ [])) ≡ Some (BadBlock 7)
unfolding entry_of class_of tree_fault block_end missing last_part labels_of switch_words
phi-arm = refl

-- phis in a merge block
pub phi-merge : tree_fault (function (i 248 (20 ∷ []) ∷ i 247 (21 ∷ 0 ∷ []) ∷ i 250 (10 ∷ 22 ∷ 21 ∷ []) ∷ i 248 (22 ∷ []) ∷ i 249 (21 ∷ []) ∷ i 248 (21 ∷ []) ∷ i 245 (3 ∷ 60 ∷ []) ∷ i 245 (3 ∷ 61 ∷ []) ∷ i 253 ([]) ∷ [])) ≡ None
unfolding entry_of class_of tree_fault block_end missing last_part labels_of switch_words
phi-merge = refl

-- a phi in a header
pub phi-header : tree_fault (function (i 248 (20 ∷ []) ∷ i 249 (21 ∷ []) ∷ i 248 (21 ∷ []) ∷ i 245 (3 ∷ 60 ∷ []) ∷ i 246 (30 ∷ 31 ∷ 0 ∷ []) ∷ i 249 (32 ∷ []) ∷ i 248 (32 ∷ []) ∷ i 250 (10 ∷ 33 ∷ 30 ∷ []) ∷ i 248 (33 ∷ []) ∷ i 249 (31 ∷ []) ∷ i 248 (31 ∷ []) ∷ i 249 (21 ∷ []) ∷ i 248 (30 ∷ []) ∷ i 253 ([]) ∷ [])) ≡ None
unfolding entry_of class_of tree_fault block_end missing last_part labels_of switch_words
phi-header = refl

-- a phi in a header that is the first block
pub phi-header_of_first_block : tree_fault (function (i 248 (20 ∷ []) ∷ i 245 (3 ∷ 60 ∷ []) ∷ i 246 (30 ∷ 31 ∷ 0 ∷ []) ∷ i 249 (32 ∷ []) ∷ [])) ≡ Some (BadBlock 4)
unfolding entry_of class_of tree_fault block_end missing last_part labels_of switch_words
phi-header_of_first_block = refl

-- a phi in a header that is another loop's merge block
pub phi-header_in_loop_merge : tree_fault (function (i 248 (20 ∷ []) ∷ i 246 (30 ∷ 31 ∷ 0 ∷ []) ∷ i 249 (32 ∷ []) ∷ i 248 (32 ∷ []) ∷ i 250 (10 ∷ 33 ∷ 30 ∷ []) ∷ i 248 (33 ∷ []) ∷ i 249 (31 ∷ []) ∷ i 248 (31 ∷ []) ∷ i 249 (20 ∷ []) ∷ i 248 (30 ∷ []) ∷ i 245 (3 ∷ 60 ∷ []) ∷ i 246 (40 ∷ 41 ∷ 0 ∷ []) ∷ i 249 (42 ∷ []) ∷ [])) ≡ Some (BadBlock 13)
unfolding entry_of class_of tree_fault block_end missing last_part labels_of switch_words
phi-header_in_loop_merge = refl

-- two equal targets that aren't the merge block
pub selection-same_target : tree_fault (function (i 248 (20 ∷ []) ∷ i 247 (21 ∷ 0 ∷ []) ∷ i 250 (10 ∷ 22 ∷ 22 ∷ []) ∷ i 248 (22 ∷ []) ∷ i 249 (21 ∷ []) ∷ i 248 (21 ∷ []) ∷ i 253 ([]) ∷ [])) ≡ Some (BadMerge 5)
unfolding entry_of class_of tree_fault block_end missing last_part labels_of switch_words
selection-same_target = refl

-- the arm for false stands first
pub selection-arms_exchanged : tree_fault (function (i 248 (20 ∷ []) ∷ i 247 (21 ∷ 0 ∷ []) ∷ i 250 (10 ∷ 22 ∷ 23 ∷ []) ∷ i 248 (23 ∷ []) ∷ i 249 (21 ∷ []) ∷ i 248 (22 ∷ []) ∷ i 249 (21 ∷ []) ∷ i 248 (21 ∷ []) ∷ i 253 ([]) ∷ [])) ≡ Some (BadMerge 6)
unfolding entry_of class_of tree_fault block_end missing last_part labels_of switch_words
selection-arms_exchanged = refl

-- a branch on a condition without a merge instruction
pub selection-without_merge : tree_fault (function (i 248 (20 ∷ []) ∷ i 250 (10 ∷ 22 ∷ 23 ∷ []) ∷ i 248 (22 ∷ []) ∷ i 253 ([]) ∷ [])) ≡ Some (BadMerge 4)
unfolding entry_of class_of tree_fault block_end missing last_part labels_of switch_words
selection-without_merge = refl

-- a merge instruction before another terminator
pub merge-before_return : tree_fault (function (i 248 (20 ∷ []) ∷ i 247 (21 ∷ 0 ∷ []) ∷ i 253 ([]) ∷ [])) ≡ Some (BadMerge 4)
unfolding entry_of class_of tree_fault block_end missing last_part labels_of switch_words
merge-before_return = refl

-- a merge instruction before no terminator
pub merge-before_nothing : tree_fault (function (i 248 (20 ∷ []) ∷ i 247 (21 ∷ 0 ∷ []) ∷ i 128 (3 ∷ 61 ∷ 6 ∷ 6 ∷ []) ∷ i 253 ([]) ∷ [])) ≡ Some (BadBlock 5)
unfolding entry_of class_of tree_fault block_end missing last_part labels_of switch_words
merge-before_nothing = refl

-- the arms of an OpSwitch
pub switch-arms : tree_fault (function (i 248 (20 ∷ []) ∷ i 247 (21 ∷ 0 ∷ []) ∷ i 251 (6 ∷ 22 ∷ 1 ∷ 23 ∷ []) ∷ i 248 (22 ∷ []) ∷ i 249 (21 ∷ []) ∷ i 248 (23 ∷ []) ∷ i 249 (21 ∷ []) ∷ i 248 (21 ∷ []) ∷ i 253 ([]) ∷ [])) ≡ None
unfolding entry_of class_of tree_fault block_end missing last_part labels_of switch_words
switch-arms = refl

-- in another order
pub switch-other_order : tree_fault (function (i 248 (20 ∷ []) ∷ i 247 (21 ∷ 0 ∷ []) ∷ i 251 (6 ∷ 22 ∷ 1 ∷ 23 ∷ []) ∷ i 248 (23 ∷ []) ∷ i 249 (21 ∷ []) ∷ i 248 (22 ∷ []) ∷ i 249 (21 ∷ []) ∷ i 248 (21 ∷ []) ∷ i 253 ([]) ∷ [])) ≡ None
unfolding entry_of class_of tree_fault block_end missing last_part labels_of switch_words
switch-other_order = refl

-- one arm falls through into the other
pub switch-falls_through : tree_fault (function (i 248 (20 ∷ []) ∷ i 247 (21 ∷ 0 ∷ []) ∷ i 251 (6 ∷ 22 ∷ 1 ∷ 23 ∷ []) ∷ i 248 (22 ∷ []) ∷ i 249 (23 ∷ []) ∷ i 248 (23 ∷ []) ∷ i 249 (21 ∷ []) ∷ i 248 (21 ∷ []) ∷ i 253 ([]) ∷ [])) ≡ Some (BadExit 7)
unfolding entry_of class_of tree_fault block_end missing last_part labels_of switch_words
switch-falls_through = refl

-- a selection in an arm goes to another arm
pub switch-barred_deeper : tree_fault (function (i 248 (20 ∷ []) ∷ i 247 (21 ∷ 0 ∷ []) ∷ i 251 (6 ∷ 22 ∷ 1 ∷ 23 ∷ []) ∷ i 248 (22 ∷ []) ∷ i 247 (30 ∷ 0 ∷ []) ∷ i 250 (10 ∷ 31 ∷ 30 ∷ []) ∷ i 248 (31 ∷ []) ∷ i 249 (23 ∷ []) ∷ i 248 (23 ∷ []) ∷ i 249 (21 ∷ []) ∷ i 248 (21 ∷ []) ∷ i 253 ([]) ∷ [])) ≡ Some (BadExit 10)
unfolding entry_of class_of tree_fault block_end missing last_part labels_of switch_words
switch-barred_deeper = refl

-- a loop in an arm begins with another arm
pub switch-barred_behind_loop : tree_fault (function (i 248 (20 ∷ []) ∷ i 247 (21 ∷ 0 ∷ []) ∷ i 251 (6 ∷ 22 ∷ 1 ∷ 23 ∷ []) ∷ i 248 (22 ∷ []) ∷ i 246 (31 ∷ 32 ∷ 0 ∷ []) ∷ i 249 (23 ∷ []) ∷ i 248 (21 ∷ []) ∷ i 253 ([]) ∷ [])) ≡ Some (BadExit 8)
unfolding entry_of class_of tree_fault block_end missing last_part labels_of switch_words
switch-barred_behind_loop = refl

-- a selection in an arm leaves to the merge block
pub switch-left_from_selection : tree_fault (function (i 248 (20 ∷ []) ∷ i 247 (21 ∷ 0 ∷ []) ∷ i 251 (6 ∷ 22 ∷ 1 ∷ 23 ∷ []) ∷ i 248 (22 ∷ []) ∷ i 247 (30 ∷ 0 ∷ []) ∷ i 250 (10 ∷ 31 ∷ 30 ∷ []) ∷ i 248 (31 ∷ []) ∷ i 249 (21 ∷ []) ∷ i 248 (30 ∷ []) ∷ i 249 (21 ∷ []) ∷ i 248 (23 ∷ []) ∷ i 249 (21 ∷ []) ∷ i 248 (21 ∷ []) ∷ i 253 ([]) ∷ [])) ≡ None
unfolding entry_of class_of tree_fault block_end missing last_part labels_of switch_words
switch-left_from_selection = refl

-- a loop in an arm doesn't
pub switch-left_from_loop : tree_fault (function (i 248 (20 ∷ []) ∷ i 247 (21 ∷ 0 ∷ []) ∷ i 251 (6 ∷ 22 ∷ 1 ∷ 23 ∷ []) ∷ i 248 (22 ∷ []) ∷ i 246 (31 ∷ 32 ∷ 0 ∷ []) ∷ i 249 (33 ∷ []) ∷ i 248 (33 ∷ []) ∷ i 250 (10 ∷ 34 ∷ 31 ∷ []) ∷ i 248 (34 ∷ []) ∷ i 249 (21 ∷ []) ∷ i 248 (21 ∷ []) ∷ i 253 ([]) ∷ [])) ≡ Some (BadMerge 15)
unfolding entry_of class_of tree_fault block_end missing last_part labels_of switch_words
switch-left_from_loop = refl

-- an OpSwitch in an arm doesn't
pub switch-left_from_switch : tree_fault (function (i 248 (20 ∷ []) ∷ i 247 (21 ∷ 0 ∷ []) ∷ i 251 (6 ∷ 22 ∷ 1 ∷ 23 ∷ []) ∷ i 248 (22 ∷ []) ∷ i 247 (30 ∷ 0 ∷ []) ∷ i 251 (6 ∷ 31 ∷ 1 ∷ 30 ∷ []) ∷ i 248 (31 ∷ []) ∷ i 249 (21 ∷ []) ∷ i 248 (21 ∷ []) ∷ i 253 ([]) ∷ [])) ≡ Some (BadMerge 13)
unfolding entry_of class_of tree_fault block_end missing last_part labels_of switch_words
switch-left_from_switch = refl

-- two equal literals
pub switch-equal_literals : tree_fault (function (i 248 (20 ∷ []) ∷ i 247 (21 ∷ 0 ∷ []) ∷ i 251 (6 ∷ 22 ∷ 1 ∷ 23 ∷ 1 ∷ 23 ∷ []) ∷ i 248 (22 ∷ []) ∷ i 249 (21 ∷ []) ∷ i 248 (23 ∷ []) ∷ i 249 (21 ∷ []) ∷ i 248 (21 ∷ []) ∷ i 253 ([]) ∷ [])) ≡ Some (BadMerge 5)
unfolding entry_of class_of tree_fault block_end missing last_part labels_of switch_words
switch-equal_literals = refl

-- an OpSwitch without a merge instruction
pub switch-without_merge : tree_fault (function (i 248 (20 ∷ []) ∷ i 251 (6 ∷ 22 ∷ 1 ∷ 23 ∷ []) ∷ i 248 (22 ∷ []) ∷ i 253 ([]) ∷ [])) ≡ Some (BadMerge 4)
unfolding entry_of class_of tree_fault block_end missing last_part labels_of switch_words
switch-without_merge = refl

-- an arm isn't there
pub switch-arm_missing : tree_fault (function (i 248 (20 ∷ []) ∷ i 247 (21 ∷ 0 ∷ []) ∷ i 251 (6 ∷ 22 ∷ 1 ∷ 23 ∷ []) ∷ i 248 (22 ∷ []) ∷ i 249 (21 ∷ []) ∷ i 248 (21 ∷ []) ∷ i 253 ([]) ∷ [])) ≡ Some (BadMerge 8)
unfolding entry_of class_of tree_fault block_end missing last_part labels_of switch_words
switch-arm_missing = refl

-- a label that stands twice
pub label-twice : tree_fault (function (i 248 (20 ∷ []) ∷ i 249 (20 ∷ []) ∷ i 248 (20 ∷ []) ∷ i 253 ([]) ∷ [])) ≡ Some (BadBlock 5)
unfolding entry_of class_of tree_fault block_end missing last_part labels_of switch_words
label-twice = refl

-- a branch to a label that doesn't stand next
pub exit-nowhere : tree_fault (function (i 248 (20 ∷ []) ∷ i 249 (22 ∷ []) ∷ i 248 (21 ∷ []) ∷ i 253 ([]) ∷ [])) ≡ Some (BadExit 4)
unfolding entry_of class_of tree_fault block_end missing last_part labels_of switch_words
exit-nowhere = refl

-- a block behind the function's sequence
pub behind_sequence : tree_fault (function (i 248 (20 ∷ []) ∷ i 253 ([]) ∷ i 248 (21 ∷ []) ∷ i 253 ([]) ∷ [])) ≡ Some (BadBlock 5)
unfolding entry_of class_of tree_fault block_end missing last_part labels_of switch_words
behind_sequence = refl

-- something stands behind OpFunctionEnd
pub behind_end : tree_fault (function (i LABEL (20 ∷ []) ∷ i RETURN [] ∷ []) ++ i TYPE_VOID (9 ∷ []) ∷ []) ≡ Some (BadBlock 6)
unfolding entry_of class_of tree_fault block_end missing last_part labels_of switch_words
behind_end = refl

-- no OpFunction
pub no_function : tree_fault (i TYPE_VOID (1 ∷ []) ∷ []) ≡ Some (BadBlock 1)
unfolding entry_of class_of tree_fault block_end missing last_part labels_of switch_words
no_function = refl

-- ---- depth

abbrev label : ℕ → Inst
label id = i LABEL (id ∷ [])

abbrev branch : ℕ → Inst
branch target = i BRANCH (target ∷ [])

-- so many selections, each in the other's arm, around a last block with this terminator
abbrev selections : ℕ → ℕ → Inst → List Inst
selections zero id exit = label id ∷ exit ∷ []
selections (suc n) id exit =
    label id ∷ i SELECTION_MERGE ((id + 1) ∷ 0 ∷ []) ∷ i BRANCH_CONDITIONAL (4 ∷ (id + 2) ∷ (id + 1) ∷ [])
    ∷ (selections n (id + 2) (branch (id + 1)) ++ (label (id + 1) ∷ exit ∷ []))

-- so many loops, each in the other's body
abbrev loops : ℕ → ℕ → Inst → List Inst
loops zero id exit = label id ∷ exit ∷ []
loops (suc n) id exit =
    label id ∷ i LOOP_MERGE ((id + 1) ∷ (id + 2) ∷ 0 ∷ []) ∷ branch (id + 3) ∷ label (id + 3) ∷ i BRANCH_CONDITIONAL (4 ∷ (id + 4) ∷ (id + 1) ∷ [])
    ∷ (loops n (id + 4) (branch (id + 2)) ++ (label (id + 2) ∷ branch id ∷ label (id + 1) ∷ exit ∷ []))

-- a selection in a loop, so many times
abbrev both : ℕ → ℕ → Inst → List Inst
both zero id exit = label id ∷ exit ∷ []
both (suc n) id exit =
    label id ∷ i LOOP_MERGE ((id + 1) ∷ (id + 2) ∷ 0 ∷ []) ∷ branch (id + 3) ∷ label (id + 3) ∷ i BRANCH_CONDITIONAL (4 ∷ (id + 4) ∷ (id + 1) ∷ [])
    ∷ label (id + 4) ∷ i SELECTION_MERGE ((id + 5) ∷ 0 ∷ []) ∷ i BRANCH_CONDITIONAL (4 ∷ (id + 6) ∷ (id + 5) ∷ [])
    ∷ (both n (id + 6) (branch (id + 5)) ++ (label (id + 5) ∷ branch (id + 2) ∷ label (id + 2) ∷ branch id ∷ label (id + 1) ∷ exit ∷ []))

pub selections-64 : tree_fault (function (selections 64 20 (i RETURN []))) ≡ None
unfolding entry_of class_of tree_fault block_end missing last_part labels_of switch_words
selections-64 = refl

-- the 65th merge instruction
pub selections-65 : tree_fault (function (selections 65 20 (i RETURN []))) ≡ Some (TooDeep 196)
unfolding entry_of class_of tree_fault block_end missing last_part labels_of switch_words
selections-65 = refl

pub loops-64 : tree_fault (function (loops 64 20 (i RETURN []))) ≡ None
unfolding entry_of class_of tree_fault block_end missing last_part labels_of switch_words
loops-64 = refl

pub loops-65 : tree_fault (function (loops 65 20 (i RETURN []))) ≡ Some (TooDeep 324)
unfolding entry_of class_of tree_fault block_end missing last_part labels_of switch_words
loops-65 = refl

pub both-64 : tree_fault (function (both 32 20 (i RETURN []))) ≡ None
unfolding entry_of class_of tree_fault block_end missing last_part labels_of switch_words
both-64 = refl

pub both-66 : tree_fault (function (both 33 20 (i RETURN []))) ≡ Some (TooDeep 260)
unfolding entry_of class_of tree_fault block_end missing last_part labels_of switch_words
both-66 = refl

-- the 65th merge instruction, whatever stands behind it
pub selections-65_open : tree_fault (function (selections 64 20 (i SELECTION_MERGE (900 ∷ 0 ∷ [])))) ≡ Some (BadBlock 325)
unfolding entry_of class_of tree_fault block_end missing last_part labels_of switch_words
selections-65_open = refl
