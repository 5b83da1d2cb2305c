use Rattle.std.proofs.Common.{◌-◌, ◌*◌, length}
use Rattle.limits.specs.declared.TheConstants.{NESTING}
use Rattle.spv_tree.specs.Barred.{scope_in}
use Rattle.spv_tree.proofs.ArmNumbers.{ArmsSoFar}
use Rattle.spv_tree.proofs.Fronts.{Front}
use Rattle.spv_tree.proofs.sequence.+sequences.Given as goal

-- the selections, OpSwitches and loops that may still open, four calls each
abbrev pub decreases-sequence : goal.decreases-sequence
decreases-sequence l = 4 * (NESTING - l.scope.depth)

abbrev pub decreases-selection : goal.decreases-selection
decreases-selection l = 4 * (NESTING - l.scope.depth) - 1

abbrev pub decreases-arm : goal.decreases-arm
decreases-arm l = 4 * (NESTING - l.scope.depth) - 2

abbrev pub decreases-switch : goal.decreases-switch
decreases-switch l = 4 * (NESTING - l.scope.depth) - 1

abbrev pub decreases-switch_arms : goal.decreases-switch_arms
decreases-switch_arms l = 4 * (NESTING - l.scope.depth) - 2

abbrev pub decreases-switch_arm : goal.decreases-switch_arm
decreases-switch_arm l = 4 * (NESTING - l.scope.depth) - 3

abbrev pub decreases-round : goal.decreases-round
decreases-round l = 4 * (NESTING - l.scope.depth) - 1

abbrev pub invariant-sequence-loop-nodes : goal.invariant-sequence-loop-nodes
invariant-sequence-loop-nodes l = Front l.insts (scope_in l.insts l.arms l.fn.scope) l.fn.wanted l.fn.place l.nodes (scope_in l.insts l.arms l.scope) l.wanted l.place

abbrev pub decreases-sequence-loop-nodes : goal.decreases-sequence-loop-nodes
decreases-sequence-loop-nodes l = length l.insts - l.place

abbrev pub invariant-switch_arms-loop-alloc : goal.invariant-switch_arms-loop-alloc
invariant-switch_arms-loop-alloc l = ArmsSoFar l.insts (scope_in l.insts l.arms l.scope) l.head l.left l.runs l.numbers l.place

abbrev pub decreases-switch_arms-loop-alloc : goal.decreases-switch_arms-loop-alloc
decreases-switch_arms-loop-alloc l = length l.insts - l.place
