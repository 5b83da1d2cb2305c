use Rattle.spirv_model.specs.declared.module.Words.{Words}
use Rattle.state_model.specs.declared.parts.SpecValues.{SpecValues}
use Rattle.change_model.specs.Specialised.{CameOf}
use Rattle.change_model.proofs.FunctionFalls.{function_size}
use Rattle.spec_fold.proofs.specialiser.straightened.Given as goal

abbrev pub invariant-loop-now : goal.invariant-loop-now
invariant-loop-now l = (entries : SpecValues) (old : Words) → CameOf l.zeros entries l.fn.first old → CameOf l.zeros entries l.now old

abbrev pub decreases-loop-now : goal.decreases-loop-now
decreases-loop-now l = function_size l.now.insts
