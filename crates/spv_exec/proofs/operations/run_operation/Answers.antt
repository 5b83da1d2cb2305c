use Rattle.spv_exec.proofs.ComponentResults.{room_here}
use Rattle.spv_exec.proofs.operations.run_operation.Goals as goal

pub inst-requires : goal.inst-requires
inst-requires c = (room_here c.args.of.now c.module-module.ensures.valid c.args.frame.now c.requires.gives.held c.args.place c.requires.gives.value c.requires.is c.requires.gives.gives).within
