use Rattle.spv_check.proofs.FaultsTold.{of_sound}
use Rattle.spv_check.proofs.checks.sound_ids.Goals as goal

pub returns-in-Err : goal.returns-in-Err
returns-in-Err c = of_sound c.args.words.now c.ids_of.result c.in-Err.fault c.ids_fault.result c.requires.derived c.ids_of.ensures c.in-Err.is c.ids_fault.ensures
