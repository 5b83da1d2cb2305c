use Rattle.spv_check.proofs.FaultsTold.{of_read, writable_read, few_listed}
use Rattle.spv_check.proofs.checks.list_of.Goals as goal

pub returns-in-Ok-clause-few : goal.returns-in-Ok-clause-few
returns-in-Ok-clause-few c = few_listed c.in-Ok.read (writable_read c.args.words.now c.read_module.result c.in-Ok.read c.read_module.ensures.gives c.in-Ok.is)

pub returns-in-Ok-clause-writable : goal.returns-in-Ok-clause-writable
returns-in-Ok-clause-writable c = writable_read c.args.words.now c.read_module.result c.in-Ok.read c.read_module.ensures.gives c.in-Ok.is

pub returns-in-Err-clause-read : goal.returns-in-Err-clause-read
returns-in-Err-clause-read c = of_read c.args.words.now c.read_module.result c.in-Err.fault c.words_fault.result c.read_module.ensures.gives c.in-Err.is c.words_fault.ensures
