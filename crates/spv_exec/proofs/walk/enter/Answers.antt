use Rattle.std.proofs.Common.{arith}
use Rattle.spv_exec.proofs.walk.enter.Goals as goal

pub overflow_add-first : goal.overflow_add-first
overflow_add-first c = omega (arith, c.requires.within, c.requires.few)
