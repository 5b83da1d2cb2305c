use Rattle.std.proofs.Common.{◌≡◌, arith}
use Rattle.output_lib.proofs.logic.Goals as goal

pub returns-in_default : goal.returns-in_default
returns-in_default c = let last : c.args.op ≡ 15 = omega arith in rw last
