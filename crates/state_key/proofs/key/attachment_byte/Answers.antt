use Rattle.std.proofs.Common.{arith}
use Rattle.state_model.specs.Lawful.{IsAttachment}
use Rattle.state_key.proofs.Packing.{write_mask_small}
use Rattle.state_key.proofs.key.attachment_byte.Goals as goal

pub returns-in-Some-clause-bound : goal.returns-in-Some-clause-bound
returns-in-Some-clause-bound c =
    let lawful : IsAttachment c.in-Some.a = rw c.in-Some.is at c.requires in
    let small = write_mask_small c.in-Some.a lawful in
    omega (arith, lawful.last_format)
