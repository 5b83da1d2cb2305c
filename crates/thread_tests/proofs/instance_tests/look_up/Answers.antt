use Rattle.std.proofs.Common.{inr, arith}
use Rattle.inst_table.proofs.Follows.{KnowsRow-keeps}
use Rattle.thread_tests.proofs.instance_tests.look_up.Goals as goal

pub address-requires-clause-known : goal.address-requires-clause-known
address-requires-clause-known c κs = inr (c.in-Hit.row, c.args.key.now, omega (arith, c.args.table.now.words.shared.key.libraries), c.in-Hit.ensures.hit.known)

pub returns-in-Hit-clause-row : goal.returns-in-Hit-clause-row
returns-in-Hit-clause-row c = record { key = c.args.key.now; wide = c.told-key; known = KnowsRow-keeps c.find.new.self.seat.me.0 c.address.new.self.seat.me.0 c.in-Hit.row c.args.key.now c.address.ensures.knows.words c.in-Hit.ensures.hit.known }
