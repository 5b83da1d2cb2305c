use Rattle.std.proofs.Common.{arith}
use Rattle.inst_table.proofs.Sharing.{takes_in, knows_both}
use Rattle.inst_table.proofs.pass.Pass.join.Goals as goal

pub join_seat-requires : goal.join_seat-requires
join_seat-requires g c = (c.requires.0, c.requires.1, c.args.other.bare, omega (arith, c.args.table.now.sized), takes_in _ _ _ _ _ _ _)

pub returns-clause-knows : goal.returns-clause-knows
returns-clause-knows g c = (knows_both c.args.self.now.seat.me c.join_seat.new.seat.me c.args.other.seat.me.0 c.join_seat.ensures.2).0

pub returns-clause-others : goal.returns-clause-others
returns-clause-others g c = (knows_both c.args.self.now.seat.me c.join_seat.new.seat.me c.args.other.seat.me.0 c.join_seat.ensures.2).1
