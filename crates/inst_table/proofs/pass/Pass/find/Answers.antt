use Rattle.std.proofs.Common.{ℕ, ap, ◌∙◌, arith}
use Rattle.atomic_table.specs.Table.{Me}
use Rattle.inst_table.specs.declared.view.View.{View}
use Rattle.inst_table.proofs.Follows.{finds, never}
use Rattle.inst_table.proofs.pass.Pass.find.Goals as goal

pub returns-in-Some-clause-chain : goal.returns-in-Some-clause-chain
returns-in-Some-clause-chain g c = (finds c.args.self.now.seat.me c.count-count.new.seat.me c.follow.new.seat.me c.args.key.now c.count-count.result c.count-count.ensures.view c.count-count.ensures.later c.follow.ensures.follows).0

pub returns-in-Some-clause-knows : goal.returns-in-Some-clause-knows
returns-in-Some-clause-knows g c = (finds c.args.self.now.seat.me c.count-count.new.seat.me c.follow.new.seat.me c.args.key.now c.count-count.result c.count-count.ensures.view c.count-count.ensures.later c.follow.ensures.follows).1

pub returns-in-None-clause-miss : goal.returns-in-None-clause-miss
returns-in-None-clause-miss g c = let seen = c.count-count.ensures in let ends = c.in-None.ensures.answer in record {
  seen = ap (λ (v : View). v.seen) c.follow.ensures.follows.rest ∙ ap (λ (m : Me ℕ View). m.0.seen) seen.view;
  later = seen.later;
  inside = seen.inside;
  absent = ends.0;
  never_known = never c.args.self.now.seat.me c.count-count.new.seat.me c.args.key.now c.count-count.result seen.view ends.1;
}

pub returns-in-Some-clause-hit : goal.returns-in-Some-clause-hit
returns-in-Some-clause-hit g c = let found = c.in-Some.ensures.answer in record { inside = omega (arith, found.0, c.count-count.ensures.inside); known = found.1 }

pub returns-in-None-clause-chain : goal.returns-in-None-clause-chain
returns-in-None-clause-chain g c = (finds c.args.self.now.seat.me c.count-count.new.seat.me c.follow.new.seat.me c.args.key.now c.count-count.result c.count-count.ensures.view c.count-count.ensures.later c.follow.ensures.follows).0

pub returns-in-None-clause-knows : goal.returns-in-None-clause-knows
returns-in-None-clause-knows g c = (finds c.args.self.now.seat.me c.count-count.new.seat.me c.follow.new.seat.me c.args.key.now c.count-count.result c.count-count.ensures.view c.count-count.ensures.later c.follow.ensures.follows).1
