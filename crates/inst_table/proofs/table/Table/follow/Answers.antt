use Rattle.std.proofs.Common.{ap, arith, ◌-◌, ◌∙◌}
use Rattle.inst_table.specs.declared.setup.Numbers.{Numbers}
use Rattle.inst_table.proofs.Follows.{arrives, rights, FollowsChain-none, FollowsChain-learn, KnowsNoRow-before}
use Rattle.inst_table.proofs.table.Table.follow.Goals as goal

pub loop-place-init : goal.loop-place-init
loop-place-init g c = let kept = ap (λ (n : Numbers). n.rows) c.args.self.now.numbers_kept in let view = c.head-place.ensures.view in
    let before = c.args.seat.now.me in
    let a = arrives before.0 before c.head-place.new.seat.me c.args.key.now _ c.args.count _ _ c.requires.key c.requires.below.0 view (FollowsChain-none before.0 c.args.key.now) in record {
      table = c.head-place.ensures.table;
      rights = rights before c.head-place.new.seat.me _ view;
      follows = a.follows;
      stands = a.stands;
      walked = a.walked;
      room = omega (arith, c.head-place.ensures.inside);
      ends = a.ends;
      misses = λ e. KnowsNoRow-before before.0 before.0 c.args.key.now _ c.requires.key (λ word h. h) (c.head-place.ensures.misses e);
    }

pub returns-then-is_found-clause-follows : goal.returns-then-is_found-clause-follows
returns-then-is_found-clause-follows g c = let i = c.loop-place.invariant in let l = c.is_found.ensures in
    FollowsChain-learn c.args.seat.now.me.0 c.loop-place.seat.me.0 c.is_found.new.seat.me.0 c.args.key.now (c.loop-place.place - 1) i.follows l.learns (i.walked (c.loop-place.place - 1) (omega arith))

pub returns-then-is_found-clause-rights : goal.returns-then-is_found-clause-rights
returns-then-is_found-clause-rights g c = c.is_found.ensures.rights ∙ c.loop-place.invariant.rights

pub loop-place-preserved : goal.loop-place-preserved
loop-place-preserved g c = let i = c.loop-place.invariant in let l = c.is_found.ensures in let view = c.next-place.ensures.view in
    let before = c.args.seat.now.me in
    let f = FollowsChain-learn before.0 c.loop-place.seat.me.0 c.is_found.new.seat.me.0 c.args.key.now (c.loop-place.place - 1) i.follows l.learns (i.walked (c.loop-place.place - 1) (omega arith)) in
    let a = arrives before.0 c.is_found.new.seat.me c.next-place.new.seat.me c.args.key.now _ c.args.count _ _ c.requires.key c.requires.below.0 view f in record {
      table = c.next-place.ensures.table ∙ c.is_found.ensures.table ∙ i.table;
      rights = rights c.is_found.new.seat.me c.next-place.new.seat.me _ view ∙ l.rights ∙ i.rights;
      follows = a.follows;
      stands = a.stands;
      walked = a.walked;
      room = omega (arith, c.next-place.ensures.below, i.room);
      ends = a.ends;
      misses = λ e. KnowsNoRow-before before.0 c.is_found.new.seat.me.0 c.args.key.now _ c.requires.key f.words (c.next-place.ensures.misses e);
    }
