use Rattle.std.proofs.Common.{◌∙◌, [], ◌∷◌, ◌++◌, List, ℕ, ap, arith, inl, sym}
use Rattle.inst_table.proofs.Follows.{rights}
use Rattle.inst_table.proofs.Publishing.{still_known, learns_two, reading_start, reading_on, reading_more}
use Rattle.inst_table.proofs.table.Table.read_whole.Goals as goal

pub read_record-second-requires-clause-known : goal.read_record-second-requires-clause-known
read_record-second-requires-clause-known g c κs within =
    still_known c.args.seat.now.me c.read_record-first.new.seat.me _ c.args.address.unit c.args.address.word c.read_record-first.ensures.view c.requires.known

pub returns-in_err-words-clause-learns : goal.returns-in_err-words-clause-learns
returns-in_err-words-clause-learns g c = (learns_two c.args.seat.now.me c.read_record-first.new.seat.me c.read_record-second.new.seat.me _ _ c.read_record-first.ensures.view c.read_record-second.ensures.view).0

pub returns-in_err-words-clause-rights : goal.returns-in_err-words-clause-rights
returns-in_err-words-clause-rights g c = (learns_two c.args.seat.now.me c.read_record-first.new.seat.me c.read_record-second.new.seat.me _ _ c.read_record-first.ensures.view c.read_record-second.ensures.view).1

pub loop-at-init : goal.loop-at-init
loop-at-init g c = let one = c.read_record-first.ensures in let two = c.read_record-second.ensures in let made = c.in_ok-words.ensures in
    let items = c.push_reserved-2.ensures.items ∙ ap (λ (ws : List ℕ). ws ++ c.read_record-second.result ∷ []) (c.push_reserved.ensures.items ∙ ap (λ (ws : List ℕ). ws ++ c.read_record-first.result ∷ []) made.items) in record {
      table = two.table ∙ one.table;
      rights = rights c.read_record-first.new.seat.me c.read_record-second.new.seat.me _ two.view ∙ rights c.args.seat.now.me c.read_record-first.new.seat.me _ one.view;
      reading = reading_start (g.F.Fit.fits c.args.self.now.words.shared.key.fit) c.args.self.now.words.shared.key.numbers c.args.address.unit c.args.address.word c.args.seat.now.me c.read_record-first.new.seat.me c.read_record-second.new.seat.me
          c.read_record-first.result c.read_record-second.result c.push_reserved-2.new.self.items one.view two.view two.fits items;
      long = let e = ap Rattle.std.proofs.Common.length items in omega arith;
      counted = omega (arith, c.push_reserved-2.ensures.len, c.push_reserved.ensures.len, made.len);
      room = omega (arith, c.push_reserved-2.ensures.capacity, c.push_reserved.ensures.capacity, made.exact);
      end = omega arith;
    }

pub read_record-requires-clause-known : goal.read_record-requires-clause-known
read_record-requires-clause-known g c κs within = let i = c.loop-at.invariant in
    (reading_on _ _ c.args.address.unit c.args.address.word c.args.seat.now.me.0 c.loop-at.seat.me.0 c.read_record-first.result c.read_record-second.result c.loop-at.at c.loop-at.words.items i.reading c.requires.known (omega arith)).0

pub read_record-requires-clause-inside : goal.read_record-requires-clause-inside
read_record-requires-clause-inside g c κs within = let i = c.loop-at.invariant in
    (reading_on _ _ c.args.address.unit c.args.address.word c.args.seat.now.me.0 c.loop-at.seat.me.0 c.read_record-first.result c.read_record-second.result c.loop-at.at c.loop-at.words.items i.reading c.requires.known (omega arith)).1

pub loop-at-preserved : goal.loop-at-preserved
loop-at-preserved g c = let i = c.loop-at.invariant in let more = c.read_record.ensures in let push = c.push_reserved-in-loop-at.ensures in record {
  table = more.table ∙ i.table;
  rights = rights c.loop-at.seat.me c.read_record.new.seat.me _ more.view ∙ i.rights;
  reading = reading_more _ _ c.args.address.unit c.args.address.word c.args.seat.now.me.0 c.loop-at.seat.me c.read_record.new.seat.me c.read_record-first.result c.read_record-second.result c.loop-at.at c.read_record.result
      c.loop-at.words.items c.push_reserved-in-loop-at.new.self.items i.reading i.long more.view more.fits push.items;
  long = let e = ap Rattle.std.proofs.Common.length push.items in let p = Rattle.inst_table.proofs.Lists.length-push c.loop-at.words.items c.read_record.result in omega (arith, i.long);
  counted = omega (arith, push.len, i.counted);
  room = push.capacity ∙ i.room;
  end = i.end;
}

pub returns-clause-learns : goal.returns-clause-learns
returns-clause-learns g c = c.loop-at.invariant.reading.learns

pub returns-clause-rights : goal.returns-clause-rights
returns-clause-rights g c = c.loop-at.invariant.rights
