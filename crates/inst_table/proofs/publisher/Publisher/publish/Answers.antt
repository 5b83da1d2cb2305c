use Rattle.std.proofs.Common.{◌≡◌, ℕ, ◌+◌, ◌∙◌, ap, arith, refl, sym, subst, length}
use Rattle.atomic_table.specs.Table.{Me}
use Rattle.inst_table.specs.Units.{heap_of, address_of}
use Rattle.inst_table.specs.Passes.{MayPublish}
use Rattle.inst_table.specs.declared.setup.Numbers.{Numbers}
use Rattle.inst_table.specs.declared.view.View.{View}
use Rattle.inst_table.specs.declared.view.Units.{Units}
use Rattle.inst_table.proofs.Publishing.{taken, found_word, may_still, note_of_same, note_of_accepted, accepts}
use Rattle.inst_table.proofs.publisher.Publisher.publish.Goals as goal

pub returns-then-word-ne0-clause-accepted : goal.returns-then-word-ne0-clause-accepted
returns-then-word-ne0-clause-accepted g c = tt

pub returns-then-word-ne0-clause-already : goal.returns-then-word-ne0-clause-already
returns-then-word-ne0-clause-already g c =
    let t = taken c.args.self.now.seat.me c.take_in.new.seat.me c.args.by.seat.me.0 c.take_in.ensures.view in let own = c.own_address-word.ensures in
    let word = found_word _ _ _ _ c.args.self.now.seat.me c.take_in.new.seat.me c.args.by.seat.me.0 c.args.unit c.own_address-word.result c.args.words.now c.take_in.ensures.view c.requires.record.fitting own.sound own.word in record {
      of_unit = refl;
      there = c.if-word-ne0.true;
      built = word ∙ ap (λ (y : Units). address_of y.built c.args.unit) t.units;
      units = ap (λ (m : Me ℕ View). m.0.units.built) (c.note_of_units-note.ensures.view ∙ own.view) ∙ ap (λ (y : Units). y.built) t.units;
    }

pub returns-then-word-ne0-clause-note : goal.returns-then-word-ne0-clause-note
returns-then-word-ne0-clause-note g c =
    let t = taken c.args.self.now.seat.me c.take_in.new.seat.me c.args.by.seat.me.0 c.take_in.ensures.view in let own = c.own_address-word.ensures in
    let word = found_word _ _ _ _ c.args.self.now.seat.me c.take_in.new.seat.me c.args.by.seat.me.0 c.args.unit c.own_address-word.result c.args.words.now c.take_in.ensures.view c.requires.record.fitting own.sound own.word in
    let n = note_of_same c.args.by.seat.me.0 c.take_in.new.seat.me c.own_address-word.new.seat.me c.note_of_units-note.result.seat.me.0 c.args.unit c.own_address-word.result own.view t.knows c.note_of_units-note.ensures.note (sym word) c.if-word-ne0.true in record {
      home = c.note_of_units-note.ensures.home ∙ own.table ∙ c.take_in.ensures.table ∙ c.requires.table;
      knows = n.0;
      known = n.1;
      there = c.if-word-ne0.true;
    }

pub returns-then-after-table-clause-full : goal.returns-then-after-table-clause-full
returns-then-after-table-clause-full g c =
    let t = taken c.args.self.now.seat.me c.take_in.new.seat.me c.args.by.seat.me.0 c.take_in.ensures.view in let own = c.own_address-word.ensures in
    let word = found_word _ _ _ _ c.args.self.now.seat.me c.take_in.new.seat.me c.args.by.seat.me.0 c.args.unit c.own_address-word.result c.args.words.now c.take_in.ensures.view c.requires.record.fitting own.sound own.word in
    let room = ap (λ (n : Numbers). n.heap) c.args.table.now.numbers_kept in record {
      gap = sym (sym c.if-word-ne0.false ∙ word ∙ ap (λ (y : Units). address_of y.built c.args.unit) t.units);
      ends = sym c.args.self.now.rests.1;
      full = omega (arith, c.if-after-table.true);
      units = ap (λ (m : Me ℕ View). m.0.units.built) own.view ∙ ap (λ (y : Units). y.built) t.units;
    }

pub returns-then-after-table-clause-never_full : goal.returns-then-after-table-clause-never_full
returns-then-after-table-clause-never_full g c fit =
    let t = taken c.args.self.now.seat.me c.take_in.new.seat.me c.args.by.seat.me.0 c.take_in.ensures.view in let own = c.own_address-word.ensures in
    let may = may_still (g.F.Fit.fits c.args.table.now.words.shared.key.fit) c.args.table.now.words.shared.key.numbers c.args.self.now.seat.me c.take_in.new.seat.me c.args.by.seat.me.0 c.args.unit c.args.words.now c.take_in.ensures.view c.requires.record.fitting in
    let word = found_word _ _ _ _ c.args.self.now.seat.me c.take_in.new.seat.me c.args.by.seat.me.0 c.args.unit c.own_address-word.result c.args.words.now c.take_in.ensures.view c.requires.record.fitting own.sound own.word in
    let room = ap (λ (n : Numbers). n.heap) c.args.table.now.numbers_kept in
    let left = own.sound.leaves_room fit c.args.unit c.args.words.now may (sym word ∙ c.if-word-ne0.false) in
    let same = ap (λ (y : Units). length (heap_of y.built)) t.units in
    omega (arith, c.if-after-table.true, c.args.self.now.rests.1)

pub accept-requires-clause-gap : goal.accept-requires-clause-gap
accept-requires-clause-gap g c κs within =
    let own = c.own_address-word.ensures in
    let word = found_word _ _ _ _ c.args.self.now.seat.me c.take_in.new.seat.me c.args.by.seat.me.0 c.args.unit c.own_address-word.result c.args.words.now c.take_in.ensures.view c.requires.record.fitting own.sound own.word in
    ap (λ (m : Me ℕ View). address_of m.0.units.built c.args.unit) own.view ∙ sym word ∙ c.if-word-ne0.false

pub accept-requires-clause-record : goal.accept-requires-clause-record
accept-requires-clause-record g c κs within =
    let may = may_still (g.F.Fit.fits c.args.table.now.words.shared.key.fit) c.args.table.now.words.shared.key.numbers c.args.self.now.seat.me c.take_in.new.seat.me c.args.by.seat.me.0 c.args.unit c.args.words.now c.take_in.ensures.view c.requires.record.fitting in record {
      whole = c.requires.record.whole;
      fitting = subst (λ (m : Me ℕ View). MayPublish (g.F.Fit.fits c.args.table.now.words.shared.key.fit) c.args.table.now.words.shared.key.numbers m.0 c.args.unit c.args.words.now) (sym c.own_address-word.ensures.view) may;
    }

pub invariant_of-self-2 : goal.invariant_of-self-2
invariant_of-self-2 g c =
    let a = accepts c.args.self.now.seat.me c.take_in.new.seat.me c.own_address-word.new.seat.me c.accept.new.seat.me c.note_of_units-note-2.new.seat.me c.args.by.seat.me.0 c.args.unit c.args.words.now
    c.take_in.ensures.view c.own_address-word.ensures.view c.accept.ensures.view c.note_of_units-note-2.ensures.view in record {
      bare = a.rights ∙ c.args.self.now.bare;
      publishes = a.publishes ∙ c.args.self.now.publishes;
      rests = (a.partly, omega (arith, a.heap, c.args.self.now.rests.1));
    }

pub returns-clause-accepted : goal.returns-clause-accepted
returns-clause-accepted g c =
    let a = accepts c.args.self.now.seat.me c.take_in.new.seat.me c.own_address-word.new.seat.me c.accept.new.seat.me c.note_of_units-note-2.new.seat.me c.args.by.seat.me.0 c.args.unit c.args.words.now
    c.take_in.ensures.view c.own_address-word.ensures.view c.accept.ensures.view c.note_of_units-note-2.ensures.view in
    let t = taken c.args.self.now.seat.me c.take_in.new.seat.me c.args.by.seat.me.0 c.take_in.ensures.view in let own = c.own_address-word.ensures in
    let word = found_word _ _ _ _ c.args.self.now.seat.me c.take_in.new.seat.me c.args.by.seat.me.0 c.args.unit c.own_address-word.result c.args.words.now c.take_in.ensures.view c.requires.record.fitting own.sound own.word in
    let room = ap (λ (n : Numbers). n.heap) c.args.table.now.numbers_kept in record {
      gap = sym (sym c.if-word-ne0.false ∙ word ∙ ap (λ (y : Units). address_of y.built c.args.unit) t.units);
      room = omega (arith, c.if-after-table.false, c.args.self.now.rests.1);
      of_unit = refl;
      behind = omega (arith, c.args.self.now.rests.1);
      units = a.built;
    }

pub returns-clause-note : goal.returns-clause-note
returns-clause-note g c =
    let t = taken c.args.self.now.seat.me c.take_in.new.seat.me c.args.by.seat.me.0 c.take_in.ensures.view in let own = c.own_address-word.ensures in
    let word = found_word _ _ _ _ c.args.self.now.seat.me c.take_in.new.seat.me c.args.by.seat.me.0 c.args.unit c.own_address-word.result c.args.words.now c.take_in.ensures.view c.requires.record.fitting own.sound own.word in
    let same = ap (λ (y : Units). length (heap_of y.built)) t.units in
    let n = note_of_accepted c.args.by.seat.me.0 c.note_of_units-note-2.result.seat.me.0 c.take_in.new.seat.me c.own_address-word.new.seat.me c.accept.new.seat.me c.args.unit (c.args.self.now.end + 1) c.args.words.now
    own.view t.knows c.accept.ensures.view c.note_of_units-note-2.ensures.note (sym word ∙ c.if-word-ne0.false) (omega (arith, c.args.self.now.rests.1)) in record {
      home = c.note_of_units-note-2.ensures.home ∙ c.accept.ensures.table ∙ own.table ∙ c.take_in.ensures.table ∙ c.requires.table;
      knows = n.0;
      known = n.1;
      there = λ (z : c.args.self.now.end + 1 ≡ 0). omega arith;
    }
