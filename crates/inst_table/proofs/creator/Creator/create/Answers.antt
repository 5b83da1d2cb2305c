use Rattle.std.proofs.Common.{ℕ, List, ◌∙◌, sym, ap, arith}
use Rattle.atomic_table.specs.Table.{Me}
use Rattle.inst_table.specs.Views.{with_row}
use Rattle.inst_table.specs.declared.setup.Numbers.{Numbers}
use Rattle.inst_table.specs.declared.view.View.{View}
use Rattle.inst_table.proofs.Adding.{add-new, add-old, not_among, full_never, note_of_old, note_of_new}
use Rattle.inst_table.proofs.creator.Creator.create.Goals as goal

pub returns-in-Some-clause-old : goal.returns-in-Some-clause-old
returns-in-Some-clause-old g c = let found = c.in-Some.ensures.answer in let fit = c.row_of.ensures.sound.within in record {
  there = omega (arith, found.0, c.args.self.now.counted.1);
  inside = omega (arith, found.0, c.args.self.now.counted.1);
  has_key = found.1;
  rows = ap (λ (m : Me ℕ View). m.0.rows.linked) (c.note_of_rows-note.ensures.view ∙ c.row_of.ensures.view) ∙ sym (add-old c.args.self.now.seat.me.0.rows.linked c.args.key.now c.in-Some.row (omega (arith, found.0, c.args.self.now.counted.1)) found.1);
}

pub returns-in-Some-clause-note : goal.returns-in-Some-clause-note
returns-in-Some-clause-note g c = let note = c.note_of_rows-note.ensures in let found = c.in-Some.ensures.answer in (
  note.home ∙ c.row_of.ensures.table ∙ c.requires.table,
  note_of_old c.args.self.now.seat.me c.row_of.new.seat.me c.note_of_rows-note.result.seat.me.0 c.in-Some.row c.args.self.now.count c.args.key.now c.row_of.ensures.view note.note c.args.self.now.counted.1 found.0 found.1 c.told-key,
)

pub returns-clause-note : goal.returns-clause-note
returns-clause-note g c = let note = c.note_of_rows-note-2.ensures in (
  note.home ∙ c.append.ensures.table ∙ c.row_of.ensures.table ∙ c.requires.table,
  note_of_new c.args.self.now.seat.me c.row_of.new.seat.me c.append.new.seat.me c.note_of_rows-note-2.result.seat.me.0 c.args.self.now.count c.args.key.now c.row_of.ensures.view c.append.ensures.view note.note c.args.self.now.counted.1 c.told-key,
)

pub returns-then-count-table-clause-never_full : goal.returns-then-count-table-clause-never_full
returns-then-count-table-clause-never_full g c fit =
    let room = ap (λ (n : Numbers). n.rows) c.args.table.now.numbers_kept in
    full_never _ c.args.self.now.seat.me.0.rows.linked c.args.key.now _ c.args.self.now.count c.row_of.ensures.sound c.requires.asked fit c.in_default.ensures.answer (sym c.args.self.now.counted.1) (omega (arith, c.if-count-table.true))

pub returns-clause-new : goal.returns-clause-new
returns-clause-new g c =
    let free = c.in_default.ensures.answer in let rows : List (List ℕ) = c.args.self.now.seat.me.0.rows.linked in
    let room = ap (λ (n : Numbers). n.rows) c.args.table.now.numbers_kept in let fit = c.row_of.ensures.sound.within in record {
      absent = not_among rows c.args.key.now c.args.self.now.count (sym c.args.self.now.counted.1) free;
      behind = sym c.args.self.now.counted.1;
      inside = omega (arith, c.if-count-table.false, c.args.self.now.counted.1);
      rows = ap (λ (m : Me ℕ View). m.0.rows.linked) (c.note_of_rows-note-2.ensures.view ∙ c.append.ensures.view) ∙ ap (λ (m : Me ℕ View). (with_row c.args.key.now m.0).rows.linked) c.row_of.ensures.view
          ∙ sym (add-new rows c.args.key.now c.args.self.now.count (sym c.args.self.now.counted.1) free);
    }
