use Rattle.std.proofs.Common.{arith, ◌∙◌}
use Rattle.inst_table.proofs.Starts.{starts}
use Rattle.inst_table.proofs.Sharing.{tells, gives_creation}
use Rattle.inst_table.proofs.table.Table.make.Goals as goal

pub of_words-requires : goal.of_words-requires
of_words-requires g c = starts _ _ _ _ _ (c.deref.ensures.value ∙ c.in_ok-zeros.ensures.items_if_clones_equal (λ y e. e)) c.width.ensures

pub split_seat-creator-requires : goal.split_seat-creator-requires
split_seat-creator-requires g c = let e = c.in_ok-words.ensures in
    (e.2, omega (arith, e.0, c.deref.ensures.len, c.in_ok-zeros.ensures.len, c.width.ensures), gives_creation _ _ _ _ _)

pub split_seat-pass-requires : goal.split_seat-pass-requires
split_seat-pass-requires g c = let e = c.in_ok-words.ensures in
    (c.split_seat-creator.ensures.0 ∙ e.2, omega (arith, e.0, c.deref.ensures.len, c.in_ok-zeros.ensures.len, c.width.ensures), tells _ _ _ _ _)
