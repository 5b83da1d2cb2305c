use Rattle.std.proofs.Common.{arith, ap, ◌∙◌}
use Rattle.inst_table.specs.declared.setup.Numbers.{Numbers}
use Rattle.inst_table.proofs.Appends.{nexts_at}
use Rattle.inst_table.proofs.table.Table.store_next.Goals as goal

pub store-requires : goal.store-requires
store-requires g c = let room = ap (λ (n : Numbers). n.rows) c.args.self.now.numbers_kept in let row = c.requires.row in let own = c.own_word-newest.ensures in (
  own.table ∙ c.requires.table,
  omega (arith, c.next_place.ensures),
  nexts_at _ _ _ _ _ c.args.seat.now.me c.own_word-newest.new.seat.me c.args.row _ _ c.args.bucket c.head_place.result own.view c.next_place.ensures c.requires.creates row c.requires.draft own.word c.head_place.ensures,
)
