use Rattle.std.proofs.Common.{arith, ap}
use Rattle.inst_table.specs.declared.setup.Numbers.{Numbers}
use Rattle.inst_table.proofs.Appends.{drafts_at}
use Rattle.inst_table.proofs.table.Table.store_key_word.Goals as goal

pub store-requires : goal.store-requires
store-requires g c = let room = ap (λ (n : Numbers). n.rows) c.args.self.now.numbers_kept in let row = c.requires.row in let at = c.requires.at in
    (c.requires.table, omega (arith, c.key_place.ensures), drafts_at _ _ _ _ _ _ c.args.row c.args.at _ _ c.key_place.ensures c.requires.creates row at)
