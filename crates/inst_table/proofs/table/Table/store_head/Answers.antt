use Rattle.std.proofs.Common.{arith, ap, ◌∙◌, sym, subst, ◌<◌, ℕ, refl}
use Rattle.inst_table.specs.Bucket.{buckets}
use Rattle.inst_table.specs.Layout.{head_place}
use Rattle.inst_table.specs.declared.setup.Numbers.{Numbers}
use Rattle.inst_table.proofs.Appends.{heads}
use Rattle.inst_table.proofs.table.Table.store_head.Goals as goal

pub store-requires : goal.store-requires
store-requires g c = let room = ap (λ (n : Numbers). n.rows) c.args.self.now.numbers_kept in let row = c.requires.row in let draft = c.requires.draft in (
  c.requires.table,
  omega (arith, c.head_place.ensures),
  heads _ _ _ _ _ c.args.seat.now.me c.args.row _ _ (c.head_place.ensures ∙ ap head_place (sym draft.1)) (subst (λ (b : ℕ). b < buckets) (sym draft.1) draft.2) c.requires.creates row.0 draft.0 c.requires.next refl c.requires.new.1 c.requires.new.0,
)
