use Rattle.std.proofs.Common.{ℕ, sym, subst}
use Rattle.atomic_table.specs.Table.{Me}
use Rattle.inst_table.specs.Units.{IsRecord}
use Rattle.inst_table.specs.Passes.{MayPublish}
use Rattle.inst_table.specs.declared.view.View.{View}
use Rattle.inst_table.proofs.table.Table.accept.Goals as goal

pub store_address-requires-clause-record : goal.store_address-requires-clause-record
store_address-requires-clause-record g c κs within = record {
  whole = subst (λ (m : Me ℕ View). IsRecord m.0.units.partly) (sym c.store_record.ensures.view) c.requires.record.whole;
  fitting = subst (λ (m : Me ℕ View). MayPublish (g.F.Fit.fits c.args.self.now.words.shared.key.fit) c.args.self.now.words.shared.key.numbers m.0 c.args.unit m.0.units.partly) (sym c.store_record.ensures.view) c.requires.record.fitting;
}
