use Rattle.std.proofs.Common.{ℕ, sym, subst, arith}
use Rattle.inst_table.specs.Passes.{KnowsAddress}
use Rattle.inst_table.proofs.UnitSteps.{hears_at}
use Rattle.inst_table.proofs.table.Table.read_address.Goals as goal

pub load-requires : goal.load-requires
load-requires g c = let p = c.address_place.ensures in
    (c.requires.table, omega (arith, p.inside, c.args.self.now.sized), hears_at _ _ c.args.self.now.words.shared.key.numbers c.args.self.now.numbers _ _ c.args.seat.now.me _ c.args.unit _ c.args.self.now.numbers_kept p.value c.requires.unit c.requires.known)

pub returns-clause-same : goal.returns-clause-same
returns-clause-same g c word known = c.load.ensures.2.1 word (subst (λ (n : ℕ). KnowsAddress c.args.seat.now.me.0 n word) (sym c.requires.unit) known)
