use Rattle.std.proofs.Common.{ℕ, Some, sym, ap, ◌∙◌, refl}
use Rattle.inst_table.specs.declared.pass.Address.{Address}
use Rattle.inst_table.proofs.Publishing.{hears_all, hears_keeps}
use Rattle.inst_table.proofs.pass.Pass.address.Goals as goal

pub returns-then-word-eq0-clause-loads : goal.returns-then-word-eq0-clause-loads
returns-then-word-eq0-clause-loads g c = let read = c.read_address-word.ensures in
    hears_all c.args.self.now.seat.me c.read_address-word.new.seat.me c.args.unit c.read_address-word.result 0 c.if-word-eq0.true read.view read.same read.one_way

pub returns-clause-knows : goal.returns-clause-knows
returns-clause-knows g c = hears_keeps c.args.self.now.seat.me c.read_address-word.new.seat.me c.args.unit c.read_address-word.result c.read_address-word.ensures.view

pub returns-clause-loads : goal.returns-clause-loads
returns-clause-loads g c = let read = c.read_address-word.ensures in
    hears_all c.args.self.now.seat.me c.read_address-word.new.seat.me c.args.unit c.read_address-word.result c.read_address-word.result refl read.view read.same read.one_way

pub returns-then-word-eq0-clause-same : goal.returns-then-word-eq0-clause-same
returns-then-word-eq0-clause-same g c word known = let old = c.read_address-word.ensures.same word known in absurd (old.1 (sym old.0 ∙ c.if-word-eq0.true))

pub returns-clause-same : goal.returns-clause-same
returns-clause-same g c word known = ap (λ (w : ℕ). let a : Address = record { unit = c.args.unit; word = w } in Some a) (c.read_address-word.ensures.same word known).0
