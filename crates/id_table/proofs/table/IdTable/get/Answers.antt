use Rattle.std.proofs.Common.{sym, ◌∙◌, arith}
use Rattle.std.specs.Prelude.{None}
use Rattle.std.proofs.lemmas.List.{get_or_default}
use Rattle.id_table.proofs.Places.{near_at, far_at}
use Rattle.id_table.proofs.table.IdTable.get.Goals as goal

pub returns-then-id-len : goal.returns-then-id-len
returns-then-id-len g c =
    c.as_ref.ensures.value ∙ c.index.ensures
    ∙ get_or_default c.args.self.now.near.items c.args.id c.index.result.now None (omega (arith, c.if-id-len.true, c.len.ensures, c.args.self.now.near.ok.0))
    ∙ sym (near_at c.args.self.now c.args.id (omega (arith, c.if-id-len.true, c.len.ensures)))

pub returns-else-id-len : goal.returns-else-id-len
returns-else-id-len g c = c.get.ensures.value ∙ sym (far_at c.args.self.now c.args.id (omega (arith, c.if-id-len.false, c.len.ensures)))
