use Rattle.std.proofs.Common.{ap, arith, ◌∙◌, sym, length}
use Rattle.inst_table.specs.Bucket.{bucket_of}
use Rattle.inst_table.specs.Layout.{head_place}
use Rattle.inst_table.specs.declared.setup.Numbers.{Numbers}
use Rattle.inst_table.proofs.LookSteps.{enters_at}
use Rattle.inst_table.proofs.table.Table.head.Goals as goal

pub load-requires : goal.load-requires
load-requires g c =
    let room = ap (λ (n : Numbers). n.rows) c.args.self.now.numbers_kept in let bucket = c.bucket_of.ensures in
    let key = ap bucket_of c.requires.key in (
      c.requires.table,
      omega (arith, c.head_place.ensures),
      enters_at _ _ _ _ _ _ _ _ _ _ (c.head_place.ensures ∙ ap head_place (bucket.value ∙ sym key)) (omega arith) (ap length c.requires.key ∙ c.told-key) (omega arith) c.requires.below,
    )
