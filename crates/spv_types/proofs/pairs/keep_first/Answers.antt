use Rattle.std.proofs.Common.{◌∙◌, sym}
use Rattle.spv_types.proofs.PairKeys.{kept_first}
use Rattle.spv_types.proofs.pairs.keep_first.Goals as goal

pub returns-in_ok-insert : goal.returns-in_ok-insert
returns-in_ok-insert c = λ a b.
    kept_first c.args.map.now c.insert.new.self c.args.a c.args.b a b c.args.word (c.in_ok-insert.ensures.updates.0 (a, b))
    (sym c.contains_key.ensures ∙ c.if-not-contains_key.true)
