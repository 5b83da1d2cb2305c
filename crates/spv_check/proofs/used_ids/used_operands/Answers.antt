use Rattle.spv_check.proofs.OperandsUsed.{none_named, one_named}
use Rattle.spv_check.proofs.used_ids.used_operands.Goals as goal

pub returns-then-is_none : goal.returns-then-is_none
returns-then-is_none c = none_named c.args.inst.now c.result.result c.ids-others.result c.requires c.ids-others.ensures c.result.ensures c.if-is_none.ensures

pub returns : goal.returns
returns c =
    one_named c.args.inst.now c.result.result c.ids-others.result c.next_id-result_type.new.self c.next_id-result.new.self c.next_id-result_type.result c.next_id-result.result
    c.requires c.ids-others.ensures c.result.ensures c.if-is_none.ensures c.next_id-result_type.ensures c.next_id-result.ensures
