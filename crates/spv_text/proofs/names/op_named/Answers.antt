use Rattle.std.proofs.Common.{ap, ◌∙◌}
use Rattle.std.specs.Prelude.{slice_index}
use Rattle.spv_text.specs.declared.names.TheConstants.{OPS_BY_HASH}
use Rattle.spv_text.proofs.NameTables.{named_op, no_name, other_name}
use Rattle.spv_text.proofs.names.op_named.Goals as goal

pub returns-in-Some : goal.returns-in-Some
returns-in-Some c = named_op c.byte_at-op.result c.in-Some.own.now c.args.name.now c.eq.result c.in-Some.ensures c.eq.ensures c.if-eq.true

pub returns-in_default : goal.returns-in_default
returns-in_default c =
    other_name c.byte_at-op.result c.in-Some.own.now c.args.name.now c.eq.result c.in-Some.ensures c.eq.ensures c.if-eq.false
    (c.byte_at-op.ensures.value ∙ ap (slice_index OPS_BY_HASH) c.name_hash.ensures)

pub returns-in_default-2 : goal.returns-in_default-2
returns-in_default-2 c =
    no_name c.byte_at-op.result c.args.name.now c.name_of.result c.name_of.ensures c.in_default.is
    (c.byte_at-op.ensures.value ∙ ap (slice_index OPS_BY_HASH) c.name_hash.ensures)
