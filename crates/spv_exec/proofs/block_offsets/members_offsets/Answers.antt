use Rattle.std.proofs.Common.{ℕ, refl, ap, ◌∙◌, arith, Option}
use Rattle.std.specs.Option.{unwrap_or}
use Rattle.stage_model.specs.Program.{program_of}
use Rattle.spv_exec.proofs.ShiftedOffsets.{joined_more}
use Rattle.spv_exec.proofs.block_offsets.members_offsets.Goals as goal

pub loop-member-preserved : goal.loop-member-preserved
unfolding program_of
loop-member-preserved c =
    joined_more (program_of c.args.of.now.insts) c.args.block c.args.members.now c.loop-member.member _ _ c.loop-member.offsets.items c.add_member.new.offsets.items
    c.loop-member-test.true refl (c.unwrap_or-by.ensures ∙ ap (λ (o : Option ℕ). unwrap_or o 0) c.offset.ensures) c.in_ok-add_member.ensures c.loop-member.invariant
