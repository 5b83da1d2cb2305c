use Rattle.std.proofs.Common.{arith}
use Rattle.stage_model.specs.Program.{program_of}
use Rattle.spv_exec.proofs.StartsTo.{members_all}
use Rattle.spv_exec.proofs.member_starts.add_members.Goals as goal

pub returns : goal.returns
returns c =
    let low = c.loop-member.auto.member-index-end in
    let high = c.loop-member-test.false in
    members_all (program_of c.args.of.now.insts) c.args.members.now c.args.starts.now.items c.loop-member.starts.items c.loop-member.start c.loop-member.member-index (omega (arith, low, high)) c.loop-member.invariant
