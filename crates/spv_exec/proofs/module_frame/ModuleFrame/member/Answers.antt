use Rattle.std.proofs.Common.{subst, sym, ◌∙◌, refl}
use Rattle.spirv_model.specs.declared.module.Words.{Words}
use Rattle.stage_model.specs.Program.{program_of}
use Rattle.spv_exec.specs.ModuleFrames.{AreMemberStarts}
use Rattle.spv_exec.proofs.PartAnswers.{member_answers, no_member_answers, start_there, struct_defined}
use Rattle.spv_exec.proofs.module_frame.ModuleFrame.member.Goals as goal

pub returns-in-Some : goal.returns-in-Some
returns-in-Some c layouts known =
    member_answers c.args.self.now c.self.inside.members.firsts.items c.self.inside.members.starts.items c.args.ty c.in-Some.place c.args.index c.start.result _ c.args.members.now layouts
    (subst (λ (w : Words). AreMemberStarts w.insts c.self.inside.members.firsts.items c.self.inside.members.starts.items) c.self.view_is c.self.invariant.members) (sym c.definition.ensures ∙ c.in-Some.is) c.requires refl
    c.if-at-members.false c.start.ensures known

pub start-requires : goal.start-requires
start-requires c =
    start_there c.args.self.now c.self.inside.members.firsts.items c.self.inside.members.starts.items c.args.ty c.in-Some.place c.args.index c.args.members.now
    (subst (λ (w : Words). AreMemberStarts w.insts c.self.inside.members.firsts.items c.self.inside.members.starts.items) c.self.view_is c.self.invariant.members) (sym c.definition.ensures ∙ c.in-Some.is) c.requires c.if-at-members.false

pub returns-then-at-members : goal.returns-then-at-members
returns-then-at-members c layouts known = no_member_answers (program_of c.args.self.now.insts) c.args.members.now layouts c.args.index known c.if-at-members.true

pub returns-in-None : goal.returns-in-None
returns-in-None c = absurd (struct_defined c.args.self.now c.args.ty c.args.members.now c.requires (sym c.definition.ensures ∙ c.in-None.is))
