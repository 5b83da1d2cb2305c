use Rattle.std.proofs.Common.{◌*◌, ℕ, ap}
use Rattle.stage_model.specs.Program.{program_of}
use Rattle.spv_exec.proofs.PartAnswers.{element_answers, past_answers}
use Rattle.spv_exec.proofs.module_frame.ModuleFrame.element.Goals as goal

pub returns : goal.returns
returns c of known = element_answers (program_of c.args.self.now.insts) c.args.len c.args.index c.args.elem _ of c.if-index-len.false known (ap (λ (n : ℕ). c.args.index * n) c.type_words.ensures)

pub returns-then-index-len : goal.returns-then-index-len
returns-then-index-len c of known = past_answers (program_of c.args.self.now.insts) c.args.len c.args.index of c.if-index-len.true
