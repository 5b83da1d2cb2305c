use Rattle.stage_model.specs.Program.{program_of}
use Rattle.spv_exec.proofs.PhiWords.{taken_here}
use Rattle.spv_exec.proofs.phis.run_phi.Goals as goal

pub returns : goal.returns
unfolding program_of
returns c = λ value is also stands.
    taken_here (program_of c.args.of.now.insts) c.args.frame.now c.args.incoming.now c.copy_words.new.to c.args.place c.frame_place-at.result c.frame_words.result value is also c.requires stands c.frame_words.ensures c.frame_place-at.ensures
    c.copy_words.ensures
