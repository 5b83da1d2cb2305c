use Rattle.std.proofs.Common.{ℕ, ◌∷◌, [], ap, sym, ◌∙◌, arith}
use Rattle.stage_model.specs.Program.{program_of}
use Rattle.frame_model.specs.Frame.{frame_place, memory_place}
use Rattle.frame_model.specs.Written.{written}
use Rattle.frame_model.proofs.AccessOperands.{one_room, variable_word}
use Rattle.frame_model.proofs.FrameLimits.{memory_few}
use Rattle.spv_exec.proofs.accesses.run_variable.Goals as goal

pub overflow_cast-memory_place : goal.overflow_cast-memory_place
unfolding program_of
overflow_cast-memory_place c =
    let w = c.requires.gives.gives.within in
    let few = memory_few c.args.of.now c.module-module.ensures.valid c.args.place (omega (arith, w)) in omega (arith, few, c.memory_place.ensures)

pub returns : goal.returns
returns c = λ held value g.
    let frame = c.args.frame.now in
    let word = variable_word c.args.of.now c.module-module.ensures.valid frame held c.args.place value g c.requires.is in
    let room = one_room c.args.of.now c.module-module.ensures.valid frame held c.args.place (memory_place (program_of c.args.of.now.insts) c.args.place) value g word in
    c.put.ensures (omega (arith, room, c.frame_place.ensures))
    ∙ (ap (λ (n : ℕ). written frame n (c.memory_place.result ∷ [])) c.frame_place.ensures
    ∙ ap (written frame (frame_place (program_of c.args.of.now.insts) c.args.place)) (ap (λ (n : ℕ). n ∷ []) c.memory_place.ensures ∙ sym word))
