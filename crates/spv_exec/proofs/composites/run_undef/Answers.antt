use Rattle.std.proofs.Common.{ℕ, ap, sym, ◌∙◌, replicate, arith}
use Rattle.stage_model.specs.Program.{program_of}
use Rattle.frame_model.specs.Frame.{in_frame}
use Rattle.frame_model.specs.Written.{written}
use Rattle.frame_model.proofs.GivenComposites.{Room, given_room, undef_given}
use Rattle.spv_exec.proofs.SplitWords.{split_written, split_lengths}
use Rattle.spv_exec.proofs.composites.run_undef.Goals as goal

pub split_at_mut-to-requires : goal.split_at_mut-to-requires
split_at_mut-to-requires c =
    let some = c.requires.gives in
    let r : Room c.args.of.now.insts c.args.frame.now c.args.place some.value = given_room c.args.of.now c.module-module.ensures.valid c.args.frame.now some.held c.args.place some.value some.gives in
    let fits = r.fits in let at = c.frame_place.ensures in
    omega (arith, fits, at)

pub clear_words-requires : goal.clear_words-requires
clear_words-requires c =
    let some = c.requires.gives in
    let r : Room c.args.of.now.insts c.args.frame.now c.args.place some.value = given_room c.args.of.now c.module-module.ensures.valid c.args.frame.now some.held c.args.place some.value some.gives in
    let fits = r.fits in let at = c.frame_place.ensures in let count = c.frame_words-count.ensures in
    let l = split_lengths c.args.frame.now c.split_at_mut-to.result.0.now c.split_at_mut-to.result.1.now c.frame_place.result
    (record { front_is = c.split_at_mut-to.ensures.front; back_is = c.split_at_mut-to.ensures.back; within = omega (arith, fits, at) }) in
    let b = l.1 in
    omega (arith, fits, at, count, b)

pub returns : goal.returns
returns c = λ held value g.
    let of = c.args.of.now in let v = c.module-module.ensures.valid in
    let r : Room of.insts c.args.frame.now c.args.place value = given_room of v c.args.frame.now held c.args.place value g in
    let fits = r.fits in let at = c.frame_place.ensures in
    split_written c.args.frame.now c.split_at_mut-to.result.0.now c.split_at_mut-to.result.1.now c.clear_words.new.to c.frame_place.result (in_frame (program_of of.insts) value)
    (record { front_is = c.split_at_mut-to.ensures.front; back_is = c.split_at_mut-to.ensures.back; within = omega (arith, fits, at) })
    (c.clear_words.ensures ∙ (ap (λ (n : ℕ). written c.split_at_mut-to.result.1.now 0 (replicate n 0)) c.frame_words-count.ensures
    ∙ ap (written c.split_at_mut-to.result.1.now 0) (sym (undef_given of v c.args.frame.now held c.args.place value g c.requires.is))))
    ∙ ap (λ (n : ℕ). written c.args.frame.now n (in_frame (program_of of.insts) value)) c.frame_place.ensures
