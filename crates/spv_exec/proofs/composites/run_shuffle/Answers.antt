use Rattle.std.proofs.Common.{ℕ, ap, sym, ◌∙◌, subst, arith}
use Rattle.spirv_model.specs.declared.module.Inst.{Inst}
use Rattle.stage_model.specs.Program.{program_of}
use Rattle.frame_model.specs.Frame.{in_frame}
use Rattle.frame_model.specs.Written.{written}
use Rattle.frame_model.proofs.CompositeResults.{ShuffleAt}
use Rattle.frame_model.proofs.GivenComposites.{Room, given_room, shuffle_given}
use Rattle.spv_exec.proofs.CompositeRuns.{picks_room, picks}
use Rattle.spv_exec.proofs.SplitWords.{IsSplit, split_written}
use Rattle.spv_exec.proofs.composites.run_shuffle.Goals as goal

pub split_at_mut-front-requires : goal.split_at_mut-front-requires
split_at_mut-front-requires c =
    let some = c.requires.gives in
    let r : Room c.args.of.now.insts c.args.frame.now c.args.place some.value = given_room c.args.of.now c.module-module.ensures.valid c.args.frame.now some.held c.args.place some.value some.gives in
    let fits = r.fits in let at = c.frame_place.ensures in
    omega (arith, fits, at)

pub pick_words-requires : goal.pick_words-requires
pick_words-requires c =
    let of = c.args.of.now in let some = c.requires.gives in let v = c.module-module.ensures.valid in
    let x = subst (λ (i : Inst). ShuffleAt of.insts c.args.frame.now c.args.place some.value i) (sym c.inst-inst.ensures) (shuffle_given of v c.args.frame.now some.held c.args.place some.value some.gives c.requires.is) in
    let r : Room of.insts c.args.frame.now c.args.place some.value = given_room of v c.args.frame.now some.held c.args.place some.value some.gives in
    let fits = r.fits in let at = c.frame_place.ensures in
    picks_room of.insts c.args.frame.now c.split_at_mut-front.result.0.now c.split_at_mut-front.result.1.now c.args.place some.value c.inst-inst.result.now x r c.frame_place.result c.words_from.result.now c.words_from.ensures c.frame_place.ensures
    (record { front_is = c.split_at_mut-front.ensures.front; back_is = c.split_at_mut-front.ensures.back; within = omega (arith, fits, at) })

pub returns : goal.returns
returns c = λ held value g.
    let of = c.args.of.now in let v = c.module-module.ensures.valid in
    let x = subst (λ (i : Inst). ShuffleAt of.insts c.args.frame.now c.args.place value i) (sym c.inst-inst.ensures) (shuffle_given of v c.args.frame.now held c.args.place value g c.requires.is) in
    let r : Room of.insts c.args.frame.now c.args.place value = given_room of v c.args.frame.now held c.args.place value g in
    let fits = r.fits in let at = c.frame_place.ensures in
    let s : IsSplit c.args.frame.now c.split_at_mut-front.result.0.now c.split_at_mut-front.result.1.now c.frame_place.result =
    record { front_is = c.split_at_mut-front.ensures.front; back_is = c.split_at_mut-front.ensures.back; within = omega (arith, fits, at) } in
    let e = picks of.insts c.args.frame.now c.split_at_mut-front.result.0.now c.split_at_mut-front.result.1.now c.args.place value c.inst-inst.result.now x r c.word-first.result c.word-second.result c.frame_place.result
    (record { first = c.operand.result; count = c.operand_words.result; second = c.operand-2.result }) c.words_from.result.now c.word-first.ensures c.word-second.ensures c.words_from.ensures c.frame_place.ensures s
    (record { place = c.operand.ensures }) (record { words = c.operand_words.ensures.there }) (record { place = c.operand-2.ensures }) in
    split_written c.args.frame.now c.split_at_mut-front.result.0.now c.split_at_mut-front.result.1.now c.pick_words.new.to c.frame_place.result (in_frame (program_of of.insts) value) s
    (c.pick_words.ensures ∙ ap (written c.split_at_mut-front.result.1.now 0) e)
    ∙ ap (λ (n : ℕ). written c.args.frame.now n (in_frame (program_of of.insts) value)) c.frame_place.ensures
