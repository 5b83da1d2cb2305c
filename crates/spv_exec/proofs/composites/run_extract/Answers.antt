use Rattle.std.proofs.Common.{ℕ, ◌+◌, refl, ap, sym, ◌∙◌, subst, arith}
use Rattle.spirv_model.specs.declared.module.Inst.{Inst}
use Rattle.valid_model.specs.Definitions.{inst_at}
use Rattle.stage_model.specs.Program.{program_of}
use Rattle.frame_model.specs.Frame.{frame_words, in_frame}
use Rattle.frame_model.specs.Written.{written}
use Rattle.frame_model.proofs.CompositeResults.{ExtractAt}
use Rattle.frame_model.proofs.GivenComposites.{Room, given_room, extract_given}
use Rattle.spv_exec.proofs.CompositeRuns.{Extracts, extracts}
use Rattle.spv_exec.proofs.SplitWords.{copied_front}
use Rattle.spv_exec.proofs.composites.run_extract.Goals as goal

pub overflow_add-from : goal.overflow_add-from
overflow_add-from c =
    let of = c.args.of.now in let some = c.requires.gives in let v = c.module-module.ensures.valid in
    let x = subst (λ (i : Inst). ExtractAt of.insts c.args.frame.now c.args.place some.value i) (sym c.inst-inst.ensures) (extract_given of v c.args.frame.now some.held c.args.place some.value some.gives c.requires.is) in
    let r = given_room of v c.args.frame.now some.held c.args.place some.value some.gives in
    let count : ℕ = frame_words (program_of of.insts) (inst_at of.insts c.args.place) in
    let e : Extracts c.args.frame.now (c.operand.result + c.part_start-start.result) count c.frame_place-at.result (in_frame (program_of of.insts) some.value) =
    extracts of.insts c.args.frame.now c.args.place some.value c.inst-inst.result.now x r c.word-whole.result c.type_of.result c.operand.result c.part_start-start.result count c.frame_place-at.result c.words_from.result.now
    c.word-whole.ensures c.words_from.ensures c.frame_place-at.ensures c.frame_place-at.type_inv refl (record { place = c.operand.ensures }) (record { own = c.type_of.ensures; along = c.part_start-start.ensures }) in
    let before = e.before in let less = c.frame_place-at.type_inv in
    omega (arith, before, less)

pub split_at_mut-front-requires : goal.split_at_mut-front-requires
split_at_mut-front-requires c =
    let some = c.requires.gives in
    let r : Room c.args.of.now.insts c.args.frame.now c.args.place some.value = given_room c.args.of.now c.module-module.ensures.valid c.args.frame.now some.held c.args.place some.value some.gives in
    let fits = r.fits in let at = c.frame_place-at.ensures in
    omega (arith, fits, at)

pub returns : goal.returns
returns c = λ held value g.
    let of = c.args.of.now in let v = c.module-module.ensures.valid in
    let x = subst (λ (i : Inst). ExtractAt of.insts c.args.frame.now c.args.place value i) (sym c.inst-inst.ensures) (extract_given of v c.args.frame.now held c.args.place value g c.requires.is) in
    let r = given_room of v c.args.frame.now held c.args.place value g in
    let e : Extracts c.args.frame.now (c.operand.result + c.part_start-start.result) c.frame_words.result c.frame_place-at.result (in_frame (program_of of.insts) value) =
    extracts of.insts c.args.frame.now c.args.place value c.inst-inst.result.now x r c.word-whole.result c.type_of.result c.operand.result c.part_start-start.result c.frame_words.result c.frame_place-at.result c.words_from.result.now
    c.word-whole.ensures c.words_from.ensures c.frame_place-at.ensures c.frame_place-at.type_inv c.frame_words.ensures (record { place = c.operand.ensures }) (record { own = c.type_of.ensures; along = c.part_start-start.ensures }) in
    let room = e.room in
    copied_front c.args.frame.now c.split_at_mut-front.result.0.now c.split_at_mut-front.result.1.now c.copy_words.new.to c.frame_place-at.result (c.operand.result + c.part_start-start.result) c.frame_words.result (in_frame (program_of of.insts) value)
    (record { front_is = c.split_at_mut-front.ensures.front; back_is = c.split_at_mut-front.ensures.back; within = omega (arith, room) }) e.room e.before c.copy_words.ensures e.are
    ∙ ap (λ (n : ℕ). written c.args.frame.now n (in_frame (program_of of.insts) value)) c.frame_place-at.ensures
