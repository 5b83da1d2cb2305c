use Rattle.std.proofs.Common.{ℕ, ap, sym, ◌∙◌, subst, arith}
use Rattle.spirv_model.specs.declared.module.Inst.{Inst}
use Rattle.stage_model.specs.Program.{program_of}
use Rattle.frame_model.specs.Frame.{in_frame}
use Rattle.frame_model.specs.Written.{written}
use Rattle.frame_model.proofs.CompositeResults.{InsertAt}
use Rattle.frame_model.proofs.GivenComposites.{Room, given_room, insert_given}
use Rattle.spv_exec.proofs.CompositeRuns.{Inserts, inserts}
use Rattle.spv_exec.proofs.SplitWords.{copied_over}
use Rattle.spv_exec.proofs.composites.run_insert.Goals as goal

pub split_at_mut-front-requires : goal.split_at_mut-front-requires
split_at_mut-front-requires c =
    let some = c.requires.gives in
    let r : Room c.args.of.now.insts c.args.frame.now c.args.place some.value = given_room c.args.of.now c.module-module.ensures.valid c.args.frame.now some.held c.args.place some.value some.gives in
    let fits = r.fits in let at = c.frame_place-at.ensures in
    omega (arith, fits, at)

pub returns : goal.returns
returns c = λ held value g.
    let of = c.args.of.now in let v = c.module-module.ensures.valid in
    let x = subst (λ (i : Inst). InsertAt of.insts c.args.frame.now c.args.place value i) (sym c.inst-inst.ensures) (insert_given of v c.args.frame.now held c.args.place value g c.requires.is) in
    let r = given_room of v c.args.frame.now held c.args.place value g in
    let e : Inserts c.args.frame.now c.operand.result c.operand_words.result c.operand-2.result c.operand_words-count.result c.part_start-start.result c.frame_place-at.result (in_frame (program_of of.insts) value) =
    inserts of.insts c.args.frame.now c.args.place value c.inst-inst.result.now x r c.word-object.result c.word-whole.result c.type_of.result c.operand.result c.operand_words.result c.operand-2.result c.operand_words-count.result
    c.part_start-start.result c.frame_place-at.result c.words_from.result.now c.word-object.ensures c.word-whole.ensures c.words_from.ensures c.frame_place-at.ensures c.frame_place-at.type_inv
    (record { place = c.operand.ensures }) (record { words = c.operand_words.ensures.there }) (record { place = c.operand-2.ensures }) (record { words = c.operand_words-count.ensures.there })
    (record { own = c.type_of.ensures; along = c.part_start-start.ensures }) in
    let room = e.room in
    copied_over c.args.frame.now c.split_at_mut-front.result.0.now c.split_at_mut-front.result.1.now c.copy_words.new.to c.copy_words-2.new.to c.frame_place-at.result c.operand.result c.operand_words.result c.operand-2.result c.operand_words-count.result
    c.part_start-start.result (in_frame (program_of of.insts) value) (record { front_is = c.split_at_mut-front.ensures.front; back_is = c.split_at_mut-front.ensures.back; within = omega (arith, room) })
    e.room e.before e.also e.fits c.copy_words.ensures c.copy_words-2.ensures e.are
    ∙ ap (λ (n : ℕ). written c.args.frame.now n (in_frame (program_of of.insts) value)) c.frame_place-at.ensures
