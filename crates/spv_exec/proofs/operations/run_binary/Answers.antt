use Rattle.std.proofs.Common.{ℕ, List, sym, ap, ◌∙◌, arith}
use Rattle.spirv_model.specs.declared.module.Inst.{Inst}
use Rattle.valid_model.specs.Definitions.{inst_at}
use Rattle.spv_ops.specs.ScalarWords.{word_of_two}
use Rattle.frame_model.specs.Shown.{words_at}
use Rattle.frame_model.specs.Componentwise.{on_both}
use Rattle.spv_exec.proofs.ComponentResults.{room_here, binary_run, start_within, start_apart, start_words, start_room, same_written}
use Rattle.spv_exec.proofs.operations.run_binary.Goals as goal

pub inst-requires : goal.inst-requires
inst-requires c = (room_here c.args.of.now c.module-module.ensures.valid c.args.frame.now c.requires.gives.held c.args.place c.requires.gives.value c.requires.is c.requires.gives.gives).within

pub frame_place-requires : goal.frame_place-requires
frame_place-requires c =
    let r = (room_here c.args.of.now c.module-module.ensures.valid c.args.frame.now c.requires.gives.held c.args.place c.requires.gives.value c.requires.is c.requires.gives.gives).within in omega (arith, r)

pub frame_words-requires : goal.frame_words-requires
frame_words-requires c = (room_here c.args.of.now c.module-module.ensures.valid c.args.frame.now c.requires.gives.held c.args.place c.requires.gives.value c.requires.is c.requires.gives.gives).within

pub write_binary-requires : goal.write_binary-requires
write_binary-requires c =
    let insts = c.args.of.now.insts in
    let frame = c.args.frame.now in
    let place = c.args.place in
    let held = c.requires.gives.held in
    let value = c.requires.gives.value in
    let here = room_here c.args.of.now c.module-module.ensures.valid frame held place value c.requires.is c.requires.gives.gives in
    let r = binary_run c.args.of.now c.module-module.ensures.valid frame held place c.args.left c.args.right value c.requires.is c.requires.reads c.requires.gives.gives in
    record {
      room = start_room insts frame place here _ _ c.frame_place.ensures c.frame_words.ensures;
      left_within = start_within insts frame place c.args.left _ r.words r.first _ _ c.operand.ensures c.frame_words.ensures;
      right_within = start_within insts frame place c.args.right _ r.others r.second _ _ c.operand-2.ensures c.frame_words.ensures;
      left_apart = start_apart insts frame place c.args.left _ r.words r.first _ _ _ c.operand.ensures c.frame_words.ensures c.frame_place.ensures;
      right_apart = start_apart insts frame place c.args.right _ r.others r.second _ _ _ c.operand-2.ensures c.frame_words.ensures c.frame_place.ensures;
    }

pub returns : goal.returns
returns c held value g =
    let insts = c.args.of.now.insts in
    let frame = c.args.frame.now in
    let place = c.args.place in
    let r = binary_run c.args.of.now c.module-module.ensures.valid frame held place c.args.left c.args.right value c.requires.is c.requires.reads g in
    let left = start_words insts frame place c.args.left _ r.words r.first c.operand.result c.frame_words.result c.operand.ensures c.frame_words.ensures in
    let right = start_words insts frame place c.args.right _ r.others r.second c.operand-2.result c.frame_words.result c.operand-2.ensures c.frame_words.ensures in
    c.write_binary.ensures ∙ same_written frame _ _ _ _ c.frame_place.ensures
    (ap (λ (i : Inst). on_both (word_of_two i.op) (words_at frame c.operand.result c.frame_words.result) (words_at frame c.operand-2.result c.frame_words.result)) c.inst.ensures
    ∙ (ap (λ (l : List ℕ). on_both (word_of_two (inst_at insts place).op) l (words_at frame c.operand-2.result c.frame_words.result)) left ∙ (ap (on_both (word_of_two (inst_at insts place).op) r.words) right ∙ sym r.new)))
