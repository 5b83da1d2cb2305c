use Rattle.std.proofs.Common.{◌≡◌, ℕ, if◌then◌else◌, List, slice_index, sym, ap, ◌∙◌, arith}
use Rattle.stage_model.specs.Program.{program_of}
use Rattle.valid_model.specs.Definitions.{inst_at}
use Rattle.frame_model.specs.Frame.{frame_words}
use Rattle.frame_model.specs.Shown.{words_at}
use Rattle.frame_model.specs.Componentwise.{is_true_word, chosen_words}
use Rattle.spv_exec.proofs.ComponentResults.{room_here, select_run, start_within, start_apart, start_words, start_room, same_written, first_word}
use Rattle.spv_exec.proofs.operations.run_select.Goals as goal

pub frame_place-at-requires : goal.frame_place-at-requires
frame_place-at-requires c =
    let r = (room_here c.args.of.now c.module-module.ensures.valid c.args.frame.now c.requires.gives.held c.args.place c.requires.gives.value c.requires.is c.requires.gives.gives).within in omega (arith, r)

pub frame_words-count-requires : goal.frame_words-count-requires
frame_words-count-requires c = (room_here c.args.of.now c.module-module.ensures.valid c.args.frame.now c.requires.gives.held c.args.place c.requires.gives.value c.requires.is c.requires.gives.gives).within

pub write_chosen-requires : goal.write_chosen-requires
write_chosen-requires c =
    let insts = c.args.of.now.insts in
    let frame = c.args.frame.now in
    let place = c.args.place in
    let held = c.requires.gives.held in
    let value = c.requires.gives.value in
    let here = room_here c.args.of.now c.module-module.ensures.valid frame held place value c.requires.is c.requires.gives.gives in
    let r = select_run c.args.of.now c.module-module.ensures.valid frame held place c.args.condition c.args.first c.args.second value c.requires.is c.requires.reads c.requires.gives.gives in
    let many : c.span-conditions.result.1 ≡ r.count = c.span-conditions.ensures.count r.chooses.at r.chooses.defined ∙ r.chooses.long in
    let same : c.frame_words-count.result ≡ r.count = sym c.if-many-count.true ∙ many in
    record {
      room = start_room insts frame place here _ _ c.frame_place-at.ensures c.frame_words-count.ensures;
      conditions_within = start_within insts frame place c.args.condition _ r.conditions r.chooses _ _ c.span-conditions.ensures.start same;
      first_within = start_within insts frame place c.args.first _ r.words r.first _ _ c.operand-first.ensures c.frame_words-count.ensures;
      second_within = start_within insts frame place c.args.second _ r.others r.second _ _ c.operand-second.ensures c.frame_words-count.ensures;
      conditions_apart = start_apart insts frame place c.args.condition _ r.conditions r.chooses _ _ _ c.span-conditions.ensures.start same c.frame_place-at.ensures;
      first_apart = start_apart insts frame place c.args.first _ r.words r.first _ _ _ c.operand-first.ensures c.frame_words-count.ensures c.frame_place-at.ensures;
      second_apart = start_apart insts frame place c.args.second _ r.others r.second _ _ _ c.operand-second.ensures c.frame_words-count.ensures c.frame_place-at.ensures;
    }

pub write_whole-requires : goal.write_whole-requires
write_whole-requires c =
    let insts = c.args.of.now.insts in
    let frame = c.args.frame.now in
    let place = c.args.place in
    let held = c.requires.gives.held in
    let value = c.requires.gives.value in
    let here = room_here c.args.of.now c.module-module.ensures.valid frame held place value c.requires.is c.requires.gives.gives in
    let r = select_run c.args.of.now c.module-module.ensures.valid frame held place c.args.condition c.args.first c.args.second value c.requires.is c.requires.reads c.requires.gives.gives in
    let many : c.span-conditions.result.1 ≡ r.count = c.span-conditions.ensures.count r.chooses.at r.chooses.defined ∙ r.chooses.long in
    let one = r.one (λ same. c.if-many-count.false (many ∙ (same ∙ sym c.frame_words-count.ensures))) in
    let w = start_within insts frame place c.args.condition _ r.conditions r.chooses _ 1 c.span-conditions.ensures.start (sym one) in
    record {
      room = start_room insts frame place here _ _ c.frame_place-at.ensures c.frame_words-count.ensures;
      condition_within = omega (arith, w);
      first_within = start_within insts frame place c.args.first _ r.words r.first _ _ c.operand-first.ensures c.frame_words-count.ensures;
      second_within = start_within insts frame place c.args.second _ r.others r.second _ _ c.operand-second.ensures c.frame_words-count.ensures;
    }

pub returns-then-many-count : goal.returns-then-many-count
returns-then-many-count c held value g =
    let insts = c.args.of.now.insts in
    let frame = c.args.frame.now in
    let place = c.args.place in
    let count = c.frame_words-count.result in
    let r = select_run c.args.of.now c.module-module.ensures.valid frame held place c.args.condition c.args.first c.args.second value c.requires.is c.requires.reads g in
    let many : c.span-conditions.result.1 ≡ r.count = c.span-conditions.ensures.count r.chooses.at r.chooses.defined ∙ r.chooses.long in
    let same : count ≡ r.count = sym c.if-many-count.true ∙ many in
    let conditions = start_words insts frame place c.args.condition _ r.conditions r.chooses c.span-conditions.result.0 count c.span-conditions.ensures.start same in
    let first = start_words insts frame place c.args.first _ r.words r.first c.operand-first.result count c.operand-first.ensures c.frame_words-count.ensures in
    let second = start_words insts frame place c.args.second _ r.others r.second c.operand-second.result count c.operand-second.ensures c.frame_words-count.ensures in
    c.write_chosen.ensures ∙ same_written frame _ _ _ _ c.frame_place-at.ensures
    (ap (λ (l : List ℕ). chosen_words l (words_at frame c.operand-first.result count) (words_at frame c.operand-second.result count)) conditions
    ∙ (ap (λ (l : List ℕ). chosen_words r.conditions l (words_at frame c.operand-second.result count)) first ∙ (ap (chosen_words r.conditions r.words) second ∙ sym (r.each (sym same ∙ c.frame_words-count.ensures)))))

pub returns-else-many-count : goal.returns-else-many-count
returns-else-many-count c held value g =
    let insts = c.args.of.now.insts in
    let frame = c.args.frame.now in
    let place = c.args.place in
    let count = c.frame_words-count.result in
    let r = select_run c.args.of.now c.module-module.ensures.valid frame held place c.args.condition c.args.first c.args.second value c.requires.is c.requires.reads g in
    let many : c.span-conditions.result.1 ≡ r.count = c.span-conditions.ensures.count r.chooses.at r.chooses.defined ∙ r.chooses.long in
    let isnt : r.count ≡ frame_words (program_of insts) (inst_at insts place) → ⊥ = λ same. c.if-many-count.false (many ∙ (same ∙ sym c.frame_words-count.ensures)) in
    let one = r.one isnt in
    let conditions = start_words insts frame place c.args.condition _ r.conditions r.chooses c.span-conditions.result.0 1 c.span-conditions.ensures.start (sym one) in
    let word = first_word frame r.conditions c.span-conditions.result.0 1 conditions (omega arith) in
    let first = start_words insts frame place c.args.first _ r.words r.first c.operand-first.result count c.operand-first.ensures c.frame_words-count.ensures in
    let second = start_words insts frame place c.args.second _ r.others r.second c.operand-second.result count c.operand-second.ensures c.frame_words-count.ensures in
    c.write_whole.ensures ∙ same_written frame _ _ _ _ c.frame_place-at.ensures
    (ap (λ (w : ℕ). if is_true_word w then words_at frame c.operand-first.result count else words_at frame c.operand-second.result count) word
    ∙ (ap (λ (l : List ℕ). if is_true_word (slice_index r.conditions 0) then l else words_at frame c.operand-second.result count) first
    ∙ (ap (λ (l : List ℕ). if is_true_word (slice_index r.conditions 0) then r.words else l) second ∙ sym (r.whole isnt))))
