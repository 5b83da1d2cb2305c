use Rattle.std.proofs.Common.{◌≡◌, ℕ, false, ◌==◌, List, [], ◌∷◌, map, sym, ap, ◌∙◌, arith, rules, tests}
use Rattle.std.specs.List.{list_any, list_all}
use Rattle.spirv_model.specs.declared.module.Inst.{Inst}
use Rattle.spirv_model.specs.declared.op.TheConstants as op
use Rattle.valid_model.specs.Definitions.{inst_at}
use Rattle.stage_model.specs.Value.{word_of_truth}
use Rattle.spv_ops.specs.ScalarWords.{word_of_one}
use Rattle.frame_model.specs.Shown.{words_at}
use Rattle.frame_model.specs.Componentwise.{is_true_word}
use Rattle.spv_exec.proofs.ComponentResults.{room_here, unary_run, any_run, all_run, start_within, start_apart, start_words, start_room, same_written}
use Rattle.spv_exec.proofs.operations.run_unary.Goals as goal

pub inst-requires : goal.inst-requires
inst-requires c = (room_here c.args.of.now c.module-module.ensures.valid c.args.frame.now c.requires.gives.held c.args.place c.requires.gives.value c.requires.is c.requires.gives.gives).within

pub frame_place-at-requires : goal.frame_place-at-requires
frame_place-at-requires c =
    let r = (room_here c.args.of.now c.module-module.ensures.valid c.args.frame.now c.requires.gives.held c.args.place c.requires.gives.value c.requires.is c.requires.gives.gives).within in omega (arith, r)

pub frame_words-requires : goal.frame_words-requires
frame_words-requires c = (room_here c.args.of.now c.module-module.ensures.valid c.args.frame.now c.requires.gives.held c.args.place c.requires.gives.value c.requires.is c.requires.gives.gives).within

-- ---- OpAny and OpAll

pub write_any-requires : goal.write_any-requires
write_any-requires c =
    let insts = c.args.of.now.insts in
    let frame = c.args.frame.now in
    let place = c.args.place in
    let held = c.requires.gives.held in
    let value = c.requires.gives.value in
    let here = room_here c.args.of.now c.module-module.ensures.valid frame held place value c.requires.is c.requires.gives.gives in
    let r = any_run c.args.of.now c.module-module.ensures.valid frame held place c.args.operand value c.requires.is c.requires.reads (sym (ap (λ (i : Inst). i.op) c.inst.ensures) ∙ c.if-op-eq-ANY.true) c.requires.gives.gives in
    let room = start_room insts frame place here c.frame_place-at.result 1 c.frame_place-at.ensures (sym r.one) in
    record {
      within = start_within insts frame place c.args.operand _ r.words r.operand _ _ c.span-from.ensures.start (c.span-from.ensures.count r.operand.at r.operand.defined ∙ r.operand.long);
      room = omega (arith, room);
    }

pub write_all-requires : goal.write_all-requires
write_all-requires c =
    let insts = c.args.of.now.insts in
    let frame = c.args.frame.now in
    let place = c.args.place in
    let held = c.requires.gives.held in
    let value = c.requires.gives.value in
    let here = room_here c.args.of.now c.module-module.ensures.valid frame held place value c.requires.is c.requires.gives.gives in
    let r = all_run c.args.of.now c.module-module.ensures.valid frame held place c.args.operand value c.requires.is c.requires.reads (sym (ap (λ (i : Inst). i.op) c.inst.ensures) ∙ c.if-op-eq-ALL.true) c.requires.gives.gives in
    let room = start_room insts frame place here c.frame_place-at.result 1 c.frame_place-at.ensures (sym r.one) in
    record {
      within = start_within insts frame place c.args.operand _ r.words r.operand _ _ c.span-from-then-op-eq-ALL.ensures.start (c.span-from-then-op-eq-ALL.ensures.count r.operand.at r.operand.defined ∙ r.operand.long);
      room = omega (arith, room);
    }

pub returns-then-op-eq-ANY : goal.returns-then-op-eq-ANY
returns-then-op-eq-ANY c held value g =
    let insts = c.args.of.now.insts in
    let frame = c.args.frame.now in
    let place = c.args.place in
    let r = any_run c.args.of.now c.module-module.ensures.valid frame held place c.args.operand value c.requires.is c.requires.reads (sym (ap (λ (i : Inst). i.op) c.inst.ensures) ∙ c.if-op-eq-ANY.true) g in
    let words = start_words insts frame place c.args.operand _ r.words r.operand c.span-from.result.0 c.span-from.result.1 c.span-from.ensures.start (c.span-from.ensures.count r.operand.at r.operand.defined ∙ r.operand.long) in
    c.write_any.ensures ∙ same_written frame _ _ _ _ c.frame_place-at.ensures (ap (λ (l : List ℕ). word_of_truth (list_any is_true_word l) ∷ []) words ∙ sym r.new)

pub returns-then-op-eq-ALL : goal.returns-then-op-eq-ALL
returns-then-op-eq-ALL c held value g =
    let insts = c.args.of.now.insts in
    let frame = c.args.frame.now in
    let place = c.args.place in
    let r = all_run c.args.of.now c.module-module.ensures.valid frame held place c.args.operand value c.requires.is c.requires.reads (sym (ap (λ (i : Inst). i.op) c.inst.ensures) ∙ c.if-op-eq-ALL.true) g in
    let words = start_words insts frame place c.args.operand _ r.words r.operand c.span-from-then-op-eq-ALL.result.0 c.span-from-then-op-eq-ALL.result.1 c.span-from-then-op-eq-ALL.ensures.start
    (c.span-from-then-op-eq-ALL.ensures.count r.operand.at r.operand.defined ∙ r.operand.long) in
    c.write_all.ensures ∙ same_written frame _ _ _ _ c.frame_place-at.ensures (ap (λ (l : List ℕ). word_of_truth (list_all is_true_word l) ∷ []) words ∙ sym r.new)

-- ---- each component

-- an opcode that isn't this one
other : (opcode own constant : ℕ) → opcode ≡ own → (opcode ≡ constant → ⊥) → own == constant ≡ false
other opcode own constant is isnt = not_same own constant (λ e. isnt (is ∙ e))
  where
    not_same : (a b : ℕ) → (a ≡ b → ⊥) → a == b ≡ false
    not_same a b isnt = search (tests, rules)

pub write_unary-requires : goal.write_unary-requires
write_unary-requires c =
    let insts = c.args.of.now.insts in
    let frame = c.args.frame.now in
    let place = c.args.place in
    let held = c.requires.gives.held in
    let value = c.requires.gives.value in
    let here = room_here c.args.of.now c.module-module.ensures.valid frame held place value c.requires.is c.requires.gives.gives in
    let opcode = ap (λ (i : Inst). i.op) c.inst.ensures in
    let r = unary_run c.args.of.now c.module-module.ensures.valid frame held place c.args.operand value c.requires.is c.requires.reads
    (other c.inst.result.now.op (inst_at insts place).op op.ANY opcode c.if-op-eq-ANY.false) (other c.inst.result.now.op (inst_at insts place).op op.ALL opcode c.if-op-eq-ALL.false) c.requires.gives.gives in
    record {
      room = start_room insts frame place here _ _ c.frame_place-at.ensures c.frame_words.ensures;
      within = start_within insts frame place c.args.operand _ r.words r.operand _ _ c.operand.ensures c.frame_words.ensures;
      apart = start_apart insts frame place c.args.operand _ r.words r.operand _ _ _ c.operand.ensures c.frame_words.ensures c.frame_place-at.ensures;
    }

pub returns-else-op-eq-ALL : goal.returns-else-op-eq-ALL
returns-else-op-eq-ALL c held value g =
    let insts = c.args.of.now.insts in
    let frame = c.args.frame.now in
    let place = c.args.place in
    let opcode = ap (λ (i : Inst). i.op) c.inst.ensures in
    let r = unary_run c.args.of.now c.module-module.ensures.valid frame held place c.args.operand value c.requires.is c.requires.reads
    (other c.inst.result.now.op (inst_at insts place).op op.ANY opcode c.if-op-eq-ANY.false) (other c.inst.result.now.op (inst_at insts place).op op.ALL opcode c.if-op-eq-ALL.false) g in
    let words = start_words insts frame place c.args.operand _ r.words r.operand c.operand.result c.frame_words.result c.operand.ensures c.frame_words.ensures in
    c.write_unary.ensures ∙ same_written frame _ _ _ _ c.frame_place-at.ensures
    (ap (λ (o : ℕ). map (word_of_one o) (words_at frame c.operand.result c.frame_words.result)) opcode ∙ (ap (map (word_of_one (inst_at insts place).op)) words ∙ sym r.new))
