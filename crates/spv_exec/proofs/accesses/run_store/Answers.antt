use Rattle.std.proofs.Common.{◌≡◌, ℕ, ap, sym, ◌∙◌, arith}
use Rattle.spirv_model.specs.Operands.{word_at}
use Rattle.valid_model.specs.Definitions.{definition, inst_at}
use Rattle.stage_model.specs.Program.{program_of}
use Rattle.typed_model.proofs.ValidTypes.{defined_within}
use Rattle.frame_model.specs.Frame.{frame_words, frame_place}
use Rattle.frame_model.proofs.AccessOperands.{store_passes, store_writes}
use Rattle.spv_exec.proofs.StoreWords.{stands_for_store, passed, same_place, store_at_word}
use Rattle.spv_exec.proofs.accesses.run_store.Goals as goal

pub inst-inst-requires : goal.inst-inst-requires
unfolding program_of
inst-inst-requires c = c.requires.stores.stores.within

pub frame_place-at-requires : goal.frame_place-at-requires
frame_place-at-requires c = let w = defined_within c.args.of.now.insts c.word-2.result c.in-Some.object (sym c.in-Some.ensures) in omega (arith, w)

pub frame_words-count-requires : goal.frame_words-count-requires
frame_words-count-requires c = defined_within c.args.of.now.insts c.word-2.result c.in-Some.object (sym c.in-Some.ensures)

pub returns-then-pointer : goal.returns-then-pointer
returns-then-pointer c = λ held effect s.
    let words = c.args.of.now in
    let t = stands_for_store words c.module-module.ensures.valid c.args.frame.now c.args.memory.now held c.args.place effect s in
    let id : c.word.result ≡ word_at 0 (inst_at words.insts c.args.place) = c.word.ensures ∙ ap (word_at 0) c.inst-inst.ensures in
    let word = c.word_of-pointer.ensures t.stands.at (ap (definition words.insts) id ∙ t.stands.defined) in
    passed (program_of words.insts) c.args.memory.now held effect s.holds (store_passes words c.args.frame.now c.args.memory.now held c.args.place effect t (sym word ∙ c.if-pointer.true))

pub returns-in_default : goal.returns-in_default
returns-in_default c = λ held effect s.
    let words = c.args.of.now in
    let t = stands_for_store words c.module-module.ensures.valid c.args.frame.now c.args.memory.now held c.args.place effect s in
    let id : c.word-2.result ≡ word_at 1 (inst_at words.insts c.args.place) = c.word-2.ensures ∙ ap (word_at 1) c.inst-inst.ensures in
    absurd (c.in_default.not-Some t.object_stands.at (c.definition.ensures ∙ (ap (definition words.insts) id ∙ t.object_stands.defined)))

pub returns : goal.returns
returns c = λ held effect s.
    let words = c.args.of.now in let frame = c.args.frame.now in let memory = c.args.memory.now in
    let t = stands_for_store words c.module-module.ensures.valid frame memory held c.args.place effect s in
    let id : c.word.result ≡ word_at 0 (inst_at words.insts c.args.place) = c.word.ensures ∙ ap (word_at 0) c.inst-inst.ensures in
    let word = c.word_of-pointer.ensures t.stands.at (ap (definition words.insts) id ∙ t.stands.defined) in
    let own : c.word-2.result ≡ word_at 1 (inst_at words.insts c.args.place) = c.word-2.ensures ∙ ap (word_at 1) c.inst-inst.ensures in
    let at : c.in-Some.object ≡ t.object_stands.at = same_place c.in-Some.object t.object_stands.at (c.in-Some.ensures ∙ (ap (definition words.insts) own ∙ t.object_stands.defined)) in
    let writes = store_writes words frame memory held c.args.place effect t (λ e. c.if-pointer.false (word ∙ e)) in
    let from : c.frame_place-at.result ≡ frame_place (program_of words.insts) t.object_stands.at = c.frame_place-at.ensures ∙ ap (frame_place (program_of words.insts)) at in
    let count : c.frame_words-count.result ≡ frame_words (program_of words.insts) (inst_at words.insts t.object_stands.at) =
    c.frame_words-count.ensures ∙ ap (λ (n : ℕ). frame_words (program_of words.insts) (inst_at words.insts n)) at in
    store_at_word words frame memory c.copy_words.new.to held t.object effect t.object_stands.at c.word_of-pointer.result _ c.frame_place-at.result c.frame_words-count.result t.object_stands.words word from count writes c.copy_words.ensures
