use Rattle.std.proofs.Common.{◌≡◌, ℕ, replicate, ap, sym, ◌∙◌, arith}
use Rattle.spirv_model.specs.Operands.{word_at}
use Rattle.valid_model.specs.Definitions.{definition, inst_at}
use Rattle.stage_model.specs.Program.{program_of}
use Rattle.frame_model.specs.Frame.{frame_place}
use Rattle.frame_model.specs.Shown.{words_at}
use Rattle.frame_model.specs.Written.{written}
use Rattle.frame_model.proofs.AccessOperands.{load_stands, load_clears, load_copies}
use Rattle.spv_exec.proofs.accesses.run_load.Goals as goal

pub returns-then-pointer : goal.returns-then-pointer
returns-then-pointer c = λ held value shows g.
    let words = c.args.of.now in let frame = c.args.frame.now in let place = c.args.place in
    let s = load_stands words c.module-module.ensures.valid frame c.args.memory.now held place value shows g c.requires.is in
    let id : c.word.result ≡ word_at 2 (inst_at words.insts place) = c.word.ensures ∙ ap (word_at 2) c.inst.ensures in
    let word = c.word_of-pointer.ensures s.stands.at (ap (definition words.insts) id ∙ s.stands.defined) in
    let zeros = load_clears words frame c.args.memory.now place value s (sym word ∙ c.if-pointer.true) in
    let room = s.room in let size = s.size in
    c.clear_words.ensures (omega (arith, room, size, c.frame_place-to.ensures, c.frame_words-count.ensures))
    ∙ (ap (λ (n : ℕ). written frame n (replicate c.frame_words-count.result 0)) c.frame_place-to.ensures
    ∙ ap (written frame (frame_place (program_of words.insts) place)) (ap (λ (n : ℕ). replicate n 0) c.frame_words-count.ensures ∙ sym zeros))

pub returns : goal.returns
returns c = λ held value shows g.
    let words = c.args.of.now in let frame = c.args.frame.now in let memory = c.args.memory.now in let place = c.args.place in
    let s = load_stands words c.module-module.ensures.valid frame memory held place value shows g c.requires.is in
    let id : c.word.result ≡ word_at 2 (inst_at words.insts place) = c.word.ensures ∙ ap (word_at 2) c.inst.ensures in
    let word = c.word_of-pointer.ensures s.stands.at (ap (definition words.insts) id ∙ s.stands.defined) in
    let copies = load_copies words frame memory place value s (λ e. c.if-pointer.false (word ∙ e)) in
    let room = s.room in let size = s.size in let fits = copies.0 in
    c.copy_words.ensures (omega (arith, fits, word, c.frame_words-count.ensures)) (omega (arith, room, size, c.frame_place-to.ensures, c.frame_words-count.ensures))
    ∙ (ap (λ (n : ℕ). written frame n (words_at memory c.word_of-pointer.result c.frame_words-count.result)) c.frame_place-to.ensures
    ∙ ap (written frame (frame_place (program_of words.insts) place))
    (ap (λ (n : ℕ). words_at memory n c.frame_words-count.result) word ∙ (ap (words_at memory _) c.frame_words-count.ensures ∙ sym copies.1)))
