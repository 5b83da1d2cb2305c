use Rattle.std.proofs.Common.{◌≡◌, ℕ, ◌∷◌, [], List, drop, ap, sym, ◌∙◌, subst, arith, inl}
use Rattle.spirv_model.specs.declared.module.Inst.{Inst}
use Rattle.spirv_model.specs.Operands.{word_at}
use Rattle.valid_model.specs.Definitions.{definition, inst_at}
use Rattle.valid_model.specs.Meanings.{meaning}
use Rattle.stage_model.specs.Value.{part_along}
use Rattle.stage_model.specs.Program.{program_of}
use Rattle.frame_model.specs.Along.{word_along, ShowsIndices}
use Rattle.frame_model.specs.Frame.{OUTSIDE, frame_place, in_frame}
use Rattle.frame_model.specs.Written.{written}
use Rattle.frame_model.proofs.AccessOperands.{one_room}
use Rattle.frame_model.proofs.ChainOperands.{chain_stands, chain_stays, chain_goes}
use Rattle.spv_exec.proofs.accesses.run_chain.Goals as goal

pub returns-then-pointer : goal.returns-then-pointer
returns-then-pointer c = λ held value g.
    let words = c.args.of.now in let frame = c.args.frame.now in let place = c.args.place in
    let s = chain_stands words c.module-module.ensures.valid frame held place value g c.requires.is in
    let id : c.word-base.result ≡ word_at 2 (inst_at words.insts place) = c.word-base.ensures ∙ ap (word_at 2) c.inst-inst.ensures in
    let word = c.word_of-pointer.ensures s.stands.at (ap (definition words.insts) id ∙ s.stands.defined) in
    let stays = chain_stays words frame place value s (sym word ∙ c.if-pointer.true) in
    let room = one_room words c.module-module.ensures.valid frame held place OUTSIDE value g stays in
    c.put.ensures (omega (arith, room, c.frame_place-to.ensures))
    ∙ (ap (λ (n : ℕ). written frame n (OUTSIDE ∷ [])) c.frame_place-to.ensures ∙ ap (written frame (frame_place (program_of words.insts) place)) (sym stays))

pub returns : goal.returns
returns c = λ held value g.
    let words = c.args.of.now in let frame = c.args.frame.now in let place = c.args.place in
    let program = program_of words.insts in
    let s = chain_stands words c.module-module.ensures.valid frame held place value g c.requires.is in
    let id : c.word-base.result ≡ word_at 2 (inst_at words.insts place) = c.word-base.ensures ∙ ap (word_at 2) c.inst-inst.ensures in
    let word = c.word_of-pointer.ensures s.stands.at (ap (definition words.insts) id ∙ s.stands.defined) in
    let goes = chain_goes words frame place value s (λ e. c.if-pointer.false (word ∙ e)) in
    let ids : c.words_from.result.now ≡ drop 3 (inst_at words.insts place).words = c.words_from.ensures ∙ ap (λ (inst : Inst). drop 3 inst.words) c.inst-inst.ensures in
    let type = c.held_type.ensures s.held s.class s.from (ap (meaning words.insts) id ∙ s.is_variable) s.holds in
    let few = goes.0 in
    let end = c.along-word.ensures s.layout s.indices (record {
      typed = inl (ap program.layout type ∙ s.known);
      shows = subst (λ (l : List ℕ). ShowsIndices program frame l s.indices) (sym ids) s.shows;
      takes = s.takes;
      fits = omega (arith, word, few);
    }) in
    let made : in_frame program value ≡ c.along-word.result ∷ [] = goes.1 ∙ (ap (λ (n : ℕ). word_along n (part_along s.layout s.indices) ∷ []) (sym word) ∙ ap (λ (n : ℕ). n ∷ []) (sym end)) in
    let room = one_room words c.module-module.ensures.valid frame held place c.along-word.result value g made in
    c.put-2.ensures (omega (arith, room, c.frame_place-to.ensures))
    ∙ (ap (λ (n : ℕ). written frame n (c.along-word.result ∷ [])) c.frame_place-to.ensures ∙ ap (written frame (frame_place program place)) (sym made))
