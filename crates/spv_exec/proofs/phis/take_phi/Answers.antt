use Rattle.std.proofs.Common.{◌≡◌, ℕ, List, [], ◌∷◌, drop, ap, sym, ◌∙◌}
use Rattle.spirv_model.specs.declared.module.Inst.{Inst}
use Rattle.valid_model.specs.Definitions.{inst_at}
use Rattle.stage_model.specs.Program.{program_of}
use Rattle.stage_model.specs.Effect.{paired_with}
use Rattle.spv_exec.proofs.PhiWords.{taken, no_pair}
use Rattle.spv_exec.proofs.phis.take_phi.Goals as goal

pub returns-in-Some : goal.returns-in-Some
unfolding program_of
returns-in-Some c = λ values is also r.
    let words : c.words_from.result.now ≡ drop 2 (inst_at c.args.of.now.insts c.args.place).words = c.words_from.ensures ∙ ap (λ (inst : Inst). drop 2 inst.words) c.inst.ensures in
    let pair : paired_with c.args.before (drop 2 (inst_at c.args.of.now.insts c.args.place).words) ≡ c.in-Some.id ∷ [] = ap (paired_with c.args.before) (sym words) ∙ c.in-Some.ensures in
    taken (program_of c.args.of.now.insts) c.args.frame.now c.args.incoming.now c.copy_words.new.to values c.args.before c.args.place c.in-Some.id c.operand.result c.frame_words.result c.frame_place.result is also c.requires r pair
    c.operand.ensures c.frame_words.ensures c.frame_place.ensures c.copy_words.ensures

pub returns-in_default : goal.returns-in_default
unfolding program_of
returns-in_default c = λ values is also r.
    let words : c.words_from.result.now ≡ drop 2 (inst_at c.args.of.now.insts c.args.place).words = c.words_from.ensures ∙ ap (λ (inst : Inst). drop 2 inst.words) c.inst.ensures in
    absurd (no_pair c.paired.result (paired_with c.args.before c.words_from.result.now) r.id c.paired.ensures c.in_default.not-Some (ap (paired_with c.args.before) words ∙ r.pair))
