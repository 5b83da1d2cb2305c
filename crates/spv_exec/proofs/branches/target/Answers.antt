use Rattle.std.proofs.Common.{◌≡◌, ℕ, List, ap, sym, ◌∙◌, drop, arith}
use Rattle.spirv_model.specs.declared.module.Inst.{Inst}
use Rattle.spirv_model.specs.declared.op.TheConstants as op
use Rattle.spirv_model.specs.Operands.{word_at}
use Rattle.valid_model.specs.Definitions.{definition, inst_at}
use Rattle.stage_model.specs.Program.{program_of}
use Rattle.stage_model.specs.Effect.{target_for}
use Rattle.frame_model.specs.Frame.{frame_place}
use Rattle.spv_exec.proofs.BranchTargets.{branch_label, false_label, true_label, switch_label}
use Rattle.spv_exec.proofs.branches.target.Goals as goal

pub returns-in-249 : goal.returns-in-249
returns-in-249 c = λ label v g.
    c.word.ensures ∙ (ap (word_at 0) c.inst-inst.ensures ∙ branch_label c.args.of.now c.args.frame.now c.args.place label (ap (λ (i : Inst). i.op) (sym c.inst-inst.ensures) ∙ c.in-249.is) g)

pub returns-then-word_of-eq0 : goal.returns-then-word_of-eq0
unfolding program_of
returns-then-word_of-eq0 c = λ label v g.
    let id : c.word-in-250.result ≡ word_at 0 (inst_at c.args.of.now.insts c.args.place) = c.word-in-250.ensures ∙ ap (word_at 0) c.inst-inst.ensures in
    c.word-then-word_of-eq0.ensures
    ∙ (ap (word_at 2) c.inst-inst.ensures
    ∙ false_label c.args.of.now v c.args.frame.now c.args.place label c.word_of.result (ap (λ (i : Inst). i.op) (sym c.inst-inst.ensures) ∙ c.in-250.is) g
    (λ place defined. c.word_of.ensures place (ap (definition c.args.of.now.insts) id ∙ defined)) c.if-word_of-eq0.true)

pub returns-else-word_of-eq0 : goal.returns-else-word_of-eq0
unfolding program_of
returns-else-word_of-eq0 c = λ label v g.
    let id : c.word-in-250.result ≡ word_at 0 (inst_at c.args.of.now.insts c.args.place) = c.word-in-250.ensures ∙ ap (word_at 0) c.inst-inst.ensures in
    c.word-else-word_of-eq0.ensures
    ∙ (ap (word_at 1) c.inst-inst.ensures
    ∙ true_label c.args.of.now v c.args.frame.now c.args.place label c.word_of.result (ap (λ (i : Inst). i.op) (sym c.inst-inst.ensures) ∙ c.in-250.is) g
    (λ place defined. c.word_of.ensures place (ap (definition c.args.of.now.insts) id ∙ defined)) c.if-word_of-eq0.false)

pub returns-in_default : goal.returns-in_default
unfolding program_of
returns-in_default c = λ label v g.
    let inst = inst_at c.args.of.now.insts c.args.place in
    let id : c.word-in_default.result ≡ word_at 0 inst = c.word-in_default.ensures ∙ ap (word_at 0) c.inst-inst.ensures in
    let default : c.word-in_default-2.result ≡ word_at 1 inst = c.word-in_default-2.ensures ∙ ap (word_at 1) c.inst-inst.ensures in
    let cases : c.words_from.result.now ≡ drop 2 inst.words = c.words_from.ensures ∙ ap (λ (i : Inst). drop 2 i.words) c.inst-inst.ensures in
    c.target_for.ensures
    ∙ (ap (λ (n : ℕ). target_for c.word_of-in_default.result n c.words_from.result.now) default
    ∙ (ap (target_for c.word_of-in_default.result (word_at 1 inst)) cases
    ∙ switch_label c.args.of.now v c.args.frame.now c.args.place label c.word_of-in_default.result
    (λ is. let e : c.inst-inst.result.now.op ≡ op.BRANCH = ap (λ (i : Inst). i.op) c.inst-inst.ensures ∙ is in omega (arith, e))
    (λ is. let e : c.inst-inst.result.now.op ≡ op.BRANCH_CONDITIONAL = ap (λ (i : Inst). i.op) c.inst-inst.ensures ∙ is in omega (arith, e)) g (λ place defined. c.word_of-in_default.ensures place (ap (definition c.args.of.now.insts) id ∙ defined))))
