use Rattle.std.proofs.Common.{◌≡◌, ℕ, ◌+◌, ◌<◌, ◌≤◌, ◌==◌, true, length, ap, sym, ◌∙◌, subst, arith, inl, inr, refl}
use Rattle.std.proofs.lemmas.Bool.{cases_lt}
use Rattle.spirv_model.specs.declared.module.Inst.{Inst}
use Rattle.spirv_model.specs.declared.op.TheConstants as op
use Rattle.valid_model.specs.Definitions.{inst_at}
use Rattle.stage_model.specs.Program.{program_of}
use Rattle.spv_exec.proofs.PhiWords.{one_more, all_taken, no_more}
use Rattle.spv_exec.proofs.phis.take_phis.Goals as goal

pub returns-then-inst-ne-PHI : goal.returns-then-inst-ne-PHI
unfolding program_of
returns-then-inst-ne-PHI c = λ values is also reads.
    all_taken (program_of c.args.of.now.insts) c.loop-place.incoming values c.args.before c.args.first c.loop-place.place (c.loop-place.invariant.shows values is also reads)
    (no_more (program_of c.args.of.now.insts) c.args.first c.loop-place.place c.loop-place.invariant.low (λ e. c.if-inst-ne-PHI.true (ap (λ (inst : Inst). inst.op) c.inst.ensures ∙ e)))

pub loop-place-preserved : goal.loop-place-preserved
unfolding program_of
loop-place-preserved c =
    let insts = c.args.of.now.insts in let place = c.loop-place.place in
    let within : place < length insts = omega (arith, c.loop-place-test.true, c.count.ensures) in
    let is_phi : (inst_at insts place).op == op.PHI ≡ true = ap (λ (n : ℕ). n == op.PHI) (ap (λ (inst : Inst). inst.op) (sym c.inst.ensures) ∙ c.if-inst-ne-PHI.false) in
    let phis = λ (other : ℕ) (low : c.args.first ≤ other) (high : other < place + 1).
    elim (cases_lt other place) as (λ _. (inst_at insts other).op == op.PHI ≡ true) [
      | inl early ↦ c.loop-place.invariant.phis other low early
      | inr late ↦ let e : other ≡ place = omega (arith, late, high) in ap (λ (n : ℕ). (inst_at insts n).op == op.PHI) e ∙ is_phi
    ] in
    record {
      low = let l = c.loop-place.invariant.low in omega (arith, l);
      high = omega (arith, within);
      phis = phis;
      shows = λ values is also reads.
          let r = reads place c.loop-place.invariant.low within (λ other low high. phis other low (omega (arith, high))) in
          let before = c.loop-place.invariant.shows values is also reads in
          one_more (program_of insts) c.args.frame.now c.loop-place.incoming c.take_phi.new.incoming values c.args.before c.args.first place within before r (c.take_phi.ensures values is before.size r);
    }

pub returns : goal.returns
unfolding program_of
returns c = λ values is also reads.
    all_taken (program_of c.args.of.now.insts) c.loop-place.incoming values c.args.before c.args.first c.loop-place.place (c.loop-place.invariant.shows values is also reads)
    (λ place past within phis. absurd (omega (arith, past, within, c.loop-place-test.false, c.count.ensures)))
