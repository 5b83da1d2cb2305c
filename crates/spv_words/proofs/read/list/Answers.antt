use Rattle.std.proofs.Common.{◌≤◌, subst, sym, ◌∙◌, ap, not, length, length-append, arith}
use Rattle.std.proofs.lemmas.Grind.{common_steps}
use Rattle.std.proofs.lemmas.List.Elements.{All-push}
use Rattle.spirv_model.specs.declared.module.Inst.{Inst}
use Rattle.spirv_model.specs.Module.{fault_at}
use Rattle.spv_words.specs.Writing.{AreShort}
use Rattle.spv_words.proofs.WordCuts.{Stands, stood, stops-zero, stops-short, stops-faulty, skips-on, lists-on, lists-all}
use Rattle.spv_words.proofs.read.list.Goals as goal

pub returns-then-count-eq0-clause-gives : goal.returns-then-count-eq0-clause-gives
returns-then-count-eq0-clause-gives c = stops-zero c.loop-first.insts _ c.loop-first.rest.now _ c.in-Some.first.now c.in-Some.after.now c.loop-first.invariant.whole c.in-Some.ensures.cases.0 c.if-count-eq0.true

pub returns-then-after-more-clause-gives : goal.returns-then-after-more-clause-gives
returns-then-after-more-clause-gives c =
    stops-short c.loop-first.insts _ c.loop-first.rest.now _ c.in-Some.first.now c.in-Some.after.now c.loop-first.invariant.whole c.in-Some.ensures.cases.0
    c.if-count-eq0.false c.if-after-more.true

pub returns-in_err-is_listed-clause-gives : goal.returns-in_err-is_listed-clause-gives
returns-in_err-is_listed-clause-gives c =
    let stands : Stands c.loop-first.rest.now c.in-Some.first.now c.in-Some.after.now c.split_at.result.0.now c.split_at.result.1.now =
    record { is = c.in-Some.ensures.cases.0; counted = c.if-count-eq0.false; there = c.if-after-more.false; own_is = c.split_at.ensures.front; next_is = c.split_at.ensures.back }
    in
    let broken = ap (λ place. fault_at place (stood c.in-Some.first.now c.split_at.result.0.now)) (sym c.len.ensures) ∙ c.in_err-is_listed.ensures in
    let given = stops-faulty c.loop-first.insts _ c.loop-first.rest.now _ _ _ _ _ c.in_err-is_listed.field-0.0 c.loop-first.invariant.whole stands broken in
    grind (arith, common_steps, given)

pub loop-first-preserved-then-not-branch : goal.loop-first-preserved-then-not-branch
loop-first-preserved-then-not-branch c =
    let stands : Stands c.loop-first.rest.now c.in-Some.first.now c.in-Some.after.now c.split_at.result.0.now c.split_at.result.1.now =
    record { is = c.in-Some.ensures.cases.0; counted = c.if-count-eq0.false; there = c.if-after-more.false; own_is = c.split_at.ensures.front; next_is = c.split_at.ensures.back }
    in
    let sound = ap (λ place. fault_at place (stood c.in-Some.first.now c.split_at.result.0.now)) (sym c.len.ensures) ∙ c.in_ok-is_listed.ensures.0 in
    record {
      whole = skips-on c.loop-first.insts c.loop-first.rest.now _ _ _ _ _ c.loop-first.invariant.whole stands sound (c.in_ok-is_listed.ensures.1 ∙ ap not c.if-not-branch.true);
      few = omega (arith, ap length stands.is);
      short = c.loop-first.invariant.short;
    }

pub loop-first-preserved : goal.loop-first-preserved
loop-first-preserved c =
    let stands : Stands c.loop-first.rest.now c.in-Some.first.now c.in-Some.after.now c.split_at.result.0.now c.split_at.result.1.now =
    record { is = c.in-Some.ensures.cases.0; counted = c.if-count-eq0.false; there = c.if-after-more.false; own_is = c.split_at.ensures.front; next_is = c.split_at.ensures.back }
    in
    let sound = ap (λ place. fault_at place (stood c.in-Some.first.now c.split_at.result.0.now)) (sym c.len.ensures) ∙ c.in_ok-is_listed.ensures.0 in
    record {
      whole =
          lists-on c.loop-first.insts _ c.loop-first.rest.now _ _ _ _ _ _ c.loop-first.invariant.whole stands sound (c.in_ok-is_listed.ensures.1 ∙ ap not c.if-not-branch.false) c.in_ok-words.ensures c.in_ok-push.ensures.ok;
      few = omega (arith, ap length stands.is, ap length c.in_ok-push.ensures.ok, length-append {A = Inst});
      short =
          let brief : length c.in_ok-words.words ≤ 65534 = omega (arith, ap length stands.is, ap length c.in_ok-words.ensures) in
          subst AreShort (sym c.in_ok-push.ensures.ok) (All-push (λ (inst : Inst). length inst.words ≤ 65534) c.loop-first.insts _ c.loop-first.invariant.short brief);
    }

pub returns-clause-gives : goal.returns-clause-gives
returns-clause-gives c =
    lists-all c.loop-first.insts _ c.loop-first.rest.now _ c.loop-first.invariant.whole c.in_default.ensures.cases
