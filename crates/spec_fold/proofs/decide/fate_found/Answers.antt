use Rattle.std.proofs.Common.{List, ℕ, ◌≤◌, ◌<◌, ◌+◌, length, ap, ◌∙◌, subst}
use Rattle.spirv_model.specs.declared.module.Inst.{Inst}
use Rattle.check_model.specs.Intervals.{intervals_of}
use Rattle.change_model.specs.Passes.{fate_found}
use Rattle.spec_fold.specs.Walks.{plan_in}
use Rattle.spec_fold.proofs.Bounds.{begins_at, early, late, nowhere}
use Rattle.spec_fold.proofs.decide.fate_found.Goals.{then-place-facts-via-then-place-facts, then-place-facts-via-else-place-facts+then-place-insts}
use Rattle.spec_fold.proofs.decide.fate_found.Goals as goal

pub returns-then-place-facts-clause-inside : goal.returns-then-place-facts-clause-inside
returns-then-place-facts-clause-inside c v low high =
    let facts = c.args.facts.now in
    elim c.then-place-facts.branch [
      | then-place-facts-via-then-place-facts w ↦ early facts c.requires.facts v c.args.place w.if-place-facts.true low
      | then-place-facts-via-else-place-facts+then-place-insts w ↦
          late facts v c.args.place (subst (λ (l : List Inst). length l ≤ c.args.place + 1) c.insts-insts.ensures.are w.if-place-insts.true) high
    ]

pub returns-clause-outside : goal.returns-clause-outside
returns-clause-outside c v outside =
    nowhere c.args.facts.now c.requires.facts v c.args.place c.if-place-facts.false
    (subst (λ (l : List Inst). c.args.place + 1 < length l) c.insts-insts.ensures.are c.if-place-insts.false) outside

pub returns-clause-inside : goal.returns-clause-inside
returns-clause-inside c v low high =
    let facts = c.args.facts.now in
    c.fate_inside.ensures v
    ∙ ap (λ (n : ℕ). fate_found (intervals_of v.derivation) facts.of.now.insts facts.zeros.now (n + 1) (plan_in c.args.walk.now) c.args.place) (begins_at facts c.requires.facts v)
