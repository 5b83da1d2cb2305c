use Rattle.std.proofs.Common.{ℕ, sym, ◌∙◌}
use Rattle.std.specs.Ordering.{nat_cmp}
use Rattle.std.specs.BTreeSet.{contains}
use Rattle.std.proofs.lemmas.Bool.{and_from}
use Rattle.std.proofs.lemmas.List.Folds.{list_all_at, list_all_more}
use Rattle.spv_check.proofs.visibility.are_all_in.Goals as goal

pub returns-then-not-contains : goal.returns-then-not-contains
returns-then-not-contains c =
    sym (list_all_at (λ (label : ℕ). contains nat_cmp c.args.set.now label) c.args.labels.now c.loop-label.label-index 0 c.loop-label-test.true (sym c.contains.ensures ∙ c.if-not-contains.true))

pub loop-label-preserved : goal.loop-label-preserved
loop-label-preserved c =
    list_all_more (λ (label : ℕ). contains nat_cmp c.args.set.now label) c.args.labels.now c.loop-label.label-index 0 c.loop-label-test.true
    ∙ and_from _ _ c.loop-label.invariant (sym c.contains.ensures ∙ c.if-not-contains.false)
