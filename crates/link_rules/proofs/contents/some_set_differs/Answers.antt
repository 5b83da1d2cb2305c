use Rattle.std.proofs.Common.{refl, rules, tests}
use Rattle.std.proofs.lemmas.Iterator.{YieldsList-from_range}
use Rattle.std.proofs.lemmas.Iterator.Search.{any_from_yields_List}
use Rattle.state_model.specs.Lawful.{present_at}
use Rattle.state_model.specs.Link.{differ_sets}
use Rattle.limits.specs.declared.TheConstants.{DESCRIPTOR_SETS}
use Rattle.link_rules.proofs.contents.some_set_differs.Goals as goal

pub returns : goal.returns
returns c =
    any_from_yields_List (λ set. differ_sets (present_at c.args.a.now.sets set) (present_at c.args.b.now.sets set)) _ _ _ c.any.ensures.ran (YieldsList-from_range 0 DESCRIPTOR_SETS DESCRIPTOR_SETS refl refl) (λ x b q k. search (rules, tests))
