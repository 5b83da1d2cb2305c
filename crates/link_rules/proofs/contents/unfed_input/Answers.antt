use Rattle.std.proofs.Common.{ℕ, Bool, sym, ◌∙◌, refl, rules, tests}
use Rattle.std.specs.List.{range_with_len}
use Rattle.std.proofs.lemmas.Iterator.{YieldsList-from_range}
use Rattle.std.proofs.lemmas.Iterator.Search.{find_from_yields_List}
use Rattle.state_model.specs.Lawful.{present_at}
use Rattle.state_model.specs.Link.{unfed_input, lacks_attribute}
use Rattle.limits.specs.declared.TheConstants.{LOCATIONS}
use Rattle.link_rules.proofs.Lists.{find-pair, option_map_same}
use Rattle.link_rules.proofs.contents.unfed_input.Goals as goal

pub returns : goal.returns
unfolding unfed_input
returns c =
    let one = c.args.libs.now in
    let test : ℕ → Bool = λ l. lacks_attribute (present_at one.prerast.inputs.slots l) (present_at one.vertex.part.attributes l) in
    let found = find_from_yields_List test _ _ c.find.result c.find.ensures.ran (YieldsList-from_range 0 LOCATIONS LOCATIONS refl refl) (λ x b q k. search (rules, tests)) in
    sym (option_map_same c.find.result) ∙ found ∙ sym (find-pair test (range_with_len 0 LOCATIONS))
