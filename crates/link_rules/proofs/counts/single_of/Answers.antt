use Rattle.std.proofs.Common.{◌≡◌, ◌≤◌, false, List, length, arith, map, ap, ◌∙◌}
use Rattle.std.specs.List.{slice_get}
use Rattle.state_model.specs.Link.{lacks_subset, repeats_subset, Libraries}
use Rattle.link_rules.specs.Libs.{libraries}
use Rattle.link_rules.specs.Single.{prerast_library, fragment_library}
use Rattle.link_rules.specs.declared.Libs.{Libs}
use Rattle.vertex_lib.specs.declared.VertexLib.{VertexLib}
use Rattle.prerast_lib.specs.declared.PrerastLib.{PrerastLib}
use Rattle.fragment_lib.specs.declared.FragmentLib.{FragmentLib}
use Rattle.output_lib.specs.declared.OutputLib.{OutputLib}
use Rattle.link_rules.proofs.Lists.{sole, short_list, or_parts, some_given, given_once}
use Rattle.link_rules.proofs.counts.single_of.Goals as goal

record Counts (libs : Libs) : Type 0 where
  vertex : length libs.vertex.items ≡ 1
  prerast : length libs.prerast.items ≡ 1
  fragment : length libs.fragment.items ≤ 1
  output : length libs.output.items ≤ 1

counts : (libs : Libs) → lacks_subset (libraries libs) ≡ false → repeats_subset (libraries libs) ≡ false → Counts libs
unfolding lacks_subset repeats_subset
counts libs lacks repeats =
    let shaders = or_parts _ _ (or_parts _ _ lacks).0 in
    let three = or_parts _ _ repeats in
    let two = or_parts _ _ three.0 in
    let one = or_parts _ _ two.0 in
    let vs = some_given (λ v. v.part) libs.vertex.items shaders.0 in
    let v = given_once (λ v. v.part) libs.vertex.items one.0 in
    let ps = some_given prerast_library libs.prerast.items shaders.1 in
    let p = given_once prerast_library libs.prerast.items one.1 in
    record {
      vertex = omega arith;
      prerast = omega arith;
      fragment = given_once fragment_library libs.fragment.items two.1;
      output = given_once (λ o. o.part) libs.output.items three.1;
    }

abbrev made : List VertexLib → List PrerastLib → List FragmentLib → List OutputLib → Libraries
made vs ps fs os = record {
  vertex = map (λ v. v.part) vs;
  prerast = map prerast_library ps;
  fragment = map fragment_library fs;
  output = map (λ o. o.part) os;
}

same_made : {vs ws : List VertexLib} {ps qs : List PrerastLib} {fs gs : List FragmentLib} {os us : List OutputLib} → vs ≡ ws → ps ≡ qs → fs ≡ gs → os ≡ us → made vs ps fs os ≡ made ws qs gs us
same_made v p f o = cc

pub returns : goal.returns
returns c =
    let n = counts c.args.libs.now c.requires.lacks_none c.requires.repeats_none in
    let v = sole c.args.libs.now.vertex.items c.index.result.now n.vertex c.index.ensures in
    let p = sole c.args.libs.now.prerast.items c.index-2.result.now n.prerast c.index-2.ensures in
    let f = short_list c.args.libs.now.fragment.items c.copied.result n.fragment (c.copied.ensures ∙ c.first.ensures.value ∙ ap (λ fs. slice_get fs 0) c.deref.ensures.value) in
    let o = short_list c.args.libs.now.output.items c.copied-2.result n.output (c.copied-2.ensures ∙ c.first-2.ensures.value ∙ ap (λ os. slice_get os 0) c.deref-2.ensures.value) in
    same_made v p f o
