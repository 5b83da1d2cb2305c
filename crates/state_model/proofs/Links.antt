-- Each rule of a link, on libraries that break it alone.
use Rattle.std.proofs.Common.{◌≡◌, ℕ, ◌++◌, List, [], ◌∷◌, Bool, true, false, Option, Some, None, replicate, refl}
use Rattle.state_model.specs.Link.{Libraries, PrerastLibrary, FragmentLibrary, failed_rule, failed_content_rule, rule_if, rule_at, lacks_subset, repeats_subset, has_unused_subset, independence_differs, layouts_disagree, disagree, view_masks_differ, multisample_differs, unfed_input, misfed_input, lacks_retained}
use Rattle.state_model.specs.declared.iface.Slot.{Slot}
use Rattle.state_model.specs.declared.parts.Layout.{Layout}
use Rattle.state_model.specs.declared.parts.VertexPart.{VertexPart}
use Rattle.state_model.specs.declared.parts.PrerastPart.{PrerastPart}
use Rattle.state_model.specs.declared.parts.FragmentPart.{FragmentPart}
use Rattle.state_model.specs.declared.parts.OutputPart.{OutputPart}
use Rattle.state_model.specs.declared.parts.Topology.TheVariants.{Points}
use Rattle.state_model.specs.declared.rule.Rule.TheVariants.{L1, L2, L3, L4, L5, L6, L7, L8, L9, L10}
use Rattle.state_model.proofs.KeyWords.{attribute, layout, samples_and_mask, no_sets, vertex_part, prerast_part, fragment_part, output_part}

abbrev no_slots : List (Option Slot)
no_slots = replicate 8 None

abbrev slot : ℕ → Bool → Option Slot
slot comps signed = Some (record { comps = comps; signed = signed })

-- two slots, at the locations 2 and 5
abbrev slots_2_5 : Option Slot → Option Slot → List (Option Slot)
slots_2_5 second fifth = None ∷ None ∷ second ∷ None ∷ None ∷ fifth ∷ None ∷ None ∷ []

abbrev prerast : PrerastPart → List (Option Slot) → List (Option Slot) → PrerastLibrary
prerast part inputs outputs = record { part = part; inputs = record { slots = inputs }; outputs = record { slots = outputs } }

abbrev fragment : FragmentPart → List (Option Slot) → FragmentLibrary
fragment part inputs = record { part = part; inputs = record { slots = inputs }; outputs = record { slots = no_slots } }

abbrev libs : List VertexPart → List PrerastLibrary → List FragmentLibrary → List OutputPart → Libraries
libs vertex prerast fragment output = record { vertex = vertex; prerast = prerast; fragment = fragment; output = output }

abbrev points : VertexPart
points = vertex_part true Points

abbrev rasterizing : PrerastPart
rasterizing = prerast_part true false 0 false

abbrev discarding : PrerastPart
discarding = prerast_part true true 0 false

abbrev bare_vs : List PrerastLibrary
bare_vs = prerast rasterizing no_slots no_slots ∷ []

abbrev bare_fs : List FragmentLibrary
bare_fs = fragment (fragment_part true) no_slots ∷ []

abbrev outputs : List OutputPart
outputs = output_part true ∷ []

-- the layouts of the two shaders
abbrev with_layouts : Layout → Layout → Libraries
with_layouts vs fs = libs (points ∷ [])
    (prerast (record rasterizing { layout = vs }) no_slots no_slots ∷ [])
    (fragment (record (fragment_part true) { layout = fs }) no_slots ∷ []) outputs

abbrev set_0 : ℕ → List (Option ℕ)
set_0 mask = Some mask ∷ None ∷ None ∷ None ∷ []

-- the vertex inputs at 2 and 5, with attributes there
abbrev with_inputs : Option Slot → Option Slot → VertexPart → Libraries
with_inputs second fifth vertex = libs (vertex ∷ []) (prerast rasterizing (slots_2_5 second fifth) no_slots ∷ []) bare_fs outputs

abbrev attributes_2_5 : VertexPart
attributes_2_5 = record points { attributes = (None ∷ None ∷ attribute 0 2 false 0 ∷ []) ++ (None ∷ None ∷ attribute 0 2 false 0 ∷ None ∷ None ∷ []) }

-- the vertex outputs and the fragment inputs at 2 and 5
abbrev with_varyings : Option Slot → Option Slot → Option Slot → Option Slot → Libraries
with_varyings out_2 out_5 in_2 in_5 = libs (points ∷ [])
    (prerast rasterizing no_slots (slots_2_5 out_2 out_5) ∷ []) (fragment (fragment_part true) (slots_2_5 in_2 in_5) ∷ []) outputs

linked : failed_rule (libs (points ∷ []) bare_vs bare_fs outputs) true ≡ None
unfolding failed_rule failed_content_rule rule_if rule_at lacks_subset repeats_subset has_unused_subset independence_differs layouts_disagree disagree view_masks_differ multisample_differs unfed_input misfed_input lacks_retained
linked = refl

linked_with_discard : failed_rule (libs (points ∷ []) (prerast discarding no_slots no_slots ∷ []) [] []) true ≡ None
unfolding failed_rule failed_content_rule rule_if rule_at lacks_subset repeats_subset has_unused_subset independence_differs layouts_disagree disagree view_masks_differ multisample_differs unfed_input misfed_input lacks_retained
linked_with_discard = refl

no_vertex : failed_rule (libs [] bare_vs bare_fs outputs) false ≡ Some L1
unfolding failed_rule failed_content_rule rule_if rule_at lacks_subset repeats_subset has_unused_subset independence_differs layouts_disagree disagree view_masks_differ multisample_differs unfed_input misfed_input lacks_retained
no_vertex = refl

no_output : failed_rule (libs (points ∷ []) bare_vs bare_fs []) false ≡ Some L1
unfolding failed_rule failed_content_rule rule_if rule_at lacks_subset repeats_subset has_unused_subset independence_differs layouts_disagree disagree view_masks_differ multisample_differs unfed_input misfed_input lacks_retained
no_output = refl

two_fragments : failed_rule (libs (points ∷ []) bare_vs (bare_fs ++ bare_fs) outputs) false ≡ Some L2
unfolding failed_rule failed_content_rule rule_if rule_at lacks_subset repeats_subset has_unused_subset independence_differs layouts_disagree disagree view_masks_differ multisample_differs unfed_input misfed_input lacks_retained
two_fragments = refl

output_under_discard : failed_rule (libs (points ∷ []) (prerast discarding no_slots no_slots ∷ []) [] outputs) false ≡ Some L3
unfolding failed_rule failed_content_rule rule_if rule_at lacks_subset repeats_subset has_unused_subset independence_differs layouts_disagree disagree view_masks_differ multisample_differs unfed_input misfed_input lacks_retained
output_under_discard = refl

one_independent_layout : failed_rule (with_layouts (layout true 0 no_sets) (layout false 0 no_sets)) false ≡ Some L4
unfolding failed_rule failed_content_rule rule_if rule_at lacks_subset repeats_subset has_unused_subset independence_differs layouts_disagree disagree view_masks_differ multisample_differs unfed_input misfed_input lacks_retained
one_independent_layout = refl

one_lacks_a_set : failed_rule (with_layouts (layout false 0 no_sets) (layout false 0 (set_0 1))) false ≡ Some L5
unfolding failed_rule failed_content_rule rule_if rule_at lacks_subset repeats_subset has_unused_subset independence_differs layouts_disagree disagree view_masks_differ multisample_differs unfed_input misfed_input lacks_retained
one_lacks_a_set = refl

independent_sets : failed_rule (with_layouts (layout true 0 no_sets) (layout true 0 (set_0 1))) false ≡ None
unfolding failed_rule failed_content_rule rule_if rule_at lacks_subset repeats_subset has_unused_subset independence_differs layouts_disagree disagree view_masks_differ multisample_differs unfed_input misfed_input lacks_retained
independent_sets = refl

independent_sets_that_clash : failed_rule (with_layouts (layout true 0 (set_0 3)) (layout true 0 (set_0 1))) false ≡ Some L5
unfolding failed_rule failed_content_rule rule_if rule_at lacks_subset repeats_subset has_unused_subset independence_differs layouts_disagree disagree view_masks_differ multisample_differs unfed_input misfed_input lacks_retained
independent_sets_that_clash = refl

independent_push_words : failed_rule (with_layouts (layout true 1 no_sets) (layout true 2 no_sets)) false ≡ Some L5
unfolding failed_rule failed_content_rule rule_if rule_at lacks_subset repeats_subset has_unused_subset independence_differs layouts_disagree disagree view_masks_differ multisample_differs unfed_input misfed_input lacks_retained
independent_push_words = refl

views_of_the_output :
    failed_rule (libs (points ∷ []) bare_vs bare_fs (record (output_part true) { view_mask = 1 } ∷ [])) false
    ≡ Some L6
unfolding failed_rule failed_content_rule rule_if rule_at lacks_subset repeats_subset has_unused_subset independence_differs layouts_disagree disagree view_masks_differ multisample_differs unfed_input misfed_input lacks_retained
views_of_the_output = refl

samples_of_the_fragment :
    failed_rule (libs (points ∷ []) bare_vs (fragment (record (fragment_part true) { multisample = Some (samples_and_mask 2 1) }) no_slots ∷ []) outputs) false
    ≡ Some L7
unfolding failed_rule failed_content_rule rule_if rule_at lacks_subset repeats_subset has_unused_subset independence_differs layouts_disagree disagree view_masks_differ multisample_differs unfed_input misfed_input lacks_retained
samples_of_the_fragment = refl

no_attributes : failed_rule (with_inputs (slot 1 false) (slot 1 false) points) false ≡ Some (L8 2)
unfolding failed_rule failed_content_rule rule_if rule_at lacks_subset repeats_subset has_unused_subset independence_differs layouts_disagree disagree view_masks_differ multisample_differs unfed_input misfed_input lacks_retained
no_attributes = refl

attributes_that_fit : failed_rule (with_inputs (slot 2 false) (slot 1 false) attributes_2_5) false ≡ None
unfolding failed_rule failed_content_rule rule_if rule_at lacks_subset repeats_subset has_unused_subset independence_differs layouts_disagree disagree view_masks_differ multisample_differs unfed_input misfed_input lacks_retained
attributes_that_fit = refl

attribute_with_too_few_components : failed_rule (with_inputs (slot 2 false) (slot 3 false) attributes_2_5) false ≡ Some (L8 5)
unfolding failed_rule failed_content_rule rule_if rule_at lacks_subset repeats_subset has_unused_subset independence_differs layouts_disagree disagree view_masks_differ multisample_differs unfed_input misfed_input lacks_retained
attribute_with_too_few_components = refl

attribute_of_other_sign : failed_rule (with_inputs (slot 2 true) (slot 3 false) attributes_2_5) false ≡ Some (L8 2)
unfolding failed_rule failed_content_rule rule_if rule_at lacks_subset repeats_subset has_unused_subset independence_differs layouts_disagree disagree view_masks_differ multisample_differs unfed_input misfed_input lacks_retained
attribute_of_other_sign = refl

no_outputs : failed_rule (with_varyings None None (slot 4 false) (slot 4 true)) false ≡ None
unfolding failed_rule failed_content_rule rule_if rule_at lacks_subset repeats_subset has_unused_subset independence_differs layouts_disagree disagree view_masks_differ multisample_differs unfed_input misfed_input lacks_retained
no_outputs = refl

output_of_other_sign : failed_rule (with_varyings (slot 4 true) (slot 1 true) (slot 4 true) (slot 1 false)) false ≡ Some (L9 5)
unfolding failed_rule failed_content_rule rule_if rule_at lacks_subset repeats_subset has_unused_subset independence_differs layouts_disagree disagree view_masks_differ multisample_differs unfed_input misfed_input lacks_retained
output_of_other_sign = refl

output_with_too_few_components :
    failed_rule (with_varyings (slot 3 true) (slot 1 true) (slot 4 true) (slot 1 false)) false
    ≡ Some (L9 2)
unfolding failed_rule failed_content_rule rule_if rule_at lacks_subset repeats_subset has_unused_subset independence_differs layouts_disagree disagree view_masks_differ multisample_differs unfed_input misfed_input lacks_retained
output_with_too_few_components = refl

nothing_retained_for_an_optimized_link : failed_rule (libs (vertex_part false Points ∷ []) bare_vs bare_fs outputs) true ≡ Some L10
unfolding failed_rule failed_content_rule rule_if rule_at lacks_subset repeats_subset has_unused_subset independence_differs layouts_disagree disagree view_masks_differ multisample_differs unfed_input misfed_input lacks_retained
nothing_retained_for_an_optimized_link = refl

nothing_retained : failed_rule (libs (vertex_part false Points ∷ []) bare_vs bare_fs outputs) false ≡ None
unfolding failed_rule failed_content_rule rule_if rule_at lacks_subset repeats_subset has_unused_subset independence_differs layouts_disagree disagree view_masks_differ multisample_differs unfed_input misfed_input lacks_retained
nothing_retained = refl
