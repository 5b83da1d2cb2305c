-- Libraries that link, one of each subset, make a lawful state.
use Rattle.std.proofs.Common.{◌≡◌, ◌↔◌, ℕ, Bool, true, false, not, ◌&&◌, ◌||◌, List, [], ◌∷◌, ◌++◌, map, Option, Some, None, IsTrue, IsNone, IfSome, refl, ap, ◌∙◌, sym, arith}
use Rattle.std.specs.List.{All}
use Rattle.std.specs.Option.{option_map, option_to_list}
use Rattle.std.proofs.lemmas.Bool.Decides.{nat_tests}
use Rattle.std.proofs.lemmas.List.Elements.{All-head}
use Rattle.state_model.specs.Lawful.{IsLawful, IsVertexPart, IsPrerastPart, IsFragmentPart, IsOutputPart}
use Rattle.state_model.specs.Link.{Libraries, PrerastLibrary, FragmentLibrary, failed_rule, failed_content_rule, rule_if, lacks_subset, repeats_subset, has_unused_subset, view_masks_differ, multisample_differs, differ, differ_multisample, is_given, some_pair}
use Rattle.state_model.specs.declared.rule.Rule.{Rule}
use Rattle.state_model.specs.declared.parts.Multisample.{Multisample}
use Rattle.state_model.specs.declared.parts.OutputPart.{OutputPart}
use Rattle.fragment_lib.specs.declared.FragmentLib.{FragmentLib}
use Rattle.output_lib.specs.declared.OutputLib.{OutputLib}
use Rattle.link_rules.specs.declared.contents.SingleLibs.{SingleLibs}
use Rattle.link_rules.specs.Single.{libraries_of_single, state_of_single, prerast_library, fragment_library}
use Rattle.link_rules.specs.Parts.{HoldsLawfulParts}
use Rattle.link_rules.proofs.Lists.{or_parts}

passes : (b : Bool) (rule : Rule) (later : Option Rule) → rule_if b rule later ≡ None → (b ≡ false) × (later ≡ None)
unfolding rule_if
passes true rule later e = cc
passes false rule later e = (refl, e)

-- the rules that matter to the state
pub record Passes (libs : Libraries) : Type 0 where
  pub whole : lacks_subset libs ≡ false
  pub single : repeats_subset libs ≡ false
  pub used : has_unused_subset libs ≡ false
  pub views : view_masks_differ libs ≡ false
  pub samples : multisample_differs libs ≡ false

pub Passes-from_no_failed_rule : (libs : Libraries) (optimise : Bool) → failed_rule libs optimise ≡ None → Passes libs
unfolding failed_rule failed_content_rule
Passes-from_no_failed_rule libs optimise e =
    let l1 = passes _ _ _ e in
    let l2 = passes _ _ _ l1.1 in
    let l3 = passes _ _ _ l2.1 in
    let l4 = passes _ _ _ l3.1 in
    let l5 = passes _ _ _ l4.1 in
    let l6 = passes _ _ _ l5.1 in
    let l7 = passes _ _ _ l6.1 in
    record { whole = l1.0; single = l2.0; used = l3.0; views = l6.0; samples = l7.0 }

same_number : (a b : ℕ) → differ a b ≡ false → a ≡ b
same_number a b e = grind (arith, nat_tests)

abbrev made : ℕ → ℕ → Multisample
made samples mask = record { samples = samples; mask = mask }

same_multisample : (a b : Multisample) → differ_multisample (Some a) b ≡ false → a ≡ b
same_multisample a b e =
    let parts = or_parts (differ a.samples b.samples) (differ a.mask b.mask) e in
    let samples = same_number a.samples b.samples parts.0 in
    let mask = same_number a.mask b.mask parts.1 in
    ap (λ n. made n a.mask) samples ∙ ap (made b.samples) mask

abbrev fragments : Option FragmentLib → List FragmentLibrary
fragments f = map fragment_library (option_to_list f)

abbrev outputs : Option OutputLib → List OutputPart
outputs o = map (λ o. o.part) (option_to_list o)

record There (discard : Bool) (f : Option FragmentLib) (o : Option OutputLib) : Type 0 where
  fragment : IsTrue discard ↔ IsNone (option_map (λ f. f.part) f)
  output : IsTrue discard ↔ IsNone (option_map (λ o. o.part) o)

both_there : (discard : Bool) (f : Option FragmentLib) (o : Option OutputLib) → not discard && (not (is_given (fragments f)) || not (is_given (outputs o))) ≡ false → (discard || false) && (is_given (fragments f) || is_given (outputs o)) ≡ false → There discard f o
both_there true None None h k = record { fragment = (λ _. refl, λ _. refl); output = (λ _. refl, λ _. refl) }
both_there true None (Some o) h k = absurd cc
both_there true (Some f) o h k = absurd cc
both_there false None o h k = absurd cc
both_there false (Some f) None h k = absurd cc
both_there false (Some f) (Some o) h k = record { fragment = (λ e. cc, λ e. cc); output = (λ e. cc, λ e. cc) }

abbrev masks : ℕ → Option FragmentLib → Option OutputLib → List ℕ
masks mask f o = (mask ∷ []) ++ map (λ f. f.part.view_mask) (fragments f) ++ map (λ o. o.view_mask) (outputs o)

abbrev views_differ : List ℕ → Bool
views_differ views = some_pair differ views views

record SameViews (mask : ℕ) (f : Option FragmentLib) (o : Option OutputLib) : Type 0 where
  fragment : IfSome (option_map (λ f. f.part) f) (λ f. f.view_mask ≡ mask)
  output : IfSome (option_map (λ o. o.part) o) (λ o. o.view_mask ≡ mask)

same_views : (mask : ℕ) (f : Option FragmentLib) (o : Option OutputLib) → views_differ (masks mask f o) ≡ false → SameViews mask f o
same_views mask None None e = record { fragment = tt; output = tt }
same_views mask None (Some o) e =
    let row = or_parts (differ mask mask || (differ mask o.part.view_mask || false)) _ e in
    let rest = or_parts (differ mask mask) _ row.0 in
    let other = or_parts (differ mask o.part.view_mask) false rest.1 in
    record { fragment = tt; output = sym (same_number mask o.part.view_mask other.0) }
same_views mask (Some f) None e =
    let row = or_parts (differ mask mask || (differ mask f.part.view_mask || false)) _ e in
    let rest = or_parts (differ mask mask) _ row.0 in
    let other = or_parts (differ mask f.part.view_mask) false rest.1 in
    record { fragment = sym (same_number mask f.part.view_mask other.0); output = tt }
same_views mask (Some f) (Some o) e =
    let row = or_parts (differ mask mask || (differ mask f.part.view_mask || (differ mask o.part.view_mask || false))) _ e in
    let rest = or_parts (differ mask mask) _ row.0 in
    let one = or_parts (differ mask f.part.view_mask) _ rest.1 in
    let other = or_parts (differ mask o.part.view_mask) false one.1 in
    record {
      fragment = sym (same_number mask f.part.view_mask one.0);
      output = sym (same_number mask o.part.view_mask other.0);
    }

-- the part's multisample state, where it is there, is the output's
same_samples : (f : Option FragmentLib) (o : Option OutputLib) → some_pair (λ f o. differ_multisample f.part.multisample o.multisample) (fragments f) (outputs o) ≡ false → IfSome (option_map (λ f. f.part) f) (λ f. IfSome f.multisample (λ m. IfSome (option_map (λ o. o.part) o) (λ o. m ≡ o.multisample)))
same_samples None o e = tt
same_samples (Some f) None e = of_none f.part.multisample
  where
    of_none : (m : Option Multisample) → IfSome m (λ m. Unit {0})
    of_none None = tt
    of_none (Some m) = tt
same_samples (Some f) (Some o) e = of_some f.part.multisample (or_parts (differ_multisample f.part.multisample o.part.multisample) false (or_parts (differ_multisample f.part.multisample o.part.multisample || false) false e).0).0
  where
    of_some : (m : Option Multisample) → differ_multisample m o.part.multisample ≡ false → IfSome m (λ m. m ≡ o.part.multisample)
    of_some None e = tt
    of_some (Some m) e = same_multisample m o.part.multisample e

lawful_fragment : (f : Option FragmentLib) → All (λ f. IsFragmentPart f.part) (fragments f) → IfSome (option_map (λ f. f.part) f) IsFragmentPart
lawful_fragment None h = tt
lawful_fragment (Some f) h = All-head (λ (f : FragmentLibrary). IsFragmentPart f.part) (fragment_library f) [] h

lawful_output : (o : Option OutputLib) → All IsOutputPart (outputs o) → IfSome (option_map (λ o. o.part) o) IsOutputPart
lawful_output None h = tt
lawful_output (Some o) h = All-head IsOutputPart o.part [] h

pub IsLawful-from_links : (one : SingleLibs) → failed_rule (libraries_of_single one) false ≡ None → HoldsLawfulParts (libraries_of_single one) → IsLawful (state_of_single one)
unfolding lacks_subset has_unused_subset view_masks_differ multisample_differs
IsLawful-from_links one links parts =
    let passed = Passes-from_no_failed_rule (libraries_of_single one) false links in
    let there = both_there one.prerast.part.discard one.fragment one.output passed.whole passed.used in
    let views = same_views one.prerast.part.view_mask one.fragment one.output passed.views in
    record {
      vertex = All-head IsVertexPart one.vertex.part [] parts.vertex;
      prerast = All-head (λ (p : PrerastLibrary). IsPrerastPart p.part) (prerast_library one.prerast) [] parts.prerast;
      fragment = lawful_fragment one.fragment parts.fragment;
      output = lawful_output one.output parts.output;
      accord = record {
        fragment_there = there.fragment;
        output_there = there.output;
        fragment_views = views.fragment;
        output_views = views.output;
        multisample = same_samples one.fragment one.output passed.samples;
      };
    }
