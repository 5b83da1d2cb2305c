-- Linking pipeline libraries: the ten rules, each a condition on the lists of libraries that are given, and the state
-- that they make.
use Rattle.std.specs.Prelude.{◌≡◌, ℕ, ◌==◌, Bool, true, false, cond, not, ◌&&◌, ◌||◌, nat_lt, List, [], ◌∷◌, ◌++◌, Option, Some, None, map, length, if◌then◌else◌}
use Rattle.std.specs.List.{find, list_any, range_with_len}
use Rattle.std.specs.Option.{option_and_then, option_map, option_map_or}
use Rattle.state_model.specs.Lawful.{present_at}
use Rattle.limits.specs.declared.TheConstants.{LOCATIONS, DESCRIPTOR_SETS}
use Rattle.state_model.specs.declared.iface.Slot.{Slot}
use Rattle.state_model.specs.declared.iface.Iface.{Iface}
use Rattle.state_model.specs.declared.parts.Attribute.{Attribute}
use Rattle.state_model.specs.declared.parts.Layout.{Layout}
use Rattle.state_model.specs.declared.parts.Multisample.{Multisample}
use Rattle.state_model.specs.declared.parts.VertexPart.{VertexPart}
use Rattle.state_model.specs.declared.parts.PrerastPart.{PrerastPart}
use Rattle.state_model.specs.declared.parts.FragmentPart.{FragmentPart}
use Rattle.state_model.specs.declared.parts.OutputPart.{OutputPart}
use Rattle.state_model.specs.declared.parts.State.{State}
use Rattle.state_model.specs.declared.rule.Rule.{Rule}
use Rattle.state_model.specs.declared.rule.Rule.TheVariants.{L1, L2, L3, L4, L5, L6, L7, L8, L9, L10}

-- a library with a shader: its part, and the interface of its module
pub record PrerastLibrary : Type 0 where
  pub part : PrerastPart
  pub inputs : Iface
  pub outputs : Iface

pub record FragmentLibrary : Type 0 where
  pub part : FragmentPart
  pub inputs : Iface
  pub outputs : Iface

-- the libraries that a pipeline is given, by subset
pub record Libraries : Type 0 where
  pub vertex : List VertexPart
  pub prerast : List PrerastLibrary
  pub fragment : List FragmentLibrary
  pub output : List OutputPart

abbrev pub is_given : {X : Type 0} → List X → Bool
is_given [] = false
is_given (x ∷ xs) = true

abbrev pub is_given_twice : {X : Type 0} → List X → Bool
is_given_twice xs = nat_lt 1 (length xs)

-- whether the test holds of some element of the one list with some element of the other
abbrev pub some_pair : {X Y : Type 0} → (X → Y → Bool) → List X → List Y → Bool
some_pair test xs ys = list_any (λ x. list_any (test x) ys) xs

abbrev pub differ_flags : Bool → Bool → Bool
differ_flags a b = cond a (not b) b

abbrev pub differ : ℕ → ℕ → Bool
differ a b = not (a == b)

-- whether the first pre-rasterization library rasterizes
abbrev pub first_rasterizes : List PrerastLibrary → Bool
first_rasterizes [] = false
first_rasterizes (p ∷ _) = not p.part.discard

-- L1: no vertex or no pre-rasterization library is given, or the first pre-rasterization library has discard off and
-- no fragment or no output library is given
unfoldable pub lacks_subset : Libraries → Bool
lacks_subset libs =
    not (is_given libs.vertex) || not (is_given libs.prerast)
    || (first_rasterizes libs.prerast && (not (is_given libs.fragment) || not (is_given libs.output)))

-- L2: some subset is given more than once
unfoldable pub repeats_subset : Libraries → Bool
repeats_subset libs =
    is_given_twice libs.vertex || is_given_twice libs.prerast || is_given_twice libs.fragment || is_given_twice libs.output

-- L3: discard is on and a fragment or output library is given
unfoldable pub has_unused_subset : Libraries → Bool
has_unused_subset libs =
    list_any (λ p. p.part.discard) libs.prerast && (is_given libs.fragment || is_given libs.output)

-- L4: a fragment library's layout is independent and the pre-rasterization library's isn't, or the other way round
unfoldable pub independence_differs : Libraries → Bool
independence_differs libs =
    some_pair (λ f p. differ_flags f.part.layout.independent p.part.layout.independent) libs.fragment libs.prerast

-- one defines the set and the other doesn't, or the masks differ
abbrev pub differ_sets : Option ℕ → Option ℕ → Bool
differ_sets None None = false
differ_sets None (Some b) = true
differ_sets (Some a) None = true
differ_sets (Some a) (Some b) = differ a b

-- both define the set, and the masks differ
abbrev pub clash : Option ℕ → Option ℕ → Bool
clash None b = false
clash (Some a) None = false
clash (Some a) (Some b) = differ a b

-- whether the test holds of the two layouts' masks of some set
abbrev pub some_set : (Option ℕ → Option ℕ → Bool) → Layout → Layout → Bool
some_set test a b = list_any (λ set. test (present_at a.sets set) (present_at b.sets set)) (range_with_len 0 DESCRIPTOR_SETS)

-- both flags are off and the layouts differ; or both are on, and the push sizes differ or a set that both define differs
unfoldable pub disagree : Layout → Layout → Bool
disagree a b =
    (not a.independent && not b.independent && (differ a.push_words b.push_words || some_set differ_sets a b))
    || (a.independent && b.independent && (differ a.push_words b.push_words || some_set clash a b))

-- L5: a fragment library's layout disagrees with the pre-rasterization library's
unfoldable pub layouts_disagree : Libraries → Bool
layouts_disagree libs = some_pair (λ f p. disagree f.part.layout p.part.layout) libs.fragment libs.prerast

abbrev pub view_masks : Libraries → List ℕ
view_masks libs =
    map (λ p. p.part.view_mask) libs.prerast ++ map (λ f. f.part.view_mask) libs.fragment
    ++ map (λ o. o.view_mask) libs.output

-- L6: two of the given pre-rasterization, fragment and output libraries have different view masks
unfoldable pub view_masks_differ : Libraries → Bool
view_masks_differ libs = some_pair differ (view_masks libs) (view_masks libs)

abbrev pub differ_multisample : Option Multisample → Multisample → Bool
differ_multisample None b = false
differ_multisample (Some a) b = differ a.samples b.samples || differ a.mask b.mask

-- L7: a fragment library carries multisample state that differs from the output library's
unfoldable pub multisample_differs : Libraries → Bool
multisample_differs libs = some_pair (λ f o. differ_multisample f.part.multisample o.multisample) libs.fragment libs.output

-- whether it differs in signedness or has fewer components than the input
abbrev pub misfits : Slot → Slot → Bool
misfits input given = differ_flags input.signed given.signed || nat_lt given.comps input.comps

abbrev pub attribute_slot : Attribute → Slot
attribute_slot a = record { comps = a.comps; signed = a.signed }

-- a vertex input without an attribute, or with one that misfits
abbrev pub lacks_attribute : Option Slot → Option Attribute → Bool
lacks_attribute None given = false
lacks_attribute (Some input) given = option_map_or (λ a. misfits input (attribute_slot a)) given true

-- a fragment input with a vertex output that misfits
abbrev pub misfits_output : Option Slot → Option Slot → Bool
misfits_output None given = false
misfits_output (Some input) given = option_map_or (misfits input) given false

abbrev pub lowest_location : (ℕ → Bool) → Option ℕ
lowest_location test = find test (range_with_len 0 LOCATIONS)

-- L8: the lowest location at which a vertex input has no attribute that fits
unfoldable pub unfed_input : Libraries → Option ℕ
unfed_input libs = lowest_location
    (λ l. some_pair (λ p v. lacks_attribute (present_at p.inputs.slots l) (present_at v.attributes l)) libs.prerast libs.vertex)

-- L9: the lowest location at which a fragment input has a vertex output that doesn't fit
unfoldable pub misfed_input : Libraries → Option ℕ
misfed_input libs = lowest_location
    (λ l. some_pair (λ f p. misfits_output (present_at f.inputs.slots l) (present_at p.outputs.slots l)) libs.fragment libs.prerast)

-- L10: a given library has retain off
unfoldable pub lacks_retained : Libraries → Bool
lacks_retained libs =
    list_any (λ v. not v.retain) libs.vertex || list_any (λ p. not p.part.retain) libs.prerast
    || list_any (λ f. not f.part.retain) libs.fragment || list_any (λ o. not o.retain) libs.output

-- the rule where it fails, else what comes after it
unfoldable pub rule_if : Bool → Rule → Option Rule → Option Rule
rule_if failed rule later = if failed then Some rule else later

unfoldable pub rule_at : Option ℕ → (ℕ → Rule) → Option Rule → Option Rule
rule_at None rule later = later
rule_at (Some location) rule later = Some (rule location)

-- the first of the rules from L3 on that fails
unfoldable pub failed_content_rule : Libraries → Bool → Option Rule
failed_content_rule libs optimise =
    rule_if (has_unused_subset libs) L3 (rule_if (independence_differs libs) L4 (rule_if (layouts_disagree libs) L5
    (rule_if (view_masks_differ libs) L6 (rule_if (multisample_differs libs) L7 (rule_at (unfed_input libs) L8
    (rule_at (misfed_input libs) L9 (rule_if (optimise && lacks_retained libs) L10 None)))))))

-- the first rule that fails, by number; L10 counts for an optimized link alone
unfoldable pub failed_rule : Libraries → Bool → Option Rule
failed_rule libs optimise = rule_if (lacks_subset libs) L1 (rule_if (repeats_subset libs) L2 (failed_content_rule libs optimise))

-- they link; L10 isn't asked for
abbrev pub Links : Libraries → Type 0
Links libs = failed_rule libs false ≡ None

abbrev pub first : {X : Type 0} → List X → Option X
first [] = None
first (x ∷ _) = Some x

-- the state that the libraries make: each subset's part
abbrev pub linked_state : Libraries → Option State
linked_state libs = option_and_then (λ v. option_map (λ p. record {
  vertex = v;
  prerast = p.part;
  fragment = option_map (λ f. f.part) (first libs.fragment);
  output = first libs.output;
}) (first libs.prerast)) (first libs.vertex)
