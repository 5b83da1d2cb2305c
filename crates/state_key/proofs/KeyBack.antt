-- A lawful and tidy state is what its key unpacks to.
use Rattle.std.proofs.Common.{◌≡◌, ℕ, ◌+◌, ◌-◌, ◌*◌, ◌^◌, ◌<◌, ◌≤◌, Bool, true, false, List, Option, Some, None, IfSome, IsNone, IsTrue, is_some, map, length, get_or, slice_index, refl, sym, ap, ◌∙◌, arith, lit<, if◌then◌else◌}
use Rattle.std.specs.List.{range_with_len}
use Rattle.std.specs.Option.{option_map_or, option_and_then}
use Rattle.std.proofs.lemmas.List.FromFn.{fill_by_all}
use Rattle.std.proofs.lemmas.List.Sums.{count_by-le-length}
use Rattle.state_model.specs.Lawful.{IsLawful, IsFragmentPart, IsOutputPart}
use Rattle.state_model.specs.Canonical.{IsTidy}
use Rattle.state_model.specs.Key.{key, bit, flags_word, modules_word, counts_word, fixed_words, fragment_entries, topology_bit, entry_count, entry_word, layout_word, depth_word, multisample_word, logic_word, attachments_word}
use Rattle.limits.specs.declared.TheConstants.{LOCATIONS, VERTEX_BINDINGS, ENTRIES}
use Rattle.state_model.specs.declared.parts.Topology.{Topology}
use Rattle.state_model.specs.declared.parts.Topology.TheVariants.{Points, Triangles}
use Rattle.state_model.specs.declared.parts.VertexBinding.{VertexBinding}
use Rattle.state_model.specs.declared.parts.Attribute.{Attribute}
use Rattle.state_model.specs.declared.parts.Layout.{Layout}
use Rattle.state_model.specs.declared.parts.SpecValues.{SpecValues}
use Rattle.state_model.specs.declared.parts.Depth.{Depth}
use Rattle.state_model.specs.declared.parts.Multisample.{Multisample}
use Rattle.state_model.specs.declared.parts.Attachment.{Attachment}
use Rattle.state_model.specs.declared.parts.VertexPart.{VertexPart}
use Rattle.state_model.specs.declared.parts.PrerastPart.{PrerastPart}
use Rattle.state_model.specs.declared.parts.FragmentPart.{FragmentPart}
use Rattle.state_model.specs.declared.parts.OutputPart.{OutputPart}
use Rattle.state_model.specs.declared.parts.State.{State}
use Rattle.state_key.specs.declared.unpack.TheConstants.{FIXED_AT, FIXED_WORDS, ENTRIES_AT, FRAGMENT_ENTRIES_AT}
use Rattle.state_key.specs.Keys.{HasKey}
use Rattle.state_key.specs.Unpacked.{field, flag, bindings_of, binding_at, attributes_of, attribute_at, vertex_of, prerast_of, fragment_of, output_of, unpacked_state, binding_of, attribute_of, multisample_of, depth_of, logic_of, layout_of, attachments_of}
use Rattle.state_key.proofs.FieldReads.{bit-le, flag_bit, binding_back, attribute_back, depth_back, multisample_back, logic_back}
use Rattle.state_key.proofs.RoundTrip.{layout_back, attachments_back, entries_back}
use Rattle.state_key.proofs.Sections.{HasLengths, binding_word_at, attribute_word_at, fixed_word_at, entry_word_at, fragment_entry_word_at}

-- word 0, as its bits
record HasFlags (w : ℕ) (triangles discard ccw vertex prerast fragment output cull : ℕ) : Type 0 where
  made : w ≡ triangles + 2 * discard + 2 ^ 2 * cull + 2 ^ 4 * ccw + 2 ^ 8 * vertex + 2 ^ 9 * prerast + 2 ^ 10 * fragment + 2 ^ 11 * output
  triangles-le : triangles ≤ 1
  discard-le : discard ≤ 1
  ccw-le : ccw ≤ 1
  vertex-le : vertex ≤ 1
  prerast-le : prerast ≤ 1
  fragment-le : fragment ≤ 1
  output-le : output ≤ 1
  cull-le : cull ≤ 3

record ReadsFlags (w : ℕ) (triangles discard ccw vertex prerast fragment output cull : ℕ) : Type 0 where
  triangles-is : field w 0 1 ≡ triangles
  discard-is : field w 1 1 ≡ discard
  ccw-is : field w 4 1 ≡ ccw
  vertex-is : field w 8 1 ≡ vertex
  prerast-is : field w 9 1 ≡ prerast
  fragment-is : field w 10 1 ≡ fragment
  output-is : field w 11 1 ≡ output
  cull-is : field w 2 2 ≡ cull

reads_flags : (w t d c v p f o k : ℕ) → HasFlags w t d c v p f o k → ReadsFlags w t d c v p f o k
reads_flags w t d c v p f o k h = record {
  triangles-is = omega arith;
  discard-is = omega arith;
  ccw-is = omega arith;
  vertex-is = omega arith;
  prerast-is = omega arith;
  fragment-is = omega arith;
  output-is = omega arith;
  cull-is = omega arith;
}

topology-le : (t : Topology) → topology_bit t ≤ 1
topology-le Points = omega arith
topology-le Triangles = omega arith

retain-le : {X : Type 0} (f : X → Bool) (o : Option X) → option_map_or (λ x. bit (f x)) o 0 ≤ 1
retain-le f None = omega arith
retain-le f (Some x) = bit-le (f x)

flags : (s : State) → s.prerast.cull ≤ 3 → ReadsFlags (flags_word s) (topology_bit s.vertex.topology) (bit s.prerast.discard) (bit s.prerast.ccw) (bit s.vertex.retain) (bit s.prerast.retain) (option_map_or (λ f. bit f.retain) s.fragment 0) (option_map_or (λ o. bit o.retain) s.output 0) s.prerast.cull
flags s cull = reads_flags _ _ _ _ _ _ _ _ _ (record {
  made = refl;
  triangles-le = topology-le s.vertex.topology;
  discard-le = bit-le s.prerast.discard;
  ccw-le = bit-le s.prerast.ccw;
  vertex-le = bit-le s.vertex.retain;
  prerast-le = bit-le s.prerast.retain;
  fragment-le = retain-le (λ (f : FragmentPart). f.retain) s.fragment;
  output-le = retain-le (λ (o : OutputPart). o.retain) s.output;
  cull-le = cull;
})

-- the fields of a part, one by one

abbrev made_vertex : Bool → Topology → List (Option VertexBinding) → List (Option Attribute) → VertexPart
made_vertex r t b a = record { retain = r; topology = t; bindings = b; attributes = a }

pub same_vertex : {r r' : Bool} {t t' : Topology} {b b' : List (Option VertexBinding)} {a a' : List (Option Attribute)} → r ≡ r' → t ≡ t' → b ≡ b' → a ≡ a' → made_vertex r t b a ≡ made_vertex r' t' b' a'
same_vertex r t b a = cc

abbrev made_prerast : Bool → ℕ → Layout → ℕ → Bool → ℕ → Bool → SpecValues → PrerastPart
made_prerast r m l v d c w e = record { retain = r; «module» = m; layout = l; view_mask = v; discard = d; cull = c; ccw = w; entries = e }

pub same_prerast : {r r' d d' w w' : Bool} {m m' v v' c c' : ℕ} {l l' : Layout} {e e' : SpecValues} → r ≡ r' → m ≡ m' → l ≡ l' → v ≡ v' → d ≡ d' → c ≡ c' → w ≡ w' → e ≡ e' → made_prerast r m l v d c w e ≡ made_prerast r' m' l' v' d' c' w' e'
same_prerast r m l v d c w e = cc

abbrev made_fragment : Bool → ℕ → Layout → ℕ → Option Depth → Option Multisample → SpecValues → FragmentPart
made_fragment r m l v d s e = record { retain = r; «module» = m; layout = l; view_mask = v; depth = d; multisample = s; entries = e }

pub same_fragment : {r r' : Bool} {m m' v v' : ℕ} {l l' : Layout} {d d' : Option Depth} {s s' : Option Multisample} {e e' : SpecValues} → r ≡ r' → m ≡ m' → l ≡ l' → v ≡ v' → d ≡ d' → s ≡ s' → e ≡ e' → made_fragment r m l v d s e ≡ made_fragment r' m' l' v' d' s' e'
same_fragment r m l v d s e = cc

abbrev made_output : Bool → ℕ → Multisample → Option ℕ → List (Option Attachment) → OutputPart
made_output r v m l a = record { retain = r; view_mask = v; multisample = m; logic = l; attachments = a }

pub same_output : {r r' : Bool} {v v' : ℕ} {m m' : Multisample} {l l' : Option ℕ} {a a' : List (Option Attachment)} → r ≡ r' → v ≡ v' → m ≡ m' → l ≡ l' → a ≡ a' → made_output r v m l a ≡ made_output r' v' m' l' a'
same_output r v m l a = cc

abbrev made_state : VertexPart → PrerastPart → Option FragmentPart → Option OutputPart → State
made_state v p f o = record { vertex = v; prerast = p; fragment = f; output = o }

pub same_state : {v v' : VertexPart} {p p' : PrerastPart} {f f' : Option FragmentPart} {o o' : Option OutputPart} → v ≡ v' → p ≡ p' → f ≡ f' → o ≡ o' → made_state v p f o ≡ made_state v' p' f' o'
same_state v p f o = cc

-- the words before the sections

flags_at : (s : State) → slice_index (key s) 0 ≡ flags_word s
unfolding key
flags_at s = refl

modules_at : (s : State) → slice_index (key s) 1 ≡ modules_word s
unfolding key
modules_at s = refl

counts_at : (s : State) → slice_index (key s) 2 ≡ counts_word s
unfolding key
counts_at s = refl

topology_read : (w : ℕ) (t : Topology) → field w 0 1 ≡ topology_bit t → (if flag w 0 then Triangles else Points) ≡ t
topology_read w Points e = rw e
topology_read w Triangles e = rw e

two_fields : (low high w : ℕ) → w ≡ low + 2 ^ 32 * high → low < 2 ^ 32 → high < 2 ^ 32 → (field w 0 32 ≡ low) × (field w 32 32 ≡ high)
two_fields low high w e l h = (omega arith, omega arith)

two_counts : (low high w : ℕ) → w ≡ low + 2 ^ 8 * high → low < 2 ^ 5 → high < 2 ^ 5 → (field w 0 5 ≡ low) × (field w 8 5 ≡ high)
two_counts low high w e l h = (omega arith, omega arith)

four_bits : (w : ℕ) → w < 2 ^ 4 → field w 0 4 ≡ w
four_bits w h = omega arith

lengths : (s : State) → IsLawful s → HasLengths s
lengths s h = record {
  bindings = h.vertex.binding_count;
  attributes = h.vertex.attribute_count;
  entries = h.prerast.entries.count;
  fragment_entries = fragment_length s.fragment h.fragment;
}
  where
    fragment_length : (f : Option FragmentPart) → IfSome f IsFragmentPart → length (fragment_entries f) ≡ ENTRIES
    fragment_length None h = refl
    fragment_length (Some f) h = h.entries.count

bindings_made : (k : List ℕ) (v : VertexPart) → map (binding_at k) (range_with_len 0 VERTEX_BINDINGS) ≡ v.bindings → bindings_of k ≡ v.bindings
unfolding bindings_of
bindings_made k v e = e

attributes_made : (k : List ℕ) (v : VertexPart) → map (attribute_at k) (range_with_len 0 LOCATIONS) ≡ v.attributes → attributes_of k ≡ v.attributes
unfolding attributes_of
attributes_made k v e = e

one_less : (n : ℕ) → 1 + n - 1 ≡ n
one_less n = omega arith

none_is : {X : Type 0} (o : Option X) → IsNone o → None ≡ o
none_is None h = refl
none_is (Some x) h = cc

module _ (s : State) (lawful : IsLawful s) (tidy : IsTidy s) where
  bindings_back : bindings_of (key s) ≡ s.vertex.bindings
  bindings_back = bindings_made (key s) s.vertex (sym (fill_by_all (binding_at (key s)) s.vertex.bindings VERTEX_BINDINGS None lawful.vertex.binding_count each))
    where
      each : (i : ℕ) → i < VERTEX_BINDINGS → get_or s.vertex.bindings i None ≡ binding_at (key s) i
      each i within = sym (ap binding_of (binding_word_at s (lengths s lawful) i within) ∙ binding_back (get_or s.vertex.bindings i None) (lawful.vertex.bindings i None (omega (arith, lawful.vertex.binding_count))))

  attributes_back : attributes_of (key s) ≡ s.vertex.attributes
  attributes_back = attributes_made (key s) s.vertex (sym (fill_by_all (attribute_at (key s)) s.vertex.attributes LOCATIONS None lawful.vertex.attribute_count each))
    where
      each : (i : ℕ) → i < LOCATIONS → get_or s.vertex.attributes i None ≡ attribute_at (key s) i
      each i within = sym (ap attribute_of (attribute_word_at s (lengths s lawful) i within) ∙ attribute_back (get_or s.vertex.attributes i None) (lawful.vertex.attributes i None (omega (arith, lawful.vertex.attribute_count))))

  read : ReadsFlags (flags_word s) (topology_bit s.vertex.topology) (bit s.prerast.discard) (bit s.prerast.ccw) (bit s.vertex.retain) (bit s.prerast.retain) (option_map_or (λ f. bit f.retain) s.fragment 0) (option_map_or (λ o. bit o.retain) s.output 0) s.prerast.cull
  read = flags s lawful.prerast.cull

  -- a flag of word 0
  flag_at : (at : ℕ) (b : Bool) → field (flags_word s) at 1 ≡ bit b → flag (slice_index (key s) 0) at ≡ b
  flag_at at b e = ap (λ w. flag w at) (flags_at s) ∙ flag_bit (flags_word s) at b e

  fixed : (i : ℕ) → i < FIXED_WORDS → slice_index (key s) (FIXED_AT + i) ≡ get_or (fixed_words s) i 0
  fixed i within = fixed_word_at s (lengths s lawful) i within

  vertex_back : vertex_of (key s) ≡ s.vertex
  vertex_back = same_vertex
      (flag_at 8 s.vertex.retain read.vertex-is)
      (ap (λ w. if flag w 0 then Triangles else Points) (flags_at s) ∙ topology_read (flags_word s) s.vertex.topology read.triangles-is)
      bindings_back
      attributes_back

  abbrev module_number : Option FragmentPart → ℕ
  module_number f = option_map_or (λ f. 1 + f.module) f 0

  module_small : (f : Option FragmentPart) → IfSome f IsFragmentPart → module_number f < 2 ^ 32
  module_small None h = omega arith
  module_small (Some f) h = omega (arith, h.module_number)

  modules : (field (modules_word s) 0 32 ≡ s.prerast.module) × (field (modules_word s) 32 32 ≡ module_number s.fragment)
  modules = two_fields s.prerast.module (module_number s.fragment) (modules_word s) refl (omega (arith, lawful.prerast.module_number)) (module_small s.fragment lawful.fragment)

  counts : (field (counts_word s) 0 5 ≡ entry_count s.prerast.entries.entries) × (field (counts_word s) 8 5 ≡ entry_count (fragment_entries s.fragment))
  counts = two_counts (entry_count s.prerast.entries.entries) (entry_count (fragment_entries s.fragment)) (counts_word s) refl
      (omega (arith, count_by-le-length is_some s.prerast.entries.entries, (lengths s lawful).entries))
      (omega (arith, count_by-le-length is_some (fragment_entries s.fragment), (lengths s lawful).fragment_entries))

  view_mask_at : field (slice_index (key s) (FIXED_AT + 2)) 0 4 ≡ s.prerast.view_mask
  view_mask_at = ap (λ w. field w 0 4) (fixed 2 (lit< tt)) ∙ four_bits s.prerast.view_mask lawful.prerast.view_mask

  prerast_back : prerast_of (key s) ≡ s.prerast
  prerast_back = same_prerast
      (flag_at 9 s.prerast.retain read.prerast-is)
      (ap (λ w. field w 0 32) (modules_at s) ∙ modules.0)
      (ap layout_of (fixed 0 (lit< tt)) ∙ layout_back s.prerast.layout lawful.prerast.layout)
      view_mask_at
      (flag_at 1 s.prerast.discard read.discard-is)
      (ap (λ w. field w 2 2) (flags_at s) ∙ read.cull-is)
      (flag_at 4 s.prerast.ccw read.ccw-is)
      (entries_back (key s) ENTRIES_AT _ s.prerast.entries lawful.prerast.entries tidy.vertex_entries (ap (λ w. field w 0 5) (counts_at s) ∙ counts.0) (entry_word_at s (lengths s lawful)))

  module _ (f : FragmentPart) (there : s.fragment ≡ Some f) where
    is_fragment : IsFragmentPart f
    is_fragment = rw there at lawful.fragment

    fragment_back : fragment_of (key s) ≡ f
    fragment_back = same_fragment
        (flag_at 10 f.retain (read.fragment-is ∙ ap (λ x. option_map_or (λ f. bit f.retain) x 0) there))
        (ap (λ w. field w 32 32 - 1) (modules_at s) ∙ ap (λ n. n - 1) (modules.1 ∙ ap module_number there) ∙ one_less f.module)
        (ap layout_of (fixed 1 (lit< tt) ∙ ap (λ x. option_map_or (λ f. layout_word f.layout) x 0) there) ∙ layout_back f.layout is_fragment.layout)
        (view_mask_at ∙ sym (rw there at lawful.accord.fragment_views))
        (ap depth_of (fixed 4 (lit< tt) ∙ ap (λ x. depth_word (option_and_then (λ f. f.depth) x)) there) ∙ depth_back f.depth is_fragment.depth)
        (none_is f.multisample (rw there at tidy.multisample))
        (entries_back (key s) FRAGMENT_ENTRIES_AT _ f.entries is_fragment.entries (rw there at tidy.fragment_entries) (ap (λ w. field w 8 5) (counts_at s) ∙ counts.1 ∙ ap (λ x. entry_count (fragment_entries x)) there) (λ i within. fragment_entry_word_at s (lengths s lawful) i within ∙ ap (λ x. entry_word (get_or (fragment_entries x) i None)) there))

  module _ (o : OutputPart) (there : s.output ≡ Some o) where
    is_output : IsOutputPart o
    is_output = rw there at lawful.output

    output_back : output_of (key s) ≡ o
    output_back = same_output
        (flag_at 11 o.retain (read.output-is ∙ ap (λ x. option_map_or (λ o. bit o.retain) x 0) there))
        (view_mask_at ∙ sym (rw there at lawful.accord.output_views))
        (ap multisample_of (fixed 3 (lit< tt) ∙ ap (λ x. option_map_or (λ o. multisample_word o.multisample) x 0) there) ∙ multisample_back o.multisample is_output.multisample)
        (ap logic_of (fixed 5 (lit< tt) ∙ ap (λ x. logic_word (option_and_then (λ o. o.logic) x)) there) ∙ logic_back o.logic is_output.logic)
        (ap attachments_of (fixed 6 (lit< tt) ∙ ap (λ x. option_map_or attachments_word x 0) there) ∙ attachments_back o.attachments is_output.attachment_count is_output.attachments)

  -- where the flag says so there is none
  unless : {X : Type 0} (b : Bool) (x : X) (o : Option X) → flag (slice_index (key s) 0) 1 ≡ b → (if b then None else Some x) ≡ o → (if flag (slice_index (key s) 0) 1 then None else Some x) ≡ o
  unless b x o e is = rw e is

  discard_at : flag (slice_index (key s) 0) 1 ≡ s.prerast.discard
  discard_at = flag_at 1 s.prerast.discard read.discard-is

  present : {X : Type 0} (o : Option X) → (IsNone o → IsTrue s.prerast.discard) → (IsTrue s.prerast.discard → IsNone o) → (x : X) → ((y : X) → o ≡ Some y → x ≡ y) → (if flag (slice_index (key s) 0) 1 then None else Some x) ≡ o
  present None discards none x same = unless true x None (discard_at ∙ discards refl) refl
  present (Some y) discards none x same = unless false x (Some y) (discard_at ∙ not_discarded s.prerast.discard none) (ap (λ z. Some z) (same y refl))
    where
      not_discarded : (b : Bool) → (IsTrue b → IsNone (Some y)) → b ≡ false
      not_discarded true h = absurd (true_is_false (h refl))
        where
          true_is_false : true ≡ false → ⊥
          true_is_false e = cc
      not_discarded false h = refl

  pub unpacked_state-key : unpacked_state (key s) ≡ s
  unfolding unpacked_state
  unpacked_state-key = same_state
      vertex_back
      prerast_back
      (present s.fragment lawful.accord.fragment_there.1 lawful.accord.fragment_there.0 (fragment_of (key s)) fragment_back)
      (present s.output lawful.accord.output_there.1 lawful.accord.output_there.0 (output_of (key s)) output_back)

-- two states with one key are equal
pub same_from_key : (a b : State) → IsLawful a → IsTidy a → IsLawful b → IsTidy b → key a ≡ key b → a ≡ b
same_from_key a b la ta lb tb e = sym (unpacked_state-key a la ta) ∙ ap unpacked_state e ∙ unpacked_state-key b lb tb

pub unpacked_is : (k : List ℕ) (s : State) → HasKey k s → unpacked_state k ≡ s
unpacked_is k s h = ap unpacked_state (sym h.same) ∙ unpacked_state-key s h.lawful h.tidy
