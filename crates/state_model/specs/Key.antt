-- The key of a state: 56 words of 64 bits. What is absent is 0.
--
--     word              content
--     0                 bit 0 triangles, bit 1 discard, bits 2 to 3 cull, bit 4 counter-clockwise,
--                       bits 8 to 11 retained: vertex, pre-rasterization, fragment, output
--     1                 low half the vertex module, high half 1 + the fragment module
--     2                 bits 0 to 4 the number of vertex entries, bits 8 to 12 of fragment entries
--     3                 0
--     4 to 7            bindings
--     8 to 15           attributes by location
--     16, 17            layouts of pre-rasterization and fragment
--     18                view mask
--     19                multisample state of the output
--     20                depth
--     21                1 + logic operation
--     22                attachments
--     23                0
--     24 to 39          vertex entries
--     40 to 55          fragment entries
use Rattle.std.specs.Prelude.{ℕ, ◌+◌, ◌*◌, ◌^◌, Bool, cond, List, [], ◌∷◌, ◌++◌, Option, Some, None, map, replicate, is_some, unwrap_or}
use Rattle.std.specs.List.{count_by}
use Rattle.std.specs.Option.{option_map_or, option_and_then}
use Rattle.limits.specs.declared.TheConstants.{ENTRIES}
use Rattle.state_model.specs.declared.parts.Topology.{Topology}
use Rattle.state_model.specs.declared.parts.Topology.TheVariants.{Points, Triangles}
use Rattle.state_model.specs.declared.parts.VertexBinding.{VertexBinding}
use Rattle.state_model.specs.declared.parts.Attribute.{Attribute}
use Rattle.state_model.specs.declared.parts.Layout.{Layout}
use Rattle.state_model.specs.declared.parts.Entry.{Entry}
use Rattle.state_model.specs.declared.parts.Depth.{Depth}
use Rattle.state_model.specs.declared.parts.Multisample.{Multisample}
use Rattle.state_model.specs.declared.parts.Attachment.{Attachment}
use Rattle.state_model.specs.declared.parts.FragmentPart.{FragmentPart}
use Rattle.state_model.specs.declared.parts.OutputPart.{OutputPart}
use Rattle.state_model.specs.declared.parts.State.{State}

abbrev pub bit : Bool → ℕ
bit b = cond b 1 0

-- values of so many bits each, the first lowest
abbrev pub packed_word : ℕ → List ℕ → ℕ
packed_word bits [] = 0
packed_word bits (x ∷ xs) = x + 2 ^ bits * packed_word bits xs

-- bit 0 there, bit 1 per instance, high half stride
abbrev pub binding_word : Option VertexBinding → ℕ
binding_word None = 0
binding_word (Some b) = 1 + 2 * bit b.per_instance + 2 ^ 32 * b.stride

-- bit 0 there, bit 1 signed, bits 4 to 6 components, bits 8 to 9 binding, high half offset
abbrev pub attribute_word : Option Attribute → ℕ
attribute_word None = 0
attribute_word (Some a) = 1 + 2 * bit a.signed + 2 ^ 4 * a.comps + 2 ^ 8 * a.binding + 2 ^ 32 * a.offset

-- bit 0 independent, bits 8 to 15 push words, bit 16 + s set s defined, bits 32 + 8s to 39 + 8s its mask
abbrev pub layout_word : Layout → ℕ
layout_word l =
    bit l.independent + 2 ^ 8 * l.push_words + 2 ^ 16 * packed_word 1 (map (λ set. bit (is_some set)) l.sets)
    + 2 ^ 32 * packed_word 8 (map (λ set. unwrap_or set 0) l.sets)

-- bits 0 to 2 samples, bits 4 to 7 mask
abbrev pub multisample_word : Multisample → ℕ
multisample_word m = m.samples + 2 ^ 4 * m.mask

-- bit 0 there, bit 1 write, bits 4 to 6 compare
abbrev pub depth_word : Option Depth → ℕ
depth_word None = 0
depth_word (Some d) = 1 + 2 * bit d.write + 2 ^ 4 * d.compare

-- 0, or 1 + the logic operation
abbrev pub logic_word : Option ℕ → ℕ
logic_word None = 0
logic_word (Some op) = 1 + op

-- bits 0 to 3 format, bits 4 to 7 write mask
abbrev pub attachment_byte : Option Attachment → ℕ
attachment_byte None = 0
attachment_byte (Some a) = a.format + 2 ^ 4 * a.write_mask

-- attachment i in byte i
abbrev pub attachments_word : OutputPart → ℕ
attachments_word o = packed_word 8 (map attachment_byte o.attachments)

-- id in the high half, value in the low
abbrev pub entry_word : Option Entry → ℕ
entry_word None = 0
entry_word (Some e) = e.value + 2 ^ 32 * e.id

abbrev pub entry_count : List (Option Entry) → ℕ
entry_count entries = count_by is_some entries

abbrev pub fragment_entries : Option FragmentPart → List (Option Entry)
fragment_entries None = replicate ENTRIES None
fragment_entries (Some f) = f.entries.entries

abbrev pub topology_bit : Topology → ℕ
topology_bit Points = 0
topology_bit Triangles = 1

abbrev pub flags_word : State → ℕ
flags_word s =
    topology_bit s.vertex.topology + 2 * bit s.prerast.discard + 2 ^ 2 * s.prerast.cull + 2 ^ 4 * bit s.prerast.ccw
    + 2 ^ 8 * bit s.vertex.retain + 2 ^ 9 * bit s.prerast.retain
    + 2 ^ 10 * option_map_or (λ f. bit f.retain) s.fragment 0 + 2 ^ 11 * option_map_or (λ o. bit o.retain) s.output 0

abbrev pub modules_word : State → ℕ
modules_word s = s.prerast.module + 2 ^ 32 * option_map_or (λ f. 1 + f.module) s.fragment 0

abbrev pub counts_word : State → ℕ
counts_word s = entry_count s.prerast.entries.entries + 2 ^ 8 * entry_count (fragment_entries s.fragment)

abbrev pub fixed_words : State → List ℕ
fixed_words s =
    layout_word s.prerast.layout ∷ option_map_or (λ f. layout_word f.layout) s.fragment 0 ∷ s.prerast.view_mask
    ∷ option_map_or (λ o. multisample_word o.multisample) s.output 0
    ∷ depth_word (option_and_then (λ f. f.depth) s.fragment) ∷ logic_word (option_and_then (λ o. o.logic) s.output)
    ∷ option_map_or attachments_word s.output 0 ∷ 0 ∷ []

unfoldable pub key : State → List ℕ
key s =
    (flags_word s ∷ modules_word s ∷ counts_word s ∷ 0 ∷ [])
    ++ map binding_word s.vertex.bindings
    ++ map attribute_word s.vertex.attributes
    ++ fixed_words s
    ++ map entry_word s.prerast.entries.entries
    ++ map entry_word (fragment_entries s.fragment)
