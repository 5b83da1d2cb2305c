-- A key read back, field by field: what a lawful and tidy state's key was made of.
use Rattle.std.specs.Prelude.{ℕ, ◌+◌, ◌-◌, ◌*◌, ◌/◌, ◌%◌, ◌^◌, ◌==◌, Bool, nat_lt, List, Option, Some, None, map, slice_index, if◌then◌else◌}
use Rattle.std.specs.List.{range_with_len}
use Rattle.state_key.specs.declared.unpack.TheConstants.{BINDINGS_AT, ATTRIBUTES_AT, FIXED_AT, ENTRIES_AT, FRAGMENT_ENTRIES_AT}
use Rattle.limits.specs.declared.TheConstants.{LOCATIONS, VERTEX_BINDINGS, DESCRIPTOR_SETS, ENTRIES, ATTACHMENTS}
use Rattle.state_model.specs.declared.parts.Topology.TheVariants.{Points, Triangles}
use Rattle.state_model.specs.declared.parts.VertexBinding.{VertexBinding}
use Rattle.state_model.specs.declared.parts.Attribute.{Attribute}
use Rattle.state_model.specs.declared.parts.Layout.{Layout}
use Rattle.state_model.specs.declared.parts.Entry.{Entry}
use Rattle.state_model.specs.declared.parts.SpecValues.{SpecValues}
use Rattle.state_model.specs.declared.parts.Depth.{Depth}
use Rattle.state_model.specs.declared.parts.Multisample.{Multisample}
use Rattle.state_model.specs.declared.parts.Attachment.{Attachment}
use Rattle.state_model.specs.declared.parts.VertexPart.{VertexPart}
use Rattle.state_model.specs.declared.parts.PrerastPart.{PrerastPart}
use Rattle.state_model.specs.declared.parts.FragmentPart.{FragmentPart}
use Rattle.state_model.specs.declared.parts.OutputPart.{OutputPart}
use Rattle.state_model.specs.declared.parts.State.{State}

-- so many bits of the word from a bit on
abbrev pub field : ℕ → ℕ → ℕ → ℕ
field word at bits = word / 2 ^ at % 2 ^ bits

abbrev pub flag : ℕ → ℕ → Bool
flag word at = field word at 1 == 1

-- value i of those that were packed into the word
abbrev pub digit : ℕ → ℕ → ℕ → ℕ
digit bits word i = word / 2 ^ (bits * i) % 2 ^ bits

abbrev pub binding_of : ℕ → Option VertexBinding
binding_of w = if flag w 0 then Some (record { stride = field w 32 32; per_instance = flag w 1 }) else None

abbrev pub attribute_of : ℕ → Option Attribute
attribute_of w =
    if flag w 0
    then Some (record { binding = field w 8 2; comps = field w 4 3; signed = flag w 1; offset = field w 32 32 })
    else None

abbrev pub set_of : ℕ → ℕ → ℕ → Option ℕ
set_of defined masks set = if digit 1 defined set == 1 then Some (digit 8 masks set) else None

unfoldable pub layout_of : ℕ → Layout
layout_of w = record {
  independent = flag w 0;
  push_words = field w 8 8;
  sets = map (set_of (field w 16 16) (field w 32 32)) (range_with_len 0 DESCRIPTOR_SETS);
}

abbrev pub multisample_of : ℕ → Multisample
multisample_of w = record { samples = field w 0 3; mask = field w 4 4 }

abbrev pub depth_of : ℕ → Option Depth
depth_of w = if flag w 0 then Some (record { compare = field w 4 3; write = flag w 1 }) else None

abbrev pub logic_of : ℕ → Option ℕ
logic_of w = if w == 0 then None else Some (field (w - 1) 0 4)

abbrev pub attachment_of : ℕ → Option Attachment
attachment_of byte = if byte == 0 then None else Some (record { format = field byte 0 4; write_mask = field byte 4 4 })

-- entry i of so many
abbrev pub entry_of : ℕ → ℕ → ℕ → Option Entry
entry_of count w i = if nat_lt i count then Some (record { id = field w 32 32; value = field w 0 32 }) else None

abbrev pub entry_at : List ℕ → ℕ → ℕ → ℕ → Option Entry
entry_at k at count i = entry_of count (slice_index k (at + i)) i

abbrev pub binding_at : List ℕ → ℕ → Option VertexBinding
binding_at k i = binding_of (slice_index k (BINDINGS_AT + i))

abbrev pub attribute_at : List ℕ → ℕ → Option Attribute
attribute_at k i = attribute_of (slice_index k (ATTRIBUTES_AT + i))

abbrev pub attachment_at : ℕ → ℕ → Option Attachment
attachment_at w i = attachment_of (digit 8 w i)

unfoldable pub entries_of : List ℕ → ℕ → ℕ → SpecValues
entries_of k at count = record { entries = map (entry_at k at count) (range_with_len 0 ENTRIES) }

unfoldable pub bindings_of : List ℕ → List (Option VertexBinding)
bindings_of k = map (binding_at k) (range_with_len 0 VERTEX_BINDINGS)

unfoldable pub attributes_of : List ℕ → List (Option Attribute)
attributes_of k = map (attribute_at k) (range_with_len 0 LOCATIONS)

unfoldable pub attachments_of : ℕ → List (Option Attachment)
attachments_of w = map (attachment_at w) (range_with_len 0 ATTACHMENTS)

abbrev pub vertex_of : List ℕ → VertexPart
vertex_of k = record {
  retain = flag (slice_index k 0) 8;
  topology = if flag (slice_index k 0) 0 then Triangles else Points;
  bindings = bindings_of k;
  attributes = attributes_of k;
}

abbrev pub prerast_of : List ℕ → PrerastPart
prerast_of k = record {
  retain = flag (slice_index k 0) 9;
  «module» = field (slice_index k 1) 0 32;
  layout = layout_of (slice_index k FIXED_AT);
  view_mask = field (slice_index k (FIXED_AT + 2)) 0 4;
  discard = flag (slice_index k 0) 1;
  cull = field (slice_index k 0) 2 2;
  ccw = flag (slice_index k 0) 4;
  entries = entries_of k ENTRIES_AT (field (slice_index k 2) 0 5);
}

abbrev pub fragment_of : List ℕ → FragmentPart
fragment_of k = record {
  retain = flag (slice_index k 0) 10;
  «module» = field (slice_index k 1) 32 32 - 1;
  layout = layout_of (slice_index k (FIXED_AT + 1));
  view_mask = field (slice_index k (FIXED_AT + 2)) 0 4;
  depth = depth_of (slice_index k (FIXED_AT + 4));
  multisample = None;
  entries = entries_of k FRAGMENT_ENTRIES_AT (field (slice_index k 2) 8 5);
}

abbrev pub output_of : List ℕ → OutputPart
output_of k = record {
  retain = flag (slice_index k 0) 11;
  view_mask = field (slice_index k (FIXED_AT + 2)) 0 4;
  multisample = multisample_of (slice_index k (FIXED_AT + 3));
  logic = logic_of (slice_index k (FIXED_AT + 5));
  attachments = attachments_of (slice_index k (FIXED_AT + 6));
}

unfoldable pub unpacked_state : List ℕ → State
unpacked_state k = record {
  vertex = vertex_of k;
  prerast = prerast_of k;
  fragment = if flag (slice_index k 0) 1 then None else Some (fragment_of k);
  output = if flag (slice_index k 0) 1 then None else Some (output_of k);
}
