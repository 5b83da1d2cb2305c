-- The key's words as plain numbers: each field of a state alone, and a state that sets them all.
use Rattle.std.proofs.Common.{◌≡◌, ℕ, ◌+◌, ◌++◌, List, [], ◌∷◌, Bool, true, false, Option, Some, None, map, length, replicate, refl}
use Rattle.std.specs.List.{range_with_len}
use Rattle.limits.specs.declared.TheConstants.{LOCATIONS, VERTEX_BINDINGS, DESCRIPTOR_SETS, ENTRIES, ATTACHMENTS}
use Rattle.state_model.specs.Key.{key, flags_word, binding_word, attribute_word, layout_word, multisample_word, depth_word, logic_word, attachment_byte, entry_word}
use Rattle.state_model.specs.declared.parts.Topology.{Topology}
use Rattle.state_model.specs.declared.parts.Topology.TheVariants.{Points, Triangles}
use Rattle.state_model.specs.declared.parts.VertexBinding.{VertexBinding}
use Rattle.state_model.specs.declared.parts.Attribute.{Attribute}
use Rattle.state_model.specs.declared.parts.Layout.{Layout}
use Rattle.state_model.specs.declared.parts.Entry.{Entry}
use Rattle.state_model.specs.declared.parts.SpecValues.{SpecValues}
use Rattle.state_model.specs.declared.parts.Multisample.{Multisample}
use Rattle.state_model.specs.declared.parts.Attachment.{Attachment}
use Rattle.state_model.specs.declared.parts.VertexPart.{VertexPart}
use Rattle.state_model.specs.declared.parts.PrerastPart.{PrerastPart}
use Rattle.state_model.specs.declared.parts.FragmentPart.{FragmentPart}
use Rattle.state_model.specs.declared.parts.OutputPart.{OutputPart}
use Rattle.state_model.specs.declared.parts.State.{State}

abbrev pub binding : ℕ → Bool → Option VertexBinding
binding stride per_instance = Some (record { stride = stride; per_instance = per_instance })

abbrev pub attribute : ℕ → ℕ → Bool → ℕ → Option Attribute
attribute number comps signed offset = Some (record { binding = number; comps = comps; signed = signed; offset = offset })

abbrev pub layout : Bool → ℕ → List (Option ℕ) → Layout
layout independent push_words sets = record { independent = independent; push_words = push_words; sets = sets }

abbrev pub entry : ℕ → ℕ → Option Entry
entry id value = Some (record { id = id; value = value })

abbrev pub attachment : ℕ → ℕ → Option Attachment
attachment format write_mask = Some (record { format = format; write_mask = write_mask })

abbrev pub samples_and_mask : ℕ → ℕ → Multisample
samples_and_mask samples mask = record { samples = samples; mask = mask }

abbrev pub no_sets : List (Option ℕ)
no_sets = replicate DESCRIPTOR_SETS None

abbrev pub no_entries : SpecValues
no_entries = record { entries = replicate ENTRIES None }

-- nothing is there but the four parts
abbrev pub vertex_part : Bool → Topology → VertexPart
vertex_part retain topology = record {
  retain = retain;
  topology = topology;
  bindings = replicate VERTEX_BINDINGS None;
  attributes = replicate LOCATIONS None;
}

abbrev pub prerast_part : Bool → Bool → ℕ → Bool → PrerastPart
prerast_part retain discard cull ccw = record {
  retain = retain;
  «module» = 0;
  layout = layout false 0 no_sets;
  view_mask = 0;
  discard = discard;
  cull = cull;
  ccw = ccw;
  entries = no_entries;
}

abbrev pub fragment_part : Bool → FragmentPart
fragment_part retain = record {
  retain = retain;
  «module» = 0;
  layout = layout false 0 no_sets;
  view_mask = 0;
  depth = None;
  multisample = None;
  entries = no_entries;
}

abbrev pub output_part : Bool → OutputPart
output_part retain = record {
  retain = retain;
  view_mask = 0;
  multisample = samples_and_mask 1 1;
  logic = None;
  attachments = replicate ATTACHMENTS None;
}

abbrev state_of_parts : VertexPart → PrerastPart → FragmentPart → OutputPart → State
state_of_parts vertex prerast fragment output = record {
  vertex = vertex;
  prerast = prerast;
  fragment = Some fragment;
  output = Some output;
}

abbrev flags : Topology → PrerastPart → Bool → Bool → Bool → ℕ
flags topology prerast vertex fragment output =
    flags_word (state_of_parts (vertex_part vertex topology) prerast (fragment_part fragment) (output_part output))

flags_of_topology : flags Points (prerast_part false false 0 false) false false false ∷ flags Triangles (prerast_part false false 0 false) false false false ∷ [] ≡ 0 ∷ 1 ∷ []
flags_of_topology = refl

flags_of_rasterization :
    map (λ prerast. flags Points prerast false false false)
    (prerast_part false true 0 false ∷ prerast_part false false 1 false ∷ prerast_part false false 2 false ∷ prerast_part false false 0 true ∷ [])
    ≡ 2 ∷ 4 ∷ 8 ∷ 16 ∷ []
flags_of_rasterization = refl

flags_of_retained :
    flags Points (prerast_part false false 0 false) true false false ∷ flags Points (prerast_part true false 0 false) false false false
    ∷ flags Points (prerast_part false false 0 false) false true false ∷ flags Points (prerast_part false false 0 false) false false true ∷ []
    ≡ 256 ∷ 512 ∷ 1024 ∷ 2048 ∷ []
flags_of_retained = refl

binding_words : map binding_word (None ∷ binding 0 false ∷ binding 0 true ∷ binding 1024 false ∷ []) ≡ 0 ∷ 1 ∷ 3 ∷ 0x400_0000_0001 ∷ []
binding_words = refl

attribute_words :
    map attribute_word (None ∷ attribute 0 1 false 0 ∷ attribute 0 1 true 0 ∷ attribute 0 4 false 0 ∷ attribute 3 1 false 0 ∷ attribute 0 1 false 1023 ∷ [])
    ≡ 0 ∷ 0x11 ∷ 0x13 ∷ 0x41 ∷ 0x311 ∷ 0x3ff_0000_0011 ∷ []
attribute_words = refl

layout_words :
    map layout_word
    (layout false 0 no_sets ∷ layout true 0 no_sets ∷ layout false 32 no_sets ∷ layout false 0 (Some 0 ∷ None ∷ None ∷ None ∷ [])
    ∷ layout false 0 (None ∷ None ∷ None ∷ Some 255 ∷ []) ∷ [])
    ≡ 0 ∷ 1 ∷ 0x2000 ∷ 0x1_0000 ∷ 0xff00_0000_0008_0000 ∷ []
layout_words = refl

multisample_words : map multisample_word (samples_and_mask 1 1 ∷ samples_and_mask 2 3 ∷ samples_and_mask 4 8 ∷ []) ≡ 0x11 ∷ 0x32 ∷ 0x84 ∷ []
multisample_words = refl

depth_words :
    map depth_word (None ∷ Some (record { compare = 0; write = false }) ∷ Some (record { compare = 0; write = true }) ∷ Some (record { compare = 7; write = false }) ∷ [])
    ≡ 0 ∷ 1 ∷ 3 ∷ 0x71 ∷ []
depth_words = refl

logic_words : map logic_word (None ∷ Some 0 ∷ Some 15 ∷ []) ≡ 0 ∷ 1 ∷ 16 ∷ []
logic_words = refl

attachment_bytes : map attachment_byte (None ∷ attachment 1 1 ∷ attachment 8 15 ∷ []) ≡ 0 ∷ 0x11 ∷ 0xf8 ∷ []
attachment_bytes = refl

entry_words : map entry_word (None ∷ entry 0 7 ∷ entry 1 0 ∷ []) ≡ 0 ∷ 7 ∷ 0x1_0000_0000 ∷ []
entry_words = refl

abbrev sixteen_entries : List (Option Entry)
sixteen_entries = map (λ i. entry (256 + i) (0xf000_0000 + i)) (range_with_len 0 16)

-- every field is set, and no two words that differ in place are alike
abbrev full_state : State
full_state = record {
  vertex = record {
    retain = true;
    topology = Triangles;
    bindings = binding 1024 false ∷ None ∷ None ∷ binding 3 true ∷ [];
    attributes = (attribute 3 4 true 1023 ∷ replicate 6 None) ++ attribute 0 1 false 0 ∷ [];
  };
  prerast = record {
    retain = false;
    «module» = 63;
    layout = layout true 32 (Some 255 ∷ None ∷ Some 0 ∷ Some 129 ∷ []);
    view_mask = 10;
    discard = false;
    cull = 2;
    ccw = true;
    entries = record { entries = sixteen_entries };
  };
  fragment = Some (record {
    retain = true;
    «module» = 7;
    layout = layout false 5 (None ∷ Some 3 ∷ None ∷ None ∷ []);
    view_mask = 10;
    depth = Some (record { compare = 6; write = true });
    multisample = None;
    entries = record { entries = entry 9 1 ∷ entry 0xffff_ffff 0xffff_ffff ∷ replicate 14 None };
  });
  output = Some (record {
    retain = false;
    view_mask = 10;
    multisample = samples_and_mask 2 3;
    logic = Some 15;
    attachments = (attachment 4 15 ∷ replicate 6 None) ++ attachment 6 2 ∷ [];
  });
}

full_key : key full_state ≡
    0x519 ∷ 0x8_0000_003f ∷ 528 ∷ 0
    ∷ 0x400_0000_0001 ∷ 0 ∷ 0 ∷ 0x3_0000_0003
    ∷ 0x3ff_0000_0343 ∷ 0 ∷ 0 ∷ 0
    ∷ 0 ∷ 0 ∷ 0 ∷ 17
    ∷ 0x8100_00ff_000d_2001 ∷ 0x300_0002_0500 ∷ 10 ∷ 50
    ∷ 99 ∷ 16 ∷ 0x2600_0000_0000_00f4 ∷ 0
    ∷ 0x100_f000_0000 ∷ 0x101_f000_0001 ∷ 0x102_f000_0002 ∷ 0x103_f000_0003
    ∷ 0x104_f000_0004 ∷ 0x105_f000_0005 ∷ 0x106_f000_0006 ∷ 0x107_f000_0007
    ∷ 0x108_f000_0008 ∷ 0x109_f000_0009 ∷ 0x10a_f000_000a ∷ 0x10b_f000_000b
    ∷ 0x10c_f000_000c ∷ 0x10d_f000_000d ∷ 0x10e_f000_000e ∷ 0x10f_f000_000f
    ∷ 0x9_0000_0001 ∷ 0xffff_ffff_ffff_ffff ∷ 0 ∷ 0
    ∷ 0 ∷ 0 ∷ 0 ∷ 0
    ∷ 0 ∷ 0 ∷ 0 ∷ 0
    ∷ 0 ∷ 0 ∷ 0 ∷ 0 ∷ []
unfolding key
full_key = refl

full_key_words : length (key full_state) ≡ 56
unfolding key
full_key_words = refl

-- points, vertex module 0, fragment module 1, all four retained, one attachment
abbrev point_state : State
point_state = state_of_parts (vertex_part true Points) (prerast_part true false 0 false)
    (record (fragment_part true) { «module» = 1 })
    (record (output_part true) { attachments = attachment 1 1 ∷ replicate 7 None })

point_key : key point_state ≡ (3840 ∷ 8589934592 ∷ replicate 17 0) ++ (17 ∷ 0 ∷ 0 ∷ 17 ∷ []) ++ replicate 33 0
unfolding key
point_key = refl
