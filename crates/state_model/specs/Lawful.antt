-- The lawful states: each field in its range, and the parts in accord with each other.
use Rattle.std.specs.Prelude.{◌≡◌, ◌≢◌, ◌↔◌, ◌⊎◌, ℕ, ◌+◌, ◌-◌, ◌%◌, ◌^◌, ◌<◌, ◌≤◌, List, Option, length, slice_get, IfSome, IsSome, IsNone, IsTrue}
use Rattle.std.specs.List.{All, AllPairs}
use Rattle.std.specs.Option.{option_and_then}
use Rattle.limits.specs.declared.TheConstants.{LOCATIONS, COMPONENTS, VERTEX_BINDINGS, DESCRIPTOR_SETS, DESCRIPTOR_BINDINGS, ENTRIES, ATTACHMENTS, MODULES, MAX_STRIDE, MAX_OFFSET, PUSH_WORDS}
use Rattle.state_model.specs.declared.TheConstants.{VIEWS}
use Rattle.state_model.specs.declared.vulkan.TheConstants.{COMPARE_OP_ALWAYS, LOGIC_OP_SET, CULL_MODE_FRONT_AND_BACK, SAMPLE_COUNT_1, SAMPLE_COUNT_2, SAMPLE_COUNT_4}
use Rattle.state_model.specs.declared.format.TheConstants.{FORMAT_R32_UINT, FORMAT_R32G32B32A32_SINT}
use Rattle.state_model.specs.declared.parts.VertexBinding.{VertexBinding}
use Rattle.state_model.specs.declared.parts.Attribute.{Attribute}
use Rattle.state_model.specs.declared.parts.Layout.{Layout}
use Rattle.state_model.specs.declared.parts.Entry.{Entry}
use Rattle.state_model.specs.declared.parts.SpecValues.{SpecValues}
use Rattle.state_model.specs.declared.parts.Depth.{Depth}
use Rattle.state_model.specs.declared.parts.Multisample.{Multisample}
use Rattle.state_model.specs.declared.parts.Attachment.{Attachment}
use Rattle.state_model.specs.declared.parts.VertexPart.{VertexPart}
use Rattle.state_model.specs.declared.parts.PrerastPart.{PrerastPart}
use Rattle.state_model.specs.declared.parts.FragmentPart.{FragmentPart}
use Rattle.state_model.specs.declared.parts.OutputPart.{OutputPart}
use Rattle.state_model.specs.declared.parts.State.{State}

-- each one that is there
abbrev pub AllPresent : {X : Type 0} → (X → Type 0) → List (Option X) → Type 0
AllPresent P xs = All (λ o. IfSome o P) xs

-- the value at that place, where there is one
abbrev pub present_at : {X : Type 0} → List (Option X) → ℕ → Option X
present_at xs n = option_and_then (λ x. x) (slice_get xs n)

abbrev pub IsVertexBinding : VertexBinding → Type 0
IsVertexBinding b = b.stride ≤ MAX_STRIDE

pub record IsAttribute (a : Attribute) : Type 0 where
  pub binding : a.binding < VERTEX_BINDINGS
  pub some_comps : 0 < a.comps
  pub comps : a.comps ≤ COMPONENTS
  pub offset : a.offset ≤ MAX_OFFSET

pub record IsLayout (l : Layout) : Type 0 where
  pub push_words : l.push_words ≤ PUSH_WORDS
  pub set_count : length l.sets ≡ DESCRIPTOR_SETS
  pub masks : AllPresent (λ mask. mask < 2 ^ DESCRIPTOR_BINDINGS) l.sets

pub record IsEntry (e : Entry) : Type 0 where
  pub id : e.id < 2 ^ 32
  pub value : e.value < 2 ^ 32

-- two entries, where both are there, have different ids
abbrev pub HaveDifferentIds : Option Entry → Option Entry → Type 0
HaveDifferentIds a b = IfSome a (λ e. IfSome b (λ f. e.id ≢ f.id))

-- the entries of one stage, none with the id of another
pub record IsSpecValues (v : SpecValues) : Type 0 where
  pub count : length v.entries ≡ ENTRIES
  pub words : AllPresent IsEntry v.entries
  pub distinct : AllPairs HaveDifferentIds v.entries

abbrev pub IsDepth : Depth → Type 0
IsDepth d = d.compare ≤ COMPARE_OP_ALWAYS

pub record IsMultisample (m : Multisample) : Type 0 where
  pub samples : (m.samples ≡ SAMPLE_COUNT_1) ⊎ (m.samples ≡ SAMPLE_COUNT_2) ⊎ (m.samples ≡ SAMPLE_COUNT_4)
  pub mask : m.mask < 2 ^ m.samples

-- how many components a format has: 1 to 4 by the first four formats, and again by the next four
abbrev pub format_components : ℕ → ℕ
format_components format = (format - FORMAT_R32_UINT) % COMPONENTS + 1

pub record IsAttachment (a : Attachment) : Type 0 where
  pub first_format : FORMAT_R32_UINT ≤ a.format
  pub last_format : a.format ≤ FORMAT_R32G32B32A32_SINT
  pub write_mask : a.write_mask < 2 ^ format_components a.format

-- each attribute's binding is there
abbrev pub BindingsAreThere : VertexPart → Type 0
BindingsAreThere v = AllPresent (λ a. IsSome (present_at v.bindings a.binding)) v.attributes

pub record IsVertexPart (v : VertexPart) : Type 0 where
  pub binding_count : length v.bindings ≡ VERTEX_BINDINGS
  pub bindings : AllPresent IsVertexBinding v.bindings
  pub attribute_count : length v.attributes ≡ LOCATIONS
  pub attributes : AllPresent IsAttribute v.attributes
  pub bound : BindingsAreThere v

abbrev pub IsViewMask : ℕ → Type 0
IsViewMask mask = mask < 2 ^ VIEWS

pub record IsPrerastPart (p : PrerastPart) : Type 0 where
  pub module_number : p.module < MODULES
  pub layout : IsLayout p.layout
  pub view_mask : IsViewMask p.view_mask
  pub cull : p.cull ≤ CULL_MODE_FRONT_AND_BACK
  pub entries : IsSpecValues p.entries

pub record IsFragmentPart (f : FragmentPart) : Type 0 where
  pub module_number : f.module < MODULES
  pub layout : IsLayout f.layout
  pub view_mask : IsViewMask f.view_mask
  pub depth : IfSome f.depth IsDepth
  pub multisample : IfSome f.multisample IsMultisample
  pub entries : IsSpecValues f.entries

pub record IsOutputPart (o : OutputPart) : Type 0 where
  pub view_mask : IsViewMask o.view_mask
  pub multisample : IsMultisample o.multisample
  pub logic : IfSome o.logic (λ op. op ≤ LOGIC_OP_SET)
  pub attachment_count : length o.attachments ≡ ATTACHMENTS
  pub attachments : AllPresent IsAttachment o.attachments

-- where a fragment part has a multisample state, it is that of the output part
abbrev pub MultisamplesAccord : Option FragmentPart → Option OutputPart → Type 0
MultisamplesAccord fragment output =
    IfSome fragment (λ f. IfSome f.multisample (λ m. IfSome output (λ o. m ≡ o.multisample)))

-- fragment and output parts are there exactly where rasterization isn't discarded, the view masks are equal, and
-- the multisample states accord
pub record Accord (s : State) : Type 0 where
  pub fragment_there : IsTrue s.prerast.discard ↔ IsNone s.fragment
  pub output_there : IsTrue s.prerast.discard ↔ IsNone s.output
  pub fragment_views : IfSome s.fragment (λ f. f.view_mask ≡ s.prerast.view_mask)
  pub output_views : IfSome s.output (λ o. o.view_mask ≡ s.prerast.view_mask)
  pub multisample : MultisamplesAccord s.fragment s.output

pub record IsLawful (s : State) : Type 0 where
  pub vertex : IsVertexPart s.vertex
  pub prerast : IsPrerastPart s.prerast
  pub fragment : IfSome s.fragment IsFragmentPart
  pub output : IfSome s.output IsOutputPart
  pub accord : Accord s
