-- The canonical form of a state for the specialization constants that its two modules declare: as properties
-- (`IsCanonicalOf`), and as the one state that has them (`canonical`).
use Rattle.std.specs.Prelude.{◌≡◌, ◌≢◌, ◌==◌, ◌↔◌, ℕ, ◌<◌, Bool, false, nat_le, List, [], ◌∷◌, Option, Some, None, map, length, if◌then◌else◌, IfSome, IsSome, IsNone, IsSomeAnd, IsTrue, IsFalse}
use Rattle.std.specs.List.{AllPairs, Contains, list_any, range_with_len}
use Rattle.std.specs.Option.{option_map, option_map_or}
use Rattle.state_model.specs.Lawful.{present_at}
use Rattle.limits.specs.declared.TheConstants.{VERTEX_BINDINGS}
use Rattle.state_model.specs.declared.vulkan.TheConstants.{CULL_MODE_NONE, LOGIC_OP_COPY}
use Rattle.state_model.specs.declared.parts.Topology.{Topology}
use Rattle.state_model.specs.declared.parts.Topology.TheVariants.{Points, Triangles}
use Rattle.state_model.specs.declared.parts.VertexBinding.{VertexBinding}
use Rattle.state_model.specs.declared.parts.Attribute.{Attribute}
use Rattle.state_model.specs.declared.parts.Entry.{Entry}
use Rattle.state_model.specs.declared.parts.SpecValues.{SpecValues}
use Rattle.state_model.specs.declared.parts.VertexPart.{VertexPart}
use Rattle.state_model.specs.declared.parts.PrerastPart.{PrerastPart}
use Rattle.state_model.specs.declared.parts.FragmentPart.{FragmentPart}
use Rattle.state_model.specs.declared.parts.OutputPart.{OutputPart}
use Rattle.state_model.specs.declared.parts.State.{State}

-- entries by ascending ids, those that are absent last
abbrev pub Precedes : Option Entry → Option Entry → Type 0
Precedes a b = IfSome b (λ f. IsSomeAnd a (λ e. e.id < f.id))

abbrev pub AreInOrder : List (Option Entry) → Type 0
AreInOrder entries = AllPairs Precedes entries

-- the entries whose ids are declared stay, the others are dropped, and those that stay are in order
pub record KeepsDeclared (ids : List ℕ) (old new : List (Option Entry)) : Type 0 where
  pub kept : (e : Entry) → Contains new (Some e) ↔ (Contains old (Some e) × Contains ids e.id)
  pub in_order : AreInOrder new
  pub same_count : length new ≡ length old

-- whether some attribute names the binding of that number
abbrev pub is_named : List (Option Attribute) → ℕ → Bool
is_named attributes number = list_any (λ o. option_map_or (λ a. a.binding == number) o false) attributes

-- the bindings that some attribute names stay, the others are dropped
pub record KeepsNamed (attributes : List (Option Attribute)) (old new : List (Option VertexBinding)) : Type 0 where
  pub named : (number : ℕ) → IsTrue (is_named attributes number) → present_at new number ≡ present_at old number
  pub unnamed : (number : ℕ) → IsFalse (is_named attributes number) → IsNone (present_at new number)
  pub same_count : length new ≡ length old

pub record IsCanonicalVertex (old new : VertexPart) : Type 0 where
  pub bindings : KeepsNamed old.attributes old.bindings new.bindings
  pub rest : new ≡ record old { bindings = new.bindings }

-- points have no facing: they aren't culled and have no winding
pub record IsCanonicalPrerast (ids : List ℕ) (topology : Topology) (old new : PrerastPart) : Type 0 where
  pub entries : KeepsDeclared ids old.entries.entries new.entries.entries
  pub points : topology ≡ Points → (new.cull ≡ CULL_MODE_NONE) × (new.ccw ≡ false)
  pub triangles : topology ≡ Triangles → (new.cull ≡ old.cull) × (new.ccw ≡ old.ccw)
  pub rest : new ≡ record old { cull = new.cull; ccw = new.ccw; entries = new.entries }

-- the output part alone says the multisample state
pub record IsCanonicalFragment (ids : List ℕ) (old new : FragmentPart) : Type 0 where
  pub entries : KeepsDeclared ids old.entries.entries new.entries.entries
  pub multisample : IsNone new.multisample
  pub rest : new ≡ record old { multisample = new.multisample; entries = new.entries }

-- COPY is what is done without a logic operation
pub record IsCanonicalOutput (old new : OutputPart) : Type 0 where
  pub copy : old.logic ≡ Some LOGIC_OP_COPY → IsNone new.logic
  pub others : old.logic ≢ Some LOGIC_OP_COPY → new.logic ≡ old.logic
  pub rest : new ≡ record old { logic = new.logic }

-- both are absent, or both are there and related
abbrev pub BothOrNeither : {X : Type 0} → (X → X → Type 0) → Option X → Option X → Type 0
BothOrNeither R None b = IsNone b
BothOrNeither R (Some x) b = IsSomeAnd b (R x)

-- `new` is the canonical form of `old`, whose modules declare these ids
pub record IsCanonicalOf (vs_ids fs_ids : List ℕ) (old new : State) : Type 0 where
  pub vertex : IsCanonicalVertex old.vertex new.vertex
  pub prerast : IsCanonicalPrerast vs_ids old.vertex.topology old.prerast new.prerast
  pub fragment : BothOrNeither (IsCanonicalFragment fs_ids) old.fragment new.fragment
  pub output : BothOrNeither IsCanonicalOutput old.output new.output

-- what the canonical form changes isn't there, but for entries that no module declares
pub record IsTidy (s : State) : Type 0 where
  pub vertex_entries : AreInOrder s.prerast.entries.entries
  pub fragment_entries : IfSome s.fragment (λ f. AreInOrder f.entries.entries)
  pub bindings : (number : ℕ) → IsSome (present_at s.vertex.bindings number) → IsTrue (is_named s.vertex.attributes number)
  pub points : s.vertex.topology ≡ Points → (s.prerast.cull ≡ CULL_MODE_NONE) × (s.prerast.ccw ≡ false)
  pub multisample : IfSome s.fragment (λ f. IsNone f.multisample)
  pub logic : IfSome s.output (λ o. o.logic ≢ Some LOGIC_OP_COPY)

-- the same state, computed

-- whether the id is declared
abbrev pub is_declared : List ℕ → ℕ → Bool
is_declared ids id = list_any (λ x. x == id) ids

abbrev pub if_declared : List ℕ → Option Entry → Option Entry
if_declared ids None = None
if_declared ids (Some e) = if is_declared ids e.id then Some e else None

-- an id, or more than each id for what is absent
abbrev pub entry_rank : Option Entry → ℕ
entry_rank None = 0x1_0000_0000
entry_rank (Some e) = e.id

abbrev pub with_entry : Option Entry → List (Option Entry) → List (Option Entry)
with_entry o [] = o ∷ []
with_entry o (x ∷ xs) = if nat_le (entry_rank o) (entry_rank x) then o ∷ x ∷ xs else x ∷ with_entry o xs

abbrev pub in_order : List (Option Entry) → List (Option Entry)
in_order [] = []
in_order (x ∷ xs) = with_entry x (in_order xs)

unfoldable pub canonical_entries : List ℕ → SpecValues → SpecValues
canonical_entries ids v = record { entries = in_order (map (if_declared ids) v.entries) }

abbrev pub canonical_vertex : VertexPart → VertexPart
canonical_vertex v =
    let kept = λ (number : ℕ). if is_named v.attributes number then present_at v.bindings number else None
    in record v { bindings = map kept (range_with_len 0 VERTEX_BINDINGS) }

abbrev pub canonical_prerast : List ℕ → Topology → PrerastPart → PrerastPart
canonical_prerast ids Points p = record p { cull = CULL_MODE_NONE; ccw = false; entries = canonical_entries ids p.entries }
canonical_prerast ids Triangles p = record p { entries = canonical_entries ids p.entries }

abbrev pub canonical_fragment : List ℕ → FragmentPart → FragmentPart
canonical_fragment ids f = record f { multisample = None; entries = canonical_entries ids f.entries }

abbrev pub without_copy : Option ℕ → Option ℕ
without_copy None = None
without_copy (Some op) = if op == LOGIC_OP_COPY then None else Some op

abbrev pub canonical_output : OutputPart → OutputPart
canonical_output o = record o { logic = without_copy o.logic }

unfoldable pub canonical : List ℕ → List ℕ → State → State
canonical vs_ids fs_ids s = record {
  vertex = canonical_vertex s.vertex;
  prerast = canonical_prerast vs_ids s.vertex.topology s.prerast;
  fragment = option_map (canonical_fragment fs_ids) s.fragment;
  output = option_map canonical_output s.output;
}
