-- The parts of the test for tidy states.
use Rattle.std.specs.Prelude.{◌≡◌, ℕ, false, IsTrue, IsSome, ◌-◌, List, Option, slice_index_or}
use Rattle.state_model.specs.Lawful.{present_at}
use Rattle.state_model.specs.Canonical.{is_named, Precedes}
use Rattle.state_model.specs.declared.vulkan.TheConstants.{CULL_MODE_NONE}
use Rattle.state_model.specs.declared.parts.Topology.{Topology}
use Rattle.state_model.specs.declared.parts.Topology.TheVariants.{Points}
use Rattle.state_model.specs.declared.parts.Entry.{Entry}
use Rattle.state_model.specs.declared.parts.VertexBinding.{VertexBinding}
use Rattle.state_model.specs.declared.parts.Attribute.{Attribute}
use Rattle.state_model.specs.declared.parts.PrerastPart.{PrerastPart}

abbrev pub BindingsAreNamed : List (Option VertexBinding) → List (Option Attribute) → Type 0
BindingsAreNamed bindings attributes =
    (number : ℕ) → IsSome (present_at bindings number) → IsTrue (is_named attributes number)

abbrev pub IsWithoutFacing : Topology → PrerastPart → Type 0
IsWithoutFacing topology p = topology ≡ Points → (p.cull ≡ CULL_MODE_NONE) × (p.ccw ≡ false)

-- the entry at i comes after the one before it
abbrev pub PrecedesNext : List (Option Entry) → ℕ → Type 0
PrecedesNext entries i =
    (d : Option Entry) → Precedes (slice_index_or entries (i - 1) d) (slice_index_or entries i d)
