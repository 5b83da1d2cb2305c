-- When two pairs of modules may stand for each other in a draw: what their single invocations leave is the same, as far as a draw
-- shows it. Nothing is said of work.
use Rattle.std.specs.Prelude.{◌≡◌, ℕ, false, List, [], replicate, slice_index, slice_index_or, Option, None, Some}
use Rattle.limits.specs.declared.TheConstants.{ENTRIES}
use Rattle.spirv_model.specs.declared.module.Inst.{Inst}
use Rattle.spirv_model.specs.declared.storage_class.TheConstants.{INPUT}
use Rattle.spirv_model.specs.declared.decoration.TheConstants.{LOCATION}
use Rattle.valid_model.specs.declared.meaning.Meaning.TheVariants.{Variable}
use Rattle.valid_model.specs.Meanings.{meaning}
use Rattle.valid_model.specs.DecorationWords.{decoration_of}
use Rattle.state_model.specs.declared.buffers.Buffers.{Buffers}
use Rattle.state_model.specs.declared.parts.SpecValues.{SpecValues}
use Rattle.state_model.specs.declared.parts.FragmentPart.{FragmentPart}
use Rattle.state_model.specs.declared.parts.State.{State}
use Rattle.stage_model.specs.declared.inputs.Inputs.{Inputs}
use Rattle.draw_model.specs.Invocation.{invoked}
use Rattle.draw_model.specs.SampleWrites.{has_output}

abbrev pub no_entries : SpecValues
no_entries = record { entries = replicate ENTRIES None }

-- an id is an Input variable at the location
pub record IsInputAt (insts : List Inst) (location id : ℕ) : Type 0 where
  pub type : ℕ
  pub variable : meaning insts id ≡ Variable type INPUT
  pub located : decoration_of insts id LOCATION ≡ Some location

-- the module has an input at the location
abbrev pub HasInput : List Inst → ℕ → Type 0
HasInput insts location = (id : ℕ) × IsInputAt insts location id

-- the words of a location
abbrev pub slot : List (List ℕ) → ℕ → List ℕ
slot slots location = slice_index_or slots location []

-- a vertex module without entries leaves what the own one leaves with its entries, at these locations
pub record AgreeVertex (Read : ℕ → Type 0) (own : List Inst) (entries : SpecValues) (new : List Inst) : Type 0 where
  pub kind : (buffers : Buffers) (inputs : Inputs) → (invoked new no_entries buffers inputs).kind ≡ (invoked own entries buffers inputs).kind
  pub position : (buffers : Buffers) (inputs : Inputs) → (invoked new no_entries buffers inputs).position ≡ (invoked own entries buffers inputs).position
  pub slots : (buffers : Buffers) (inputs : Inputs) (location : ℕ) → Read location →
      slot (invoked new no_entries buffers inputs).slots location ≡ slot (invoked own entries buffers inputs).slots location

-- the inputs are zeros where the vertex module has no output
abbrev pub AreFed : List Inst → Inputs → Type 0
AreFed vs inputs = (location at : ℕ) → has_output vs location ≡ false → slice_index (slot inputs.slots location) at ≡ 0

-- the same of a fragment module, for each input that the own vertex module can feed; it has the same outputs
pub record AgreeFragment (vs own : List Inst) (entries : SpecValues) (new : List Inst) : Type 0 where
  pub kind : (buffers : Buffers) (inputs : Inputs) → AreFed vs inputs →
      (invoked new no_entries buffers inputs).kind ≡ (invoked own entries buffers inputs).kind
  pub slots : (buffers : Buffers) (inputs : Inputs) → AreFed vs inputs →
      (invoked new no_entries buffers inputs).slots ≡ (invoked own entries buffers inputs).slots
  pub outputs : (location : ℕ) → has_output new location ≡ has_output own location

-- the entries of a fragment part
abbrev pub fragment_values : Option FragmentPart → SpecValues
fragment_values None = no_entries
fragment_values (Some part) = part.entries

-- Two modules without entries agree with a pipeline's own two modules. Under discard nothing is said of slots.
abbrev pub Agree : State → (vs : List Inst) (fs : Option (List Inst)) (new_vs : List Inst) (new_fs : Option (List Inst)) → Type 0
Agree state vs None new_vs None = AgreeVertex (λ location. ⊥) vs state.prerast.entries new_vs
Agree state vs (Some fs) new_vs (Some new_fs) =
    AgreeVertex (HasInput new_fs) vs state.prerast.entries new_vs
    × AgreeFragment vs fs (fragment_values state.fragment) new_fs
Agree state vs fs new_vs new_fs = ⊥
