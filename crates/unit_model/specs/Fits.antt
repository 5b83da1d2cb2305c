-- Which words may stand for a library's module, and which for the modules of a pipeline: what a record of them must be.
use Rattle.std.specs.Prelude.{◌≡◌, ◌↔◌, ℕ, ◌≤◌, Bool, true, ◌&&◌, List, [], ◌∷◌, ◌++◌, length, Option, None, Some, IsNone, IsTrue}
use Rattle.std.specs.Option.{option_map, option_map_or}
use Rattle.spirv_model.specs.declared.module.Inst.{Inst}
use Rattle.spirv_model.specs.declared.module.Words.{Words}
use Rattle.spirv_model.specs.Module.{module_words}
use Rattle.state_model.specs.declared.parts.FragmentPart.{FragmentPart}
use Rattle.state_model.specs.declared.parts.OutputPart.{OutputPart}
use Rattle.state_model.specs.declared.parts.State.{State}
use Rattle.check_model.specs.declared.stage.Stage.TheVariants.{Vertex, Fragment}
use Rattle.check_model.specs.Interfaces.{stage_of}
use Rattle.check_model.specs.Validity.{IsValidList}
use Rattle.draw_model.specs.Agreement.{Agree}
use Rattle.unit_model.specs.Reduced.{IsReducedVertex, IsReducedFragment}

-- ---- records

-- the words of a module
abbrev pub words_of : Words → List ℕ
words_of module_is = module_words module_is.insts module_is.bound

-- the words of a module, where there is one
abbrev pub words_there : Option Words → List ℕ
words_there None = []
words_there (Some fs) = words_of fs

-- how many words the vertex module and the fragment module have, and then these
abbrev pub record_of : List ℕ → List ℕ → List ℕ
record_of vs fs = length vs ∷ length fs ∷ (vs ++ fs)

-- the record of a library's module
abbrev pub FitsLibrary : Words → List ℕ → Type 0
FitsLibrary own words = words ≡ record_of (words_of own) []

-- ---- the modules that stand for a pipeline's own ones

-- all libraries of the pipeline retain what an optimized link takes
abbrev pub is_retained : State → Bool
is_retained state =
    state.vertex.retain && state.prerast.retain
    && option_map_or (λ (part : FragmentPart). part.retain) state.fragment true
    && option_map_or (λ (part : OutputPart). part.retain) state.output true

pub record FitsVertex (own vs : Words) (fs : Option Words) : Type 0 where
  pub valid : IsValidList vs
  pub stage : stage_of vs.insts ≡ Vertex
  pub reduced : IsReducedVertex vs valid fs
  pub words : length (words_of vs) ≤ length (words_of own)

pub record FitsFragment (own_vs own fs : Words) : Type 0 where
  pub valid : IsValidList fs
  pub stage : stage_of fs.insts ≡ Fragment
  pub reduced : IsReducedFragment own_vs.insts fs valid
  pub words : length (words_of fs) ≤ length (words_of own)

abbrev pub FitsFragments : Words → Option Words → Option Words → Type 0
FitsFragments own_vs None None = Unit {0}
FitsFragments own_vs (Some own) (Some fs) = FitsFragment own_vs own fs
FitsFragments own_vs own fs = ⊥

abbrev pub insts_of : Option Words → Option (List Inst)
insts_of fs = option_map (λ (words : Words). words.insts) fs

-- the modules may stand for the own ones in draws with the state: they are valid, do the same, and nothing that is known is left in them
pub record FitsModules (state : State) (own_vs : Words) (own_fs : Option Words) (vs : Words) (fs : Option Words) : Type 0 where
  pub vertex : FitsVertex own_vs vs fs
  pub fragment : FitsFragments own_vs own_fs fs
  pub agree : Agree state own_vs.insts (insts_of own_fs) vs.insts (insts_of fs)

-- The words are a record of modules that may stand for the own ones of a pipeline with this state, whose libraries are all retained; it has no
-- fragment module exactly where rasterization is discarded.
pub record FitsPipeline (state : State) (own_vs : Words) (own_fs : Option Words) (words : List ℕ) : Type 0 where
  pub retained : is_retained state ≡ true
  pub vs : Words
  pub fs : Option Words
  pub is : words ≡ record_of (words_of vs) (words_there fs)
  pub discard : IsTrue state.prerast.discard ↔ IsNone fs
  pub modules : FitsModules state own_vs own_fs vs fs
