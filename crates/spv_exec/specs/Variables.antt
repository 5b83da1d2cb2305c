-- What a run knows of a module's variables.
use Rattle.std.specs.Prelude.{◌≡◌, ℕ, ◌+◌, ◌<◌, ◌≤◌, ◌==◌, if◌then◌else◌, List, [], ◌∷◌, length, Option, None, Some}
use Rattle.std.specs.List.{fold}
use Rattle.spirv_model.specs.declared.module.Inst.{Inst}
use Rattle.spirv_model.specs.declared.module.Words.{Words}
use Rattle.state_model.specs.declared.buffers.Buffers.{Buffers}
use Rattle.valid_model.specs.Definitions.{definition, inst_at}
use Rattle.check_model.specs.Validity.{IsValidList}
use Rattle.stage_model.specs.declared.inputs.Inputs.{Inputs}
use Rattle.stage_model.specs.Program.{Program, program_of}
use Rattle.stage_model.specs.Start.{first_memory, option_word}
use Rattle.frame_model.specs.Frame.{memory_place, variable_words}
use Rattle.spv_exec.specs.declared.variables.Fill.{Fill}
use Rattle.spv_exec.specs.declared.outputs.Outputs.{Outputs}
use Rattle.spv_exec.specs.declared.origins.Origin.{Origin}
use Rattle.spv_exec.specs.Origins.{index_of, origin_word}
use Rattle.spv_exec.specs.Outputs.{AreOutputs}

-- a word of a cleared memory into which one more word, or all words, were filled
abbrev pub filled_by : Inputs → Buffers → ℕ → ℕ → Fill → ℕ
filled_by inputs buffers at word fill = if fill.at == at then origin_word inputs buffers fill.origin fill.index else word

unfoldable pub filled : Inputs → Buffers → List Fill → ℕ → ℕ
filled inputs buffers fills at = fold (filled_by inputs buffers at) 0 fills

-- filled so, the memory holds what the variables of the first instructions hold when a run begins, and zeros behind
pub record AreFills (program : Program) (count : ℕ) (fills : List Fill) : Type 0 where
  pub held : (inputs : Inputs) (buffers : Buffers) (variable place k : ℕ) → place < count → definition program.insts variable ≡ Some place
      → k < variable_words program (inst_at program.insts place) → filled inputs buffers fills (memory_place program place + k) ≡ first_memory program inputs buffers variable k
  pub beyond : (inputs : Inputs) (buffers : Buffers) (at : ℕ) → memory_place program count ≤ at → filled inputs buffers fills at ≡ 0

pub record IsVariables (words : Words) (fills : List Fill) (outputs : Outputs) : Type 0 where
  pub valid : IsValidList words
  pub filled_in : AreFills (program_of words.insts) (length words.insts) fills
  pub left_in : AreOutputs words.insts (length words.insts) outputs

-- the words of a variable, which stand at these places, are filled in, too
pub record AddsWords (origin : Origin) (offsets : List ℕ) (start end : ℕ) (old new : List Fill) : Type 0 where
  pub before : (inputs : Inputs) (buffers : Buffers) (at : ℕ) → at < start → filled inputs buffers new at ≡ filled inputs buffers old at
  pub held : (inputs : Inputs) (buffers : Buffers) (k : ℕ) → start + k < end → filled inputs buffers old (start + k) ≡ 0
      → filled inputs buffers new (start + k) ≡ option_word (origin_word inputs buffers origin) (index_of origin offsets k)
  pub beyond : (inputs : Inputs) (buffers : Buffers) (at : ℕ) → end ≤ at → start ≤ at → filled inputs buffers new at ≡ filled inputs buffers old at

-- what is filled in for a word with this number where it comes from, if it has one
abbrev pub one_fill : Origin → ℕ → Option ℕ → List Fill
one_fill origin at None = []
one_fill origin at (Some index) = record { at = at; index = index; origin = origin } ∷ []
