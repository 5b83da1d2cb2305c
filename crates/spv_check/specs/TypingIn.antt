-- What the ids of a module tell, as what operands are judged by.
use Rattle.std.specs.Prelude.{◌≡◌}
use Rattle.std.specs.Option.{option_and_then}
use Rattle.spirv_model.specs.declared.module.Words.{Words}
use Rattle.valid_model.specs.Definitions.{inst_at}
use Rattle.valid_model.specs.ModuleFacts.{facts_of, is_vertex}
use Rattle.check_model.specs.Typing.{Typing, constant_in}
use Rattle.spv_types.specs.Answers.{AreIdsOf, meaning_at, place_at}
use Rattle.spv_check.specs.declared.typing.ModuleIds.{ModuleIds}

abbrev pub typing_in : ModuleIds → Typing
typing_in known = record {
  meaning = meaning_at known.ids.now;
  constant = λ id. option_and_then (λ place. constant_in (inst_at known.insts.now place)) (place_at known.ids.now id);
  vertex = known.vertex;
}

-- these are the instructions of the words, their ids, and whether they are a vertex module
pub record AreModuleIds (words : Words) (known : ModuleIds) : Type 0 where
  pub insts : known.insts.now ≡ words.insts
  pub ids : AreIdsOf words known.ids.now
  pub vertex : known.vertex ≡ is_vertex (facts_of words.insts)
