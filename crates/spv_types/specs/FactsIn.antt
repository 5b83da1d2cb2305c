-- What the tables of a module say, as the facts that the rules of decorations ask.
use Rattle.std.specs.Prelude.{ℕ, Bool}
use Rattle.std.specs.Option.{option_map}
use Rattle.std.specs.Ordering.{nat_cmp}
use Rattle.std.specs.BTreeSet.{contains}
use Rattle.spirv_model.specs.declared.module.Inst.{Inst}
use Rattle.valid_model.specs.declared.meaning.Meaning.{Meaning}
use Rattle.valid_model.specs.BuiltIns.{is_built_in}
use Rattle.valid_model.specs.Decorations.{bad_decorate, breaks_decorations}
use Rattle.valid_model.specs.Knowledge.{meaning_in}
use Rattle.valid_model.specs.EarlierFacts.{EarlierFacts}
use Rattle.valid_model.specs.ModuleFacts.{ModuleFacts, is_vertex, opcode_at}
use Rattle.valid_model.specs.Shapes.{held_type}
use Rattle.spv_types.specs.declared.module_facts.ModuleTables.{ModuleTables}
use Rattle.spv_types.specs.declared.earlier_facts.EarlierTables.{EarlierTables}
use Rattle.spv_types.specs.Pairs.{at_pair, has_pair}
use Rattle.spv_types.specs.Tables.{in_places, in_table}

abbrev pub facts_in : ModuleTables → ModuleFacts
facts_in whole = record {
  decoration = at_pair whole.decorations.now.words;
  offset = at_pair whole.decorations.now.offsets;
  opcode = λ id. option_map (opcode_at whole.insts.now) (in_places whole.places.now id);
  model = whole.model;
  meaning = λ id. meaning_in (in_table whole.known.now id);
}

abbrev pub before_in : EarlierTables → EarlierFacts
before_in seen = record {
  decoration = has_pair seen.decorations;
  offset = has_pair seen.offsets;
  spec_id = contains nat_cmp seen.spec_ids;
  slot = has_pair seen.slots;
  push = seen.push;
  position = seen.position;
}

-- the meaning of an id
abbrev pub id_meaning : ModuleTables → ℕ → Meaning
id_meaning whole id = (facts_in whole).meaning id

-- a variable of this type and class takes the built-in
abbrev pub variable_takes : ModuleTables → ℕ → ℕ → ℕ → Bool
variable_takes whole number class type = is_built_in number (is_vertex (facts_in whole)) class (held_type (facts_in whole) type)

-- OpDecorate that gives the id this decoration with this word, in so many words
abbrev pub bad_decorate_in : ModuleTables → EarlierTables → ℕ → ℕ → ℕ → ℕ → Bool
bad_decorate_in whole seen id decoration word words = bad_decorate (facts_in whole) (before_in seen) id decoration word words

-- the decoration or the variable isn't allowed
abbrev pub breaks_decorations_in : ModuleTables → EarlierTables → Inst → Bool
breaks_decorations_in whole seen inst = breaks_decorations (facts_in whole) (before_in seen) inst
