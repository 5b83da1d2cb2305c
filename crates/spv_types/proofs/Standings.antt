-- What stands before a place and what the tables of a module say are what the rules ask.
use Rattle.std.proofs.Common.{◌≡◌, ℕ, ◌+◌, ◌<◌, Bool, ◌||◌, List, [], length, take, get_or, ◌∙◌, ap, sym}
use Rattle.std.specs.Option.{option_map}
use Rattle.std.specs.List.{list_any}
use Rattle.std.proofs.lemmas.List.{get_or_default}
use Rattle.std.proofs.lemmas.List.Folds.{list_any_more}
use Rattle.spirv_model.specs.declared.module.Inst.{Inst}
use Rattle.spirv_model.specs.declared.op.TheConstants.{NOP}
use Rattle.spirv_model.specs.declared.storage_class.TheConstants.{PUSH_CONSTANT}
use Rattle.valid_model.specs.Knowledge.{meaning_in}
use Rattle.valid_model.specs.DecorationWords.{decorates, places_member}
use Rattle.valid_model.specs.Decorations.{breaks_decorations, bad_decoration}
use Rattle.valid_model.specs.EarlierFacts.{EarlierFacts, before_of, has_spec_id, has_slot, is_variable_of, is_position_variable}
use Rattle.valid_model.specs.ModuleFacts.{ModuleFacts, facts_of, opcode_at, opcode_of}
use Rattle.spv_types.specs.declared.module_facts.ModuleTables.{ModuleTables}
use Rattle.spv_types.specs.FactsIn.{facts_in}
use Rattle.spv_types.specs.FirstBad.{IsWhole}
use Rattle.spv_types.specs.Standing.{StandsFor, Adds}

any_more : (p : Inst → Bool) (insts : List Inst) (i : ℕ) (d : Inst) (old now : Bool) → i < length insts
    → old ≡ list_any p (take i insts) → now ≡ (old || p (get_or insts i d)) → now ≡ list_any p (take (i + 1) insts)
any_more p insts i d old now within before added = added ∙ ap (λ b. b || p (get_or insts i d)) before ∙ sym (list_any_more p insts i d within)

pub stands_more : (facts : ModuleFacts) (insts : List Inst) (i : ℕ) (d : Inst) (old now : EarlierFacts) → i < length insts
    → StandsFor facts (take i insts) old → Adds facts (get_or insts i d) old now → StandsFor facts (take (i + 1) insts) now
stands_more facts insts i d old now within before added = record {
  decoration = λ id decoration. any_more (decorates id decoration) insts i d _ _ within (before.decoration id decoration) (added.decoration id decoration);
  offset = λ id member. any_more (places_member id member) insts i d _ _ within (before.offset id member) (added.offset id member);
  spec_id = λ number. any_more (has_spec_id number) insts i d _ _ within (before.spec_id number) (added.spec_id number);
  slot = λ set binding. any_more (has_slot facts set binding) insts i d _ _ within (before.slot set binding) (added.slot set binding);
  push = any_more (is_variable_of PUSH_CONSTANT) insts i d _ _ within before.push added.push;
  position = any_more (is_position_variable facts) insts i d _ _ within before.position added.position;
}

pub stands_is : (facts : ModuleFacts) (insts : List Inst) (before : EarlierFacts) → StandsFor facts insts before → before ≡ before_of facts insts
unfolding before_of
stands_is facts insts before stands = λ i. record {
  decoration = λ id decoration. stands.decoration id decoration i;
  offset = λ id member. stands.offset id member i;
  spec_id = λ number. stands.spec_id number i;
  slot = λ set binding. stands.slot set binding i;
  push = stands.push i;
  position = stands.position i;
}

pub facts_are : (whole : ModuleTables) → IsWhole whole → facts_in whole ≡ facts_of whole.insts.now
unfolding facts_of opcode_of
facts_are whole is = λ i. record {
  decoration = λ id decoration. is.decorations.words id decoration i;
  offset = λ id member. is.decorations.offsets id member i;
  opcode = λ id. option_map (opcode_at whole.insts.now) (is.places id i);
  model = is.model i;
  meaning = λ id. meaning_in (is.known id i);
}

-- whether the decoration at a place is bad, by the tables
pub bad_here : (whole : ModuleTables) (before : EarlierFacts) (i : ℕ) (d : Inst) (breaks : Bool) → IsWhole whole → i < length whole.insts.now
    → StandsFor (facts_in whole) (take i whole.insts.now) before
    → breaks ≡ breaks_decorations (facts_in whole) before (get_or whole.insts.now i d) → bad_decoration whole.insts.now i ≡ breaks
unfolding bad_decoration
bad_here whole before i d breaks is within stands found =
    let insts = whole.insts.now in
    let Breaks : ModuleFacts → Bool = λ facts. breaks_decorations facts (before_of facts (take i insts)) (get_or insts i (record { op = NOP; words = [] })) in
    ap Breaks (sym (facts_are whole is))
    ∙ ap (λ (x : Inst). breaks_decorations (facts_in whole) (before_of (facts_in whole) (take i insts)) x) (get_or_default insts i (record { op = NOP; words = [] }) d within)
    ∙ ap (λ (b : EarlierFacts). breaks_decorations (facts_in whole) b (get_or insts i d)) (sym (stands_is (facts_in whole) (take i insts) before stands))
    ∙ sym found
