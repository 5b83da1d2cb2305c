-- Changes one after another.
use Rattle.std.proofs.Common.{ℕ, ◌≤◌, List, length, refl, ◌∙◌, arith, Option}
use Rattle.spirv_model.specs.declared.module.Inst.{Inst}
use Rattle.spirv_model.specs.declared.module.Words.{Words}
use Rattle.spirv_model.specs.Module.{module_words}
use Rattle.state_model.specs.declared.parts.SpecValues.{SpecValues}
use Rattle.check_model.specs.Validity.{IsValidList}
use Rattle.stage_model.specs.Stage.{Outcome}
use Rattle.change_model.specs.Keeping.{IsKept, KeepsOutcome, Keeps, HasInterfaceOf, IsChange}

less_again : (a b c : ℕ) → a ≤ b → b ≤ c → a ≤ c
less_again a b c first second = omega arith

no_more : (a : ℕ) → a ≤ a
no_more a = omega arith

pub kept_same : (outcome : Outcome) → IsKept outcome outcome
kept_same outcome = record { kind = refl; position = refl; slots = refl; back_edges = refl; work = no_more outcome.work }

pub kept_again : (new mid old : Outcome) → IsKept new mid → IsKept mid old → IsKept new old
kept_again new mid old first second = record {
  kind = first.kind ∙ second.kind;
  position = first.position ∙ second.position;
  slots = first.slots ∙ second.slots;
  back_edges = first.back_edges ∙ second.back_edges;
  work = less_again new.work mid.work old.work first.work second.work;
}

pub outcome_again : (new mid old : Option Outcome) → KeepsOutcome new mid → KeepsOutcome mid old → KeepsOutcome new old
outcome_again new mid old first second = λ outcome is.
    let b = second outcome is in
    let a = first b.0 b.1 in
    (a.0, a.1, kept_again a.0 b.0 outcome a.2 b.2)

pub keeps_same : (zeros : List ℕ) (words : Words) (entries : SpecValues) → Keeps zeros words entries words entries
keeps_same zeros words entries = record {
  does = λ inputs buffers are outcome is. (outcome, is, kept_same outcome);
  words = no_more (length (module_words words.insts words.bound));
}

-- what keeps a module that keeps another one keeps that one
pub keeps_again : (zeros : List ℕ) (new mid old : Words) (settled between entries : SpecValues) → Keeps zeros new settled mid between → Keeps zeros mid between old entries → Keeps zeros new settled old entries
keeps_again zeros new mid old settled between entries first second = record {
  does = λ inputs buffers are. outcome_again _ _ _ (first.does inputs buffers are) (second.does inputs buffers are);
  words = less_again _ _ _ first.words second.words;
}

pub interface_again : (new mid old : List Inst) → HasInterfaceOf new mid → HasInterfaceOf mid old → HasInterfaceOf new old
interface_again new mid old first second = record {
  stage = first.stage ∙ second.stage;
  inputs = first.inputs ∙ second.inputs;
  outputs = first.outputs ∙ second.outputs;
}

-- nothing is changed
pub no_change : (zeros : List ℕ) (words : Words) (entries : SpecValues) → IsValidList words → IsChange zeros words entries words entries
no_change zeros words entries valid = record {
  valid = valid;
  keeps = keeps_same zeros words entries;
  interface = record { stage = refl; inputs = refl; outputs = refl };
}

-- a change of a changed module is a change
pub changes_again : (zeros : List ℕ) (new mid old : Words) (settled between entries : SpecValues) → IsChange zeros new settled mid between → IsChange zeros mid between old entries → IsChange zeros new settled old entries
changes_again zeros new mid old settled between entries first second = record {
  valid = first.valid;
  keeps = keeps_again zeros new mid old settled between entries first.keeps second.keeps;
  interface = interface_again new.insts mid.insts old.insts first.interface second.interface;
}
