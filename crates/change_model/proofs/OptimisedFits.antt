-- What specialising both modules of a pipeline and pruning the pair leaves may stand for them.
use Rattle.std.proofs.Common.{◌≡◌, ℕ, ◌≤◌, Bool, true, false, not, List, [], length, refl, ap, sym, ◌∙◌, subst, arith, Option, None, Some}
use Rattle.std.specs.Prelude.{slice_index_or, is_some, IfSome}
use Rattle.std.specs.Option.{unwrap_or}
use Rattle.spirv_model.specs.declared.module.Inst.{Inst}
use Rattle.spirv_model.specs.declared.module.Words.{Words}
use Rattle.state_model.specs.declared.parts.SpecValues.{SpecValues}
use Rattle.state_model.specs.declared.parts.State.{State}
use Rattle.state_model.specs.declared.buffers.Buffers.{Buffers}
use Rattle.state_model.specs.declared.iface.Iface.{Iface}
use Rattle.state_model.specs.declared.iface.Slot.{Slot}
use Rattle.check_model.specs.declared.stage.Stage.TheVariants.{Vertex, Fragment}
use Rattle.check_model.specs.Interfaces.{stage_of, outputs_of}
use Rattle.check_model.specs.Validity.{IsValidList}
use Rattle.stage_model.specs.declared.inputs.Inputs.{Inputs}
use Rattle.stage_model.specs.Stage.{Outcome, stage}
use Rattle.draw_model.specs.Agreement.{no_entries, HasInput, AgreeVertex, AreFed, AgreeFragment, fragment_values}
use Rattle.draw_model.specs.Invocation.{invoked, no_outcome}
use Rattle.typed_model.proofs.NeverStuck.{never_stuck}
use Rattle.unit_model.specs.Fits.{words_of, FitsVertex, FitsFragment, FitsModules}
use Rattle.unit_model.specs.Reduced.{IsFolded, inputs_behind}
use Rattle.unit_model.specs.UsedInterface.{unfed, keeps_read_outputs}
use Rattle.change_model.specs.Keeping.{AreZerosAt, given, IsKept, IsKeptBut, KeepsOutcome, KeepsOutcomeBut}
use Rattle.change_model.specs.Pruned.{slot_of, IsPruned, is_unread_by, IsPrunedPair}
use Rattle.change_model.specs.Specialised.{IsSpecialised}
use Rattle.change_model.proofs.PlanRunsSetting.{same_lists}
use Rattle.change_model.proofs.SlotsThere.{output_is_there, input_is_there}
use Rattle.change_model.proofs.UnfedInputs.{unfed_lacks, unfed_unnamed}

-- ---- outcomes

kept_but : (unread : ℕ → Bool) (new mid old : Outcome) → IsKeptBut false unread new mid → IsKept mid old → IsKeptBut false unread new old
kept_but unread new mid old first second = record {
  kind = first.kind ∙ second.kind;
  position = λ read. first.position read ∙ second.position;
  locations = first.locations ∙ ap (λ (slots : List (List ℕ)). length slots) second.slots;
  slots = λ location read. first.slots location read ∙ ap (λ (slots : List (List ℕ)). slice_index_or slots location []) second.slots;
  back_edges = first.back_edges ∙ second.back_edges;
  work = let a = first.work in let b = second.work in omega (arith, a, b);
}

-- what keeps a module's outcome but for slots keeps that of the module that this one keeps
pub but_again : (unread : ℕ → Bool) (new mid old : Option Outcome) → KeepsOutcomeBut false unread new mid → KeepsOutcome mid old → KeepsOutcomeBut false unread new old
but_again unread new mid old first second = λ outcome is.
    let b = second outcome is in
    let a = first b.0 b.1 in
    (a.0, a.1, kept_but unread a.0 b.0 outcome a.2 b.2)

invoked_is : (insts : List Inst) (entries : SpecValues) (inputs : Inputs) (buffers : Buffers) (o : Outcome) → stage insts (given entries inputs buffers) ≡ Some o → invoked insts entries buffers inputs ≡ o
unfolding invoked
invoked_is insts entries inputs buffers o is = ap (λ (found : Option Outcome). unwrap_or found no_outcome) is

-- a valid module has an outcome, which is kept
invoked_kept : (unread : ℕ → Bool) (own : Words) → IsValidList own → (entries settled : SpecValues) (new : List Inst) (inputs : Inputs) (buffers : Buffers)
    → KeepsOutcomeBut false unread (stage new (given settled inputs buffers)) (stage own.insts (given entries inputs buffers))
    → IsKeptBut false unread (invoked new settled buffers inputs) (invoked own.insts entries buffers inputs)
invoked_kept unread own v entries settled new inputs buffers keeps =
    let o = never_stuck own v (given entries inputs buffers) in
    let k = keeps o.0 o.1 in
    let first = subst (λ (x : Outcome). IsKeptBut false unread x o.0) (sym (invoked_is new settled inputs buffers k.0 k.1)) k.2 in
    subst (λ (x : Outcome). IsKeptBut false unread (invoked new settled buffers inputs) x) (sym (invoked_is own.insts entries inputs buffers o.0 o.1)) first

-- ---- a module that is specialised and then pruned

pub record IsOptimised (zeros : List ℕ) (entries : SpecValues) (unread : ℕ → Bool) (own special new : Words) : Type 0 where
  pub own_valid : IsValidList own
  pub special_valid : IsValidList special
  pub specialised : IsSpecialised zeros entries special own
  pub valid : IsValidList new
  pub pruned : IsPruned unread new special

optimised_kept : (zeros : List ℕ) (entries : SpecValues) (unread : ℕ → Bool) (own special new : Words) → IsOptimised zeros entries unread own special new
    → (inputs : Inputs) (buffers : Buffers) → AreZerosAt zeros inputs → IsKeptBut false unread (invoked new.insts no_entries buffers inputs) (invoked own.insts entries buffers inputs)
optimised_kept zeros entries unread own special new o inputs buffers are =
    invoked_kept unread own o.own_valid entries no_entries new.insts inputs buffers
    (but_again unread (stage new.insts (given no_entries inputs buffers)) (stage special.insts (given no_entries inputs buffers)) (stage own.insts (given entries inputs buffers))
    (o.pruned.does no_entries inputs buffers) ((o.specialised.keeps no_entries).does inputs buffers are))

optimised_folded : (zeros : List ℕ) (entries : SpecValues) (unread : ℕ → Bool) (own special new : Words) (o : IsOptimised zeros entries unread own special new) → IsFolded new o.valid
optimised_folded zeros entries unread own special new o = record {
  specialized = o.pruned.reduced.specialized o.specialised.specialized;
  folded = o.pruned.reduced.folded o.specialised.folded;
  straightened = o.pruned.reduced.straightened o.special_valid.derivation o.valid.derivation (o.specialised.straightened o.special_valid.derivation);
}

optimised_words : (zeros : List ℕ) (entries : SpecValues) (unread : ℕ → Bool) (own special new : Words) → IsOptimised zeros entries unread own special new → length (words_of new) ≤ length (words_of own)
optimised_words zeros entries unread own special new o = less (length (words_of new)) (length (words_of special)) (length (words_of own)) o.pruned.words (o.specialised.keeps no_entries).words
  where
    less : (a b c : ℕ) → a ≤ b → b ≤ c → a ≤ c
    less a b c first second = omega arith

-- ---- the vertex module

optimised_vertex : (entries : SpecValues) (fs : Option Words) (own special vs : Words) → IsOptimised [] entries (is_unread_by fs) own special vs → stage_of own.insts ≡ Vertex
    → keeps_read_outputs (inputs_behind fs) vs.insts ≡ true → FitsVertex own vs fs
optimised_vertex entries fs own special vs o is read = record {
  valid = o.valid;
  stage = o.pruned.stage ∙ o.specialised.interface.stage ∙ is;
  reduced = record { folded = optimised_folded [] entries (is_unread_by fs) own special vs o; used = o.pruned.used; read = read };
  words = optimised_words [] entries (is_unread_by fs) own special vs o;
}

no_zeros : (inputs : Inputs) → AreZerosAt [] inputs
no_zeros inputs = λ location at is. absurd (never is)
  where
    never : false ≡ true → ⊥
    never is = cc

vertex_agrees : (entries : SpecValues) (fs : Option Words) (Read : ℕ → Type 0) → ((location : ℕ) → Read location → is_unread_by fs location ≡ false)
    → (own special vs : Words) → IsOptimised [] entries (is_unread_by fs) own special vs → AgreeVertex Read own.insts entries vs.insts
vertex_agrees entries fs Read are own special vs o = record {
  kind = λ buffers inputs. (optimised_kept [] entries (is_unread_by fs) own special vs o inputs buffers (no_zeros inputs)).kind;
  position = λ buffers inputs. (optimised_kept [] entries (is_unread_by fs) own special vs o inputs buffers (no_zeros inputs)).position refl;
  slots = λ buffers inputs location read. (optimised_kept [] entries (is_unread_by fs) own special vs o inputs buffers (no_zeros inputs)).slots location (are location read);
}

-- the inputs of the fragment module are read
inputs_read : (fs : Words) → IsValidList fs → (location : ℕ) → HasInput fs.insts location → is_unread_by (Some fs) location ≡ false
inputs_read fs v location input = ap not (input_is_there fs v location input)

-- ---- the fragment module

optimised_fragment : (own_vs : Words) (entries : SpecValues) (own special fs : Words) → IsOptimised (unfed (outputs_of own_vs.insts)) entries (λ location. false) own special fs
    → stage_of own.insts ≡ Fragment → FitsFragment own_vs own fs
optimised_fragment own_vs entries own special fs o is =
    let zeros = unfed (outputs_of own_vs.insts) in record {
      valid = o.valid;
      stage = o.pruned.stage ∙ o.specialised.interface.stage ∙ is;
      reduced = record {
        folded = optimised_folded zeros entries (λ location. false) own special fs o;
        used = o.pruned.used;
        fed = o.pruned.reduced.fed (outputs_of own_vs.insts) (unfed_unnamed (outputs_of own_vs.insts) special o.special_valid o.specialised.unnamed);
      };
      words = optimised_words zeros entries (λ location. false) own special fs o;
    }

-- inputs that the own vertex module feeds are zeros where nobody feeds them
fed_zeros : (own_vs : Words) → IsValidList own_vs → (inputs : Inputs) → AreFed own_vs.insts inputs → AreZerosAt (unfed (outputs_of own_vs.insts)) inputs
fed_zeros own_vs v inputs fed = λ location at is. fed location at (output_is_there own_vs v location ∙ unfed_lacks (outputs_of own_vs.insts) location is)

fragment_agrees : (own_vs : Words) → IsValidList own_vs → (entries : SpecValues) (own special fs : Words)
    → IsOptimised (unfed (outputs_of own_vs.insts)) entries (λ location. false) own special fs → AgreeFragment own_vs.insts own.insts entries fs.insts
fragment_agrees own_vs v entries own special fs o =
    let zeros = unfed (outputs_of own_vs.insts) in record {
      kind = λ buffers inputs fed. (optimised_kept zeros entries (λ location. false) own special fs o inputs buffers (fed_zeros own_vs v inputs fed)).kind;
      slots = λ buffers inputs fed. let k = optimised_kept zeros entries (λ location. false) own special fs o inputs buffers (fed_zeros own_vs v inputs fed) in
          same_lists (invoked fs.insts no_entries buffers inputs).slots (invoked own.insts entries buffers inputs).slots k.locations (λ location. k.slots location refl);
      outputs = λ location.
          output_is_there fs o.valid location
          ∙ ap (λ (slot : Option Slot). is_some slot) (o.pruned.outputs location refl ∙ ap (λ (iface : Iface). slot_of iface location) o.specialised.interface.outputs)
          ∙ sym (output_is_there own o.own_valid location);
    }

-- ---- the pair

pub record IsValidFragment (fs : Words) : Type 0 where
  pub valid : IsValidList fs
  pub stage : stage_of fs.insts ≡ Fragment

-- a fragment module that is specialised by its entries, and by what the vertex module leaves unfed
pub record IsSpecialisedFragment (state : State) (own_vs own special : Words) : Type 0 where
  pub valid : IsValidList special
  pub is : IsSpecialised (unfed (outputs_of own_vs.insts)) (fragment_values state.fragment) special own

abbrev pub AreSpecialised : State → Words → Option Words → Option Words → Type 0
AreSpecialised state own_vs None None = Unit {0}
AreSpecialised state own_vs (Some own) (Some special) = IsSpecialisedFragment state own_vs own special
AreSpecialised state own_vs own special = ⊥

pub optimised_fits : (state : State) (own_vs : Words) → IsValidList own_vs → stage_of own_vs.insts ≡ Vertex → (own_fs : Option Words) → IfSome own_fs IsValidFragment
    → (special_vs : Words) → IsValidList special_vs → IsSpecialised [] state.prerast.entries special_vs own_vs
    → (special_fs : Option Words) → AreSpecialised state own_vs own_fs special_fs
    → (vs : Words) → IsValidList vs → (fs : Option Words) → IfSome fs IsValidList → IsPrunedPair (vs, fs) (special_vs, special_fs) → FitsModules state own_vs own_fs vs fs
optimised_fits state own_vs own_v is None own_fv special_vs special_v special None specials vs v None fv pruned =
    let o : IsOptimised [] state.prerast.entries (is_unread_by None) own_vs special_vs vs =
    record { own_valid = own_v; special_valid = special_v; specialised = special; valid = v; pruned = pruned.pruned } in record {
      vertex = optimised_vertex state.prerast.entries None own_vs special_vs vs o is pruned.read;
      fragment = tt;
      agree = vertex_agrees state.prerast.entries None (λ location. ⊥) (λ location never. absurd never) own_vs special_vs vs o;
    }
optimised_fits state own_vs own_v is (Some own_fs) own_fv special_vs special_v special (Some special_fs) specials vs v (Some fs) fv pruned =
    let o : IsOptimised [] state.prerast.entries (is_unread_by (Some fs)) own_vs special_vs vs =
    record { own_valid = own_v; special_valid = special_v; specialised = special; valid = v; pruned = pruned.0.pruned } in
    let p : IsOptimised (unfed (outputs_of own_vs.insts)) (fragment_values state.fragment) (λ location. false) own_fs special_fs fs =
    record { own_valid = own_fv.valid; special_valid = specials.valid; specialised = specials.is; valid = fv; pruned = pruned.1 } in record {
      vertex = optimised_vertex state.prerast.entries (Some fs) own_vs special_vs vs o is pruned.0.read;
      fragment = optimised_fragment own_vs (fragment_values state.fragment) own_fs special_fs fs p own_fv.stage;
      agree = (
        vertex_agrees state.prerast.entries (Some fs) (HasInput fs.insts) (inputs_read fs fv) own_vs special_vs vs o,
        fragment_agrees own_vs own_v (fragment_values state.fragment) own_fs special_fs fs p,
      );
    }
optimised_fits state own_vs own_v is None own_fv special_vs special_v special (Some special_fs) specials vs v fs fv pruned = absurd specials
optimised_fits state own_vs own_v is (Some own_fs) own_fv special_vs special_v special None specials vs v fs fv pruned = absurd specials
optimised_fits state own_vs own_v is None own_fv special_vs special_v special None specials vs v (Some fs) fv pruned = absurd pruned
optimised_fits state own_vs own_v is (Some own_fs) own_fv special_vs special_v special (Some special_fs) specials vs v None fv pruned = absurd pruned
