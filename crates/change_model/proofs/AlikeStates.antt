-- What is left by states that are alike is kept.
use Rattle.std.proofs.Common.{◌≡◌, ℕ, nat_lt, if◌then◌else◌, List, map, refl, ap, ◌∙◌, Option, None, Some}
use Rattle.std.proofs.Math.Path.{fun_ext}
use Rattle.std.specs.List.{range_with_len}
use Rattle.limits.specs.declared.TheConstants.{LOCATIONS, COMPONENTS}
use Rattle.spirv_model.specs.declared.builtin.TheConstants as builtin
use Rattle.spirv_model.specs.declared.decoration.TheConstants.{BUILT_IN, LOCATION}
use Rattle.stage_model.specs.declared.outcome.Kind.{Kind}
use Rattle.stage_model.specs.declared.outcome.Kind.TheVariants.{Done, Killed, Lost}
use Rattle.stage_model.specs.Program.{Program, held_layout}
use Rattle.stage_model.specs.Start.{Memory}
use Rattle.stage_model.specs.Machine.{State}
use Rattle.stage_model.specs.Stage.{Outcome, output_with, size_in, components_left, position_left, slots_left, left_by, outcome_of}
use Rattle.change_model.specs.Following.{HoldSame, AreAlike}
use Rattle.change_model.specs.Keeping.{IsKept}
use Rattle.change_model.specs.Programs.{AreProgramsAlike}
use Rattle.change_model.proofs.SameStarts.{outcome_same}

-- each output variable holds the same
abbrev pub HoldsOutputs : Program → (ℕ → Type 0) → Type 0
HoldsOutputs program Held = (decoration word variable : ℕ) → output_with program decoration word ≡ Some variable → Held variable

left_same : (Held : ℕ → Type 0) (kind : Kind) (new old : Memory) → HoldSame Held new old → HoldSame Held (left_by kind new) (left_by kind old)
left_same Held Done new old same = same
left_same Held Killed new old same = λ variable at held. refl
left_same Held Lost new old same = λ variable at held. refl

components_same : (program : Program) (Held : ℕ → Type 0) (new old : Memory) → HoldSame Held new old → (variable : Option ℕ) → ((own : ℕ) → variable ≡ Some own → Held own) → components_left program new variable ≡ components_left program old variable
components_same program Held new old same None held = refl
components_same program Held new old same (Some variable) held =
    ap (λ (f : ℕ → ℕ). map f (range_with_len 0 COMPONENTS)) (fun_ext (λ k.
    ap (λ (word : ℕ). if nat_lt k (size_in (held_layout program variable)) then word else 0) (same variable k (held variable refl))))

position_same : (program : Program) (Held : ℕ → Type 0) → HoldsOutputs program Held → (new old : Memory) → HoldSame Held new old → position_left program new ≡ position_left program old
unfolding position_left
position_same program Held outputs new old same = components_same program Held new old same (output_with program BUILT_IN builtin.POSITION) (outputs BUILT_IN builtin.POSITION)

slots_same : (program : Program) (Held : ℕ → Type 0) → HoldsOutputs program Held → (new old : Memory) → HoldSame Held new old → slots_left program new ≡ slots_left program old
unfolding slots_left
slots_same program Held outputs new old same =
    ap (λ (f : ℕ → List ℕ). map f (range_with_len 0 LOCATIONS)) (fun_ext (λ location. components_same program Held new old same (output_with program LOCATION location) (outputs LOCATION location)))

-- where both sides agree on their output variables, what the new side leaves keeps what the old one leaves
pub alike_kept : (new old : Program) → AreProgramsAlike new old → (name : ℕ → ℕ) (Seen Entered Held : ℕ → Type 0) → HoldsOutputs old Held → (kind : Kind) (a b : State) → AreAlike name Seen Entered Held a b
    → IsKept (outcome_of new (kind, a)) (outcome_of old (kind, b))
alike_kept new old s name Seen Entered Held outputs kind a b alike =
    let e = outcome_same new old s kind a in
    let held = left_same Held kind a.memory b.memory alike.memory in
    record {
      kind = refl;
      position = ap (λ (o : Outcome). o.position) e ∙ position_same old Held outputs (left_by kind a.memory) (left_by kind b.memory) held;
      slots = ap (λ (o : Outcome). o.slots) e ∙ slots_same old Held outputs (left_by kind a.memory) (left_by kind b.memory) held;
      back_edges = alike.back_edges;
      work = alike.steps;
    }
