-- The list that a plan makes of a valid module's is a valid module, where all that it uses is visible.
use Rattle.std.proofs.Common.{◌≡◌, ℕ, ◌<◌, length, ap, ◌∙◌, None}
use Rattle.std.specs.Option.{option_map}
use Rattle.body_model.specs.Grammar.{Derives}
use Rattle.check_model.specs.declared.fault.CheckFault.TheVariants as fault
use Rattle.check_model.specs.EntryPoints.{bad_entry_count}
use Rattle.check_model.specs.Interfaces.{not_flat, location_twice}
use Rattle.check_model.specs.Intervals.{intervals_of}
use Rattle.check_model.specs.Validity.{use_fault_at, use_fault, list_fault, IsValidList}
use Rattle.check_model.specs.Visibility.{not_visible}
use Rattle.change_model.specs.Plans.{changed}
use Rattle.change_model.proofs.ChangedEntry.{entry_changed}
use Rattle.change_model.proofs.ChangedInterface.{flat_changed, locations_changed}
use Rattle.change_model.proofs.ChangedVisible.{visible_changed}
use Rattle.change_model.proofs.ChangedWritable.{changed_written}
use Rattle.change_model.proofs.ConstantsValid.{use_faultless, none_at_all, none_of, all_none}
use Rattle.change_model.proofs.LeftFunction.{plan_derives}
use Rattle.change_model.proofs.Planned.{Planned}
use Rattle.change_model.proofs.PlanOperands.{operands_changed}
use Rattle.change_model.proofs.PlanSound.{plan_sound}
use Rattle.change_model.proofs.PlanStorage.{storage_changed}

-- the derivation of the new list, with the intervals that are left
abbrev pub derived : (g : Planned) → Derives (changed g.plan g.words.insts)
derived g = (plan_derives g.words g.valid g.zeros g.plan g.is).derivation

-- all that instructions of the new list use is visible there
abbrev pub IsAllVisible : Planned → Type 0
IsAllVisible g = (k : ℕ) → k < length (changed g.plan g.words.insts) → not_visible (intervals_of (derived g)) (changed g.plan g.words.insts) k ≡ None

no_use : (g : Planned) → IsAllVisible g → (k : ℕ) → k < length (changed g.plan g.words.insts) → use_fault_at (intervals_of (derived g)) (changed g.plan g.words.insts) k ≡ None
no_use g visible k within =
    use_faultless (intervals_of (derived g)) (changed g.plan g.words.insts) k
    (record { visible = visible k within; operands = operands_changed g (intervals_of (derived g)) visible k within; storage = storage_changed g (intervals_of (derived g)) visible k within })

no_uses : (g : Planned) → IsAllVisible g → use_fault (intervals_of (derived g)) (changed g.plan g.words.insts) ≡ None
unfolding use_fault
no_uses g visible = none_at_all (use_fault_at (intervals_of (derived g)) (changed g.plan g.words.insts)) (length (changed g.plan g.words.insts)) (no_use g visible)

faultless : (g : Planned) → IsAllVisible g → list_fault (intervals_of g.valid.derivation) g.words.insts ≡ None → list_fault (intervals_of (derived g)) (changed g.plan g.words.insts) ≡ None
unfolding list_fault
faultless g visible good =
    let insts = g.words.insts in let list = changed g.plan insts in
    let n = none_of (option_map fault.EntryCount (bad_entry_count insts)) (use_fault (intervals_of g.valid.derivation) insts) (option_map fault.NotFlat (not_flat insts)) (option_map fault.LocationTwice (location_twice insts)) good in
    all_none (option_map fault.EntryCount (bad_entry_count list)) (use_fault (intervals_of (derived g)) list) (option_map fault.NotFlat (not_flat list)) (option_map fault.LocationTwice (location_twice list))
    (ap (option_map fault.EntryCount) (entry_changed g) ∙ n.0)
    (no_uses g visible)
    (ap (option_map fault.NotFlat) (flat_changed g) ∙ n.2)
    (ap (option_map fault.LocationTwice) (locations_changed g) ∙ n.3)

-- the new list is a valid module, if all that it uses is visible
pub plan_valid_by : (g : Planned) → ((k : ℕ) → k < length (changed g.plan g.words.insts) → not_visible (intervals_of (plan_derives g.words g.valid g.zeros g.plan g.is).derivation) (changed g.plan g.words.insts) k ≡ None)
    → IsValidList (record { bound = g.words.bound; insts = changed g.plan g.words.insts })
plan_valid_by g visible = record {
  writable = changed_written g;
  derivation = derived g;
  sound = plan_sound g;
  faultless = faultless g visible g.valid.faultless;
}

-- the list that a plan makes is a valid module
pub plan_valid : (g : Planned) → IsValidList (record { bound = g.words.bound; insts = changed g.plan g.words.insts })
plan_valid g = plan_valid_by g (visible_changed g)
