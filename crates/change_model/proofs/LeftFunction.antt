-- Code is made of the function's own sequence, whatever the plan: the list that it makes derives.
use Rattle.std.proofs.Common.{◌≡◌, ℕ, ◌+◌, inl, false, List, refl, arith, Option, None}
use Rattle.spirv_model.specs.declared.module.Words.{Words}
use Rattle.body_model.specs.Scope.{Scope, main, behind_block}
use Rattle.body_model.specs.Grammar.{Sequence, ends, goes_on, selects, picks, loops, Arm, straight, through, Arms, no_arm, arm_behind}
use Rattle.body_model.proofs.Forward.{forward}
use Rattle.check_model.specs.Intervals.{inside, intervals_of}
use Rattle.check_model.specs.Validity.{IsValidList}
use Rattle.change_model.specs.Plans.{Plan, is_dead}
use Rattle.change_model.specs.PlanRules.{IsPlan}
use Rattle.change_model.proofs.LeftArms.{continues_nowhere}
use Rattle.change_model.proofs.LeftCases.{Makes, ends_case, goes_on_case}
use Rattle.change_model.proofs.LeftDerivations.{LeftDerivation, nowhere}
use Rattle.change_model.proofs.LeftLoopWhole.{loops_makes}
use Rattle.change_model.proofs.LeftPhis.{keeps_unmerged, keeps_nowhere}
use Rattle.change_model.proofs.LeftPlaced.{IsArmPlaced, placed_next, unmerged_next, placed_true, placed_false, placed_merge}
use Rattle.change_model.proofs.LeftPlacedArms.{AreArmsPlaced, placed_arms, placed_join}
use Rattle.change_model.proofs.LeftPlacedLoops.{placed_test, placed_body, placed_step, placed_behind}
use Rattle.change_model.proofs.LeftPlacedWhole.{labels_once, placed_whole}
use Rattle.change_model.proofs.LeftScopes.{Placed, Suits, Apart, Made}
use Rattle.change_model.proofs.LeftSelectParts.{ArmMakes, selects_makes}
use Rattle.change_model.proofs.LeftSwitchParts.{ArmsMake, picks_makes}
use Rattle.change_model.proofs.LeftWhole.{structure_made}

module _ (words : Words) (v : IsValidList words) (zeros : List ℕ) (plan : Plan) (p : IsPlan words v zeros plan) where
  mutual
    -- of a sequence that isn't dead, in each scope that suits it
    pub makes : {scope : Scope} {wanted next : Option ℕ} {from to : ℕ} (s : Sequence words.insts scope wanted from to next) → Placed words.insts v.derivation scope next from to (inside s) → is_dead (plan.fate from) ≡ false
        → Makes words v plan scope next from to (inside s)
    makes {scope} {wanted} {next} {from} {to} (ends last here is label_is place_is) placed alive = ends_case words v zeros plan p scope wanted next from to last here is label_is place_is placed alive
    makes {scope} {wanted} {next} {from} {to} (goes_on after here is rest) placed alive =
        let at = placed_next words.insts (labels_once words v) v.derivation scope wanted next from to after here is rest placed in
        goes_on_case words v zeros plan p scope wanted next from to after (inside rest) here is (forward words.insts rest).forward placed alive
        (λ new. keeps_unmerged words v zeros plan p (behind_block scope) None next after to rest at.low at.high (behind_block new) refl (unmerged_next words.insts (labels_once words v) v.derivation scope wanted next from to after here is rest placed))
        (makes rest at)
    makes {scope} {wanted} {next} {from} {to} (selects head second join here is on_true on_false rest) placed alive =
        selects_makes words v zeros plan p scope wanted next from to head second join here is on_true on_false rest placed alive
        (arm_makes on_true (placed_true words.insts (labels_once words v) v.derivation scope wanted next from to head second join here is on_true on_false rest placed))
        (arm_makes on_false (placed_false words.insts (labels_once words v) v.derivation scope wanted next from to head second join here is on_true on_false rest placed))
        (makes rest (placed_merge words.insts (labels_once words v) v.derivation scope wanted next from to head second join here is on_true on_false rest placed))
    makes {scope} {wanted} {next} {from} {to} (picks head join here is arms rest) placed alive =
        picks_makes words v zeros plan p scope wanted next from to head join here is arms rest placed alive
        (arms_make head.after arms (placed_arms words.insts (labels_once words v) v.derivation scope wanted next from to head join here is arms rest placed))
        (makes rest (placed_join words.insts (labels_once words v) v.derivation scope wanted next from to head join here is arms rest placed))
    makes {scope} {wanted} {next} {from} {to} (loops head inner first second third here is tested within step rest) placed alive =
        loops_makes words v zeros plan p scope wanted next from to head inner first second third here is tested within step rest placed alive
        (makes tested (placed_test words.insts (labels_once words v) v.derivation scope wanted next from to head inner first second third here is tested within step rest placed))
        (makes within (placed_body words.insts (labels_once words v) v.derivation scope wanted next from to head inner first second third here is tested within step rest placed))
        (makes step (placed_step words.insts (labels_once words v) v.derivation scope wanted next from to head inner first second third here is tested within step rest placed))
        (makes rest (placed_behind words.insts (labels_once words v) v.derivation scope wanted next from to head inner first second third here is tested within step rest placed))

    arm_makes : {scope : Scope} {merge target from to : ℕ} (x : Arm words.insts scope merge target from to) → IsArmPlaced words.insts v.derivation x → ArmMakes words v plan x
    arm_makes (straight same none) placed = tt
    arm_makes (through isnt s) placed = makes s placed

    arms_make : (after : ℕ) {scope : Scope} {merge : ℕ} {all due left : List ℕ} {from to : ℕ} (x : Arms words.insts scope merge all due from left to) → AreArmsPlaced words.insts v.derivation after x → ArmsMake words v plan x
    arms_make after (no_arm same none) placed = tt
    arms_make after (arm_behind label between before arms among fewer s) placed = (arms_make after arms placed.0, makes s placed.1.placed)

  -- ---- the function's own

  suits_main : Suits plan words.insts (v.derivation.before + 1) v.derivation.after main main nowhere
  suits_main = record {
    first = λ is. is;
    merge = λ label is. cc;
    leave = λ label is. cc;
    exits = λ exits is. is;
    header = λ label is. is;
    test = λ label is. cc;
    may_loop = λ is. is;
    may_end = λ is. is;
    depth = omega arith;
    barred = λ label none. none;
  }

  apart_main : Apart words.insts (v.derivation.before + 1) v.derivation.after main
  apart_main place behind before label = record { goes = refl; free = refl }

  pub function_made : Made plan words.insts (intervals_of v.derivation) main None nowhere (v.derivation.before + 1) v.derivation.after (inside v.derivation.sequence)
  function_made =
      makes v.derivation.sequence (placed_whole words v) p.begins main None nowhere (inl refl) (keeps_nowhere plan words.insts (v.derivation.before + 1) main main refl) suits_main apart_main
      (continues_nowhere plan words.insts (intervals_of v.derivation) (v.derivation.before + 1) v.derivation.after main None (λ place behind before label. (λ is. cc, λ is. cc)))

  -- the list that a plan makes derives, with the intervals that are left
  pub plan_derives : LeftDerivation plan words.insts v.derivation
  plan_derives = structure_made words v zeros plan p function_made
