-- What a derivation's code prints is its slice of the list.
use Rattle.std.proofs.Common.{◌≡◌, ℕ, ◌≤◌, List, Option, refl, ap, arith}
use Rattle.spirv_model.specs.declared.module.Inst.{Inst}
use Rattle.body_model.specs.declared.block_end.BlockEnd.TheVariants.{GoesOn, Selects, Picks, Loops}
use Rattle.body_model.specs.Scope.{Scope}
use Rattle.body_model.specs.Grammar.{Sequence, ends, goes_on, selects, picks, loops, Arm, straight, through, Arms, no_arm, arm_behind}
use Rattle.body_model.specs.Code.{printed, printed_arm, printed_arms, slice, code_of, code_of_arm, code_of_arms}
use Rattle.body_model.proofs.Forward.{sound_at, forward, arm_forward, arms_forward}
use Rattle.body_model.proofs.Ends.{Between}
use Rattle.body_model.proofs.Slices.{joined, nothing}

lower : {from past to : ℕ} → Between from past to → from ≤ to
lower between = omega (arith, between.forward)

mutual
  pub listed : (insts : List Inst) {scope : Scope} {wanted next : Option ℕ} {from to : ℕ} (d : Sequence insts scope wanted from to next) → printed (code_of d) ≡ slice insts from to
  listed insts {from = from} (ends last here is label_is place_is) = ap (slice insts from) place_is
  listed insts {from = from} {to = to} (goes_on after here is rest) =
      joined insts _ _ from after to (lower (sound_at insts _ from (GoesOn after) is)) (lower (forward insts rest)) refl (listed insts rest)
  listed insts {from = from} {to = to} (selects head second join here is on_true on_false rest) =
      let last = joined insts _ _ second join to (arm_forward insts on_false) (lower (forward insts rest)) (arm_listed insts on_false) (listed insts rest) in
      let behind : second ≤ to = omega (arith, arm_forward insts on_false, lower (forward insts rest)) in
      let both = joined insts _ _ head.after second to (arm_forward insts on_true) behind (arm_listed insts on_true) last in
      let more : head.after ≤ to = omega (arith, arm_forward insts on_true) in
      joined insts _ _ from head.after to (lower (sound_at insts _ from (Selects head) is).0) more refl both
  listed insts {from = from} {to = to} (picks head join here is arms rest) =
      let last = joined insts _ _ head.after join to (arms_forward insts arms) (lower (forward insts rest)) (arms_listed insts arms) (listed insts rest) in
      let more : head.after ≤ to = omega (arith, arms_forward insts arms, lower (forward insts rest)) in
      joined insts _ _ from head.after to (lower (sound_at insts _ from (Picks head) is).0) more refl last
  listed insts {from = from} {to = to} (loops head inner first second third here is tested inside step rest) =
      let last = joined insts _ _ second third to (lower (forward insts step)) (lower (forward insts rest)) (listed insts step) (listed insts rest) in
      let past_second : second ≤ to = omega (arith, lower (forward insts step), lower (forward insts rest)) in
      let two = joined insts _ _ first second to (lower (forward insts inside)) past_second (listed insts inside) last in
      let past_first : first ≤ to = omega (arith, lower (forward insts inside)) in
      let three = joined insts _ _ head.after first to (lower (forward insts tested)) past_first (listed insts tested) two in
      let more : head.after ≤ to = omega (arith, lower (forward insts tested)) in
      joined insts _ _ from head.after to (lower (sound_at insts _ from (Loops head) is).0) more refl three

  pub arm_listed : (insts : List Inst) {scope : Scope} {merge target from to : ℕ} (d : Arm insts scope merge target from to) → printed_arm (code_of_arm d) ≡ slice insts from to
  arm_listed insts {from = from} {to = to} (straight is none) = let empty = nothing insts from to none in cc
  arm_listed insts (through isnt sequence) = listed insts sequence

  pub arms_listed : (insts : List Inst) {scope : Scope} {merge : ℕ} {all due left : List ℕ} {from to : ℕ} (d : Arms insts scope merge all due from left to) → printed_arms (code_of_arms d) ≡ slice insts from to
  arms_listed insts {from = from} {to = to} (no_arm is none) = let empty = nothing insts from to none in cc
  arms_listed insts {from = from} {to = to} (arm_behind label between before arms among is sequence) =
      joined insts _ _ from between to (arms_forward insts arms) (lower (forward insts sequence)) (arms_listed insts arms) (listed insts sequence)
