-- A sequence ends behind its start, within the list.
use Rattle.std.proofs.Common.{◌≡◌, ℕ, ◌≤◌, List, length, Option, subst, arith}
use Rattle.spirv_model.specs.declared.module.Inst.{Inst}
use Rattle.body_model.specs.declared.block_end.BlockEnd.{BlockEnd}
use Rattle.body_model.specs.declared.block_end.BlockEnd.TheVariants.{Ends, GoesOn, Selects, Picks, Loops}
use Rattle.body_model.specs.Scope.{Scope}
use Rattle.body_model.specs.Blocks.{block_end}
use Rattle.body_model.specs.Grammar.{Sequence, ends, goes_on, selects, picks, loops, Arm, straight, through, Arms, no_arm, arm_behind}
use Rattle.body_model.proofs.Ends.{Between, Sound, nothing_said, sound_block}

-- what is known of a block that ends so
pub sound_at : (insts : List Inst) (scope : Scope) (place : ℕ) (end : BlockEnd) → block_end insts scope place ≡ end → Sound (λ label. Unit {0}) scope place (length insts) end
sound_at insts scope place end is = subst (Sound (λ label. Unit {0}) scope place (length insts)) is (sound_block (λ label. Unit {0}) insts scope place (nothing_said scope)).is

farther : {from middle to past : ℕ} → Between from past middle → Between middle past to → Between from past to
farther a b = record { forward = omega (arith, a.forward, b.forward); within = b.within }

behind_arms : {from middle to past : ℕ} → from ≤ middle → Between middle past to → Between from past to
behind_arms a b = record { forward = omega (arith, b.forward); within = b.within }

farthest : {from after second join to past : ℕ} → Between from past after → after ≤ second → second ≤ join → Between join past to → Between from past to
farthest a p q b = record { forward = omega (arith, a.forward, b.forward); within = b.within }

weaker : {from to past : ℕ} → Between from past to → from ≤ to
weaker a = omega (arith, a.forward)

over : {from middle to past : ℕ} → from ≤ middle → Between middle past to → from ≤ to
over a b = omega (arith, b.forward)

mutual
  pub forward : (insts : List Inst) {scope : Scope} {wanted next : Option ℕ} {from to : ℕ} → Sequence insts scope wanted from to next → Between from (length insts) to
  forward insts {from = from} (ends last here is label_is place_is) = subst (Between from (length insts)) place_is (sound_at insts _ from (Ends last) is).0
  forward insts {from = from} (goes_on after here is rest) = farther (sound_at insts _ from (GoesOn after) is) (forward insts rest)
  forward insts {from = from} (selects head second join here is on_true on_false rest) =
      farthest (sound_at insts _ from (Selects head) is).0 (arm_forward insts on_true) (arm_forward insts on_false) (forward insts rest)
  forward insts {from = from} (picks head join here is arms rest) =
      farther (sound_at insts _ from (Picks head) is).0 (behind_arms (arms_forward insts arms) (forward insts rest))
  forward insts {from = from} (loops head inner first second third here is condition body step rest) =
      farther (sound_at insts _ from (Loops head) is).0 (farther (forward insts condition) (farther (forward insts body) (farther (forward insts step) (forward insts rest))))

  pub arm_forward : (insts : List Inst) {scope : Scope} {merge target from to : ℕ} → Arm insts scope merge target from to → from ≤ to
  arm_forward insts (straight is none) = omega arith
  arm_forward insts (through isnt sequence) = weaker (forward insts sequence)

  pub arms_forward : (insts : List Inst) {scope : Scope} {merge : ℕ} {all due left : List ℕ} {from to : ℕ} → Arms insts scope merge all due from left to → from ≤ to
  arms_forward insts (no_arm is none) = omega arith
  arms_forward insts (arm_behind label between before arms among left sequence) = over (arms_forward insts arms) (forward insts sequence)
