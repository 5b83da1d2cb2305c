-- A function's blocks as plain data: what a derivation says of a list, without places.
use Rattle.std.specs.Prelude.{ℕ, ◌-◌, List, [], ◌++◌, take, drop, Option}
use Rattle.spirv_model.specs.declared.module.Inst.{Inst}
use Rattle.body_model.specs.declared.scope.End.{End}
use Rattle.body_model.specs.Scope.{Scope}
use Rattle.body_model.specs.Switches.{Case, cases_of, switch_words}
use Rattle.body_model.specs.Grammar as grammar
use Rattle.body_model.specs.Grammar.{Sequence, Arm, Arms}

-- A sequence by its first block, which is a list of instructions, and what follows it: one case for each way in which a block can end.
mutual
  pub data Code : Type 0 where
    Ends : (block : List Inst) → End → Code
    GoesOn : (block : List Inst) → Code → Code
    Selects : (block : List Inst) (cond merge on_true on_false : ℕ) → CodeArm → CodeArm → Code → Code
    Picks : (block : List Inst) (selector merge default : ℕ) → List Case → CodeArms → Code → Code
    Loops : (block : List Inst) (merge next test : ℕ) → (condition inner step : Code) → Code → Code

  -- one way of a selection
  pub data CodeArm : Type 0 where
    Straight : CodeArm
    Through : Code → CodeArm

  -- the arms of an OpSwitch in their order, each with its label
  pub data CodeArms : Type 0 where
    NoArm : CodeArms
    ArmBehind : CodeArms → (label : ℕ) → Code → CodeArms

-- ---- printing

abbrev mutual
  -- the instructions of a sequence, one after another
  pub printed : Code → List Inst
  printed (Ends block end) = block
  printed (GoesOn block rest) = block ++ printed rest
  printed (Selects block cond merge on_true on_false if_true if_false rest) = block ++ (printed_arm if_true ++ (printed_arm if_false ++ printed rest))
  printed (Picks block selector merge default cases arms rest) = block ++ (printed_arms arms ++ printed rest)
  printed (Loops block merge next test condition inner step rest) = block ++ (printed condition ++ (printed inner ++ (printed step ++ printed rest)))

  pub printed_arm : CodeArm → List Inst
  printed_arm Straight = []
  printed_arm (Through code) = printed code

  pub printed_arms : CodeArms → List Inst
  printed_arms NoArm = []
  printed_arms (ArmBehind arms label code) = printed_arms arms ++ printed code

-- ---- of a derivation

-- the instructions from one place up to another
abbrev pub slice : List Inst → ℕ → ℕ → List Inst
slice insts from to = take (to - from) (drop from insts)

abbrev mutual
  pub code_of : {insts : List Inst} {scope : Scope} {wanted next : Option ℕ} {from to : ℕ} → Sequence insts scope wanted from to next → Code
  code_of {insts = insts} {from = from} (grammar.ends last here is label_is place_is) = Ends (slice insts from last.after) last.end
  code_of {insts = insts} {from = from} (grammar.goes_on after here is rest) = GoesOn (slice insts from after) (code_of rest)
  code_of {insts = insts} {from = from} (grammar.selects head second join here is on_true on_false rest) =
      Selects (slice insts from head.after) head.cond head.merge head.on_true head.on_false (code_of_arm on_true) (code_of_arm on_false) (code_of rest)
  code_of {insts = insts} {from = from} (grammar.picks head join here is arms rest) =
      Picks (slice insts from head.after) head.selector head.merge head.default (cases_of (switch_words insts head)) (code_of_arms arms) (code_of rest)
  code_of {insts = insts} {from = from} (grammar.loops head inner first second third here is condition body step rest) =
      Loops (slice insts from head.after) head.merge head.next head.test (code_of condition) (code_of body) (code_of step) (code_of rest)

  pub code_of_arm : {insts : List Inst} {scope : Scope} {merge target from to : ℕ} → Arm insts scope merge target from to → CodeArm
  code_of_arm (grammar.straight is none) = Straight
  code_of_arm (grammar.through isnt sequence) = Through (code_of sequence)

  pub code_of_arms : {insts : List Inst} {scope : Scope} {merge : ℕ} {all due left : List ℕ} {from to : ℕ} → Arms insts scope merge all due from left to → CodeArms
  code_of_arms (grammar.no_arm is none) = NoArm
  code_of_arms (grammar.arm_behind label between before arms among left sequence) = ArmBehind (code_of_arms arms) label (code_of sequence)
