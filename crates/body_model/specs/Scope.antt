-- Where a block stands: what it may have, and where its sequence may go.
use Rattle.std.specs.Prelude.{ℕ, ◌+◌, Bool, true, false, List, [], ◌++◌, Option, None, Some}
use Rattle.body_model.specs.declared.scope.LoopExits.{LoopExits}
use Rattle.body_model.specs.declared.scope.Phis.{Phis}
use Rattle.body_model.specs.declared.scope.Phis.TheVariants.{Nowhere, AtHeader, Anywhere}

pub record Scope : Type 0 where
  pub phis : Phis
  -- variables may stand in the block: it is the function's first
  pub first : Bool
  -- the merge block of the selection or OpSwitch whose arm the sequence is
  pub merge : Option ℕ
  -- the merge block of the innermost OpSwitch in whose arm the sequence stands, with no loop between
  pub leave : Option ℕ
  -- the exits of the innermost loop, where the sequence is its body or stands in its body
  pub exits : Option LoopExits
  -- the header of the loop whose continue sequence the sequence is
  pub header : Option ℕ
  -- the merge block of the loop whose condition sequence the sequence is
  pub test : Option ℕ
  -- the labels of the other arms of each OpSwitch in whose arm the sequence stands: no OpBranch goes there
  pub barred : List ℕ
  -- loops may stand in the sequence: it isn't in a condition sequence
  pub may_loop : Bool
  -- invocations may end in the sequence: it is in no condition or continue sequence
  pub may_end : Bool
  -- the number of selections, OpSwitches and loops that are open
  pub depth : ℕ

-- the function's own sequence
abbrev pub main : Scope
main = record { phis = Nowhere; first = true; merge = None; leave = None; exits = None; header = None; test = None; barred = []; may_loop = true; may_end = true; depth = 0 }

-- the same sequence, at the block behind one that goes on to it
abbrev pub behind_block : Scope → Scope
behind_block scope = record scope { phis = AtHeader; first = false }

-- at the merge block of a selection or an OpSwitch
abbrev pub behind_selection : Scope → Scope
behind_selection scope = record scope { phis = Anywhere; first = false }

-- at the merge block of a loop
abbrev pub behind_loop : Scope → Scope
behind_loop scope = record scope { phis = Nowhere; first = false }

-- an arm of a selection in the sequence
abbrev pub arm : Scope → ℕ → Scope
arm scope merge = record {
  phis = AtHeader;
  first = false;
  merge = Some merge;
  leave = scope.leave;
  exits = scope.exits;
  header = None;
  test = None;
  barred = scope.barred;
  may_loop = scope.may_loop;
  may_end = scope.may_end;
  depth = scope.depth + 1;
}

-- an arm of an OpSwitch in the sequence, whose other arms have these labels
abbrev pub switch_arm : Scope → ℕ → List ℕ → Scope
switch_arm scope merge others = record (arm scope merge) { leave = Some merge; barred = others ++ scope.barred }

-- a part of a loop in the sequence: nothing but what the part itself allows leads out of it
abbrev pub loop_part : Scope → Scope
loop_part scope = record {
  phis = Nowhere;
  first = false;
  merge = None;
  leave = None;
  exits = None;
  header = None;
  test = None;
  barred = scope.barred;
  may_loop = scope.may_loop;
  may_end = scope.may_end;
  depth = scope.depth + 1;
}

-- the condition sequence, the body and the continue sequence of a loop in the sequence
abbrev pub condition : Scope → ℕ → Scope
condition scope merge = record (loop_part scope) { phis = AtHeader; test = Some merge; may_loop = false; may_end = false }

abbrev pub body : Scope → ℕ → ℕ → Scope
body scope merge next = record (loop_part scope) { exits = Some (record { merge = merge; next = next }) }

abbrev pub continuing : Scope → ℕ → Scope
continuing scope header = record (loop_part scope) { header = Some header; may_end = false }
