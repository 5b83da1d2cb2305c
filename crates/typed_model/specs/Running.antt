-- The machine in the function of a valid module: what holds of it at each place, and what it does there.
use Rattle.std.specs.Prelude.{◌≡◌, ℕ, ◌+◌, ◌<◌, ◌≤◌, ◌==◌, ◌⊎◌, true, false, List, take, slice_get, Some}
use Rattle.spirv_model.specs.declared.module.Inst.{Inst}
use Rattle.spirv_model.specs.declared.op.TheConstants.{LABEL}
use Rattle.spirv_model.specs.Operands.{word_at}
use Rattle.body_model.specs.Classes.{is_terminator}
use Rattle.body_model.specs.Switches.{is_among}
use Rattle.body_model.specs.Targets.{targets}
use Rattle.body_model.specs.Grammar.{Derives}
use Rattle.valid_model.specs.Definitions.{inst_at}
use Rattle.check_model.specs.Branches.{label_behind}
use Rattle.check_model.specs.Intervals.{intervals_of}
use Rattle.check_model.specs.Typing.{constant_word}
use Rattle.stage_model.specs.Value.{Value}
use Rattle.stage_model.specs.Program.{program_of}
use Rattle.stage_model.specs.Start.{Values, all_values}
use Rattle.stage_model.specs.Effect.{read_ids}
use Rattle.stage_model.specs.Machine.{read_from, after_effect, done, Machine, Step, GoesOn, step}
use Rattle.typed_model.specs.Types.{AllSuit}
use Rattle.typed_model.specs.Effects.{Runs}
use Rattle.typed_model.specs.Judgement.{AreTyped}

-- control came by a branch to the label, with these values, from the end of the block before, where the judgement held
pub record Came (insts : List Inst) (d : Derives insts) (label before : ℕ) (values : Values) : Type 0 where
  pub terminator : ℕ
  pub low : d.before + 1 ≤ terminator
  pub high : terminator < d.after
  pub ends : is_terminator (inst_at insts terminator).op ≡ true
  pub names : is_among label (targets (inst_at insts terminator)) ≡ true
  pub block : label_behind 0 (take terminator insts) ≡ before
  pub typed : AreTyped insts (intervals_of d) terminator values

-- the place is in the function's first block: no other OpLabel stands up to it
abbrev pub IsInFirst : List Inst → ℕ → ℕ → Type 0
IsInFirst insts first place = (other : ℕ) → first < other → other ≤ place → (inst_at insts other).op == LABEL ≡ false

-- how the block with the label was entered, which the place is in
abbrev pub IsEntered : (insts : List Inst) → Derives insts → (place label before : ℕ) → Values → Type 0
IsEntered insts d place label before values = IsInFirst insts (d.before + 1) place ⊎ Came insts d label before values

-- the machine is in the function, and each id that is visible at its place has a value that suits it; its label is that of the
-- block that the place is in, which was entered with the values that its phis take. At an OpLabel the block is still to be entered
pub record IsRunning (insts : List Inst) (d : Derives insts) (m : Machine) : Type 0 where
  pub low : d.before + 1 ≤ m.place
  pub high : m.place < d.after
  pub typed : AreTyped insts (intervals_of d) m.place m.state.values
  pub enters : (inst_at insts m.place).op == LABEL ≡ true → IsEntered insts d m.place (word_at 0 (inst_at insts m.place)) m.state.label m.state.values
  pub label : (inst_at insts m.place).op == LABEL ≡ false → m.state.label ≡ label_behind 0 (take m.place insts)
  pub entered : (inst_at insts m.place).op == LABEL ≡ false → IsEntered insts d m.place m.state.label m.state.before m.state.values_at_entry

-- an instruction stands at the machine's place; it reads values that suit their ids, and has an effect with them, whose result is
-- of its type
pub record Acts (insts : List Inst) (m : Machine) : Type 0 where
  pub inst : Inst
  pub at : slice_get insts m.place ≡ Some inst
  pub read : List Value
  pub are : all_values (read_from m.state inst.op) (read_ids inst.op m.state.before inst.words) ≡ Some read
  pub suit : AllSuit (program_of insts) (constant_word insts) (read_ids inst.op m.state.before inst.words) read
  pub runs : Runs (program_of insts) m.state.memory inst read
  pub is_done : done (program_of insts) inst m.state ≡ Some (after_effect inst m.state runs.effect)

-- the machine takes a step, and is running behind it where it goes on
pub record TakesStep (insts : List Inst) (d : Derives insts) (m : Machine) : Type 0 where
  pub to : Step
  pub is : step (program_of insts) m ≡ Some to
  pub on : (next : Machine) → to ≡ GoesOn next → IsRunning insts d next
