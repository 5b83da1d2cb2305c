-- How the machine of the list that a plan makes stands beside that of the old list.
use Rattle.std.proofs.Common.{◌≡◌, ℕ, ◌+◌, ◌<◌, ◌≤◌, ◌==◌, ◌||◌, ◌⊎◌, nat_le, Bool, true, false, List, take, Option, None, Some}
use Rattle.spirv_model.specs.declared.module.Inst.{Inst}
use Rattle.spirv_model.specs.declared.module.Words.{Words}
use Rattle.spirv_model.specs.declared.op.TheConstants as op
use Rattle.spirv_model.specs.declared.builtin.TheConstants as builtin
use Rattle.spirv_model.specs.declared.decoration.TheConstants.{BUILT_IN, LOCATION}
use Rattle.spirv_model.specs.Operands.{word_at}
use Rattle.scalar_model.specs.declared.scalar_value.Scalar.{Scalar}
use Rattle.body_model.specs.Classes.{is_terminator}
use Rattle.body_model.specs.Grammar.{Derives}
use Rattle.valid_model.specs.Definitions.{definition, inst_at}
use Rattle.valid_model.specs.Meanings.{meaning}
use Rattle.check_model.specs.Branches.{label_behind}
use Rattle.check_model.specs.Intervals.{Interval, intervals_of, is_visible}
use Rattle.check_model.specs.Typing.{type_id}
use Rattle.check_model.specs.Validity.{IsValidList}
use Rattle.stage_model.specs.Value.{Value, Truth, Word, Composite, Pointer, Outside, Layout, zero_of}
use Rattle.stage_model.specs.Program.{Program, first_label_place, program_of}
use Rattle.stage_model.specs.Start.{Values, Memory, of_scalar}
use Rattle.stage_model.specs.declared.outcome.Kind.{Kind}
use Rattle.stage_model.specs.Machine.{State, Machine}
use Rattle.stage_model.specs.Stage.{Outcome, output_with, outcome_of}
use Rattle.typed_model.specs.Running.{IsInFirst, IsRunning}
use Rattle.unit_model.specs.ConstantScalars.{constant_scalar}
use Rattle.change_model.specs.declared.fate.Fate.{Fate}
use Rattle.change_model.specs.declared.fate.Fate.TheVariants.{Stays, Folds, Nulls, Unused}
use Rattle.change_model.specs.Following.{AgreeOn, AreAlike}
use Rattle.change_model.specs.Keeping.{IsKeptBut}
use Rattle.change_model.specs.Plans.{Plan, is_dead, leads_from, block_at, changed}
use Rattle.change_model.specs.PlanRules.{root_of, is_zero_input, is_constant_fate, scalar_left, IsPlan}
use Rattle.change_model.proofs.ChangedPlaces.{place_left}
use Rattle.change_model.proofs.ChangedShapes.{shape_in}

-- ---- which values both sides have

abbrev pub is_unused_fate : Fate → Bool
is_unused_fate Unused = true
is_unused_fate fate = false

-- what is defined there isn't used, and goes
abbrev pub is_unused_at : Plan → Option ℕ → Bool
is_unused_at plan None = false
is_unused_at plan (Some at) = is_unused_fate (plan.fate at)

-- the id has a type and is visible at the place, and what its name stands for isn't unused
pub record IsSeen (plan : Plan) (insts : List Inst) (intervals : List Interval) (place id : ℕ) : Type 0 where
  pub at : ℕ
  pub defined : definition insts id ≡ Some at
  pub visible : is_visible intervals at place ≡ true
  pub type : ℕ
  pub of : type_id (meaning insts id) ≡ Some type
  pub left : is_unused_at plan (definition insts (plan.name id)) ≡ false

-- control came to the label from the end of the block before, which still leads there; both sides had the same values at that end
pub record ComesBy (plan : Plan) (insts : List Inst) (d : Derives insts) (label before : ℕ) (new old : Values) : Type 0 where
  pub terminator : ℕ
  pub low : d.before + 1 ≤ terminator
  pub high : terminator < d.after
  pub ends : is_terminator (inst_at insts terminator).op ≡ true
  pub leads : leads_from plan insts label terminator ≡ true
  pub block : label_behind 0 (take terminator insts) ≡ before
  pub agree : AgreeOn (IsSeen plan insts (intervals_of d) terminator) plan.name new old

-- how the block with the label was entered, which the place is in
abbrev pub EnteredBoth : (plan : Plan) (insts : List Inst) → Derives insts → (place label before : ℕ) → (new old : Values) → Type 0
EnteredBoth plan insts d place label before new old = IsInFirst insts (d.before + 1) place ⊎ ComesBy plan insts d label before new old

-- ---- values that never change

-- what is defined at the place is of the module's level in the new list
abbrev pub is_fixed_at : Plan → (before place : ℕ) → Bool
is_fixed_at plan before place = nat_le place before || is_constant_fate (plan.fate place)

-- ids of the new module's level have these values
abbrev pub AreFixed : (plan : Plan) (insts : List Inst) (before : ℕ) (fixed values : Values) → Type 0
AreFixed plan insts before fixed values = (id at : ℕ) → definition insts id ≡ Some at → is_fixed_at plan before at ≡ true → values id ≡ fixed id

-- these values are those of the constants in the list that the plan makes
pub record FixRightly (plan : Plan) (insts : List Inst) (d : Derives insts) (fixed : Values) : Type 0 where
  pub scalars : (id : ℕ) (scalar : Scalar) → constant_scalar (changed plan insts) id ≡ Some scalar → fixed id ≡ Some (of_scalar scalar)
  pub folds : (place : ℕ) (scalar : Scalar) → d.before < place → place < d.after → plan.fate place ≡ Folds scalar
      → fixed (word_at 1 (inst_at insts place)) ≡ Some (of_scalar scalar)
  pub nulls : (place : ℕ) (layout : Layout) → d.before < place → place < d.after → plan.fate place ≡ Nulls
      → (program_of insts).layout (word_at 0 (inst_at insts place)) ≡ Some layout → fixed (word_at 1 (inst_at insts place)) ≡ Some (zero_of layout)

-- ---- what holds of the old machine

abbrev pub PointsInto : ℕ → Value → Type 0
PointsInto root (Pointer variable indices) = variable ≡ root
PointsInto root Outside = Unit {0}
PointsInto root (Truth b) = Unit {0}
PointsInto root (Word word) = Unit {0}
PointsInto root (Composite parts) = Unit {0}

-- each pointer that is visible and has a type leads into the variable that it is made from
abbrev pub AreRooted : List Inst → List Interval → ℕ → Values → Type 0
AreRooted insts intervals place values =
    (id at type : ℕ) (value : Value) → definition insts id ≡ Some at → is_visible intervals at place ≡ true → type_id (meaning insts id) ≡ Some type → values id ≡ Some value
    → PointsInto (root_of insts id) value

abbrev pub HoldZeros : List Inst → List ℕ → Memory → Type 0
HoldZeros insts zeros memory = (variable at : ℕ) → is_zero_input insts zeros variable ≡ true → memory variable at ≡ 0

pub record IsSteady (words : Words) (v : IsValidList words) (zeros : List ℕ) (n : Machine) : Type 0 where
  pub running : IsRunning words.insts v.derivation n
  pub rooted : AreRooted words.insts (intervals_of v.derivation) n.place n.state.values
  pub zero : HoldZeros words.insts zeros n.state.memory

-- ---- both machines

-- somebody reads what the variable holds
abbrev pub IsHeld : Plan → ℕ → Type 0
IsHeld plan variable = plan.is_unread variable ≡ false

abbrev pub Nothing : ℕ → Type 0
Nothing id = ⊥

-- The old machine stands at a place that isn't dead, and the new one where that comes to stand; they agree on what is seen there.
pub record AreBeside (words : Words) (v : IsValidList words) (zeros : List ℕ) (plan : Plan) (fixed : Values) (m n : Machine) : Type 0 where
  pub steady : IsSteady words v zeros n
  pub alive : is_dead (plan.fate n.place) ≡ false
  -- nor is what is visible there
  pub seen_alive : (at : ℕ) → is_visible (intervals_of v.derivation) at n.place ≡ true → is_dead (plan.fate at) ≡ false
  pub place : m.place ≡ place_left plan words.insts n.place
  pub alike : AreAlike plan.name (IsSeen plan words.insts (intervals_of v.derivation) n.place) Nothing (IsHeld plan) m.state n.state
  pub fixed_now : AreFixed plan words.insts v.derivation.before fixed m.state.values
  pub fixed_entry : AreFixed plan words.insts v.derivation.before fixed m.state.values_at_entry
  pub enters : (inst_at words.insts n.place).op == op.LABEL ≡ true
      → EnteredBoth plan words.insts v.derivation n.place (word_at 0 (inst_at words.insts n.place)) n.state.label m.state.values n.state.values
  pub entered : (inst_at words.insts n.place).op == op.LABEL ≡ false
      → EnteredBoth plan words.insts v.derivation n.place n.state.label n.state.before m.state.values_at_entry n.state.values_at_entry
  -- what is given in other blocks is as it was when the block was entered
  pub apart : (inst_at words.insts n.place).op == op.LABEL ≡ false → (id at : ℕ) → definition words.insts id ≡ Some at
      → block_at words.insts at == block_at words.insts n.place ≡ false → m.state.values id ≡ m.state.values_at_entry id

-- ---- both programs

-- what the new program has in common with the old one
pub record LeavesProgram (plan : Plan) (insts : List Inst) (d : Derives insts) (new : Program) : Type 0 where
  pub insts_are : new.insts ≡ changed plan insts
  pub layout : new.layout ≡ (program_of insts).layout
  -- each id is a type of the same shape, or none
  pub shapes : (id : ℕ) → shape_in (new.meaning id) ≡ shape_in ((program_of insts).meaning id)
  -- types and variables that are left mean the same
  pub meaning : (id at : ℕ) → definition insts id ≡ Some at → plan.fate at ≡ Stays → new.meaning id ≡ (program_of insts).meaning id
  -- blocks that are left stand where their labels come to stand
  pub labels : (label at : ℕ) → first_label_place insts label ≡ Some at → d.before < at → is_dead (plan.fate at) ≡ false
      → new.label_place label ≡ Some (place_left plan insts at)

-- an id of the new module's level
pub record IsLevelId (plan : Plan) (insts : List Inst) (before id : ℕ) : Type 0 where
  pub at : ℕ
  pub defined : definition insts id ≡ Some at
  pub fixed : is_fixed_at plan before at ≡ true

-- nobody reads the output with this word of a decoration
abbrev pub is_unread_by : Plan → Option ℕ → Bool
is_unread_by plan None = false
is_unread_by plan (Some variable) = plan.is_unread variable

abbrev pub is_unread_output : Plan → List Inst → (decoration word : ℕ) → Bool
is_unread_output plan insts decoration word = is_unread_by plan (output_with (program_of insts) decoration word)

-- what both leave is the same, but for outputs that nobody reads
abbrev pub LeftBy : Plan → List Inst → Outcome → Outcome → Type 0
LeftBy plan insts = IsKeptBut (is_unread_output plan insts BUILT_IN builtin.POSITION) (is_unread_output plan insts LOCATION)

-- What stands fast while both machines run.
pub record IsSetting (words : Words) (v : IsValidList words) (zeros : List ℕ) (plan : Plan) (fixed : Values) (new : Program) : Type 0 where
  pub is : IsPlan words v zeros plan
  pub leaves : LeavesProgram plan words.insts v.derivation new
  pub right : FixRightly plan words.insts v.derivation fixed
  -- constant scalars of the new list are of its module's level
  pub known : (id : ℕ) (scalar : Scalar) → scalar_left plan words.insts id ≡ Some scalar → constant_scalar (changed plan words.insts) (plan.name id) ≡ Some scalar
  pub level : (id : ℕ) (scalar : Scalar) → constant_scalar (changed plan words.insts) id ≡ Some scalar → IsLevelId plan words.insts v.derivation.before id
  -- states that are alike leave the same
  pub kept : (kind : Kind) (a b : State) → AreAlike plan.name Nothing Nothing (IsHeld plan) a b → LeftBy plan words.insts (outcome_of new (kind, a)) (outcome_of (program_of words.insts) (kind, b))
