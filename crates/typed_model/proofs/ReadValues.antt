-- Where a valid module's instruction stands and the judgement holds, each id that it reads has a value that suits it.
use Rattle.std.proofs.Common.{◌≡◌, ℕ, ◌==◌, ◌&&◌, Bool, true, false, not, if◌then◌else◌, List, [], ◌∷◌, map, refl, ap, sym, ◌∙◌, Option, None, Some}
use Rattle.std.specs.List.{find}
use Rattle.std.specs.Option.{option_map, option_and_then}
use Rattle.spirv_model.specs.declared.module.Inst.{Inst}
use Rattle.spirv_model.specs.declared.op.TheConstants as op
use Rattle.spirv_model.specs.Operands.{word_at, entry_of, class_of}
use Rattle.valid_model.specs.Definitions.{definition, inst_at}
use Rattle.valid_model.specs.Meanings.{is_constant, known_before}
use Rattle.check_model.specs.Intervals.{Interval}
use Rattle.check_model.specs.Typing.{Typing, type_id, constant_in, constant_word}
use Rattle.check_model.specs.Visibility.{Use, use_at, used_ids, names_predecessors, phi_uses, uses_at, is_defined_for, is_visible_use, not_visible}
use Rattle.stage_model.specs.Value.{Value}
use Rattle.stage_model.specs.Program.{program_of}
use Rattle.stage_model.specs.Start.{Values, all_values}
use Rattle.typed_model.specs.Types.{typing_in, AllSuit}
use Rattle.typed_model.specs.Judgement.{HasValue, AreTyped}
use Rattle.typed_model.proofs.TypeLayouts.{same}
use Rattle.typed_model.proofs.ModuleValues.{meaning_at}
use Rattle.typed_model.proofs.ModuleSteps.{constant_known_by, number_of, number_at}
use Rattle.typed_model.proofs.ReadTypes.{Each, IsTyped, AreNumbersTyped}
use Rattle.typed_model.proofs.UsedReads.{IsRead}

-- ---- uses that are visible

-- the id is defined, and visible at the place
abbrev pub IsSeen : List Interval → List Inst → ℕ → ℕ → Type 0
IsSeen intervals insts place id = is_defined_for intervals place (definition insts id) ≡ true

all_seen : (intervals : List Interval) (insts : List Inst) (place : ℕ) (ids : List ℕ) → option_map (λ (used : Use). used.id) (find (λ used. not (is_visible_use intervals insts used)) (map (use_at place) ids)) ≡ None
    → Each (IsSeen intervals insts place) ids
all_seen intervals insts place [] none = tt
all_seen intervals insts place (id ∷ ids) none =
    by_first intervals insts place id ids (is_defined_for intervals place (definition insts id)) refl none (λ rest. all_seen intervals insts place ids rest)
  where
    by_first : (intervals : List Interval) (insts : List Inst) (place id : ℕ) (ids : List ℕ) (seen : Bool) → is_defined_for intervals place (definition insts id) ≡ seen
        → option_map (λ (used : Use). used.id) (if not seen then Some (use_at place id) else find (λ used. not (is_visible_use intervals insts used)) (map (use_at place) ids)) ≡ None
        → (option_map (λ (used : Use). used.id) (find (λ used. not (is_visible_use intervals insts used)) (map (use_at place) ids)) ≡ None → Each (IsSeen intervals insts place) ids) → Each (IsSeen intervals insts place) (id ∷ ids)
    by_first intervals insts place id ids true is none rest = (is, rest none)
    by_first intervals insts place id ids false is none rest = cc

-- phis aside, all that an instruction uses is visible
pub uses_seen : (intervals : List Interval) (insts : List Inst) (place : ℕ) → not_visible intervals insts place ≡ None → (inst_at insts place).op == op.PHI ≡ false → Each (IsSeen intervals insts place) (used_ids (inst_at insts place))
unfolding not_visible uses_at
uses_seen intervals insts place none isnt = all_seen intervals insts place (used_ids (inst_at insts place)) (by_phi intervals insts (word_at 1 (inst_at insts place)) (names_predecessors insts place) (phi_uses insts place (inst_at insts place)) (map (use_at place) (used_ids (inst_at insts place))) ((inst_at insts place).op == op.PHI) isnt none)
  where
    by_phi : (intervals : List Interval) (insts : List Inst) (p : ℕ) (named : Bool) (phis uses : List Use) (b : Bool) → b ≡ false
        → (if b && not named then Some p else option_map (λ (used : Use). used.id) (find (λ used. not (is_visible_use intervals insts used)) (if b then phis else uses))) ≡ None
        → option_map (λ (used : Use). used.id) (find (λ used. not (is_visible_use intervals insts used)) uses) ≡ None
    by_phi intervals insts p named phis uses true isnt none = cc
    by_phi intervals insts p named phis uses false isnt none = none

-- ---- values

-- what the rules of operands know of ids
abbrev pub typing_here : List Inst → Bool → Typing
typing_here insts vertex = typing_in (program_of insts) (constant_word insts) vertex

constant_class : is_constant op.CONSTANT ≡ true
unfolding class_of entry_of
constant_class = refl

number_typed : (insts : List Inst) (vertex : Bool) (id word : ℕ) (defined : Option ℕ) → definition insts id ≡ defined → constant_word insts id ≡ Some word → IsTyped (typing_here insts vertex) id
unfolding constant_word program_of
number_typed insts vertex id word None at known = let e = sym (ap (option_and_then (λ place. constant_in (inst_at insts place))) at) ∙ known in cc
number_typed insts vertex id word (Some place) at known =
    let n = number_of (inst_at insts place) word (number_at insts place id word at known) in
    let is : is_constant (inst_at insts place).op ≡ true = ap is_constant (same (inst_at insts place).op op.CONSTANT n.0) ∙ constant_class in
    record { type = word_at 0 (inst_at insts place); of = ap type_id (meaning_at insts place id at ∙ constant_known_by (known_before insts place) (inst_at insts place) is) }

pub numbers_typed : (insts : List Inst) (vertex : Bool) → AreNumbersTyped (typing_here insts vertex)
numbers_typed insts vertex id word known = number_typed insts vertex id word (definition insts id) refl known

value_by : (insts : List Inst) (intervals : List Interval) (place : ℕ) (vertex : Bool) (values : Values) → AreTyped insts intervals place values → (id : ℕ) → IsTyped (typing_here insts vertex) id
    → (defined : Option ℕ) → definition insts id ≡ defined → is_defined_for intervals place defined ≡ true → HasValue insts values id
unfolding program_of
value_by insts intervals place vertex values typed id of None at seen = cc
value_by insts intervals place vertex values typed id of (Some at) is seen = typed id at of.type is seen of.of

-- an id that is visible and has a type has a value
pub read_value : (insts : List Inst) (intervals : List Interval) (place : ℕ) (vertex : Bool) (values : Values) → AreTyped insts intervals place values → (id : ℕ) → IsRead (IsSeen intervals insts place) (typing_here insts vertex) id → HasValue insts values id
read_value insts intervals place vertex values typed id read = value_by insts intervals place vertex values typed id read.typed (definition insts id) refl read.used

-- the values that are read: each id has one, which suits it
pub record HasValues (insts : List Inst) (values : Values) (ids : List ℕ) : Type 0 where
  pub read : List Value
  pub are : all_values values ids ≡ Some read
  pub suit : AllSuit (program_of insts) (constant_word insts) ids read

pub has_values : (insts : List Inst) (intervals : List Interval) (place : ℕ) (vertex : Bool) (values : Values) → AreTyped insts intervals place values → (ids : List ℕ)
    → Each (IsRead (IsSeen intervals insts place) (typing_here insts vertex)) ids → HasValues insts values ids
has_values insts intervals place vertex values typed [] reads = record { read = []; are = refl; suit = tt }
has_values insts intervals place vertex values typed (id ∷ ids) reads =
    let h = read_value insts intervals place vertex values typed id reads.0 in
    let rest = has_values insts intervals place vertex values typed ids reads.1 in
    record {
      read = h.value ∷ rest.read;
      are = ap (option_and_then (λ first. option_map (λ rest. first ∷ rest) (all_values values ids))) h.is ∙ ap (option_map (λ rest. h.value ∷ rest)) rest.are;
      suit = (h.suits, rest.suit);
    }
