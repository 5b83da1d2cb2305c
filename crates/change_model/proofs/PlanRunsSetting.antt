-- What the list that a plan makes has in common with the old one, as both machines ask it.
use Rattle.std.proofs.Common.{◌≡◌, ℕ, zero, suc, ◌+◌, ◌<◌, ◌==◌, ◌&&◌, nat_lt, inl, inr, Bool, true, false, if◌then◌else◌, List, [], ◌∷◌, length, map, slice_index, refl, ap, sym, ◌∙◌, arith, Option, None, Some}
use Rattle.std.proofs.Math.Path.{fun_ext}
use Rattle.std.specs.Prelude.{slice_index_or}
use Rattle.std.specs.List.{find, range_with_len}
use Rattle.std.specs.Option.{option_map, option_and_then}
use Rattle.std.proofs.lemmas.Bool.{cases_lt}
use Rattle.std.proofs.lemmas.Bool.Decides.{nat_tests}
use Rattle.limits.specs.declared.TheConstants.{LOCATIONS, COMPONENTS}
use Rattle.spirv_model.specs.declared.module.Inst.{Inst}
use Rattle.spirv_model.specs.declared.module.Words.{Words}
use Rattle.spirv_model.specs.declared.op.TheConstants as op
use Rattle.spirv_model.specs.declared.storage_class.TheConstants as storage_class
use Rattle.spirv_model.specs.declared.builtin.TheConstants as builtin
use Rattle.spirv_model.specs.declared.decoration.TheConstants.{BUILT_IN, LOCATION}
use Rattle.spirv_model.specs.Operands.{word_at, class_of, result}
use Rattle.valid_model.specs.declared.meaning.Meaning.{Meaning}
use Rattle.valid_model.specs.declared.meaning.Meaning.TheVariants.{Absent, Shape as OfShape, Constant, Variable, Value as OfValue, Label, Other}
use Rattle.valid_model.specs.declared.meaning.Shape.{Shape}
use Rattle.valid_model.specs.declared.meaning.Shape.TheVariants.{Pointer}
use Rattle.valid_model.specs.Definitions.{definition, inst_at}
use Rattle.valid_model.specs.Knowledge.{meaning_in}
use Rattle.valid_model.specs.Meanings.{meaning}
use Rattle.check_model.specs.Validity.{IsValidList}
use Rattle.stage_model.specs.declared.outcome.Kind.{Kind}
use Rattle.stage_model.specs.declared.outcome.Kind.TheVariants.{Done, Killed, Lost}
use Rattle.stage_model.specs.Value.{Layout}
use Rattle.stage_model.specs.Program.{Program, first_label_place, program_of, pointee, held, held_type, held_layout}
use Rattle.stage_model.specs.Start.{Memory}
use Rattle.stage_model.specs.Machine.{State}
use Rattle.stage_model.specs.Stage.{Outcome, is_output_with, output_with, size_in, components_left, position_left, slots_left, left_by, outcome_of}
use Rattle.typed_model.proofs.BlockParts.{clash}
use Rattle.typed_model.proofs.KeptSteps.{variable_class}
use Rattle.typed_model.proofs.ResultIds.{defines, defined_id}
use Rattle.change_model.specs.declared.fate.Fate.TheVariants.{Stays}
use Rattle.change_model.specs.Folding.{function_at}
use Rattle.change_model.specs.Following.{AreAlike}
use Rattle.change_model.specs.Keeping.{IsKept}
use Rattle.change_model.specs.Plans.{Plan, changed}
use Rattle.change_model.specs.PlanRules.{IsPlan}
use Rattle.change_model.proofs.ChangedDefinitions.{level_stays, old_defined}
use Rattle.change_model.proofs.ChangedLabels.{label_left}
use Rattle.change_model.proofs.ChangedMeanings.{level_known, written_known}
use Rattle.change_model.proofs.ChangedShapes.{shape_in, shapes_changed}
use Rattle.change_model.proofs.ChangedVariables.{alike_there, variable_old, other_class}
use Rattle.change_model.proofs.FoldedKeeps.{program_has}
use Rattle.change_model.proofs.Followed.{same_insts}
use Rattle.change_model.proofs.Planned.{Planned}
use Rattle.change_model.proofs.PlanRuns.{LeavesProgram, IsHeld, Nothing, is_unread_by, is_unread_output, LeftBy}
use Rattle.change_model.proofs.PlanRunsNames.{written_by}

abbrev pub planned : (words : Words) (v : IsValidList words) (zeros : List ℕ) (plan : Plan) → IsPlan words v zeros plan → Planned
planned words v zeros plan is = record { words = words; valid = v; zeros = zeros; plan = plan; is = is }

means : (insts : List Inst) (id : ℕ) → (program_of insts).meaning id ≡ meaning insts id
means insts id = ap (λ (m : ℕ → Meaning). m id) (program_has insts).0

label_place_is : (insts : List Inst) (label : ℕ) → (program_of insts).label_place label ≡ first_label_place insts label
unfolding program_of
label_place_is insts label = refl

-- what stays means the same
stays_meaning : (g : Planned) (id at : ℕ) → definition g.words.insts id ≡ Some at → g.plan.fate at ≡ Stays → meaning (changed g.plan g.words.insts) id ≡ meaning g.words.insts id
stays_meaning g id at defined stays = elim (cases_lt at (function_at g.words.insts)) [
  | inl low ↦ ap meaning_in (level_known g id at defined low)
  | inr high ↦ ap meaning_in (written_known g id at _ defined (written_by g.plan g.words.insts at Stays stays) high)
]

pub leaves_program : (words : Words) (v : IsValidList words) (zeros : List ℕ) (plan : Plan) → IsPlan words v zeros plan → LeavesProgram plan words.insts v.derivation (program_of (changed plan words.insts))
leaves_program words v zeros plan is =
    let g = planned words v zeros plan is in
    let list = changed plan words.insts in
    record {
      insts_are = same_insts list;
      layout = (alike_there g).layout;
      shapes = λ id. ap shape_in (means list id) ∙ shapes_changed g id ∙ sym (ap shape_in (means words.insts id));
      meaning = λ id at defined stays. means list id ∙ stays_meaning g id at defined stays ∙ sym (means words.insts id);
      labels = λ label at found low alive. label_place_is list label ∙ label_left g label at found alive;
    }

-- ---- what variables hold

abbrev pointee_shape : Option Shape → Option ℕ
pointee_shape (Some (Pointer class to)) = Some to
pointee_shape shape = None

shape_pointee : (shape : Shape) → pointee (OfShape shape) ≡ pointee_shape (Some shape)
shape_pointee (Pointer class to) = refl
shape_pointee shape = refl

pointee_by : (m : Meaning) → pointee m ≡ pointee_shape (shape_in m)
pointee_by (OfShape shape) = shape_pointee shape
pointee_by Absent = refl
pointee_by (Constant type) = refl
pointee_by (Variable type class) = refl
pointee_by (OfValue type) = refl
pointee_by Label = refl
pointee_by Other = refl

pub held_by : (new old : ℕ → Meaning) → ((id : ℕ) → shape_in (new id) ≡ shape_in (old id)) → (m : Meaning) → held new m ≡ held old m
held_by new old same (Variable type class) = pointee_by (new type) ∙ ap pointee_shape (same type) ∙ sym (pointee_by (old type))
held_by new old same (OfShape shape) = refl
held_by new old same Absent = refl
held_by new old same (Constant type) = refl
held_by new old same (OfValue type) = refl
held_by new old same Label = refl
held_by new old same Other = refl

-- a variable that means the same holds the same
pub held_where : (p q : Program) → p.layout ≡ q.layout → ((id : ℕ) → shape_in (p.meaning id) ≡ shape_in (q.meaning id)) → (variable : ℕ) → p.meaning variable ≡ q.meaning variable → held_layout p variable ≡ held_layout q variable
unfolding held_layout
held_where p q layout shapes variable means =
    ap (λ (l : ℕ → Option Layout). option_and_then l (held_type p variable)) layout
    ∙ ap (option_and_then q.layout) (ap (held p.meaning) means ∙ held_by p.meaning q.meaning shapes (q.meaning variable))

-- ---- what is left

pub record Found (test : Inst → Bool) (insts : List Inst) (inst : Inst) : Type 0 where
  pub at : ℕ
  pub within : at < length insts
  pub there : inst_at insts at ≡ inst
  pub passes : test inst ≡ true

pub found_in : (test : Inst → Bool) (insts : List Inst) (inst : Inst) → find test insts ≡ Some inst → Found test insts inst
found_in test [] inst is = cc
found_in test (first ∷ insts) inst is = by_test (test first) refl is (λ rest. found_in test insts inst rest)
  where
    one : (a b : Inst) → ◌≡◌ {A = Option Inst} (Some a) (Some b) → a ≡ b
    one a b is = cc

    by_test : (b : Bool) → test first ≡ b → (if b then Some first else find test insts) ≡ Some inst → (find test insts ≡ Some inst → Found test insts inst) → Found test (first ∷ insts) inst
    by_test true passes is further = let e = one first inst is in record { at = 0; within = omega arith; there = e; passes = ap test (sym e) ∙ passes }
    by_test false fails is further = let f = further is in record { at = suc f.at; within = let w = f.within in omega (arith, w); there = f.there; passes = f.passes }

both : (a b c : Bool) → (a && b && c) ≡ true → (a ≡ true) × (b ≡ true)
both true true c is = (refl, refl)
both true false c is = cc
both false b c is = cc

same_op : (a b : ℕ) → a == b ≡ true → a ≡ b
same_op a b is = grind (arith, nat_tests)

pub variable_result : (inst : Inst) → inst.op == op.VARIABLE ≡ true → result inst ≡ Some (word_at 1 inst)
variable_result inst is = defined_id inst (ap (λ (o : ℕ). defines (class_of o)) (same_op inst.op op.VARIABLE is) ∙ variable_class)

-- an output is a variable of the module's level
record IsLevelVariable (g : Planned) (variable : ℕ) : Type 0 where
  at : ℕ
  low : at < function_at g.words.insts
  defined : definition g.words.insts variable ≡ Some at

output_class : (class : ℕ) → class == storage_class.OUTPUT ≡ true → class == storage_class.FUNCTION ≡ true → ⊥
output_class class is also = clash (class == storage_class.OUTPUT) is (other_class class storage_class.OUTPUT refl also)

output_level : (g : Planned) (decoration word variable : ℕ) → output_with (program_of g.words.insts) decoration word ≡ Some variable → IsLevelVariable g variable
output_level g decoration word variable is = by_found (find test q.insts) refl is
  where
    q : Program
    q = program_of g.words.insts

    test : Inst → Bool
    test = is_output_with (program_of g.words.insts) decoration word

    one_id : (a b : ℕ) → ◌≡◌ {A = Option ℕ} (Some a) (Some b) → a ≡ b
    one_id a b is = cc

    by_found : (found : Option Inst) → find test q.insts ≡ found → option_map (λ (inst : Inst). slice_index inst.words 1) found ≡ Some variable → IsLevelVariable g variable
    by_found None at is = cc
    by_found (Some inst) at is =
        let f = found_in test g.words.insts inst (ap (find test) (sym (same_insts g.words.insts)) ∙ at) in
        let b = both (inst.op == op.VARIABLE) (slice_index inst.words 2 == storage_class.OUTPUT) _ f.passes in
        let variable_here : (inst_at g.words.insts f.at).op == op.VARIABLE ≡ true = ap (λ (i : Inst). i.op == op.VARIABLE) f.there ∙ b.0 in
        let gives : result (inst_at g.words.insts f.at) ≡ Some variable =
        variable_result (inst_at g.words.insts f.at) variable_here ∙ ap (λ (i : Inst). Some (word_at 1 i)) f.there ∙ ap (λ (n : ℕ). Some n) (one_id (word_at 1 inst) variable is) in
        record {
          at = f.at;
          low = elim (cases_lt f.at (function_at g.words.insts)) [
            | inl low ↦ low
            | inr high ↦ absurd (output_class (word_at 2 inst) b.1 (ap (λ (i : Inst). word_at 2 i == storage_class.FUNCTION) (sym f.there) ∙ variable_old g f.at high f.within variable_here))
          ];
          defined = old_defined g f.at variable f.within gives;
        }

-- an output's components in both programs, where its words are the same
components_where : (p q : Program) (new old : Memory) (variable : Option ℕ) → ((own : ℕ) → variable ≡ Some own → (held_layout p own ≡ held_layout q own) × ((at : ℕ) → new own at ≡ old own at)) → components_left p new variable ≡ components_left q old variable
components_where p q new old None same = refl
components_where p q new old (Some variable) same =
    let s = same variable refl in
    ap (λ (f : ℕ → ℕ). map f (range_with_len 0 COMPONENTS)) (fun_ext (λ k.
    ap (λ (l : Option Layout). if nat_lt k (size_in l) then new variable k else 0) s.0 ∙ ap (λ (w : ℕ). if nat_lt k (size_in (held_layout q variable)) then w else 0) (s.1 k)))

left_where : (kind : Kind) (new old : Memory) (variable : ℕ) → ((at : ℕ) → new variable at ≡ old variable at) → (at : ℕ) → left_by kind new variable at ≡ left_by kind old variable at
left_where Done new old variable same at = same at
left_where Killed new old variable same at = refl
left_where Lost new old variable same at = refl

-- the output with this word of a decoration, where somebody reads it
pub output_kept : (g : Planned) (kind : Kind) (new old : Memory) (decoration word : ℕ) → ((own : ℕ) → output_with (program_of g.words.insts) decoration word ≡ Some own → (at : ℕ) → new own at ≡ old own at)
    → components_left (program_of (changed g.plan g.words.insts)) (left_by kind new) (output_with (program_of (changed g.plan g.words.insts)) decoration word)
    ≡ components_left (program_of g.words.insts) (left_by kind old) (output_with (program_of g.words.insts) decoration word)
output_kept g kind new old decoration word same =
    let p = program_of (changed g.plan g.words.insts) in let q = program_of g.words.insts in
    let l = leaves_program g.words g.valid g.zeros g.plan g.is in
    ap (components_left p (left_by kind new)) ((alike_there g).output decoration word)
    ∙ components_where p q (left_by kind new) (left_by kind old) (output_with q decoration word) (λ own is.
    let v = output_level g decoration word own is in
    (held_where p q l.layout l.shapes own (l.meaning own v.at v.defined (level_stays g v.at v.low)), left_where kind new old own (same own is)))

-- ---- slots

pub mapped_same : (f g : ℕ → List ℕ) (n from location : ℕ) → f (from + location) ≡ g (from + location) → slice_index_or (map f (range_with_len from n)) location [] ≡ slice_index_or (map g (range_with_len from n)) location []
mapped_same f g zero from location same = refl
mapped_same f g (suc n) from zero same = ap f {x = from} {y = from + 0} (omega arith) ∙ same ∙ ap g {x = from + 0} {y = from} (omega arith)
mapped_same f g (suc n) from (suc location) same =
    mapped_same f g n (from + 1) location (ap f {x = from + 1 + location} {y = from + suc location} (omega arith) ∙ same ∙ ap g {x = from + suc location} {y = from + 1 + location} (omega arith))

pub mapped_long : (f g : ℕ → List ℕ) (list : List ℕ) → length (map f list) ≡ length (map g list)
mapped_long f g [] = refl
mapped_long f g (x ∷ list) = let e = mapped_long f g list in omega (arith, e)

-- what states leave that are alike is kept, but for what is unread
pub all_kept : (g : Planned) (kind : Kind) (a b : State) → AreAlike g.plan.name Nothing Nothing (IsHeld g.plan) a b
    → LeftBy g.plan g.words.insts (outcome_of (program_of (changed g.plan g.words.insts)) (kind, a)) (outcome_of (program_of g.words.insts) (kind, b))
unfolding position_left slots_left
all_kept g kind a b alike =
    let p = program_of (changed g.plan g.words.insts) in let q = program_of g.words.insts in
    let new : ℕ → List ℕ = λ location. components_left p (left_by kind a.memory) (output_with p LOCATION location) in
    let old : ℕ → List ℕ = λ location. components_left q (left_by kind b.memory) (output_with q LOCATION location) in
    let read : (decoration word : ℕ) → is_unread_output g.plan g.words.insts decoration word ≡ false → components_left p (left_by kind a.memory) (output_with p decoration word) ≡ components_left q (left_by kind b.memory) (output_with q decoration word) =
    (λ decoration word is. output_kept g kind a.memory b.memory decoration word (λ own there at. alike.memory own at (sym (ap (is_unread_by g.plan) there) ∙ is))) in
    record {
      kind = refl;
      position = λ is. read BUILT_IN builtin.POSITION is;
      locations = mapped_long new old (range_with_len 0 LOCATIONS);
      slots = λ location is. mapped_same new old LOCATIONS 0 location (ap new {x = 0 + location} {y = location} (omega arith) ∙ read LOCATION location is ∙ ap old {x = location} {y = 0 + location} (omega arith));
      back_edges = alike.back_edges;
      work = alike.steps;
    }

-- where nothing is unread, all is kept
pub same_lists : (xs ys : List (List ℕ)) → length xs ≡ length ys → ((at : ℕ) → slice_index_or xs at [] ≡ slice_index_or ys at []) → xs ≡ ys
same_lists [] [] long same = refl
same_lists [] (y ∷ ys) long same = absurd (omega (arith, long))
same_lists (x ∷ xs) [] long same = absurd (omega (arith, long))
same_lists (x ∷ xs) (y ∷ ys) long same = ap (λ (l : List ℕ). l ∷ xs) (same 0) ∙ ap (λ (l : List (List ℕ)). y ∷ l) (same_lists xs ys (omega (arith, long)) (λ at. same (suc at)))

pub kept_whole : (plan : Plan) (insts : List Inst) → ((id : ℕ) → plan.is_unread id ≡ false) → (new old : Outcome) → LeftBy plan insts new old → IsKept new old
kept_whole plan insts read new old k = record {
  kind = k.kind;
  position = k.position (none (output_with (program_of insts) BUILT_IN builtin.POSITION));
  slots = same_lists new.slots old.slots k.locations (λ location. k.slots location (none (output_with (program_of insts) LOCATION location)));
  back_edges = k.back_edges;
  work = k.work;
}
  where
    none : (found : Option ℕ) → is_unread_by plan found ≡ false
    none None = refl
    none (Some variable) = read variable
