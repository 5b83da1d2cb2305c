-- What an instruction keeps with other names for the ids that it reads: its result, and the result's type.
use Rattle.std.proofs.Common.{◌≡◌, ℕ, ◌==◌, Bool, true, false, if◌then◌else◌, List, [], ◌∷◌, ◌++◌, take, drop, slice_index, refl, ap, sym, ◌∙◌, subst, Option, None, Some}
use Rattle.std.specs.Option.{option_map}
use Rattle.std.specs.List.{list_all}
use Rattle.spirv_model.specs.declared.module.Inst.{Inst}
use Rattle.spirv_model.specs.declared.class.Class.{Class}
use Rattle.spirv_model.specs.declared.class.Class.TheVariants as class
use Rattle.spirv_model.specs.declared.op.TheConstants as op
use Rattle.spirv_model.specs.declared.table.TheConstants.{ROWS}
use Rattle.spirv_model.specs.declared.table.Operand.{Operand}
use Rattle.spirv_model.specs.declared.table.Operand.TheVariants.{IdResultType, IdResult}
use Rattle.spirv_model.specs.declared.table.Entry.{Entry}
use Rattle.spirv_model.specs.declared.table.Entry.TheVariants.{Skipped, Float, Listed}
use Rattle.spirv_model.specs.declared.table.Rest.{Rest}
use Rattle.spirv_model.specs.Operands.{word_at, words_from, entry_of, class_in, class_of, listed_of, kinds_from, kinds_in, kinds, result_place, result_in, result}
use Rattle.typed_model.proofs.ResultIds.{in_rows}
use Rattle.change_model.specs.Plans.{Plan, renamed_by, pairs_left, kept_at, predecessors_left, block_at}
use Rattle.change_model.proofs.Settlings.{op_is}

-- ---- where the result stands

abbrev pub place_in : Option Entry → Option ℕ
place_in (Some (Listed of operands)) = result_place (listed_of operands)
place_in entry = None

-- the result's id is the second word, behind its type
abbrev pub is_second : Option ℕ → Bool
is_second None = false
is_second (Some place) = place == 1

result_by_place : (entry : Option Entry) (inst : Inst) → result_in entry inst ≡ option_map (slice_index inst.words) (place_in entry)
result_by_place (Some (Listed of operands)) inst = refl
result_by_place (Some Skipped) inst = refl
result_by_place (Some Float) inst = refl
result_by_place None inst = refl

-- an opcode whose instructions give a value of a type
abbrev pub is_value_class : Option Class → Bool
is_value_class (Some class.Undef) = true
is_value_class (Some class.Phi) = true
is_value_class (Some class.Memory) = true
is_value_class (Some class.Composite) = true
is_value_class (Some (class.Scalar operation)) = true
is_value_class (Some class.Variable) = true
is_value_class (Some class.Constant) = true
is_value_class other = false

abbrev is_typed_row : ℕ → Option Entry → Bool
is_typed_row opcode entry = if is_value_class (class_in entry) then (if opcode == op.STORE then true else is_second (place_in entry)) else true

all_typed : list_all (λ row. is_typed_row row.op (Some row.entry)) ROWS ≡ true
all_typed = refl

pub typed_place : (opcode : ℕ) → is_value_class (class_of opcode) ≡ true → opcode == op.STORE ≡ false → is_second (place_in (entry_of opcode)) ≡ true
unfolding entry_of class_of
typed_place opcode is isnt = by_entry (is_value_class (class_in (entry_of opcode))) (opcode == op.STORE) is isnt (in_rows is_typed_row (λ opcode. refl) ROWS opcode all_typed)
  where
    by_entry : (a b : Bool) → a ≡ true → b ≡ false → (if a then (if b then true else is_second (place_in (entry_of opcode))) else true) ≡ true → is_second (place_in (entry_of opcode)) ≡ true
    by_entry true false is isnt so = so
    by_entry true true is isnt so = cc
    by_entry false b is isnt so = cc

-- ---- words in front

-- the result's id and its type are the same
pub record SameFront (place : Option ℕ) (new old : List ℕ) : Type 0 where
  pub own : option_map (slice_index new) place ≡ option_map (slice_index old) place
  pub type : is_second place ≡ true → slice_index new 0 ≡ slice_index old 0

front_refl : (place : Option ℕ) (words : List ℕ) → SameFront place words words
front_refl place words = record { own = refl; type = λ is. refl }

renamed_front : (name : ℕ → ℕ) (listed : List (Option Operand)) (rest : Rest) (words : List ℕ) → SameFront (result_place listed) (renamed_by name (kinds_from listed rest words) words) words
renamed_front name (Some IdResult ∷ more) rest [] = front_refl (Some 0) []
renamed_front name (Some IdResult ∷ more) rest (a ∷ words) = by_found (kinds_from more rest words)
  where
    by_found : (found : Option (List Operand)) → SameFront (Some 0) (renamed_by name (option_map (λ (k : List Operand). IdResult ∷ k) found) (a ∷ words)) (a ∷ words)
    by_found None = front_refl (Some 0) (a ∷ words)
    by_found (Some k) = record { own = refl; type = λ is. refl }
renamed_front name (Some IdResultType ∷ Some IdResult ∷ more) rest [] = front_refl (Some 1) []
renamed_front name (Some IdResultType ∷ Some IdResult ∷ more) rest (a ∷ []) = front_refl (Some 1) (a ∷ [])
renamed_front name (Some IdResultType ∷ Some IdResult ∷ more) rest (a ∷ b ∷ words) = by_found (kinds_from more rest words)
  where
    by_found : (found : Option (List Operand))
        → SameFront (Some 1) (renamed_by name (option_map (λ (k : List Operand). IdResultType ∷ k) (option_map (λ (k : List Operand). IdResult ∷ k) found)) (a ∷ b ∷ words)) (a ∷ b ∷ words)
    by_found None = front_refl (Some 1) (a ∷ b ∷ words)
    by_found (Some k) = record { own = refl; type = λ is. refl }
renamed_front name listed rest words = record { own = refl; type = λ is. cc }

renamed_entry : (name : ℕ → ℕ) (entry : Option Entry) (words : List ℕ) → SameFront (place_in entry) (renamed_by name (kinds_in entry words) words) words
renamed_entry name (Some (Listed of operands)) words = renamed_front name (listed_of operands) operands.rest words
renamed_entry name (Some Skipped) words = front_refl None words
renamed_entry name (Some Float) words = front_refl None words
renamed_entry name None words = front_refl None words

phi_front : (name : ℕ → ℕ) (blocks words : List ℕ) → SameFront (Some 1) (take 2 words ++ pairs_left name blocks (drop 2 words)) words
phi_front name blocks [] = record { own = refl; type = λ is. refl }
phi_front name blocks (a ∷ []) = record { own = refl; type = λ is. refl }
phi_front name blocks (a ∷ b ∷ words) = record { own = refl; type = λ is. refl }

phi_place : place_in (entry_of op.PHI) ≡ Some 1
unfolding entry_of
phi_place = refl

-- ---- instructions

-- the new instruction has the opcode of the old one, its result and the result's type
pub record KeepsResult (new old : Inst) : Type 0 where
  pub op : new.op ≡ old.op
  pub front : SameFront (place_in (entry_of old.op)) new.words old.words

pub itself : (inst : Inst) → KeepsResult inst inst
itself inst = record { op = refl; front = front_refl (place_in (entry_of inst.op)) inst.words }

pub keeps_result : (new old : Inst) → KeepsResult new old → result new ≡ result old
unfolding result
keeps_result new old k =
    result_by_place (entry_of new.op) new ∙ ap (λ (opcode : ℕ). option_map (slice_index new.words) (place_in (entry_of opcode))) k.op
    ∙ k.front.own ∙ sym (result_by_place (entry_of old.op) old)

pub keeps_type : (new old : Inst) → KeepsResult new old → is_value_class (class_of old.op) ≡ true → old.op == op.STORE ≡ false → word_at 0 new ≡ word_at 0 old
keeps_type new old k is isnt = k.front.type (typed_place old.op is isnt)

-- an instruction that stays
pub kept_result : (plan : Plan) (insts : List Inst) (place : ℕ) (inst : Inst) → KeepsResult (kept_at plan insts place inst) inst
unfolding kinds
kept_result plan insts place inst = by_test (inst.op == op.PHI) refl
  where
    blocks : List ℕ
    blocks = predecessors_left plan insts (block_at insts place)

    by_test : (b : Bool) → inst.op == op.PHI ≡ b
        → KeepsResult (if b then record inst { words = take 2 inst.words ++ pairs_left plan.name blocks (words_from 2 inst) } else record inst { words = renamed_by plan.name (kinds inst) inst.words }) inst
    by_test true is = record {
      op = refl;
      front = subst (λ (o : Option ℕ). SameFront o (take 2 inst.words ++ pairs_left plan.name blocks (words_from 2 inst)) inst.words)
          (sym (ap (λ (opcode : ℕ). place_in (entry_of opcode)) (op_is inst.op op.PHI is) ∙ phi_place))
          (phi_front plan.name blocks inst.words);
    }
    by_test false isnt = record { op = refl; front = renamed_entry plan.name (entry_of inst.op) inst.words }
