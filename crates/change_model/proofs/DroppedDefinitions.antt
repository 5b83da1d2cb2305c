-- Which instruction defines an id, where variables and constants of the module's level are dropped.
use Rattle.std.proofs.Common.{◌≡◌, ℕ, ◌<◌, ◌==◌, ◌&&◌, ◌||◌, Bool, true, false, if◌then◌else◌, List, length, take, refl, ap, sym, ◌∙◌, Option, None, Some}
use Rattle.std.specs.Option.{option_map}
use Rattle.std.specs.List.{list_any}
use Rattle.spirv_model.specs.declared.module.Inst.{Inst}
use Rattle.spirv_model.specs.declared.op.TheConstants as op
use Rattle.spirv_model.specs.Operands.{word_at, entry_of, result}
use Rattle.valid_model.specs.Definitions.{has_result, gives, inst_at, definition, is_earlier, twice_by, id_twice}
use Rattle.typed_model.proofs.BlockParts.{clash}
use Rattle.typed_model.proofs.TypedSteps.{gives_at}
use Rattle.change_model.specs.Dropping.{is_gone, is_decoration, is_dropped, entry_without, dropped}
use Rattle.change_model.proofs.DroppedPlaces.{dropped_left, DroppedPlace, result_stays, result_left}
use Rattle.change_model.proofs.SettledPlaces.{earlier_is, long_enough}
use Rattle.change_model.proofs.Settlings.{op_is}
use Rattle.change_model.proofs.Sifted.{IsSiftedTest, any_sifted, definition_sifted, definition_lost}

-- ---- tests for an id

decorate_result : (words : List ℕ) → result (record { op = op.DECORATE; words = words }) ≡ None
unfolding result entry_of
decorate_result words = refl

member_result : (words : List ℕ) → result (record { op = op.MEMBER_DECORATE; words = words }) ≡ None
unfolding result entry_of
member_result words = refl

-- a decoration has no result
pub decoration_silent : (inst : Inst) → is_decoration inst.op ≡ true → result inst ≡ None
decoration_silent inst is = by_tests (inst.op == op.DECORATE) (inst.op == op.MEMBER_DECORATE) refl refl is
  where
    by_tests : (a b : Bool) → inst.op == op.DECORATE ≡ a → inst.op == op.MEMBER_DECORATE ≡ b → (a || b) ≡ true → result inst ≡ None
    by_tests true b is so either = ap (λ (o : ℕ). result (record { op = o; words = inst.words })) (op_is inst.op op.DECORATE is) ∙ decorate_result inst.words
    by_tests false true is so either = ap (λ (o : ℕ). result (record { op = o; words = inst.words })) (op_is inst.op op.MEMBER_DECORATE so) ∙ member_result inst.words
    by_tests false false is so either = cc

-- an id that stays isn't one that goes
pub not_gone : (gone : ℕ → Bool) (id : ℕ) (given : Option ℕ) → gone id ≡ false → is_gone gone given ≡ true → has_result id given ≡ false
not_gone gone id None stays is = refl
not_gone gone id (Some own) stays is = by_test (own == id) refl
  where
    by_test : (b : Bool) → own == id ≡ b → b ≡ false
    by_test false isnt = refl
    by_test true same = absurd (clash (gone own) is (ap gone (op_is own id same) ∙ stays))

dropped_gives : (gone : ℕ → Bool) (id : ℕ) (inst : Inst) → gone id ≡ false → is_dropped gone inst ≡ true → gives id inst ≡ false
dropped_gives gone id inst stays is = by_tests (is_gone gone (result inst)) (is_decoration inst.op) refl refl is
  where
    by_tests : (a b : Bool) → is_gone gone (result inst) ≡ a → is_decoration inst.op ≡ b → (a || (b && gone (word_at 0 inst))) ≡ true → gives id inst ≡ false
    by_tests true b is so either = not_gone gone id (result inst) stays is
    by_tests false true is so either = ap (has_result id) (decoration_silent inst so)
    by_tests false false is so either = cc

pub gives_kept : (gone : ℕ → Bool) (id : ℕ) → gone id ≡ false → IsSiftedTest (is_dropped gone) (entry_without gone) (gives id) (gives id)
gives_kept gone id stays = record {
  kept = λ inst isnt. ap (has_result id) (result_left gone inst);
  gone = λ inst is. dropped_gives gone id inst stays is;
}

-- what gives an id that stays isn't dropped
pub giver_stays : (gone : ℕ → Bool) (id : ℕ) (inst : Inst) → gone id ≡ false → gives id inst ≡ true → is_dropped gone inst ≡ false
giver_stays gone id inst stays gives_it = by_test (is_dropped gone inst) refl
  where
    by_test : (b : Bool) → is_dropped gone inst ≡ b → b ≡ false
    by_test false isnt = refl
    by_test true is = absurd (clash (gives id inst) gives_it (dropped_gives gone id inst stays is))

pub definition_stays : (gone : ℕ → Bool) (insts : List Inst) (id place : ℕ) → gone id ≡ false → definition insts id ≡ Some place → is_dropped gone (inst_at insts place) ≡ false
definition_stays gone insts id place stays at = giver_stays gone id (inst_at insts place) stays (gives_at insts id place at)

-- what is left gives no id that goes
pub gives_no_gone : (gone : ℕ → Bool) (id : ℕ) (inst : Inst) → gone id ≡ true → is_dropped gone inst ≡ false → gives id (entry_without gone inst) ≡ false
gives_no_gone gone id inst is stays = ap (has_result id) (result_left gone inst) ∙ none (result inst) (result_stays gone inst stays)
  where
    none : (given : Option ℕ) → is_gone gone given ≡ false → has_result id given ≡ false
    none None isnt = refl
    none (Some own) isnt = by_test (own == id) refl
      where
        by_test : (b : Bool) → own == id ≡ b → b ≡ false
        by_test false isnt = refl
        by_test true same = absurd (clash (gone own) (ap gone (op_is own id same) ∙ is) isnt)

-- ---- definitions

-- an id that stays is defined where its definition stands then, or not at all
pub definition_kept : (gone : ℕ → Bool) (insts : List Inst) (id : ℕ) → gone id ≡ false → definition (dropped gone insts) id ≡ option_map (dropped_left gone insts) (definition insts id)
unfolding dropped
definition_kept gone insts id stays = definition_sifted (is_dropped gone) (entry_without gone) id (gives_kept gone id stays) insts

pub defined_at_left : (gone : ℕ → Bool) (insts : List Inst) (id place : ℕ) → gone id ≡ false → definition insts id ≡ Some place → definition (dropped gone insts) id ≡ Some (dropped_left gone insts place)
defined_at_left gone insts id place stays at = definition_kept gone insts id stays ∙ ap (option_map (dropped_left gone insts)) at

-- an id that goes isn't defined
pub definition_gone : (gone : ℕ → Bool) (insts : List Inst) (id : ℕ) → gone id ≡ true → definition (dropped gone insts) id ≡ None
unfolding dropped
definition_gone gone insts id is = definition_lost (is_dropped gone) (entry_without gone) id (λ inst stays. gives_no_gone gone id inst is stays) insts

-- so an id that is defined stays
pub defined_stays : (gone : ℕ → Bool) (insts : List Inst) (id place : ℕ) → definition (dropped gone insts) id ≡ Some place → gone id ≡ false
defined_stays gone insts id place at = by_test (gone id) refl
  where
    never : (found : Option ℕ) → found ≡ Some place → found ≡ None → ⊥
    never None is none = cc
    never (Some other) is none = cc

    by_test : (b : Bool) → gone id ≡ b → b ≡ false
    by_test false isnt = refl
    by_test true is = absurd (never (definition (dropped gone insts) id) at (definition_gone gone insts id is))

-- where it was
pub defined_from : (gone : ℕ → Bool) (insts : List Inst) (id place : ℕ) → definition (dropped gone insts) id ≡ Some place → (old : ℕ) × (definition insts id ≡ Some old) × (dropped_left gone insts old ≡ place)
defined_from gone insts id place at = by_old (definition insts id) refl (sym (definition_kept gone insts id (defined_stays gone insts id place at)) ∙ at)
  where
    same : (a b : ℕ) → ◌≡◌ {A = Option ℕ} (Some a) (Some b) → a ≡ b
    same a b is = cc

    by_old : (found : Option ℕ) → definition insts id ≡ found → option_map (dropped_left gone insts) found ≡ Some place → (old : ℕ) × (definition insts id ≡ Some old) × (dropped_left gone insts old ≡ place)
    by_old None is so = cc
    by_old (Some old) is so = (old, is, same (dropped_left gone insts old) place so)

-- ---- what is defined before a place

pub any_kept : (gone : ℕ → Bool) (id : ℕ) → gone id ≡ false → (insts : List Inst) → list_any (gives id) (dropped gone insts) ≡ list_any (gives id) insts
unfolding dropped
any_kept gone id stays insts = any_sifted (is_dropped gone) (entry_without gone) (gives id) (gives id) (gives_kept gone id stays) insts

pub earlier_kept : (gone : ℕ → Bool) (insts : List Inst) (place : ℕ) → place < length (dropped gone insts) → (p : DroppedPlace gone insts place) → (id : ℕ) → gone id ≡ false
    → is_earlier (definition (dropped gone insts) id) place ≡ is_earlier (definition insts id) p.old
earlier_kept gone insts place within p id stays =
    earlier_is (dropped gone insts) id place (long_enough place (length (dropped gone insts)) within)
    ∙ ap (list_any (gives id)) p.front
    ∙ any_kept gone id stays (take p.old insts)
    ∙ sym (earlier_is insts id p.old (long_enough p.old (length insts) p.within))

-- ids are given once
pub once_dropped : (gone : ℕ → Bool) (insts : List Inst) (place : ℕ) → place < length (dropped gone insts) → (p : DroppedPlace gone insts place) → id_twice (dropped gone insts) place ≡ id_twice insts p.old
unfolding id_twice
once_dropped gone insts place within p =
    ap (λ (i : Inst). twice_by (dropped gone insts) place (result i)) p.inst
    ∙ ap (twice_by (dropped gone insts) place) (result_left gone (inst_at insts p.old))
    ∙ twice_same (result (inst_at insts p.old)) (result_stays gone (inst_at insts p.old) p.stays)
  where
    twice_same : (given : Option ℕ) → is_gone gone given ≡ false → twice_by (dropped gone insts) place given ≡ twice_by insts p.old given
    twice_same None stays = refl
    twice_same (Some id) stays = ap (λ (b : Bool). if b then Some id else None) (earlier_kept gone insts place within p id stays)
