-- Each result of a swept function is used.
use Rattle.std.proofs.Common.{◌≡◌, ℕ, ◌<◌, ◌==◌, ◌&&◌, ◌||◌, inl, inr, Bool, true, false, not, List, length, refl, ap, sym, ◌∙◌, arith, Option, None, Some}
use Rattle.std.proofs.lemmas.Bool.{cases_lt, eq-eqb, eqb-true}
use Rattle.spirv_model.specs.declared.module.Inst.{Inst}
use Rattle.spirv_model.specs.declared.module.Words.{Words}
use Rattle.spirv_model.specs.declared.op.TheConstants as op
use Rattle.spirv_model.specs.Operands.{entry_of, ids, result}
use Rattle.body_model.specs.Classes.{is_plain}
use Rattle.body_model.specs.Switches.{is_among}
use Rattle.valid_model.specs.Definitions.{inst_at}
use Rattle.check_model.specs.Storage.{is_in_function}
use Rattle.check_model.specs.Validity.{IsValidList}
use Rattle.typed_model.proofs.BlockParts.{BlockPart, a_label, a_phi, a_variable, a_selection_merge, a_loop_merge, a_plain_one, a_terminator}
use Rattle.typed_model.proofs.EffectsRun.{instruction}
use Rattle.typed_model.proofs.FunctionRuns.{part_at, function_within}
use Rattle.typed_model.proofs.PlainRuns.{at_op}
use Rattle.typed_model.proofs.ResultIds.{terminator_result}
use Rattle.unit_model.specs.UsedResults.{is_used_elsewhere, is_result_used, is_no_value, uses_all_results}
use Rattle.change_model.specs.Plans.{Plan, changed}
use Rattle.change_model.specs.Sweeping.{is_sweepable, IsUsedBy, IsSwept}
use Rattle.change_model.proofs.BehindLevel.{end_op}
use Rattle.change_model.proofs.ChangedPlaces.{place_left}
use Rattle.change_model.proofs.FunctionKnown.{selection_merge_result, loop_merge_result}
use Rattle.change_model.proofs.FunctionPlaces.{all_filtered}
use Rattle.change_model.proofs.SweptPlaces.{any_function_place, SweptFrom, swept_apart, new_behind, swept_from, swept_to}

none_some : (found : Option ℕ) (id : ℕ) → found ≡ None → found ≡ Some id → ⊥
none_some found id none some = cc

end_result : (words : List ℕ) → result (instruction op.FUNCTION_END words) ≡ None
unfolding result entry_of
end_result words = refl

or_left : (a b : Bool) → a ≡ true → (a || b) ≡ true
or_left true b is = refl
or_left false b is = cc

or_right : (a b : Bool) → b ≡ true → (a || b) ≡ true
or_right true b is = refl
or_right false b is = is

both : (a b : Bool) → a ≡ true → b ≡ true → (a && b) ≡ true
both true b is also = also
both false b is also = cc

by_plain : (a b c : Bool) → a ≡ true → (a || b || c) ≡ true
by_plain true b c is = refl
by_plain false b c is = cc

by_phi : (a b c : Bool) → b ≡ true → (a || b || c) ≡ true
by_phi true b c is = refl
by_phi false true c is = refl
by_phi false false c is = cc

by_variable : (a b c : Bool) → c ≡ true → (a || b || c) ≡ true
by_variable true b c is = refl
by_variable false true c is = refl
by_variable false false c is = is

-- a result of the function is that of an instruction that can go, or a label
pub data GivesWhat (inst : Inst) : Type 0 where
  label : inst.op == op.LABEL ≡ true → GivesWhat inst
  value : is_sweepable inst.op ≡ true → GivesWhat inst

gives_by : (inst : Inst) (id : ℕ) → result inst ≡ Some id → BlockPart inst → GivesWhat inst
gives_by inst id gives (a_label is) = label is
gives_by inst id gives (a_phi is) = value (by_phi (is_plain inst.op) (inst.op == op.PHI) (inst.op == op.VARIABLE) is)
gives_by inst id gives (a_variable is) = value (by_variable (is_plain inst.op) (inst.op == op.PHI) (inst.op == op.VARIABLE) is)
gives_by inst id gives (a_plain_one is) = value (by_plain (is_plain inst.op) (inst.op == op.PHI) (inst.op == op.VARIABLE) is)
gives_by inst id gives (a_selection_merge is) = absurd (none_some (result inst) id (selection_merge_result inst (eqb-true inst.op op.SELECTION_MERGE is)) gives)
gives_by inst id gives (a_loop_merge is) = absurd (none_some (result inst) id (loop_merge_result inst (eqb-true inst.op op.LOOP_MERGE is)) gives)
gives_by inst id gives (a_terminator is) = absurd (none_some (result inst) id (terminator_result inst is) gives)

-- the end of the function gives nothing
pub before_end : (words : Words) (v : IsValidList words) (place id : ℕ) → place < length words.insts → result (inst_at words.insts place) ≡ Some id → place < v.derivation.after
before_end words v place id within gives = elim (cases_lt place v.derivation.after) [
  | inl high ↦ high
  | inr past ↦
      let insts = words.insts in
      let last = v.derivation.last in
      let ends : (inst_at insts place).op ≡ op.FUNCTION_END = ap (λ (n : ℕ). (inst_at insts n).op) {x = place} {y = v.derivation.after} (omega (arith, past, within, last)) ∙ end_op insts v.derivation in
      absurd (none_some (result (inst_at insts place)) id
      (at_op (λ (i : Inst). result i ≡ None) (inst_at insts place) op.FUNCTION_END (ap (λ (o : ℕ). o == op.FUNCTION_END) ends) (end_result (inst_at insts place).words)) gives)
]

pub gives_what : (words : Words) (v : IsValidList words) (place id : ℕ) → v.derivation.before < place → place < length words.insts → result (inst_at words.insts place) ≡ Some id → GivesWhat (inst_at words.insts place)
gives_what words v place id low within gives = gives_by (inst_at words.insts place) id gives (part_at words.insts v.derivation place (omega (arith, low)) (before_end words v place id within gives))

module _ (is_unread : ℕ → Bool) (words : Words) (v : IsValidList words) (plan : Plan) (s : IsSwept is_unread words v plan) where
  abbrev insts : List Inst
  insts = words.insts

  abbrev new : List Inst
  new = changed plan words.insts

  apart : (a b : ℕ) → (a ≡ b → ⊥) → not (a == b) ≡ true
  apart a b differ = by_test (a == b) refl
    where
      by_test : (c : Bool) → a == b ≡ c → not c ≡ true
      by_test true same = absurd (differ (eqb-true a b same))
      by_test false isnt = refl

  differs : (a b : ℕ) → a == b ≡ false → a ≡ b → ⊥
  differs a b isnt same = let e : b == b ≡ false = ap (λ (n : ℕ). n == b) (sym same) ∙ isnt in absurd (own_apart b e)
    where
      own_apart : (n : ℕ) → n == n ≡ false → ⊥
      own_apart n isnt = let e = eq-eqb n n refl in cc

  -- another instruction of the new list uses it
  used_there : (place id : ℕ) (f : SweptFrom words v plan place) → IsUsedBy words v plan f.old id → is_used_elsewhere (changed plan words.insts) place id ≡ true
  used_there place id f u =
      let high = u.high in
      let there = place_left plan insts u.other in
      let within = function_within insts v.derivation u.other high in
      let t = swept_to is_unread words v plan s u.other u.low within u.stays in
      let low = f.low in let other_low = u.low in
      any_function_place new (λ other. not (other == place) && is_among id (ids (inst_at new other))) there t.inside t.within
      (both (not (there == place)) (is_among id (ids (inst_at new there)))
      (apart there place (λ same. differs u.other f.old u.another
      (swept_apart is_unread words v plan s u.other f.old (omega (arith, other_low)) (omega (arith, low)) within f.within u.stays f.stays (same ∙ sym f.there))))
      (ap (λ (i : Inst). is_among id (ids i)) t.same ∙ u.names))

  result_used : (place : ℕ) → v.derivation.before < place → place < length (changed plan words.insts)
      → (is_no_value (inst_at (changed plan words.insts) place).op || is_result_used (changed plan words.insts) place (result (inst_at (changed plan words.insts) place))) ≡ true
  result_used place low within =
      ap (λ (i : Inst). is_no_value i.op || is_result_used new place (result i)) f.same ∙ by_result (result (inst_at insts f.old)) refl
    where
      f : SweptFrom words v plan place
      f = swept_from is_unread words v plan s place low within

      by_what : (id : ℕ) → result (inst_at words.insts f.old) ≡ Some id → GivesWhat (inst_at words.insts f.old) → (is_no_value (inst_at words.insts f.old).op || is_used_elsewhere (changed plan words.insts) place id) ≡ true
      by_what id gives (label is) =
          or_left (is_no_value (inst_at insts f.old).op) (is_used_elsewhere new place id) (or_left ((inst_at insts f.old).op == op.LABEL) ((inst_at insts f.old).op == op.FUNCTION) is)
      by_what id gives (value is) =
          or_right (is_no_value (inst_at insts f.old).op) (is_used_elsewhere new place id)
          (used_there place id f (s.used f.old id f.low (before_end words v f.old id f.within gives) f.stays is gives))

      by_result : (found : Option ℕ) → result (inst_at words.insts f.old) ≡ found → (is_no_value (inst_at words.insts f.old).op || is_result_used (changed plan words.insts) place found) ≡ true
      by_result None gives = or_right (is_no_value (inst_at insts f.old).op) true refl
      by_result (Some id) gives = by_what id gives (gives_what words v f.old id f.low f.within gives)

-- each result of what is swept is used
pub swept_uses : (is_unread : ℕ → Bool) (words : Words) (v : IsValidList words) (plan : Plan) → IsSwept is_unread words v plan → uses_all_results (changed plan words.insts) ≡ true
swept_uses is_unread words v plan s =
    let new = changed plan words.insts in
    all_filtered (λ place. is_no_value (inst_at new place).op || is_result_used new place (result (inst_at new place))) (is_in_function new) 0 (length new)
    (λ place less inside. result_used is_unread words v plan s place (new_behind is_unread words v plan s place inside) (omega (arith, less)))
