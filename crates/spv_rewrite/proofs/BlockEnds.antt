-- Where blocks end, one instruction after another.
use Rattle.std.proofs.Common.{◌≡◌, ℕ, suc, ◌+◌, ◌<◌, ◌≤◌, ◌==◌, ◌&&◌, Bool, true, false, if◌then◌else◌, inl, inr, length, take, refl, ap, sym, ◌∙◌, arith, Option, Some}
use Rattle.std.proofs.lemmas.Bool.{cases_lt, eqb-true, eq-eqb}
use Rattle.std.proofs.lemmas.Option.{slice_get-get_or}
use Rattle.basics.proofs.Bools.{first_of_both, second_of_both}
use Rattle.spirv_model.specs.declared.module.Inst.{Inst}
use Rattle.spirv_model.specs.declared.module.Words.{Words}
use Rattle.body_model.specs.Classes.{is_terminator}
use Rattle.valid_model.specs.Definitions.{inst_at, no_instruction}
use Rattle.check_model.specs.Branches.{label_behind}
use Rattle.check_model.specs.Validity.{IsValidList}
use Rattle.typed_model.proofs.BlockLists.{label_behind_next}
use Rattle.typed_model.proofs.LabelsBefore.{one_end, ends_in_function}
use Rattle.id_table.specs.declared.table.IdTable.{IdTable}
use Rattle.id_table.specs.Tables.{at}
use Rattle.spv_rewrite.specs.Ends.{next_label, AreEndsUpTo, AddsEnd}

pub label_next : (words : Words) (place label : ℕ) (inst : Inst) → place < length words.insts → inst ≡ inst_at words.insts place → label ≡ label_behind 0 (take place words.insts)
    → next_label inst label ≡ label_behind 0 (take (place + 1) words.insts)
label_next words place label inst within is so =
    ap (λ (i : Inst). next_label i label) is ∙ ap (next_label (inst_at words.insts place)) so
    ∙ sym (label_behind_next 0 words.insts place (inst_at words.insts place) (slice_get-get_or words.insts place no_instruction within))
    ∙ ap (λ (n : ℕ). label_behind 0 (take n words.insts)) {x = suc place} {y = place + 1} (omega arith)

-- a terminator of the list, in its place
in_function : (words : Words) (v : IsValidList words) (place : ℕ) → place < length words.insts → is_terminator (inst_at words.insts place).op ≡ true → (v.derivation.before + 1 ≤ place) × (place < v.derivation.after)
in_function words v place within is = ends_in_function words v.derivation place (inst_at words.insts place) (slice_get-get_or words.insts place no_instruction within) is

found : (b : Bool) (place : ℕ) (other : Option ℕ) → b ≡ true → (if b then Some place else other) ≡ Some place
found true place other is = refl
found false place other is = cc

both : (a b : Bool) → a ≡ true → b ≡ true → (a && b) ≡ true
both true true is also = refl
both true false is also = cc
both false b is also = cc

-- those before stay, since no other block has their labels
pub ends_more : (words : Words) (v : IsValidList words) (place label : ℕ) (inst : Inst) (old new : IdTable ℕ) → place < length words.insts → inst ≡ inst_at words.insts place
    → label ≡ label_behind 0 (take place words.insts) → AreEndsUpTo place words.insts old → AddsEnd label inst place old new → AreEndsUpTo (place + 1) words.insts new
ends_more words v place label inst old new within same so had adds k less is = elim (cases_lt k place) [
  | inl before ↦ adds (label_behind 0 (take k words.insts)) ∙ by_test before (is_terminator inst.op && (label == label_behind 0 (take k words.insts))) refl
  | inr past ↦
      let e : place ≡ k = omega (arith, past, less) in
      adds (label_behind 0 (take k words.insts))
      ∙ found (is_terminator inst.op && (label == label_behind 0 (take k words.insts))) place (at old (label_behind 0 (take k words.insts)))
      (both (is_terminator inst.op) (label == label_behind 0 (take k words.insts)) (ap (λ (i : Inst). is_terminator i.op) same ∙ (ap (λ (n : ℕ). is_terminator (inst_at words.insts n).op) e ∙ is))
      (eq-eqb label (label_behind 0 (take k words.insts)) (so ∙ ap (λ (n : ℕ). label_behind 0 (take n words.insts)) e)))
      ∙ ap Some e
]
  where
    by_test : k < place → (b : Bool) → (is_terminator inst.op && (label == label_behind 0 (take k words.insts))) ≡ b
        → (if b then Some place else at old (label_behind 0 (take k words.insts))) ≡ Some k
    by_test before true both =
        let ends : is_terminator (inst_at words.insts place).op ≡ true = sym (ap (λ (i : Inst). is_terminator i.op) same) ∙ first_of_both (is_terminator inst.op) (label == label_behind 0 (take k words.insts)) both in
        let equal = eqb-true label (label_behind 0 (take k words.insts)) (second_of_both (is_terminator inst.op) (label == label_behind 0 (take k words.insts)) both) in
        let i = in_function words v k (omega (arith, before, within)) is in
        let j = in_function words v place within ends in
        let e = one_end words v k place i.0 i.1 j.0 j.1 is ends (sym equal ∙ so) in
        absurd (omega (arith, e, before))
    by_test before false isnt = had k before is
