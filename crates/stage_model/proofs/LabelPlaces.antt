-- A label stands where its block is due.
use Rattle.std.proofs.Common.{◌≡◌, ℕ, zero, suc, ◌+◌, ◌==◌, ◌&&◌, ◌||◌, Bool, true, false, if◌then◌else◌, List, [], ◌∷◌, take, drop, slice_index, refl, ap, sym, ◌∙◌, arith, Option, None, Some}
use Rattle.std.specs.Option.{option_map}
use Rattle.std.proofs.lemmas.Bool.Decides.{nat_tests}
use Rattle.spirv_model.specs.declared.module.Inst.{Inst}
use Rattle.spirv_model.specs.declared.op.TheConstants.{LABEL}
use Rattle.body_model.specs.Due.{has_label, only, IsDue}
use Rattle.body_model.specs.Switches.{is_among}
use Rattle.body_model.proofs.Dues.{stands_at}
use Rattle.stage_model.specs.Program.{is_label, first_label_place, program_of}
use Rattle.stage_model.proofs.Jumps.{HasPlaces}

not_first : (a b : Bool) → (a || b) ≡ false → (a ≡ false) × (b ≡ false)
not_first true b is = cc
not_first false b is = (refl, is)

same_front : (a b : Inst) (xs ys : List Inst) → a ∷ xs ≡ b ∷ ys → a ≡ b
same_front a b xs ys is = cc

placed : (label : ℕ) (insts : List Inst) (place : ℕ) (inst : Inst) (more : List Inst) → drop place insts ≡ inst ∷ more → is_label label inst ≡ true → has_label (take place insts) label ≡ false
    → first_label_place insts label ≡ Some place
unfolding first_label_place
placed label [] zero inst more at is new = cc
placed label [] (suc place) inst more at is new = cc
placed label (first ∷ insts) zero inst more at is new =
    ap (λ (b : Bool). if b then Some 0 else option_map (λ place. suc place) (first_label_place insts label)) (ap (is_label label) (same_front first inst insts more at) ∙ is)
placed label (first ∷ insts) (suc place) inst more at is new =
    let differs = not_first (is_label label first) (has_label (take place insts) label) new in
    ap (λ (b : Bool). if b then Some 0 else option_map (λ place. suc place) (first_label_place insts label)) differs.0
    ∙ ap (option_map (λ place. suc place)) (placed label insts place inst more at is differs.1)

both_true : (a b : Bool) → a ≡ true → b ≡ true → (a && b) ≡ true
both_true true b is also = also
both_true false b is also = cc

among_one : (label other : ℕ) → is_among label (other ∷ []) ≡ true → other ≡ label
among_one label other is = by_test label other (other == label) refl is
  where
    by_test : (label other : ℕ) (b : Bool) → b ≡ (other == label) → (b || false) ≡ true → other ≡ label
    by_test label other true equal is = grind (arith, nat_tests)
    by_test label other false equal is = cc

own_label_is : (label own : ℕ) → own ≡ label → own == label ≡ true
own_label_is label own is = grind (arith, nat_tests)

pub label_places : (insts : List Inst) → HasPlaces insts (program_of insts)
unfolding program_of
label_places insts label place due =
    let s = stands_at insts (only (Some label)) place due in
    let named : slice_index s.inst.words 0 ≡ label = sym (among_one (slice_index s.inst.words 0) label s.among) in
    placed label insts place s.inst s.more s.front (both_true _ _ s.label (own_label_is label (slice_index s.inst.words 0) named))
    (ap (has_label (take place insts)) (sym named) ∙ s.new)
