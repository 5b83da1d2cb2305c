-- A derivation's code fits its scope.
use Rattle.std.proofs.Common.{◌≡◌, ℕ, ◌+◌, ◌<◌, List, [], ◌++◌, length, Option, ap, subst, sym, ◌∙◌, arith}
use Rattle.spirv_model.specs.declared.module.Inst.{Inst}
use Rattle.body_model.specs.declared.block_end.BlockEnd.TheVariants.{Ends, GoesOn, Selects, Picks, Loops}
use Rattle.body_model.specs.declared.block_end.SequenceEnd.{SequenceEnd}
use Rattle.body_model.specs.declared.block_end.SelectionHead.{SelectionHead}
use Rattle.body_model.specs.declared.block_end.SwitchHead.{SwitchHead}
use Rattle.body_model.specs.declared.block_end.LoopHead.{LoopHead}
use Rattle.body_model.specs.Scope.{Scope}
use Rattle.body_model.specs.Blocks.{block_from, block_end}
use Rattle.body_model.specs.Switches.{arm_labels, cases_of, labels_of}
use Rattle.body_model.specs.Grammar.{Sequence, ends, goes_on, selects, picks, loops, Arm, straight, through, Arms, no_arm, arm_behind}
use Rattle.body_model.specs.Code.{Code, CodeArms, printed, slice, code_of, code_of_arm, code_of_arms}
use Rattle.body_model.specs.Code as code
use Rattle.body_model.specs.Fitting.{EndsAs, Fits, FitsArm, FitsArms, last_words}
use Rattle.body_model.specs.Fitting as fitting
use Rattle.body_model.proofs.Forward.{sound_at, forward}
use Rattle.body_model.proofs.BlockCuts.{begun_slice, has_label, end_of_cut, whole_length, last_words_of, last_labels_of}
use Rattle.body_model.proofs.Listings.{listed}

from_zero : (n : ℕ) → 0 + n ≡ n
from_zero n = omega arith

ends_as : (insts : List Inst) (scope : Scope) (from : ℕ) (last : SequenceEnd) → block_end insts scope from ≡ Ends last → (rest : List Inst)
    → EndsAs scope (slice insts from last.after) rest (Ends (record last { after = length (slice insts from last.after) }))
ends_as insts scope from last is rest =
    let at = (sound_at insts scope from (Ends last) is).0 in
    end_of_cut insts scope from last.after (Ends last) is at.forward at.within rest 0 (whole_length insts from last.after at.forward at.within)
    ∙ ap (λ (n : ℕ). Ends (record last { after = n })) (from_zero (length (slice insts from last.after)))

goes_on_as : (insts : List Inst) (scope : Scope) (from after to : ℕ) (printed : List Inst) → block_end insts scope from ≡ GoesOn after → after < to → printed ≡ slice insts after to → (rest : List Inst)
    → EndsAs scope (slice insts from after) (printed ++ rest) (GoesOn (length (slice insts from after)))
goes_on_as insts scope from after to printed is more prints rest =
    let at = sound_at insts scope from (GoesOn after) is in
    ap (λ (l : List Inst). block_from scope (slice insts from after ++ (l ++ rest)) 0) prints
    ∙ end_of_cut insts scope from after (GoesOn after) is at.forward at.within (slice insts after to ++ rest) 0 (whole_length insts from after at.forward at.within) (begun_slice insts after to rest more)
    ∙ ap GoesOn (from_zero (length (slice insts from after)))

selects_as : (insts : List Inst) (scope : Scope) (from : ℕ) (head : SelectionHead) → block_end insts scope from ≡ Selects head → (rest : List Inst)
    → EndsAs scope (slice insts from head.after) rest (Selects (record head { after = length (slice insts from head.after) }))
selects_as insts scope from head is rest =
    let at = (sound_at insts scope from (Selects head) is).0 in
    end_of_cut insts scope from head.after (Selects head) is at.forward at.within rest 0 (whole_length insts from head.after at.forward at.within)
    ∙ ap (λ (n : ℕ). Selects (record head { after = n })) (from_zero (length (slice insts from head.after)))

picks_as : (insts : List Inst) (scope : Scope) (from : ℕ) (head : SwitchHead) → block_end insts scope from ≡ Picks head → (rest : List Inst)
    → EndsAs scope (slice insts from head.after) rest (Picks (record head { after = length (slice insts from head.after) }))
picks_as insts scope from head is rest =
    let at = (sound_at insts scope from (Picks head) is).0 in
    end_of_cut insts scope from head.after (Picks head) is at.forward at.within rest 0 (whole_length insts from head.after at.forward at.within)
    ∙ ap (λ (n : ℕ). Picks (record head { after = n })) (from_zero (length (slice insts from head.after)))

loops_as : (insts : List Inst) (scope : Scope) (from : ℕ) (head : LoopHead) → block_end insts scope from ≡ Loops head → (rest : List Inst)
    → EndsAs scope (slice insts from head.after) rest (Loops (record head { after = length (slice insts from head.after) }))
loops_as insts scope from head is rest =
    let at = (sound_at insts scope from (Loops head) is).0 in
    end_of_cut insts scope from head.after (Loops head) is at.forward at.within rest 0 (whole_length insts from head.after at.forward at.within)
    ∙ ap (λ (n : ℕ). Loops (record head { after = n })) (from_zero (length (slice insts from head.after)))

-- the arms as the block's own words say
own_arms : (scope : Scope) (merge : ℕ) (labels own : List ℕ) (arms : CodeArms) → own ≡ labels → FitsArms scope merge labels labels arms [] → FitsArms scope merge own own arms []
own_arms scope merge labels own arms same fits = subst (λ (l : List ℕ). FitsArms scope merge l l arms []) (sym same) fits

mutual
  pub fits : (insts : List Inst) {scope : Scope} {wanted next : Option ℕ} {from to : ℕ} (d : Sequence insts scope wanted from to next) → Fits scope wanted (code_of d) next
  fits insts {scope = scope} {wanted = wanted} {from = from} (ends last here is label_is place_is) =
      let at = (sound_at insts scope from (Ends last) is).0 in
      subst (Fits scope wanted (code.Ends (slice insts from last.after) last.end)) label_is
      (fitting.ends (has_label insts wanted from last.after here at.forward) (ends_as insts scope from last is))
  fits insts {scope = scope} {wanted = wanted} {from = from} {to = to} (goes_on after here is rest) =
      let at = sound_at insts scope from (GoesOn after) is in
      fitting.goes_on (has_label insts wanted from after here at.forward) (goes_on_as insts scope from after to (printed (code_of rest)) is (forward insts rest).forward (listed insts rest)) (fits insts rest)
  fits insts {scope = scope} {wanted = wanted} {from = from} (selects head second join here is on_true on_false rest) =
      let at = (sound_at insts scope from (Selects head) is).0 in
      fitting.selects (has_label insts wanted from head.after here at.forward) (selects_as insts scope from head is) (fits_arm insts on_true) (fits_arm insts on_false) (fits insts rest)
  fits insts {scope = scope} {wanted = wanted} {from = from} (picks head join here is arms rest) =
      let at = (sound_at insts scope from (Picks head) is).0 in
      fitting.picks (has_label insts wanted from head.after here at.forward) (picks_as insts scope from head is)
      (ap cases_of (last_words_of insts from head at.forward at.within))
      (own_arms scope head.merge (labels_of insts head) (arm_labels head.merge (last_words (slice insts from head.after))) (code_of_arms arms) (last_labels_of insts from head at.forward at.within) (fits_arms insts arms))
      (fits insts rest)
  fits insts {scope = scope} {wanted = wanted} {from = from} (loops head inner first second third here is tested inside step rest) =
      let at = (sound_at insts scope from (Loops head) is).0 in
      fitting.loops (has_label insts wanted from head.after here at.forward) (loops_as insts scope from head is) (fits insts tested) (fits insts inside) (fits insts step) (fits insts rest)

  pub fits_arm : (insts : List Inst) {scope : Scope} {merge target from to : ℕ} (d : Arm insts scope merge target from to) → FitsArm scope merge target (code_of_arm d)
  fits_arm insts (straight is none) = fitting.straight is
  fits_arm insts (through isnt sequence) = fitting.through isnt (fits insts sequence)

  pub fits_arms : (insts : List Inst) {scope : Scope} {merge : ℕ} {all due left : List ℕ} {from to : ℕ} (d : Arms insts scope merge all due from left to) → FitsArms scope merge all due (code_of_arms d) left
  fits_arms insts (no_arm is none) = fitting.no_arm is
  fits_arms insts (arm_behind label between before arms among is sequence) = fitting.arm_behind label before (fits_arms insts arms) among is (fits insts sequence)
