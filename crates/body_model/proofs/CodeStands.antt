-- Code that fits a scope is a sequence wherever it is printed, if no label stands twice; and the sequence's code is the code itself.
use Rattle.std.proofs.Common.{◌≡◌, ℕ, ◌+◌, false, List, [], ◌++◌, length, Option, refl, ap, subst, sym, ◌∙◌, arith}
use Rattle.std.proofs.lemmas.List.{drop_at}
use Rattle.spirv_model.specs.declared.module.Inst.{Inst}
use Rattle.body_model.specs.Scope.{Scope}
use Rattle.body_model.specs.Switches.{repeat, arm_labels, cases_of, labels_of}
use Rattle.body_model.specs.Grammar.{Sequence, Arm, Arms}
use Rattle.body_model.specs.Grammar as grammar
use Rattle.body_model.specs.Code.{Code, CodeArm, Through, CodeArms, printed, printed_arm, printed_arms, code_of, code_of_arm, code_of_arms}
use Rattle.body_model.specs.Fitting.{Fits, ends, goes_on, selects, picks, loops, FitsArm, straight, through, FitsArms, no_arm, arm_behind, last_words, labels}
use Rattle.body_model.proofs.SameCode.{same_ends, same_goes, same_selects, same_picks, same_loops, same_behind}
use Rattle.body_model.proofs.Printed.{Printed, first_part, second_part, nothing_printed, slice_is, due_printed, some_block, end_printed, words_printed, labels_printed}

pub record IsSequence (insts : List Inst) (scope : Scope) (wanted : Option ℕ) (from to : ℕ) (next : Option ℕ) (code : Code) : Type 0 where
  pub sequence : Sequence insts scope wanted from to next
  pub same : code_of sequence ≡ code

pub record IsArm (insts : List Inst) (scope : Scope) (merge target from to : ℕ) (code : CodeArm) : Type 0 where
  pub arm : Arm insts scope merge target from to
  pub same : code_of_arm arm ≡ code

pub record AreArms (insts : List Inst) (scope : Scope) (merge : ℕ) (all due : List ℕ) (from : ℕ) (left : List ℕ) (to : ℕ) (code : CodeArms) : Type 0 where
  pub arms : Arms insts scope merge all due from left to
  pub same : code_of_arms arms ≡ code

from_zero : (n : ℕ) → n ≡ 0 + n
from_zero n = omega arith

own_arms : (insts : List Inst) (scope : Scope) (merge : ℕ) (own labels : List ℕ) (from to : ℕ) (arms : CodeArms) → labels ≡ own → AreArms insts scope merge own own from [] to arms
    → AreArms insts scope merge labels labels from [] to arms
own_arms insts scope merge own labels from to arms same are = subst (λ (l : List ℕ). AreArms insts scope merge l l from [] to arms) (sym same) are

mutual
  pub stands : (insts : List Inst) → repeat (labels insts) ≡ false → {scope : Scope} {wanted next : Option ℕ} {code : Code} → Fits scope wanted code next → (from to : ℕ) → Printed insts (printed code) from to
      → IsSequence insts scope wanted from to next code
  stands insts differ {scope = scope} {wanted = wanted} (ends {next = next} {block = block} {end = end} label ended) from to p =
      let is = end_printed insts scope block from to _ (some_block wanted block label) p (ended p.rest) (from_zero (length block)) in
      record {
        sequence = grammar.ends (record { end = end; next = next; after = from + length block }) (due_printed insts wanted block from to differ label p) is refl (sym p.to_is);
        same = same_ends _ block end (slice_is insts block from to p);
      }
  stands insts differ {scope = scope} {wanted = wanted} (goes_on {block = block} {code = code} label ended fits) from to p =
      let here = first_part insts block (printed code) from to p in
      let rest = stands insts differ fits (from + length block) to (second_part insts block (printed code) from to p) in
      let is = end_printed insts scope block from (from + length block) _ (some_block wanted block label) here (ended p.rest) (from_zero (length block)) (λ other begins. begins) in
      record {
        sequence = grammar.goes_on (from + length block) (due_printed insts wanted block from (from + length block) differ label here) is rest.sequence;
        same = same_goes _ block _ code (slice_is insts block from (from + length block) here) rest.same;
      }
  stands insts differ {scope = scope} {wanted = wanted}
      (selects {block = block} {cond = cond} {merge = merge} {on_true = on_true} {on_false = on_false} {if_true = if_true} {if_false = if_false} {code = code} label ended taken left fits) from to p =
      let here = first_part insts block (printed_arm if_true ++ (printed_arm if_false ++ printed code)) from to p in
      let behind = second_part insts block (printed_arm if_true ++ (printed_arm if_false ++ printed code)) from to p in
      let after = from + length block in
      let second = after + length (printed_arm if_true) in
      let join = second + length (printed_arm if_false) in
      let more = second_part insts (printed_arm if_true) (printed_arm if_false ++ printed code) after to behind in
      let one = arm_stands insts differ taken after second (first_part insts (printed_arm if_true) (printed_arm if_false ++ printed code) after to behind) in
      let two = arm_stands insts differ left second join (first_part insts (printed_arm if_false) (printed code) second to more) in
      let rest = stands insts differ fits join to (second_part insts (printed_arm if_false) (printed code) second to more) in
      let is = end_printed insts scope block from after _ (some_block wanted block label) here (ended here.rest) (from_zero (length block)) in
      record {
        sequence = grammar.selects (record { cond = cond; merge = merge; on_true = on_true; on_false = on_false; after = after }) second join (due_printed insts wanted block from after differ label here) is one.arm two.arm
            rest.sequence;
        same = same_selects _ block cond merge on_true on_false _ if_true _ if_false _ code (slice_is insts block from after here) one.same two.same rest.same;
      }
  stands insts differ {scope = scope} {wanted = wanted} (picks {block = block} {selector = selector} {merge = merge} {default = default} {cases = cases} {arms = arms} {code = code} label ended cases_are fits_arms fits) from to p =
      let here = first_part insts block (printed_arms arms ++ printed code) from to p in
      let behind = second_part insts block (printed_arms arms ++ printed code) from to p in
      let after = from + length block in
      let join = after + length (printed_arms arms) in
      let some = some_block wanted block label in
      let all = own_arms insts scope merge (arm_labels merge (last_words block)) (labels_of insts (record { selector = selector; merge = merge; default = default; after = after })) after join arms
      (labels_printed insts block from after selector merge default some here) (arms_stand insts differ fits_arms after join (first_part insts (printed_arms arms) (printed code) after to behind)) in
      let rest = stands insts differ fits join to (second_part insts (printed_arms arms) (printed code) after to behind) in
      let is = end_printed insts scope block from after _ some here (ended here.rest) (from_zero (length block)) in
      record {
        sequence = grammar.picks (record { selector = selector; merge = merge; default = default; after = after }) join (due_printed insts wanted block from after differ label here) is all.arms rest.sequence;
        same = same_picks _ block selector merge default _ cases _ arms _ code (slice_is insts block from after here)
            (ap cases_of (words_printed insts block from after selector merge default some here) ∙ cases_are) all.same rest.same;
      }
  stands insts differ {scope = scope} {wanted = wanted}
      (loops {block = block} {header = header} {merge = merge} {continue = continue} {test = test} {inner_label = inner_label} {condition = condition} {inner = inner} {step = step} {code = code} label ended tested inside stepped fits) from to p =
      let here = first_part insts block (printed condition ++ (printed inner ++ (printed step ++ printed code))) from to p in
      let behind = second_part insts block (printed condition ++ (printed inner ++ (printed step ++ printed code))) from to p in
      let after = from + length block in
      let first = after + length (printed condition) in
      let second = first + length (printed inner) in
      let third = second + length (printed step) in
      let past_test = second_part insts (printed condition) (printed inner ++ (printed step ++ printed code)) after to behind in
      let past_body = second_part insts (printed inner) (printed step ++ printed code) first to past_test in
      let one = stands insts differ tested after first (first_part insts (printed condition) (printed inner ++ (printed step ++ printed code)) after to behind) in
      let two = stands insts differ inside first second (first_part insts (printed inner) (printed step ++ printed code) first to past_test) in
      let three = stands insts differ stepped second third (first_part insts (printed step) (printed code) second to past_body) in
      let rest = stands insts differ fits third to (second_part insts (printed step) (printed code) second to past_body) in
      let is = end_printed insts scope block from after _ (some_block wanted block label) here (ended here.rest) (from_zero (length block)) in
      record {
        sequence = grammar.loops (record { header = header; merge = merge; next = continue; test = test; after = after }) inner_label first second third (due_printed insts wanted block from after differ label here) is one.sequence
            two.sequence three.sequence rest.sequence;
        same = same_loops _ block merge continue test _ condition _ inner _ step _ code (slice_is insts block from after here) one.same two.same three.same rest.same;
      }

  pub arm_stands : (insts : List Inst) → repeat (labels insts) ≡ false → {scope : Scope} {merge target : ℕ} {code : CodeArm} → FitsArm scope merge target code → (from to : ℕ) → Printed insts (printed_arm code) from to
      → IsArm insts scope merge target from to code
  arm_stands insts differ (straight is) from to p = record { arm = grammar.straight is (nothing_printed insts from to p); same = refl }
  arm_stands insts differ (through isnt fits) from to p = let s = stands insts differ fits from to p in record { arm = grammar.through isnt s.sequence; same = ap Through s.same }

  pub arms_stand : (insts : List Inst) → repeat (labels insts) ≡ false → {scope : Scope} {merge : ℕ} {all due left : List ℕ} {code : CodeArms} → FitsArms scope merge all due code left → (from to : ℕ)
      → Printed insts (printed_arms code) from to → AreArms insts scope merge all due from left to code
  arms_stand insts differ (no_arm is) from to p = record { arms = grammar.no_arm is (nothing_printed insts from to p); same = refl }
  arms_stand insts differ (arm_behind {arms = arms} {code = code} label before fits_arms among is fits) from to p =
      let between = from + length (printed_arms arms) in
      let some = arms_stand insts differ fits_arms from between (first_part insts (printed_arms arms) (printed code) from to p) in
      let s = stands insts differ fits between to (second_part insts (printed_arms arms) (printed code) from to p) in
      record { arms = grammar.arm_behind label between before some.arms among is s.sequence; same = same_behind _ arms label _ code some.same s.same }

-- code that fits is a sequence between any instructions, if no label stands twice
pub code_stands : (before behind : List Inst) (scope : Scope) (wanted next : Option ℕ) (code : Code) → Fits scope wanted code next → repeat (labels (before ++ (printed code ++ behind))) ≡ false
    → IsSequence (before ++ (printed code ++ behind)) scope wanted (length before) (length before + length (printed code)) next code
code_stands before behind scope wanted next code fits differ =
    stands (before ++ (printed code ++ behind)) differ fits (length before) (length before + length (printed code))
    (record { rest = behind; is = drop_at before (printed code ++ behind) (length before) refl; to_is = refl })
