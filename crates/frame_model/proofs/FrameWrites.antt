-- What a frame shows of an operand, and what it shows once a result is written into it.
use Rattle.std.proofs.Common.{◌≡◌, ℕ, zero, suc, ◌+◌, ◌-◌, ◌<◌, ◌≤◌, ◌==◌, Bool, true, false, if◌then◌else◌, List, length, take, refl, ap, sym, ◌∙◌, subst, arith, inl, inr, Option, None, Some}
use Rattle.std.specs.List.{sum_by}
use Rattle.std.proofs.lemmas.Bool.{cases_lt}
use Rattle.std.proofs.lemmas.Bool.Decides.{nat_tests}
use Rattle.std.proofs.lemmas.List.Sums.{sum_by_more}
use Rattle.spirv_model.specs.declared.module.Inst.{Inst}
use Rattle.spirv_model.specs.Operands.{result}
use Rattle.valid_model.specs.Definitions.{has_result, definition, inst_at, no_instruction}
use Rattle.check_model.specs.Typing.{constant_word}
use Rattle.stage_model.specs.Value.{Value}
use Rattle.stage_model.specs.Program.{Program}
use Rattle.stage_model.specs.Start.{Values, with_value}
use Rattle.typed_model.specs.Types.{Suits}
use Rattle.typed_model.proofs.ValidTypes.{defined_within}
use Rattle.typed_model.proofs.TypedSteps.{gives_at}
use Rattle.frame_model.specs.Frame.{frame_words, frame_place, in_frame}
use Rattle.frame_model.specs.Shown.{words_at, IsFrame, StandsAt, Shows}
use Rattle.frame_model.specs.Written.{written}
use Rattle.frame_model.proofs.WrittenWords.{length_written, written_here, written_earlier, written_later}

-- ---- places

-- the words of one more instruction
next_place : (words : Inst → ℕ) (insts : List Inst) (place : ℕ) → place < length insts → sum_by words (take (place + 1) insts) ≡ sum_by words (take place insts) + words (inst_at insts place)
next_place words insts place within = sum_by_more words insts place no_instruction within

further_place : (words : Inst → ℕ) (insts : List Inst) (place more : ℕ) → place + more ≤ length insts → sum_by words (take place insts) ≤ sum_by words (take (place + more) insts)
further_place words insts place zero within = let e : place + 0 ≡ place = omega arith in let s = ap (λ (n : ℕ). sum_by words (take n insts)) e in omega (arith, s)
further_place words insts place (suc more) within =
    let r = further_place words insts place more (omega (arith, within)) in
    let n = next_place words insts (place + more) (omega (arith, within)) in
    let e : place + more + 1 ≡ place + suc more = omega arith in
    let s = ap (λ (n : ℕ). sum_by words (take n insts)) e in
    omega (arith, r, n, s)

later_place : (words : Inst → ℕ) (insts : List Inst) (place later : ℕ) → place ≤ later → later ≤ length insts → sum_by words (take place insts) ≤ sum_by words (take later insts)
later_place words insts place later low within =
    let e : place + (later - place) ≡ later = omega (arith, low) in
    let r = further_place words insts place (later - place) (omega (arith, e, within)) in
    let s = ap (λ (n : ℕ). sum_by words (take n insts)) e in
    omega (arith, r, s)

-- two parts lie apart
pub apart : (words : Inst → ℕ) (insts : List Inst) (place later : ℕ) → place < later → later ≤ length insts → sum_by words (take place insts) + words (inst_at insts place) ≤ sum_by words (take later insts)
apart words insts place later less within =
    let n = next_place words insts place (omega (arith, less, within)) in
    let l = later_place words insts (place + 1) later (omega (arith, less)) within in
    omega (arith, n, l)

-- the results lie one behind the other
pub frame_apart : (program : Program) (place later : ℕ) → place < later → later ≤ length program.insts → frame_place program place + frame_words program (inst_at program.insts place) ≤ frame_place program later
unfolding frame_place
frame_apart program place later less within = apart (frame_words program) program.insts place later less within

-- each lies in the frame
pub frame_room : (program : Program) (place : ℕ) → place < length program.insts → frame_place program place + frame_words program (inst_at program.insts place) ≤ frame_place program (length program.insts)
frame_room program place within = frame_apart program place (length program.insts) within (omega arith)

-- ---- operands

-- the words of an id that has a value
pub record OperandWords (program : Program) (frame : List ℕ) (place : ℕ) (value : Value) : Type 0 where
  pub size : length (in_frame program value) ≡ frame_words program (inst_at program.insts place)
  pub stands : words_at frame (frame_place program place) (frame_words program (inst_at program.insts place)) ≡ in_frame program value
  pub within : place < length program.insts
  pub fits : frame_place program place + length (in_frame program value) ≤ length frame

pub operand_words : (program : Program) (frame : List ℕ) (values : Values) → IsFrame program frame → Shows program frame values → (id place : ℕ) (value : Value) → definition program.insts id ≡ Some place → values id ≡ Some value
    → OperandWords program frame place value
operand_words program frame values is shows id place value defined has =
    let s = shows.stands id place value defined has in
    let within = defined_within program.insts id place defined in
    let room = frame_room program place within in
    record { size = s.size; stands = s.stands; within = within; fits = (let size = s.size in omega (arith, size, room, is)) }

-- ---- a result

pub is_frame_written : (program : Program) (frame : List ℕ) (place : ℕ) (value : Value) → IsFrame program frame → place < length program.insts → length (in_frame program value) ≡ frame_words program (inst_at program.insts place)
    → IsFrame program (written frame (frame_place program place) (in_frame program value))
is_frame_written program frame place value is within size =
    let room = frame_room program place within in
    length_written frame (in_frame program value) (frame_place program place) (omega (arith, size, room, is)) ∙ is

-- ---- values of ids

same : (a b : ℕ) → a == b ≡ true → a ≡ b
same a b is = grind (arith, nat_tests)

differ : (a b : ℕ) → a == b ≡ false → a ≡ b → ⊥
differ a b isnt is = grind (arith, nat_tests)

one_result : (a b : ℕ) (found : Option ℕ) → has_result a found ≡ true → has_result b found ≡ true → a ≡ b
one_result a b None first second = cc
one_result a b (Some own) first second = sym (same own a first) ∙ same own b second

-- an instruction defines one id
pub one_definition : (insts : List Inst) (a b place : ℕ) → definition insts a ≡ Some place → definition insts b ≡ Some place → a ≡ b
one_definition insts a b place first second = one_result a b (result (inst_at insts place)) (gives_at insts a place first) (gives_at insts b place second)

same_some : {A : Type 0} (x y : A) → Some x ≡ Some y → x ≡ y
same_some x y is = cc

-- the result of the instruction at a place is written where it stands
pub record Result (program : Program) (place id : ℕ) (value : Value) : Type 0 where
  pub defined : definition program.insts id ≡ Some place
  pub size : length (in_frame program value) ≡ frame_words program (inst_at program.insts place)
  pub suits : Suits program (constant_word program.insts) id value

stands_here : (program : Program) (frame : List ℕ) (place id : ℕ) (value : Value) → IsFrame program frame → Result program place id value → StandsAt program (written frame (frame_place program place) (in_frame program value)) place value
stands_here program frame place id value is r =
    let within = defined_within program.insts id place r.defined in
    let room = frame_room program place within in let size = r.size in
    record {
      size = r.size;
      stands = subst (λ (n : ℕ). words_at (written frame (frame_place program place) (in_frame program value)) (frame_place program place) n ≡ in_frame program value) r.size
          (written_here frame (in_frame program value) (frame_place program place) (omega (arith, size, room, is)));
    }

-- the value of another place stays
stands_there : (program : Program) (frame : List ℕ) (place id other : ℕ) (value own : Value) → IsFrame program frame → Result program place id value → (other ≡ place → ⊥) → other < length program.insts → StandsAt program frame other own
    → StandsAt program (written frame (frame_place program place) (in_frame program value)) other own
stands_there program frame place id other value own is r apart_from within_other stands =
    let within = defined_within program.insts id place r.defined in
    let room = frame_room program place within in let room_other = frame_room program other within_other in let size = r.size in
    let kept : words_at (written frame (frame_place program place) (in_frame program value)) (frame_place program other) (frame_words program (inst_at program.insts other)) ≡ words_at frame (frame_place program other) (frame_words program (inst_at program.insts other)) =
    elim (cases_lt other place) [
      | inl early ↦
          let before = frame_apart program other place early (omega (arith, within)) in
          written_earlier frame (in_frame program value) (frame_place program place) (frame_place program other) (frame_words program (inst_at program.insts other)) (omega (arith, size, room, is)) before
      | inr late ↦
          let less : place < other = omega (arith, late, apart_from) in
          let behind = frame_apart program place other less (omega (arith, within_other)) in
          written_later frame (in_frame program value) (frame_place program place) (frame_place program other) (frame_words program (inst_at program.insts other)) (omega (arith, size, room, is)) (omega (arith, size, behind)) (omega (arith, room_other, is))
    ] in
    record { size = stands.size; stands = kept ∙ stands.stands }

pub shows_written : (program : Program) (frame : List ℕ) (values : Values) (place id : ℕ) (value : Value) → IsFrame program frame → Shows program frame values → Result program place id value
    → Shows program (written frame (frame_place program place) (in_frame program value)) (with_value id (Some value) values)
shows_written program frame values place id value is shows r = record {
  suits = λ other own has. by_suits other own (other == id) refl has;
  stands = λ other at own defined has. by_stands other at own (other == id) refl defined has;
}
  where
    by_suits : (other : ℕ) (own : Value) (b : Bool) → (other == id) ≡ b → (if b then Some value else values other) ≡ Some own → Suits program (constant_word program.insts) other own
    by_suits other own true same_id has =
        subst (λ (v : Value). Suits program (constant_word program.insts) other v) (same_some value own has) (subst (λ (i : ℕ). Suits program (constant_word program.insts) i value) (sym (same other id same_id)) r.suits)
    by_suits other own false other_id has = shows.suits other own has

    by_stands : (other at : ℕ) (own : Value) (b : Bool) → (other == id) ≡ b → definition program.insts other ≡ Some at → (if b then Some value else values other) ≡ Some own
        → StandsAt program (written frame (frame_place program place) (in_frame program value)) at own
    by_stands other at own true same_id defined has =
        let e : at ≡ place = same_some at place (sym defined ∙ (ap (definition program.insts) (same other id same_id) ∙ r.defined)) in
        subst (λ (v : Value). StandsAt program (written frame (frame_place program place) (in_frame program value)) at v) (same_some value own has)
        (subst (λ (n : ℕ). StandsAt program (written frame (frame_place program place) (in_frame program value)) n value) (sym e) (stands_here program frame place id value is r))
    by_stands other at own false other_id defined has =
        stands_there program frame place id at value own is r
        (λ same_place. differ other id other_id (one_definition program.insts other id place (defined ∙ ap (λ (n : ℕ). Some n) same_place) r.defined))
        (defined_within program.insts other at defined) (shows.stands other at own defined has)
