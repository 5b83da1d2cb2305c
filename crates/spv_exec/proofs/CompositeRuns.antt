-- What instructions that make composites or take them apart copy, in numbers of words.
use Rattle.std.proofs.Common.{◌≡◌, ℕ, ◌+◌, ◌<◌, ◌≤◌, ◌^◌, ◌==◌, ◌||◌, nat_lt, true, List, ◌++◌, length, map, ap, sym, ◌∙◌, subst, arith, Some}
use Rattle.std.proofs.lemmas.List.{length-map}
use Rattle.std.specs.Prelude.{slice_index}
use Rattle.std.specs.List.{flat_map, list_all}
use Rattle.spirv_model.specs.declared.module.Inst.{Inst}
use Rattle.spirv_model.specs.Operands.{word_at, words_from}
use Rattle.valid_model.specs.Definitions.{definition, inst_at}
use Rattle.valid_model.specs.Meanings.{meaning}
use Rattle.check_model.specs.CompositeOperands.{no_component}
use Rattle.check_model.specs.Typing.{type_id}
use Rattle.stage_model.specs.Value.{Value, Layout, size_of, part_along}
use Rattle.stage_model.specs.Program.{program_of}
use Rattle.frame_model.specs.Frame.{frame_place, frame_words, in_frame}
use Rattle.frame_model.specs.Shown.{words_at}
use Rattle.frame_model.specs.ShownWords.{IsShown, shown_of}
use Rattle.frame_model.specs.Written.{written}
use Rattle.frame_model.proofs.CompositeResults.{ExtractAt, InsertAt, ConstructAt, ShuffleAt, AreBefore}
use Rattle.frame_model.proofs.GivenComposites.{Room}
use Rattle.frame_model.proofs.VectorWords.{picked}
use Rattle.spv_exec.specs.declared.composites.Vectors.{Vectors}
use Rattle.spv_exec.specs.Composites.{picked_of}
use Rattle.spv_exec.proofs.GatheredWords.{same_gathered, shown_front}
use Rattle.spv_exec.proofs.PickedWords.{picked_front}
use Rattle.spv_exec.proofs.SplitWords.{IsSplit, split_lengths}

-- what is asked of an operand: where its value begins, how many words it has, and its type
pub record Asked (insts : List Inst) (id operand : ℕ) : Type 0 where
  pub place : (at : ℕ) → definition insts id ≡ Some at → operand ≡ frame_place (program_of insts) at

pub record Counted (insts : List Inst) (id count : ℕ) : Type 0 where
  pub words : (at : ℕ) → definition insts id ≡ Some at → count ≡ frame_words (program_of insts) (inst_at insts at)

-- where literals lead from an id's type
pub record Started (insts : List Inst) (id type : ℕ) (literals : List ℕ) (start : ℕ) : Type 0 where
  pub own : (t : ℕ) → type_id (meaning insts id) ≡ Some t → type ≡ t
  pub along : (layout part : Layout) (found : ℕ) → (program_of insts).layout type ≡ Some layout → found < 2 ^ 64 → part_along layout literals ≡ Some (found, part) → start ≡ found

started : (insts : List Inst) (id type : ℕ) (literals : List ℕ) (start : ℕ) → Started insts id type literals start → (t : ℕ) (layout part : Layout) (found : ℕ) → type_id (meaning insts id) ≡ Some t → (program_of insts).layout t ≡ Some layout → found < 2 ^ 64
    → part_along layout literals ≡ Some (found, part) → start ≡ found
started insts id type literals start s t layout part found typed known less along = s.along layout part found (ap (program_of insts).layout (s.own t typed) ∙ known) less along

-- ---- OpCompositeExtract

-- so many words are copied from a place in front of the result
pub record Extracts (frame : List ℕ) (from count at : ℕ) (words : List ℕ) : Type 0 where
  pub before : from + count ≤ at
  pub room : at + count ≤ length frame
  pub are : words ≡ words_at frame from count

pub extracts : (insts : List Inst) (frame : List ℕ) (place : ℕ) (value : Value) (inst : Inst) → ExtractAt insts frame place value inst → Room insts frame place value → (id type operand start count at : ℕ) (literals : List ℕ)
    → id ≡ word_at 2 inst → literals ≡ words_from 3 inst → at ≡ frame_place (program_of insts) place → at < 2 ^ 64 → count ≡ frame_words (program_of insts) (inst_at insts place) → Asked insts id operand → Started insts id type literals start
    → Extracts frame (operand + start) count at (in_frame (program_of insts) value)
extracts insts frame place value inst x r id type operand start count at literals id_is literals_is at_is less own_count asked s =
    let fits = x.fits in let before = x.before in let part_count = x.count in let size = r.size in let room = r.fits in
    let operand_is = asked.place x.at (ap (definition insts) id_is ∙ x.defined) in
    let start_is = started insts id type literals start s x.type x.layout x.part x.start (ap (λ (i : ℕ). type_id (meaning insts i)) id_is ∙ x.typed) x.known (omega (arith, less, at_is, fits, before)) (ap (part_along x.layout) literals_is ∙ x.found) in
    let from_is : operand + start ≡ frame_place (program_of insts) x.at + x.start = omega (arith, operand_is, start_is) in
    let count_is : count ≡ size_of x.part = own_count ∙ (sym size ∙ part_count) in
    record {
      before = omega (arith, from_is, count_is, fits, before, at_is);
      room = omega (arith, room, at_is, own_count);
      are = x.are ∙ (ap (λ (n : ℕ). words_at frame n (size_of x.part)) (sym from_is) ∙ ap (words_at frame (operand + start)) (sym count_is));
    }

-- ---- OpCompositeInsert

-- so many words are copied, and others over a part of them
pub record Inserts (frame : List ℕ) (from count other more start at : ℕ) (words : List ℕ) : Type 0 where
  pub before : from + count ≤ at
  pub also : other + more ≤ at
  pub fits : start + more ≤ count
  pub room : at + count ≤ length frame
  pub are : words ≡ written (words_at frame from count) start (words_at frame other more)

pub inserts : (insts : List Inst) (frame : List ℕ) (place : ℕ) (value : Value) (inst : Inst) → InsertAt insts frame place value inst → Room insts frame place value → (object whole type from count other more start at : ℕ) (literals : List ℕ)
    → object ≡ word_at 2 inst → whole ≡ word_at 3 inst → literals ≡ words_from 4 inst → at ≡ frame_place (program_of insts) place → at < 2 ^ 64 → Asked insts whole from → Counted insts whole count → Asked insts object other → Counted insts object more
    → Started insts whole type literals start → Inserts frame from count other more start at (in_frame (program_of insts) value)
inserts insts frame place value inst x r object whole type from count other more start at literals object_is whole_is literals_is at_is less from_asked count_asked other_asked more_asked s =
    let fits = x.fits in let before = x.before in let object_before = x.object_before in let size = r.size in let own = x.count in let room = r.fits in
    let whole_there = ap (definition insts) whole_is ∙ x.defined in let object_there = ap (definition insts) object_is ∙ x.object_defined in
    let from_is = from_asked.place x.at whole_there in let count_is = count_asked.words x.at whole_there in
    let other_is = other_asked.place x.object object_there in let more_is = more_asked.words x.object object_there in
    let start_is = started insts whole type literals start s x.type x.layout x.part x.start (ap (λ (i : ℕ). type_id (meaning insts i)) whole_is ∙ x.typed) x.known (omega (arith, less, at_is, fits, before)) (ap (part_along x.layout) literals_is ∙ x.found) in
    let program = program_of insts in
    record {
      before = omega (arith, from_is, count_is, before, at_is);
      also = omega (arith, other_is, more_is, object_before, at_is);
      fits = omega (arith, fits, start_is, more_is, count_is);
      room = omega (arith, room, at_is, size, own, count_is);
      are = x.are ∙ (ap (λ (n : ℕ). written (words_at frame n (frame_words program (inst_at insts x.at))) x.start (words_at frame (frame_place program x.object) (frame_words program (inst_at insts x.object)))) (sym from_is)
          ∙ (ap (λ (n : ℕ). written (words_at frame from n) x.start (words_at frame (frame_place program x.object) (frame_words program (inst_at insts x.object)))) (sym count_is)
          ∙ (ap (λ (n : ℕ). written (words_at frame from count) n (words_at frame (frame_place program x.object) (frame_words program (inst_at insts x.object)))) (sym start_is)
          ∙ (ap (λ (n : ℕ). written (words_at frame from count) start (words_at frame n (frame_words program (inst_at insts x.object)))) (sym other_is)
          ∙ ap (λ (n : ℕ). written (words_at frame from count) start (words_at frame other n)) (sym more_is)))));
    }

-- ---- OpCompositeConstruct

-- the words of ids are gathered from in front of the result
pub record Gathers (insts : List Inst) (front back ids words : List ℕ) : Type 0 where
  pub fits : length (flat_map (shown_of insts front) ids) ≤ length back
  pub there : (k : ℕ) → k < length ids → IsShown insts front (slice_index ids k)
  pub are : flat_map (shown_of insts front) ids ≡ words

pub gathers : (insts : List Inst) (frame front back : List ℕ) (place : ℕ) (value : Value) (inst : Inst) → ConstructAt insts frame place value inst → Room insts frame place value → (at : ℕ) (ids : List ℕ) → ids ≡ words_from 2 inst
    → at ≡ frame_place (program_of insts) place → IsSplit frame front back at → Gathers insts front back ids (in_frame (program_of insts) value)
gathers insts frame front back place value inst x r at ids ids_are at_is s =
    let l = split_lengths frame front back at s in let f = l.0 in let b = l.1 in
    let size = r.size in let room = r.fits in
    let before : AreBefore insts place ids = subst (AreBefore insts place) (sym ids_are) x.before in
    let are : flat_map (shown_of insts front) ids ≡ in_frame (program_of insts) value =
    ap (λ (l : List ℕ). flat_map (shown_of insts l) ids) s.front_is ∙ (same_gathered insts frame place at ids (sym at_is) s.within before
    ∙ (ap (flat_map (shown_of insts frame)) ids_are ∙ sym x.are)) in
    record {
      fits = (let e = ap length are in omega (arith, e, size, room, b, at_is));
      there = shown_front insts front place ids (sym at_is ∙ sym f) before;
      are = are;
    }

-- ---- OpVectorShuffle

-- there is room for a word for each literal
pub picks_room : (insts : List Inst) (frame front back : List ℕ) (place : ℕ) (value : Value) (inst : Inst) → ShuffleAt insts frame place value inst → Room insts frame place value → (at : ℕ) (literals : List ℕ) → literals ≡ words_from 4 inst
    → at ≡ frame_place (program_of insts) place → IsSplit frame front back at → length literals ≤ length back
picks_room insts frame front back place value inst x r at literals literals_are at_is s =
    let l = split_lengths frame front back at s in let b = l.1 in
    let size = r.size in let room = r.fits in
    let e : length (in_frame (program_of insts) value) ≡ length (words_from 4 inst) = ap length x.are ∙ length-map (words_from 4 inst) _ in let k = ap length literals_are in
    omega (arith, e, k, size, room, b, at_is)

-- the literals pick the words of the result in front of it
pub picks : (insts : List Inst) (frame front back : List ℕ) (place : ℕ) (value : Value) (inst : Inst) → ShuffleAt insts frame place value inst → Room insts frame place value → (first second at : ℕ) (of : Vectors) (literals : List ℕ)
    → first ≡ word_at 2 inst → second ≡ word_at 3 inst → literals ≡ words_from 4 inst → at ≡ frame_place (program_of insts) place → IsSplit frame front back at → Asked insts first of.first → Counted insts first of.count → Asked insts second of.second
    → map (picked_of front of) literals ≡ in_frame (program_of insts) value
picks insts frame front back place value inst x r first second at of literals first_is second_is literals_are at_is s first_asked count_asked second_asked =
    let program = program_of insts in
    let before = x.first_before in let also = x.second_before in
    let first_there = ap (definition insts) first_is ∙ x.first_defined in let second_there = ap (definition insts) second_is ∙ x.second_defined in
    let place_is = first_asked.place x.first first_there in let count_is = count_asked.words x.first first_there in let other_is = second_asked.place x.second second_there in
    let count : ℕ = frame_words program (inst_at insts x.second) in
    let fit : list_all (λ literal. nat_lt literal (of.count + count) || (literal == no_component)) literals ≡ true =
    ap (list_all (λ literal. nat_lt literal (of.count + count) || (literal == no_component))) literals_are ∙ subst (λ (n : ℕ). list_all (λ literal. nat_lt literal (n + count) || (literal == no_component)) (words_from 4 inst) ≡ true) (sym count_is) x.fit in
    let front_picks = picked_front frame at of count literals s.within (omega (arith, place_is, count_is, before, at_is)) (omega (arith, other_is, also, at_is)) fit in
    let vectors : words_at frame of.first of.count ++ words_at frame of.second count ≡ words_at frame (frame_place program x.first) (frame_words program (inst_at insts x.first)) ++ words_at frame (frame_place program x.second) count =
    ap (λ (n : ℕ). words_at frame n of.count ++ words_at frame of.second count) place_is ∙ (ap (λ (n : ℕ). words_at frame (frame_place program x.first) n ++ words_at frame of.second count) count_is
    ∙ ap (λ (n : ℕ). words_at frame (frame_place program x.first) (frame_words program (inst_at insts x.first)) ++ words_at frame n count) other_is) in
    ap (λ (l : List ℕ). map (picked_of l of) literals) s.front_is ∙ (front_picks ∙ (ap (λ (l : List ℕ). map (picked l) literals) vectors
    ∙ (ap (map (picked (words_at frame (frame_place program x.first) (frame_words program (inst_at insts x.first)) ++ words_at frame (frame_place program x.second) count))) literals_are ∙ sym x.are)))
