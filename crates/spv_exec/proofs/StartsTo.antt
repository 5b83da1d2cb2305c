-- The starts of members that are put into a list one behind another.
use Rattle.std.proofs.Common.{◌≡◌, ℕ, ◌+◌, ◌*◌, ◌<◌, ◌≤◌, ◌==◌, inl, inr, Bool, true, false, if◌then◌else◌, List, [], ◌∷◌, ◌++◌, length, take, get_or, slice_index, refl, ap, ◌∙◌, subst, arith, length-append, length-drop}
use Rattle.std.specs.List.{sum_by}
use Rattle.std.proofs.Math.ListN.{get_or-append}
use Rattle.std.proofs.Math.Seq.{get_or-append_seam}
use Rattle.std.proofs.lemmas.Bool.{cases_lt}
use Rattle.std.proofs.lemmas.List.Sums.{sum_by_more, sum_by_more_le, sum_by-take-le}
use Rattle.limits.specs.declared.TheConstants.{TYPE_WORDS, MODULE_WORDS}
use Rattle.spirv_model.specs.declared.module.Inst.{Inst}
use Rattle.spirv_model.specs.declared.module.Words.{Words}
use Rattle.spirv_model.specs.declared.op.TheConstants.{TYPE_STRUCT}
use Rattle.spirv_model.specs.Operands.{words_from}
use Rattle.valid_model.specs.Definitions.{inst_at, no_instruction}
use Rattle.check_model.specs.Validity.{IsValidList}
use Rattle.stage_model.specs.Program.{Program, program_of}
use Rattle.stage_model.specs.Stage.{size_in}
use Rattle.frame_model.proofs.FrameLimits.{words_few}
use Rattle.spv_exec.specs.ModuleFrames.{members_in, words_before, AddsStarts, AreMemberStarts}

-- ---- of one structure

-- so many starts of members were put behind others, and the next member begins here
pub record MembersTo (program : Program) (members old now : List ℕ) (start index : ℕ) : Type 0 where
  pub count : length now ≡ length old + index
  pub is : start ≡ words_before program members index
  pub few : start ≤ index * TYPE_WORDS
  pub kept : (k : ℕ) → k < length old → slice_index now k ≡ slice_index old k
  pub are : (k : ℕ) → k < index → slice_index now (length old + k) ≡ words_before program members k

pub members_first : (program : Program) (members old : List ℕ) → MembersTo program members old old 0 0
members_first program members old = record { count = omega arith; is = refl; few = omega arith; kept = λ k less. refl; are = λ k less. absurd (omega (arith, less)) }

pub members_next : (program : Program) (members old now : List ℕ) (start index member size : ℕ) → index < length members → member ≡ get_or members index member → size ≡ size_in (program.layout member) → size ≤ TYPE_WORDS
    → MembersTo program members old now start index → MembersTo program members old (now ++ start ∷ []) (start + size) (index + 1)
members_next program members old now start index member size within there is small to = record {
  count = let e = length-append now (start ∷ []) in let c = to.count in omega (arith, e, c);
  is =
      let e = sum_by_more (λ (id : ℕ). size_in (program.layout id)) members index member within in
      let f = to.is in
      let g : size ≡ size_in (program.layout (get_or members index member)) = is ∙ ap (λ (id : ℕ). size_in (program.layout id)) there in
      omega (arith, e, f, g);
  few = let f = to.few in omega (arith, f, small);
  kept = λ k less. get_or-append now (start ∷ []) 0 k (let c = to.count in omega (arith, c, less)) ∙ to.kept k less;
  are = λ k less.
      elim (cases_lt k index) [
        | inl low ↦ get_or-append now (start ∷ []) 0 (length old + k) (let c = to.count in omega (arith, c, low)) ∙ to.are k low
        | inr high ↦
            let e : length old + k ≡ length now = let c = to.count in omega (arith, c, high, less) in
            let f : index ≡ k = omega (arith, high, less) in
            ap (slice_index (now ++ start ∷ [])) e ∙ (get_or-append_seam now start [] 0 ∙ (to.is ∙ ap (words_before program members) f))
      ];
}

pub members_all : (program : Program) (members old now : List ℕ) (start index : ℕ) → index ≡ length members → MembersTo program members old now start index → AddsStarts program members old now
members_all program members old now start index all to = record {
  count = let c = to.count in omega (arith, c, all);
  kept = to.kept;
  are = λ k less. to.are k (omega (arith, less, all));
}

pub adds_nothing : (program : Program) (old : List ℕ) → AddsStarts program [] old old
adds_nothing program old = record { count = omega arith; kept = λ k less. refl; are = λ k less. absurd (omega (arith, less)) }

-- ---- of all structures

-- of the instructions in front of a place
pub record StartsTo (program : Program) (firsts starts : List ℕ) (place : ℕ) : Type 0 where
  pub count : length firsts ≡ place
  pub few : length starts ≤ sum_by (λ (inst : Inst). length inst.words) (take place program.insts)
  pub within : (k : ℕ) → k < place → slice_index firsts k + length (members_in (inst_at program.insts k)) ≤ length starts
  pub are : (k index : ℕ) → k < place → index < length (members_in (inst_at program.insts k))
      → slice_index starts (slice_index firsts k + index) ≡ words_before program (members_in (inst_at program.insts k)) index

fewer_members : (inst : Inst) → length (members_in inst) ≤ length inst.words
fewer_members inst = by_test inst (inst.op == TYPE_STRUCT)
  where
    by_test : (inst : Inst) (b : Bool) → length (if b then words_from 1 inst else []) ≤ length inst.words
    by_test inst true = let e = length-drop 1 inst.words in omega (arith, e)
    by_test inst false = omega arith

pub starts_first : (program : Program) → StartsTo program [] [] 0
starts_first program = record { count = refl; few = omega arith; within = λ k less. absurd (omega (arith, less)); are = λ k index less. absurd (omega (arith, less)) }

step : (program : Program) (firsts starts more : List ℕ) (place : ℕ) → place < length program.insts → AddsStarts program (members_in (inst_at program.insts place)) starts more → StartsTo program firsts starts place
    → StartsTo program (firsts ++ length starts ∷ []) more (place + 1)
step program firsts starts more place inside adds to = record {
  count = let e = length-append firsts (length starts ∷ []) in let c = to.count in omega (arith, e, c);
  few =
      let e = sum_by_more (λ (inst : Inst). length inst.words) program.insts place no_instruction inside in
      let f = to.few in let c = adds.count in let l = fewer_members (inst_at program.insts place) in
      omega (arith, e, f, c, l);
  within = λ k less.
      elim (cases_lt k place) [
        | inl low ↦
            let same = get_or-append firsts (length starts ∷ []) 0 k (let c = to.count in omega (arith, c, low)) in
            let w = to.within k low in let c = adds.count in
            omega (arith, same, w, c)
        | inr high ↦
            let f : k ≡ length firsts = let c = to.count in omega (arith, c, high, less) in
            let same : slice_index (firsts ++ length starts ∷ []) k ≡ length starts = ap (slice_index (firsts ++ length starts ∷ [])) f ∙ get_or-append_seam firsts (length starts) [] 0 in
            let g : place ≡ k = omega (arith, high, less) in
            let c : length more ≡ length starts + length (members_in (inst_at program.insts k)) = adds.count ∙ ap (λ (n : ℕ). length starts + length (members_in (inst_at program.insts n))) g in
            omega (arith, same, c)
      ];
  are = λ k index less inside.
      elim (cases_lt k place) [
        | inl low ↦
            let same = get_or-append firsts (length starts ∷ []) 0 k (let c = to.count in omega (arith, c, low)) in
            let w = to.within k low in
            ap (λ (n : ℕ). slice_index more (n + index)) same ∙ (adds.kept (slice_index firsts k + index) (omega (arith, w, inside)) ∙ to.are k index low inside)
        | inr high ↦
            let f : k ≡ length firsts = let c = to.count in omega (arith, c, high, less) in
            let same : slice_index (firsts ++ length starts ∷ []) k ≡ length starts = ap (slice_index (firsts ++ length starts ∷ [])) f ∙ get_or-append_seam firsts (length starts) [] 0 in
            let g : place ≡ k = omega (arith, high, less) in
            let a = subst (λ (n : ℕ). (i : ℕ) → i < length (members_in (inst_at program.insts n)) → slice_index more (length starts + i) ≡ words_before program (members_in (inst_at program.insts n)) i) g adds.are in
            ap (λ (n : ℕ). slice_index more (n + index)) same ∙ a index inside
      ];
}

pub starts_next : (words : Words) (firsts starts more : List ℕ) (place : ℕ) → place < length words.insts → AddsStarts (program_of words.insts) (members_in (inst_at words.insts place)) starts more → StartsTo (program_of words.insts) firsts starts place
    → StartsTo (program_of words.insts) (firsts ++ length starts ∷ []) more (place + 1)
unfolding program_of
starts_next words firsts starts more place inside adds to = step (program_of words.insts) firsts starts more place inside adds to

pub starts_all : (words : Words) (firsts starts : List ℕ) (place : ℕ) → place ≡ length words.insts → StartsTo (program_of words.insts) firsts starts place → AreMemberStarts words.insts firsts starts
unfolding program_of
starts_all words firsts starts place all to = record {
  count = to.count ∙ all;
  within = λ k less. to.within k (omega (arith, less, all));
  are = λ k index less. to.are k index (omega (arith, less, all));
}

-- the starts are few, and the words of each instruction
pub starts_room : (words : Words) → IsValidList words → (firsts starts : List ℕ) (place : ℕ) → StartsTo (program_of words.insts) firsts starts place → length starts ≤ MODULE_WORDS
unfolding program_of
starts_room words v firsts starts place to =
    let few = to.few in let all = words_few words v in
    let l = sum_by-take-le (λ (inst : Inst). length inst.words) words.insts place in
    omega (arith, few, all, l)

pub inst_room : (words : Words) → IsValidList words → (place : ℕ) → place < length words.insts → length (inst_at words.insts place).words ≤ MODULE_WORDS
inst_room words v place within =
    let all = words_few words v in
    let l = sum_by_more_le (λ (inst : Inst). length inst.words) words.insts place no_instruction within in
    omega (arith, all, l)
