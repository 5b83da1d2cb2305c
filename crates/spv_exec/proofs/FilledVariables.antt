-- The words of variables, as they are filled in one variable after another.
use Rattle.std.proofs.Common.{◌≡◌, ℕ, zero, suc, ◌+◌, ◌-◌, ◌<◌, ◌≤◌, ◌==◌, inl, inr, Bool, true, false, if◌then◌else◌, List, [], length, refl, ap, sym, ◌∙◌, subst, arith, Option, None, Some}
use Rattle.std.proofs.lemmas.Bool.{cases_lt}
use Rattle.std.proofs.lemmas.Bool.Decides.{nat_tests}
use Rattle.spirv_model.specs.declared.module.Inst.{Inst}
use Rattle.spirv_model.specs.declared.op.TheConstants as op
use Rattle.spirv_model.specs.Operands.{word_at, entry_of, class_of, result}
use Rattle.state_model.specs.declared.buffers.Buffers.{Buffers}
use Rattle.valid_model.specs.declared.meaning.Meaning.{Meaning}
use Rattle.valid_model.specs.declared.meaning.Meaning.TheVariants.{Variable}
use Rattle.valid_model.specs.Definitions.{has_result, definition, inst_at}
use Rattle.valid_model.specs.Meanings.{meaning}
use Rattle.stage_model.specs.declared.inputs.Inputs.{Inputs}
use Rattle.stage_model.specs.Program.{Program, program_of, pointee, block_offsets}
use Rattle.stage_model.specs.Start.{first_memory, option_word}
use Rattle.typed_model.proofs.TypedSteps.{gives_at}
use Rattle.typed_model.proofs.ResultIds.{defines, defined_id}
use Rattle.typed_model.proofs.PlainRuns.{at_op}
use Rattle.frame_model.specs.Frame.{memory_place, variable_words}
use Rattle.frame_model.proofs.FrameSizes.{memory_place_first, memory_place_next}
use Rattle.spv_exec.specs.declared.variables.Fill.{Fill}
use Rattle.spv_exec.specs.declared.origins.Origin.{Origin}
use Rattle.spv_exec.specs.Origins.{origin_in, origin_word, index_of}
use Rattle.spv_exec.specs.Variables.{filled, AreFills, AddsWords}
use Rattle.spv_exec.proofs.FilledWords.{filled_none}
use Rattle.spv_exec.proofs.OriginWords.{first_word, IsNoVariable, first_zero}

pub fills_none : (program : Program) → AreFills program 0 []
fills_none program = record { held = λ inputs buffers variable place k less. absurd (omega (arith, less)); beyond = λ inputs buffers at past. filled_none inputs buffers at }

next_place : (program : Program) (place : ℕ) → place < length program.insts → memory_place program (place + 1) ≡ memory_place program place + variable_words program (inst_at program.insts place)
next_place program place within = ap (memory_place program) (omega arith) ∙ memory_place_next program place within

later_place : (program : Program) (a n : ℕ) → a + n ≤ length program.insts → memory_place program a ≤ memory_place program (a + n)
later_place program a zero within = let e : memory_place program (a + 0) ≡ memory_place program a = ap (memory_place program) (omega arith) in omega (arith, e)
later_place program a (suc n) within =
    let before = later_place program a n (omega (arith, within)) in
    let e : memory_place program (a + suc n) ≡ memory_place program (a + n) + variable_words program (inst_at program.insts (a + n)) = ap (memory_place program) {x = a + suc n} {y = suc (a + n)} (omega arith) ∙ memory_place_next program (a + n) (omega (arith, within)) in
    omega (arith, before, e)

-- the words of an earlier variable stand in front of those of a later one
pub earlier_place : (program : Program) (a b : ℕ) → a < b → b ≤ length program.insts → memory_place program a + variable_words program (inst_at program.insts a) ≤ memory_place program b
earlier_place program a b less within =
    let e = memory_place_next program a (omega (arith, less, within)) in
    let later = later_place program (suc a) (b - suc a) (omega (arith, less, within)) in
    let same : memory_place program (suc a + (b - suc a)) ≡ memory_place program b = ap (memory_place program) (omega (arith, less)) in
    omega (arith, e, later, same)

-- ---- an instruction that makes nothing that is filled in

pub fills_kept : (program : Program) (place : ℕ) (fills : List Fill) → place < length program.insts
    → ((inputs : Inputs) (buffers : Buffers) (variable k : ℕ) → definition program.insts variable ≡ Some place → k < variable_words program (inst_at program.insts place) → first_memory program inputs buffers variable k ≡ 0)
    → AreFills program place fills → AreFills program (place + 1) fills
fills_kept program place fills within zeros before = record {
  held = λ inputs buffers variable at k less is few. elim (cases_lt at place) [
    | inl early ↦ before.held inputs buffers variable at k early is few
    | inr late ↦
        let e : at ≡ place = omega (arith, less, late) in
        before.beyond inputs buffers (memory_place program at + k) (let same : memory_place program at ≡ memory_place program place = ap (memory_place program) e in omega (arith, same))
        ∙ sym (zeros inputs buffers variable k (is ∙ ap (λ (n : ℕ). Some n) e) (subst (λ (n : ℕ). k < variable_words program (inst_at program.insts n)) e few))
  ];
  beyond = λ inputs buffers at past. before.beyond inputs buffers at (let e = next_place program place within in omega (arith, e, past));
}

no_words : (program : Program) (inst : Inst) → inst.op == op.VARIABLE ≡ false → variable_words program inst ≡ 0
unfolding variable_words
no_words program inst isnt = by_test (inst.op == op.VARIABLE) _ isnt
  where
    by_test : (b : Bool) (words : ℕ) → b ≡ false → (if b then words else 0) ≡ 0
    by_test true words isnt = cc
    by_test false words isnt = refl

pub fills_kept_other : (program : Program) (place : ℕ) (fills : List Fill) → place < length program.insts → (inst_at program.insts place).op == op.VARIABLE ≡ false → AreFills program place fills → AreFills program (place + 1) fills
fills_kept_other program place fills within isnt before =
    fills_kept program place fills within (λ inputs buffers variable k is few. absurd (let none = no_words program (inst_at program.insts place) isnt in omega (arith, few, none))) before

-- ---- a variable

pub fills_kept_absent : (program : Program) (place id : ℕ) (fills : List Fill) → place < length program.insts → ((variable : ℕ) → definition program.insts variable ≡ Some place → variable ≡ id) → IsNoVariable (program.meaning id)
    → AreFills program place fills → AreFills program (place + 1) fills
fills_kept_absent program place id fills within own isnt before =
    fills_kept program place fills within (λ inputs buffers variable k is few. first_zero program inputs buffers variable k (subst (λ (n : ℕ). IsNoVariable (program.meaning n)) (sym (own variable is)) isnt)) before

abbrev word_from : Inputs → Buffers → List ℕ → ℕ → Origin → ℕ
word_from inputs buffers offsets k origin = option_word (origin_word inputs buffers origin) (index_of origin offsets k)

pub fills_added : (program : Program) (place id type storage : ℕ) (origin : Origin) (offsets : List ℕ) (start end : ℕ) (fills new : List Fill) → place < length program.insts
    → ((variable : ℕ) → definition program.insts variable ≡ Some place → variable ≡ id) → program.meaning id ≡ Variable type storage → origin ≡ origin_in program id storage → offsets ≡ block_offsets program (pointee (program.meaning type))
    → start ≡ memory_place program place → end ≡ memory_place program (place + 1) → AddsWords origin offsets start end fills new → AreFills program place fills → AreFills program (place + 1) new
fills_added program place id type storage origin offsets start end fills new within own means is are first last adds before =
    let next = next_place program place within in record {
      held = λ inputs buffers variable at k less defined few. elim (cases_lt at place) [
        | inl early ↦
            adds.before inputs buffers (memory_place program at + k) (let e = earlier_place program at place early (omega (arith, within)) in omega (arith, e, few, first))
            ∙ before.held inputs buffers variable at k early defined few
        | inr late ↦
            let e : at ≡ place = omega (arith, less, late) in
            let same : memory_place program at + k ≡ start + k = ap (λ (n : ℕ). n + k) (ap (memory_place program) e ∙ sym first) in
            let few_here : k < variable_words program (inst_at program.insts place) = subst (λ (n : ℕ). k < variable_words program (inst_at program.insts n)) e few in
            ap (filled inputs buffers new) same
            ∙ adds.held inputs buffers k (omega (arith, few_here, first, last, next)) (before.beyond inputs buffers (start + k) (omega (arith, first)))
            ∙ ap (word_from inputs buffers offsets k) is
            ∙ sym (ap (λ (n : ℕ). first_memory program inputs buffers n k) (own variable (defined ∙ ap (λ (n : ℕ). Some n) e)) ∙ first_word program inputs buffers id type storage k offsets means are)
      ];
      beyond = λ inputs buffers at past. adds.beyond inputs buffers at (omega (arith, past, last)) (omega (arith, past, next, first)) ∙ before.beyond inputs buffers at (omega (arith, past, next));
    }

-- ---- of a list of instructions

differs : (a b : ℕ) → (a ≡ b → ⊥) → a == b ≡ false
differs a b isnt = grind (arith, nat_tests)

equal : (a b : ℕ) → a ≡ b → a == b ≡ true
equal a b is = grind (arith, nat_tests)

own_id : (id : ℕ) (found : Option ℕ) (own : ℕ) → found ≡ Some own → has_result id found ≡ true → id ≡ own
own_id id None own is has = cc
own_id id (Some other) own is has = let e : other ≡ own = cc in let f : other ≡ id = number other id has in sym f ∙ e
  where
    number : (a b : ℕ) → a == b ≡ true → a ≡ b
    number a b is = grind (arith, nat_tests)

variable_defines : defines (class_of op.VARIABLE) ≡ true
unfolding class_of entry_of
variable_defines = refl

-- the id that is defined where a variable is made
pub made_there : (insts : List Inst) (place variable : ℕ) → (inst_at insts place).op == op.VARIABLE ≡ true → definition insts variable ≡ Some place → variable ≡ word_at 1 (inst_at insts place)
made_there insts place variable is at =
    let inst = inst_at insts place in
    own_id variable (result inst) (word_at 1 inst) (defined_id inst (at_op (λ (i : Inst). defines (class_of i.op) ≡ true) inst op.VARIABLE is variable_defines)) (gives_at insts variable place at)

pub kept_other_at : (insts : List Inst) (place : ℕ) (inst : Inst) (fills : List Fill) → place < length insts → inst ≡ inst_at insts place → (inst.op ≡ op.VARIABLE → ⊥) → AreFills (program_of insts) place fills → AreFills (program_of insts) (place + 1) fills
unfolding program_of
kept_other_at insts place inst fills within at isnt before =
    fills_kept_other (program_of insts) place fills within (sym (ap (λ (i : Inst). i.op == op.VARIABLE) at) ∙ differs inst.op op.VARIABLE isnt) before

no_variable : (m : Meaning) → ((type class : ℕ) → m ≡ Variable type class → ⊥) → IsNoVariable m
no_variable (Variable type class) isnt = isnt type class refl
no_variable m isnt = tt

own_there : (insts : List Inst) (place id : ℕ) (inst : Inst) → inst ≡ inst_at insts place → inst.op ≡ op.VARIABLE → id ≡ word_at 1 inst → (variable : ℕ) → definition insts variable ≡ Some place → variable ≡ id
own_there insts place id inst at is own variable defined =
    made_there insts place variable (sym (ap (λ (i : Inst). i.op == op.VARIABLE) at) ∙ equal inst.op op.VARIABLE is) defined ∙ sym (own ∙ ap (word_at 1) at)

pub kept_absent_at : (insts : List Inst) (place id : ℕ) (inst : Inst) (m : Meaning) (fills : List Fill) → place < length insts → inst ≡ inst_at insts place → inst.op ≡ op.VARIABLE → id ≡ word_at 1 inst
    → m ≡ meaning insts id → ((type class : ℕ) → m ≡ Variable type class → ⊥) → AreFills (program_of insts) place fills → AreFills (program_of insts) (place + 1) fills
unfolding program_of
kept_absent_at insts place id inst m fills within at is own means isnt before =
    fills_kept_absent (program_of insts) place id fills within (own_there insts place id inst at is own) (subst IsNoVariable means (no_variable m isnt)) before

pub in_order : (insts : List Inst) (place start end : ℕ) → place < length insts → start ≡ memory_place (program_of insts) place → end ≡ memory_place (program_of insts) (place + 1) → start ≤ end
unfolding program_of
in_order insts place start end within first last = let e = next_place (program_of insts) place within in omega (arith, e, first, last)

pub added_at : (insts : List Inst) (place id second_id type class storage : ℕ) (inst : Inst) (m of_type : Meaning) (origin : Origin) (offsets : List ℕ) (start end : ℕ) (fills new : List Fill) → place < length insts → inst ≡ inst_at insts place
    → inst.op ≡ op.VARIABLE → id ≡ word_at 1 inst → m ≡ meaning insts id → m ≡ Variable type class → second_id ≡ word_at 1 inst → storage ≡ class → origin ≡ origin_in (program_of insts) second_id storage
    → of_type ≡ meaning insts type → offsets ≡ block_offsets (program_of insts) (pointee of_type) → start ≡ memory_place (program_of insts) place → end ≡ memory_place (program_of insts) (place + 1)
    → AddsWords origin offsets start end fills new → AreFills (program_of insts) place fills → AreFills (program_of insts) (place + 1) new
unfolding program_of
added_at insts place id second_id type class storage inst m of_type origin offsets start end fills new within at is own means is_variable second same_class from means_type are first last adds before =
    fills_added (program_of insts) place id type class origin offsets start end fills new within (own_there insts place id inst at is own) (sym means ∙ is_variable)
    (from ∙ ap (λ (n : ℕ). origin_in (program_of insts) n storage) (second ∙ sym own) ∙ ap (origin_in (program_of insts) id) same_class)
    (are ∙ ap (λ (of : Meaning). block_offsets (program_of insts) (pointee of)) means_type) first last adds before
