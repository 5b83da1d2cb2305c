-- The label of the block that a place of a valid module's function is in: a block is told by its label.
use Rattle.std.proofs.Common.{◌≡◌, ℕ, zero, suc, ◌+◌, ◌-◌, ◌<◌, ◌≤◌, ◌==◌, ◌||◌, inl, inr, Bool, true, false, if◌then◌else◌, List, length, take, refl, ap, sym, ◌∙◌, subst, arith, Option, Some}
use Rattle.std.specs.Prelude.{slice_get}
use Rattle.std.specs.Option.{option_map}
use Rattle.std.proofs.lemmas.Bool.{cases_lt}
use Rattle.std.proofs.lemmas.Option.{slice_get_within}
use Rattle.spirv_model.specs.declared.module.Inst.{Inst}
use Rattle.spirv_model.specs.declared.module.Words.{Words}
use Rattle.spirv_model.specs.declared.op.TheConstants.{LABEL, FUNCTION, FUNCTION_END}
use Rattle.spirv_model.specs.declared.class.Class.{Class}
use Rattle.spirv_model.specs.declared.class.Class.TheVariants as class
use Rattle.spirv_model.specs.Operands.{word_at, entry_of, class_of, result}
use Rattle.body_model.specs.Classes.{is_module_level_class, is_module_level, is_terminator_class, is_terminator}
use Rattle.body_model.specs.Grammar.{IsOp, Derives}
use Rattle.body_model.proofs.ClassFacts.{straight_label}
use Rattle.valid_model.specs.Definitions.{definition, inst_at}
use Rattle.check_model.specs.Branches.{Block, blocks_of, block_end_of, label_behind}
use Rattle.check_model.specs.Validity.{IsValidList}
use Rattle.typed_model.proofs.EffectsRun.{instruction}
use Rattle.typed_model.proofs.PlainRuns.{at_op}
use Rattle.typed_model.proofs.ModuleValues.{defined_at}
use Rattle.typed_model.proofs.ValidTypes.{keeps_rules}
use Rattle.typed_model.proofs.ValidFunctions.{front_of}
use Rattle.typed_model.proofs.BlockParts.{another, clash}
use Rattle.typed_model.proofs.FunctionParts.{function_fits, function_starts}
use Rattle.typed_model.proofs.FunctionRuns.{function_within}
use Rattle.typed_model.proofs.FirstBlocks.{found_at}
use Rattle.typed_model.proofs.BlockLists.{label_behind_next, blocks_have, block_ends, block_found}

choose_label : (b : Bool) (own label : ℕ) → b ≡ true → (if b then own else label) ≡ own
choose_label true own label is = refl
choose_label false own label is = cc

pass_label : (b : Bool) (own label : ℕ) → b ≡ false → (if b then own else label) ≡ label
pass_label true own label isnt = cc
pass_label false own label isnt = refl

-- an instruction stands at each place of the function
pub stands_there : (insts : List Inst) (d : Derives insts) (place : ℕ) → d.before + 1 ≤ place → place < d.after → slice_get insts place ≡ Some (inst_at insts place)
stands_there insts d place low high = let f = function_fits insts d place low high in f.at ∙ ap Some (sym (found_at insts place f.inst f.at))

-- behind an OpLabel the label is its own, and behind another instruction the one before it
pub own_label_behind : (insts : List Inst) (place : ℕ) → slice_get insts place ≡ Some (inst_at insts place) → (inst_at insts place).op == LABEL ≡ true → label_behind 0 (take (place + 1) insts) ≡ word_at 0 (inst_at insts place)
own_label_behind insts place at is =
    ap (λ (n : ℕ). label_behind 0 (take n insts)) {x = place + 1} {y = suc place} (omega arith)
    ∙ (label_behind_next 0 insts place (inst_at insts place) at ∙ choose_label ((inst_at insts place).op == LABEL) (word_at 0 (inst_at insts place)) _ is)

pub same_label_behind : (insts : List Inst) (place : ℕ) → slice_get insts place ≡ Some (inst_at insts place) → (inst_at insts place).op == LABEL ≡ false → label_behind 0 (take (place + 1) insts) ≡ label_behind 0 (take place insts)
same_label_behind insts place at isnt =
    ap (λ (n : ℕ). label_behind 0 (take n insts)) {x = place + 1} {y = suc place} (omega arith)
    ∙ (label_behind_next 0 insts place (inst_at insts place) at ∙ pass_label ((inst_at insts place).op == LABEL) (word_at 0 (inst_at insts place)) _ isnt)

-- ---- the OpLabel of the block that a place is in

-- it is the last one up to the place
record LastLabel (insts : List Inst) (first place : ℕ) : Type 0 where
  label : ℕ
  low : first ≤ label
  high : label ≤ place
  is : (inst_at insts label).op == LABEL ≡ true
  last : (other : ℕ) → label < other → other ≤ place → (inst_at insts other).op == LABEL ≡ false
  behind : label_behind 0 (take (place + 1) insts) ≡ word_at 0 (inst_at insts label)

next_last : (insts : List Inst) (first place : ℕ) → slice_get insts (place + 1) ≡ Some (inst_at insts (place + 1)) → LastLabel insts first place → LastLabel insts first (place + 1)
next_last insts first place at l = by_test ((inst_at insts (place + 1)).op == LABEL) refl
  where
    by_test : (b : Bool) → (inst_at insts (place + 1)).op == LABEL ≡ b → LastLabel insts first (place + 1)
    by_test true is = record { label = place + 1; low = omega (arith, l.low, l.high); high = omega arith; is = is; last = λ other more less. absurd (omega (arith, more, less)); behind = own_label_behind insts (place + 1) at is }
    by_test false isnt = record {
      label = l.label;
      low = l.low;
      high = omega (arith, l.high);
      is = l.is;
      last = λ other more less. elim (cases_lt place other) [
        | inl past ↦ ap (λ (n : ℕ). (inst_at insts n).op == LABEL) {x = other} {y = place + 1} (omega (arith, past, less)) ∙ isnt
        | inr upto ↦ l.last other more upto
      ];
      behind = same_label_behind insts (place + 1) at isnt ∙ l.behind;
    }

last_from : (insts : List Inst) (d : Derives insts) (more : ℕ) → d.before + 1 + more < d.after → LastLabel insts (d.before + 1) (d.before + 1 + more)
last_from insts d zero high =
    let first = d.before + 1 in
    let s = function_starts insts d in
    let e : first + 0 ≡ first = omega arith in
    let is : (inst_at insts first).op == LABEL ≡ true = ap (λ (i : Inst). i.op == LABEL) (found_at insts first s.inst s.at) ∙ s.is in
    subst (LastLabel insts first) (sym e)
    (record {
      label = first;
      low = omega arith;
      high = omega arith;
      is = is;
      last = λ other more less. absurd (omega (arith, more, less));
      behind = own_label_behind insts first (stands_there insts d first (omega arith) (omega (arith, high))) is;
    })
last_from insts d (suc more) high =
    let first = d.before + 1 in
    let e : first + more + 1 ≡ first + suc more = omega arith in
    subst (LastLabel insts first) e
    (next_last insts first (first + more) (stands_there insts d (first + more + 1) (omega arith) (omega (arith, high))) (last_from insts d more (omega (arith, high))))

last_label : (insts : List Inst) (d : Derives insts) (place : ℕ) → d.before + 1 ≤ place → place < d.after → LastLabel insts (d.before + 1) place
last_label insts d place low high =
    let e : d.before + 1 + (place - (d.before + 1)) ≡ place = omega (arith, low) in
    subst (LastLabel insts (d.before + 1)) e (last_from insts d (place - (d.before + 1)) (omega (arith, e, high)))

-- ---- a label stands once

label_result : (words : List ℕ) → result (instruction LABEL words) ≡ Some (word_at 0 (instruction LABEL words))
unfolding result entry_of
label_result words = refl

same_place : (a b : ℕ) → ◌≡◌ {A = Option ℕ} (Some a) (Some b) → a ≡ b
same_place a b is = cc

defines_label : (words : Words) (v : IsValidList words) (place : ℕ) → place < length words.insts → (inst_at words.insts place).op == LABEL ≡ true → definition words.insts (word_at 0 (inst_at words.insts place)) ≡ Some place
defines_label words v place within is =
    let inst = inst_at words.insts place in
    defined_at words.insts place (word_at 0 inst) within (at_op (λ inst. result inst ≡ Some (word_at 0 inst)) inst LABEL is (label_result inst.words)) (keeps_rules words v.sound place within).once

one_place : (words : Words) (v : IsValidList words) (a b : ℕ) → a < length words.insts → b < length words.insts → (inst_at words.insts a).op == LABEL ≡ true → (inst_at words.insts b).op == LABEL ≡ true
    → word_at 0 (inst_at words.insts a) ≡ word_at 0 (inst_at words.insts b) → a ≡ b
one_place words v a b in_a in_b is also equal = same_place a b (sym (defines_label words v a in_a is) ∙ (ap (definition words.insts) equal ∙ defines_label words v b in_b also))

-- ---- a block ends once

ends_no_label : (insts : List Inst) (place : ℕ) → is_terminator (inst_at insts place).op ≡ true → (inst_at insts place).op == LABEL ≡ false
ends_no_label insts place is = another is_terminator LABEL straight_label (inst_at insts place).op is

-- the last label at a terminator is that of its block
at_end : (insts : List Inst) (d : Derives insts) (place : ℕ) → d.before + 1 ≤ place → place < d.after → is_terminator (inst_at insts place).op ≡ true → (l : LastLabel insts (d.before + 1) place) → label_behind 0 (take place insts) ≡ word_at 0 (inst_at insts l.label)
at_end insts d place low high is l = sym (same_label_behind insts place (stands_there insts d place low high) (ends_no_label insts place is)) ∙ l.behind

not_later : (words : Words) (v : IsValidList words) (a b : ℕ) → v.derivation.before + 1 ≤ a → b < v.derivation.after → is_terminator (inst_at words.insts a).op ≡ true → is_terminator (inst_at words.insts b).op ≡ true
    → label_behind 0 (take a words.insts) ≡ label_behind 0 (take b words.insts) → a < b → ⊥
not_later words v a b low high is also equal less =
    let d = v.derivation in let insts = words.insts in
    let l = last_label insts d a low (omega (arith, less, high)) in let m = last_label insts d b (omega (arith, low, less)) high in
    let e = one_place words v l.label m.label (function_within insts d l.label (omega (arith, l.high, less, high))) (function_within insts d m.label (omega (arith, m.high, high))) l.is m.is
    (sym (at_end insts d a low (omega (arith, less, high)) is l) ∙ (equal ∙ at_end insts d b (omega (arith, low, less)) high also m)) in
    let f = function_fits insts d a low (omega (arith, less, high)) in
    let n = f.next (ap (λ (i : Inst). is_terminator i.op) (sym (found_at insts a f.inst f.at)) ∙ is) (omega (arith, less, high)) in
    clash ((inst_at insts (a + 1)).op == LABEL) (ap (λ (i : Inst). i.op == LABEL) (found_at insts (a + 1) n.inst n.at) ∙ n.is) (m.last (a + 1) (omega (arith, e, l.high)) (omega (arith, less)))

-- the terminators of blocks with one label are one
pub one_end : (words : Words) (v : IsValidList words) (a b : ℕ) → v.derivation.before + 1 ≤ a → a < v.derivation.after → v.derivation.before + 1 ≤ b → b < v.derivation.after
    → is_terminator (inst_at words.insts a).op ≡ true → is_terminator (inst_at words.insts b).op ≡ true → label_behind 0 (take a words.insts) ≡ label_behind 0 (take b words.insts) → a ≡ b
one_end words v a b low_a high_a low_b high_b is also equal =
    elim (cases_lt a b) [
      | inl less ↦ absurd (not_later words v a b low_a high_b is also equal less)
      | inr past ↦ elim (cases_lt b a) [ inl more ↦ absurd (not_later words v b a low_b high_a also is (sym equal) more) | inr upto ↦ omega (arith, past, upto) ]
    ]

-- ---- terminators stand in the function

not_level : (of : Option Class) → is_terminator_class of ≡ true → is_module_level_class of ≡ false
not_level (Some class.Terminator) is = refl
not_level of is = cc

function_ends : (is_terminator FUNCTION ≡ false) × (is_terminator FUNCTION_END ≡ false)
unfolding class_of entry_of
function_ends = (refl, refl)

neither : (a b : Bool) → a ≡ false → b ≡ false → (a || b) ≡ true → ⊥
neither true b no_a no_b is = cc
neither false b no_a no_b is = clash b is no_b

pub ends_in_function : (words : Words) (d : Derives words.insts) (place : ℕ) (inst : Inst) → slice_get words.insts place ≡ Some inst → is_terminator inst.op ≡ true → (d.before + 1 ≤ place) × (place < d.after)
ends_in_function words d place inst at is =
    let within = slice_get_within words.insts place inst at in
    let ends : is_terminator (inst_at words.insts place).op ≡ true = ap (λ (i : Inst). is_terminator i.op) (found_at words.insts place inst at) ∙ is in (
      elim (cases_lt place (d.before + 1)) [
        | inl early ↦ absurd (neither (is_module_level (inst_at words.insts place).op) ((inst_at words.insts place).op == FUNCTION) (not_level (class_of (inst_at words.insts place).op) ends)
            (another is_terminator FUNCTION function_ends.0 (inst_at words.insts place).op ends) ((front_of words d).level place early))
        | inr late ↦ late
      ],
      elim (cases_lt place d.after) [
        | inl early ↦ early
        | inr late ↦
            let e : d.after ≡ place = omega (arith, late, within, d.last) in
            absurd (never inst (ap (λ (n : ℕ). slice_get words.insts n) e ∙ at) is d.function_end)
      ],
    )
  where
    never : (inst : Inst) → slice_get words.insts d.after ≡ Some inst → is_terminator inst.op ≡ true → IsOp FUNCTION_END (slice_get words.insts d.after) → ⊥
    never inst at is end = clash (is_terminator inst.op) is (ap is_terminator (subst (IsOp FUNCTION_END) at end) ∙ function_ends.1)

-- ---- the end of a block

-- a terminator of the function is the end of the block with its label
pub block_end_is : (words : Words) (v : IsValidList words) (place label : ℕ) → v.derivation.before + 1 ≤ place → place < v.derivation.after → is_terminator (inst_at words.insts place).op ≡ true → label_behind 0 (take place words.insts) ≡ label
    → block_end_of words.insts label ≡ Some place
unfolding block_end_of blocks_of
block_end_is words v place label low high is named =
    let insts = words.insts in
    let f = block_found label (blocks_of insts) _ (blocks_have 0 0 insts place (inst_at insts place) (stands_there insts v.derivation place low high) is) named in
    let e = block_ends 0 0 insts f.block f.has in
    let i = ends_in_function words v.derivation e.index e.inst e.at e.ends in
    let o = one_end words v e.index place i.0 i.1 low high (ap (λ (i : Inst). is_terminator i.op) (found_at insts e.index e.inst e.at) ∙ e.ends) is
    (ap (λ (b : Block). b.label) (sym e.is) ∙ (f.labelled ∙ sym named)) in
    ap (option_map (λ (b : Block). b.end)) f.is ∙ ap Some (ap (λ (b : Block). b.end) e.is ∙ end_place e.index place o)
  where
    end_place : (index place : ℕ) → index ≡ place → 0 + index ≡ place
    end_place index place is = omega (arith, is)
