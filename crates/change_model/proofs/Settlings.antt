-- What lists have in common where constants stand for specialization constants.
use Rattle.std.proofs.Common.{◌≡◌, ℕ, ◌==◌, ◌&&◌, Bool, true, false, cond, List, [], ◌∷◌, refl, ap, sym, ◌∙◌, arith, Option, None, Some}
use Rattle.std.specs.Option.{option_map}
use Rattle.std.specs.List.{find, list_any}
use Rattle.std.proofs.lemmas.Bool.Decides.{nat_tests}
use Rattle.spirv_model.specs.declared.module.Inst.{Inst}
use Rattle.spirv_model.specs.declared.class.Class.{Class}
use Rattle.spirv_model.specs.declared.class.Class.TheVariants as class
use Rattle.spirv_model.specs.declared.op.TheConstants as op
use Rattle.spirv_model.specs.declared.decoration.TheConstants.{SPEC_ID}
use Rattle.spirv_model.specs.Operands.{word_at, entry_of, class_of, result}
use Rattle.valid_model.specs.Definitions.{has_result, gives}
use Rattle.valid_model.specs.DecorationWords.{decorates, decoration_of, places_member, offset_of}
use Rattle.typed_model.proofs.BlockParts.{another, clash}
use Rattle.typed_model.proofs.ResultIds.{defines, defined_id, setting_result}
use Rattle.change_model.specs.Constants.{is_spec_id}
use Rattle.change_model.specs.Settling.{is_spec_class, is_plain_constant_class, StandsFor, same, settles, all_settled}
use Rattle.change_model.proofs.Sifted.{sifted_cons, sifted_gone, IsSiftedTest, any_sifted, find_sifted}

-- f gives what stands for each instruction
abbrev pub Settles : (Inst → Inst) → Type 0
Settles f = (inst : Inst) → StandsFor (f inst) inst

-- ---- one instruction

-- an opcode is neither that of a specialization constant nor that of a constant
pub record IsOther (own : ℕ) : Type 0 where
  pub no_spec : is_spec_class (class_of own) ≡ false
  pub no_constant : is_plain_constant_class (class_of own) ≡ false

pub other_old : (own opcode : ℕ) → IsOther own → is_spec_class (class_of opcode) ≡ true → opcode == own ≡ false
other_old own opcode other is = another (λ o. is_spec_class (class_of o)) own other.no_spec opcode is

pub other_new : (own opcode : ℕ) → IsOther own → is_plain_constant_class (class_of opcode) ≡ true → opcode == own ≡ false
other_new own opcode other is = another (λ o. is_plain_constant_class (class_of o)) own other.no_constant opcode is

-- a test that instructions with another opcode don't pass says the same of both
pub by_op : (own : ℕ) → IsOther own → (p : Inst → Bool) → ((inst : Inst) → inst.op == own ≡ false → p inst ≡ false) → (new old : Inst) → StandsFor new old → p new ≡ p old
by_op own other p none new old (same is) = ap p is
by_op own other p none new old (settles spec constant type id) = none new (other_new own new.op other constant) ∙ sym (none old (other_old own old.op other spec))

-- an instruction that passes such a test stands for itself
pub is_same : (own : ℕ) → IsOther own → (p : Inst → Bool) → ((inst : Inst) → inst.op == own ≡ false → p inst ≡ false) → (new old : Inst) → StandsFor new old → p old ≡ true → new ≡ old
is_same own other p none new old (same is) passes = is
is_same own other p none new old (settles spec constant type id) passes = absurd (clash (p old) passes (none old (other_old own old.op other spec)))

pub spec_defines : (of : Option Class) → is_spec_class of ≡ true → defines of ≡ true
spec_defines None is = cc
spec_defines (Some class.SpecConstant) is = refl
spec_defines (Some class.SpecConstantResult) is = refl
spec_defines (Some other) is = cc

pub constant_defines : (of : Option Class) → is_plain_constant_class of ≡ true → defines of ≡ true
constant_defines None is = cc
constant_defines (Some class.Constant) is = refl
constant_defines (Some other) is = cc

pub result_same : (new old : Inst) → StandsFor new old → result new ≡ result old
result_same new old (same is) = ap result is
result_same new old (settles spec constant type id) =
    defined_id new (constant_defines (class_of new.op) constant) ∙ ap (λ (n : ℕ). Some n) id ∙ sym (defined_id old (spec_defines (class_of old.op) spec))

pub gives_same : (id : ℕ) (new old : Inst) → StandsFor new old → gives id new ≡ gives id old
gives_same id new old s = ap (has_result id) (result_same new old s)

-- ---- what is gone

decorate_class : class_of op.DECORATE ≡ Some class.Setting
unfolding class_of entry_of
decorate_class = refl

first_of : (a b : Bool) → (a && b) ≡ true → a ≡ true
first_of true b is = refl
first_of false b is = cc

second_of : (a b : Bool) → (a && b) ≡ true → b ≡ true
second_of true b is = is
second_of false b is = cc

pub op_is : (a b : ℕ) → a == b ≡ true → a ≡ b
op_is a b is = grind (arith, nat_tests)

pub gone_op : (inst : Inst) → is_spec_id inst ≡ true → inst.op ≡ op.DECORATE
gone_op inst is = op_is inst.op op.DECORATE (first_of (inst.op == op.DECORATE) (word_at 1 inst == SPEC_ID) is)

pub gone_word : (inst : Inst) → is_spec_id inst ≡ true → word_at 1 inst ≡ SPEC_ID
gone_word inst is = op_is (word_at 1 inst) SPEC_ID (second_of (inst.op == op.DECORATE) (word_at 1 inst == SPEC_ID) is)

import_isnt : op.DECORATE == op.EXT_INST_IMPORT ≡ false
import_isnt = refl

none_given : (id : ℕ) (inst : Inst) (given : Option ℕ) → result inst ≡ given → class_of inst.op ≡ Some class.Setting → inst.op == op.EXT_INST_IMPORT ≡ false → has_result id given ≡ false
none_given id inst None is of isnt = refl
none_given id inst (Some own) is of isnt = absurd (clash (inst.op == op.EXT_INST_IMPORT) (setting_result inst own of is) isnt)

pub gone_gives : (id : ℕ) (inst : Inst) → is_spec_id inst ≡ true → gives id inst ≡ false
gone_gives id inst is =
    let e = gone_op inst is in
    none_given id inst (result inst) refl (ap class_of e ∙ decorate_class) (ap (λ (o : ℕ). o == op.EXT_INST_IMPORT) e ∙ import_isnt)

-- ---- lists

-- one more instruction
pub settled_cons : (f : Inst → Inst) (inst : Inst) (insts : List Inst) → is_spec_id inst ≡ false → all_settled f (inst ∷ insts) ≡ f inst ∷ all_settled f insts
settled_cons f inst insts isnt = sifted_cons is_spec_id f inst insts isnt

pub settled_gone : (f : Inst → Inst) (inst : Inst) (insts : List Inst) → is_spec_id inst ≡ true → all_settled f (inst ∷ insts) ≡ all_settled f insts
settled_gone f inst insts is = sifted_gone is_spec_id f inst insts is

-- a test that says the same of what stands for an instruction, and doesn't pass for what is gone
abbrev pub IsKeptTest : (Inst → Inst) → (Inst → Bool) → (Inst → Bool) → Type 0
IsKeptTest f p q = IsSiftedTest is_spec_id f p q

pub any_settled : (f : Inst → Inst) (p q : Inst → Bool) → IsKeptTest f p q → (insts : List Inst) → list_any q (all_settled f insts) ≡ list_any p insts
any_settled f p q t insts = any_sifted is_spec_id f p q t insts

-- what is found is what stands for it
pub find_settled : (f : Inst → Inst) (p q : Inst → Bool) → IsKeptTest f p q → (insts : List Inst) → find q (all_settled f insts) ≡ option_map f (find p insts)
find_settled f p q t insts = find_sifted is_spec_id f p q t insts

-- an instruction of a kind of its own is found as it is
pub same_found : (f : Inst → Inst) → Settles f → (own : ℕ) → IsOther own → (p : Inst → Bool) → ((inst : Inst) → inst.op == own ≡ false → p inst ≡ false) → (insts : List Inst) → option_map f (find p insts) ≡ find p insts
same_found f s own other p none [] = refl
same_found f s own other p none (inst ∷ insts) = by_test (same_found f s own other p none insts) (p inst) refl
  where
    by_test : option_map f (find p insts) ≡ find p insts → (b : Bool) → p inst ≡ b → option_map f (cond b (Some inst) (find p insts)) ≡ cond b (Some inst) (find p insts)
    by_test rest true is = ap (λ (i : Inst). Some i) (is_same own other p none (f inst) inst (s inst) is)
    by_test rest false is = rest

-- ---- decorations

pub other_decorate : IsOther op.DECORATE
unfolding class_of entry_of
other_decorate = record { no_spec = refl; no_constant = refl }

pub other_member_decorate : IsOther op.MEMBER_DECORATE
unfolding class_of entry_of
other_member_decorate = record { no_spec = refl; no_constant = refl }

pub other_entry_point : IsOther op.ENTRY_POINT
unfolding class_of entry_of
other_entry_point = record { no_spec = refl; no_constant = refl }

pub other_variable : IsOther op.VARIABLE
unfolding class_of entry_of
other_variable = record { no_spec = refl; no_constant = refl }

no_decorate : (id decoration : ℕ) (inst : Inst) → inst.op == op.DECORATE ≡ false → decorates id decoration inst ≡ false
no_decorate id decoration inst isnt = rw isnt refl

pub no_offset : (id member : ℕ) (inst : Inst) → inst.op == op.MEMBER_DECORATE ≡ false → places_member id member inst ≡ false
no_offset id member inst isnt = rw isnt refl

last_false : (a b c : Bool) → c ≡ false → ((a && b) && c) ≡ false
last_false true true c is = is
last_false true false c is = refl
last_false false b c is = refl

flipped : (a b : ℕ) → a == b ≡ false → b == a ≡ false
flipped a b is = grind (arith, nat_tests)

gone_decorates : (id decoration : ℕ) (inst : Inst) → decoration == SPEC_ID ≡ false → is_spec_id inst ≡ true → decorates id decoration inst ≡ false
gone_decorates id decoration inst isnt is =
    let e : word_at 1 inst == decoration ≡ false = ap (λ (w : ℕ). w == decoration) (gone_word inst is) ∙ flipped decoration SPEC_ID isnt in
    rw e (ends_false _)
  where
    ends_false : (a : Bool) → (a && false) ≡ false
    ends_false true = refl
    ends_false false = refl

pub decorates_kept : (f : Inst → Inst) → Settles f → (id decoration : ℕ) → decoration == SPEC_ID ≡ false → IsKeptTest f (decorates id decoration) (decorates id decoration)
decorates_kept f s id decoration isnt = record {
  kept = λ inst stays. by_op op.DECORATE other_decorate (decorates id decoration) (no_decorate id decoration) (f inst) inst (s inst);
  gone = λ inst is. gone_decorates id decoration inst isnt is;
}

pub decoration_settled : (f : Inst → Inst) → Settles f → (insts : List Inst) (id decoration : ℕ) → decoration == SPEC_ID ≡ false → decoration_of (all_settled f insts) id decoration ≡ decoration_of insts id decoration
unfolding decoration_of
decoration_settled f s insts id decoration isnt =
    ap (option_map (word_at 2)) (find_settled f (decorates id decoration) (decorates id decoration) (decorates_kept f s id decoration isnt) insts
    ∙ same_found f s op.DECORATE other_decorate (decorates id decoration) (no_decorate id decoration) insts)

gone_isnt : (own : ℕ) (inst : Inst) → op.DECORATE == own ≡ false → is_spec_id inst ≡ true → inst.op == own ≡ false
gone_isnt own inst isnt is = ap (λ (o : ℕ). o == own) (gone_op inst is) ∙ isnt

-- a test for another opcode
pub kept_by_op : (f : Inst → Inst) → Settles f → (own : ℕ) → IsOther own → op.DECORATE == own ≡ false → (p : Inst → Bool) → ((inst : Inst) → inst.op == own ≡ false → p inst ≡ false) → IsKeptTest f p p
kept_by_op f s own other isnt p none = record {
  kept = λ inst stays. by_op own other p none (f inst) inst (s inst);
  gone = λ inst is. none inst (gone_isnt own inst isnt is);
}

-- the first such instruction is the same
pub found_by_op : (f : Inst → Inst) → Settles f → (own : ℕ) → IsOther own → op.DECORATE == own ≡ false → (p : Inst → Bool) → ((inst : Inst) → inst.op == own ≡ false → p inst ≡ false) → (insts : List Inst)
    → find p (all_settled f insts) ≡ find p insts
found_by_op f s own other isnt p none insts = find_settled f p p (kept_by_op f s own other isnt p none) insts ∙ same_found f s own other p none insts

pub offset_settled : (f : Inst → Inst) → Settles f → (insts : List Inst) (id member : ℕ) → offset_of (all_settled f insts) id member ≡ offset_of insts id member
unfolding offset_of
offset_settled f s insts id member =
    ap (option_map (word_at 3)) (found_by_op f s op.MEMBER_DECORATE other_member_decorate refl (places_member id member) (no_offset id member) insts)
