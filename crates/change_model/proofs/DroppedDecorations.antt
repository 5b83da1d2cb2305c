-- Decorations of ids that stay are the same where variables and constants of the module's level are dropped, and those of ids that go are gone.
use Rattle.std.proofs.Common.{◌≡◌, ℕ, ◌==◌, ◌&&◌, ◌||◌, Bool, true, false, cond, List, [], ◌∷◌, length, refl, ap, sym, ◌∙◌, Option, None, Some}
use Rattle.std.specs.Option.{option_map}
use Rattle.std.specs.List.{find, list_any}
use Rattle.spirv_model.specs.declared.module.Inst.{Inst}
use Rattle.spirv_model.specs.declared.op.TheConstants as op
use Rattle.spirv_model.specs.Operands.{word_at}
use Rattle.valid_model.specs.DecorationWords.{is_listed, decorates, decoration_of, places_member, offset_of}
use Rattle.typed_model.proofs.BlockParts.{clash, another}
use Rattle.change_model.specs.Dropping.{is_gone, is_decoration, is_dropped, entry_without, dropped}
use Rattle.change_model.proofs.DroppedDefinitions.{decoration_silent}
use Rattle.change_model.proofs.DroppedPlaces.{entry_same, entry_op}
use Rattle.change_model.proofs.Settlings.{op_is}
use Rattle.change_model.proofs.Sifted.{sifted, sifted_cons, sifted_gone, any_sifted, find_sifted}

-- ---- tests of instructions with another opcode than that of an entry point

-- only instructions with this opcode pass
abbrev pub OnlyOp : ℕ → (Inst → Bool) → Type 0
OnlyOp own p = (inst : Inst) → inst.op == own ≡ false → p inst ≡ false

op_of : (own : ℕ) (p : Inst → Bool) → OnlyOp own p → (inst : Inst) → p inst ≡ true → inst.op ≡ own
op_of own p only inst is = by_test (inst.op == own) refl
  where
    by_test : (b : Bool) → inst.op == own ≡ b → inst.op ≡ own
    by_test true same = op_is inst.op own same
    by_test false isnt = absurd (clash (p inst) is (only inst isnt))

-- such an instruction is as it was
pub same_by_op : (gone : ℕ → Bool) (own : ℕ) → own == op.ENTRY_POINT ≡ false → (p : Inst → Bool) → OnlyOp own p → (inst : Inst) → p inst ≡ true → entry_without gone inst ≡ inst
same_by_op gone own other p only inst is = entry_same gone inst (ap (λ (o : ℕ). o == op.ENTRY_POINT) (op_of own p only inst is) ∙ other)

-- the test says the same of what is left
pub passes_left : (gone : ℕ → Bool) (own : ℕ) → own == op.ENTRY_POINT ≡ false → (p : Inst → Bool) → OnlyOp own p → (inst : Inst) → p (entry_without gone inst) ≡ p inst
passes_left gone own other p only inst = by_test (inst.op == op.ENTRY_POINT) refl
  where
    differs : (opcode : ℕ) → opcode == op.ENTRY_POINT ≡ true → opcode == own ≡ false
    differs opcode is = another (λ o. o == op.ENTRY_POINT) own other opcode is

    by_test : (b : Bool) → inst.op == op.ENTRY_POINT ≡ b → p (entry_without gone inst) ≡ p inst
    by_test true is =
        only (entry_without gone inst) (ap (λ (o : ℕ). o == own) (entry_op gone inst) ∙ differs inst.op is) ∙ sym (only inst (differs inst.op is))
    by_test false isnt = ap p (entry_same gone inst isnt)

find_passes : (p : Inst → Bool) (insts : List Inst) (inst : Inst) → find p insts ≡ Some inst → p inst ≡ true
find_passes p [] inst is = cc
find_passes p (first ∷ insts) inst is = by_test (p first) refl is (find_passes p insts inst)
  where
    same : (a b : Inst) → ◌≡◌ {A = Option Inst} (Some a) (Some b) → a ≡ b
    same a b is = cc

    by_test : (b : Bool) → p first ≡ b → cond b (Some first) (find p insts) ≡ Some inst → (find p insts ≡ Some inst → p inst ≡ true) → p inst ≡ true
    by_test true passes is rest = sym (ap p (same first inst is)) ∙ passes
    by_test false fails is rest = rest is

-- what passes and isn't dropped is found as it is
pub found_kept : (gone : ℕ → Bool) (own : ℕ) → own == op.ENTRY_POINT ≡ false → (p : Inst → Bool) → OnlyOp own p → ((inst : Inst) → is_dropped gone inst ≡ true → p inst ≡ false) → (insts : List Inst)
    → find p (dropped gone insts) ≡ find p insts
unfolding dropped
found_kept gone own other p only never insts =
    find_sifted (is_dropped gone) (entry_without gone) p p (record { kept = λ inst stays. passes_left gone own other p only inst; gone = never }) insts ∙ as_it_is insts
  where
    as_it_is : (insts : List Inst) → option_map (entry_without gone) (find p insts) ≡ find p insts
    as_it_is insts = found (find p insts) (find_passes p insts)
      where
        found : (f : Option Inst) → ((inst : Inst) → f ≡ Some inst → p inst ≡ true) → option_map (entry_without gone) f ≡ f
        found None passes = refl
        found (Some inst) passes = ap (λ (i : Inst). Some i) (same_by_op gone own other p only inst (passes inst refl))

-- what nothing left passes isn't found
find_none : (p : Inst → Bool) (goes : Inst → Bool) (f : Inst → Inst) → ((inst : Inst) → goes inst ≡ false → p (f inst) ≡ false) → (insts : List Inst) → find p (sifted goes f insts) ≡ None
find_none p goes f never [] = refl
find_none p goes f never (inst ∷ insts) = by_test (find_none p goes f never insts) (goes inst) refl
  where
    by_test : find p (sifted goes f insts) ≡ None → (b : Bool) → goes inst ≡ b → find p (sifted goes f (inst ∷ insts)) ≡ None
    by_test rest true is = ap (find p) (sifted_gone goes f inst insts is) ∙ rest
    by_test rest false is = ap (find p) (sifted_cons goes f inst insts is) ∙ ap (λ (b : Bool). cond b (Some (f inst)) (find p (sifted goes f insts))) (never inst is) ∙ rest

-- ---- decorations

no_decorate : (id decoration : ℕ) → OnlyOp op.DECORATE (decorates id decoration)
no_decorate id decoration inst isnt = rw isnt refl

no_offset : (id member : ℕ) → OnlyOp op.MEMBER_DECORATE (places_member id member)
no_offset id member inst isnt = rw isnt refl

decorate_other : op.DECORATE == op.ENTRY_POINT ≡ false
decorate_other = refl

member_other : op.MEMBER_DECORATE == op.ENTRY_POINT ≡ false
member_other = refl

-- a decoration of an id is dropped exactly where the id goes
decoration_dropped : (gone : ℕ → Bool) (inst : Inst) → is_decoration inst.op ≡ true → is_dropped gone inst ≡ gone (word_at 0 inst)
decoration_dropped gone inst is = ap (λ (o : Option ℕ). is_gone gone o || (is_decoration inst.op && gone (word_at 0 inst))) (decoration_silent inst is) ∙ ap (λ (b : Bool). b && gone (word_at 0 inst)) is

named_first : (a b c d : Bool) → ((a && b) && c && d) ≡ true → (a ≡ true) × (c ≡ true)
named_first true true true d is = (refl, refl)
named_first true true false d is = cc
named_first true false c d is = cc
named_first false b c d is = cc

member_first : (a b e c d : Bool) → ((a && b && e) && c && d) ≡ true → (a ≡ true) × (c ≡ true)
member_first true true true true d is = (refl, refl)
member_first true true true false d is = cc
member_first true true false c d is = cc
member_first true false e c d is = cc
member_first false b e c d is = cc

decorated_id : (id decoration : ℕ) (inst : Inst) → decorates id decoration inst ≡ true → (is_decoration inst.op ≡ true) × (word_at 0 inst ≡ id)
decorated_id id decoration inst is =
    let n = named_first (inst.op == op.DECORATE) (is_listed (word_at 1 inst) (length inst.words)) (word_at 0 inst == id) (word_at 1 inst == decoration) is in
    (ap (λ (b : Bool). b || (inst.op == op.MEMBER_DECORATE)) n.0, op_is (word_at 0 inst) id n.1)

placed_id : (id member : ℕ) (inst : Inst) → places_member id member inst ≡ true → (is_decoration inst.op ≡ true) × (word_at 0 inst ≡ id)
placed_id id member inst is =
    let n = member_first (inst.op == op.MEMBER_DECORATE) _ _ (word_at 0 inst == id) (word_at 1 inst == member) is in
    (either (inst.op == op.DECORATE) (inst.op == op.MEMBER_DECORATE) n.0, op_is (word_at 0 inst) id n.1)
  where
    either : (a b : Bool) → b ≡ true → (a || b) ≡ true
    either true b is = refl
    either false b is = is

-- a test that only decorations of this id pass
record IsOf (id : ℕ) (p : Inst → Bool) : Type 0 where
  of : (inst : Inst) → p inst ≡ true → (is_decoration inst.op ≡ true) × (word_at 0 inst ≡ id)

stays_by : (gone : ℕ → Bool) (id : ℕ) (p : Inst → Bool) → IsOf id p → gone id ≡ false → (inst : Inst) → is_dropped gone inst ≡ true → p inst ≡ false
stays_by gone id p o stays inst is = by_test (p inst) refl
  where
    by_test : (b : Bool) → p inst ≡ b → b ≡ false
    by_test false isnt = refl
    by_test true passes =
        let n = o.of inst passes in
        absurd (clash (is_dropped gone inst) is (decoration_dropped gone inst n.0 ∙ ap gone n.1 ∙ stays))

goes_by : (gone : ℕ → Bool) (id : ℕ) (p : Inst → Bool) → IsOf id p → gone id ≡ true → (inst : Inst) → is_dropped gone inst ≡ false → p inst ≡ false
goes_by gone id p o is inst stays = by_test (p inst) refl
  where
    by_test : (b : Bool) → p inst ≡ b → b ≡ false
    by_test false isnt = refl
    by_test true passes =
        let n = o.of inst passes in
        absurd (clash (is_dropped gone inst) (decoration_dropped gone inst n.0 ∙ ap gone n.1 ∙ is) stays)

of_decorated : (id decoration : ℕ) → IsOf id (decorates id decoration)
of_decorated id decoration = record { of = decorated_id id decoration }

of_placed : (id member : ℕ) → IsOf id (places_member id member)
of_placed id member = record { of = placed_id id member }

pub decoration_kept : (gone : ℕ → Bool) (insts : List Inst) (id decoration : ℕ) → gone id ≡ false → decoration_of (dropped gone insts) id decoration ≡ decoration_of insts id decoration
unfolding decoration_of
decoration_kept gone insts id decoration stays =
    ap (option_map (word_at 2)) (found_kept gone op.DECORATE decorate_other (decorates id decoration) (no_decorate id decoration) (stays_by gone id (decorates id decoration) (of_decorated id decoration) stays) insts)

pub decoration_gone : (gone : ℕ → Bool) (insts : List Inst) (id decoration : ℕ) → gone id ≡ true → decoration_of (dropped gone insts) id decoration ≡ None
unfolding decoration_of dropped
decoration_gone gone insts id decoration is =
    ap (option_map (word_at 2)) (find_none (decorates id decoration) (is_dropped gone) (entry_without gone)
    (λ inst stays. passes_left gone op.DECORATE decorate_other (decorates id decoration) (no_decorate id decoration) inst ∙ goes_by gone id (decorates id decoration) (of_decorated id decoration) is inst stays) insts)

pub offset_kept : (gone : ℕ → Bool) (insts : List Inst) (id member : ℕ) → gone id ≡ false → offset_of (dropped gone insts) id member ≡ offset_of insts id member
unfolding offset_of
offset_kept gone insts id member stays =
    ap (option_map (word_at 3)) (found_kept gone op.MEMBER_DECORATE member_other (places_member id member) (no_offset id member) (stays_by gone id (places_member id member) (of_placed id member) stays) insts)

pub offset_gone : (gone : ℕ → Bool) (insts : List Inst) (id member : ℕ) → gone id ≡ true → offset_of (dropped gone insts) id member ≡ None
unfolding offset_of dropped
offset_gone gone insts id member is =
    ap (option_map (word_at 3)) (find_none (places_member id member) (is_dropped gone) (entry_without gone)
    (λ inst stays. passes_left gone op.MEMBER_DECORATE member_other (places_member id member) (no_offset id member) inst ∙ goes_by gone id (places_member id member) (of_placed id member) is inst stays) insts)

-- the same stands before a place
pub decorated_kept : (gone : ℕ → Bool) (insts : List Inst) (id decoration : ℕ) → gone id ≡ false → list_any (decorates id decoration) (dropped gone insts) ≡ list_any (decorates id decoration) insts
unfolding dropped
decorated_kept gone insts id decoration stays =
    any_sifted (is_dropped gone) (entry_without gone) (decorates id decoration) (decorates id decoration)
    (record { kept = λ inst isnt. passes_left gone op.DECORATE decorate_other (decorates id decoration) (no_decorate id decoration) inst; gone = stays_by gone id (decorates id decoration) (of_decorated id decoration) stays }) insts

pub placed_kept : (gone : ℕ → Bool) (insts : List Inst) (id member : ℕ) → gone id ≡ false → list_any (places_member id member) (dropped gone insts) ≡ list_any (places_member id member) insts
unfolding dropped
placed_kept gone insts id member stays =
    any_sifted (is_dropped gone) (entry_without gone) (places_member id member) (places_member id member)
    (record { kept = λ inst isnt. passes_left gone op.MEMBER_DECORATE member_other (places_member id member) (no_offset id member) inst; gone = stays_by gone id (places_member id member) (of_placed id member) stays }) insts
