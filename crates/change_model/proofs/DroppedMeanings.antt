-- What ids mean where variables and constants of the module's level are dropped.
use Rattle.std.proofs.Common.{◌≡◌, ℕ, suc, ◌+◌, ◌<◌, ◌≤◌, ◌==◌, ◌&&◌, ◌||◌, Bool, true, false, nat_le, if◌then◌else◌, List, [], ◌∷◌, length, take, refl, ap, sym, ◌∙◌, subst, arith, Option, None, Some}
use Rattle.std.proofs.Math.Path.{fun_ext}
use Rattle.std.specs.Prelude.{is_none}
use Rattle.std.specs.Option.{option_map, unwrap_or}
use Rattle.std.specs.List.{fold, list_any, list_all, sum_by}
use Rattle.std.proofs.lemmas.List.{get_or-take, length-take-le, take_all}
use Rattle.limits.specs.declared.TheConstants.{TYPE_WORDS}
use Rattle.spirv_model.specs.declared.module.Inst.{Inst}
use Rattle.spirv_model.specs.declared.module.Words.{Words}
use Rattle.spirv_model.specs.declared.op.TheConstants as op
use Rattle.spirv_model.specs.Operands.{word_at, words_from}
use Rattle.valid_model.specs.declared.meaning.IdFacts.{IdFacts}
use Rattle.valid_model.specs.declared.meaning.Meaning.{Meaning}
use Rattle.valid_model.specs.declared.meaning.Meaning.TheVariants.{Absent, Shape as OfShape, Constant, Variable, Value as OfValue, Label, Other}
use Rattle.valid_model.specs.declared.meaning.Shape.{Shape}
use Rattle.valid_model.specs.declared.meaning.Shape.TheVariants.{Struct}
use Rattle.valid_model.specs.Definitions.{has_result, gives, inst_at, no_instruction}
use Rattle.valid_model.specs.Knowledge.{Knowledge, a_type, is_data, is_void, meaning_in, size_in, length_in, means, nothing_known}
use Rattle.valid_model.specs.Types.{is_type, constant_length, vector_shape, vector_type, array_type, struct_type, pointer_type, function_type, type_of}
use Rattle.valid_model.specs.Meanings.{is_constant, constant_known, known_of, known_after, known_by, known_before, meaning}
use Rattle.valid_model.proofs.KnownIds.{known_stays}
use Rattle.check_model.specs.Validity.{IsValidList}
use Rattle.typed_model.proofs.BlockParts.{clash}
use Rattle.typed_model.proofs.ValidModules.{valid_sound}
use Rattle.change_model.specs.Dropping.{is_dropped, entry_without, dropped, MayDrop}
use Rattle.change_model.specs.PlanRules.{is_shape}
use Rattle.change_model.proofs.ChangedShapes.{shape_in}
use Rattle.change_model.proofs.DroppedDefinitions.{gives_kept, gives_no_gone}
use Rattle.change_model.proofs.DroppedPlaces.{DroppedPlace, entry_same, entry_silent}
use Rattle.change_model.proofs.SameFacts.{TellsTypes, same_told}
use Rattle.change_model.proofs.SettledRules.{take_take}
use Rattle.change_model.proofs.Sifted.{sifted_cons, sifted_gone}
use Rattle.change_model.proofs.StayingWords.{Stays, array_stays, struct_stays}

-- ---- knowledge without what goes

abbrev pub known_without : (ℕ → Bool) → Knowledge → Knowledge
known_without gone known id = if gone id then None else known id

-- no id that goes is a type
abbrev pub NoTypes : (ℕ → Bool) → Knowledge → Type 0
NoTypes gone known = (id : ℕ) → gone id ≡ true → shape_in (meaning_in (known id)) ≡ None

pub without_kept : (gone : ℕ → Bool) (known : Knowledge) (id : ℕ) → gone id ≡ false → known_without gone known id ≡ known id
without_kept gone known id stays = ap (λ (b : Bool). if b then None else known id) stays

pub without_gone : (gone : ℕ → Bool) (known : Knowledge) (id : ℕ) → gone id ≡ true → known_without gone known id ≡ None
without_gone gone known id is = ap (λ (b : Bool). if b then None else known id) is

-- what types are stays the same
pub without_shape : (gone : ℕ → Bool) (known : Knowledge) → NoTypes gone known → (id : ℕ) → shape_in (meaning_in (known_without gone known id)) ≡ shape_in (meaning_in (known id))
without_shape gone known none id = by_test (gone id) refl
  where
    by_test : (b : Bool) → gone id ≡ b → shape_in (meaning_in (known_without gone known id)) ≡ shape_in (meaning_in (known id))
    by_test true is = ap (λ (o : Option IdFacts). shape_in (meaning_in o)) (without_gone gone known id is) ∙ sym (none id is)
    by_test false stays = ap (λ (o : Option IdFacts). shape_in (meaning_in o)) (without_kept gone known id stays)

pub without_told : {R : Type 0} (f : Meaning → R) → TellsTypes f → (gone : ℕ → Bool) (known : Knowledge) → NoTypes gone known → (id : ℕ) → f (meaning_in (known_without gone known id)) ≡ f (meaning_in (known id))
without_told f t gone known none id = same_told f t (meaning_in (known_without gone known id)) (meaning_in (known id)) (without_shape gone known none id)

-- ---- types

tells_vector : (count : ℕ) → TellsTypes (λ m. vector_shape m count)
tells_vector count = record { constant = λ type. refl; variable = λ type class. refl; value = λ type. refl; label = refl; other = refl }

pub tells_data : TellsTypes is_data
tells_data = record { constant = λ type. refl; variable = λ type class. refl; value = λ type. refl; label = refl; other = refl }

pub tells_void : TellsTypes is_void
tells_void = record { constant = λ type. refl; variable = λ type class. refl; value = λ type. refl; label = refl; other = refl }

tells_length : (word : ℕ) → TellsTypes (λ m. constant_length m word)
tells_length word = record { constant = λ type. refl; variable = λ type class. refl; value = λ type. refl; label = refl; other = refl }

-- members that stay
members_data : (gone : ℕ → Bool) (known : Knowledge) (members : List ℕ) → list_any gone members ≡ false → list_all (λ id. is_data (meaning_in (known_without gone known id))) members ≡ list_all (λ id. is_data (meaning_in (known id))) members
members_data gone known [] stay = refl
members_data gone known (id ∷ members) stay = by_test (gone id) refl stay (members_data gone known members)
  where
    by_test : (b : Bool) → gone id ≡ b → (b || list_any gone members) ≡ false → (list_any gone members ≡ false → list_all (λ id. is_data (meaning_in (known_without gone known id))) members ≡ list_all (λ id. is_data (meaning_in (known id))) members)
        → (is_data (meaning_in (known_without gone known id)) && list_all (λ id. is_data (meaning_in (known_without gone known id))) members) ≡ (is_data (meaning_in (known id)) && list_all (λ id. is_data (meaning_in (known id))) members)
    by_test true is stay rest = cc
    by_test false is stay rest =
        ap (λ (o : Option IdFacts). is_data (meaning_in o) && list_all (λ id. is_data (meaning_in (known_without gone known id))) members) (without_kept gone known id is)
        ∙ ap (λ (b : Bool). is_data (meaning_in (known id)) && b) (rest stay)

members_sized : (gone : ℕ → Bool) (known : Knowledge) (members : List ℕ) (n : ℕ) → list_any gone members ≡ false
    → fold (λ (sum : ℕ) (id : ℕ). sum + size_in (known_without gone known id)) n members ≡ fold (λ (sum : ℕ) (id : ℕ). sum + size_in (known id)) n members
members_sized gone known [] n stay = refl
members_sized gone known (id ∷ members) n stay = by_test (gone id) refl stay (members_sized gone known members)
  where
    by_test : (b : Bool) → gone id ≡ b → (b || list_any gone members) ≡ false
        → ((n : ℕ) → list_any gone members ≡ false → fold (λ (sum : ℕ) (id : ℕ). sum + size_in (known_without gone known id)) n members ≡ fold (λ (sum : ℕ) (id : ℕ). sum + size_in (known id)) n members)
        → fold (λ (sum : ℕ) (id : ℕ). sum + size_in (known_without gone known id)) (n + size_in (known_without gone known id)) members ≡ fold (λ (sum : ℕ) (id : ℕ). sum + size_in (known id)) (n + size_in (known id)) members
    by_test true is stay rest = cc
    by_test false is stay rest =
        rest (n + size_in (known_without gone known id)) stay
        ∙ ap (λ (o : Option IdFacts). fold (λ (sum : ℕ) (id : ℕ). sum + size_in (known id)) (n + size_in o) members) (without_kept gone known id is)

structure : Bool → ℕ → List ℕ → Option IdFacts
structure data_like size members = option_map (λ (size : ℕ). a_type (Struct (record { list = members })) size) (if data_like && nat_le size TYPE_WORDS then Some size else None)

structure_is : (known : Knowledge) (members : List ℕ) → struct_type known members ≡ structure (list_all (λ id. is_data (meaning_in (known id))) members) (sum_by (λ id. size_in (known id)) members) members
unfolding structure
structure_is known members = refl

struct_same : (gone : ℕ → Bool) (known : Knowledge) (members : List ℕ) → list_any gone members ≡ false → struct_type (known_without gone known) members ≡ struct_type known members
struct_same gone known members stay =
    structure_is (known_without gone known) members
    ∙ ap (λ (b : Bool). structure b (sum_by (λ id. size_in (known_without gone known id)) members) members) (members_data gone known members stay)
    ∙ ap (λ (n : ℕ). structure (list_all (λ id. is_data (meaning_in (known id))) members) n members) (members_sized gone known members 0 stay)
    ∙ sym (structure_is known members)

pub either_way : {R : Type 0} (b : Bool) (x x' y y' : R) → (b ≡ true → x ≡ x') → y ≡ y' → (if b then x else y) ≡ (if b then x' else y')
either_way true x x' y y' here there = here refl
either_way false x x' y y' here there = there

-- the type that an instruction declares without naming an id that goes
pub type_stays : (gone : ℕ → Bool) (known : Knowledge) → NoTypes gone known → (inst : Inst) → Stays gone inst → type_of (known_without gone known) inst ≡ type_of known inst
unfolding type_of
type_stays gone known none inst s =
    either_way (inst.op == op.TYPE_VOID) _ _ _ _ (λ is. refl)
    (either_way (inst.op == op.TYPE_BOOL) _ _ _ _ (λ is. refl)
    (either_way (inst.op == op.TYPE_INT) _ _ _ _ (λ is. refl)
    (either_way (inst.op == op.TYPE_VECTOR) _ _ _ _ (λ is. vector)
    (either_way (inst.op == op.TYPE_ARRAY) _ _ _ _ (λ is. array (array_stays gone inst s is))
    (either_way (inst.op == op.TYPE_STRUCT) _ _ _ _ (λ is. struct_same gone known (words_from 1 inst) (struct_stays gone inst s is))
    (either_way (inst.op == op.TYPE_POINTER) _ _ _ _ (λ is. pointer)
    (either_way (inst.op == op.TYPE_FUNCTION) _ _ _ _ (λ is. returned) refl)))))))
  where
    vector : vector_type (meaning_in (known_without gone known (word_at 1 inst))) (word_at 2 inst) ≡ vector_type (meaning_in (known (word_at 1 inst))) (word_at 2 inst)
    vector = ap (λ (o : Option Shape). if nat_le 2 (word_at 2 inst) && nat_le (word_at 2 inst) 4 then option_map (λ (shape : Shape). a_type shape (word_at 2 inst)) o else None)
        (without_told (λ m. vector_shape m (word_at 2 inst)) (tells_vector (word_at 2 inst)) gone known none (word_at 1 inst))

    array : (gone (word_at 1 inst) ≡ false) × (gone (word_at 2 inst) ≡ false) → array_type (known_without gone known (word_at 1 inst)) (word_at 1 inst) (length_in (known_without gone known (word_at 2 inst)))
        ≡ array_type (known (word_at 1 inst)) (word_at 1 inst) (length_in (known (word_at 2 inst)))
    array stay =
        ap (λ (o : Option IdFacts). array_type o (word_at 1 inst) (length_in (known_without gone known (word_at 2 inst)))) (without_kept gone known (word_at 1 inst) stay.0)
        ∙ ap (λ (o : Option IdFacts). array_type (known (word_at 1 inst)) (word_at 1 inst) (length_in o)) (without_kept gone known (word_at 2 inst) stay.1)

    pointer : pointer_type (meaning_in (known_without gone known (word_at 2 inst))) (word_at 1 inst) (word_at 2 inst) ≡ pointer_type (meaning_in (known (word_at 2 inst))) (word_at 1 inst) (word_at 2 inst)
    pointer = without_told (λ m. pointer_type m (word_at 1 inst) (word_at 2 inst)) (record { constant = λ type. refl; variable = λ type class. refl; value = λ type. refl; label = refl; other = refl }) gone known none (word_at 2 inst)

    returned : function_type (meaning_in (known_without gone known (word_at 1 inst))) ≡ function_type (meaning_in (known (word_at 1 inst)))
    returned = without_told function_type (record { constant = λ type. refl; variable = λ type class. refl; value = λ type. refl; label = refl; other = refl }) gone known none (word_at 1 inst)

-- ---- results

constant_stays : (gone : ℕ → Bool) (known : Knowledge) → NoTypes gone known → (opcode type word : ℕ) → constant_known (known_without gone known) opcode type word ≡ constant_known known opcode type word
constant_stays gone known none opcode type word =
    ap (λ (n : ℕ). record { meaning = Constant type; size = 0; length = n }) (either_way (opcode == op.CONSTANT) _ _ 0 0 (λ is. without_told (λ m. constant_length m word) (tells_length word) gone known none type) refl)

-- what is known of its result
pub known_of_stays : (gone : ℕ → Bool) (known : Knowledge) → NoTypes gone known → (inst : Inst) → Stays gone inst → known_of (known_without gone known) inst ≡ known_of known inst
unfolding known_of
known_of_stays gone known none inst s =
    either_way (is_type inst.op) _ _ _ _ (λ is. ap (λ (o : Option IdFacts). unwrap_or o (means Other)) (type_stays gone known none inst s))
    (either_way (is_constant inst.op) _ _ _ _ (λ is. constant_stays gone known none inst.op (word_at 0 inst) (word_at 2 inst)) refl)

-- ---- behind more instructions

one_more : (here here' : Bool) (new old : Option IdFacts) (made made' : IdFacts) → here ≡ here' → new ≡ old → (here' ≡ true → made ≡ made')
    → (if here && is_none new then Some made else new) ≡ (if here' && is_none old then Some made' else old)
one_more here true new old made made' is same made_same =
    ap (λ (b : Bool). if b && is_none new then Some made else new) is ∙ ap (λ (k : Option IdFacts). if is_none k then Some made else k) same ∙ ap (λ (f : IdFacts). if is_none old then Some f else old) (made_same refl)
one_more here false new old made made' is same made_same = ap (λ (b : Bool). if b && is_none new then Some made else new) is ∙ same

after_kept : (gone : ℕ → Bool) (known : Knowledge) → NoTypes gone known → (inst : Inst) → is_dropped gone inst ≡ false → (inst.op == op.ENTRY_POINT ≡ false → Stays gone inst)
    → known_after (known_without gone known) (entry_without gone inst) ≡ known_without gone (known_after known inst)
unfolding known_after
after_kept gone known none inst stays s = fun_ext (λ id. by_gone id (gone id) refl)
  where
    made : (id : ℕ) (b : Bool) → inst.op == op.ENTRY_POINT ≡ b → gives id inst ≡ true → known_of (known_without gone known) (entry_without gone inst) ≡ known_of known inst
    made id true entry is = absurd (clash (gives id inst) is (ap (has_result id) (entry_silent inst entry)))
    made id false isnt is = ap (known_of (known_without gone known)) (entry_same gone inst isnt) ∙ known_of_stays gone known none inst (s isnt)

    by_gone : (id : ℕ) (b : Bool) → gone id ≡ b → known_after (known_without gone known) (entry_without gone inst) id ≡ known_without gone (known_after known inst) id
    by_gone id true is =
        ap (λ (b : Bool). if b && is_none (known_without gone known id) then Some (known_of (known_without gone known) (entry_without gone inst)) else known_without gone known id) (gives_no_gone gone id inst is stays)
        ∙ without_gone gone known id is ∙ sym (without_gone gone (known_after known inst) id is)
    by_gone id false is =
        one_more (gives id (entry_without gone inst)) (gives id inst) (known_without gone known id) (known id) _ _ ((gives_kept gone id is).kept inst stays) (without_kept gone known id is) (made id (inst.op == op.ENTRY_POINT) refl)
        ∙ sym (without_kept gone (known_after known inst) id is)

after_dropped : (gone : ℕ → Bool) (known : Knowledge) (inst : Inst) → is_dropped gone inst ≡ true → known_without gone known ≡ known_without gone (known_after known inst)
unfolding known_after
after_dropped gone known inst is = fun_ext (λ id. by_gone id (gone id) refl)
  where
    by_gone : (id : ℕ) (b : Bool) → gone id ≡ b → known_without gone known id ≡ known_without gone (known_after known inst) id
    by_gone id true goes = without_gone gone known id goes ∙ sym (without_gone gone (known_after known inst) id goes)
    by_gone id false stays =
        without_kept gone known id stays
        ∙ sym (ap (λ (b : Bool). if b && is_none (known id) then Some (known_of known inst) else known id) ((gives_kept gone id stays).gone inst is))
        ∙ sym (without_kept gone (known_after known inst) id stays)

-- at each place no id that goes is a type, and what stays names none
record Steady (gone : ℕ → Bool) (known : Knowledge) (insts : List Inst) : Type 0 where
  none : (k : ℕ) → k < length insts → NoTypes gone (fold known_after known (take k insts))
  names : (k : ℕ) → k < length insts → is_dropped gone (inst_at insts k) ≡ false → (inst_at insts k).op == op.ENTRY_POINT ≡ false → Stays gone (inst_at insts k)

known_sifted : (gone : ℕ → Bool) (insts : List Inst) (known : Knowledge) → Steady gone known insts → fold known_after (known_without gone known) (dropped gone insts) ≡ known_without gone (fold known_after known insts)
unfolding dropped
known_sifted gone [] known s = refl
known_sifted gone (inst ∷ insts) known s = by_test (known_sifted gone insts) (is_dropped gone inst) refl
  where
    later : Steady gone (known_after known inst) insts
    later = record { none = λ k within. s.none (suc k) (omega (arith, within)); names = λ k within. s.names (suc k) (omega (arith, within)) }

    by_test : ((known : Knowledge) → Steady gone known insts → fold known_after (known_without gone known) (dropped gone insts) ≡ known_without gone (fold known_after known insts))
        → (b : Bool) → is_dropped gone inst ≡ b → fold known_after (known_without gone known) (dropped gone (inst ∷ insts)) ≡ known_without gone (fold known_after (known_after known inst) insts)
    by_test rest true is =
        ap (fold known_after (known_without gone known)) (sifted_gone (is_dropped gone) (entry_without gone) inst insts is)
        ∙ ap (λ (k : Knowledge). fold known_after k (dropped gone insts)) (after_dropped gone known inst is)
        ∙ rest (known_after known inst) later
    by_test rest false stays =
        ap (fold known_after (known_without gone known)) (sifted_cons (is_dropped gone) (entry_without gone) inst insts stays)
        ∙ ap (λ (k : Knowledge). fold known_after k (dropped gone insts)) (after_kept gone known (s.none 0 (omega arith)) inst stays (s.names 0 (omega arith) stays))
        ∙ rest (known_after known inst) later

-- ---- of a module

no_shape : (m : Meaning) → is_shape m ≡ false → shape_in m ≡ None
no_shape (OfShape shape) isnt = cc
no_shape Absent isnt = refl
no_shape (Constant type) isnt = refl
no_shape (Variable type class) isnt = refl
no_shape (OfValue type) isnt = refl
no_shape Label isnt = refl
no_shape Other isnt = refl

-- what goes is no type
pub none_goes : (words : Words) (v : IsValidList words) (gone : ℕ → Bool) → MayDrop words v gone → NoTypes gone (known_by words.insts)
none_goes words v gone m = λ id is. no_shape (meaning words.insts id) (m.level id is).no_type

pub none_goes_before : (words : Words) (v : IsValidList words) (gone : ℕ → Bool) → MayDrop words v gone → (k : ℕ) → NoTypes gone (known_before words.insts k)
none_goes_before words v gone m k = λ id is. by_known id is (known_before words.insts k id) refl
  where
    by_known : (id : ℕ) → gone id ≡ true → (known : Option IdFacts) → known_before words.insts k id ≡ known → shape_in (meaning_in (known_before words.insts k id)) ≡ None
    by_known id is None at = ap (λ (o : Option IdFacts). shape_in (meaning_in o)) at
    by_known id is (Some f) at =
        ap (λ (o : Option IdFacts). shape_in (meaning_in o)) at
        ∙ sym (ap (λ (o : Option IdFacts). shape_in (meaning_in o)) (known_stays words.insts k id f at)) ∙ none_goes words v gone m id is

-- what is left names nothing that goes, but for an entry point
pub names_stay : (words : Words) (v : IsValidList words) (gone : ℕ → Bool) → MayDrop words v gone → (k : ℕ) → k < length words.insts → is_dropped gone (inst_at words.insts k) ≡ false
    → (inst_at words.insts k).op == op.ENTRY_POINT ≡ false → Stays gone (inst_at words.insts k)
names_stay words v gone m k within stays isnt = record { shaped = (valid_sound words v).shaped k within; none = m.unused k stays isnt }

steady : (words : Words) (v : IsValidList words) (gone : ℕ → Bool) → MayDrop words v gone → (k : ℕ) → k ≤ length words.insts → Steady gone nothing_known (take k words.insts)
unfolding known_by
steady words v gone m k most = record {
  none = λ j within.
      let long = length-take-le k words.insts in
      let less : j < k = omega (arith, within, long, most) in
      subst (λ (l : List Inst). NoTypes gone (fold known_after nothing_known l)) (sym (take_take j k words.insts (omega (arith, less)))) (none_goes_before words v gone m j);
  names = λ j within stays isnt.
      let long = length-take-le k words.insts in
      let less : j < k = omega (arith, within, long, most) in
      let e = get_or-take k words.insts j no_instruction less in
      subst (Stays gone) (sym e) (names_stay words v gone m j (omega (arith, less, most)) (ap (is_dropped gone) (sym e) ∙ stays) (ap (λ (i : Inst). i.op == op.ENTRY_POINT) (sym e) ∙ isnt));
}

nothing_without : (gone : ℕ → Bool) → nothing_known ≡ known_without gone nothing_known
nothing_without gone = fun_ext (λ id. by_test (gone id))
  where
    by_test : (b : Bool) → ◌≡◌ {A = Option IdFacts} None (if b then None else None)
    by_test true = refl
    by_test false = refl

pub known_taken : (words : Words) (v : IsValidList words) (gone : ℕ → Bool) → MayDrop words v gone → (k : ℕ) → k ≤ length words.insts
    → known_by (dropped gone (take k words.insts)) ≡ known_without gone (known_before words.insts k)
unfolding known_by
known_taken words v gone m k most =
    ap (λ (known : Knowledge). fold known_after known (dropped gone (take k words.insts))) (nothing_without gone) ∙ known_sifted gone (take k words.insts) nothing_known (steady words v gone m k most)

-- what is known before a place
pub known_dropped_before : (words : Words) (v : IsValidList words) (gone : ℕ → Bool) → MayDrop words v gone → (place : ℕ) → (p : DroppedPlace gone words.insts place)
    → known_before (dropped gone words.insts) place ≡ known_without gone (known_before words.insts p.old)
known_dropped_before words v gone m place p = ap known_by p.front ∙ known_taken words v gone m p.old (let w = p.within in omega (arith, w))

-- what is known of each id
pub known_dropped : (words : Words) (v : IsValidList words) (gone : ℕ → Bool) → MayDrop words v gone → known_by (dropped gone words.insts) ≡ known_without gone (known_by words.insts)
known_dropped words v gone m =
    let all : take (length words.insts) words.insts ≡ words.insts = take_all (length words.insts) words.insts (omega arith) in
    ap (λ (l : List Inst). known_by (dropped gone l)) (sym all) ∙ known_taken words v gone m (length words.insts) (omega arith) ∙ ap (λ (l : List Inst). known_without gone (known_by l)) all

-- an id that stays means what it meant
pub meaning_kept : (words : Words) (v : IsValidList words) (gone : ℕ → Bool) → MayDrop words v gone → (id : ℕ) → gone id ≡ false → meaning (dropped gone words.insts) id ≡ meaning words.insts id
meaning_kept words v gone m id stays = ap (λ (k : Knowledge). meaning_in (k id)) (known_dropped words v gone m) ∙ ap meaning_in (without_kept gone (known_by words.insts) id stays)

pub meaning_gone : (words : Words) (v : IsValidList words) (gone : ℕ → Bool) → MayDrop words v gone → (id : ℕ) → gone id ≡ true → meaning (dropped gone words.insts) id ≡ Absent
meaning_gone words v gone m id is = ap (λ (k : Knowledge). meaning_in (k id)) (known_dropped words v gone m) ∙ ap meaning_in (without_gone gone (known_by words.insts) id is)

-- types are the same, of each id
pub shapes_dropped : (words : Words) (v : IsValidList words) (gone : ℕ → Bool) → MayDrop words v gone → (id : ℕ) → shape_in (meaning (dropped gone words.insts) id) ≡ shape_in (meaning words.insts id)
shapes_dropped words v gone m id = ap (λ (k : Knowledge). shape_in (meaning_in (k id))) (known_dropped words v gone m) ∙ without_shape gone (known_by words.insts) (none_goes words v gone m) id
