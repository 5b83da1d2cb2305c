-- Types are allowed as before where variables and constants are dropped.
use Rattle.std.proofs.Common.{◌≡◌, ℕ, ◌<◌, ◌==◌, ◌&&◌, ◌||◌, inl, inr, Bool, true, false, not, nat_lt, List, length, refl, ap, sym, ◌∙◌, arith, le-ltb, Option, None, Some}
use Rattle.std.specs.Prelude.{is_none}
use Rattle.std.specs.Option.{option_map}
use Rattle.std.proofs.lemmas.Bool.{cases_lt, lt-ltb}
use Rattle.spirv_model.specs.declared.module.Inst.{Inst}
use Rattle.spirv_model.specs.declared.module.Words.{Words}
use Rattle.spirv_model.specs.declared.op.TheConstants as op
use Rattle.spirv_model.specs.Operands.{word_at, entry_of, class_of}
use Rattle.valid_model.specs.Definitions.{inst_at, definition}
use Rattle.valid_model.specs.Knowledge.{Knowledge, is_void}
use Rattle.valid_model.specs.Meanings.{known_before}
use Rattle.valid_model.specs.Types.{is_type, is_pointer_of, is_function, breaks_types, result_type, is_type_after, is_later_type, has_later_type}
use Rattle.valid_model.specs.FirstFault.{bad_type}
use Rattle.check_model.specs.Validity.{IsValidList}
use Rattle.typed_model.proofs.ValidTypes.{defined_within}
use Rattle.change_model.specs.Dropping.{entry_without, dropped, MayDrop}
use Rattle.change_model.proofs.DroppedDefinitions.{definition_gone, definition_stays, definition_kept}
use Rattle.change_model.proofs.DroppedMeanings.{known_without, NoTypes, without_told, tells_void, either_way, type_stays, none_goes_before, names_stay, known_dropped_before}
use Rattle.change_model.proofs.DroppedPlaces.{dropped_left, DroppedPlace, dropped_to, dropped_rises, kept_place, entry_op, entry_same}
use Rattle.change_model.proofs.SameFacts.{TellsTypes}
use Rattle.change_model.proofs.Settlings.{op_is}
use Rattle.change_model.proofs.StayingWords.{Stays}

-- ---- by what is known

tells_pointer : (class : ℕ) → TellsTypes (is_pointer_of class)
tells_pointer class = record { constant = λ type. refl; variable = λ type class. refl; value = λ type. refl; label = refl; other = refl }

tells_function : TellsTypes is_function
tells_function = record { constant = λ type. refl; variable = λ type class. refl; value = λ type. refl; label = refl; other = refl }

-- an instruction that names no id that goes
pub breaks_same : (gone : ℕ → Bool) (known : Knowledge) → NoTypes gone known → (inst : Inst) → Stays gone inst → breaks_types (known_without gone known) inst ≡ breaks_types known inst
unfolding breaks_types
breaks_same gone known none inst s =
    either_way (is_type inst.op) _ _ _ _ (λ is. ap is_none (type_stays gone known none inst s))
    (either_way (inst.op == op.VARIABLE) _ _ _ _ (λ is. ap not (without_told (is_pointer_of (word_at 2 inst)) (tells_pointer (word_at 2 inst)) gone known none (word_at 0 inst)))
    (either_way (inst.op == op.FUNCTION) _ _ _ _ (λ is. ap not (both (without_told is_void tells_void gone known none (word_at 0 inst)) (without_told is_function tells_function gone known none (word_at 3 inst)))) refl))
  where
    both : {a b a' b' : Bool} → a ≡ a' → b ≡ b' → (a && b) ≡ (a' && b')
    both p q = cc

entry_allowed : (known : Knowledge) (words : List ℕ) → breaks_types known (record { op = op.ENTRY_POINT; words = words }) ≡ false
unfolding breaks_types class_of entry_of
entry_allowed known words = refl

entry_typeless : (words : List ℕ) → result_type (record { op = op.ENTRY_POINT; words = words }) ≡ None
unfolding result_type entry_of
entry_typeless words = refl

allowed_left : (words : Words) (v : IsValidList words) (gone : ℕ → Bool) → MayDrop words v gone → (place : ℕ) → (p : DroppedPlace gone words.insts place)
    → breaks_types (known_before words.insts p.old) (inst_at words.insts p.old) ≡ false → breaks_types (known_before (dropped gone words.insts) place) (inst_at (dropped gone words.insts) place) ≡ false
allowed_left words v gone m place p good =
    ap (λ (k : Knowledge). breaks_types k (inst_at (dropped gone words.insts) place)) (known_dropped_before words v gone m place p)
    ∙ ap (breaks_types known) p.inst ∙ by_test (inst.op == op.ENTRY_POINT) refl
  where
    known : Knowledge
    known = known_without gone (known_before words.insts p.old)

    inst : Inst
    inst = inst_at words.insts p.old

    by_test : (b : Bool) → inst.op == op.ENTRY_POINT ≡ b → breaks_types known (entry_without gone inst) ≡ false
    by_test true is =
        let left = entry_without gone inst in
        ap (λ (o : ℕ). breaks_types known (record { op = o; words = left.words })) (entry_op gone inst ∙ op_is inst.op op.ENTRY_POINT is) ∙ entry_allowed known left.words
    by_test false isnt =
        ap (breaks_types known) (entry_same gone inst isnt)
        ∙ breaks_same gone (known_before words.insts p.old) (none_goes_before words v gone m p.old) inst (names_stay words v gone m p.old p.within p.stays isnt) ∙ good

-- ---- types that are defined later

pub type_left : (gone : ℕ → Bool) (inst : Inst) → result_type (entry_without gone inst) ≡ result_type inst
type_left gone inst = by_test (inst.op == op.ENTRY_POINT) refl
  where
    none : (inst : Inst) → inst.op ≡ op.ENTRY_POINT → result_type inst ≡ None
    none inst is = ap (λ (o : ℕ). result_type (record { op = o; words = inst.words })) is ∙ entry_typeless inst.words

    by_test : (b : Bool) → inst.op == op.ENTRY_POINT ≡ b → result_type (entry_without gone inst) ≡ result_type inst
    by_test true is = none (entry_without gone inst) (entry_op gone inst ∙ op_is inst.op op.ENTRY_POINT is) ∙ sym (none inst (op_is inst.op op.ENTRY_POINT is))
    by_test false isnt = ap result_type (entry_same gone inst isnt)

no_later : (gone : ℕ → Bool) (insts : List Inst) (place : ℕ) → place < length (dropped gone insts) → (p : DroppedPlace gone insts place) → (type : Option ℕ)
    → is_later_type insts p.old type ≡ false → is_later_type (dropped gone insts) place type ≡ false
no_later gone insts place within p None good = refl
no_later gone insts place within p (Some type) good = by_gone (gone type) refl
  where
    by_op : (a b c d : Bool) → (a && b) ≡ false → b ≡ d → (c ≡ true → a ≡ true) → (c && d) ≡ false
    by_op a b false d none same less = refl
    by_op a false true d none same less = sym same
    by_op a true true d none same less = absurd (never a none (less refl))
      where
        never : (a : Bool) → (a && true) ≡ false → a ≡ true → ⊥
        never true none is = cc
        never false none is = cc

    earlier : (at : ℕ) → nat_lt place (dropped_left gone insts at) ≡ true → nat_lt p.old at ≡ true
    earlier at less = elim (cases_lt p.old at) [
      | inl early ↦ lt-ltb p.old at early
      | inr late ↦
          let e = dropped_to gone insts place within p in
          let rises = dropped_rises gone insts at p.old late in
          absurd (never (nat_lt place (dropped_left gone insts at)) less (le-ltb place (dropped_left gone insts at) (omega (arith, e, rises))))
    ]
      where
        never : (b : Bool) → b ≡ true → b ≡ false → ⊥
        never true is isnt = cc
        never false is isnt = cc

    by_found : gone type ≡ false → (found : Option ℕ) → definition insts type ≡ found → is_type_after insts p.old found ≡ false → is_type_after (dropped gone insts) place (option_map (dropped_left gone insts) found) ≡ false
    by_found stays None at good = refl
    by_found stays (Some at) is good =
        let k = kept_place gone insts at (defined_within insts type at is) (definition_stays gone insts type at stays is) in
        by_op (nat_lt p.old at) (is_type (inst_at insts at).op) (nat_lt place (dropped_left gone insts at)) (is_type (inst_at (dropped gone insts) (dropped_left gone insts at)).op) good
        (sym (ap (λ (i : Inst). is_type i.op) k.inst ∙ ap is_type (entry_op gone (inst_at insts at)))) (earlier at)

    by_gone : (b : Bool) → gone type ≡ b → is_type_after (dropped gone insts) place (definition (dropped gone insts) type) ≡ false
    by_gone true is = ap (is_type_after (dropped gone insts) place) (definition_gone gone insts type is)
    by_gone false stays = ap (is_type_after (dropped gone insts) place) (definition_kept gone insts type stays) ∙ by_found stays (definition insts type) refl good

none_later : (gone : ℕ → Bool) (insts : List Inst) (place : ℕ) → place < length (dropped gone insts) → (p : DroppedPlace gone insts place) → has_later_type insts p.old ≡ false → has_later_type (dropped gone insts) place ≡ false
unfolding has_later_type
none_later gone insts place within p good =
    ap (λ (i : Inst). is_later_type (dropped gone insts) place (result_type i)) p.inst
    ∙ ap (is_later_type (dropped gone insts) place) (type_left gone (inst_at insts p.old))
    ∙ no_later gone insts place within p (result_type (inst_at insts p.old)) good

-- ---- at a place

pub types_dropped : (words : Words) (v : IsValidList words) (gone : ℕ → Bool) → MayDrop words v gone → (place : ℕ) → place < length (dropped gone words.insts) → (p : DroppedPlace gone words.insts place)
    → bad_type words.insts p.old ≡ false → bad_type (dropped gone words.insts) place ≡ false
unfolding bad_type
types_dropped words v gone m place within p good =
    let n = neither (breaks_types (known_before words.insts p.old) (inst_at words.insts p.old)) (has_later_type words.insts p.old) good in
    both_false (breaks_types (known_before (dropped gone words.insts) place) (inst_at (dropped gone words.insts) place)) (has_later_type (dropped gone words.insts) place)
    (allowed_left words v gone m place p n.0) (none_later gone words.insts place within p n.1)
  where
    neither : (a b : Bool) → (a || b) ≡ false → (a ≡ false) × (b ≡ false)
    neither true b is = cc
    neither false b is = (refl, is)

    both_false : (a b : Bool) → a ≡ false → b ≡ false → (a || b) ≡ false
    both_false a b is also = rw is also
