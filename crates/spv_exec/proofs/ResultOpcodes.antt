-- Instructions that give a value, by their opcodes.
use Rattle.std.proofs.Common.{◌≡◌, ℕ, ◌==◌, ◌||◌, ◌&&◌, not, Bool, true, false, List, refl, ap, sym, ◌∙◌, arith, Option, None, Some}
use Rattle.std.specs.List.{list_all}
use Rattle.std.proofs.lemmas.Bool.Decides.{nat_tests}
use Rattle.spirv_model.specs.declared.class.Class.{Class}
use Rattle.spirv_model.specs.declared.op.TheConstants as op
use Rattle.spirv_model.specs.declared.table.Entry.{Entry}
use Rattle.spirv_model.specs.declared.table.Row.{Row}
use Rattle.spirv_model.specs.declared.table.TheConstants.{ROWS}
use Rattle.spirv_model.specs.Operands.{entry_of, class_in, class_of}
use Rattle.stage_model.specs.Effect.{has_result_class}
use Rattle.typed_model.proofs.ResultIds.{in_rows}
use Rattle.spv_exec.specs.Opcodes.{is_scalar_class, is_on_components, gives_result}

-- those that aren't on components
abbrev pub has_own_code : ℕ → Bool
has_own_code opcode =
    (opcode == op.VARIABLE) || ((opcode == op.LOAD) || ((opcode == op.ACCESS_CHAIN) || ((opcode == op.UNDEF) || ((opcode == op.VECTOR_SHUFFLE) || ((opcode == op.COMPOSITE_CONSTRUCT)
    || ((opcode == op.COMPOSITE_EXTRACT) || (opcode == op.COMPOSITE_INSERT)))))))

abbrev gives_by : ℕ → Option Class → Bool
gives_by opcode of = (opcode == op.VARIABLE) || (has_result_class of && not (opcode == op.STORE) && not (opcode == op.PHI))

abbrev on_components_by : ℕ → Option Class → Bool
on_components_by opcode of = (opcode == op.ANY) || (opcode == op.ALL) || is_scalar_class of

abbrev is_run : ℕ → Option Entry → Bool
is_run opcode entry = not (gives_by opcode (class_in entry)) || (has_own_code opcode || on_components_by opcode (class_in entry))

all_run : list_all (λ row. is_run row.op (Some row.entry)) ROWS ≡ true
all_run = refl

unknown : (variable other on : Bool) → (not (variable || false) || ((variable || other) || on)) ≡ true
unknown true other on = refl
unknown false other on = refl

three : (gives own on : Bool) → (not gives || (own || on)) ≡ true → gives ≡ true → own ≡ false → on ≡ true
three true true on is gives isnt = cc
three true false on is gives isnt = is
three false own on is gives isnt = cc

no_own : (a b c d e f g h : Bool) → a ≡ false → b ≡ false → c ≡ false → d ≡ false → e ≡ false → f ≡ false → g ≡ false → h ≡ false → (a || (b || (c || (d || (e || (f || (g || h))))))) ≡ false
no_own false false false false false false false false ia ib ic id ie if_ ig ih = refl
no_own true b c d e f g h ia ib ic id ie if_ ig ih = cc
no_own false true c d e f g h ia ib ic id ie if_ ig ih = cc
no_own false false true d e f g h ia ib ic id ie if_ ig ih = cc
no_own false false false true e f g h ia ib ic id ie if_ ig ih = cc
no_own false false false false true f g h ia ib ic id ie if_ ig ih = cc
no_own false false false false false true g h ia ib ic id ie if_ ig ih = cc
no_own false false false false false false true h ia ib ic id ie if_ ig ih = cc
no_own false false false false false false false true ia ib ic id ie if_ ig ih = cc

differs : (a b : ℕ) → (a ≡ b → ⊥) → a == b ≡ false
differs a b isnt = grind (arith, nat_tests)

-- any other one is
pub on_components : (opcode : ℕ) → gives_result opcode ≡ true → (opcode ≡ op.VARIABLE → ⊥) → (opcode ≡ op.LOAD → ⊥) → (opcode ≡ op.ACCESS_CHAIN → ⊥) → (opcode ≡ op.UNDEF → ⊥) → (opcode ≡ op.VECTOR_SHUFFLE → ⊥)
    → (opcode ≡ op.COMPOSITE_CONSTRUCT → ⊥) → (opcode ≡ op.COMPOSITE_EXTRACT → ⊥) → (opcode ≡ op.COMPOSITE_INSERT → ⊥) → is_on_components opcode ≡ true
unfolding gives_result is_on_components class_of entry_of
on_components opcode gives variable load chain undef shuffle construct extract insert =
    three (gives_by opcode (class_of opcode)) (has_own_code opcode) (on_components_by opcode (class_of opcode))
    (in_rows is_run (λ opcode. unknown (opcode == op.VARIABLE) _ _) ROWS opcode all_run) gives
    (no_own _ _ _ _ _ _ _ _ (differs opcode op.VARIABLE variable) (differs opcode op.LOAD load) (differs opcode op.ACCESS_CHAIN chain) (differs opcode op.UNDEF undef) (differs opcode op.VECTOR_SHUFFLE shuffle)
    (differs opcode op.COMPOSITE_CONSTRUCT construct) (differs opcode op.COMPOSITE_EXTRACT extract) (differs opcode op.COMPOSITE_INSERT insert))
