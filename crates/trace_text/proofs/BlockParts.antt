-- Words of a block, part by part.
use Rattle.std.proofs.Common.{◌≡◌, ℕ, zero, suc, lit<, ◌+◌, ◌*◌, ◌^◌, ◌<◌, ◌≤◌, ◌==◌, Bool, true, false, ◌&&◌, ◌||◌, List, [], ◌∷◌, ◌++◌, Option, None, Some, refl, ap, sym, ◌∙◌, arith}
use Rattle.std.specs.Prelude.{map, nat_lt, unwrap_or, ◌%◌}
use Rattle.std.specs.Option.{option_and_then}
use Rattle.std.proofs.Math.Nat.{pow-le-pow_right, div-eq_of_lt}
use Rattle.std.specs.List.{list_any, flat_map, range_with_len}
use Rattle.std.proofs.lemmas.Bool.Decides.{nat_tests}
use Rattle.spirv_model.specs.declared.module.Inst.{Inst}
use Rattle.body_model.specs.Switches.{is_among}
use Rattle.state_model.specs.declared.parts.Entry.{Entry}
use Rattle.draw_model.specs.Pixel.{has_bit}
use Rattle.valid_model.specs.declared.meaning.Shape.{Shape}
use Rattle.valid_model.specs.declared.meaning.Shape.TheVariants.{Void, Bool as OneBool, Int, BoolVector, IntVector, Array, Struct, Pointer, Function}
use Rattle.valid_model.specs.declared.meaning.Meaning.{Meaning}
use Rattle.valid_model.specs.declared.meaning.Meaning.TheVariants.{Absent, Shape as OfShape, Constant, Variable, Value, Label, Other}
use Rattle.stage_model.specs.Program.{Program, program_of, pointee, held, held_type, component_offsets, shifted, member_offsets, members_offsets, offsets_in, block_offsets}
use Rattle.trace_text.specs.ModuleParts.{is_behind, are_behind, array_of, components_behind, elements_behind, member_behind, members_behind, members_of, stride_in, variable_type, vector_behind}

-- ---- a choice over several lists

or_assoc : (a b c : Bool) → (a || (b || c)) ≡ ((a || b) || c)
or_assoc true b c = refl
or_assoc false b c = refl

pub any_append : {A : Type 0} (p : A → Bool) (xs ys : List A) → list_any p (xs ++ ys) ≡ (list_any p xs || list_any p ys)
any_append p [] ys = refl
any_append p (x ∷ xs) ys = ap (λ (b : Bool). p x || b) (any_append p xs ys) ∙ or_assoc (p x) (list_any p xs) (list_any p ys)

pub any_map : {A B : Type 0} (p : B → Bool) (f : A → B) (xs : List A) → list_any p (map f xs) ≡ list_any (λ x. p (f x)) xs
any_map p f [] = refl
any_map p f (x ∷ xs) = ap (λ (b : Bool). p (f x) || b) (any_map p f xs)

pub any_flat_map : {A B : Type 0} (p : B → Bool) (f : A → List B) (xs : List A) → list_any p (flat_map f xs) ≡ list_any (λ x. list_any p (f x)) xs
any_flat_map p f [] = refl
any_flat_map p f (x ∷ xs) = any_append p (f x) (flat_map f xs) ∙ ap (λ (b : Bool). list_any p (f x) || b) (any_flat_map p f xs)

pub any_same : {A : Type 0} (p q : A → Bool) → ((x : A) → p x ≡ q x) → (xs : List A) → list_any p xs ≡ list_any q xs
any_same p q same [] = refl
any_same p q same (x ∷ xs) = ap (λ (b : Bool). p x || b) (any_same p q same xs) ∙ ap (λ (b : Bool). b || list_any q xs) (same x)

-- ---- the components of a vector

some_more : (count : ℕ) → nat_lt 0 (suc count) ≡ true
some_more count = grind (arith, nat_tests)

last : (limit base first count : ℕ)
    → (nat_lt limit (base + 4 * first + 4) || (nat_lt 0 count && nat_lt limit (base + 4 * (first + 1 + count)))) ≡ nat_lt limit (base + 4 * (first + suc count))
last limit base first zero = by_end (nat_lt limit (base + 4 * first + 4)) ∙ ap (λ (n : ℕ). nat_lt limit n) (omega arith)
  where
    by_end : (b : Bool) → (b || false) ≡ b
    by_end true = refl
    by_end false = refl
last limit base first (suc count) =
    ap (λ (b : Bool). nat_lt limit (base + 4 * first + 4) || (b && nat_lt limit (base + 4 * (first + 1 + suc count)))) (some_more count)
    ∙ by_test (nat_lt limit (base + 4 * first + 4)) refl
  where
    same : base + 4 * (first + 1 + suc count) ≡ base + 4 * (first + suc (suc count))
    same = omega arith

    by_test : (least : Bool) → nat_lt limit (base + 4 * first + 4) ≡ least → (least || nat_lt limit (base + 4 * (first + 1 + suc count))) ≡ nat_lt limit (base + 4 * (first + suc (suc count)))
    by_test true h = grind (arith, nat_tests)
    by_test false h = ap (λ (n : ℕ). nat_lt limit n) same

components : (limit base first count : ℕ)
    → list_any (λ i. is_behind limit (base + 4 * i)) (range_with_len first count) ≡ (nat_lt 0 count && nat_lt limit (base + 4 * (first + count)))
components limit base first zero = refl
components limit base first (suc count) =
    ap (λ (b : Bool). is_behind limit (base + 4 * first) || b) (components limit base (first + 1) count) ∙ last limit base first count
    ∙ ap (λ (b : Bool). b && nat_lt limit (base + 4 * (first + suc count))) (sym (some_more count))

pub by_components : (limit base count : ℕ) → vector_behind limit base count ≡ (nat_lt 0 count && nat_lt limit (base + 4 * count))
by_components limit base count =
    any_map (is_behind limit) (λ offset. base + offset) (map (λ i. 4 * i) (range_with_len 0 count))
    ∙ any_map (λ offset. is_behind limit (base + offset)) (λ i. 4 * i) (range_with_len 0 count)
    ∙ components limit base 0 count
    ∙ ap (λ (n : ℕ). nat_lt 0 count && nat_lt limit (base + 4 * n)) (from_zero count)
  where
    from_zero : (n : ℕ) → 0 + n ≡ n
    from_zero n = omega arith

-- ---- parts of a program

pub held_by : (program : Program) (variable : ℕ) → held_type program variable ≡ option_and_then (λ type. pointee (program.meaning type)) (variable_type (program.meaning variable))
held_by program variable = by_meaning (program.meaning variable)
  where
    by_meaning : (meaning : Meaning) → held program.meaning meaning ≡ option_and_then (λ type. pointee (program.meaning type)) (variable_type meaning)
    by_meaning Absent = refl
    by_meaning (OfShape shape) = refl
    by_meaning (Constant type) = refl
    by_meaning (Variable type class) = refl
    by_meaning (Value type) = refl
    by_meaning Label = refl
    by_meaning Other = refl

pub block_by_members : (insts : List Inst) (limit block : ℕ)
    → are_behind limit (block_offsets (program_of insts) (Some block)) ≡ members_behind insts limit block 0 (members_of ((program_of insts).meaning block))
unfolding block_offsets
block_by_members insts limit block = by_meaning ((program_of insts).meaning block)
  where
    by_shape : (shape : Shape) → are_behind limit (offsets_in (program_of insts) block (OfShape shape)) ≡ members_behind insts limit block 0 (members_of (OfShape shape))
    by_shape Void = refl
    by_shape OneBool = refl
    by_shape (Int signed) = refl
    by_shape (BoolVector count) = refl
    by_shape (IntVector count signed) = refl
    by_shape (Array element count) = refl
    by_shape (Struct members) = refl
    by_shape (Pointer class to) = refl
    by_shape Function = refl

    by_meaning : (meaning : Meaning) → are_behind limit (offsets_in (program_of insts) block meaning) ≡ members_behind insts limit block 0 (members_of meaning)
    by_meaning Absent = refl
    by_meaning (OfShape shape) = by_shape shape
    by_meaning (Constant type) = refl
    by_meaning (Variable type class) = refl
    by_meaning (Value type) = refl
    by_meaning Label = refl
    by_meaning Other = refl

-- one member, and those after it
pub next_member : (insts : List Inst) (limit block member type : ℕ) (types : List ℕ)
    → members_behind insts limit block member (type ∷ types)
    ≡ (member_behind insts limit (unwrap_or ((program_of insts).offset block member) 0) type || members_behind insts limit block (member + 1) types)
next_member insts limit block member type types =
    any_append (is_behind limit) (shifted (unwrap_or ((program_of insts).offset block member) 0) (member_offsets (program_of insts) type ((program_of insts).meaning type)))
    (members_offsets (program_of insts) block (member + 1) types)

add_assoc : (a b c : ℕ) → a + (b + c) ≡ (a + b) + c
add_assoc a b c = omega arith

-- an offset after another
twice_shifted : (limit a b : ℕ) (offsets : List ℕ) → are_behind limit (shifted a (shifted b offsets)) ≡ are_behind limit (shifted (a + b) offsets)
twice_shifted limit a b [] = refl
twice_shifted limit a b (o ∷ offsets) =
    ap (λ (n : ℕ). is_behind limit n || are_behind limit (shifted a (shifted b offsets))) (add_assoc a b o)
    ∙ ap (λ (rest : Bool). is_behind limit (a + b + o) || rest) (twice_shifted limit a b offsets)

abbrev member_by : List Inst → (limit base type : ℕ) → Option (ℕ × ℕ) → Bool
member_by insts limit base type None = components_behind limit base ((program_of insts).meaning type)
member_by insts limit base type (Some array) = elements_behind limit base array.1 (stride_in (program_of insts) type) ((program_of insts).meaning array.0)

abbrev one : List Inst → (type element i : ℕ) → List ℕ
one insts type element i = shifted (i * stride_in (program_of insts) type) (component_offsets ((program_of insts).meaning element))

of_array : (insts : List Inst) (limit base type element count : ℕ)
    → are_behind limit (shifted base (member_offsets (program_of insts) type (OfShape (Array element count))))
    ≡ elements_behind limit base count (stride_in (program_of insts) type) ((program_of insts).meaning element)
of_array insts limit base type element count =
    any_map (is_behind limit) (λ offset. base + offset) (flat_map (one insts type element) (range_with_len 0 count))
    ∙ any_flat_map (λ offset. is_behind limit (base + offset)) (one insts type element) (range_with_len 0 count)
    ∙ any_same _ _ (λ i. sym (any_map (is_behind limit) (λ offset. base + offset) (one insts type element i)) ∙ twice_shifted limit base (i * stride_in (program_of insts) type) (component_offsets ((program_of insts).meaning element)))
    (range_with_len 0 count)

abbrev same : List Inst → (limit base type : ℕ) → Meaning → Type 0
same insts limit base type meaning = are_behind limit (shifted base (member_offsets (program_of insts) type meaning)) ≡ member_by insts limit base type (array_of meaning)

pub by_array : (insts : List Inst) (limit base type : ℕ) → member_behind insts limit base type ≡ member_by insts limit base type (array_of ((program_of insts).meaning type))
by_array insts limit base type = by_meaning ((program_of insts).meaning type) refl
  where
    plain : (meaning : Meaning) → (program_of insts).meaning type ≡ meaning
        → are_behind limit (shifted base (component_offsets meaning)) ≡ components_behind limit base ((program_of insts).meaning type)
    plain meaning is = ap (λ m. are_behind limit (shifted base (component_offsets m))) (sym is)

    by_shape : (shape : Shape) → (program_of insts).meaning type ≡ OfShape shape → same insts limit base type (OfShape shape)
    by_shape Void is = plain (OfShape Void) is
    by_shape OneBool is = plain (OfShape OneBool) is
    by_shape (Int signed) is = plain (OfShape (Int signed)) is
    by_shape (BoolVector count) is = plain (OfShape (BoolVector count)) is
    by_shape (IntVector count signed) is = plain (OfShape (IntVector count signed)) is
    by_shape (Array element count) is = of_array insts limit base type element count
    by_shape (Struct members) is = plain (OfShape (Struct members)) is
    by_shape (Pointer class to) is = plain (OfShape (Pointer class to)) is
    by_shape Function is = plain (OfShape Function) is

    by_meaning : (meaning : Meaning) → (program_of insts).meaning type ≡ meaning → same insts limit base type meaning
    by_meaning Absent is = plain Absent is
    by_meaning (OfShape shape) is = by_shape shape is
    by_meaning (Constant ty) is = plain (Constant ty) is
    by_meaning (Variable ty class) is = plain (Variable ty class) is
    by_meaning (Value ty) is = plain (Value ty) is
    by_meaning Label is = plain Label is
    by_meaning Other is = plain Other is

-- ---- masks and ids

pub no_bit : (mask bit : ℕ) → mask < 2 ^ 8 → 8 ≤ bit → has_bit mask bit ≡ false
no_bit mask bit low high =
    let p : 2 ^ 8 ≤ 2 ^ bit = pow-le-pow_right (lit< tt) high in
    let below : mask < 2 ^ bit = omega (arith, p, low) in
    ap (λ (n : ℕ). n % 2 == 1) (div-eq_of_lt below)

-- one of the entries has the id
pub ids_among : (id : ℕ) (entries : List Entry) → is_among id (map (λ e. e.id) entries) ≡ list_any (λ e. e.id == id) entries
ids_among id [] = refl
ids_among id (e ∷ entries) = ap (λ (b : Bool). (e.id == id) || b) (ids_among id entries)

-- nothing is held
pub no_block : (program : Program) (limit : ℕ) → are_behind limit (block_offsets program None) ≡ false
unfolding block_offsets
no_block program limit = refl
