-- Where instructions stand in the list that a plan makes.
use Rattle.std.proofs.Common.{◌≡◌, ℕ, suc, ◌+◌, ◌-◌, ◌<◌, ◌≤◌, inl, inr, Bool, false, List, [], ◌∷◌, ◌++◌, length, take, slice_get, not, nat_lt, if◌then◌else◌, ap, sym, ◌∙◌, arith, length-append, Option, None, Some}
use Rattle.std.specs.List.{flat_map, range_with_len}
use Rattle.std.proofs.lemmas.Bool.{cases_lt, lt-ltb}
use Rattle.std.proofs.lemmas.Bool.Decides.{nat_tests}
use Rattle.std.proofs.lemmas.List.{length-take-le}
use Rattle.std.proofs.lemmas.List.Sums.{prefix_len-le-length}
use Rattle.std.proofs.Math.Seq.{take-append_seam}
use Rattle.spirv_model.specs.declared.module.Inst.{Inst}
use Rattle.spirv_model.specs.Operands.{word_at}
use Rattle.change_model.specs.declared.fate.Fate.{Fate}
use Rattle.change_model.specs.declared.fate.Fate.TheVariants.{Dead, Stays, Goes, Picks, Folds, Nulls, Resolves, Skips, Unused}
use Rattle.stage_model.specs.Start.{of_scalar}
use Rattle.change_model.specs.Constants.{scalar_constant}
use Rattle.change_model.specs.Folding.{function_at}
use Rattle.change_model.specs.Plans.{Plan, later_places, written_as, written_at, listed, constant_as, constant_at, changed}
use Rattle.valid_model.specs.Definitions.{inst_at}
use Rattle.check_model.specs.EntryPoints.{is_op_function}
use Rattle.change_model.proofs.Pieces.{get_front, get_behind, get_taken, got_within, pieces, pieces_more, fewer_pieces, piece_there, PieceAt, piece_at}

-- the constants that come to the module's level
unfoldable pub new_constants : Plan → List Inst → List Inst
new_constants plan insts = flat_map (constant_at plan insts) (later_places insts)

-- what is written for the places from OpFunction up to one
unfoldable pub written_before : Plan → List Inst → ℕ → List Inst
written_before plan insts place = flat_map (written_at plan insts) (range_with_len (function_at insts) (place - function_at insts))

-- where the instruction at a place comes to stand, or the next one that is written
unfoldable pub place_left : Plan → List Inst → ℕ → ℕ
place_left plan insts place =
    if nat_lt place (function_at insts) then place
    else function_at insts + (length (new_constants plan insts) + length (written_before plan insts place))

-- ---- parts of the list

-- where OpFunction stands, if at all
pub function_within : (insts : List Inst) → function_at insts ≤ length insts
function_within insts = prefix_len-le-length (λ inst. not (is_op_function inst)) insts

pub level_long : (insts : List Inst) → length (take (function_at insts) insts) ≡ function_at insts
level_long insts = length-take-le (function_at insts) insts (function_within insts)

no_level : (a b : ℕ) → b ≤ a → nat_lt a b ≡ false
no_level a b late = grind (arith, nat_tests)

-- where the places from OpFunction on are left
pub place_behind : (plan : Plan) (insts : List Inst) (place : ℕ) → function_at insts ≤ place
    → place_left plan insts place ≡ function_at insts + (length (new_constants plan insts) + length (written_before plan insts place))
unfolding place_left
place_behind plan insts place low =
    ap (λ (b : Bool). if b then place else function_at insts + (length (new_constants plan insts) + length (written_before plan insts place))) (no_level place (function_at insts) low)

pub place_same : (plan : Plan) (insts : List Inst) (place : ℕ) → place < function_at insts → place_left plan insts place ≡ place
unfolding place_left
place_same plan insts place low =
    ap (λ (b : Bool). if b then place else function_at insts + (length (new_constants plan insts) + length (written_before plan insts place))) (lt-ltb place (function_at insts) low)

pub front_left : (plan : Plan) (insts : List Inst) → take (function_at insts) (changed plan insts) ≡ take (function_at insts) insts
unfolding changed
front_left plan insts =
    let level = take (function_at insts) insts in
    let behind = flat_map (constant_at plan insts) (later_places insts) ++ flat_map (written_at plan insts) (later_places insts) in
    ap (λ (n : ℕ). take n (level ++ behind)) (sym (level_long insts)) ∙ take-append_seam level behind

pub length_left : (plan : Plan) (insts : List Inst) → function_at insts ≤ length insts → length (changed plan insts) ≡ place_left plan insts (length insts)
unfolding changed new_constants written_before
length_left plan insts most =
    let level = take (function_at insts) insts in
    let constants = flat_map (constant_at plan insts) (later_places insts) in
    let written = flat_map (written_at plan insts) (later_places insts) in
    length-append level (constants ++ written) ∙ ap (λ (n : ℕ). n + length (constants ++ written)) (level_long insts)
    ∙ ap (λ (n : ℕ). function_at insts + n) (length-append constants written) ∙ sym (place_behind plan insts (length insts) most)

pub level_there : (plan : Plan) (insts : List Inst) (place : ℕ) → place < function_at insts → slice_get (changed plan insts) place ≡ slice_get insts place
unfolding changed
level_there plan insts place low =
    let level = take (function_at insts) insts in
    let long = level_long insts in
    get_front level (flat_map (constant_at plan insts) (later_places insts) ++ flat_map (written_at plan insts) (later_places insts)) place (omega (arith, low, long))
    ∙ get_taken (function_at insts) insts place low

pub at_most_one : (plan : Plan) (insts : List Inst) (place : ℕ) → length (written_at plan insts place) ≤ 1
unfolding written_at
at_most_one plan insts place = by_fate (plan.fate place)
  where
    by_fate : (fate : Fate) → length (written_as plan insts place (inst_at insts place) fate) ≤ 1
    by_fate Dead = omega arith
    by_fate Stays = omega arith
    by_fate (Goes label) = omega arith
    by_fate (Picks label) = omega arith
    by_fate (Folds scalar) = omega arith
    by_fate Nulls = omega arith
    by_fate Resolves = omega arith
    by_fate Skips = omega arith
    by_fate Unused = omega arith

pub one_constant : (plan : Plan) (insts : List Inst) (place : ℕ) → length (constant_at plan insts place) ≤ 1
unfolding constant_at
one_constant plan insts place = by_fate (plan.fate place)
  where
    by_value : (found : Option Inst) → length (listed found) ≤ 1
    by_value None = omega arith
    by_value (Some inst) = omega arith

    by_fate : (fate : Fate) → length (constant_as (inst_at insts place) fate) ≤ 1
    by_fate (Folds scalar) = by_value (scalar_constant (word_at 0 (inst_at insts place)) (word_at 1 (inst_at insts place)) (Some (of_scalar scalar)))
    by_fate Nulls = omega arith
    by_fate Dead = omega arith
    by_fate Stays = omega arith
    by_fate (Goes label) = omega arith
    by_fate (Picks label) = omega arith
    by_fate Resolves = omega arith
    by_fate Skips = omega arith
    by_fate Unused = omega arith

pub next_left : (plan : Plan) (insts : List Inst) (place : ℕ) → function_at insts ≤ place
    → place_left plan insts (suc place) ≡ place_left plan insts place + length (written_at plan insts place)
unfolding written_before
next_left plan insts place low =
    let first = function_at insts in
    let many = length (new_constants plan insts) in
    let f = written_at plan insts in
    place_behind plan insts (suc place) (omega (arith, low))
    ∙ ap (λ (n : ℕ). first + (many + length (pieces f first n))) {x = suc place - first} {y = suc (place - first)} (omega (arith, low))
    ∙ ap (λ (n : ℕ). first + (many + n)) (pieces_more f (place - first) first)
    ∙ grouped first many (length (pieces f first (place - first))) (length (f (first + (place - first))))
    ∙ ap (λ (n : ℕ). first + (many + length (pieces f first (place - first))) + length (f n)) {x = first + (place - first)} {y = place} (omega (arith, low))
    ∙ ap (λ (n : ℕ). n + length (f place)) (sym (place_behind plan insts place low))
  where
    grouped : (a b c d : ℕ) → a + (b + (c + d)) ≡ a + (b + c) + d
    grouped a b c d = omega arith

pub rises : (plan : Plan) (insts : List Inst) (a b : ℕ) → a ≤ b → place_left plan insts a ≤ place_left plan insts b
unfolding written_before
rises plan insts a b least = elim (cases_lt b first) [
  | inl early ↦ let x = place_same plan insts a (omega (arith, least, early)) in let y = place_same plan insts b early in omega (arith, x, y, least)
  | inr late ↦ elim (cases_lt a first) [
    | inl low ↦ let x = place_same plan insts a low in let y = place_behind plan insts b late in omega (arith, x, y, low)
    | inr behind ↦
        let x = place_behind plan insts a behind in
        let y = place_behind plan insts b late in
        let more = fewer_pieces (written_at plan insts) (a - first) (b - first) first (omega (arith, least)) in
        omega (arith, x, y, more)
  ]
]
  where
    first : ℕ
    first = function_at insts

pub rises_behind : (plan : Plan) (insts : List Inst) (a b : ℕ) (inst : Inst) → function_at insts ≤ a → a < b → written_at plan insts a ≡ inst ∷ []
    → place_left plan insts a < place_left plan insts b
rises_behind plan insts a b inst low less is =
    let x = next_left plan insts a low in
    let one : length (written_at plan insts a) ≡ 1 = ap (λ (l : List Inst). length l) is in
    let y = rises plan insts (suc a) b (omega (arith, less)) in
    omega (arith, x, one, y)

pub kept_there : (plan : Plan) (insts : List Inst) (place : ℕ) (inst : Inst) → function_at insts ≤ place → place < length insts
    → written_at plan insts place ≡ inst ∷ [] → slice_get (changed plan insts) (place_left plan insts place) ≡ Some inst
unfolding changed new_constants written_before
kept_there plan insts place inst low high is =
    let first = function_at insts in
    let level = take first insts in
    let constants = flat_map (constant_at plan insts) (later_places insts) in
    let written = flat_map (written_at plan insts) (later_places insts) in
    let here = length (pieces (written_at plan insts) first (place - first)) in
    ap (slice_get (level ++ (constants ++ written))) (place_behind plan insts place low)
    ∙ ap (λ (n : ℕ). slice_get (level ++ (constants ++ written)) (n + (length constants + here))) (sym (level_long insts))
    ∙ get_behind level (constants ++ written) (length constants + here) ∙ get_behind constants written here
    ∙ piece_there (written_at plan insts) (place - first) (length insts - first) first inst
    (ap (written_at plan insts) {x = first + (place - first)} {y = place} (omega (arith, low)) ∙ is) (omega (arith, low, high))

-- ---- new constants

-- where the constant for the instruction at a place stands
unfoldable pub constant_left : Plan → List Inst → ℕ → ℕ
constant_left plan insts place = function_at insts + length (pieces (constant_at plan insts) (function_at insts) (place - function_at insts))

pub constant_there : (plan : Plan) (insts : List Inst) (place : ℕ) (inst : Inst) → function_at insts ≤ place → place < length insts
    → constant_at plan insts place ≡ inst ∷ [] → slice_get (changed plan insts) (constant_left plan insts place) ≡ Some inst
unfolding changed new_constants constant_left
constant_there plan insts place inst low high is =
    let first = function_at insts in
    let level = take first insts in
    let constants = flat_map (constant_at plan insts) (later_places insts) in
    let written = flat_map (written_at plan insts) (later_places insts) in
    let here = length (pieces (constant_at plan insts) first (place - first)) in
    let there = piece_there (constant_at plan insts) (place - first) (length insts - first) first inst
    (ap (constant_at plan insts) {x = first + (place - first)} {y = place} (omega (arith, low)) ∙ is) (omega (arith, low, high)) in
    ap (λ (n : ℕ). slice_get (level ++ (constants ++ written)) (n + here)) (sym (level_long insts))
    ∙ get_behind level (constants ++ written) here
    ∙ get_front constants written here (got_within constants here inst there) ∙ there

pub constant_before : (plan : Plan) (insts : List Inst) (place : ℕ) (inst : Inst) → function_at insts ≤ place → place < length insts
    → constant_at plan insts place ≡ inst ∷ [] → constant_left plan insts place < function_at insts + length (new_constants plan insts)
unfolding new_constants constant_left
constant_before plan insts place inst low high is =
    let first = function_at insts in
    let here = length (pieces (constant_at plan insts) first (place - first)) in
    let less = got_within (flat_map (constant_at plan insts) (later_places insts)) here inst
    (piece_there (constant_at plan insts) (place - first) (length insts - first) first inst
    (ap (constant_at plan insts) {x = first + (place - first)} {y = place} (omega (arith, low)) ∙ is) (omega (arith, low, high))) in
    omega (arith, less)

-- for which instruction a constant stands
pub record ConstantAt (plan : Plan) (insts : List Inst) (place : ℕ) : Type 0 where
  pub old : ℕ
  pub inst : Inst
  pub low : function_at insts ≤ old
  pub high : old < length insts
  pub is : constant_at plan insts old ≡ inst ∷ []
  pub there : constant_left plan insts old ≡ place

pub constant_stood : (plan : Plan) (insts : List Inst) (place : ℕ) → function_at insts ≤ place → place < function_at insts + length (new_constants plan insts) → ConstantAt plan insts place
unfolding new_constants constant_left
constant_stood plan insts place late early =
    let first = function_at insts in
    let r = piece_at (constant_at plan insts) (one_constant plan insts) (length insts - first) first (place - first) (omega (arith, late, early)) in
    let w = r.within in
    record {
      old = first + r.number;
      inst = r.element;
      low = omega arith;
      high = omega (arith, w);
      is = r.is;
      there = ap (λ (n : ℕ). first + length (pieces (constant_at plan insts) first n)) {x = first + r.number - first} {y = r.number} (omega arith)
          ∙ ap (λ (n : ℕ). first + n) r.before ∙ back first place late;
    }
  where
    back : (a b : ℕ) → a ≤ b → a + (b - a) ≡ b
    back a b least = omega (arith, least)

-- ---- what stands where

-- what stands at a place of the new list: an instruction of the module's level, a new constant, or what is written for a place
pub data StoodAt (plan : Plan) (insts : List Inst) (place : ℕ) : Type 0 where
  of_level : place < function_at insts → StoodAt plan insts place
  of_constant : (old : ℕ) (inst : Inst) → function_at insts ≤ old → old < length insts → constant_at plan insts old ≡ inst ∷ []
      → function_at insts ≤ place → place < function_at insts + length (new_constants plan insts)
      → slice_get (changed plan insts) place ≡ Some inst → StoodAt plan insts place
  of_function : (old : ℕ) (inst : Inst) → function_at insts ≤ old → old < length insts → written_at plan insts old ≡ inst ∷ []
      → place_left plan insts old ≡ place → slice_get (changed plan insts) place ≡ Some inst → StoodAt plan insts place

pub stood_at : (plan : Plan) (insts : List Inst) (place : ℕ) → function_at insts ≤ length insts → place < length (changed plan insts) → StoodAt plan insts place
unfolding changed new_constants written_before
stood_at plan insts place most high = elim (cases_lt place first) [
  | inl low ↦ of_level low
  | inr late ↦ elim (cases_lt place (first + length constants)) [
    | inl early ↦ at_constant late early (constant_stood plan insts place late early)
    | inr behind ↦
        let long = length_left plan insts most in
        let there = place_behind plan insts (length insts) most in
        at_function behind (piece_at (written_at plan insts) (at_most_one plan insts) (length insts - first) first (place - (first + length constants)) (omega (arith, long, there, high, behind)))
  ]
]
  where
    first : ℕ
    first = function_at insts

    constants : List Inst
    constants = flat_map (constant_at plan insts) (later_places insts)

    at_constant : first ≤ place → place < first + length constants → ConstantAt plan insts place → StoodAt plan insts place
    at_constant late early c =
        of_constant c.old c.inst c.low c.high c.is late early (ap (slice_get (changed plan insts)) (sym c.there) ∙ constant_there plan insts c.old c.inst c.low c.high c.is)

    reached : (a b c d : ℕ) → c ≡ d - (a + b) → a + b ≤ d → a + (b + c) ≡ d
    reached a b c d is least = omega (arith, is, least)

    at_function : first + length constants ≤ place → PieceAt (written_at plan insts) first (length insts - first) (place - (first + length constants)) → StoodAt plan insts place
    at_function behind r =
        let w = r.within in
        let b = r.before in
        let old = first + r.number in
        let there : place_left plan insts old ≡ place =
        place_behind plan insts old (omega arith)
        ∙ ap (λ (n : ℕ). first + (length constants + length (pieces (written_at plan insts) first n))) {x = old - first} {y = r.number} (omega arith)
        ∙ reached first (length constants) (length (pieces (written_at plan insts) first r.number)) place b behind in
        of_function old r.element (omega arith) (omega (arith, w)) r.is there
        (ap (slice_get (changed plan insts)) (sym there) ∙ kept_there plan insts old r.element (omega arith) (omega (arith, w)) r.is)
