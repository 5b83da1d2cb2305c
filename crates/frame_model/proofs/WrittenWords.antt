-- Words that are written in place of others, at each index and in each part.
use Rattle.std.proofs.Common.{◌≡◌, ℕ, ◌+◌, ◌-◌, ◌<◌, ◌≤◌, List, [], ◌∷◌, length, get_or, take, drop, set, ◌++◌, refl, ap, sym, ◌∙◌, arith, append_assoc, length-append, length-drop}
use Rattle.std.specs.Prelude.{slice_index}
use Rattle.std.specs.List.{copy_within}
use Rattle.std.proofs.lemmas.List.{append-nil, take_all, take-append-le, drop-append-le, get_or_at, take_more, drop_more, drop-drop, drop_at, take_at, set_at, take-append-drop, length-take-le, get_or-take, get_or-drop, get_or_append_left, get_or-append_right, ext_get_or}
use Rattle.frame_model.specs.Shown.{words_at}
use Rattle.frame_model.specs.Written.{written}

-- ---- parts of a list

pub length_words_at : (words : List ℕ) (place count : ℕ) → place + count ≤ length words → length (words_at words place count) ≡ count
length_words_at words place count fits = length-take-le count (drop place words) (let d = length-drop place words in omega (arith, d))

pub words_at_index : (words : List ℕ) (place count k : ℕ) → k < count → get_or (words_at words place count) k 0 ≡ get_or words (place + k) 0
words_at_index words place count k less = get_or-take count (drop place words) k 0 less ∙ get_or-drop place words k 0

-- a part is these words, where each of them stands there
pub words_at_is : (words part : List ℕ) (place : ℕ) → place + length part ≤ length words → ((k : ℕ) → k < length part → get_or words (place + k) 0 ≡ get_or part k 0) → words_at words place (length part) ≡ part
words_at_is words part place fits same =
    let l = length_words_at words place (length part) fits in
    ext_get_or 0 (words_at words place (length part)) part l
    (λ k less. let less_part : k < length part = omega (arith, less, l) in words_at_index words place (length part) k less_part ∙ same k less_part)

-- two lists of one length that have the same words in a part
pub same_words_at : (a b : List ℕ) (place count : ℕ) → place + count ≤ length a → length a ≡ length b → ((k : ℕ) → k < count → get_or a (place + k) 0 ≡ get_or b (place + k) 0) → words_at a place count ≡ words_at b place count
same_words_at a b place count fits long same =
    let l = length_words_at a place count fits in
    let m = length_words_at b place count (omega (arith, fits, long)) in
    ext_get_or 0 (words_at a place count) (words_at b place count) (l ∙ sym m)
    (λ k less. let less_count : k < count = omega (arith, less, l) in words_at_index a place count k less_count ∙ (same k less_count ∙ sym (words_at_index b place count k less_count)))

-- ---- written words

front_length : (words new : List ℕ) (place : ℕ) → place ≤ length words → length (take place words ++ new) ≡ place + length new
front_length words new place fits = let a = length-append (take place words) new in let t = length-take-le place words fits in omega (arith, a, t)

pub length_written : (words new : List ℕ) (place : ℕ) → place + length new ≤ length words → length (written words place new) ≡ length words
length_written words new place fits =
    let a = length-append (take place words ++ new) (drop (place + length new) words) in
    let f = front_length words new place (omega (arith, fits)) in
    let d = length-drop (place + length new) words in
    omega (arith, a, f, d, fits)

pub written_before : (words new : List ℕ) (place k : ℕ) → place ≤ length words → k < place → get_or (written words place new) k 0 ≡ get_or words k 0
written_before words new place k fits less =
    let f = front_length words new place fits in
    let t = length-take-le place words fits in
    get_or_append_left (take place words ++ new) (drop (place + length new) words) 0 k (omega (arith, f, less))
    ∙ (get_or_append_left (take place words) new 0 k (omega (arith, t, less)) ∙ get_or-take place words k 0 less)

pub written_within : (words new : List ℕ) (place k : ℕ) → place ≤ length words → k < length new → get_or (written words place new) (place + k) 0 ≡ get_or new k 0
written_within words new place k fits less =
    let f = front_length words new place fits in
    let t = length-take-le place words fits in
    let e : place + k - place ≡ k = omega arith in
    get_or_append_left (take place words ++ new) (drop (place + length new) words) 0 (place + k) (omega (arith, f, less))
    ∙ (get_or-append_right (take place words) new place (place + k) 0 t (omega arith) ∙ ap (λ (n : ℕ). get_or new n 0) e)

pub written_behind : (words new : List ℕ) (place k : ℕ) → place ≤ length words → place + length new ≤ k → get_or (written words place new) k 0 ≡ get_or words k 0
written_behind words new place k fits past =
    let f = front_length words new place fits in
    let e : place + length new + (k - (place + length new)) ≡ k = omega (arith, past) in
    get_or-append_right (take place words ++ new) (drop (place + length new) words) (place + length new) k 0 f past
    ∙ (get_or-drop (place + length new) words (k - (place + length new)) 0 ∙ ap (λ (n : ℕ). get_or words n 0) e)

-- the words stand where they are written
pub written_here : (words new : List ℕ) (place : ℕ) → place + length new ≤ length words → words_at (written words place new) place (length new) ≡ new
written_here words new place fits =
    let l = length_written words new place fits in
    words_at_is (written words place new) new place (omega (arith, l, fits)) (λ k less. written_within words new place k (omega (arith, fits)) less)

-- all others stay
pub written_earlier : (words new : List ℕ) (place other count : ℕ) → place + length new ≤ length words → other + count ≤ place → words_at (written words place new) other count ≡ words_at words other count
written_earlier words new place other count fits before =
    let l = length_written words new place fits in
    same_words_at (written words place new) words other count (omega (arith, l, fits, before)) l (λ k less. written_before words new place (other + k) (omega (arith, fits)) (omega (arith, before, less)))

pub written_later : (words new : List ℕ) (place other count : ℕ) → place + length new ≤ length words → place + length new ≤ other → other + count ≤ length words → words_at (written words place new) other count ≡ words_at words other count
written_later words new place other count fits behind within =
    let l = length_written words new place fits in
    same_words_at (written words place new) words other count (omega (arith, l, within)) l (λ k less. written_behind words new place (other + k) (omega (arith, fits)) (omega (arith, behind, less)))

-- ---- one word more

-- nothing is written
pub written_none : (xs : List ℕ) (at : ℕ) → written xs at [] ≡ xs
written_none xs at =
    ap (λ (front : List ℕ). front ++ drop (at + 0) xs) (append-nil (take at xs)) ∙ (ap (λ (n : ℕ). take at xs ++ drop n xs) (let e : at + 0 ≡ at = omega arith in e) ∙ take-append-drop at xs)

-- with the first k words written, the next one
pub written_next : (xs : List ℕ) (at : ℕ) (new : List ℕ) (k : ℕ) → at + length new ≤ length xs → k < length new → set (written xs at (take k new)) (at + k) (slice_index new k) ≡ written xs at (take (k + 1) new)
written_next xs at new k room less =
    let word = slice_index new k in
    let front : List ℕ = take at xs ++ take k new in
    let long : length (take k new) ≡ k = length-take-le k new (omega arith) in
    let here : length front ≡ at + k = length-append (take at xs) (take k new) ∙ ap (λ (n : ℕ). n + length (take k new)) (length-take-le at xs (omega arith)) ∙ ap (λ (n : ℕ). at + n) long in
    let behind : drop (at + length (take k new)) xs ≡ slice_index xs (at + k) ∷ drop (at + k + 1) xs = ap (λ (n : ℕ). drop (at + n) xs) long ∙ drop_more xs (at + k) 0 (omega arith) in
    let now = ap (λ (rest : List ℕ). set (front ++ rest) (at + k) word) behind ∙ set_at front (slice_index xs (at + k)) (drop (at + k + 1) xs) word (at + k) here in
    let more : take (k + 1) new ≡ take k new ++ word ∷ [] = take_more new k 0 less in
    let next_long : length (take (k + 1) new) ≡ k + 1 = length-take-le (k + 1) new (omega arith) in
    let place : at + k + 1 ≡ at + length (take (k + 1) new) = omega (arith, next_long) in
    let joined : front ++ word ∷ drop (at + k + 1) xs ≡ take at xs ++ (take k new ++ word ∷ []) ++ drop (at + k + 1) xs =
    append_assoc (take at xs) (take k new) (word ∷ drop (at + k + 1) xs)
    ∙ (ap (λ (l : List ℕ). take at xs ++ l) (sym (append_assoc (take k new) (word ∷ []) (drop (at + k + 1) xs)))
    ∙ sym (append_assoc (take at xs) (take k new ++ word ∷ []) (drop (at + k + 1) xs))) in
    now ∙ (joined ∙ (ap (λ (l : List ℕ). take at xs ++ l ++ drop (at + k + 1) xs) (sym more) ∙ ap (λ (n : ℕ). take at xs ++ take (k + 1) new ++ drop n xs) place))

-- ---- one list behind the other

-- written in two parts, one behind the other
pub written_both : (xs : List ℕ) (at : ℕ) (new more : List ℕ) (behind : ℕ) → behind ≡ at + length new → at + length new + length more ≤ length xs → written (written xs at new) behind more ≡ written xs at (new ++ more)
written_both xs at new more behind is room =
    let front : List ℕ = take at xs ++ new in let rest : List ℕ = drop (at + length new) xs in
    let c = length-take-le at xs (omega arith) in
    let long : length front ≡ behind = length-append (take at xs) new ∙ omega (arith, c, is) in
    let kept : take behind (front ++ rest) ≡ front = take_at front rest behind long in
    let dropped : drop (behind + length more) (front ++ rest) ≡ drop (at + length (new ++ more)) xs =
    sym (drop-drop (length more) behind (front ++ rest)) ∙ (ap (drop (length more)) (drop_at front rest behind long)
    ∙ (drop-drop (length more) (at + length new) xs ∙ (let e : at + length new + length more ≡ at + length (new ++ more) = (let l = length-append new more in omega (arith, l)) in ap (λ (n : ℕ). drop n xs) e))) in
    ap (λ (l : List ℕ). l ++ more ++ drop (behind + length more) (front ++ rest)) kept
    ∙ (ap (λ (l : List ℕ). front ++ more ++ l) dropped ∙ ap (λ (l : List ℕ). l ++ drop (at + length (new ++ more)) xs) (append_assoc (take at xs) new more))

-- ---- words that are copied

pub copied : (xs : List ℕ) (from count at end : ℕ) → end ≡ from + count → from + count ≤ length xs → copy_within xs from end at ≡ written xs at (words_at xs from count)
copied xs from count at end is room =
    let long = length_words_at xs from count room in
    let n : end - from ≡ count = omega (arith, is) in
    ap (λ (n : ℕ). take at xs ++ take n (drop from xs) ++ drop (at + n) xs) n ∙ ap (λ (n : ℕ). take at xs ++ words_at xs from count ++ drop (at + n) xs) (sym long)

-- one word more behind those that are written
pub written_push : (xs : List ℕ) (at : ℕ) (new : List ℕ) (word place : ℕ) → place ≡ at + length new → place < length xs → set (written xs at new) place word ≡ written xs at (new ++ word ∷ [])
written_push xs at new word place is room =
    let all : List ℕ = new ++ word ∷ [] in
    let long : length all ≡ length new + 1 = length-append new (word ∷ []) in
    let here : take (length new) all ≡ new = take_at new (word ∷ []) (length new) refl in
    let last : slice_index all (length new) ≡ word = get_or_at new word [] 0 (length new) refl in
    let whole : take (length new + 1) all ≡ all = take_all (length new + 1) all (omega (arith, long)) in
    ap (λ (n : ℕ). set (written xs at new) n word) is
    ∙ (ap (λ (l : List ℕ). set (written xs at l) (at + length new) word) (sym here)
    ∙ (ap (λ (w : ℕ). set (written xs at (take (length new) all)) (at + length new) w) (sym last)
    ∙ (written_next xs at all (length new) (omega (arith, long, is, room)) (omega (arith, long)) ∙ ap (written xs at) whole)))

-- ---- behind a place

-- words that are written where what is behind a place begins
pub written_front : (xs : List ℕ) (at : ℕ) (new : List ℕ) → take at xs ++ written (drop at xs) 0 new ≡ written xs at new
written_front xs at new =
    let e : 0 + length new ≡ length new = omega arith in
    ap (λ (l : List ℕ). take at xs ++ (new ++ l)) (ap (λ (n : ℕ). drop n (drop at xs)) e ∙ drop-drop (length new) at xs) ∙ sym (append_assoc (take at xs) new (drop (at + length new) xs))

-- words that are written into words that were written
pub written_into : (xs new more : List ℕ) (start : ℕ) → length new ≤ length xs → start + length more ≤ length new → written (written xs 0 new) start more ≡ written xs 0 (written new start more)
written_into xs new more start room fits =
    let e : 0 + length new ≡ length new = omega arith in
    let rest : List ℕ = drop (length new) xs in
    let first : written xs 0 new ≡ new ++ rest = ap (λ (n : ℕ). new ++ drop n xs) e in
    let taken : take start (new ++ rest) ≡ take start new = take-append-le start new rest (omega (arith, fits)) in
    let dropped : drop (start + length more) (new ++ rest) ≡ drop (start + length more) new ++ rest = drop-append-le (start + length more) new rest fits in
    let long : 0 + length (written new start more) ≡ length new = (let l = length_written new more start fits in omega (arith, l)) in
    ap (λ (l : List ℕ). written l start more) first
    ∙ (ap (λ (l : List ℕ). l ++ more ++ drop (start + length more) (new ++ rest)) taken
    ∙ (ap (λ (l : List ℕ). take start new ++ more ++ l) dropped
    ∙ (sym (append_assoc (take start new ++ more) (drop (start + length more) new) rest) ∙ ap (λ (n : ℕ). written new start more ++ drop n xs) (sym long))))
