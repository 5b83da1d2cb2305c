-- A lawful and tidy state is read back from its key.
use Rattle.std.proofs.Common.{◌≡◌, ℕ, zero, suc, ◌+◌, ◌*◌, ◌^◌, ◌<◌, true, false, nat_lt, List, [], ◌∷◌, Option, Some, None, IfSome, is_some, unwrap_or, map, length, get_or, slice_index, refl, sym, ap, ◌∙◌, arith}
use Rattle.std.specs.List.{All, AllPairs, range_with_len}
use Rattle.std.proofs.lemmas.Bool.Decides.{nat_tests}
use Rattle.std.proofs.lemmas.List.Elements.{All-head, All-tail}
use Rattle.std.proofs.lemmas.List.FromFn.{fill_by_all}
use Rattle.std.proofs.lemmas.List.Sums.{sum_by-cons}
use Rattle.state_model.specs.Lawful.{AllPresent, IsLayout, IsSpecValues, IsAttachment}
use Rattle.state_model.specs.Canonical.{AreInOrder, Precedes}
use Rattle.state_model.specs.Key.{bit, packed_word, layout_word, entry_word, entry_count, attachment_byte}
use Rattle.limits.specs.declared.TheConstants.{DESCRIPTOR_SETS, ENTRIES, ATTACHMENTS}
use Rattle.state_model.specs.declared.parts.Layout.{Layout}
use Rattle.state_model.specs.declared.parts.Entry.{Entry}
use Rattle.state_model.specs.declared.parts.SpecValues.{SpecValues}
use Rattle.state_model.specs.declared.parts.Attachment.{Attachment}
use Rattle.state_key.specs.Unpacked.{field, flag, digit, set_of, layout_of, entry_of, entry_at, entries_of, attachment_of, attachment_at, attachments_of}
use Rattle.state_key.proofs.Digits.{digit-packed_word}
use Rattle.state_key.proofs.FieldReads.{bit-le, flag_bit, attachment_back, entry_back, attachment_byte_small}
use Rattle.state_key.proofs.Packing.{next_fits}

-- values of so many bits each fit into all their bits together
packed_fits : {X : Type 0} (bits : ℕ) (f : X → ℕ) (xs : List X) → All (λ x. f x < 2 ^ bits) xs → packed_word bits (map f xs) < 2 ^ (bits * length xs)
packed_fits bits f [] h = let none : bits * 0 ≡ 0 = omega arith in rw none (omega arith)
packed_fits bits f (x ∷ xs) h =
    let rest = packed_fits bits f xs (All-tail (λ x. f x < 2 ^ bits) x xs h) in
    let more : suc (length xs) ≡ length xs + 1 = omega arith in
    rw more (next_fits bits (length xs) (packed_word bits (map f xs)) (f x) (All-head (λ x. f x < 2 ^ bits) x xs h) rest)

abbrev defined_bit : Option ℕ → ℕ
defined_bit set = bit (is_some set)

abbrev mask_of : Option ℕ → ℕ
mask_of set = unwrap_or set 0

set_back : (defined masks i : ℕ) (set : Option ℕ) → digit 1 defined i ≡ defined_bit set → digit 8 masks i ≡ mask_of set → set_of defined masks i ≡ set
set_back defined masks i None d m = rw d
set_back defined masks i (Some mask) d m = rw (d, m)

defined_small : (sets : List (Option ℕ)) → All (λ set. defined_bit set < 2 ^ 1) sets
defined_small sets k d within = let one = bit-le (is_some (get_or sets k d)) in omega arith

mask_small : (set : Option ℕ) → IfSome set (λ mask. mask < 2 ^ 8) → mask_of set < 2 ^ 8
mask_small None h = omega arith
mask_small (Some mask) h = h

layout_made : (w : ℕ) (l : Layout) → flag w 0 ≡ l.independent → field w 8 8 ≡ l.push_words → map (set_of (field w 16 16) (field w 32 32)) (range_with_len 0 DESCRIPTOR_SETS) ≡ l.sets → layout_of w ≡ l
unfolding layout_of
layout_made w l i p s = rw (i, p, s)

sets_back : (defined masks : ℕ) (l : Layout) → IsLayout l → defined ≡ packed_word 1 (map defined_bit l.sets) → masks ≡ packed_word 8 (map mask_of l.sets) → map (set_of defined masks) (range_with_len 0 DESCRIPTOR_SETS) ≡ l.sets
sets_back defined masks l h d m = sym (fill_by_all (set_of defined masks) l.sets DESCRIPTOR_SETS None h.set_count each)
  where
    each : (i : ℕ) → i < DESCRIPTOR_SETS → get_or l.sets i None ≡ set_of defined masks i
    each i within = sym (set_back defined masks i (get_or l.sets i None)
        (ap (λ w. digit 1 w i) d ∙ digit-packed_word 1 defined_bit l.sets i None (defined_small l.sets) (omega (arith, h.set_count)))
        (ap (λ w. digit 8 w i) m ∙ digit-packed_word 8 mask_of l.sets i None (λ k d within. mask_small (get_or l.sets k d) (h.masks k d within)) (omega (arith, h.set_count))))

pub layout_back : (l : Layout) → IsLayout l → layout_of (layout_word l) ≡ l
layout_back l h = from_word (layout_word l) (packed_word 1 (map defined_bit l.sets)) (packed_word 8 (map mask_of l.sets)) refl few words refl refl
  where
    few : packed_word 1 (map defined_bit l.sets) < 2 ^ (1 * DESCRIPTOR_SETS)
    few = rw h.set_count at (packed_fits 1 defined_bit l.sets (defined_small l.sets))

    words : packed_word 8 (map mask_of l.sets) < 2 ^ (8 * DESCRIPTOR_SETS)
    words = rw h.set_count at (packed_fits 8 mask_of l.sets (λ k d within. mask_small (get_or l.sets k d) (h.masks k d within)))

    from_word : (w defined masks : ℕ) → w ≡ bit l.independent + 2 ^ 8 * l.push_words + 2 ^ 16 * defined + 2 ^ 32 * masks → defined < 2 ^ (1 * DESCRIPTOR_SETS) → masks < 2 ^ (8 * DESCRIPTOR_SETS) → defined ≡ packed_word 1 (map defined_bit l.sets) → masks ≡ packed_word 8 (map mask_of l.sets) → layout_of w ≡ l
    from_word w defined masks e d m is_defined is_masks =
        let one = bit-le l.independent in
        let push = h.push_words in
        let d' : field w 16 16 ≡ defined = omega arith in
        let m' : field w 32 32 ≡ masks = omega arith in
        layout_made w l (flag_bit w 0 l.independent (omega arith)) (omega arith) (rw (d', m') (sets_back defined masks l h is_defined is_masks))

attachments_made : (w : ℕ) (attachments : List (Option Attachment)) → map (attachment_at w) (range_with_len 0 ATTACHMENTS) ≡ attachments → attachments_of w ≡ attachments
unfolding attachments_of
attachments_made w attachments e = e

pub attachments_back : (attachments : List (Option Attachment)) → length attachments ≡ ATTACHMENTS → AllPresent IsAttachment attachments → attachments_of (packed_word 8 (map attachment_byte attachments)) ≡ attachments
attachments_back attachments long lawful =
    attachments_made (packed_word 8 (map attachment_byte attachments)) attachments (sym (fill_by_all (attachment_at (packed_word 8 (map attachment_byte attachments))) attachments ATTACHMENTS None long each))
  where
    small : All (λ a. attachment_byte a < 2 ^ 8) attachments
    small k d within = attachment_byte_small (get_or attachments k d) (lawful k d within)

    each : (i : ℕ) → i < ATTACHMENTS → get_or attachments i None ≡ attachment_at (packed_word 8 (map attachment_byte attachments)) i
    each i within =
        let there : i < length attachments = omega arith in
        sym (ap attachment_of (digit-packed_word 8 attachment_byte attachments i None small there) ∙ attachment_back (get_or attachments i None) (lawful i None there))

AllPairs-tail : {X : Type 0} (R : X → X → Type 0) (x : X) (xs : List X) → AllPairs R (x ∷ xs) → AllPairs R xs
AllPairs-tail R x xs h i j d before within = h (suc i) (suc j) d (omega arith) (omega arith)

-- where the first entry is absent they all are
none_there : (xs : List (Option Entry)) → AreInOrder (None ∷ xs) → (i : ℕ) (d : Option Entry) → i < length xs → is_some (get_or xs i d) ≡ false
none_there xs h i d within = absent (get_or xs i d) (h 0 (suc i) d (omega arith) (omega arith))
  where
    absent : (e : Option Entry) → Precedes None e → is_some e ≡ false
    absent None p = refl
    absent (Some e) p = absurd p

count-cons : (x : Option Entry) (xs : List (Option Entry)) → entry_count (x ∷ xs) ≡ bit (is_some x) + entry_count xs
count-cons x xs = sum_by-cons (λ x. bit (is_some x)) x xs

count_none : (xs : List (Option Entry)) → ((i : ℕ) (d : Option Entry) → i < length xs → is_some (get_or xs i d) ≡ false) → entry_count xs ≡ 0
count_none [] h = refl
count_none (x ∷ xs) h =
    let rest : entry_count xs ≡ 0 = count_none xs (λ i d within. h (suc i) d (omega arith)) in
    count-cons x xs ∙ ap (λ n. bit (is_some x) + n) rest ∙ ap (λ b. bit b + 0) (h 0 x (omega arith))

nat_lt-zero : (i : ℕ) → nat_lt i 0 ≡ false
nat_lt-zero i = grind (arith, nat_tests)

nat_lt-suc : (i n : ℕ) → nat_lt (suc i) (1 + n) ≡ nat_lt i n
nat_lt-suc i n = grind (arith, nat_tests)

nat_lt-first : (n : ℕ) → nat_lt 0 (1 + n) ≡ true
nat_lt-first n = grind (arith, nat_tests)

-- the entries that are there are the first so many
there_below_count : (xs : List (Option Entry)) → AreInOrder xs → (i : ℕ) (d : Option Entry) → i < length xs → nat_lt i (entry_count xs) ≡ is_some (get_or xs i d)
there_below_count [] h i d within = absurd (omega arith)
there_below_count (None ∷ xs) h i d within =
    ap (nat_lt i) (count-cons None xs ∙ ap (λ n. 0 + n) (count_none xs (none_there xs h))) ∙ nat_lt-zero i ∙ sym (absent i within)
  where
    absent : (i : ℕ) → i < length (None ∷ xs) → is_some (get_or (None ∷ xs) i d) ≡ false
    absent zero within = refl
    absent (suc i) within = none_there xs h i d (omega arith)
there_below_count (Some e ∷ xs) h zero d within = ap (nat_lt 0) (count-cons (Some e) xs) ∙ nat_lt-first (entry_count xs)
there_below_count (Some e ∷ xs) h (suc i) d within =
    ap (nat_lt (suc i)) (count-cons (Some e) xs) ∙ nat_lt-suc i (entry_count xs) ∙ there_below_count xs (AllPairs-tail Precedes (Some e) xs h) i d (omega arith)

entries_made : (k : List ℕ) (at count : ℕ) (v : SpecValues) → map (entry_at k at count) (range_with_len 0 ENTRIES) ≡ v.entries → entries_of k at count ≡ v
unfolding entries_of
entries_made k at count v e = rw e

pub entries_back : (k : List ℕ) (at count : ℕ) (v : SpecValues) → IsSpecValues v → AreInOrder v.entries → count ≡ entry_count v.entries → ((i : ℕ) → i < ENTRIES → slice_index k (at + i) ≡ entry_word (get_or v.entries i None)) → entries_of k at count ≡ v
entries_back k at count v lawful order counted words =
    entries_made k at count v (sym (fill_by_all (entry_at k at count) v.entries ENTRIES None lawful.count each))
  where
    each : (i : ℕ) → i < ENTRIES → get_or v.entries i None ≡ entry_at k at count i
    each i within =
        let there : i < length v.entries = omega (arith, lawful.count) in
        sym (ap (λ w. entry_of count w i) (words i within) ∙ entry_back count i (get_or v.entries i None) (lawful.words i None there) (ap (nat_lt i) counted ∙ there_below_count v.entries order i None there))
