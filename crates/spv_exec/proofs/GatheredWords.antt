-- The words of the values of ids that are written one after another.
use Rattle.std.proofs.Common.{◌≡◌, ℕ, suc, ◌+◌, ◌<◌, ◌≤◌, List, [], ◌∷◌, ◌++◌, length, take, slice_index, refl, ap, sym, ◌∙◌, arith, length-append, Some}
use Rattle.std.specs.List.{flat_map}
use Rattle.std.proofs.lemmas.Grind.{flat_map-append}
use Rattle.std.proofs.lemmas.List.{append-nil, take_more}
use Rattle.std.proofs.lemmas.List.Concat.{flat_map-cons}
use Rattle.std.proofs.lemmas.List.Folds.{length-flat_map-take}
use Rattle.spirv_model.specs.declared.module.Inst.{Inst}
use Rattle.valid_model.specs.Definitions.{definition, inst_at}
use Rattle.stage_model.specs.Program.{program_of}
use Rattle.frame_model.specs.Frame.{frame_place, frame_words}
use Rattle.frame_model.specs.Shown.{words_at}
use Rattle.frame_model.specs.ShownWords.{IsShown, shown_at, shown_of}
use Rattle.frame_model.specs.Written.{written}
use Rattle.frame_model.proofs.CompositeResults.{AreBefore}
use Rattle.frame_model.proofs.WrittenWords.{length_words_at, length_written, written_none, written_both}
use Rattle.spv_exec.proofs.SplitWords.{front_words}

-- the words of the first ids
abbrev pub first_words : List Inst → List ℕ → List ℕ → ℕ → List ℕ
first_words insts front ids k = flat_map (shown_of insts front) (take k ids)

pub record AreGathered (insts : List Inst) (front ids before : List ℕ) (k at : ℕ) (to : List ℕ) : Type 0 where
  pub place : at ≡ length (first_words insts front ids k)
  pub are : to ≡ written before 0 (first_words insts front ids k)

pub none_gathered : (insts : List Inst) (front ids before : List ℕ) → AreGathered insts front ids before 0 0 before
none_gathered insts front ids before = record { place = refl; are = sym (written_none before 0) }

-- what is copied of an id, by its definition
pub record Copied (insts : List Inst) (front : List ℕ) (id from count : ℕ) : Type 0 where
  pub place : (at : ℕ) → definition insts id ≡ Some at → from ≡ frame_place (program_of insts) at
  pub there : (at : ℕ) → definition insts id ≡ Some at → count ≡ frame_words (program_of insts) (inst_at insts at)
  pub shown : IsShown insts front id

-- the words that are copied are those of the id
record Copies (insts : List Inst) (front : List ℕ) (id from count : ℕ) : Type 0 where
  are : words_at front from count ≡ shown_of insts front id
  long : length (shown_of insts front id) ≡ count
  fits : from + count ≤ length front

copies_of : (insts : List Inst) (front : List ℕ) (id from count : ℕ) → Copied insts front id from count → Copies insts front id from count
copies_of insts front id from count c =
    let s = c.shown in
    let p = c.place s.place s.defined in let t = c.there s.place s.defined in let f = s.fits in
    let d : shown_of insts front id ≡ words_at front (frame_place (program_of insts) s.place) (frame_words (program_of insts) (inst_at insts s.place)) = ap (shown_at insts front) s.defined in
    record {
      are = ap (λ (n : ℕ). words_at front n count) p ∙ (ap (words_at front (frame_place (program_of insts) s.place)) t ∙ sym d);
      long = ap length d ∙ (length_words_at front (frame_place (program_of insts) s.place) (frame_words (program_of insts) (inst_at insts s.place)) s.fits ∙ sym t);
      fits = omega (arith, p, t, f);
    }

-- the words of the first ids have room with those of the next one
next_room : (insts : List Inst) (front ids : List ℕ) (k : ℕ) → k < length ids → length (first_words insts front ids k) + length (shown_of insts front (slice_index ids k)) ≤ length (flat_map (shown_of insts front) ids)
next_room insts front ids k less = length-flat_map-take (shown_of insts front) ids k 0 less

pub gathered_room : (insts : List Inst) (front ids before to : List ℕ) (k at from count : ℕ) → AreGathered insts front ids before k at to → k < length ids → Copied insts front (slice_index ids k) from count
    → at + count ≤ length (flat_map (shown_of insts front) ids)
gathered_room insts front ids before to k at from count g less c =
    let n = next_room insts front ids k less in let l = (copies_of insts front (slice_index ids k) from count c).long in let p = g.place in
    omega (arith, n, l, p)

-- one id more
pub gathered_more : (insts : List Inst) (front ids before to : List ℕ) (k at from count : ℕ) (new : List ℕ) → AreGathered insts front ids before k at to → k < length ids → Copied insts front (slice_index ids k) from count
    → length (flat_map (shown_of insts front) ids) ≤ length before → (from + count ≤ length front → at + count ≤ length to → new ≡ written to at (words_at front from count)) → AreGathered insts front ids before (k + 1) (at + count) new
gathered_more insts front ids before to k at from count new g less c room copied =
    let f : ℕ → List ℕ = shown_of insts front in
    let word = slice_index ids k in
    let w = copies_of insts front word from count c in
    let n = next_room insts front ids k less in let p = g.place in let l = w.long in let stands = w.fits in
    let one : flat_map f (word ∷ []) ≡ f word = flat_map-cons f word [] ∙ append-nil (f word) in
    let more : first_words insts front ids (k + 1) ≡ first_words insts front ids k ++ f word =
    ap (flat_map f) (take_more ids k 0 less) ∙ (flat_map-append f (take k ids) (word ∷ []) ∙ ap (λ (l : List ℕ). first_words insts front ids k ++ l) one) in
    let long : length to ≡ length before = ap length g.are ∙ length_written before (first_words insts front ids k) 0 (omega (arith, n, room)) in
    let is = copied stands (omega (arith, p, l, n, room, long)) in
    record {
      place = (let e = ap length more in let a = length-append (first_words insts front ids k) (f word) in omega (arith, e, a, p, l));
      are = is ∙ (ap (written to at) w.are ∙ (ap (λ (l : List ℕ). written l at (f word)) g.are
          ∙ (written_both before 0 (first_words insts front ids k) (f word) at (omega (arith, p)) (omega (arith, n, room)) ∙ ap (written before 0) (sym more))));
    }

-- in front of a place the words are those of the whole list
pub same_gathered : (insts : List Inst) (frame : List ℕ) (place at : ℕ) (ids : List ℕ) → frame_place (program_of insts) place ≡ at → at ≤ length frame → AreBefore insts place ids
    → flat_map (shown_of insts (take at frame)) ids ≡ flat_map (shown_of insts frame) ids
same_gathered insts frame place at [] is room before = refl
same_gathered insts frame place at (id ∷ ids) is room before =
    let b = before 0 (omega arith) in let fits = b.before in
    let d : (l : List ℕ) → shown_of insts l id ≡ words_at l (frame_place (program_of insts) b.at) (frame_words (program_of insts) (inst_at insts b.at)) = λ l. ap (shown_at insts l) b.defined in
    let here : shown_of insts (take at frame) id ≡ shown_of insts frame id =
    d (take at frame) ∙ (front_words frame at (frame_place (program_of insts) b.at) (frame_words (program_of insts) (inst_at insts b.at)) (omega (arith, fits, is)) ∙ sym (d frame)) in
    let rest = same_gathered insts frame place at ids is room (λ k less. before (suc k) (omega (arith, less))) in
    flat_map-cons (shown_of insts (take at frame)) id ids ∙ (ap (λ (l : List ℕ). l ++ flat_map (shown_of insts (take at frame)) ids) here
    ∙ (ap (λ (l : List ℕ). shown_of insts frame id ++ l) rest ∙ sym (flat_map-cons (shown_of insts frame) id ids)))

-- in front of a place each is shown
pub shown_front : (insts : List Inst) (front : List ℕ) (place : ℕ) (ids : List ℕ) → frame_place (program_of insts) place ≡ length front → AreBefore insts place ids → (k : ℕ) → k < length ids → IsShown insts front (slice_index ids k)
shown_front insts front place ids long before k less = let b = before k less in let fits = b.before in record { place = b.at; defined = b.defined; fits = omega (arith, fits, long) }
