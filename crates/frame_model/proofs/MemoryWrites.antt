-- What a memory shows once words are written into a variable.
use Rattle.std.proofs.Common.{◌≡◌, ℕ, ◌+◌, ◌-◌, ◌<◌, ◌≤◌, ◌==◌, ◌&&◌, Bool, true, false, if◌then◌else◌, List, length, slice_index, nat_le, nat_lt, refl, ap, sym, ◌∙◌, subst, arith, inl, inr, Option, Some}
use Rattle.std.proofs.lemmas.Bool.{cases_lt, lt-ltb, le-leb}
use Rattle.std.proofs.lemmas.Bool.Decides.{nat_tests}
use Rattle.valid_model.specs.Definitions.{definition, inst_at}
use Rattle.stage_model.specs.Program.{Program}
use Rattle.stage_model.specs.Start.{Memory}
use Rattle.stage_model.specs.Effect.{with_words}
use Rattle.typed_model.proofs.ValidTypes.{defined_within}
use Rattle.frame_model.specs.Frame.{memory_place, variable_words}
use Rattle.frame_model.specs.Shown.{ShowsMemory}
use Rattle.frame_model.specs.Truths.{HoldsTruths}
use Rattle.frame_model.specs.Written.{written}
use Rattle.frame_model.proofs.FrameSizes.{memory_place_within}
use Rattle.frame_model.proofs.FrameWrites.{apart, one_definition}
use Rattle.frame_model.proofs.WrittenWords.{length_written, written_before, written_within, written_behind}

-- the variables lie one behind the other
pub memory_apart : (program : Program) (place later : ℕ) → place < later → later ≤ length program.insts → memory_place program place + variable_words program (inst_at program.insts place) ≤ memory_place program later
unfolding memory_place
memory_apart program place later less within = apart (variable_words program) program.insts place later less within

same : (a b : ℕ) → a == b ≡ true → a ≡ b
same a b is = grind (arith, nat_tests)

self : (a b : ℕ) → a ≡ b → a == b ≡ true
self a b is = grind (arith, nat_tests)

differ : (a b : ℕ) → a == b ≡ false → a ≡ b → ⊥
differ a b isnt is = grind (arith, nat_tests)

same_some : (a b : ℕ) → ◌≡◌ {A = Option ℕ} (Some a) (Some b) → a ≡ b
same_some a b is = cc

-- words that are written into a part of a variable
pub record Stored (program : Program) (variable at place : ℕ) (new : List ℕ) : Type 0 where
  pub defined : definition program.insts variable ≡ Some at
  pub fits : place + length new ≤ variable_words program (inst_at program.insts at)

pub stored_room : (program : Program) (words : List ℕ) (held : Memory) (variable at place : ℕ) (new : List ℕ) → ShowsMemory program words held → Stored program variable at place new → memory_place program at + place + length new ≤ length words
stored_room program words held variable at place new shows s =
    let room = memory_place_within program at (defined_within program.insts variable at s.defined) in
    let size = shows.size in let fits = s.fits in omega (arith, room, size, fits)

-- where they are written, and where not
with_here : (held : Memory) (variable place k : ℕ) (new : List ℕ) → place ≤ k → k < place + length new → with_words variable place new held variable k ≡ slice_index new (k - place)
with_here held variable place k new low high = by_test _ (variable == variable) (nat_le place k) (nat_lt k (place + length new)) (self variable variable refl) (le-leb place k low) (lt-ltb k (place + length new) high)
  where
    by_test : {x : ℕ} (y : ℕ) (a b c : Bool) → a ≡ true → b ≡ true → c ≡ true → (if (a && b) && c then x else y) ≡ x
    by_test y true true true is_a is_b is_c = refl
    by_test y true true false is_a is_b is_c = cc
    by_test y true false c is_a is_b is_c = cc
    by_test y false b c is_a is_b is_c = cc

skipped : (x y : ℕ) (b : Bool) → b ≡ false → (if b then x else y) ≡ y
skipped x y true is = cc
skipped x y false is = refl

other_variable : (a b c : Bool) → a ≡ false → ((a && b) && c) ≡ false
other_variable true b c is = cc
other_variable false b c is = refl

before_part : (a b c : Bool) → b ≡ false → ((a && b) && c) ≡ false
before_part true true c is = cc
before_part true false c is = refl
before_part false b c is = refl

behind_part : (a b c : Bool) → c ≡ false → ((a && b) && c) ≡ false
behind_part true true true is = cc
behind_part true true false is = refl
behind_part true false c is = refl
behind_part false b c is = refl

no_le : (a b : ℕ) → b < a → nat_le a b ≡ false
no_le a b less = grind (arith, nat_tests)

no_lt : (a b : ℕ) → b ≤ a → nat_lt a b ≡ false
no_lt a b less = grind (arith, nat_tests)

pub shows_stored : (program : Program) (words : List ℕ) (held : Memory) (variable at place : ℕ) (new : List ℕ) → ShowsMemory program words held → Stored program variable at place new → HoldsTruths program (with_words variable place new held)
    → ShowsMemory program (written words (memory_place program at + place) new) (with_words variable place new held)
shows_stored program words held variable at place new shows s truths = record {
  size = length_written words new (memory_place program at + place) room ∙ shows.size;
  shows = λ other own k defined less. by_variable other own k (other == variable) refl defined less;
  truths = truths;
}
  where
    room : memory_place program at + place + length new ≤ length words
    room = stored_room program words held variable at place new shows s

    fits : memory_place program at + place ≤ length words
    fits = omega (arith, room)

    within : at < length program.insts
    within = defined_within program.insts variable at s.defined

    -- a word of the variable itself
    own_word : (k : ℕ) → k < variable_words program (inst_at program.insts at) → slice_index (written words (memory_place program at + place) new) (memory_place program at + k) ≡ with_words variable place new held variable k
    own_word k less = elim (cases_lt k place) [
      | inl early ↦
          written_before words new (memory_place program at + place) (memory_place program at + k) fits (omega (arith, early))
          ∙ (shows.shows variable at k s.defined less ∙ sym (skipped (slice_index new (k - place)) (held variable k) _ (before_part (variable == variable) (nat_le place k) (nat_lt k (place + length new)) (no_le place k early))))
      | inr past ↦ elim (cases_lt k (place + length new)) [
        | inl inside ↦
            let e : memory_place program at + place + (k - place) ≡ memory_place program at + k = omega (arith, past) in
            ap (λ (n : ℕ). slice_index (written words (memory_place program at + place) new) n) (sym e)
            ∙ (written_within words new (memory_place program at + place) (k - place) fits (omega (arith, past, inside)) ∙ sym (with_here held variable place k new past inside))
        | inr behind ↦
            written_behind words new (memory_place program at + place) (memory_place program at + k) fits (omega (arith, behind))
            ∙ (shows.shows variable at k s.defined less ∙ sym (skipped (slice_index new (k - place)) (held variable k) _ (behind_part (variable == variable) (nat_le place k) (nat_lt k (place + length new)) (no_lt k (place + length new) behind))))
      ]
    ]

    -- a word of another one
    other_word : (other own k : ℕ) → other == variable ≡ false → definition program.insts other ≡ Some own → k < variable_words program (inst_at program.insts own)
        → slice_index (written words (memory_place program at + place) new) (memory_place program own + k) ≡ with_words variable place new held other k
    other_word other own k isnt defined less =
        let kept = sym (skipped (slice_index new (k - place)) (held other k) _ (other_variable (other == variable) (nat_le place k) (nat_lt k (place + length new)) isnt)) in
        let inside = s.fits in
        elim (cases_lt own at) [
          | inl early ↦
              let lies = memory_apart program own at early (omega (arith, within)) in
              written_before words new (memory_place program at + place) (memory_place program own + k) fits (omega (arith, lies, less)) ∙ (shows.shows other own k defined less ∙ kept)
          | inr late ↦
              let apart_from : own ≡ at → ⊥ = λ same_place. differ other variable isnt (one_definition program.insts other variable at (defined ∙ ap (λ (n : ℕ). Some n) same_place) s.defined) in
              let later : at < own = omega (arith, late, apart_from) in
              let lies = memory_apart program at own later (let w = defined_within program.insts other own defined in omega (arith, w)) in
              written_behind words new (memory_place program at + place) (memory_place program own + k) fits (omega (arith, lies, inside)) ∙ (shows.shows other own k defined less ∙ kept)
        ]

    by_variable : (other own k : ℕ) (b : Bool) → (other == variable) ≡ b → definition program.insts other ≡ Some own → k < variable_words program (inst_at program.insts own)
        → slice_index (written words (memory_place program at + place) new) (memory_place program own + k) ≡ with_words variable place new held other k
    by_variable other own k true is defined less =
        let e : other ≡ variable = same other variable is in
        let f : own ≡ at = same_some own at (sym defined ∙ (ap (definition program.insts) e ∙ s.defined)) in
        subst (λ (id : ℕ). slice_index (written words (memory_place program at + place) new) (memory_place program own + k) ≡ with_words variable place new held id k) (sym e)
        (subst (λ (n : ℕ). slice_index (written words (memory_place program at + place) new) (memory_place program n + k) ≡ with_words variable place new held variable k) (sym f)
        (own_word k (subst (λ (n : ℕ). k < variable_words program (inst_at program.insts n)) f less)))
    by_variable other own k false isnt defined less = other_word other own k isnt defined less
