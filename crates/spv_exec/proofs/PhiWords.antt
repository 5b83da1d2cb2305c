-- What a frame shows of what phis take, copied to where their results stand.
use Rattle.std.proofs.Common.{◌≡◌, ℕ, ◌+◌, ◌<◌, ◌≤◌, ◌==◌, true, List, [], ◌∷◌, length, drop, refl, ap, sym, ◌∙◌, subst, arith, inl, inr, Option, None, Some}
use Rattle.std.specs.Option.{option_map, option_and_then}
use Rattle.std.proofs.lemmas.Bool.{cases_lt}
use Rattle.std.proofs.lemmas.Bool.Decides.{nat_tests}
use Rattle.spirv_model.specs.declared.op.TheConstants as op
use Rattle.valid_model.specs.Definitions.{definition, inst_at}
use Rattle.stage_model.specs.Value.{Value}
use Rattle.stage_model.specs.Program.{Program}
use Rattle.stage_model.specs.Start.{Values, all_values}
use Rattle.stage_model.specs.Effect.{paired_with}
use Rattle.typed_model.proofs.ValidTypes.{defined_within}
use Rattle.frame_model.specs.Frame.{frame_words, frame_place, in_frame}
use Rattle.frame_model.specs.Shown.{words_at, IsFrame, StandsAt}
use Rattle.frame_model.specs.Written.{written}
use Rattle.frame_model.proofs.FrameWrites.{frame_apart, frame_room}
use Rattle.frame_model.proofs.WrittenWords.{length_written, written_here, written_earlier}
use Rattle.spv_exec.specs.Phis.{ListsId, ArePhis, Takes, PhiReads, ShowsTaken}

same_one : (a b : ℕ) → ◌≡◌ {A = List ℕ} (a ∷ []) (b ∷ []) → a ≡ b
same_one a b is = cc

-- the words of what a phi takes
pub taken : (program : Program) (frame incoming new : List ℕ) (values : Values) (before place id at count to : ℕ) → IsFrame program frame → IsFrame program incoming → place < length program.insts
    → (r : PhiReads program frame values before place) → paired_with before (drop 2 (inst_at program.insts place).words) ≡ id ∷ []
    → ((place : ℕ) → definition program.insts id ≡ Some place → at ≡ frame_place program place) → count ≡ frame_words program (inst_at program.insts place) → to ≡ frame_place program place
    → (at + count ≤ length frame → to + count ≤ length incoming → new ≡ written incoming to (words_at frame at count)) → new ≡ written incoming (frame_place program place) (in_frame program r.value)
taken program frame incoming new values before place id at count to is also within r pair stands counts goes copied =
    let e : id ≡ r.id = same_one id r.id (sym pair ∙ r.pair) in
    let a : at ≡ frame_place program r.at = stands r.at (ap (definition program.insts) e ∙ r.defined) in
    let c : count ≡ frame_words program (inst_at program.insts r.at) = counts ∙ (sym r.size ∙ r.stands.size) in
    let room = frame_room program r.at (defined_within program.insts r.id r.at r.defined) in
    let room_here = frame_room program place within in
    let w : words_at frame at count ≡ in_frame program r.value = ap (λ (n : ℕ). words_at frame n count) a ∙ (ap (λ (n : ℕ). words_at frame (frame_place program r.at) n) c ∙ r.stands.stands) in
    copied (omega (arith, a, c, room, is)) (omega (arith, goes, counts, room_here, also)) ∙ (ap (λ (n : ℕ). written incoming n (words_at frame at count)) goes ∙ ap (written incoming (frame_place program place)) w)

-- what was taken for a phi becomes its result
pub taken_here : (program : Program) (frame incoming new : List ℕ) (place at count : ℕ) (value : Value) → IsFrame program frame → IsFrame program incoming → place < length program.insts → StandsAt program incoming place value
    → count ≡ frame_words program (inst_at program.insts place) → at ≡ frame_place program place
    → (at + count ≤ length incoming → at + count ≤ length frame → new ≡ written frame at (words_at incoming at count)) → new ≡ written frame (frame_place program place) (in_frame program value)
taken_here program frame incoming new place at count value is also within s counts stands copied =
    let room = frame_room program place within in
    let w : words_at incoming at count ≡ in_frame program value = ap (λ (n : ℕ). words_at incoming n count) stands ∙ (ap (λ (n : ℕ). words_at incoming (frame_place program place) n) counts ∙ s.stands) in
    copied (omega (arith, stands, counts, room, also)) (omega (arith, stands, counts, room, is)) ∙ (ap (λ (n : ℕ). written frame n (words_at incoming at count)) stands ∙ ap (written frame (frame_place program place)) w)

-- a phi that takes something names the block
pub no_pair : (found : Option ℕ) (ids : List ℕ) (id : ℕ) → ListsId ids found → ((id : ℕ) → found ≡ Some id → ⊥) → ids ≡ id ∷ [] → ⊥
no_pair None ids id none isnt is = never id (sym none ∙ is)
  where
    never : (id : ℕ) → ◌≡◌ {A = List ℕ} [] (id ∷ []) → ⊥
    never id is = cc
no_pair (Some own) ids id one isnt is = isnt own refl

-- ---- several phis

-- these words show what the phis from a place up to another one take
pub record ShowsTakenUpTo (program : Program) (incoming : List ℕ) (values : Values) (before from to : ℕ) : Type 0 where
  pub size : IsFrame program incoming
  pub stands : (place : ℕ) (value : Value) → from ≤ place → place < to → Takes program values before place value → StandsAt program incoming place value

same_value : (a b : Value) → ◌≡◌ {A = Option (List Value)} (Some (a ∷ [])) (Some (b ∷ [])) → a ≡ b
same_value a b is = cc

-- what a phi takes is what it reads
pub reads_taken : (program : Program) (frame : List ℕ) (values : Values) (before place : ℕ) (value : Value) → (r : PhiReads program frame values before place) → Takes program values before place value → r.value ≡ value
reads_taken program frame values before place value r takes =
    same_value r.value value (sym (ap (all_values values) r.pair ∙ ap (option_and_then (λ first. option_map (λ rest. first ∷ rest) (all_values values []))) r.has) ∙ takes)

-- one more
pub one_more : (program : Program) (frame incoming new : List ℕ) (values : Values) (before from place : ℕ) → place < length program.insts → ShowsTakenUpTo program incoming values before from place
    → (r : PhiReads program frame values before place) → new ≡ written incoming (frame_place program place) (in_frame program r.value) → ShowsTakenUpTo program new values before from (place + 1)
one_more program frame incoming new values before from place within shows r is =
    let room = frame_room program place within in let long = shows.size in let size = r.size in
    let fits : frame_place program place + length (in_frame program r.value) ≤ length incoming = omega (arith, room, long, size) in
    let goal : ShowsTakenUpTo program (written incoming (frame_place program place) (in_frame program r.value)) values before from (place + 1) = record {
      size = length_written incoming (in_frame program r.value) (frame_place program place) fits ∙ shows.size;
      stands = λ other value low high takes. elim (cases_lt other place) [
        | inl early ↦
            let s = shows.stands other value low early takes in
            record { size = s.size; stands = written_earlier incoming (in_frame program r.value) (frame_place program place) (frame_place program other) (frame_words program (inst_at program.insts other)) fits (frame_apart program other place early (omega (arith, within))) ∙ s.stands }
        | inr late ↦
            let e : other ≡ place = omega (arith, late, high) in
            subst (λ (n : ℕ). StandsAt program (written incoming (frame_place program place) (in_frame program r.value)) n value) (sym e)
            (subst (λ (v : Value). StandsAt program (written incoming (frame_place program place) (in_frame program r.value)) place v) (reads_taken program frame values before place value r (subst (λ (n : ℕ). Takes program values before n value) e takes))
            (record {
              size = r.size;
              stands = subst (λ (n : ℕ). words_at (written incoming (frame_place program place) (in_frame program r.value)) (frame_place program place) n ≡ in_frame program r.value) r.size
                  (written_here incoming (in_frame program r.value) (frame_place program place) fits);
            }))
      ];
    } in
    subst (λ (words : List ℕ). ShowsTakenUpTo program words values before from (place + 1)) (sym is) goal

-- all of them, where none stands at the place behind them
pub all_taken : (program : Program) (incoming : List ℕ) (values : Values) (before from to : ℕ) → ShowsTakenUpTo program incoming values before from to
    → ((place : ℕ) → to ≤ place → place < length program.insts → ArePhis program from place → ⊥) → ShowsTaken program incoming values before from
all_taken program incoming values before from to shows none place value low within phis takes = elim (cases_lt place to) [
  | inl early ↦ shows.stands place value low early takes
  | inr late ↦ absurd (none place late within phis)
]

-- where no phi stands, no more follow
pub no_more : (program : Program) (from to : ℕ) → from ≤ to → ((inst_at program.insts to).op ≡ op.PHI → ⊥) → (place : ℕ) → to ≤ place → place < length program.insts → ArePhis program from place → ⊥
no_more program from to low isnt place past within phis = isnt (same_op (inst_at program.insts to).op op.PHI (phis to low past))
  where
    same_op : (a b : ℕ) → a == b ≡ true → a ≡ b
    same_op a b is = grind (arith, nat_tests)
