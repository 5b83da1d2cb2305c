-- The first fault of all places.
use Rattle.std.proofs.Common.{◌≡◌, ℕ, zero, suc, ◌<◌, ◌≤◌, Bool, true, false, if◌then◌else◌, length, refl, sym, ◌∙◌, ap, subst, arith, inl, inr}
use Rattle.std.specs.Prelude.{Option, None, Some}
use Rattle.std.specs.Option.{option_or}
use Rattle.std.proofs.lemmas.Bool.{cases_lt}
use Rattle.basics.specs.Answer.{FaultUnlessMemory}
use Rattle.basics.proofs.Answers.{unless_memory}
use Rattle.spirv_model.specs.declared.module.Words.{Words}
use Rattle.valid_model.specs.declared.meaning.IdFacts.{IdFacts}
use Rattle.valid_model.specs.declared.meaning.Meaning.TheVariants.{Absent}
use Rattle.valid_model.specs.declared.type_fault.TypeFault.{TypeFault}
use Rattle.valid_model.specs.declared.type_fault.TypeFault.TheVariants.{BadDecoration}
use Rattle.valid_model.specs.Knowledge.{meaning_in, size_in}
use Rattle.valid_model.specs.Meanings.{known_by, meaning}
use Rattle.valid_model.specs.Decorations.{bad_decoration}
use Rattle.valid_model.specs.FirstFault.{first_fault, rule_fault, type_fault, type_fault_at, is_memory}
use Rattle.spv_types.specs.declared.pass.Found.{Found}
use Rattle.spv_types.specs.declared.pass.FirstPass.{FirstPass}
use Rattle.spv_types.specs.Answers.{meaning_or}
use Rattle.spv_types.specs.FirstBad.{IsFirstBad, FindsFirstBad, bad_else}
use Rattle.spv_types.specs.Tables.{in_table, IsFirst, FindsFirst, IsFirstPass}

pub first_fault-none : (fault_at : ℕ → Option TypeFault) (n : ℕ) → ((place : ℕ) → place < n → fault_at place ≡ None) → first_fault fault_at n ≡ None
first_fault-none fault_at zero none = refl
first_fault-none fault_at (suc n) none =
    ap (λ (o : Option TypeFault). option_or o (fault_at n)) (first_fault-none fault_at n (λ place below. none place (omega (arith, below))))
    ∙ none n (omega arith)

pub first_fault-at : (fault_at : ℕ → Option TypeFault) (n place : ℕ) (fault : TypeFault) → place < n
    → ((earlier : ℕ) → earlier < place → fault_at earlier ≡ None) → fault_at place ≡ Some fault → first_fault fault_at n ≡ Some fault
first_fault-at fault_at zero place fault within none here = absurd (omega arith)
first_fault-at fault_at (suc n) place fault within none here =
    elim (cases_lt place n) [
      | inl below ↦ ap (λ (o : Option TypeFault). option_or o (fault_at n)) (first_fault-at fault_at n place fault below none here)
      | inr last ↦
          ap (λ (o : Option TypeFault). option_or o (fault_at n)) (first_fault-none fault_at n (λ earlier below. none earlier (omega (arith, below, last))))
          ∙ subst (λ (m : ℕ). fault_at m ≡ Some fault) {x = place} {y = n} (omega arith) here
    ]

abbrev bad_at : ℕ → Bool → Option TypeFault
bad_at place bad = if bad then Some (BadDecoration place) else None

none_at : (words : Words) (place : ℕ) → rule_fault words place ≡ None → bad_decoration words.insts place ≡ false → type_fault_at words place ≡ None
none_at words place none sound =
    ap (λ (o : Option TypeFault). option_or o (bad_at place (bad_decoration words.insts place))) none ∙ ap (bad_at place) sound

bad_first : (words : Words) (place : ℕ) → rule_fault words place ≡ None → bad_decoration words.insts place ≡ true → type_fault_at words place ≡ Some (BadDecoration place)
bad_first words place none bad =
    ap (λ (o : Option TypeFault). option_or o (bad_at place (bad_decoration words.insts place))) none ∙ ap (bad_at place) bad

some_at : (words : Words) (place : ℕ) (fault : TypeFault) → rule_fault words place ≡ Some fault → type_fault_at words place ≡ Some fault
some_at words place fault here = ap (λ (o : Option TypeFault). option_or o (bad_at place (bad_decoration words.insts place))) here

-- no fault of ids, types and constants below the limit, and none of decorations, or the first of them
bad_below : (words : Words) (limit place : ℕ) → limit ≤ length words.insts → ((earlier : ℕ) → earlier < limit → rule_fault words earlier ≡ None)
    → IsFirstBad words.insts limit place → type_fault words ≡ Some (BadDecoration place)
unfolding type_fault
bad_below words limit place within none first =
    first_fault-at (type_fault_at words) (length words.insts) place (BadDecoration place) (omega (arith, first.within, within))
    (λ earlier below. none_at words earlier (none earlier (omega (arith, below, first.within))) (first.before earlier below))
    (bad_first words place (none place first.within) first.bad)

found_alone : (words : Words) (found : Found) → IsFirst words (length words.insts) found
    → ((at : ℕ) → at < found.place → bad_decoration words.insts at ≡ false) → type_fault words ≡ Some found.fault
unfolding type_fault
found_alone words found first sound =
    first_fault-at (type_fault_at words) (length words.insts) found.place found.fault first.within
    (λ place below. none_at words place (first.before place below) (sound place below)) (some_at words found.place found.fault first.here)

sound_all : (words : Words) → ((place : ℕ) → place < length words.insts → rule_fault words place ≡ None)
    → ((at : ℕ) → at < length words.insts → bad_decoration words.insts at ≡ false) → type_fault words ≡ None
unfolding type_fault
sound_all words none sound =
    first_fault-none (type_fault_at words) (length words.insts) (λ place below. none_at words place (none place below) (sound place below))

-- the first fault of ids, types and constants, and the first bad decoration before it
pub with_found : (words : Words) (found : Found) (bad : Option ℕ) → IsFirst words (length words.insts) found → FindsFirstBad words.insts found.place bad
    → bad_else bad (Some found.fault) ≡ type_fault words
with_found words found (Some place) first bad = sym (bad_below words found.place place (omega (arith, first.within)) first.before bad)
with_found words found None first bad = sym (found_alone words found first bad)

-- no fault of ids, types and constants
pub without : (words : Words) (bad : Option ℕ) → FindsFirst words (length words.insts) None → FindsFirstBad words.insts (length words.insts) bad
    → bad_else bad None ≡ type_fault words
without words (Some place) none bad = sym (bad_below words (length words.insts) place (omega arith) none bad)
without words None none bad = sym (sound_all words none bad)

pub fails_by : (words : Words) (fault : TypeFault) → type_fault words ≡ Some fault → FaultUnlessMemory is_memory (λ (f : TypeFault). type_fault words ≡ Some f) fault
fails_by words fault is = unless_memory (is_memory fault) (type_fault words ≡ Some fault) is

absent_or : (known : Option IdFacts) → meaning_or Absent known ≡ meaning_in known
absent_or None = refl
absent_or (Some known) = refl

pub meanings : (words : Words) (pass : FirstPass) → IsFirstPass words pass → (id : ℕ) → meaning_or Absent (in_table pass.table id) ≡ meaning words.insts id
meanings words pass over id = absent_or (in_table pass.table id) ∙ ap meaning_in (over.known id)

pub sizes : (words : Words) (pass : FirstPass) → IsFirstPass words pass → (id : ℕ) → size_in (in_table pass.table id) ≡ size_in (known_by words.insts id)
sizes words pass over id = ap size_in (over.known id)
