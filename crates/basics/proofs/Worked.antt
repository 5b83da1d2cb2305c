-- Worked values: what counts, words and answers are in single cases.
use Rattle.std.proofs.Common.{◌≡◌, ℕ, ◌≤◌, Bool, true, false, None, Some, Result, Ok, Err, refl}
use Rattle.basics.specs.Answer.{IsAnswer, FindsFault}
use Rattle.basics.specs.Count.{last_count, count_after, CountsOne, Rose}
use Rattle.basics.specs.Word.{word_of, signed_word, low_bits, inverted, are_equal}

-- counts stand still at 2^64 - 1
the_last_count : last_count ≡ 18446744073709551615
the_last_count = refl

one_after_none : count_after 0 ≡ 1
one_after_none = refl

the_last_is_reached : CountsOne 18446744073709551614 18446744073709551615
the_last_is_reached = refl

the_last_stands_still : CountsOne 18446744073709551615 18446744073709551615
the_last_stands_still = refl

-- to rise is to be one more at least, but at the last value
a_rise : Rose 7 9 ≡ (8 ≤ 9)
a_rise = refl

no_rise_at_the_last : Rose 18446744073709551615 3 ≡ (18446744073709551615 ≤ 3)
no_rise_at_the_last = refl

-- words: 32 bits, all of them inverted, two's complement
the_carry_is_dropped : low_bits 4294967301 ≡ 5
the_carry_is_dropped = refl

all_bits_of_none : inverted 0 ≡ 4294967295
all_bits_of_none = refl

five_inverted : inverted 5 ≡ 4294967290
five_inverted = refl

there_and_back : word_of (signed_word 4294967295) ≡ 4294967295
there_and_back = refl

-- two truth values that are both false are the same
both_false : are_equal false false ≡ true
both_false = refl

one_of_them : are_equal false true ≡ false
one_of_them = refl

abbrev ok : ℕ → Result ℕ Bool
ok = Ok

-- an answer is the expected one; of want of memory, here the fault true, nothing is said
the_value : IsAnswer {T = ℕ} {F = Bool} (λ fault. fault) (Ok 7) (Ok 8) ≡ (ok 7 ≡ Ok 8)
the_value = refl

the_fault : IsAnswer {T = ℕ} {F = Bool} (λ fault. fault) (Ok 7) (Err false) ≡ (ok 7 ≡ Err false)
the_fault = refl

want_of_memory : IsAnswer {T = ℕ} {F = Bool} (λ fault. fault) (Ok 7) (Err true) ≡ Unit {0}
want_of_memory = refl

-- a value says that there is no fault
nothing_found : FindsFault {T = ℕ} {F = Bool} (λ fault. fault) (Some false) (Ok 7) ≡ (Some false ≡ None)
nothing_found = refl
