-- Counts of events in 64 bits, which stand still at their last value.
use Rattle.std.specs.Prelude.{◌≡◌, ℕ, ◌+◌, ◌-◌, ◌^◌, ◌≤◌, min}

-- the last value of a count, at which it stands still
abbrev pub last_count : ℕ
last_count = 2 ^ 64 - 1

-- the count after one more
abbrev pub count_after : ℕ → ℕ
count_after n = min (n + 1) last_count

-- one more was counted
abbrev pub CountsOne : ℕ → ℕ → Type 0
CountsOne before after = after ≡ count_after before

-- a count that never falls rose: it is greater than it was, or it stood at its last value and stands there
abbrev pub Rose : ℕ → ℕ → Type 0
Rose before after = count_after before ≤ after
