-- Words that are picked of two vectors.
use Rattle.std.specs.Prelude.{ℕ, ◌+◌, ◌-◌, ◌==◌, ◌^◌, nat_lt, if◌then◌else◌, List, slice_index}
use Rattle.spv_exec.specs.declared.composites.Vectors.{Vectors}

-- the word that a literal picks of two vectors, 0 for the literal ffffffff
abbrev pub picked_of : List ℕ → Vectors → ℕ → ℕ
picked_of words of literal =
    if literal == 2 ^ 32 - 1 then 0
    else if nat_lt literal of.count then slice_index words (of.first + literal)
    else slice_index words (of.second + (literal - of.count))
