-- The formats by their names, one test after another.
use Rattle.std.specs.Prelude.{ℕ, bytes_eq, if◌then◌else◌, List, codes, Option, None, Some}

abbrev pub signed_format_named : List ℕ → Option ℕ
signed_format_named name =
    if bytes_eq name (codes "s1") then Some 5
    else if bytes_eq name (codes "s2") then Some 6
    else if bytes_eq name (codes "s3") then Some 7
    else if bytes_eq name (codes "s4") then Some 8
    else if bytes_eq name (codes "z") then Some 9
    else None

abbrev pub format_named : List ℕ → Option ℕ
format_named name =
    if bytes_eq name (codes "u1") then Some 1
    else if bytes_eq name (codes "u2") then Some 2
    else if bytes_eq name (codes "u3") then Some 3
    else if bytes_eq name (codes "u4") then Some 4
    else signed_format_named name
