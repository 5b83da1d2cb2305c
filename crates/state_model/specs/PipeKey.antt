-- The key of a pipe: that of the canonical form of what its libraries make, where they link; and what a key says of them.
use Rattle.std.specs.Prelude.{ℕ, ◌/◌, ◌%◌, ◌^◌, ◌==◌, Bool, false, ◌&&◌, ◌||◌, List, Option, None, Some, slice_index}
use Rattle.std.specs.Option.{option_map}
use Rattle.state_model.specs.declared.parts.State.{State}
use Rattle.state_model.specs.Canonical.{canonical}
use Rattle.state_model.specs.Key.{key}
use Rattle.state_model.specs.Link.{Libraries, failed_rule, linked_state}

-- the state that libraries make, where they link
unfoldable pub state_if_linked : Libraries → Option State
state_if_linked libs = elim (failed_rule libs false) [ Some rule ↦ None | None ↦ linked_state libs ]

-- their key, where they link: by the SpecIds that the vertex module declares, and those of the fragment module, if there is one
unfoldable pub key_if_linked : (vs_ids fs_ids : List ℕ) → Libraries → Option (List ℕ)
key_if_linked vs_ids fs_ids libs = option_map (λ s. key (canonical vs_ids fs_ids s)) (state_if_linked libs)

-- a flag of the key's first word
abbrev pub flag_of : ℕ → List ℕ → Bool
flag_of bit key = slice_index key 0 / 2 ^ bit % 2 == 1

-- all libraries of the key are retained: where rasterization is discarded, these are those of the first two subsets alone
unfoldable pub is_retained : List ℕ → Bool
is_retained key = flag_of 8 key && flag_of 9 key && (flag_of 1 key || (flag_of 10 key && flag_of 11 key))
