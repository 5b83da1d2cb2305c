-- The listings of several modules, by their numbers.
use Rattle.std.specs.Prelude.{ℕ, List, ◌++◌, codes}
use Rattle.std.specs.List.{flat_map, enumerate_from}
use Rattle.std.specs.Fmt.{decimal}
use Rattle.spirv_model.specs.declared.module.Words.{Words}
use Rattle.listing_model.specs.Listing.{listing_of}

-- a module: a line with its number, and its listing
abbrev pub module_text : (ℕ × Words) → List ℕ
module_text (number, read) = codes "code " ++ decimal number ++ codes "\n" ++ listing_of read

-- all modules of a list
unfoldable pub modules_text : List Words → List ℕ
modules_text modules = flat_map module_text (enumerate_from 0 modules)
