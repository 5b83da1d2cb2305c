-- Which bytes are a listing of which words.
use Rattle.std.specs.Prelude.{◌≡◌, ℕ, ◌≤◌, true, List, length, is_some, ◌^◌, Bool, nat_lt}
use Rattle.std.specs.List.{list_all}
use Rattle.limits.specs.declared.TheConstants.{MODULE_WORDS, MAX_BOUND}
use Rattle.spirv_model.specs.declared.module.Inst.{Inst}
use Rattle.spirv_model.specs.Module.{module_words}
use Rattle.spirv_model.specs.Operands.{kinds}
use Rattle.listing_model.specs.Listing.{listing}

-- the bytes are the listing of a list and an id bound whose written words these are: those of a module, within the limits
pub record IsListing (bytes words : List ℕ) : Type 0 where
  pub bound : ℕ
  pub insts : List Inst
  pub bytes_are : bytes ≡ listing bound insts
  pub words_are : words ≡ module_words insts bound
  pub bound_least : 1 ≤ bound
  pub bound_most : bound ≤ MAX_BOUND
  pub few : length words ≤ MODULE_WORDS
  pub fit : list_all (λ inst. is_some (kinds inst)) insts ≡ true

-- a word has 32 bits
abbrev pub is_word : ℕ → Bool
is_word w = nat_lt w (2 ^ 32)

abbrev pub are_words : List ℕ → Bool
are_words words = list_all is_word words
