-- What the table's entry of a listed opcode says of an instruction.
use Rattle.std.proofs.Common.{◌≡◌, ℕ, List, Option, Some, ap, sym, ◌∙◌}
use Rattle.std.specs.List.{flat_map}
use Rattle.spirv_model.specs.declared.module.Inst.{Inst}
use Rattle.spirv_model.specs.declared.class.Class.{Class}
use Rattle.spirv_model.specs.declared.table.Operands.{Operands}
use Rattle.spirv_model.specs.declared.table.Entry.{Entry}
use Rattle.spirv_model.specs.declared.table.Entry.TheVariants.{Listed}
use Rattle.spirv_model.specs.Operands.{entry_of, kinds, kinds_from, kinds_in, listed_of}
use Rattle.listing_model.specs.Listing.{after_space, fields_in}
use Rattle.spv_text.specs.Pieces.{spaced, others_text}

pub listed_kinds : (inst : Inst) (class : Class) (operands : Operands) (words : List ℕ) → entry_of inst.op ≡ Some (Listed class operands) → words ≡ inst.words
    → kinds inst ≡ kinds_from (listed_of operands) operands.rest words
unfolding kinds
listed_kinds inst class operands words h w = ap (λ (e : Option Entry). kinds_in e inst.words) h ∙ ap (kinds_from (listed_of operands) operands.rest) (sym w)

pub listed_others : (inst : Inst) (class : Class) (operands : Operands) (words : List ℕ) → entry_of inst.op ≡ Some (Listed class operands) → words ≡ inst.words
    → others_text inst ≡ spaced (listed_of operands) operands.rest words
listed_others inst class operands words h w =
    ap (λ (e : Option Entry). flat_map after_space (fields_in e inst.words)) h ∙ ap (spaced (listed_of operands) operands.rest) (sym w)
