-- Listings of several modules, by computing.
use Rattle.std.proofs.Common.{◌≡◌, ℕ, List, [], ◌∷◌, ◌++◌, codes, refl}
use Rattle.std.specs.Fmt.{digits}
use Rattle.spirv_model.specs.declared.module.Inst.{Inst}
use Rattle.spirv_model.specs.declared.module.Words.{Words}
use Rattle.spirv_model.specs.Operands.{entry_of, kinds, result}
use Rattle.listing_model.specs.Listing.{inst_text}
use Rattle.listing_model.specs.ModuleTexts.{modules_text}
use Rattle.listing_model.specs.Names.{name_of}

abbrev of : ℕ → List Inst → Words
of bound insts = record { bound = bound; insts = insts }

abbrev i : ℕ → List ℕ → Inst
i op words = record { op = op; words = words }

pub no_module : modules_text [] ≡ []
unfolding modules_text
no_module = refl

pub two_modules : modules_text (of 9 (i 17 (1 ∷ []) ∷ i 253 [] ∷ []) ∷ of 65536 (i 248 (8 ∷ []) ∷ []) ∷ [])
    ≡ codes "code 0\n" ++ codes "spvt 1 9\n" ++ codes "OpCapability 1\n" ++ codes "OpReturn\n"
    ++ codes "code 1\n" ++ codes "spvt 1 65536\n" ++ codes "%8 = OpLabel\n"
unfolding modules_text entry_of kinds result digits name_of inst_text
two_modules = refl
