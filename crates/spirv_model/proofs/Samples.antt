-- Worked modules: what the definition of the instruction list gives for them, by computing.
use Rattle.std.proofs.Common.{◌≡◌, ℕ, true, false, List, [], ◌∷◌, ◌++◌, map, replicate, refl}
use Rattle.std.specs.Prelude.{Ok, Err, drop}
use Rattle.spirv_model.specs.declared.module.WordsFault.TheVariants.{BadHeader, ZeroLength, CutShort, UnknownOp, BadShape, FloatType}
use Rattle.spirv_model.specs.Module.{module_of, has_header, cut, list_of_cut, module_words}
use Rattle.spirv_model.specs.Operands.{entry_of, kinds}

-- a vertex module of one point at (128, 128, 0, 0)
abbrev pub point_module : List ℕ
point_module = 119734787 ∷ 65536 ∷ 0 ∷ 12 ∷ 0 ∷ 131089 ∷ 1 ∷ 196622 ∷ 0 ∷ 1 ∷ 393231 ∷ 0 ∷ 10 ∷ 1852399981 ∷ 0 ∷ 6 ∷ 262215 ∷ 6 ∷ 11 ∷ 0 ∷ 131091 ∷ 1 ∷ 196641 ∷ 2 ∷ 1 ∷ 262165 ∷ 3 ∷ 32 ∷ 1 ∷ 262167 ∷ 4 ∷ 3 ∷ 4 ∷ 262176 ∷ 5 ∷ 3 ∷ 4 ∷ 262203 ∷ 5 ∷ 6 ∷ 3 ∷ 262187 ∷ 3 ∷ 7 ∷ 0 ∷ 262187 ∷ 3 ∷ 8 ∷ 128 ∷ 458796 ∷ 4 ∷ 9 ∷ 8 ∷ 8 ∷ 7 ∷ 7 ∷ 327734 ∷ 1 ∷ 10 ∷ 0 ∷ 2 ∷ 131320 ∷ 11 ∷ 196670 ∷ 6 ∷ 9 ∷ 65789 ∷ 65592 ∷ []

-- its eighteen instructions, by their opcodes
pub point-opcodes : map (λ inst. inst.op) (cut (drop 5 point_module)).insts ≡ 17 ∷ 14 ∷ 15 ∷ 71 ∷ 19 ∷ 33 ∷ 21 ∷ 23 ∷ 32 ∷ 59 ∷ 43 ∷ 43 ∷ 44 ∷ 54 ∷ 248 ∷ 62 ∷ 253 ∷ 56 ∷ []
point-opcodes = refl

-- the header's bound, and the instructions of the cut
pub point-module : module_of point_module ≡ Ok (record { bound = 12; insts = (cut (drop 5 point_module)).insts })
unfolding list_of_cut entry_of kinds
point-module = refl

-- a good header
abbrev header : List ℕ
header = 119734787 ∷ 65536 ∷ 0 ∷ 12 ∷ 0 ∷ []

-- an instruction with word count 0
pub zero-length : module_of (header ++ 17 ∷ []) ≡ Err ZeroLength
unfolding list_of_cut
zero-length = refl

-- an instruction of two words, of which one is there
pub cut-short : module_of (header ++ 131089 ∷ []) ≡ Err CutShort
unfolding list_of_cut
cut-short = refl

-- OpTypeFloat
pub float-type : module_of (header ++ 196630 ∷ 1 ∷ 32 ∷ []) ≡ Err FloatType
unfolding list_of_cut entry_of kinds
float-type = refl

-- an opcode that isn't known, before an instruction that is cut short
pub unknown-op : module_of (header ++ 65545 ∷ 131089 ∷ []) ≡ Err (UnknownOp 9)
unfolding list_of_cut entry_of kinds
unknown-op = refl

-- a sound instruction, a skipped one, and one whose text has no end
pub bad-shape : module_of (header ++ 131089 ∷ 1 ∷ 65536 ∷ 196619 ∷ 1 ∷ 1094795585 ∷ []) ≡ Err (BadShape 1)
unfolding list_of_cut entry_of kinds
bad-shape = refl

-- the vertex module is written with the words that it was read from
pub point-written : module_words (cut (drop 5 point_module)).insts 12 ≡ point_module
point-written = refl

-- ---- headers

abbrev header_with : (version bound last : ℕ) → List ℕ
header_with version bound last = 119734787 ∷ version ∷ 0 ∷ bound ∷ last ∷ []

-- versions 0.9, 1.0, 1.6, 1.7 and 2.0, and 1.6 with something in its first or its last byte
pub versions : map (λ version. has_header (header_with version 12 0)) (0x0900 ∷ 0x1_0000 ∷ 0x1_0600 ∷ 0x1_0700 ∷ 0x2_0000 ∷ 0x0101_0600 ∷ 0x1_0601 ∷ [])
    ≡ false ∷ true ∷ true ∷ false ∷ false ∷ false ∷ false ∷ []
versions = refl

pub bounds : map (λ bound. has_header (header_with 65536 bound 0)) (0 ∷ 1 ∷ 65536 ∷ 65537 ∷ 4294967295 ∷ []) ≡ false ∷ true ∷ true ∷ false ∷ false ∷ []
bounds = refl

-- another fifth word, another magic number, four words, any generator
pub header-words :
    map has_header (header_with 65536 12 1 ∷ (50471687 ∷ 65536 ∷ 0 ∷ 12 ∷ 0 ∷ []) ∷ (119734787 ∷ 65536 ∷ 0 ∷ 12 ∷ []) ∷ (119734787 ∷ 65536 ∷ 4294967295 ∷ 12 ∷ 0 ∷ []) ∷ [])
    ≡ false ∷ false ∷ false ∷ true ∷ []
header-words = refl

-- 16,384 words, and one more
pub most-words : has_header (header ++ replicate 16379 0) ≡ true
most-words = refl

pub too_many-words : has_header (header ++ replicate 16380 0) ≡ false
too_many-words = refl

-- an id bound above the limit
pub bad-bound : module_of (119734787 ∷ 65536 ∷ 0 ∷ 4294967295 ∷ 0 ∷ []) ≡ Err BadHeader
bad-bound = refl

-- no words at all
pub bad-empty : module_of [] ≡ Err BadHeader
bad-empty = refl
