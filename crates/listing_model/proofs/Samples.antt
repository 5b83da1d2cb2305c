-- Worked listings: what the definitions give for them, by computing.
use Rattle.std.proofs.Common.{◌≡◌, ℕ, List, [], ◌∷◌, ◌++◌, codes, refl}
use Rattle.std.specs.Prelude.{Ok, Err}
use Rattle.std.specs.Fmt.{digits}
use Rattle.spirv_model.specs.declared.module.Inst.{Inst}
use Rattle.spirv_model.specs.declared.module.WordsFault.TheVariants.{BadHeader, FloatType}
use Rattle.spirv_model.specs.Module.{module_of, list_of_cut}
use Rattle.spirv_model.specs.Operands.{entry_of, kinds, result}
use Rattle.listing_model.specs.declared.fault.TextCause.{TextCause}
use Rattle.listing_model.specs.declared.fault.TextCause.TheVariants.{NoEnd, NoHead, NoName, BadOperands}
use Rattle.listing_model.specs.declared.fault.TextFault.{TextFault}
use Rattle.listing_model.specs.declared.fault.ListFault.TheVariants.{Words}
use Rattle.listing_model.specs.Names.{name_of, op_named}
use Rattle.listing_model.specs.Listing.{inst_text, inst_line}
use Rattle.listing_model.specs.Spelling.{spoken_of}
use Rattle.listing_model.specs.Assembly.{assembled, head_gives, line_inst, listed_text}

abbrev i : ℕ → List ℕ → Inst
i op words = record { op = op; words = words }

abbrev fault : ℕ → TextCause → TextFault
fault line cause = record { line = line; cause = cause }

-- a listing of a line with the bound 9, and this text
abbrev behind_head : List ℕ → List ℕ
behind_head text = codes "spvt 1 9\n" ++ text

-- the words of a module with the bound 9, and these
abbrev behind_header : List ℕ → List ℕ
behind_header words = 119734787 ∷ 65536 ∷ 0 ∷ 9 ∷ 0 ∷ words

-- a fragment module of the constant 42, and its seventeen lines
abbrev colour_words : List ℕ
colour_words = 119734787 ∷ 65536 ∷ 0 ∷ 9 ∷ 0 ∷ 131089 ∷ 1 ∷ 196622 ∷ 0 ∷ 1 ∷ 393231 ∷ 4 ∷ 7 ∷ 1852399981 ∷ 0 ∷ 5 ∷ 196624 ∷ 7 ∷ 7 ∷ 262215 ∷ 5 ∷ 30 ∷ 0 ∷ 131091 ∷ 1 ∷ 196641 ∷ 2 ∷ 1 ∷ 262165 ∷ 3 ∷ 32 ∷ 0 ∷ 262176 ∷ 4 ∷ 3 ∷ 3 ∷ 262203 ∷ 4 ∷ 5 ∷ 3 ∷ 262187 ∷ 3 ∷ 6 ∷ 42 ∷ 327734 ∷ 1 ∷ 7 ∷ 0 ∷ 2 ∷ 131320 ∷ 8 ∷ 196670 ∷ 5 ∷ 6 ∷ 65789 ∷ 65592 ∷ []

abbrev colour_text : List ℕ
colour_text =
    codes "spvt 1 9\n"
    ++ codes "OpCapability 1\n"
    ++ codes "OpMemoryModel 0 1\n"
    ++ codes "OpEntryPoint 4 %7 x6d61696e %5\n"
    ++ codes "OpExecutionMode %7 7\n"
    ++ codes "OpDecorate %5 30 0\n"
    ++ codes "%1 = OpTypeVoid\n"
    ++ codes "%2 = OpTypeFunction %1\n"
    ++ codes "%3 = OpTypeInt 32 0\n"
    ++ codes "%4 = OpTypePointer 3 %3\n"
    ++ codes "%5 = OpVariable %4 3\n"
    ++ codes "%6 = OpConstant %3 42\n"
    ++ codes "%7 = OpFunction %1 0 %2\n"
    ++ codes "%8 = OpLabel\n"
    ++ codes "OpStore %5 %6\n"
    ++ codes "OpReturn\n"
    ++ codes "OpFunctionEnd\n"

pub colour-listed : listed_text (module_of colour_words) ≡ Ok colour_text
unfolding list_of_cut entry_of kinds result digits name_of inst_text
colour-listed = refl

pub colour-assembled : assembled colour_text ≡ Ok colour_words
unfolding assembled head_gives line_inst spoken_of entry_of kinds result digits name_of op_named inst_text
colour-assembled = refl

-- words that are no module
pub short-header : listed_text (module_of []) ≡ Err (Words BadHeader)
short-header = refl

pub float-listed : listed_text (module_of (behind_header (196630 ∷ 1 ∷ 32 ∷ []))) ≡ Err (Words FloatType)
unfolding list_of_cut entry_of kinds
float-listed = refl

-- OpSwitch: the selector, the default, and pairs of a literal and a label
pub switch-line : inst_line (i 251 (3 ∷ 4 ∷ 0 ∷ 5 ∷ 4294967295 ∷ 6 ∷ [])) ≡ codes "OpSwitch %3 %4 0 %5 4294967295 %6\n"
unfolding entry_of result digits name_of inst_text
switch-line = refl

pub switch-words : assembled (behind_head (codes "OpSwitch %3 %4 0 %5 4294967295 %6\n")) ≡ Ok (behind_header (459003 ∷ 3 ∷ 4 ∷ 0 ∷ 5 ∷ 4294967295 ∷ 6 ∷ []))
unfolding assembled head_gives line_inst spoken_of entry_of kinds result digits name_of op_named inst_text
switch-words = refl

-- OpPhi: pairs of a value and a label
pub phi-line : inst_line (i 245 (3 ∷ 7 ∷ 11 ∷ 1 ∷ 22 ∷ 2 ∷ [])) ≡ codes "%7 = OpPhi %3 %11 %1 %22 %2\n"
unfolding entry_of result digits name_of inst_text
phi-line = refl

pub phi-words : assembled (behind_head (codes "%7 = OpPhi %3 %11 %1 %22 %2\n")) ≡ Ok (behind_header (458997 ∷ 3 ∷ 7 ∷ 11 ∷ 1 ∷ 22 ∷ 2 ∷ []))
unfolding assembled head_gives line_inst spoken_of entry_of kinds result digits name_of op_named inst_text
phi-words = refl

-- OpSpecConstantOp: the opcode is a number
pub spec_constant_op-line : inst_line (i 52 (3 ∷ 10 ∷ 128 ∷ 6 ∷ 9 ∷ [])) ≡ codes "%10 = OpSpecConstantOp %3 128 %6 %9\n"
unfolding entry_of result digits name_of inst_text
spec_constant_op-line = refl

pub spec_constant_op-words : assembled (behind_head (codes "%10 = OpSpecConstantOp %3 128 %6 %9\n")) ≡ Ok (behind_header (393268 ∷ 3 ∷ 10 ∷ 128 ∷ 6 ∷ 9 ∷ []))
unfolding assembled head_gives line_inst spoken_of entry_of kinds result digits name_of op_named inst_text
spec_constant_op-words = refl

-- ids behind a text
pub interface-line : inst_line (i 15 (0 ∷ 10 ∷ 1852399981 ∷ 0 ∷ 6 ∷ 8 ∷ [])) ≡ codes "OpEntryPoint 0 %10 x6d61696e %6 %8\n"
unfolding entry_of result digits name_of inst_text
interface-line = refl

pub interface-words : assembled (behind_head (codes "OpEntryPoint 0 %10 x6d61696e %6 %8\n")) ≡ Ok (behind_header (458767 ∷ 0 ∷ 10 ∷ 1852399981 ∷ 0 ∷ 6 ∷ 8 ∷ []))
unfolding assembled head_gives line_inst spoken_of entry_of kinds result digits name_of op_named inst_text
interface-words = refl

-- a text of no byte
pub text_of_empty-line : inst_line (i 11 (1 ∷ 0 ∷ [])) ≡ codes "%1 = OpExtInstImport x\n"
unfolding entry_of result digits name_of inst_text
text_of_empty-line = refl

pub text_of_empty-words : assembled (behind_head (codes "%1 = OpExtInstImport x\n")) ≡ Ok (behind_header (196619 ∷ 1 ∷ 0 ∷ []))
unfolding assembled head_gives line_inst spoken_of entry_of kinds result digits name_of op_named inst_text
text_of_empty-words = refl

-- a text of one byte
pub text_of_one_byte-line : inst_line (i 11 (1 ∷ 1 ∷ [])) ≡ codes "%1 = OpExtInstImport x01\n"
unfolding entry_of result digits name_of inst_text
text_of_one_byte-line = refl

pub text_of_one_byte-words : assembled (behind_head (codes "%1 = OpExtInstImport x01\n")) ≡ Ok (behind_header (196619 ∷ 1 ∷ 1 ∷ []))
unfolding assembled head_gives line_inst spoken_of entry_of kinds result digits name_of op_named inst_text
text_of_one_byte-words = refl

-- a text of two bytes
pub text_of_two_bytes-line : inst_line (i 11 (1 ∷ 65345 ∷ [])) ≡ codes "%1 = OpExtInstImport x41ff\n"
unfolding entry_of result digits name_of inst_text
text_of_two_bytes-line = refl

pub text_of_two_bytes-words : assembled (behind_head (codes "%1 = OpExtInstImport x41ff\n")) ≡ Ok (behind_header (196619 ∷ 1 ∷ 65345 ∷ []))
unfolding assembled head_gives line_inst spoken_of entry_of kinds result digits name_of op_named inst_text
text_of_two_bytes-words = refl

-- a text of three bytes, a space and a line feed among them
pub text_of_three_bytes-line : inst_line (i 11 (1 ∷ 2427424 ∷ [])) ≡ codes "%1 = OpExtInstImport x200a25\n"
unfolding entry_of result digits name_of inst_text
text_of_three_bytes-line = refl

pub text_of_three_bytes-words : assembled (behind_head (codes "%1 = OpExtInstImport x200a25\n")) ≡ Ok (behind_header (196619 ∷ 1 ∷ 2427424 ∷ []))
unfolding assembled head_gives line_inst spoken_of entry_of kinds result digits name_of op_named inst_text
text_of_three_bytes-words = refl

-- a text of four bytes, which a word of zeros ends
pub text_of_four_bytes-line : inst_line (i 11 (1 ∷ 4034953080 ∷ 0 ∷ [])) ≡ codes "%1 = OpExtInstImport x787f80f0\n"
unfolding entry_of result digits name_of inst_text
text_of_four_bytes-line = refl

pub text_of_four_bytes-words : assembled (behind_head (codes "%1 = OpExtInstImport x787f80f0\n")) ≡ Ok (behind_header (262155 ∷ 1 ∷ 4034953080 ∷ 0 ∷ []))
unfolding assembled head_gives line_inst spoken_of entry_of kinds result digits name_of op_named inst_text
text_of_four_bytes-words = refl

-- a text of every byte but zero
pub text_of_all_bytes-line : inst_line (i 11 (1 ∷ 67305985 ∷ 134678021 ∷ 202050057 ∷ 269422093 ∷ 336794129 ∷ 404166165 ∷ 471538201 ∷ 538910237 ∷ 606282273 ∷ 673654309 ∷ 741026345 ∷ 808398381 ∷ 875770417 ∷ 943142453 ∷ 1010514489 ∷ 1077886525 ∷ 1145258561 ∷ 1212630597 ∷ 1280002633 ∷ 1347374669 ∷ 1414746705 ∷ 1482118741 ∷ 1549490777 ∷ 1616862813 ∷ 1684234849 ∷ 1751606885 ∷ 1818978921 ∷ 1886350957 ∷ 1953722993 ∷ 2021095029 ∷ 2088467065 ∷ 2155839101 ∷ 2223211137 ∷ 2290583173 ∷ 2357955209 ∷ 2425327245 ∷ 2492699281 ∷ 2560071317 ∷ 2627443353 ∷ 2694815389 ∷ 2762187425 ∷ 2829559461 ∷ 2896931497 ∷ 2964303533 ∷ 3031675569 ∷ 3099047605 ∷ 3166419641 ∷ 3233791677 ∷ 3301163713 ∷ 3368535749 ∷ 3435907785 ∷ 3503279821 ∷ 3570651857 ∷ 3638023893 ∷ 3705395929 ∷ 3772767965 ∷ 3840140001 ∷ 3907512037 ∷ 3974884073 ∷ 4042256109 ∷ 4109628145 ∷ 4177000181 ∷ 4244372217 ∷ 16776957 ∷ [])) ≡ codes "%1 = OpExtInstImport x0102030405060708090a0b0c0d0e0f101112131415161718191a1b1c1d1e1f202122232425262728292a2b2c2d2e2f303132333435363738393a3b3c3d3e3f404142434445464748494a4b4c4d4e4f505152535455565758595a5b5c5d5e5f606162636465666768696a6b6c6d6e6f707172737475767778797a7b7c7d7e7f808182838485868788898a8b8c8d8e8f909192939495969798999a9b9c9d9e9fa0a1a2a3a4a5a6a7a8a9aaabacadaeafb0b1b2b3b4b5b6b7b8b9babbbcbdbebfc0c1c2c3c4c5c6c7c8c9cacbcccdcecfd0d1d2d3d4d5d6d7d8d9dadbdcdddedfe0e1e2e3e4e5e6e7e8e9eaebecedeeeff0f1f2f3f4f5f6f7f8f9fafbfcfdfeff\n"
unfolding entry_of result digits name_of inst_text
text_of_all_bytes-line = refl

pub text_of_all_bytes-words : assembled (behind_head (codes "%1 = OpExtInstImport x0102030405060708090a0b0c0d0e0f101112131415161718191a1b1c1d1e1f202122232425262728292a2b2c2d2e2f303132333435363738393a3b3c3d3e3f404142434445464748494a4b4c4d4e4f505152535455565758595a5b5c5d5e5f606162636465666768696a6b6c6d6e6f707172737475767778797a7b7c7d7e7f808182838485868788898a8b8c8d8e8f909192939495969798999a9b9c9d9e9fa0a1a2a3a4a5a6a7a8a9aaabacadaeafb0b1b2b3b4b5b6b7b8b9babbbcbdbebfc0c1c2c3c4c5c6c7c8c9cacbcccdcecfd0d1d2d3d4d5d6d7d8d9dadbdcdddedfe0e1e2e3e4e5e6e7e8e9eaebecedeeeff0f1f2f3f4f5f6f7f8f9fafbfcfdfeff\n")) ≡ Ok (behind_header (4325387 ∷ 1 ∷ 67305985 ∷ 134678021 ∷ 202050057 ∷ 269422093 ∷ 336794129 ∷ 404166165 ∷ 471538201 ∷ 538910237 ∷ 606282273 ∷ 673654309 ∷ 741026345 ∷ 808398381 ∷ 875770417 ∷ 943142453 ∷ 1010514489 ∷ 1077886525 ∷ 1145258561 ∷ 1212630597 ∷ 1280002633 ∷ 1347374669 ∷ 1414746705 ∷ 1482118741 ∷ 1549490777 ∷ 1616862813 ∷ 1684234849 ∷ 1751606885 ∷ 1818978921 ∷ 1886350957 ∷ 1953722993 ∷ 2021095029 ∷ 2088467065 ∷ 2155839101 ∷ 2223211137 ∷ 2290583173 ∷ 2357955209 ∷ 2425327245 ∷ 2492699281 ∷ 2560071317 ∷ 2627443353 ∷ 2694815389 ∷ 2762187425 ∷ 2829559461 ∷ 2896931497 ∷ 2964303533 ∷ 3031675569 ∷ 3099047605 ∷ 3166419641 ∷ 3233791677 ∷ 3301163713 ∷ 3368535749 ∷ 3435907785 ∷ 3503279821 ∷ 3570651857 ∷ 3638023893 ∷ 3705395929 ∷ 3772767965 ∷ 3840140001 ∷ 3907512037 ∷ 3974884073 ∷ 4042256109 ∷ 4109628145 ∷ 4177000181 ∷ 4244372217 ∷ 16776957 ∷ []))
unfolding assembled head_gives line_inst spoken_of entry_of kinds result digits name_of op_named inst_text
text_of_all_bytes-words = refl

-- no bytes at all
pub nothing : assembled ([]) ≡ Err (fault 1 NoHead)
unfolding assembled head_gives line_inst spoken_of entry_of kinds result digits name_of op_named inst_text
nothing = refl

-- a first line without a line feed
pub head_has_no_end : assembled (codes "spvt 1 9") ≡ Err (fault 1 NoEnd)
unfolding assembled head_gives line_inst spoken_of entry_of kinds result digits name_of op_named inst_text
head_has_no_end = refl

-- an id bound of 0
pub bound_is_zero : assembled (codes "spvt 1 0\n") ≡ Err (fault 1 NoHead)
unfolding assembled head_gives line_inst spoken_of entry_of kinds result digits name_of op_named inst_text
bound_is_zero = refl

-- an id bound above the limit
pub bound_is_too_great : assembled (codes "spvt 1 65537\n") ≡ Err (fault 1 NoHead)
unfolding assembled head_gives line_inst spoken_of entry_of kinds result digits name_of op_named inst_text
bound_is_too_great = refl

-- a leading zero in the id bound
pub bound_has_a_leading_zero : assembled (codes "spvt 1 09\n") ≡ Err (fault 1 NoHead)
unfolding assembled head_gives line_inst spoken_of entry_of kinds result digits name_of op_named inst_text
bound_has_a_leading_zero = refl

-- another first line
pub another_form : assembled (codes "gplt 1\n") ≡ Err (fault 1 NoHead)
unfolding assembled head_gives line_inst spoken_of entry_of kinds result digits name_of op_named inst_text
another_form = refl

-- a carriage return before the line feed
pub carriage_return_in_head : assembled (codes "spvt 1 9\r\nOpReturn\r\n") ≡ Err (fault 1 NoHead)
unfolding assembled head_gives line_inst spoken_of entry_of kinds result digits name_of op_named inst_text
carriage_return_in_head = refl

-- an operand too many
pub return_with_operand : assembled (codes "spvt 1 9\nOpReturn 0\n") ≡ Err (fault 2 BadOperands)
unfolding assembled head_gives line_inst spoken_of entry_of kinds result digits name_of op_named inst_text
return_with_operand = refl

-- OpTypeFloat
pub float_type : assembled (codes "spvt 1 9\n%3 = OpTypeFloat 32\n") ≡ Err (fault 2 NoName)
unfolding assembled head_gives line_inst spoken_of entry_of kinds result digits name_of op_named inst_text
float_type = refl

-- a skipped opcode
pub skipped : assembled (codes "spvt 1 9\nOpNop\n") ≡ Err (fault 2 NoName)
unfolding assembled head_gives line_inst spoken_of entry_of kinds result digits name_of op_named inst_text
skipped = refl

-- the front of a name
pub name_prefix : assembled (codes "spvt 1 9\n%1 = OpTypeVoi\n") ≡ Err (fault 2 NoName)
unfolding assembled head_gives line_inst spoken_of entry_of kinds result digits name_of op_named inst_text
name_prefix = refl

-- a name that goes on
pub longer_name : assembled (codes "spvt 1 9\nOpReturnValue\n") ≡ Err (fault 2 NoName)
unfolding assembled head_gives line_inst spoken_of entry_of kinds result digits name_of op_named inst_text
longer_name = refl

-- a line with nothing in it
pub empty_line : assembled (codes "spvt 1 9\n\n") ≡ Err (fault 2 NoName)
unfolding assembled head_gives line_inst spoken_of entry_of kinds result digits name_of op_named inst_text
empty_line = refl

-- a result without a name
pub missing_name : assembled (codes "spvt 1 9\n%3 =\n") ≡ Err (fault 2 NoName)
unfolding assembled head_gives line_inst spoken_of entry_of kinds result digits name_of op_named inst_text
missing_name = refl

-- the last line without a line feed
pub no_end : assembled (codes "spvt 1 9\nOpReturn") ≡ Err (fault 2 NoEnd)
unfolding assembled head_gives line_inst spoken_of entry_of kinds result digits name_of op_named inst_text
no_end = refl

-- a faulty last line without a line feed
pub no_end_comes_first : assembled (codes "spvt 1 9\nOpBla 7") ≡ Err (fault 2 NoEnd)
unfolding assembled head_gives line_inst spoken_of entry_of kinds result digits name_of op_named inst_text
no_end_comes_first = refl

-- a carriage return behind a name
pub carriage_return : assembled (codes "spvt 1 9\nOpReturn\r\n") ≡ Err (fault 2 NoName)
unfolding assembled head_gives line_inst spoken_of entry_of kinds result digits name_of op_named inst_text
carriage_return = refl

-- a tab in place of a space
pub tab : assembled (codes "spvt 1 9\nOpStore\t%5 %6\n") ≡ Err (fault 2 NoName)
unfolding assembled head_gives line_inst spoken_of entry_of kinds result digits name_of op_named inst_text
tab = refl

-- a tab between operands
pub tab_between_operands : assembled (codes "spvt 1 9\nOpStore %5\t%6\n") ≡ Err (fault 2 BadOperands)
unfolding assembled head_gives line_inst spoken_of entry_of kinds result digits name_of op_named inst_text
tab_between_operands = refl

-- two spaces
pub two_spaces : assembled (codes "spvt 1 9\nOpStore  %5 %6\n") ≡ Err (fault 2 BadOperands)
unfolding assembled head_gives line_inst spoken_of entry_of kinds result digits name_of op_named inst_text
two_spaces = refl

-- a space at the end
pub space_at_end : assembled (codes "spvt 1 9\nOpReturn \n") ≡ Err (fault 2 BadOperands)
unfolding assembled head_gives line_inst spoken_of entry_of kinds result digits name_of op_named inst_text
space_at_end = refl

-- an id without its sign
pub id_without_sign : assembled (codes "spvt 1 9\nOpStore 5 %6\n") ≡ Err (fault 2 BadOperands)
unfolding assembled head_gives line_inst spoken_of entry_of kinds result digits name_of op_named inst_text
id_without_sign = refl

-- a literal with an id's sign
pub literal_with_sign : assembled (codes "spvt 1 9\nOpDecorate %5 %30 0\n") ≡ Err (fault 2 BadOperands)
unfolding assembled head_gives line_inst spoken_of entry_of kinds result digits name_of op_named inst_text
literal_with_sign = refl

-- a sign without a number
pub no_number : assembled (codes "spvt 1 9\n%8 = OpTypeStruct %\n") ≡ Err (fault 2 BadOperands)
unfolding assembled head_gives line_inst spoken_of entry_of kinds result digits name_of op_named inst_text
no_number = refl

-- a leading zero
pub leading_zero : assembled (codes "spvt 1 9\nOpStore %05 %6\n") ≡ Err (fault 2 BadOperands)
unfolding assembled head_gives line_inst spoken_of entry_of kinds result digits name_of op_named inst_text
leading_zero = refl

-- an id of more than 32 bits
pub id_above_words : assembled (codes "spvt 1 9\n%8 = OpTypeStruct %4294967296\n") ≡ Err (fault 2 BadOperands)
unfolding assembled head_gives line_inst spoken_of entry_of kinds result digits name_of op_named inst_text
id_above_words = refl

-- a literal of more than 32 bits
pub literal_above_words : assembled (codes "spvt 1 9\nOpMemoryModel 0 4294967297\n") ≡ Err (fault 2 BadOperands)
unfolding assembled head_gives line_inst spoken_of entry_of kinds result digits name_of op_named inst_text
literal_above_words = refl

-- a result left out
pub no_result : assembled (codes "spvt 1 9\nOpLabel\n") ≡ Err (fault 2 BadOperands)
unfolding assembled head_gives line_inst spoken_of entry_of kinds result digits name_of op_named inst_text
no_result = refl

-- a result behind the name
pub result_behind_name : assembled (codes "spvt 1 9\nOpLabel %8\n") ≡ Err (fault 2 BadOperands)
unfolding assembled head_gives line_inst spoken_of entry_of kinds result digits name_of op_named inst_text
result_behind_name = refl

-- a result where there is none
pub result_of_none : assembled (codes "spvt 1 9\n%8 = OpReturn\n") ≡ Err (fault 2 BadOperands)
unfolding assembled head_gives line_inst spoken_of entry_of kinds result digits name_of op_named inst_text
result_of_none = refl

-- something else between result and name
pub result_with_other_sign : assembled (codes "spvt 1 9\n%8 : OpLabel\n") ≡ Err (fault 2 BadOperands)
unfolding assembled head_gives line_inst spoken_of entry_of kinds result digits name_of op_named inst_text
result_with_other_sign = refl

-- half a pair
pub odd_pairs : assembled (codes "spvt 1 9\n%7 = OpPhi %3 %11\n") ≡ Err (fault 2 BadOperands)
unfolding assembled head_gives line_inst spoken_of entry_of kinds result digits name_of op_named inst_text
odd_pairs = refl

-- another capability
pub other_capability : assembled (codes "spvt 1 9\nOpCapability 2\n") ≡ Err (fault 2 BadOperands)
unfolding assembled head_gives line_inst spoken_of entry_of kinds result digits name_of op_named inst_text
other_capability = refl

-- upper-case digits
pub upper_case : assembled (codes "spvt 1 9\n%1 = OpExtInstImport x4A\n") ≡ Err (fault 2 BadOperands)
unfolding assembled head_gives line_inst spoken_of entry_of kinds result digits name_of op_named inst_text
upper_case = refl

-- a byte 00 at the end of a text
pub zero_byte : assembled (codes "spvt 1 9\n%1 = OpExtInstImport x4a00\n") ≡ Err (fault 2 BadOperands)
unfolding assembled head_gives line_inst spoken_of entry_of kinds result digits name_of op_named inst_text
zero_byte = refl

-- a byte 00 inside of a text
pub zero_byte_inside : assembled (codes "spvt 1 9\n%1 = OpExtInstImport x4a004a\n") ≡ Err (fault 2 BadOperands)
unfolding assembled head_gives line_inst spoken_of entry_of kinds result digits name_of op_named inst_text
zero_byte_inside = refl

-- an odd number of digits
pub half_a_byte : assembled (codes "spvt 1 9\n%1 = OpExtInstImport x4a4\n") ≡ Err (fault 2 BadOperands)
unfolding assembled head_gives line_inst spoken_of entry_of kinds result digits name_of op_named inst_text
half_a_byte = refl

-- a text without its sign
pub text_without_sign : assembled (codes "spvt 1 9\n%1 = OpExtInstImport 4a\n") ≡ Err (fault 2 BadOperands)
unfolding assembled head_gives line_inst spoken_of entry_of kinds result digits name_of op_named inst_text
text_without_sign = refl

-- the first faulty line is answered
pub first_line : assembled (behind_head (codes "OpReturn\nOpReturn 0\nOpNop\n")) ≡ Err (fault 3 BadOperands)
unfolding assembled head_gives line_inst spoken_of entry_of kinds result digits name_of op_named inst_text
first_line = refl
