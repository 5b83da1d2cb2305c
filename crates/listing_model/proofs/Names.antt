-- The names as SPIR-V's own tables have them, each beside its opcode's number; the opcodes of the list have one, and all differ.
use Rattle.std.proofs.Common.{◌≡◌, ℕ, Bool, true, not, ◌&&◌, List, [], ◌∷◌, codes, map, refl}
use Rattle.std.specs.Prelude.{bytes_eq}
use Rattle.std.specs.List.{filter, list_all}
use Rattle.spirv_model.specs.declared.table.Row.{Row}
use Rattle.spirv_model.specs.declared.table.TheConstants.{ROWS}
use Rattle.spirv_model.specs.Module.{lists}
use Rattle.listing_model.specs.Names.{names}
use Rattle.std.specs.Prelude.{Some}

pub named-opcodes : names
    ≡ (1, codes "OpUndef")
    ∷ (11, codes "OpExtInstImport")
    ∷ (14, codes "OpMemoryModel")
    ∷ (15, codes "OpEntryPoint")
    ∷ (16, codes "OpExecutionMode")
    ∷ (17, codes "OpCapability")
    ∷ (19, codes "OpTypeVoid")
    ∷ (20, codes "OpTypeBool")
    ∷ (21, codes "OpTypeInt")
    ∷ (23, codes "OpTypeVector")
    ∷ (28, codes "OpTypeArray")
    ∷ (30, codes "OpTypeStruct")
    ∷ (32, codes "OpTypePointer")
    ∷ (33, codes "OpTypeFunction")
    ∷ (41, codes "OpConstantTrue")
    ∷ (42, codes "OpConstantFalse")
    ∷ (43, codes "OpConstant")
    ∷ (44, codes "OpConstantComposite")
    ∷ (46, codes "OpConstantNull")
    ∷ (48, codes "OpSpecConstantTrue")
    ∷ (49, codes "OpSpecConstantFalse")
    ∷ (50, codes "OpSpecConstant")
    ∷ (51, codes "OpSpecConstantComposite")
    ∷ (52, codes "OpSpecConstantOp")
    ∷ (54, codes "OpFunction")
    ∷ (56, codes "OpFunctionEnd")
    ∷ (59, codes "OpVariable")
    ∷ (61, codes "OpLoad")
    ∷ (62, codes "OpStore")
    ∷ (65, codes "OpAccessChain")
    ∷ (71, codes "OpDecorate")
    ∷ (72, codes "OpMemberDecorate")
    ∷ (79, codes "OpVectorShuffle")
    ∷ (80, codes "OpCompositeConstruct")
    ∷ (81, codes "OpCompositeExtract")
    ∷ (82, codes "OpCompositeInsert")
    ∷ (124, codes "OpBitcast")
    ∷ (126, codes "OpSNegate")
    ∷ (128, codes "OpIAdd")
    ∷ (130, codes "OpISub")
    ∷ (132, codes "OpIMul")
    ∷ (134, codes "OpUDiv")
    ∷ (135, codes "OpSDiv")
    ∷ (137, codes "OpUMod")
    ∷ (138, codes "OpSRem")
    ∷ (139, codes "OpSMod")
    ∷ (154, codes "OpAny")
    ∷ (155, codes "OpAll")
    ∷ (164, codes "OpLogicalEqual")
    ∷ (165, codes "OpLogicalNotEqual")
    ∷ (166, codes "OpLogicalOr")
    ∷ (167, codes "OpLogicalAnd")
    ∷ (168, codes "OpLogicalNot")
    ∷ (169, codes "OpSelect")
    ∷ (170, codes "OpIEqual")
    ∷ (171, codes "OpINotEqual")
    ∷ (172, codes "OpUGreaterThan")
    ∷ (173, codes "OpSGreaterThan")
    ∷ (174, codes "OpUGreaterThanEqual")
    ∷ (175, codes "OpSGreaterThanEqual")
    ∷ (176, codes "OpULessThan")
    ∷ (177, codes "OpSLessThan")
    ∷ (178, codes "OpULessThanEqual")
    ∷ (179, codes "OpSLessThanEqual")
    ∷ (194, codes "OpShiftRightLogical")
    ∷ (195, codes "OpShiftRightArithmetic")
    ∷ (196, codes "OpShiftLeftLogical")
    ∷ (197, codes "OpBitwiseOr")
    ∷ (198, codes "OpBitwiseXor")
    ∷ (199, codes "OpBitwiseAnd")
    ∷ (200, codes "OpNot")
    ∷ (245, codes "OpPhi")
    ∷ (246, codes "OpLoopMerge")
    ∷ (247, codes "OpSelectionMerge")
    ∷ (248, codes "OpLabel")
    ∷ (249, codes "OpBranch")
    ∷ (250, codes "OpBranchConditional")
    ∷ (251, codes "OpSwitch")
    ∷ (252, codes "OpKill")
    ∷ (253, codes "OpReturn")
    ∷ (255, codes "OpUnreachable")
    ∷ []
named-opcodes = refl

-- the opcodes that have a place in the list are those that have a name
pub listed-have_names : map (λ (row : Row). row.op) (filter (λ (row : Row). lists (Some row.entry)) ROWS) ≡ map (λ (row : ℕ × List ℕ). row.0) names
listed-have_names = refl

-- each of these names differs from all after it
abbrev all_differ : List (ℕ × List ℕ) → Bool
all_differ [] = true
all_differ (row ∷ rows) = list_all (λ (other : ℕ × List ℕ). not (bytes_eq row.1 other.1)) rows && all_differ rows

pub names-differ : all_differ names ≡ true
names-differ = refl
