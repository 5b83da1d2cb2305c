-- The names of the opcodes that have a place in the list.
use Rattle.std.specs.Prelude.{ℕ, ◌==◌, bytes_eq, if◌then◌else◌, List, [], ◌∷◌, codes, Option, None, Some}
use Rattle.spirv_model.specs.declared.op.TheConstants.{UNDEF, EXT_INST_IMPORT, MEMORY_MODEL, ENTRY_POINT, EXECUTION_MODE, CAPABILITY, TYPE_VOID, TYPE_BOOL, TYPE_INT, TYPE_VECTOR, TYPE_ARRAY, TYPE_STRUCT, TYPE_POINTER, TYPE_FUNCTION, CONSTANT_TRUE, CONSTANT_FALSE, CONSTANT, CONSTANT_COMPOSITE, CONSTANT_NULL, SPEC_CONSTANT_TRUE, SPEC_CONSTANT_FALSE, SPEC_CONSTANT, SPEC_CONSTANT_COMPOSITE, SPEC_CONSTANT_OP, FUNCTION, FUNCTION_END, VARIABLE, LOAD, STORE, ACCESS_CHAIN, DECORATE, MEMBER_DECORATE, VECTOR_SHUFFLE, COMPOSITE_CONSTRUCT, COMPOSITE_EXTRACT, COMPOSITE_INSERT, BITCAST, S_NEGATE, I_ADD, I_SUB, I_MUL, U_DIV, S_DIV, U_MOD, S_REM, S_MOD, ANY, ALL, LOGICAL_EQUAL, LOGICAL_NOT_EQUAL, LOGICAL_OR, LOGICAL_AND, LOGICAL_NOT, SELECT, I_EQUAL, I_NOT_EQUAL, U_GREATER_THAN, S_GREATER_THAN, U_GREATER_THAN_EQUAL, S_GREATER_THAN_EQUAL, U_LESS_THAN, S_LESS_THAN, U_LESS_THAN_EQUAL, S_LESS_THAN_EQUAL, SHIFT_RIGHT_LOGICAL, SHIFT_RIGHT_ARITHMETIC, SHIFT_LEFT_LOGICAL, BITWISE_OR, BITWISE_XOR, BITWISE_AND, NOT, PHI, LOOP_MERGE, SELECTION_MERGE, LABEL, BRANCH, BRANCH_CONDITIONAL, SWITCH, KILL, RETURN, UNREACHABLE}

-- each opcode with its name (SPIR-V specification, section 3.49 "Instructions")
abbrev pub names : List (ℕ × List ℕ)
names =
    (UNDEF, codes "OpUndef")
    ∷ (EXT_INST_IMPORT, codes "OpExtInstImport")
    ∷ (MEMORY_MODEL, codes "OpMemoryModel")
    ∷ (ENTRY_POINT, codes "OpEntryPoint")
    ∷ (EXECUTION_MODE, codes "OpExecutionMode")
    ∷ (CAPABILITY, codes "OpCapability")
    ∷ (TYPE_VOID, codes "OpTypeVoid")
    ∷ (TYPE_BOOL, codes "OpTypeBool")
    ∷ (TYPE_INT, codes "OpTypeInt")
    ∷ (TYPE_VECTOR, codes "OpTypeVector")
    ∷ (TYPE_ARRAY, codes "OpTypeArray")
    ∷ (TYPE_STRUCT, codes "OpTypeStruct")
    ∷ (TYPE_POINTER, codes "OpTypePointer")
    ∷ (TYPE_FUNCTION, codes "OpTypeFunction")
    ∷ (CONSTANT_TRUE, codes "OpConstantTrue")
    ∷ (CONSTANT_FALSE, codes "OpConstantFalse")
    ∷ (CONSTANT, codes "OpConstant")
    ∷ (CONSTANT_COMPOSITE, codes "OpConstantComposite")
    ∷ (CONSTANT_NULL, codes "OpConstantNull")
    ∷ (SPEC_CONSTANT_TRUE, codes "OpSpecConstantTrue")
    ∷ (SPEC_CONSTANT_FALSE, codes "OpSpecConstantFalse")
    ∷ (SPEC_CONSTANT, codes "OpSpecConstant")
    ∷ (SPEC_CONSTANT_COMPOSITE, codes "OpSpecConstantComposite")
    ∷ (SPEC_CONSTANT_OP, codes "OpSpecConstantOp")
    ∷ (FUNCTION, codes "OpFunction")
    ∷ (FUNCTION_END, codes "OpFunctionEnd")
    ∷ (VARIABLE, codes "OpVariable")
    ∷ (LOAD, codes "OpLoad")
    ∷ (STORE, codes "OpStore")
    ∷ (ACCESS_CHAIN, codes "OpAccessChain")
    ∷ (DECORATE, codes "OpDecorate")
    ∷ (MEMBER_DECORATE, codes "OpMemberDecorate")
    ∷ (VECTOR_SHUFFLE, codes "OpVectorShuffle")
    ∷ (COMPOSITE_CONSTRUCT, codes "OpCompositeConstruct")
    ∷ (COMPOSITE_EXTRACT, codes "OpCompositeExtract")
    ∷ (COMPOSITE_INSERT, codes "OpCompositeInsert")
    ∷ (BITCAST, codes "OpBitcast")
    ∷ (S_NEGATE, codes "OpSNegate")
    ∷ (I_ADD, codes "OpIAdd")
    ∷ (I_SUB, codes "OpISub")
    ∷ (I_MUL, codes "OpIMul")
    ∷ (U_DIV, codes "OpUDiv")
    ∷ (S_DIV, codes "OpSDiv")
    ∷ (U_MOD, codes "OpUMod")
    ∷ (S_REM, codes "OpSRem")
    ∷ (S_MOD, codes "OpSMod")
    ∷ (ANY, codes "OpAny")
    ∷ (ALL, codes "OpAll")
    ∷ (LOGICAL_EQUAL, codes "OpLogicalEqual")
    ∷ (LOGICAL_NOT_EQUAL, codes "OpLogicalNotEqual")
    ∷ (LOGICAL_OR, codes "OpLogicalOr")
    ∷ (LOGICAL_AND, codes "OpLogicalAnd")
    ∷ (LOGICAL_NOT, codes "OpLogicalNot")
    ∷ (SELECT, codes "OpSelect")
    ∷ (I_EQUAL, codes "OpIEqual")
    ∷ (I_NOT_EQUAL, codes "OpINotEqual")
    ∷ (U_GREATER_THAN, codes "OpUGreaterThan")
    ∷ (S_GREATER_THAN, codes "OpSGreaterThan")
    ∷ (U_GREATER_THAN_EQUAL, codes "OpUGreaterThanEqual")
    ∷ (S_GREATER_THAN_EQUAL, codes "OpSGreaterThanEqual")
    ∷ (U_LESS_THAN, codes "OpULessThan")
    ∷ (S_LESS_THAN, codes "OpSLessThan")
    ∷ (U_LESS_THAN_EQUAL, codes "OpULessThanEqual")
    ∷ (S_LESS_THAN_EQUAL, codes "OpSLessThanEqual")
    ∷ (SHIFT_RIGHT_LOGICAL, codes "OpShiftRightLogical")
    ∷ (SHIFT_RIGHT_ARITHMETIC, codes "OpShiftRightArithmetic")
    ∷ (SHIFT_LEFT_LOGICAL, codes "OpShiftLeftLogical")
    ∷ (BITWISE_OR, codes "OpBitwiseOr")
    ∷ (BITWISE_XOR, codes "OpBitwiseXor")
    ∷ (BITWISE_AND, codes "OpBitwiseAnd")
    ∷ (NOT, codes "OpNot")
    ∷ (PHI, codes "OpPhi")
    ∷ (LOOP_MERGE, codes "OpLoopMerge")
    ∷ (SELECTION_MERGE, codes "OpSelectionMerge")
    ∷ (LABEL, codes "OpLabel")
    ∷ (BRANCH, codes "OpBranch")
    ∷ (BRANCH_CONDITIONAL, codes "OpBranchConditional")
    ∷ (SWITCH, codes "OpSwitch")
    ∷ (KILL, codes "OpKill")
    ∷ (RETURN, codes "OpReturn")
    ∷ (UNREACHABLE, codes "OpUnreachable")
    ∷ []

-- the name of the opcode in this table
abbrev pub name_in : List (ℕ × List ℕ) → ℕ → Option (List ℕ)
name_in [] op = None
name_in (row ∷ rows) op = if row.0 == op then Some row.1 else name_in rows op

-- the opcode with this name in this table
abbrev pub op_in : List (ℕ × List ℕ) → List ℕ → Option ℕ
op_in [] name = None
op_in (row ∷ rows) name = if bytes_eq row.1 name then Some row.0 else op_in rows name

-- the name of an opcode, if it has one
unfoldable pub name_of : ℕ → Option (List ℕ)
name_of op = name_in names op

-- the opcode with a name, if there is one
unfoldable pub op_named : List ℕ → Option ℕ
op_named name = op_in names name
