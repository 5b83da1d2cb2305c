-- Each constant of the format by its name, with its number in SPIR-V's own tables.
use Rattle.std.proofs.Common.{◌≡◌, [], ◌∷◌, refl}
use Rattle.spirv_model.specs.declared.builtin.TheConstants as builtin
use Rattle.spirv_model.specs.declared.decoration.TheConstants as decoration
use Rattle.spirv_model.specs.declared.execution_model.TheConstants as execution_model
use Rattle.spirv_model.specs.declared.module.TheConstants.{MAGIC, HEADER_WORDS, OPERAND_WORDS_LIMIT, VERSION}
use Rattle.spirv_model.specs.declared.op.TheConstants as op
use Rattle.spirv_model.specs.declared.storage_class.TheConstants as storage_class
use Rattle.spirv_model.specs.declared.table.TheConstants.{SHADER, ORIGIN_UPPER_LEFT}

pub opcodes-before_types :
    op.NOP ∷ op.UNDEF ∷ op.SOURCE_CONTINUED ∷ op.SOURCE ∷ op.SOURCE_EXTENSION ∷ op.NAME ∷ op.MEMBER_NAME ∷
    op.STRING ∷ op.LINE ∷ op.EXT_INST_IMPORT ∷ op.MEMORY_MODEL ∷ op.ENTRY_POINT ∷ op.EXECUTION_MODE ∷
    op.CAPABILITY ∷ []
    ≡ 0 ∷ 1 ∷ 2 ∷ 3 ∷ 4 ∷ 5 ∷ 6 ∷ 7 ∷ 8 ∷ 11 ∷ 14 ∷ 15 ∷ 16 ∷ 17 ∷ []
opcodes-before_types = refl

pub opcodes-types :
    op.TYPE_VOID ∷ op.TYPE_BOOL ∷ op.TYPE_INT ∷ op.TYPE_FLOAT ∷ op.TYPE_VECTOR ∷ op.TYPE_ARRAY ∷ op.TYPE_STRUCT ∷
    op.TYPE_POINTER ∷ op.TYPE_FUNCTION ∷ []
    ≡ 19 ∷ 20 ∷ 21 ∷ 22 ∷ 23 ∷ 28 ∷ 30 ∷ 32 ∷ 33 ∷ []
opcodes-types = refl

pub opcodes-constants :
    op.CONSTANT_TRUE ∷ op.CONSTANT_FALSE ∷ op.CONSTANT ∷ op.CONSTANT_COMPOSITE ∷ op.CONSTANT_NULL ∷
    op.SPEC_CONSTANT_TRUE ∷ op.SPEC_CONSTANT_FALSE ∷ op.SPEC_CONSTANT ∷ op.SPEC_CONSTANT_COMPOSITE ∷
    op.SPEC_CONSTANT_OP ∷ []
    ≡ 41 ∷ 42 ∷ 43 ∷ 44 ∷ 46 ∷ 48 ∷ 49 ∷ 50 ∷ 51 ∷ 52 ∷ []
opcodes-constants = refl

pub opcodes-memory :
    op.FUNCTION ∷ op.FUNCTION_END ∷ op.VARIABLE ∷ op.LOAD ∷ op.STORE ∷ op.ACCESS_CHAIN ∷ op.DECORATE ∷
    op.MEMBER_DECORATE ∷ []
    ≡ 54 ∷ 56 ∷ 59 ∷ 61 ∷ 62 ∷ 65 ∷ 71 ∷ 72 ∷ []
opcodes-memory = refl

pub opcodes-operations :
    op.VECTOR_SHUFFLE ∷ op.COMPOSITE_CONSTRUCT ∷ op.COMPOSITE_EXTRACT ∷ op.COMPOSITE_INSERT ∷ op.BITCAST ∷
    op.S_NEGATE ∷ op.I_ADD ∷ op.I_SUB ∷ op.I_MUL ∷ op.U_DIV ∷ op.S_DIV ∷ op.U_MOD ∷ op.S_REM ∷ op.S_MOD ∷
    op.ANY ∷ op.ALL ∷ []
    ≡ 79 ∷ 80 ∷ 81 ∷ 82 ∷ 124 ∷ 126 ∷ 128 ∷ 130 ∷ 132 ∷ 134 ∷ 135 ∷ 137 ∷ 138 ∷ 139 ∷ 154 ∷ 155 ∷ []
opcodes-operations = refl

pub opcodes-truths :
    op.LOGICAL_EQUAL ∷ op.LOGICAL_NOT_EQUAL ∷ op.LOGICAL_OR ∷ op.LOGICAL_AND ∷ op.LOGICAL_NOT ∷ op.SELECT ∷
    op.I_EQUAL ∷ op.I_NOT_EQUAL ∷ op.U_GREATER_THAN ∷ op.S_GREATER_THAN ∷ op.U_GREATER_THAN_EQUAL ∷
    op.S_GREATER_THAN_EQUAL ∷ op.U_LESS_THAN ∷ op.S_LESS_THAN ∷ op.U_LESS_THAN_EQUAL ∷ op.S_LESS_THAN_EQUAL ∷ []
    ≡ 164 ∷ 165 ∷ 166 ∷ 167 ∷ 168 ∷ 169 ∷ 170 ∷ 171 ∷ 172 ∷ 173 ∷ 174 ∷ 175 ∷ 176 ∷ 177 ∷ 178 ∷ 179 ∷ []
opcodes-truths = refl

pub opcodes-bits :
    op.SHIFT_RIGHT_LOGICAL ∷ op.SHIFT_RIGHT_ARITHMETIC ∷ op.SHIFT_LEFT_LOGICAL ∷ op.BITWISE_OR ∷ op.BITWISE_XOR ∷
    op.BITWISE_AND ∷ op.NOT ∷ []
    ≡ 194 ∷ 195 ∷ 196 ∷ 197 ∷ 198 ∷ 199 ∷ 200 ∷ []
opcodes-bits = refl

pub opcodes-control_flow :
    op.PHI ∷ op.LOOP_MERGE ∷ op.SELECTION_MERGE ∷ op.LABEL ∷ op.BRANCH ∷ op.BRANCH_CONDITIONAL ∷ op.SWITCH ∷
    op.KILL ∷ op.RETURN ∷ op.UNREACHABLE ∷ op.NO_LINE ∷ op.MODULE_PROCESSED ∷ []
    ≡ 245 ∷ 246 ∷ 247 ∷ 248 ∷ 249 ∷ 250 ∷ 251 ∷ 252 ∷ 253 ∷ 255 ∷ 317 ∷ 330 ∷ []
opcodes-control_flow = refl

pub decorations :
    decoration.SPEC_ID ∷ decoration.BLOCK ∷ decoration.ARRAY_STRIDE ∷ decoration.BUILT_IN ∷ decoration.FLAT ∷
    decoration.LOCATION ∷ decoration.BINDING ∷ decoration.DESCRIPTOR_SET ∷ decoration.OFFSET ∷ []
    ≡ 1 ∷ 2 ∷ 6 ∷ 11 ∷ 14 ∷ 30 ∷ 33 ∷ 34 ∷ 35 ∷ []
decorations = refl

pub built-ins :
    builtin.POSITION ∷ builtin.FRAG_COORD ∷ builtin.FRONT_FACING ∷ builtin.VERTEX_INDEX ∷
    builtin.INSTANCE_INDEX ∷ []
    ≡ 0 ∷ 15 ∷ 17 ∷ 42 ∷ 43 ∷ []
built-ins = refl

pub storage-classes :
    storage_class.INPUT ∷ storage_class.UNIFORM ∷ storage_class.OUTPUT ∷ storage_class.PRIVATE ∷
    storage_class.FUNCTION ∷ storage_class.PUSH_CONSTANT ∷ []
    ≡ 1 ∷ 2 ∷ 3 ∷ 6 ∷ 7 ∷ 9 ∷ []
storage-classes = refl

pub execution-models :
    execution_model.VERTEX ∷ execution_model.FRAGMENT ∷ []
    ≡ 0 ∷ 4 ∷ []
execution-models = refl

-- the magic number, the words of the header, the greatest number of words behind an instruction's first, and version 1.0
pub words : MAGIC ∷ HEADER_WORDS ∷ OPERAND_WORDS_LIMIT ∷ VERSION ∷ [] ≡ 119734787 ∷ 5 ∷ 65534 ∷ 65536 ∷ []
words = refl

-- the capability Shader and the execution mode OriginUpperLeft
pub modes : SHADER ∷ ORIGIN_UPPER_LEFT ∷ [] ≡ 1 ∷ 7 ∷ []
modes = refl
