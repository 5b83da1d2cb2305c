-- The table of opcodes as SPIR-V's own tables have it: each opcode's number, the operands of its instructions, and its class.
-- T is the id of the result's type, R the result's id, x an id, n a word, a digit that word, s a text, and * any number of what
-- stands before it.
use Rattle.std.proofs.Common.{◌≡◌, ℕ, ◌+◌, List, [], ◌∷◌, ◌++◌, map, Option, None, Some, codes, refl}
use Rattle.spirv_model.specs.declared.class.Class.{Class}
use Rattle.spirv_model.specs.declared.class.Class.TheVariants as class
use Rattle.spirv_model.specs.declared.class.ScalarClass.{ScalarClass}
use Rattle.spirv_model.specs.declared.class.ScalarClass.TheVariants as scalar
use Rattle.spirv_model.specs.declared.table.Entry.{Entry}
use Rattle.spirv_model.specs.declared.table.Entry.TheVariants as entry
use Rattle.spirv_model.specs.declared.table.Operand.{Operand}
use Rattle.spirv_model.specs.declared.table.Operand.TheVariants as operand
use Rattle.spirv_model.specs.declared.table.Rest.{Rest}
use Rattle.spirv_model.specs.declared.table.Rest.TheVariants as rest
use Rattle.spirv_model.specs.declared.table.Row.{Row}
use Rattle.spirv_model.specs.declared.table.TheConstants.{ROWS}
use Rattle.spirv_model.specs.Operands.{listed_of}

-- operands as text
abbrev letter : Operand → List ℕ
letter operand.IdResultType = codes "T"
letter operand.IdResult = codes "R"
letter operand.IdRef = codes "x"
letter operand.LiteralInteger = codes "n"
letter (operand.Fixed digit) = (48 + digit) ∷ []
letter operand.LiteralString = codes "s"

abbrev letters : List (Option Operand) → List ℕ
letters [] = []
letters (None ∷ more) = []
letters (Some first ∷ more) = letter first ++ letters more

abbrev rest_letters : Rest → List ℕ
rest_letters rest.Nothing = []
rest_letters rest.IdRefs = codes "x*"
rest_letters rest.LiteralIntegers = codes "n*"
rest_letters rest.PairsIdRefIdRef = codes "(xx)*"
rest_letters rest.PairsLiteralIntegerIdRef = codes "(nx)*"

-- classes as text
abbrev scalar_name : ScalarClass → List ℕ
scalar_name scalar.Bitcast = codes "bitcast"
scalar_name scalar.WordFromWord = codes "word"
scalar_name scalar.WordFromWords = codes "words"
scalar_name scalar.TruthFromWords = codes "comparison"
scalar_name scalar.TruthFromTruth = codes "truth"
scalar_name scalar.TruthFromTruths = codes "truths"
scalar_name scalar.Select = codes "select"

abbrev class_name : Class → List ℕ
class_name class.Setting = codes "setting"
class_name class.TypeDeclaration = codes "type"
class_name class.Constant = codes "constant"
class_name class.SpecConstant = codes "spec"
class_name class.SpecConstantResult = codes "derived"
class_name class.Undef = codes "undef"
class_name class.Variable = codes "variable"
class_name class.Function = codes "function"
class_name class.Memory = codes "memory"
class_name class.Composite = codes "composite"
class_name (class.Scalar kind) = scalar_name kind
class_name class.Phi = codes "phi"
class_name class.Merge = codes "merge"
class_name class.Label = codes "label"
class_name class.Terminator = codes "terminator"

abbrev shape_text : Entry → List ℕ
shape_text entry.Skipped = codes "-"
shape_text entry.Float = codes "-"
shape_text (entry.Listed kind operands) = letters (listed_of operands) ++ rest_letters operands.rest

abbrev class_text : Entry → List ℕ
class_text entry.Skipped = codes "-"
class_text entry.Float = codes "float"
class_text (entry.Listed kind operands) = class_name kind

abbrev row_text : Row → ℕ × List ℕ × List ℕ
row_text row = (row.op, shape_text row.entry, class_text row.entry)

pub opcodes : map row_text ROWS
    ≡ (0, codes "-", codes "-")
    ∷ (1, codes "TR", codes "undef")
    ∷ (2, codes "-", codes "-")
    ∷ (3, codes "-", codes "-")
    ∷ (4, codes "-", codes "-")
    ∷ (5, codes "-", codes "-")
    ∷ (6, codes "-", codes "-")
    ∷ (7, codes "-", codes "-")
    ∷ (8, codes "-", codes "-")
    ∷ (11, codes "Rs", codes "setting")
    ∷ (14, codes "nn", codes "setting")
    ∷ (15, codes "nxsx*", codes "setting")
    ∷ (16, codes "x7", codes "setting")
    ∷ (17, codes "1", codes "setting")
    ∷ (19, codes "R", codes "type")
    ∷ (20, codes "R", codes "type")
    ∷ (21, codes "Rnn", codes "type")
    ∷ (22, codes "-", codes "float")
    ∷ (23, codes "Rxn", codes "type")
    ∷ (28, codes "Rxx", codes "type")
    ∷ (30, codes "Rx*", codes "type")
    ∷ (32, codes "Rnx", codes "type")
    ∷ (33, codes "Rx", codes "type")
    ∷ (41, codes "TR", codes "constant")
    ∷ (42, codes "TR", codes "constant")
    ∷ (43, codes "TRn", codes "constant")
    ∷ (44, codes "TRx*", codes "constant")
    ∷ (46, codes "TR", codes "constant")
    ∷ (48, codes "TR", codes "spec")
    ∷ (49, codes "TR", codes "spec")
    ∷ (50, codes "TRn", codes "spec")
    ∷ (51, codes "TRx*", codes "derived")
    ∷ (52, codes "TRnx*", codes "derived")
    ∷ (54, codes "TRnx", codes "function")
    ∷ (56, codes "", codes "function")
    ∷ (59, codes "TRn", codes "variable")
    ∷ (61, codes "TRx", codes "memory")
    ∷ (62, codes "xx", codes "memory")
    ∷ (65, codes "TRxxx*", codes "memory")
    ∷ (71, codes "xnn*", codes "setting")
    ∷ (72, codes "xnnn*", codes "setting")
    ∷ (79, codes "TRxxn*", codes "composite")
    ∷ (80, codes "TRx*", codes "composite")
    ∷ (81, codes "TRxnn*", codes "composite")
    ∷ (82, codes "TRxxnn*", codes "composite")
    ∷ (124, codes "TRx", codes "bitcast")
    ∷ (126, codes "TRx", codes "word")
    ∷ (128, codes "TRxx", codes "words")
    ∷ (130, codes "TRxx", codes "words")
    ∷ (132, codes "TRxx", codes "words")
    ∷ (134, codes "TRxx", codes "words")
    ∷ (135, codes "TRxx", codes "words")
    ∷ (137, codes "TRxx", codes "words")
    ∷ (138, codes "TRxx", codes "words")
    ∷ (139, codes "TRxx", codes "words")
    ∷ (154, codes "TRx", codes "composite")
    ∷ (155, codes "TRx", codes "composite")
    ∷ (164, codes "TRxx", codes "truths")
    ∷ (165, codes "TRxx", codes "truths")
    ∷ (166, codes "TRxx", codes "truths")
    ∷ (167, codes "TRxx", codes "truths")
    ∷ (168, codes "TRx", codes "truth")
    ∷ (169, codes "TRxxx", codes "select")
    ∷ (170, codes "TRxx", codes "comparison")
    ∷ (171, codes "TRxx", codes "comparison")
    ∷ (172, codes "TRxx", codes "comparison")
    ∷ (173, codes "TRxx", codes "comparison")
    ∷ (174, codes "TRxx", codes "comparison")
    ∷ (175, codes "TRxx", codes "comparison")
    ∷ (176, codes "TRxx", codes "comparison")
    ∷ (177, codes "TRxx", codes "comparison")
    ∷ (178, codes "TRxx", codes "comparison")
    ∷ (179, codes "TRxx", codes "comparison")
    ∷ (194, codes "TRxx", codes "words")
    ∷ (195, codes "TRxx", codes "words")
    ∷ (196, codes "TRxx", codes "words")
    ∷ (197, codes "TRxx", codes "words")
    ∷ (198, codes "TRxx", codes "words")
    ∷ (199, codes "TRxx", codes "words")
    ∷ (200, codes "TRx", codes "word")
    ∷ (245, codes "TR(xx)*", codes "phi")
    ∷ (246, codes "xxn", codes "merge")
    ∷ (247, codes "xn", codes "merge")
    ∷ (248, codes "R", codes "label")
    ∷ (249, codes "x", codes "terminator")
    ∷ (250, codes "xxx", codes "terminator")
    ∷ (251, codes "xx(nx)*", codes "terminator")
    ∷ (252, codes "", codes "terminator")
    ∷ (253, codes "", codes "terminator")
    ∷ (255, codes "", codes "terminator")
    ∷ (317, codes "-", codes "-")
    ∷ (330, codes "-", codes "-")
    ∷ []
opcodes = refl
