-- What is told of a run that writes nothing or not all: one line on standard error. The cause of a faulty line is told by its
-- name, and that of a module by the name of the innermost fault.
use Rattle.std.specs.Prelude.{ℕ, List, ◌++◌, codes}
use Rattle.std.specs.Fmt.{decimal}
use Rattle.spirv_model.specs.declared.module.WordsFault.{WordsFault}
use Rattle.spirv_model.specs.declared.module.WordsFault.TheVariants as words
use Rattle.body_model.specs.declared.fault.TreeFault.{TreeFault}
use Rattle.body_model.specs.declared.fault.TreeFault.TheVariants as tree
use Rattle.valid_model.specs.declared.type_fault.TypeFault.{TypeFault}
use Rattle.valid_model.specs.declared.type_fault.TypeFault.TheVariants as ids
use Rattle.check_model.specs.declared.fault.CheckFault.{CheckFault}
use Rattle.check_model.specs.declared.fault.CheckFault.TheVariants as fault
use Rattle.trace_model.specs.declared.line_fault.TraceFault.{TraceFault}
use Rattle.trace_model.specs.declared.line_fault.Cause.{Cause}
use Rattle.trace_model.specs.declared.line_fault.Cause.TheVariants.{TooLong, NoHeader, BadLine, TooMany, Unknown, BadModule, BadPart, ForeignTarget, Memory}

abbrev pub words_fault_text : WordsFault → List ℕ
words_fault_text words.BadHeader = codes "BadHeader"
words_fault_text words.ZeroLength = codes "ZeroLength"
words_fault_text words.CutShort = codes "CutShort"
words_fault_text (words.UnknownOp op) = codes "UnknownOp"
words_fault_text (words.BadShape place) = codes "BadShape"
words_fault_text words.FloatType = codes "FloatType"
words_fault_text words.Memory = codes "Memory"

abbrev pub tree_fault_text : TreeFault → List ℕ
tree_fault_text (tree.BadBlock place) = codes "BadBlock"
tree_fault_text (tree.BadMerge place) = codes "BadMerge"
tree_fault_text (tree.BadExit place) = codes "BadExit"
tree_fault_text (tree.TooDeep place) = codes "TooDeep"
tree_fault_text tree.Memory = codes "Memory"

abbrev pub type_fault_text : TypeFault → List ℕ
type_fault_text (ids.IdTwice id) = codes "IdTwice"
type_fault_text (ids.IdOutOfBound place) = codes "IdOutOfBound"
type_fault_text (ids.BadType place) = codes "BadType"
type_fault_text (ids.BadConstant place) = codes "BadConstant"
type_fault_text (ids.BadDecoration place) = codes "BadDecoration"
type_fault_text ids.Memory = codes "Memory"

abbrev pub module_fault_text : CheckFault → List ℕ
module_fault_text (fault.Words reason) = words_fault_text reason
module_fault_text (fault.Tree reason) = tree_fault_text reason
module_fault_text (fault.Ids reason) = type_fault_text reason
module_fault_text (fault.NotVisible id) = codes "NotVisible"
module_fault_text (fault.OperandType place) = codes "OperandType"
module_fault_text (fault.WrongStorage place) = codes "WrongStorage"
module_fault_text (fault.EntryCount count) = codes "EntryCount"
module_fault_text (fault.NotFlat location) = codes "NotFlat"
module_fault_text (fault.LocationTwice location) = codes "LocationTwice"
module_fault_text fault.Memory = codes "Memory"

abbrev pub cause_text : Cause → List ℕ
cause_text TooLong = codes "TooLong"
cause_text NoHeader = codes "NoHeader"
cause_text BadLine = codes "BadLine"
cause_text TooMany = codes "TooMany"
cause_text Unknown = codes "Unknown"
cause_text (BadModule reason) = module_fault_text reason
cause_text BadPart = codes "BadPart"
cause_text ForeignTarget = codes "ForeignTarget"
cause_text Memory = codes "Memory"

-- ---- the lines

-- the words are none of the program's forms
abbrev pub usage_line : List ℕ
usage_line = codes "gplrun: usage\n"

-- the bytes are no trace
abbrev pub fault_line : TraceFault → List ℕ
fault_line fault = codes "gplrun: line " ++ decimal fault.line ++ codes ": " ++ cause_text fault.cause ++ codes "\n"

-- a read failed, a write failed, and memory ran out
abbrev pub read_line : List ℕ
read_line = codes "gplrun: read\n"

abbrev pub write_line : List ℕ
write_line = codes "gplrun: write\n"

abbrev pub memory_line : List ℕ
memory_line = codes "gplrun: memory\n"
