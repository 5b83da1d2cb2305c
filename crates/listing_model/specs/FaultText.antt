-- What is told of bytes that are no listing: one line on standard error.
use Rattle.std.specs.Prelude.{ℕ, List, ◌++◌, codes}
use Rattle.std.specs.Fmt.{decimal}
use Rattle.listing_model.specs.declared.fault.TextFault.{TextFault}
use Rattle.listing_model.specs.declared.fault.TextCause.{TextCause}
use Rattle.listing_model.specs.declared.fault.TextCause.TheVariants.{TooLong, NoEnd, NoHead, NoName, BadOperands, TooManyWords, Memory}

-- a cause by its name
abbrev pub cause_text : TextCause → List ℕ
cause_text TooLong = codes "TooLong"
cause_text NoEnd = codes "NoEnd"
cause_text NoHead = codes "NoHead"
cause_text NoName = codes "NoName"
cause_text BadOperands = codes "BadOperands"
cause_text TooManyWords = codes "TooManyWords"
cause_text Memory = codes "Memory"

abbrev pub fault_line : TextFault → List ℕ
fault_line fault = codes "gplrun: line " ++ decimal fault.line ++ codes ": " ++ cause_text fault.cause ++ codes "\n"
