-- What a reader of whole traces answers.
use Rattle.std.specs.Prelude.{◌≡◌, ℕ, Bool, true, false, if◌then◌else◌, List, Result}
use Rattle.basics.specs.Answer.{UnlessMemory}
use Rattle.trace_model.specs.declared.line_fault.TraceFault.{TraceFault}
use Rattle.trace_model.specs.declared.whole.Trace.{Trace}
use Rattle.trace_model.specs.Reading.{HasTraceFault}
use Rattle.trace_text.specs.Lines as lines
use Rattle.trace_text.specs.declared.reading.ReadFault.{ReadFault}
use Rattle.trace_text.specs.declared.reading.ReadFault.TheVariants.{Fault, Memory}

-- want of memory
abbrev pub is_memory : TraceFault → Bool
is_memory fault = lines.is_memory fault.cause

abbrev pub is_want : ReadFault → Bool
is_want Memory = true
is_want (Fault fault) = false

-- the fault as it is told
abbrev pub read_fault : TraceFault → ReadFault
read_fault fault = if lines.is_memory fault.cause then Memory else Fault fault

-- the bytes have the fault that is told
abbrev pub HasFault : List ℕ → ReadFault → Type 0
HasFault bytes (Fault fault) = HasTraceFault bytes fault
HasFault bytes Memory = ⊥

-- the answer is this trace, unless memory ran out
abbrev pub IsExactly : Trace → Result Trace ReadFault → Type 0
IsExactly trace answer = UnlessMemory is_want (λ read. read ≡ trace) (λ fault. ⊥) answer

-- the answer is this fault, unless memory ran out
abbrev pub IsOnly : TraceFault → Result Trace ReadFault → Type 0
IsOnly fault answer = UnlessMemory is_want (λ read. ⊥) (λ told. told ≡ Fault fault) answer
