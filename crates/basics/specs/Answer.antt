-- What a call answers that may run out of memory.
use Rattle.std.specs.Prelude.{◌≡◌, Bool, MatchBool, Option, None, Some, Result, Ok, Err}

-- the fault has this property; of want of memory nothing is said
abbrev pub FaultUnlessMemory : {F : Type 0} → (F → Bool) → (F → Type 0) → F → Type 0
FaultUnlessMemory is_memory HasFault fault = MatchBool (is_memory fault) (Unit {0}) (HasFault fault)

-- the value has the first property, the fault the second; of want of memory nothing is said
abbrev pub UnlessMemory : {T F : Type 0} → (F → Bool) → (T → Type 0) → (F → Type 0) → Result T F → Type 0
UnlessMemory is_memory HasValue HasFault (Ok value) = HasValue value
UnlessMemory is_memory HasValue HasFault (Err fault) = FaultUnlessMemory is_memory HasFault fault

-- the answer is the expected one, unless memory ran out
abbrev pub IsAnswer : {T F : Type 0} → (F → Bool) → Result T F → Result T F → Type 0
IsAnswer is_memory expected answer = UnlessMemory is_memory (λ value. expected ≡ Ok value) (λ fault. expected ≡ Err fault) answer

-- the answer is the fault that was found, or a value where none was, unless memory ran out
abbrev pub FindsFault : {T F : Type 0} → (F → Bool) → Option F → Result T F → Type 0
FindsFault is_memory found answer = UnlessMemory is_memory (λ _. found ≡ None) (λ fault. found ≡ Some fault) answer
