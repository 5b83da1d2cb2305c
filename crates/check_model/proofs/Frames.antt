-- A small fragment module around given declarations and a given block, for worked values.
use Rattle.std.proofs.Common.{ℕ, ◌+◌, List, [], ◌∷◌, ◌++◌, length}
use Rattle.std.specs.Prelude.{Option}
use Rattle.spirv_model.specs.declared.module.Inst.{Inst}
use Rattle.spirv_model.specs.declared.op.TheConstants as op
use Rattle.check_model.specs.declared.fault.CheckFault.{CheckFault}
use Rattle.check_model.specs.Intervals.{Interval, interval}
use Rattle.check_model.specs.Validity.{list_fault}

abbrev pub i : ℕ → List ℕ → Inst
i op words = record { op = op; words = words }

-- an entry point of a stage into a function
abbrev pub entry : ℕ → ℕ → Inst
entry model function = i op.ENTRY_POINT (model ∷ function ∷ 1852399981 ∷ 0 ∷ 5 ∷ [])

-- Type 3 is an unsigned integer, 9 the truth values; 5 is an output at location 0, 6 the constant 42, 10 is true. The declarations
-- stand behind 12 instructions and the entry points, and the block behind the OpFunction and the OpLabel that follow them.
abbrev pub framed : List Inst → List Inst → List Inst → List Inst
framed entries level block =
    i op.CAPABILITY (1 ∷ [])
    ∷ i op.MEMORY_MODEL (0 ∷ 1 ∷ [])
    ∷ (entries
    ++ (i op.EXECUTION_MODE (7 ∷ 7 ∷ [])
    ∷ i op.DECORATE (5 ∷ 30 ∷ 0 ∷ [])
    ∷ i op.TYPE_VOID (1 ∷ [])
    ∷ i op.TYPE_FUNCTION (2 ∷ 1 ∷ [])
    ∷ i op.TYPE_INT (3 ∷ 32 ∷ 0 ∷ [])
    ∷ i op.TYPE_POINTER (4 ∷ 3 ∷ 3 ∷ [])
    ∷ i op.VARIABLE (4 ∷ 5 ∷ 3 ∷ [])
    ∷ i op.CONSTANT (3 ∷ 6 ∷ 42 ∷ [])
    ∷ i op.TYPE_BOOL (9 ∷ [])
    ∷ i op.CONSTANT_TRUE (9 ∷ 10 ∷ [])
    ∷ (level
    ++ (i op.FUNCTION (1 ∷ 7 ∷ 0 ∷ 2 ∷ [])
    ∷ i op.LABEL (8 ∷ [])
    ∷ (block ++ i op.RETURN [] ∷ i op.FUNCTION_END [] ∷ [])))))

abbrev pub fragment : List Inst
fragment = entry 4 7 ∷ []

-- the interval of the function alone
abbrev pub whole : List Inst → List Inst → List Inst → Interval
whole entries level block = interval (13 + length entries + length level) (15 + length entries + length level + length block)

-- of a fragment module whose function is this block
abbrev pub straight : List Inst → List Inst → Option CheckFault
straight level block = list_fault (whole fragment level block ∷ []) (framed fragment level block)
