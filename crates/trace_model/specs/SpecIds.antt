-- The numbers by which a module's specialization constants are set, each once, in ascending order.
use Rattle.std.specs.Prelude.{ℕ, Bool, ◌&&◌, ◌==◌, nat_lt, if◌then◌else◌, List, [], ◌∷◌, map, filter}
use Rattle.std.specs.List.{fold}
use Rattle.spirv_model.specs.declared.decoration.TheConstants.{SPEC_ID}
use Rattle.spirv_model.specs.declared.module.Inst.{Inst}
use Rattle.spirv_model.specs.declared.op.TheConstants.{DECORATE}
use Rattle.spirv_model.specs.Operands.{word_at}

-- the instruction gives some id a SpecId
abbrev pub gives_spec_id : Inst → Bool
gives_spec_id inst = (inst.op == DECORATE) && (word_at 1 inst == SPEC_ID)

-- ascending numbers with one more
abbrev pub with_number : List ℕ → ℕ → List ℕ
with_number [] n = n ∷ []
with_number (x ∷ xs) n = if nat_lt n x then n ∷ x ∷ xs else if n == x then x ∷ xs else x ∷ with_number xs n

unfoldable pub spec_ids_of : List Inst → List ℕ
spec_ids_of insts = fold with_number [] (map (word_at 2) (filter gives_spec_id insts))
