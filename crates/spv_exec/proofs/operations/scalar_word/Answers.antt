use Rattle.std.proofs.Common.{ℕ, ◌<◌, ◌≤◌, [], ◌∷◌, Some, sym, ap, ◌∙◌, arith}
use Rattle.scalar_model.specs.Scalars.{scalar_result}
use Rattle.spv_exec.proofs.ScalarResults.{scalars_of, none_large}
use Rattle.spv_exec.proofs.operations.scalar_word.Goals as goal

pub returns-in-Ok : goal.returns-in-Ok
returns-in-Ok c read value is are =
    let s = scalars_of c.args.opcode read c.args.words.now value is are in
    let same = c.in-Ok.ensures.1 in
    s.word ∙ ap (λ (w : ℕ). Some (w ∷ [])) (sym (c.result_word.ensures.gives s.operands s.result (ap (λ (o : ℕ). scalar_result o s.operands) same ∙ s.gives) s.are))

large : (opcode : ℕ) → (opcode < 65536 → ⊥) → 65536 ≤ opcode
large opcode isnt = omega (arith, isnt)

pub returns-in-Err : goal.returns-in-Err
returns-in-Err c read value is are =
    absurd (none_large c.args.opcode c.args.words.now value (large c.args.opcode c.in-Err.ensures) (scalars_of c.args.opcode read c.args.words.now value is are))
