use Rattle.std.proofs.Common.{◌≡◌, ℕ, ◌≤◌, length, List, ◌∷◌, Option, None, Some, refl, sym, arith}
use Rattle.std.specs.Option.{option_map, option_and_then}
use Rattle.scalar_model.specs.declared.scalar_value.Scalar.{Scalar}
use Rattle.scalar_model.specs.declared.scalar_value.Scalar.TheVariants.{Bool as Truth, Word}
use Rattle.scalar_model.specs.Scalars.{scalar_result, folded, all_known}
use Rattle.spv_ops.proofs.fold_one.Goals as goal

-- no operation has four operands
of_four : (op : ℕ) (first second third fourth : Scalar) (more : List Scalar) → scalar_result op (first ∷ second ∷ third ∷ fourth ∷ more) ≡ None
unfolding scalar_result
of_four op (Word a) (Word b) third fourth more = refl
of_four op (Word a) (Truth b) third fourth more = refl
of_four op (Truth a) (Word b) third fourth more = refl
of_four op (Truth a) (Truth b) third fourth more = refl

with_more : (op : ℕ) (first second third fourth : Scalar) (known : Option (List Scalar))
    → option_and_then (scalar_result op) (option_map (λ k. first ∷ k) (option_map (λ k. second ∷ k) (option_map (λ k. third ∷ k) (option_map (λ k. fourth ∷ k) known)))) ≡ None
with_more op first second third fourth None = refl
with_more op first second third fourth (Some more) = of_four op first second third fourth more

of_many : (op : ℕ) (operands : List (Option Scalar)) → 4 ≤ length operands → folded op operands ≡ None
of_many op (None ∷ operands) h = refl
of_many op (Some first ∷ None ∷ operands) h = refl
of_many op (Some first ∷ Some second ∷ None ∷ operands) h = refl
of_many op (Some first ∷ Some second ∷ Some third ∷ None ∷ operands) h = refl
of_many op (Some first ∷ Some second ∷ Some third ∷ Some fourth ∷ operands) h = with_more op first second third fourth (all_known operands)
of_many op operands h = absurd (omega arith)

pub returns-in_default-2 : goal.returns-in_default-2
returns-in_default-2 c = sym (of_many c.args.op c.args.args.now c.in_default.len_at_least)
