-- Where the function of a valid module begins and ends.
use Rattle.std.proofs.Common.{◌≡◌, ℕ, ◌+◌, ◌<◌, ◌≤◌, length, ◌∙◌, arith}
use Rattle.std.specs.Prelude.{◌⊎◌}
use Rattle.std.proofs.Common.{inl, inr}
use Rattle.check_model.specs.Validity.{IsValidList}
use Rattle.change_model.proofs.MovedUp.{function_is}
use Rattle.spec_fold.specs.declared.facts.Facts.{Facts}
use Rattle.spec_fold.specs.Facts.{AreFacts}

pub begins_at : (facts : Facts) → AreFacts facts → (v : IsValidList facts.of.now) → facts.function ≡ v.derivation.before
begins_at facts are v = are.function ∙ function_is facts.of.now.insts v.derivation

-- a place behind OpFunction is no place before it, and one before the last is none at the end
pub nowhere : {Q : Type 0} (facts : Facts) → AreFacts facts → (v : IsValidList facts.of.now) (place : ℕ) → facts.function < place → place + 1 < length facts.of.now.insts
    → (place ≤ v.derivation.before) ⊎ (v.derivation.after ≤ place) → Q
nowhere facts are v place behind within outside =
    let e = begins_at facts are v in
    let last = v.derivation.last in
    elim outside [ inl before ↦ absurd (omega (arith, before, behind, e)) | inr past ↦ absurd (omega (arith, past, within, last)) ]

-- a place of the function's blocks is behind OpFunction, and before the last
pub early : {Q : Type 0} (facts : Facts) → AreFacts facts → (v : IsValidList facts.of.now) (place : ℕ) → place ≤ facts.function → v.derivation.before < place → Q
early facts are v place before low = let e = begins_at facts are v in absurd (omega (arith, before, low, e))

pub late : {Q : Type 0} (facts : Facts) → (v : IsValidList facts.of.now) (place : ℕ) → length facts.of.now.insts ≤ place + 1 → place < v.derivation.after → Q
late facts v place past high = let last = v.derivation.last in absurd (omega (arith, past, high, last))
