-- The label behind a sequence is known where the sequence is a condition sequence, and only there.
use Rattle.std.proofs.Common.{◌≡◌, ℕ, List, length, Option, None, Some, refl, subst}
use Rattle.spirv_model.specs.declared.module.Inst.{Inst}
use Rattle.body_model.specs.Scope.{Scope, condition}
use Rattle.body_model.specs.Grammar.{Sequence, ends, goes_on, selects, picks, loops}
use Rattle.body_model.proofs.Ends.{Leaves, Sound, sound_block}

pub next_of : (F : Option ℕ → Type 0) (insts : List Inst) {scope : Scope} {wanted next : Option ℕ} {from to : ℕ} → Sequence insts scope wanted from to next → Leaves F scope → F next
next_of F insts {scope = scope} {from = from} (ends last here is label_is place_is) leaves =
    subst F label_is (subst (Sound F scope from (length insts)) is (sound_block F insts scope from leaves).is).1
next_of F insts (goes_on after here is rest) leaves = next_of F insts rest (record { exits = leaves.exits; ends = leaves.ends; tests = leaves.tests })
next_of F insts (selects head second join here is on_true on_false rest) leaves = next_of F insts rest (record { exits = leaves.exits; ends = leaves.ends; tests = leaves.tests })
next_of F insts (picks head join here is arms rest) leaves = next_of F insts rest (record { exits = leaves.exits; ends = leaves.ends; tests = leaves.tests })
next_of F insts (loops head inner first second third here is tested inside step rest) leaves = next_of F insts rest (record { exits = leaves.exits; ends = leaves.ends; tests = leaves.tests })

abbrev pub IsKnown : Option ℕ → Type 0
IsKnown next = (label : ℕ) × (next ≡ Some label)

-- no label is known where no condition sequence is read
untested : (scope : Scope) → scope.test ≡ None → Leaves (λ next. next ≡ None) scope
untested scope none = record { exits = λ label end is. refl; ends = λ may. refl; tests = λ merge label some. cc }

tested : (scope : Scope) (merge : ℕ) → Leaves IsKnown (condition scope merge)
tested scope merge = record { exits = λ label end is. cc; ends = λ may. cc; tests = λ other label is. (label, refl) }

pub no_next : (insts : List Inst) (scope : Scope) {wanted next : Option ℕ} {from to : ℕ} → scope.test ≡ None → Sequence insts scope wanted from to next → next ≡ None
no_next insts scope none sequence = next_of (λ next. next ≡ None) insts sequence (untested scope none)

pub next_known : (insts : List Inst) (scope : Scope) (merge : ℕ) {wanted next : Option ℕ} {from to : ℕ} → Sequence insts (condition scope merge) wanted from to next → IsKnown next
next_known insts scope merge sequence = next_of IsKnown insts sequence (tested scope merge)

-- so it is left out where it isn't
pub unlabelled : (insts : List Inst) (scope : Scope) {wanted next : Option ℕ} {from to : ℕ} → scope.test ≡ None → Sequence insts scope wanted from to next → Sequence insts scope wanted from to None
unlabelled insts scope {wanted} {next} {from} {to} none sequence = subst (Sequence insts scope wanted from to) (no_next insts scope none sequence) sequence
