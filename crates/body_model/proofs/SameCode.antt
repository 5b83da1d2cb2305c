-- Code with equal parts is equal.
use Rattle.std.proofs.Common.{◌≡◌, ℕ, List}
use Rattle.spirv_model.specs.declared.module.Inst.{Inst}
use Rattle.body_model.specs.declared.scope.End.{End}
use Rattle.body_model.specs.Switches.{Case}
use Rattle.body_model.specs.Code.{Code, Ends, GoesOn, Selects, Picks, Loops, CodeArm, CodeArms, ArmBehind}

pub same_ends : (b b' : List Inst) (end : End) → b ≡ b' → Ends b end ≡ Ends b' end
same_ends b b' end is = cc

pub same_goes : (b b' : List Inst) (c c' : Code) → b ≡ b' → c ≡ c' → GoesOn b c ≡ GoesOn b' c'
same_goes b b' c c' is rest = cc

pub same_selects : (b b' : List Inst) (cond merge on_true on_false : ℕ) (x x' y y' : CodeArm) (c c' : Code) → b ≡ b' → x ≡ x' → y ≡ y' → c ≡ c'
    → Selects b cond merge on_true on_false x y c ≡ Selects b' cond merge on_true on_false x' y' c'
same_selects b b' cond merge on_true on_false x x' y y' c c' is p q rest = cc

pub same_picks : (b b' : List Inst) (selector merge default : ℕ) (k k' : List Case) (x x' : CodeArms) (c c' : Code) → b ≡ b' → k ≡ k' → x ≡ x' → c ≡ c'
    → Picks b selector merge default k x c ≡ Picks b' selector merge default k' x' c'
same_picks b b' selector merge default k k' x x' c c' is p q rest = cc

pub same_loops : (b b' : List Inst) (merge next test : ℕ) (x x' y y' z z' c c' : Code) → b ≡ b' → x ≡ x' → y ≡ y' → z ≡ z' → c ≡ c' → Loops b merge next test x y z c ≡ Loops b' merge next test x' y' z' c'
same_loops b b' merge next test x x' y y' z z' c c' is p q r rest = cc

pub same_behind : (x x' : CodeArms) (label : ℕ) (c c' : Code) → x ≡ x' → c ≡ c' → ArmBehind x label c ≡ ArmBehind x' label c'
same_behind x x' label c c' p q = cc
