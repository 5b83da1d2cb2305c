-- What an answer tells: one thing where it is a value, another where it is a fault.
use Rattle.std.proofs.Common.{◌≡◌, Result, Ok, Err, refl, subst}
use Rattle.body_model.specs.declared.fault.TreeFault.{TreeFault}
use Rattle.body_model.specs.Reading.{with}

pub record Tells {T : Type 0} (Good : T → Type 0) (Bad : TreeFault → Type 0) (answer : Result T TreeFault) : Type 0 where
  pub good : (value : T) → answer ≡ Ok value → Good value
  pub bad : (fault : TreeFault) → answer ≡ Err fault → Bad fault

same_value : {T : Type 0} (x y : T) → ◌≡◌ {A = Result T TreeFault} (Ok x) (Ok y) → x ≡ y
same_value x y is = cc

same_fault : {T : Type 0} (x y : TreeFault) → ◌≡◌ {A = Result T TreeFault} (Err x) (Err y) → x ≡ y
same_fault x y is = cc

pub tells_value : {T : Type 0} (Good : T → Type 0) (Bad : TreeFault → Type 0) (value : T) → Good value → Tells Good Bad (Ok value)
tells_value Good Bad value is = record { good = λ other same. subst Good (same_value value other same) is; bad = λ fault same. cc }

pub tells_fault : {T : Type 0} (Good : T → Type 0) (Bad : TreeFault → Type 0) (fault : TreeFault) → Bad fault → Tells Good Bad (Err fault)
tells_fault {T = T} Good Bad fault is = record { good = λ value same. cc; bad = λ other same. subst Bad (same_fault {T = T} fault other same) is }

pub tells_with : {S T : Type 0} (Good : S → Type 0) (Bad : TreeFault → Type 0) (Good' : T → Type 0) (Bad' : TreeFault → Type 0) (answer : Result S TreeFault) (go : S → Result T TreeFault)
    → Tells Good Bad answer → ((fault : TreeFault) → Bad fault → Bad' fault) → ((value : S) → Good value → Tells Good' Bad' (go value)) → Tells Good' Bad' (with answer go)
tells_with Good Bad Good' Bad' (Ok value) go tells fails then = then value (tells.good value refl)
tells_with Good Bad Good' Bad' (Err fault) go tells fails then = tells_fault Good' Bad' fault (fails fault (tells.bad fault refl))

pub tells_more : {T : Type 0} (Good Good' : T → Type 0) (Bad Bad' : TreeFault → Type 0) (answer : Result T TreeFault) → Tells Good Bad answer
    → ((value : T) → Good value → Good' value) → ((fault : TreeFault) → Bad fault → Bad' fault) → Tells Good' Bad' answer
tells_more Good Good' Bad Bad' answer tells better worse = record { good = λ value is. better value (tells.good value is); bad = λ fault is. worse fault (tells.bad fault is) }
