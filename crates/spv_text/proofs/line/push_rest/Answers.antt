use Rattle.std.proofs.Common.{◌≡◌, ℕ, List, ◌++◌, sym, subst, OnOk}
use Rattle.spv_text.proofs.FieldTexts.{ids_mapped, literals_mapped, pairs_mapped}
use Rattle.spv_text.proofs.line.push_rest.Goals as goal

pub returns-in-IdRefs : goal.returns-in-IdRefs
returns-in-IdRefs c =
    subst (λ (t : List ℕ). OnOk c.push_ids.result (c.push_ids.new.text.items ≡ c.args.text.now.items ++ t))
    (sym (ids_mapped c.args.rest c.args.words.now c.in-IdRefs.is)) c.push_ids.ensures

pub returns-in-LiteralIntegers : goal.returns-in-LiteralIntegers
returns-in-LiteralIntegers c =
    subst (λ (t : List ℕ). OnOk c.push_literals.result (c.push_literals.new.text.items ≡ c.args.text.now.items ++ t))
    (sym (literals_mapped c.args.rest c.args.words.now c.in-LiteralIntegers.is)) c.push_literals.ensures

pub returns-in-PairsIdRefIdRef : goal.returns-in-PairsIdRefIdRef
returns-in-PairsIdRefIdRef c =
    subst (λ (t : List ℕ). OnOk c.push_ids-in-PairsIdRefIdRef.result (c.push_ids-in-PairsIdRefIdRef.new.text.items ≡ c.args.text.now.items ++ t))
    (sym (pairs_mapped c.args.rest c.args.words.now c.in-PairsIdRefIdRef.is)) c.push_ids-in-PairsIdRefIdRef.ensures
