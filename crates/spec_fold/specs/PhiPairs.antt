-- The one pair of a phi that is left, if there is just one.
use Rattle.std.specs.Prelude.{ℕ, ◌&&◌, Bool, false, nat_lt, List, [], ◌∷◌, filter, Option, None, Some}
use Rattle.id_table.specs.Tables.{at}
use Rattle.check_model.specs.Visibility.{Incoming}
use Rattle.change_model.specs.Plans.{fate_in}
use Rattle.spv_rewrite.specs.PhiPairs.{still_leads}
use Rattle.spec_fold.specs.declared.facts.Facts.{Facts}
use Rattle.spec_fold.specs.declared.phis.Left.{Left}
use Rattle.spec_fold.specs.declared.phis.Left.TheVariants.{Nothing, One, Several}
use Rattle.spec_fold.specs.declared.walk.Walk.{Walk}

-- the value of a lone pair
abbrev pub lone_value : List Incoming → Option ℕ
lone_value (pair ∷ []) = Some pair.value
lone_value pairs = None

-- the block that ends at a place, if it ends at all, does so before another one and still leads to the label
abbrev pub still_leads_from : Walk → (label place : ℕ) → Option ℕ → Bool
still_leads_from walk label place None = false
still_leads_from walk label place (Some end) = nat_lt end place && still_leads label (fate_in walk.fates.items end)

-- those pairs of the phi at a place
abbrev pub pairs_there : Facts → Walk → ℕ → List Incoming → List Incoming
pairs_there facts walk place pairs = filter (λ (pair : Incoming). still_leads_from walk walk.label place (at facts.ends pair.block)) pairs

abbrev pub one_more : Left → ℕ → Left
one_more Nothing value = One value
one_more left value = Several

-- what is left with these pairs
abbrev pub left_with : Left → List Incoming → Left
left_with left [] = left
left_with left (pair ∷ pairs) = left_with (one_more left pair.value) pairs
