-- Steps one after another.
use Rattle.std.proofs.Common.{◌≡◌, ℕ, ◌+◌, ◌<◌, ◌≤◌, refl, ap, sym, ◌∙◌, subst, arith, Option, None, Some}
use Rattle.stage_model.specs.declared.outcome.Kind.{Kind}
use Rattle.stage_model.specs.Program.{Program}
use Rattle.stage_model.specs.Machine.{State, Flow, Next, To, Stopped, Machine, Step, GoesOn, Ends, step}
use Rattle.stage_model.specs.Steps.{Steps, stays, goes, IsStuck}
use Rattle.stage_model.specs.Leads.{machine, Flows, Stops, Leads}

pub and_then : (program : Program) (a b c : Machine) → Steps program a b → Steps program b c → Steps program a c
and_then program a b c (stays is) more = subst (λ m. Steps program m c) (sym is) more
and_then program a b c (goes next is rest) more = goes next is (and_then program next b c rest more)

pub one_step : (program : Program) (a b : Machine) → step program a ≡ Some (GoesOn b) → Steps program a b
one_step program a b is = goes b is (stays refl)

-- what comes of a machine comes of one that comes to it
pub stuck_later : (program : Program) (a b : Machine) → Steps program a b → IsStuck program b → IsStuck program a
stuck_later program a b comes stuck = record { at = stuck.at; comes = and_then program a b stuck.at comes stuck.comes; stuck = stuck.stuck }

pub leads_later : (program : Program) (MayGo : ℕ → Type 0) (from place to : ℕ) (state at : State) (result : Option (Flow × State)) → from ≤ place
    → state.back_edges ≤ at.back_edges → Steps program (machine from state) (machine place at) → Leads program MayGo place to at result → Leads program MayGo from to state result
leads_later program MayGo from place to state at None low more comes leads = stuck_later program _ _ comes leads
leads_later program MayGo from place to state at (Some (Next, after)) low more comes leads = leads
leads_later program MayGo from place to state at (Some (To label, after)) low more comes leads =
    (record { place = leads.0.place; at = leads.0.at; comes = and_then program _ _ _ comes leads.0.comes; low = omega (arith, low, leads.0.low); high = leads.0.high; flows = leads.0.flows; grows = omega (arith, more, leads.0.grows); few = leads.0.few }, leads.1)
leads_later program MayGo from place to state at (Some (Stopped kind, after)) low more comes leads =
    record { at = leads.at; comes = and_then program _ _ _ comes leads.comes; stops = leads.stops }

-- the same up to a later place, where the labels may have another property
pub leads_within : (program : Program) (MayGo MayGoToo : ℕ → Type 0) (from to past : ℕ) (state : State) (result : Option (Flow × State)) → to ≤ past
    → ((label : ℕ) → MayGo label → MayGoToo label) → Leads program MayGo from to state result → Leads program MayGoToo from past state result
leads_within program MayGo MayGoToo from to past state None high may leads = leads
leads_within program MayGo MayGoToo from to past state (Some (Next, after)) high may leads = leads
leads_within program MayGo MayGoToo from to past state (Some (To label, after)) high may leads =
    (record { place = leads.0.place; at = leads.0.at; comes = leads.0.comes; low = leads.0.low; high = omega (arith, high, leads.0.high); flows = leads.0.flows; grows = leads.0.grows; few = leads.0.few }, may label leads.1)
leads_within program MayGo MayGoToo from to past state (Some (Stopped kind, after)) high may leads = leads
