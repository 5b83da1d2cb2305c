use Rattle.std.proofs.Common.{◌≡◌, ◌≤◌, ◌<◌, ℕ, length, List, refl, ap, ◌∙◌, subst, arith}
use Rattle.std.specs.Prelude.{Some, slice_get, slice_set}
use Rattle.std.proofs.lemmas.Option.{slice_get_read}
use Rattle.draw_model.specs.declared.framebuffer.Target.{Target}
use Rattle.draw_model.specs.declared.framebuffer.Targets.{Targets}
use Rattle.int_device.specs.SampleRules.{told, passes_by, with_depth_by, with_depth_in}
use Rattle.int_device.proofs.CanvasLaws.{past_changed, past_passes, changed_there, passes_there, depth_limited, still_limited}
use Rattle.int_device.proofs.canvas.Canvas.test_depth.Goals as goal

pub returns-in_default-clause-passes : goal.returns-in_default-clause-passes
unfolding passes_by
returns-in_default-clause-passes c = rw c.in_default.is

pub returns-in_default-clause-stored : goal.returns-in_default-clause-stored
unfolding with_depth_by
returns-in_default-clause-stored c = rw c.in_default.is

pub returns-then-number-len-clause-passes : goal.returns-then-number-len-clause-passes
returns-then-number-len-clause-passes c =
    let past : length c.self.inside.targets.items ≤ c.in-Some.bound.number = omega (arith, c.self.inside.targets.ok.0) in
    rw (c.in-Some.is, ← c.self.view_is) (past_passes c.in-Some.bound c.args.samples (told c.args.f.now) c.args.sample (record { list = c.self.inside.targets.items }) past)

pub returns-then-number-len-clause-stored : goal.returns-then-number-len-clause-stored
unfolding with_depth_by
returns-then-number-len-clause-stored c =
    let past : length c.self.inside.targets.items ≤ c.in-Some.bound.number = omega (arith, c.self.inside.targets.ok.0) in
    rw (c.in-Some.is, ← c.self.view_is)
    (past_changed c.in-Some.bound.number (with_depth_in c.in-Some.bound.depth c.args.samples (told c.args.f.now) c.args.sample) (record { list = c.self.inside.targets.items }) past)

pub test_depth-requires-clause-limited : goal.test_depth-requires-clause-limited
test_depth-requires-clause-limited c =
    let within : c.from-number.result < length c.self.inside.targets.items = omega (arith, c.self.inside.targets.ok.0) in
    c.self.invariant c.from-number.result c.index_mut.result.now (slice_get_read c.self.inside.targets.items (length c.self.inside.targets.items) c.from-number.result c.index_mut.result.now refl within c.index_mut.ensures.value)

pub invariant_of-self : goal.invariant_of-self
invariant_of-self c =
    let within : c.from-number.result < length c.self.inside.targets.items = omega (arith, c.self.inside.targets.ok.0) in
    let limited = c.self.invariant c.from-number.result c.index_mut.result.now (slice_get_read c.self.inside.targets.items (length c.self.inside.targets.items) c.from-number.result c.index_mut.result.now refl within c.index_mut.ensures.value) in
    still_limited c.self.inside.targets.items c.from-number.result c.test_depth.new.target (with_depth_in c.in-Some.bound.depth c.args.samples (told c.args.f.now) c.args.sample c.index_mut.result.now)
    c.self.invariant c.test_depth.ensures.stored (depth_limited c.in-Some.bound.depth c.args.samples (told c.args.f.now) c.args.sample c.index_mut.result.now limited)

pub returns-clause-passes : goal.returns-clause-passes
returns-clause-passes c =
    let within : c.from-number.result < length c.self.inside.targets.items = omega (arith, c.self.inside.targets.ok.0) in
    let is = slice_get_read c.self.inside.targets.items (length c.self.inside.targets.items) c.from-number.result c.index_mut.result.now refl within c.index_mut.ensures.value in
    rw (c.in-Some.is, ← c.self.view_is)
    (c.test_depth.ensures.passes
    ∙ passes_there c.in-Some.bound c.args.samples (told c.args.f.now) c.args.sample (record { list = c.self.inside.targets.items }) c.index_mut.result.now
    (subst (λ (n : ℕ). slice_get c.self.inside.targets.items n ≡ Some c.index_mut.result.now) c.from-number.ensures is))

pub returns-clause-stored : goal.returns-clause-stored
unfolding with_depth_by
returns-clause-stored c =
    let within : c.from-number.result < length c.self.inside.targets.items = omega (arith, c.self.inside.targets.ok.0) in
    let is = slice_get_read c.self.inside.targets.items (length c.self.inside.targets.items) c.from-number.result c.index_mut.result.now refl within c.index_mut.ensures.value in
    let list : slice_set c.self.inside.targets.items c.from-number.result c.test_depth.new.target
    ≡ slice_set c.self.inside.targets.items c.in-Some.bound.number (with_depth_in c.in-Some.bound.depth c.args.samples (told c.args.f.now) c.args.sample c.index_mut.result.now)
    = ap (λ (n : ℕ). slice_set c.self.inside.targets.items n c.test_depth.new.target) c.from-number.ensures
    ∙ ap (λ (t : Target). slice_set c.self.inside.targets.items c.in-Some.bound.number t) c.test_depth.ensures.stored in
    rw (c.in-Some.is, ← c.self.view_is)
    (ap (λ (ts : List Target). let of : Targets = record { list = ts } in of) list
    ∙ changed_there c.in-Some.bound.number (with_depth_in c.in-Some.bound.depth c.args.samples (told c.args.f.now) c.args.sample) (record { list = c.self.inside.targets.items }) c.index_mut.result.now
    (subst (λ (n : ℕ). slice_get c.self.inside.targets.items n ≡ Some c.index_mut.result.now) c.from-number.ensures is))
