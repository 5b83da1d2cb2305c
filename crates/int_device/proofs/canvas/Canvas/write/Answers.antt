use Rattle.std.proofs.Common.{◌≡◌, ◌≤◌, ◌<◌, ℕ, length, List, refl, ap, ◌∙◌, subst, arith}
use Rattle.std.specs.Prelude.{Some, slice_get, slice_set}
use Rattle.std.proofs.lemmas.Option.{slice_get_read}
use Rattle.draw_model.specs.declared.framebuffer.Target.{Target}
use Rattle.draw_model.specs.declared.framebuffer.Targets.{Targets}
use Rattle.int_device.specs.SampleRules.{told, with_write_by, with_write_in}
use Rattle.int_device.proofs.CanvasLaws.{past_changed, changed_there, write_limited, still_limited}
use Rattle.int_device.proofs.canvas.Canvas.write.Goals as goal

pub returns-in_default : goal.returns-in_default
unfolding with_write_by
returns-in_default c = rw c.in_default.is

pub returns-then-number-len : goal.returns-then-number-len
unfolding with_write_by
returns-then-number-len c =
    let past : length c.self.inside.targets.items ≤ c.in-Some.bound.number = omega (arith, c.self.inside.targets.ok.0) in
    rw (c.in-Some.is, ← c.self.view_is)
    (past_changed c.in-Some.bound.number (with_write_in c.in-Some.bound.attachment c.args.logic c.args.samples (told c.args.f.now) c.args.words c.args.sample)
    (record { list = c.self.inside.targets.items }) past)

pub write_output-requires-clause-limited : goal.write_output-requires-clause-limited
write_output-requires-clause-limited c =
    let within : c.from-number.result < length c.self.inside.targets.items = omega (arith, c.self.inside.targets.ok.0) in
    c.self.invariant c.from-number.result c.index_mut.result.now
    (slice_get_read c.self.inside.targets.items (length c.self.inside.targets.items) c.from-number.result c.index_mut.result.now refl within c.index_mut.ensures.value)

pub invariant_of-self : goal.invariant_of-self
invariant_of-self c =
    let a = c.args in
    let within : c.from-number.result < length c.self.inside.targets.items = omega (arith, c.self.inside.targets.ok.0) in
    let limited = c.self.invariant c.from-number.result c.index_mut.result.now
    (slice_get_read c.self.inside.targets.items (length c.self.inside.targets.items) c.from-number.result c.index_mut.result.now refl within c.index_mut.ensures.value) in
    still_limited c.self.inside.targets.items c.from-number.result c.write_output.new.target
    (with_write_in c.in-Some.bound.attachment a.logic a.samples (told a.f.now) a.words a.sample c.index_mut.result.now)
    c.self.invariant c.write_output.ensures
    (write_limited c.in-Some.bound.attachment a.logic a.samples (told a.f.now) a.words a.sample c.index_mut.result.now limited)

pub returns : goal.returns
unfolding with_write_by
returns c =
    let a = c.args in
    let within : c.from-number.result < length c.self.inside.targets.items = omega (arith, c.self.inside.targets.ok.0) in
    let is = slice_get_read c.self.inside.targets.items (length c.self.inside.targets.items) c.from-number.result c.index_mut.result.now refl within c.index_mut.ensures.value in
    let list : slice_set c.self.inside.targets.items c.from-number.result c.write_output.new.target
    ≡ slice_set c.self.inside.targets.items c.in-Some.bound.number (with_write_in c.in-Some.bound.attachment a.logic a.samples (told a.f.now) a.words a.sample c.index_mut.result.now)
    = ap (λ (n : ℕ). slice_set c.self.inside.targets.items n c.write_output.new.target) c.from-number.ensures
    ∙ ap (λ (t : Target). slice_set c.self.inside.targets.items c.in-Some.bound.number t) c.write_output.ensures in
    rw (c.in-Some.is, ← c.self.view_is)
    (ap (λ (ts : List Target). let of : Targets = record { list = ts } in of) list
    ∙ changed_there c.in-Some.bound.number (with_write_in c.in-Some.bound.attachment a.logic a.samples (told a.f.now) a.words a.sample)
    (record { list = c.self.inside.targets.items }) c.index_mut.result.now
    (subst (λ (n : ℕ). slice_get c.self.inside.targets.items n ≡ Some c.index_mut.result.now) c.from-number.ensures is))
