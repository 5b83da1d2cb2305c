use Rattle.std.proofs.Common.{◌≡◌, ℕ, ◌+◌, ◌≤◌, List, [], ◌∷◌, ◌++◌, length, subst, sym, ap, ◌∙◌, arith}
use Rattle.limits.specs.declared.TheConstants.{MODULE_WORDS}
use Rattle.spirv_model.specs.declared.module.Inst.{Inst}
use Rattle.stage_model.specs.Program.{program_of}
use Rattle.spv_exec.specs.ModuleFrames.{AddsStarts, members_in}
use Rattle.spv_exec.proofs.StartsTo.{StartsTo, starts_first, starts_next, starts_all, starts_room, inst_room}
use Rattle.spv_exec.proofs.PlacesTo.{there}
use Rattle.spv_exec.proofs.member_starts.MemberStarts.new.Goals as goal

pub loop-inst-init : goal.loop-inst-init
loop-inst-init c = record {
  same = c.insts-insts.ensures.are;
  valid = c.insts-insts.ensures.valid;
  to =
      subst (λ (l : List ℕ). StartsTo (program_of c.args.of.now.insts) l c.new-starts.result.items 0) (sym c.in_ok-firsts.ensures.items)
      (subst (λ (l : List ℕ). StartsTo (program_of c.args.of.now.insts) [] l 0) (sym c.new-starts.ensures.items) (starts_first (program_of c.args.of.now.insts)));
}

pub overflow_cast-len : goal.overflow_cast-len
overflow_cast-len c =
    let room = starts_room c.args.of.now c.loop-inst.invariant.valid c.loop-inst.firsts.items c.loop-inst.starts.items c.loop-inst.inst-index c.loop-inst.invariant.to in
    let e = c.len.ensures in
    omega (arith, room, e)

pub add_starts-requires : goal.add_starts-requires
add_starts-requires c =
    let at = there c.insts-insts.result.now c.args.of.now.insts c.inst-item.result c.loop-inst.inst-index c.loop-inst.invariant.same c.loop-inst-test.true c.inst-item.is in
    subst (λ (i : Inst). length i.words ≤ MODULE_WORDS) (sym at.1) (inst_room c.args.of.now c.loop-inst.invariant.valid c.loop-inst.inst-index at.0)

pub loop-inst-preserved : goal.loop-inst-preserved
loop-inst-preserved c =
    let at = there c.insts-insts.result.now c.args.of.now.insts c.inst-item.result c.loop-inst.inst-index c.loop-inst.invariant.same c.loop-inst-test.true c.inst-item.is in
    let len = c.len.ensures in
    let e : c.len.result ≡ length c.loop-inst.starts.items = omega (arith, len) in
    record {
      same = c.loop-inst.invariant.same;
      valid = c.loop-inst.invariant.valid;
      to =
          subst (λ (l : List ℕ). StartsTo (program_of c.args.of.now.insts) l c.add_starts.new.starts.items (c.loop-inst.inst-index + 1)) (sym (c.in_ok-push.ensures.items ∙ ap (λ (n : ℕ). c.loop-inst.firsts.items ++ n ∷ []) e))
          (starts_next c.args.of.now c.loop-inst.firsts.items c.loop-inst.starts.items c.add_starts.new.starts.items c.loop-inst.inst-index at.0
          (subst (λ (i : Inst). AddsStarts (program_of c.args.of.now.insts) (members_in i) c.loop-inst.starts.items c.add_starts.new.starts.items) at.1 c.in_ok-add_starts.ensures) c.loop-inst.invariant.to);
    }

pub returns : goal.returns
returns c =
    let e : length c.insts-insts.result.now ≡ length c.args.of.now.insts = ap length c.loop-inst.invariant.same in
    let low = c.loop-inst.auto.inst-index-end in
    let high = c.loop-inst-test.false in
    starts_all c.args.of.now c.loop-inst.firsts.items c.loop-inst.starts.items c.loop-inst.inst-index (omega (arith, e, low, high)) c.loop-inst.invariant.to
