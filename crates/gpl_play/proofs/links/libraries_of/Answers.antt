use Rattle.std.proofs.Common.{◌≡◌, ℕ, ◌≤◌, List, length, sym, ap, ◌∙◌, subst, arith}
use Rattle.std.specs.List.{filter_map}
use Rattle.std.specs.Option.{option_copied}
use Rattle.std.specs.Prelude.{slice_get, slice_index}
use Rattle.std.proofs.lemmas.List.{take_all}
use Rattle.link_rules.specs.Libs.{libraries}
use Rattle.link_rules.specs.Parts.{HoldsLawfulParts}
use Rattle.trace_model.specs.LawfulPlay.{IsLibrary}
use Rattle.gpl_play.specs.Links.{libraries_given}
use Rattle.gpl_play.proofs.LinkLaws.{has_get, given_more, given_same, lawful_more}
use Rattle.gpl_play.proofs.links.libraries_of.Goals as goal

pub loop-number-preserved-in_default : goal.loop-number-preserved-in_default
loop-number-preserved-in_default c =
    let l = c.loop-number in
    let a = c.args in
    let number : c.from.result ≡ slice_index a.pipe.now l.number-index = c.from.ensures in
    let none_there = ap (slice_get a.libs.now) (sym number) ∙ sym c.at.ensures ∙ ap option_copied c.in_default.is in
    record {
      are = given_same a.modules.now a.libs.now a.pipe.now l.number-index (libraries l.made) c.loop-number-test.true none_there l.invariant.are;
      lawful = l.invariant.lawful;
    }

pub give-requires : goal.give-requires
give-requires c =
    has_get (IsLibrary c.args.modules.now) c.args.libs.now c.from.result c.in-Some.library.now c.requires (sym c.at.ensures ∙ ap option_copied c.in-Some.is)

pub loop-number-preserved : goal.loop-number-preserved
loop-number-preserved c =
    let l = c.loop-number in
    let a = c.args in
    let there = sym c.at.ensures ∙ ap option_copied c.in-Some.is in
    let number : c.from.result ≡ slice_index a.pipe.now l.number-index = c.from.ensures in
    let is = has_get (IsLibrary a.modules.now) a.libs.now c.from.result c.in-Some.library.now c.requires there in
    record {
      are =
          c.in_ok-give.ensures
          ∙ given_more a.modules.now a.libs.now a.pipe.now l.number-index (libraries l.made) c.in-Some.library.now c.loop-number-test.true
          (ap (slice_get a.libs.now) (sym number) ∙ there) l.invariant.are;
      lawful = subst HoldsLawfulParts (sym c.in_ok-give.ensures) (lawful_more a.modules.now (libraries l.made) c.in-Some.library.now is l.invariant.lawful);
    }

pub returns-clause-libraries : goal.returns-clause-libraries
returns-clause-libraries c =
    let l = c.loop-number in
    let a = c.args in
    let all : length a.pipe.now ≤ l.number-index = omega arith in
    l.invariant.are ∙ ap (λ (pipe : List ℕ). libraries_given a.modules.now (filter_map (slice_get a.libs.now) pipe)) (take_all l.number-index a.pipe.now all)
