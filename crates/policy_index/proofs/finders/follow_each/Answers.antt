use Rattle.std.proofs.Common.{◌<◌, arith, length, subst, sym}
use Rattle.policy_index.specs.Finders.{IsFinderIn}
use Rattle.policy_index.proofs.FinderLemmas.{follow_all, follow_more, follow_none}
use Rattle.policy_index.proofs.finders.follow_each.Goals as goal

pub loop-at-init : goal.loop-at-init
loop-at-init c = follow_none c.args.change.now c.args.tables.now c.args.finders.now.items c.requires.finders

pub follow-requires-clause-finder : goal.follow-requires-clause-finder
follow-requires-clause-finder c =
    let within : c.loop-at.at < length c.loop-at.finders.items = omega (arith, c.loop-at-test.true, c.loop-at.invariant.size) in
    subst (IsFinderIn c.args.tables.now) (sym c.index_mut.ensures.value) (c.loop-at.invariant.left c.loop-at.at c.index_mut.result.now (omega arith) within)

pub loop-at-preserved : goal.loop-at-preserved
loop-at-preserved c =
    let within : c.loop-at.at < length c.loop-at.finders.items = omega (arith, c.loop-at-test.true, c.loop-at.invariant.size) in
    follow_more c.args.change.now c.args.tables.now c.args.finders.now.items c.loop-at.finders.items c.loop-at.at c.follow.new.self within (c.follow.ensures c.if-not-follow.false) c.loop-at.invariant

pub returns : goal.returns
returns c = λ ok after made. follow_all c.args.change.now c.args.tables.now c.args.finders.now.items c.loop-at.finders.items c.loop-at.at (omega (arith, c.loop-at-test.false)) c.loop-at.invariant after made
