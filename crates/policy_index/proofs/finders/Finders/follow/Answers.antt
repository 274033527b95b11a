use Rattle.std.proofs.Common.{subst, sym}
use Rattle.std.proofs.lemmas.List.Elements.{All-nil}
use Rattle.policy_index.specs.Finders.{AreFindersIn, IsFinderIn}
use Rattle.policy_index.proofs.finders.Finders.follow.Goals as goal

pub follow_each-requires-clause-finders : goal.follow_each-requires-clause-finders
follow_each-requires-clause-finders c = subst (AreFindersIn c.args.tables.now) (sym c.self.view_is) c.requires.finders

pub returns-then-follow_each : goal.returns-then-follow_each
returns-then-follow_each c = λ after made. c.follow_each.ensures c.if-follow_each.true after made

pub returns : goal.returns
returns c = λ after made. subst (AreFindersIn after) (sym c.clear.ensures.items) (All-nil (IsFinderIn after))
