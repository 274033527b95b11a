use Rattle.std.proofs.Common.{refl, ap, sym, ◌∙◌, rules}
use Rattle.matcher_read.specs.Calls.{takes}
use Rattle.matcher_read.specs.Helps.TakenTokens.{callee}
use Rattle.matcher_read.proofs.CallLemmas.{count_trees}
use Rattle.matcher_read.proofs.nodes.call.Goals as goal

pub returns-then-not-takes : goal.returns-then-not-takes
returns-then-not-takes c = (ap (takes (callee c.args.called)) (count_trees c.args.arguments.items ∙ search rules) ∙ sym c.if-not-takes.ensures, refl)

pub returns-in-Some : goal.returns-in-Some
returns-in-Some c = (ap (takes (callee c.args.called)) (count_trees c.args.arguments.items ∙ search rules) ∙ sym c.if-not-takes.ensures, c.in-Some.ensures)

pub returns-in-None : goal.returns-in-None
returns-in-None c = (c.in-None.ensures _, refl)
