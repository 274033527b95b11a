use Rattle.std.proofs.Common.{map, arith}
use Rattle.perm_value.specs.Seen.{datum_of_view}
use Rattle.matcher_code.specs.Helps.Ends.{callee, over_tables}
use Rattle.matcher_code.proofs.StepLemmas.{names_same}
use Rattle.matcher_code.proofs.step.call.Goals as goal

pub returns-then-names-eq2-clause-called : goal.returns-then-names-eq2-clause-called
returns-then-names-eq2-clause-called g c = λ case.
    names_same (over_tables case (g.K.Links.shapes c.args.links.now) (g.K.Links.policy c.args.links.now)) c.args.place c.args.at (callee c.args.called) 2 c.args.names (map datum_of_view c.args.stack.now) (map datum_of_view c.call_two.new.stack) c.call_two.result
    (omega (arith, c.if-names-eq2.true)) (c.call_two.ensures.called case)

pub returns-else-names-eq2-clause-called : goal.returns-else-names-eq2-clause-called
returns-else-names-eq2-clause-called g c = λ case.
    names_same (over_tables case (g.K.Links.shapes c.args.links.now) (g.K.Links.policy c.args.links.now)) c.args.place c.args.at (callee c.args.called) 3 c.args.names (map datum_of_view c.args.stack.now) (map datum_of_view c.call_three.new.stack) c.call_three.result
    (omega (arith, c.if-names-eq2.false, c.requires.names)) (c.call_three.ensures.called case)
