use Rattle.std.proofs.Common.{rules, ◌≡◌, ◌+◌, List, map, subst, sym, Err, None}
use Rattle.perm_value.specs.Seen.{datum_of_view}
use Rattle.perm_value.specs.declared.value.View.{View}
use Rattle.matcher_code.specs.Helps.Ends.{callee, over_tables}
use Rattle.matcher_code.specs.Machine.{goes}
use Rattle.matcher_code.proofs.StepLemmas.{CallsTop, call_gives, call_stops, two_taken}
use Rattle.matcher_code.proofs.step.call_two.Goals as goal

pub returns-in_err-value-clause-called : goal.returns-in_err-value-clause-called
returns-in_err-value-clause-called g c = λ case.
    (let taken_is = two_taken c.args.stack.now c.pop-second.new.self c.pop-first.new.self c.pop-second.result c.pop-first.result c.pop-second.ensures c.pop-first.ensures in
    let stop : c.from_residual.result ≡ Err c.in_err-value.field-0.0 = search rules in
    rw stop (call_stops (over_tables case (g.K.Links.shapes c.args.links.now) (g.K.Links.policy c.args.links.now)) c.args.place c.args.at (callee c.args.called) 2 _ (map datum_of_view c.pop-first.new.self) (map datum_of_view c.args.stack.now) (map datum_of_view c.pop-first.new.self) c.in_err-value.field-0.0 taken_is (c.in_err-value.ensures.value case)))

pub returns-clause-called : goal.returns-clause-called
returns-clause-called g c = λ case.
    (let taken_is = two_taken c.args.stack.now c.pop-second.new.self c.pop-first.new.self c.pop-second.result c.pop-first.result c.pop-second.ensures c.pop-first.ensures in
    let gives = call_gives (over_tables case (g.K.Links.shapes c.args.links.now) (g.K.Links.policy c.args.links.now)) c.args.place c.args.at (callee c.args.called) 2 _ (map datum_of_view c.pop-first.new.self) (map datum_of_view c.args.stack.now) c.in_ok-value.value taken_is (c.in_ok-value.ensures.value case) in
    subst (λ (vs : List View). CallsTop (over_tables case (g.K.Links.shapes c.args.links.now) (g.K.Links.policy c.args.links.now)) c.args.place c.args.at (callee c.args.called) 2 (map datum_of_view c.args.stack.now) None (goes (c.args.place + 1) (map datum_of_view vs))) (sym c.push.ensures) gives)
