use Rattle.std.proofs.Common.{rules, ◌∙◌, [], List, map, Ok, Result, refl, subst, sym, ap}
use Rattle.perm_value.specs.Seen.{datum_of_view}
use Rattle.perm_value.specs.declared.value.View.{View}
use Rattle.matcher_code.specs.Helps.Ends.{case_for}
use Rattle.matcher_code.specs.Helps.Runs.{LeadsOn, RunEnds}
use Rattle.matcher_code.specs.declared.halt.Halt.{Halt}
use Rattle.matcher_code.specs.declared.pause.Pause.{Pause}
use Rattle.matcher_code.proofs.EvalLemmas.{stands_nowhere, stops_whole, value_whole}
use Rattle.matcher_code.proofs.RunLemmas.{leads_none}
use Rattle.matcher_code.proofs.RunStops.{some_model}
use Rattle.matcher_code.proofs.rule_code.value_over.Goals as goal

pub unreachable-requires : goal.unreachable-requires
unreachable-requires g c =
    let case = case_for some_model c.args.asked (g.K.Links.shapes c.args.links.now) (g.K.Links.policy c.args.links.now) in
    let stands = subst (λ (r : Result Pause Halt). RunEnds case c.args.code.now.ops 0 c.args.stack.now c.run_on.new.stack r) (c.in-Ok-Eval.is ∙ ap (λ (p : Pause). Ok p) c.in-Ok-Eval.field-0-is) (c.run_on.ensures.run some_model) in
    stands_nowhere case c.args.code.now.ops 0 (map datum_of_view c.args.stack.now) c.in-Ok-Eval.field-0-0 (map datum_of_view c.run_on.new.stack) c.in-Ok-Eval.field-0-1 c.in-Ok-Eval.field-0-2 stands c.requires.evals

pub returns-in-Ok-Value : goal.returns-in-Ok-Value
returns-in-Ok-Value g c = λ model.
    (let case = case_for model c.args.asked (g.K.Links.shapes c.args.links.now) (g.K.Links.policy c.args.links.now) in
    let comes = subst (λ (r : Result Pause Halt). RunEnds case c.args.code.now.ops 0 c.args.stack.now c.run_on.new.stack r) (c.in-Ok-Value.is ∙ ap (λ (p : Pause). Ok p) c.in-Ok-Value.field-0-is) (c.run_on.ensures.run model) in
    let leads = subst (λ (vs : List View). LeadsOn case c.args.code.now.ops 0 [] 0 (map datum_of_view vs)) (sym c.requires.empty) (leads_none case c.args.code.now.ops 0 []) in
    (search rules, value_whole case c.args.code.now.ops 0 c.args.stack.now c.in-Ok-Value.value leads comes))

pub returns-in-Err : goal.returns-in-Err
returns-in-Err g c = λ model.
    (let case = case_for model c.args.asked (g.K.Links.shapes c.args.links.now) (g.K.Links.policy c.args.links.now) in
    let leads = subst (λ (vs : List View). LeadsOn case c.args.code.now.ops 0 [] 0 (map datum_of_view vs)) (sym c.requires.empty) (leads_none case c.args.code.now.ops 0 []) in
    rw c.stop_of.ensures (stops_whole case c.args.code.now.ops 0 c.args.stack.now c.run_on.new.stack c.in-Err.halt (g.P.Finder.refusals c.args.finder.now) (g.P.Finder.refusals c.args.finder.now) (g.P.Finder.refusals c.run_on.new.finder) leads (c.in-Err.ensures.run model) refl c.in-Err.ensures.refused))
