use Rattle.std.proofs.Common.{rules, ◌≡◌, ◌≤◌, ◌<◌, List, map, length, slice_get, Some, Ok, Err, arith, refl, subst, ◌∙◌}
use Rattle.std.proofs.lemmas.Option.{slice_get_read}
use Rattle.model_conf.specs.ModelText.{ModelParts}
use Rattle.perm_value.specs.Seen.{datum_of_view}
use Rattle.matcher_code.specs.Helps.Compared.{Advances}
use Rattle.matcher_code.specs.Helps.Ends.{case_for}
use Rattle.matcher_code.specs.Helps.Runs.{IsAt, LeadsOn}
use Rattle.matcher_code.specs.declared.op.Op.{Op}
use Rattle.matcher_code.specs.declared.step.Step.{Step}
use Rattle.matcher_code.specs.declared.step.Step.TheVariants.{Goes}
use Rattle.matcher_code.proofs.ComparedLemmas.{advance_goes, advance_stands, advance_stops}
use Rattle.matcher_code.proofs.RunStops.{can_do, one_left, run_ends, run_stands, run_stops, some_model}
use Rattle.matcher_code.proofs.run_on.run_on.Given.{Over}
use Rattle.matcher_code.proofs.run_on.run_on.Goals as goal

pub advance-requires-after_bounds : goal.advance-requires-after_bounds
advance-requires-after_bounds g c κs within =
    let listed = slice_get_read c.ops-ops.result.now _ c.loop-reached.reached c.index-ops-reached.result refl c.loop-reached-test.true c.index-ops-reached.is in
    let there = subst (λ (ops : List Op). slice_get ops c.loop-reached.reached ≡ Some c.index-ops-reached.result) c.ops-ops.ensures.value listed in
    let can = can_do c.args.code.now c.loop-reached.reached (length c.loop-reached.stack) _ c.index-ops-reached.result c.ops-ops.ensures.kept c.loop-reached.invariant.at there c.requires.room in
    (search rules, (listed, (can.few, (can.operands, (can.next, (can.held, can.names))))))

pub returns-in_err-to-clause-run : goal.returns-in_err-to-clause-run
returns-in_err-to-clause-run g c = λ model.
    (let listed = slice_get_read c.ops-ops.result.now _ c.loop-reached.reached c.index-ops-reached.result refl c.loop-reached-test.true c.index-ops-reached.is in
    let there = subst (λ (ops : List Op). slice_get ops c.loop-reached.reached ≡ Some c.index-ops-reached.result) c.ops-ops.ensures.value listed in
    let stop : c.from_residual.result ≡ Err c.in_err-to.field-0.0 = search rules in
    rw stop (run_stops (case_for model c.args.asked (g.K.Links.shapes c.args.links.now) (g.K.Links.policy c.args.links.now)) c.args.code.now.ops c.args.place c.loop-reached.reached c.args.stack.now c.loop-reached.stack c.advance.new.stack c.index-ops-reached.result c.in_err-to.field-0.0 (c.loop-reached.invariant.leads model) there
    (advance_stops (case_for model c.args.asked (g.K.Links.shapes c.args.links.now) (g.K.Links.policy c.args.links.now)) c.ops-ops.result.now c.loop-reached.reached c.index-ops-reached.result c.loop-reached.stack c.advance.new.stack c.in_err-to.field-0.0 (c.in_err-to.ensures.step model))))

-- where the machine goes on, in the case of a model
goes_on : (g : Over) (c : goal.In-Goes g) (model : ModelParts) → (c.loop-reached.reached < c.in-Goes.to) × (IsAt c.args.code.now.ops c.in-Goes.to (length c.advance.new.stack)
    × LeadsOn (case_for model c.args.asked (g.K.Links.shapes c.args.links.now) (g.K.Links.policy c.args.links.now)) c.args.code.now.ops c.args.place (map datum_of_view c.args.stack.now) c.in-Goes.to (map datum_of_view c.advance.new.stack))
goes_on g c model =
    let listed = slice_get_read c.ops-ops.result.now _ c.loop-reached.reached c.index-ops-reached.result refl c.loop-reached-test.true c.index-ops-reached.is in
    let there = subst (λ (ops : List Op). slice_get ops c.loop-reached.reached ≡ Some c.index-ops-reached.result) c.ops-ops.ensures.value listed in
    let case = case_for model c.args.asked (g.K.Links.shapes c.args.links.now) (g.K.Links.policy c.args.links.now) in
    let advances = subst (λ (step : Step). Advances case c.ops-ops.result.now c.loop-reached.reached c.index-ops-reached.result c.loop-reached.stack c.advance.new.stack (Ok step)) c.in-Goes.is (c.in_ok-to.ensures.step model) in
    advance_goes case c.args.code.now.ops c.args.code.now.columns c.args.code.now.policy_columns c.args.place c.loop-reached.reached c.in-Goes.to c.args.stack.now c.loop-reached.stack c.advance.new.stack c.index-ops-reached.result
    c.ops-ops.ensures.kept.verified c.loop-reached.invariant.at (c.loop-reached.invariant.leads model) there (subst (λ (ops : List Op). Advances case ops c.loop-reached.reached c.index-ops-reached.result c.loop-reached.stack c.advance.new.stack (Ok (Goes c.in-Goes.to))) c.ops-ops.ensures.value advances)

pub loop-reached-smaller : goal.loop-reached-smaller
loop-reached-smaller g c = let on = goes_on g c some_model in omega (arith, on.0, on.1.0.within)

pub loop-reached-preserved : goal.loop-reached-preserved
loop-reached-preserved g c = record {
  leads = λ model. (goes_on g c model).1.1;
  behind = omega (arith, c.loop-reached.invariant.behind, (goes_on g c some_model).0);
  at = (goes_on g c some_model).1.0;
  none = c.in_ok-to.ensures.refused ∙ c.loop-reached.invariant.none;
}

pub returns-in-Eval-clause-run : goal.returns-in-Eval-clause-run
returns-in-Eval-clause-run g c = λ model.
    (let listed = slice_get_read c.ops-ops.result.now _ c.loop-reached.reached c.index-ops-reached.result refl c.loop-reached-test.true c.index-ops-reached.is in
    let there = subst (λ (ops : List Op). slice_get ops c.loop-reached.reached ≡ Some c.index-ops-reached.result) c.ops-ops.ensures.value listed in
    let case = case_for model c.args.asked (g.K.Links.shapes c.args.links.now) (g.K.Links.policy c.args.links.now) in
    let advances = subst (λ (step : Step). Advances case c.ops-ops.result.now c.loop-reached.reached c.index-ops-reached.result c.loop-reached.stack c.advance.new.stack (Ok step)) c.in-Eval.is (c.in_ok-to.ensures.step model) in
    let stands = advance_stands case c.ops-ops.result.now c.loop-reached.reached c.index-ops-reached.result c.loop-reached.stack c.advance.new.stack c.in-Eval.column advances in
    run_stands case c.args.code.now.ops c.args.place c.loop-reached.reached c.args.stack.now c.loop-reached.stack c.advance.new.stack c.index-ops-reached.result c.in-Eval.column c.loop-reached.invariant.behind (c.loop-reached.invariant.leads model) c.loop-reached.invariant.at there stands)

pub pop-requires : goal.pop-requires
pop-requires g c =
    let one = one_left c.args.code.now c.loop-reached.reached (length c.loop-reached.stack) c.ops-ops.ensures.kept c.loop-reached.invariant.at (let past : length c.args.code.now.ops ≤ c.loop-reached.reached = subst (λ (ops : List Op). length ops ≤ c.loop-reached.reached) c.ops-ops.ensures.value c.loop-reached-test.false in past) in
    (search rules, omega (arith, one))

pub returns-clause-run : goal.returns-clause-run
returns-clause-run g c = λ model.
    (let past : length c.args.code.now.ops ≤ c.loop-reached.reached = subst (λ (ops : List Op). length ops ≤ c.loop-reached.reached) c.ops-ops.ensures.value c.loop-reached-test.false in
    run_ends (case_for model c.args.asked (g.K.Links.shapes c.args.links.now) (g.K.Links.policy c.args.links.now)) c.args.code.now.ops c.args.place c.loop-reached.reached c.args.stack.now c.loop-reached.stack c.pop.new.self c.pop.result (c.loop-reached.invariant.leads model) past c.pop.ensures)
