use Rattle.std.proofs.Common.{rules, ◌≡◌, ◌<◌, ◌+◌, ◌^◌, map, Ok, Err, option_copied, arith, subst, ◌∙◌}
use Rattle.perm_value.specs.Seen.{datum, datum_of_view}
use Rattle.matcher_code.specs.Helps.Runs.{RunEnds}
use Rattle.matcher_code.specs.RunEnds.{case_of}
use Rattle.matcher_code.specs.declared.pause.Pause.{Pause}
use Rattle.matcher_code.proofs.EvalLemmas.{eval_goes, eval_stops, eval_takes, halt_takes, stands_ready, stops_whole, value_whole}
use Rattle.matcher_code.proofs.runs.run.Goals as goal

pub returns-in-Err-clause-value : goal.returns-in-Err-clause-value
returns-in-Err-clause-value g c =
    let case = case_of c.args.model.now (map datum c.args.request.now) (option_copied c.args.row) (g.K.Links.shapes c.args.links.now) (g.K.Links.policy c.args.links.now) in
    rw c.stop_of.ensures (stops_whole case c.args.code.now.ops c.loop-pause.place c.loop-pause.stack c.run_on.new.stack c.in-Err.halt _ _ _ c.loop-pause.invariant.leads (c.in-Err.ensures.run c.args.model.now) c.loop-pause.invariant.none c.in-Err.ensures.refused)

pub returns-in-Err-clause-no_memory : goal.returns-in-Err-clause-no_memory
returns-in-Err-clause-no_memory g c =
    let case = case_of c.args.model.now (map datum c.args.request.now) (option_copied c.args.row) (g.K.Links.shapes c.args.links.now) (g.K.Links.policy c.args.links.now) in
    rw c.stop_of.ensures (λ wants. halt_takes case c.args.code.now.ops c.loop-pause.place c.loop-pause.stack c.run_on.new.stack c.in-Err.halt (c.in-Err.ensures.run c.args.model.now) wants)

pub returns-in-Value-clause-value : goal.returns-in-Value-clause-value
returns-in-Value-clause-value g c =
    let case = case_of c.args.model.now (map datum c.args.request.now) (option_copied c.args.row) (g.K.Links.shapes c.args.links.now) (g.K.Links.policy c.args.links.now) in
    let comes = subst (λ (p : Pause). RunEnds case c.args.code.now.ops c.loop-pause.place c.loop-pause.stack c.run_on.new.stack (Ok p)) c.in-Value.is (c.in-Ok.ensures.run c.args.model.now) in
    (c.in-Ok.ensures.refused ∙ c.loop-pause.invariant.none, value_whole case c.args.code.now.ops c.loop-pause.place c.loop-pause.stack c.in-Value.value c.loop-pause.invariant.leads comes)

pub evaluated-requires-after_bounds : goal.evaluated-requires-after_bounds
evaluated-requires-after_bounds g c κs within =
    let case = case_of c.args.model.now (map datum c.args.request.now) (option_copied c.args.row) (g.K.Links.shapes c.args.links.now) (g.K.Links.policy c.args.links.now) in
    let stands = subst (λ (p : Pause). RunEnds case c.args.code.now.ops c.loop-pause.place c.loop-pause.stack c.run_on.new.stack (Ok p)) c.in-Eval.is (c.in-Ok.ensures.run c.args.model.now) in
    let ready = stands_ready case c.args.code.now _ c.loop-pause.place (map datum_of_view c.loop-pause.stack) c.in-Eval.standing c.run_on.new.stack c.in-Eval.at c.in-Eval.column c.ops-ops.ensures.kept c.requires.room stands in
    omega (arith, ready.column_there, c.requires.policy_columns)

pub returns-in_err-truth-in-Eval-clause-value : goal.returns-in_err-truth-in-Eval-clause-value
returns-in_err-truth-in-Eval-clause-value g c =
    let case = case_of c.args.model.now (map datum c.args.request.now) (option_copied c.args.row) (g.K.Links.shapes c.args.links.now) (g.K.Links.policy c.args.links.now) in
    let stands = subst (λ (p : Pause). RunEnds case c.args.code.now.ops c.loop-pause.place c.loop-pause.stack c.run_on.new.stack (Ok p)) c.in-Eval.is (c.in-Ok.ensures.run c.args.model.now) in
    let why : c.from_residual.result ≡ Err c.in_err-truth-in-Eval.field-0.0 = search rules in
    rw why (eval_stops case c.args.code.now.ops c.loop-pause.place (map datum_of_view c.loop-pause.stack) c.in-Eval.standing (map datum_of_view c.run_on.new.stack) c.in-Eval.at c.in-Eval.column c.in_err-truth-in-Eval.field-0.0 _ _ _ c.loop-pause.invariant.leads stands
    (c.in-Ok.ensures.refused ∙ c.loop-pause.invariant.none) c.in_err-truth-in-Eval.ensures)

pub returns-in_err-truth-in-Eval-clause-no_memory : goal.returns-in_err-truth-in-Eval-clause-no_memory
returns-in_err-truth-in-Eval-clause-no_memory g c =
    let case = case_of c.args.model.now (map datum c.args.request.now) (option_copied c.args.row) (g.K.Links.shapes c.args.links.now) (g.K.Links.policy c.args.links.now) in
    let stands = subst (λ (p : Pause). RunEnds case c.args.code.now.ops c.loop-pause.place c.loop-pause.stack c.run_on.new.stack (Ok p)) c.in-Eval.is (c.in-Ok.ensures.run c.args.model.now) in
    let why : c.from_residual.result ≡ Err c.in_err-truth-in-Eval.field-0.0 = search rules in
    rw why (λ wants. eval_takes case c.args.code.now.ops c.loop-pause.place (map datum_of_view c.loop-pause.stack) c.in-Eval.standing (map datum_of_view c.run_on.new.stack) c.in-Eval.at c.in-Eval.column stands)

pub push-requires : goal.push-requires
push-requires g c =
    let case = case_of c.args.model.now (map datum c.args.request.now) (option_copied c.args.row) (g.K.Links.shapes c.args.links.now) (g.K.Links.policy c.args.links.now) in
    let stands = subst (λ (p : Pause). RunEnds case c.args.code.now.ops c.loop-pause.place c.loop-pause.stack c.run_on.new.stack (Ok p)) c.in-Eval.is (c.in-Ok.ensures.run c.args.model.now) in
    let ready = stands_ready case c.args.code.now _ c.loop-pause.place (map datum_of_view c.loop-pause.stack) c.in-Eval.standing c.run_on.new.stack c.in-Eval.at c.in-Eval.column c.ops-ops.ensures.kept c.requires.room stands in
    (search rules, ready.held)

pub overflow_add-place : goal.overflow_add-place
overflow_add-place g c =
    let case = case_of c.args.model.now (map datum c.args.request.now) (option_copied c.args.row) (g.K.Links.shapes c.args.links.now) (g.K.Links.policy c.args.links.now) in
    let stands = subst (λ (p : Pause). RunEnds case c.args.code.now.ops c.loop-pause.place c.loop-pause.stack c.run_on.new.stack (Ok p)) c.in-Eval.is (c.in-Ok.ensures.run c.args.model.now) in
    let ready = stands_ready case c.args.code.now _ c.loop-pause.place (map datum_of_view c.loop-pause.stack) c.in-Eval.standing c.run_on.new.stack c.in-Eval.at c.in-Eval.column c.ops-ops.ensures.kept c.requires.room stands in
    let few : c.in-Eval.standing + 1 < 2 ^ 64 = omega (arith, ready.few) in
    search rules

pub loop-pause-smaller : goal.loop-pause-smaller
loop-pause-smaller g c =
    let case = case_of c.args.model.now (map datum c.args.request.now) (option_copied c.args.row) (g.K.Links.shapes c.args.links.now) (g.K.Links.policy c.args.links.now) in
    let stands = subst (λ (p : Pause). RunEnds case c.args.code.now.ops c.loop-pause.place c.loop-pause.stack c.run_on.new.stack (Ok p)) c.in-Eval.is (c.in-Ok.ensures.run c.args.model.now) in
    let ready = stands_ready case c.args.code.now _ c.loop-pause.place (map datum_of_view c.loop-pause.stack) c.in-Eval.standing c.run_on.new.stack c.in-Eval.at c.in-Eval.column c.ops-ops.ensures.kept c.requires.room stands in
    omega (arith, ready.within, stands.behind)

pub loop-pause-preserved : goal.loop-pause-preserved
loop-pause-preserved g c =
    let case = case_of c.args.model.now (map datum c.args.request.now) (option_copied c.args.row) (g.K.Links.shapes c.args.links.now) (g.K.Links.policy c.args.links.now) in
    let stands = subst (λ (p : Pause). RunEnds case c.args.code.now.ops c.loop-pause.place c.loop-pause.stack c.run_on.new.stack (Ok p)) c.in-Eval.is (c.in-Ok.ensures.run c.args.model.now) in
    let on = eval_goes case c.args.code.now c.loop-pause.place c.loop-pause.stack c.in-Eval.standing c.run_on.new.stack c.push.new.self c.in-Eval.at c.in-Eval.column c.in_ok-truth-in-Eval.truth c.ops-ops.ensures.kept c.push.ensures c.loop-pause.invariant.leads stands c.in_ok-truth-in-Eval.ensures.1 in
    record { leads = on.1; at = on.0; none = c.in_ok-truth-in-Eval.ensures.0 ∙ c.in-Ok.ensures.refused ∙ c.loop-pause.invariant.none }
