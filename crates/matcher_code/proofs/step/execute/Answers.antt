use Rattle.std.specs.Prelude.{None, false, true}
use Rattle.matcher_meaning.specs.Cases.{where_refused}
use Rattle.matcher_code.specs.Helps.Ends.{case_for, skipping}
use Rattle.matcher_code.specs.declared.op.Instruction.TheVariants as i
use Rattle.matcher_code.proofs.StepLemmas.{done_step, function_step, none_used, role_step}
use Rattle.matcher_code.proofs.step.execute.Goals as goal

pub returns-in-Function-clause-step : goal.returns-in-Function-clause-step
returns-in-Function-clause-step g c = λ model.
    (let case = case_for model c.args.asked (g.K.Links.shapes c.args.links.now) (g.K.Links.policy c.args.links.now) in
    function_step case c.args.place c.args.op.now c.in-Function.function c.arity.result c.args.stack.now c.call.new.stack c.call.result c.in-Function.is c.arity.ensures.arity (c.call.ensures.called case))

pub returns-in-Role-clause-step : goal.returns-in-Role-clause-step
returns-in-Role-clause-step g c = λ model.
    (let case = case_for model c.args.asked (g.K.Links.shapes c.args.links.now) (g.K.Links.policy c.args.links.now) in
    role_step case c.args.place c.args.op.now c.in-Role.relation c.in-Role.names c.args.stack.now c.call-in-Role.new.stack c.call-in-Role.result c.in-Role.is (c.call-in-Role.ensures.called case))

pub returns-in-Attribute-clause-step : goal.returns-in-Attribute-clause-step
returns-in-Attribute-clause-step g c = λ model.
    (let case = case_for model c.args.asked (g.K.Links.shapes c.args.links.now) (g.K.Links.policy c.args.links.now) in
    done_step case c.args.place c.args.op.now (i.Attribute c.in-Attribute.name) c.args.stack.now c.put_attribute.new.stack c.put_attribute.result c.in-Attribute.is (c.put_attribute.ensures.done (where_refused case None)))

pub returns-in-Attribute-clause-refused : goal.returns-in-Attribute-clause-refused
returns-in-Attribute-clause-refused g c =
    none_used (g.P.Finder.refusals c.args.finder.now) _ c.put_attribute.ensures.asks_nobody

pub returns-in-Not-clause-step : goal.returns-in-Not-clause-step
returns-in-Not-clause-step g c = λ model.
    (let case = case_for model c.args.asked (g.K.Links.shapes c.args.links.now) (g.K.Links.policy c.args.links.now) in
    done_step case c.args.place c.args.op.now i.Not c.args.stack.now c.put_negated.new.stack c.put_negated.result c.in-Not.is (c.put_negated.ensures.done (where_refused case None)))

pub returns-in-Not-clause-refused : goal.returns-in-Not-clause-refused
returns-in-Not-clause-refused g c =
    none_used (g.P.Finder.refusals c.args.finder.now) _ c.put_negated.ensures.asks_nobody

pub returns-in-Negate-clause-step : goal.returns-in-Negate-clause-step
returns-in-Negate-clause-step g c = λ model.
    (let case = case_for model c.args.asked (g.K.Links.shapes c.args.links.now) (g.K.Links.policy c.args.links.now) in
    done_step case c.args.place c.args.op.now i.Negate c.args.stack.now c.put_opposed.new.stack c.put_opposed.result c.in-Negate.is (c.put_opposed.ensures.done (where_refused case None)))

pub returns-in-Negate-clause-refused : goal.returns-in-Negate-clause-refused
returns-in-Negate-clause-refused g c =
    none_used (g.P.Finder.refusals c.args.finder.now) _ c.put_opposed.ensures.asks_nobody

pub returns-in-Binary-clause-step : goal.returns-in-Binary-clause-step
returns-in-Binary-clause-step g c = λ model.
    (let case = case_for model c.args.asked (g.K.Links.shapes c.args.links.now) (g.K.Links.policy c.args.links.now) in
    done_step case c.args.place c.args.op.now (i.Binary c.in-Binary.operator) c.args.stack.now c.put_joined.new.stack c.put_joined.result c.in-Binary.is (c.put_joined.ensures.done (where_refused case None)))

pub returns-in-Binary-clause-refused : goal.returns-in-Binary-clause-refused
returns-in-Binary-clause-refused g c =
    none_used (g.P.Finder.refusals c.args.finder.now) _ c.put_joined.ensures.asks_nobody

pub returns-in-SkipFalse-clause-step : goal.returns-in-SkipFalse-clause-step
returns-in-SkipFalse-clause-step g c = λ model.
    (let case = case_for model c.args.asked (g.K.Links.shapes c.args.links.now) (g.K.Links.policy c.args.links.now) in
    done_step case c.args.place c.args.op.now (skipping false c.in-SkipFalse.to) c.args.stack.now c.skip_where.new.stack c.skip_where.result c.in-SkipFalse.is (c.skip_where.ensures.done (where_refused case None)))

pub returns-in-SkipFalse-clause-refused : goal.returns-in-SkipFalse-clause-refused
returns-in-SkipFalse-clause-refused g c =
    none_used (g.P.Finder.refusals c.args.finder.now) _ c.skip_where.ensures.asks_nobody

pub returns-in-SkipTrue-clause-step : goal.returns-in-SkipTrue-clause-step
returns-in-SkipTrue-clause-step g c = λ model.
    (let case = case_for model c.args.asked (g.K.Links.shapes c.args.links.now) (g.K.Links.policy c.args.links.now) in
    done_step case c.args.place c.args.op.now (skipping true c.in-SkipTrue.to) c.args.stack.now c.skip_where-in-SkipTrue.new.stack c.skip_where-in-SkipTrue.result c.in-SkipTrue.is (c.skip_where-in-SkipTrue.ensures.done (where_refused case None)))

pub returns-in-SkipTrue-clause-refused : goal.returns-in-SkipTrue-clause-refused
returns-in-SkipTrue-clause-refused g c =
    none_used (g.P.Finder.refusals c.args.finder.now) _ c.skip_where-in-SkipTrue.ensures.asks_nobody

pub returns-in-NeedTruth-clause-step : goal.returns-in-NeedTruth-clause-step
returns-in-NeedTruth-clause-step g c = λ model.
    (let case = case_for model c.args.asked (g.K.Links.shapes c.args.links.now) (g.K.Links.policy c.args.links.now) in
    done_step case c.args.place c.args.op.now i.NeedTruth c.args.stack.now c.put_truth.new.stack c.put_truth.result c.in-NeedTruth.is (c.put_truth.ensures.done (where_refused case None)))

pub returns-in-NeedTruth-clause-refused : goal.returns-in-NeedTruth-clause-refused
returns-in-NeedTruth-clause-refused g c =
    none_used (g.P.Finder.refusals c.args.finder.now) _ c.put_truth.ensures.asks_nobody

pub returns-in-Member-clause-step : goal.returns-in-Member-clause-step
returns-in-Member-clause-step g c = λ model.
    (let case = case_for model c.args.asked (g.K.Links.shapes c.args.links.now) (g.K.Links.policy c.args.links.now) in
    done_step case c.args.place c.args.op.now (i.Member c.in-Member.to) c.args.stack.now c.skip_member.new.stack c.skip_member.result c.in-Member.is (c.skip_member.ensures.done (where_refused case None) c.args.op.now.at))

pub returns-in-Member-clause-refused : goal.returns-in-Member-clause-refused
returns-in-Member-clause-refused g c =
    none_used (g.P.Finder.refusals c.args.finder.now) _ c.skip_member.ensures.asks_nobody

pub returns-in-Miss-clause-step : goal.returns-in-Miss-clause-step
returns-in-Miss-clause-step g c = λ model.
    (let case = case_for model c.args.asked (g.K.Links.shapes c.args.links.now) (g.K.Links.policy c.args.links.now) in
    done_step case c.args.place c.args.op.now i.Miss c.args.stack.now c.put_miss.new.stack c.put_miss.result c.in-Miss.is (c.put_miss.ensures.done (where_refused case None) c.args.op.now.at))

pub returns-in-Miss-clause-refused : goal.returns-in-Miss-clause-refused
returns-in-Miss-clause-refused g c =
    none_used (g.P.Finder.refusals c.args.finder.now) _ c.put_miss.ensures.asks_nobody
