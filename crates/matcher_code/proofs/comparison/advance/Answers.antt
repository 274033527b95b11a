use Rattle.std.proofs.Common.{inl, inr, length, refl, rules}
use Rattle.std.proofs.lemmas.Option.{slice_get_within}
use Rattle.matcher_code.proofs.ComparedLemmas.{room_there}
use Rattle.matcher_code.proofs.StepLemmas.{none_used}
use Rattle.matcher_code.proofs.comparison.advance.Goals as goal

pub compared-requires : goal.compared-requires
compared-requires g c = slice_get_within c.args.ops.now c.args.place c.args.op.now c.requires.there

pub push-requires : goal.push-requires
push-requires g c = (search rules, room_there c.args.op.now c.in-Some.ensures.column (length c.args.stack.now) _ c.in-Some.ensures.asks c.requires.room)

pub returns-in-Some-clause-step : goal.returns-in-Some-clause-step
returns-in-Some-clause-step g c = λ model. inr (record { same = c.in-Some.same; compares = c.in-Some.ensures; puts = c.push.ensures; goes = refl })

pub returns-in-Some-clause-refused : goal.returns-in-Some-clause-refused
returns-in-Some-clause-refused g c = none_used (g.P.Finder.refusals c.args.finder.now) _ refl

pub returns-in-None-clause-step : goal.returns-in-None-clause-step
returns-in-None-clause-step g c = λ model. inl (c.execute.ensures.step model)
