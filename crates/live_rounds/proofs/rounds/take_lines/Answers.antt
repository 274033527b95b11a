use Rattle.std.proofs.Common.{◌≡◌, Bool, Err, false, refl, rules, subst, true}
use Rattle.live_rounds.proofs.TakingLemmas.{are_told, taken_all, taken_amid, taken_next}
use Rattle.live_rounds.specs.Helps.MergedItems.{TakesSome}
use Rattle.live_rounds.proofs.rounds.take_lines.Goals as goal

-- some lines more
pub loop-lines-preserved : goal.loop-lines-preserved
loop-lines-preserved g c =
    let some : TakesSome true c.loop-lines.left c.take_some.new.self c.take_some.new.lines = subst (λ (b : Bool). TakesSome b c.loop-lines.left c.take_some.new.self c.take_some.new.lines) c.if-branch.true c.in_ok-take_some.ensures in
    record {
      taken = λ whole same. taken_next g.T.Taker.took g.T.Taker.stopped c.args.to.now whole some.lines c.loop-lines.left c.take_some.new.self c.loop-lines.to (c.loop-lines.invariant.taken whole same) some.parts c.take.new.to
          (λ lines is. c.in_ok-take.ensures.took lines (are_told some.lines c.take_some.new.lines lines some.are is));
    }

-- some lines were not taken to their end
pub returns-in_err-take-clause-amid : goal.returns-in_err-take-clause-amid
returns-in_err-take-clause-amid g c =
    let some : TakesSome true c.loop-lines.left c.take_some.new.self c.take_some.new.lines = subst (λ (b : Bool). TakesSome b c.loop-lines.left c.take_some.new.self c.take_some.new.lines) c.if-branch.true c.in_ok-take_some.ensures in
    let stop : c.from_residual-in_err-take.result ≡ Err c.in_err-take.field-0.0 = search rules in
    rw stop (λ whole same. taken_amid g.T.Taker.took g.T.Taker.stopped c.args.to.now whole some.lines c.loop-lines.left c.take_some.new.self c.loop-lines.to (c.loop-lines.invariant.taken whole same) some.parts c.take.new.to _
    (λ lines is. c.in_err-take.ensures.stopped lines (are_told some.lines c.take_some.new.lines lines some.are is)))

-- no line is left
pub returns-clause-taken : goal.returns-clause-taken
returns-clause-taken g c = λ whole same.
    let none : TakesSome false c.loop-lines.left c.take_some.new.self c.take_some.new.lines = subst (λ (b : Bool). TakesSome b c.loop-lines.left c.take_some.new.self c.take_some.new.lines) c.if-branch.false c.in_ok-take_some.ensures in
    taken_all g.T.Taker.took g.T.Taker.stopped c.args.to.now whole c.loop-lines.left c.loop-lines.to (c.loop-lines.invariant.taken whole same) (none.ends refl)
