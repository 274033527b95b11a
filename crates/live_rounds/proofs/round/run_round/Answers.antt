use Rattle.std.proofs.Common.{◌-◌, ap, arith, subst, sym, ◌∙◌}
use Rattle.decision.specs.Programs.{Suits}
use Rattle.policy_desk.specs.Desks.{Work}
use Rattle.policy_state.specs.States.{State}
use Rattle.desk_session.proofs.CallerLemmas.{on_err_of}
use Rattle.live_rounds.proofs.AdminLemmas.{amid_first}
use Rattle.live_rounds.proofs.MergingLemmas.{merged_from_kinds}
use Rattle.live_rounds.proofs.RoundsLemmas.{used_alike}
use Rattle.live_rounds.proofs.RunLemmas.{added_counted, added_in, added_long, run_all, used_first}
use Rattle.live_rounds.proofs.WorkedLemmas.{amid_all}
use Rattle.live_rounds.specs.Shares.{in_turn}
use Rattle.live_rounds.specs.Stretches.{items_of}
use Rattle.live_rounds.proofs.round.run_round.Goals as goal

-- want of memory before anything was done
pub returns-in_err-push_parts-clause-stopped : goal.returns-in_err-push_parts-clause-stopped
returns-in_err-push_parts-clause-stopped g c = on_err_of c.from_residual.result (λ before is. amid_first g.J.Naming.shapes g.J.Naming.opening before (items_of c.args.round.now) c.args.admin.now is)

-- while the workers and the administrator were at it
pub returns-in_err-kept-clause-stopped : goal.returns-in_err-kept-clause-stopped
returns-in_err-kept-clause-stopped g c = on_err_of c.from_residual-in_err-kept.result c.in_err-kept.ensures.stopped

-- and behind them
pub returns-in_err-asked-clause-stopped : goal.returns-in_err-asked-clause-stopped
returns-in_err-asked-clause-stopped g c = on_err_of c.from_residual-in_err-asked.result (λ before is.
    amid_all g.J.Naming.shapes g.J.Naming.opening before (items_of c.args.round.now) c.args.admin.now c.work_round-worked.new.admin c.in_ok-kept.field-0.others.replies (c.in_ok-kept.ensures.done.beside before is))

-- behind Ok, at what the steps say
pub returns-clause-run : goal.returns-clause-run
returns-clause-run g c = λ before long is.
    run_all g.P.Finder.refusals c.args.program.now g.J.Naming.shapes g.J.Naming.opening before (items_of c.args.round.now) c.args.round.now.before c.args.workers (c.args.workers - 1) long (omega (arith, c.requires.some))
    c.args.admin.now c.work_round-worked.new.admin c.in_ok-kept.field-0.others.replies c.in_ok-asked.asked.items c.new.result c.as_slice-parts.result.now c.args.seats.now.items c.learn_seats.new.seats.items c.work_round-worked.new.seats.items c.learn_seats-2.new.seats.items
    c.args.finders.now.items c.work_round-worked.new.finders.items _ _ c.answer_asks.new.finder c.in_ok-kept.field-0.kept.items c.state-state.result.now c.front.result c.front-2.result (c.in_ok-kept.ensures.done.beside before is)
    (added_in _ _ _ _ _ _ c.again.ensures c.new-parts.ensures.items c.as_slice-parts.ensures.value c.in_ok-push_parts.ensures.parts) c.front.ensures.front c.learn_seats.ensures.learned c.front-2.ensures.front c.learn_seats-2.ensures.learned c.in_ok-kept.ensures.kept
    (c.state-state.ensures.state ∙ ap (λ (desk : Work). desk.state) c.desk.ensures.desk) c.in_ok-asked.ensures.shared c.work_round-worked.ensures.first (omega (arith, c.requires.finders)) c.index_mut.ensures.value
    (merged_from_kinds c.args.round.now.before (items_of c.args.round.now) c.in_ok-kept.field-0.others.kinds.items (in_turn c.in_ok-asked.asked.items) c.in_ok-kept.field-0.others.replies c.new.result c.in_ok-kept.ensures.done.kinds_are c.new.ensures)

-- what the steps want
pub work_round-worked-requires-clause-enough : goal.work_round-worked-requires-clause-enough
work_round-worked-requires-clause-enough g c =
    omega (arith, added_long (c.args.workers - 1) (items_of c.args.round.now) c.as_slice-parts.result.now (added_in _ _ _ _ _ _ c.again.ensures c.new-parts.ensures.items c.as_slice-parts.ensures.value c.in_ok-push_parts.ensures.parts), c.requires.some, c.requires.finders)

pub answer_asks-requires-clause-suits : goal.answer_asks-requires-clause-suits
answer_asks-requires-clause-suits g c = λ lifetimes outlive.
    subst (Suits c.args.program.now) (sym (ap (λ (state : State). state.shapes) (c.state-state.ensures.state ∙ ap (λ (desk : Work). desk.state) c.desk.ensures.desk) ∙ c.desk.ensures.shapes)) c.requires.suits

pub answer_asks-requires-clause-counted : goal.answer_asks-requires-clause-counted
answer_asks-requires-clause-counted g c = λ lifetimes outlive.
    added_counted (c.args.workers - 1) (items_of c.args.round.now) c.as_slice-parts.result.now (added_in _ _ _ _ _ _ c.again.ensures c.new-parts.ensures.items c.as_slice-parts.ensures.value c.in_ok-push_parts.ensures.parts)

-- the finders
pub returns-in_err-push_parts-clause-used : goal.returns-in_err-push_parts-clause-used
returns-in_err-push_parts-clause-used g c = used_alike _

pub returns-in_err-asked-clause-used : goal.returns-in_err-asked-clause-used
returns-in_err-asked-clause-used g c = used_first g.P.Finder.refusals c.args.finders.now.items c.work_round-worked.new.finders.items _ _ c.answer_asks.new.finder c.work_round-worked.ensures.used c.index_mut.ensures.value c.answer_asks.ensures.used

pub returns-clause-used : goal.returns-clause-used
returns-clause-used g c = used_first g.P.Finder.refusals c.args.finders.now.items c.work_round-worked.new.finders.items _ _ c.answer_asks.new.finder c.work_round-worked.ensures.used c.index_mut.ensures.value c.answer_asks.ensures.used
