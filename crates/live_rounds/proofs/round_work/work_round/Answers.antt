use Rattle.std.proofs.Common.{◌≡◌, ℕ, ap, arith, drop, length, map, subst, sym, take, ◌∙◌}
use Rattle.std.specs.List.{AllZip}
use Rattle.desk_session.proofs.CallerLemmas.{on_err_of}
use Rattle.live_rounds.proofs.AdminLemmas.{amid_first}
use Rattle.live_rounds.proofs.RoundsLemmas.{used_alike}
use Rattle.live_rounds.proofs.WorkedLemmas.{amid_all, behind_none, finders_used, first_stays, worked_kept}
use Rattle.live_rounds.specs.Helps.Posts.{AreKept}
use Rattle.policy_desk.specs.Desks.{Work}
use Rattle.policy_state.specs.States.{State}
use Rattle.regex_gate.specs.Refusals.{IsUsed}
use Rattle.version_log.specs.Log.{versions}
use Rattle.live_rounds.specs.Stretches.{items_of}
use Rattle.live_rounds.proofs.round_work.work_round.Goals as goal

-- want of memory before anything was done
pub returns-in_err-kept-clause-stopped : goal.returns-in_err-kept-clause-stopped
returns-in_err-kept-clause-stopped g c = on_err_of c.from_residual.result (λ before is. amid_first g.J.Naming.shapes g.J.Naming.opening before (items_of c.args.round.now) c.args.admin.now is)

pub returns-in_err-kept-clause-used : goal.returns-in_err-kept-clause-used
returns-in_err-kept-clause-used g c = used_alike _

pub returns-in_err-crew-clause-stopped : goal.returns-in_err-crew-clause-stopped
returns-in_err-crew-clause-stopped g c = on_err_of c.from_residual-in_err-crew.result (λ before is. amid_first g.J.Naming.shapes g.J.Naming.opening before (items_of c.args.round.now) c.args.admin.now is)

pub returns-in_err-crew-clause-first : goal.returns-in_err-crew-clause-first
returns-in_err-crew-clause-first g c = ap (λ finders. take 1 finders) c.in_err-crew.ensures.same_finders

pub returns-in_err-crew-clause-used : goal.returns-in_err-crew-clause-used
returns-in_err-crew-clause-used g c = subst (λ finders. AllZip IsUsed (map g.P.Finder.refusals c.args.finders.now.items) (map g.P.Finder.refusals finders)) (sym c.in_err-crew.ensures.same_finders) (used_alike _)

-- there is room for all to come back
pub dismiss-whole-requires-clause-seat_room : goal.dismiss-whole-requires-clause-seat_room
dismiss-whole-requires-clause-seat_room g c = omega (arith, c.in_ok-crew.ensures.seat_room, c.work_together-others.ensures.served.count, ap length c.in_ok-crew.ensures.taken, c.muster.new.seats.ok.0)

pub dismiss-whole-requires-clause-finder_room : goal.dismiss-whole-requires-clause-finder_room
dismiss-whole-requires-clause-finder_room g c = omega (arith, c.in_ok-crew.ensures.finder_room, c.work_together-others.ensures.served.count, c.in_ok-crew.ensures.first, c.muster.new.finders.ok.0)

pub dismiss-whole-requires-clause-kept_room : goal.dismiss-whole-requires-clause-kept_room
dismiss-whole-requires-clause-kept_room g c = omega (arith, c.in_ok-kept.ensures.len, c.in_ok-kept.ensures.capacity, c.in_ok-crew.ensures.few, c.work_together-others.ensures.served.count)

-- while the administrator was at it
pub returns-in_err-others-clause-stopped : goal.returns-in_err-others-clause-stopped
returns-in_err-others-clause-stopped g c = on_err_of c.from_residual-in_err-others.result c.in_err-others.ensures.stopped

pub returns-in_err-others-clause-first : goal.returns-in_err-others-clause-first
returns-in_err-others-clause-first g c =
    let crew = c.in_ok-crew.crew in
    let news = c.work_together-others.new.posts.items in
    first_stays (λ p. p.seat) (λ p. p.finder) g.P.Finder.refusals crew.posts.items news crew.seats.rest.items crew.finders.rest.items c.muster.new.finders.items c.work_together-others.ensures.served.count
    c.in_ok-crew.ensures.first c.args.finders.now.items c.dismiss-whole.new.finders.items c.in_ok-crew.ensures.finders c.dismiss-whole.ensures.finders

pub returns-in_err-others-clause-used : goal.returns-in_err-others-clause-used
returns-in_err-others-clause-used g c =
    let crew = c.in_ok-crew.crew in
    let news = c.work_together-others.new.posts.items in
    finders_used (λ p. p.seat) (λ p. p.finder) g.P.Finder.refusals crew.posts.items news crew.seats.rest.items crew.finders.rest.items c.muster.new.finders.items c.work_together-others.ensures.served.count
    c.in_ok-crew.ensures.first c.args.finders.now.items c.dismiss-whole.new.finders.items c.in_ok-crew.ensures.finders c.dismiss-whole.ensures.finders
    (λ i d within. (c.work_together-others.ensures.served.each i d within).used)

-- a worker ran out of memory, while the administrator did all of its items
pub returns-then-not-whole-clause-stopped : goal.returns-then-not-whole-clause-stopped
returns-then-not-whole-clause-stopped g c = λ before is.
    amid_all g.J.Naming.shapes g.J.Naming.opening before (items_of c.args.round.now) c.args.admin.now c.work_together-others.new.admin c.in_ok-others.others.replies (c.in_ok-others.ensures.done.beside before is)

pub returns-then-not-whole-clause-first : goal.returns-then-not-whole-clause-first
returns-then-not-whole-clause-first g c =
    let crew = c.in_ok-crew.crew in
    let news = c.work_together-others.new.posts.items in
    first_stays (λ p. p.seat) (λ p. p.finder) g.P.Finder.refusals crew.posts.items news crew.seats.rest.items crew.finders.rest.items c.muster.new.finders.items c.work_together-others.ensures.served.count
    c.in_ok-crew.ensures.first c.args.finders.now.items c.dismiss-whole.new.finders.items c.in_ok-crew.ensures.finders c.dismiss-whole.ensures.finders

pub returns-then-not-whole-clause-used : goal.returns-then-not-whole-clause-used
returns-then-not-whole-clause-used g c =
    let crew = c.in_ok-crew.crew in
    let news = c.work_together-others.new.posts.items in
    finders_used (λ p. p.seat) (λ p. p.finder) g.P.Finder.refusals crew.posts.items news crew.seats.rest.items crew.finders.rest.items c.muster.new.finders.items c.work_together-others.ensures.served.count
    c.in_ok-crew.ensures.first c.args.finders.now.items c.dismiss-whole.new.finders.items c.in_ok-crew.ensures.finders c.dismiss-whole.ensures.finders
    (λ i d within. (c.work_together-others.ensures.served.each i d within).used)

-- what is kept: the posts before and behind the work, with those that have none
pub returns-clause-kept : goal.returns-clause-kept
returns-clause-kept g c =
    let crew = c.in_ok-crew.crew in
    let news = c.work_together-others.new.posts.items in
    let version : c.version-version.result ≡ versions c.work_together-others.new.admin.desk.state.log
    = c.version-version.ensures.value ∙ ap (λ (state : State). versions state.log) (c.state.ensures.state ∙ ap (λ (desk : Work). desk.state) c.desk.ensures.desk) in
    subst (λ (v : ℕ). AreKept c.args.program.now g.J.Naming.shapes g.J.Naming.opening v (map items_of c.args.parts.now) c.args.seats.now.items c.dismiss-whole.new.seats.items (drop 1 (map g.P.Finder.refusals c.args.finders.now.items)) (drop 1 (map g.P.Finder.refusals c.dismiss-whole.new.finders.items)) c.dismiss-whole.new.kept.items) version
    (worked_kept (λ p. p.seat) (λ p. p.finder) g.P.Finder.refusals crew.posts.items news crew.seats.rest.items crew.finders.rest.items c.muster.new.finders.items c.work_together-others.ensures.served.count
    c.in_ok-crew.ensures.first c.args.finders.now.items c.dismiss-whole.new.finders.items c.in_ok-crew.ensures.finders c.dismiss-whole.ensures.finders
    (λ p. p.replies) (λ p. p.ran_out) c.args.program.now g.J.Naming.shapes g.J.Naming.opening c.version-version.result c.args.parts.now c.args.seats.now.items c.dismiss-whole.new.seats.items _
    c.in_ok-crew.ensures.seats (behind_none _ _ _ c.dismiss-whole.ensures.seats c.in_ok-crew.ensures.taken) c.in_ok-crew.ensures.few c.in_ok-crew.ensures.all (c.dismiss-whole.ensures.whole c.if-not-whole.false) (λ i d within. (c.work_together-others.ensures.served.each i d within).served)
    (behind_none _ _ _ c.dismiss-whole.ensures.kept c.in_ok-kept.ensures.items))

pub returns-clause-done : goal.returns-clause-done
returns-clause-done g c = c.in_ok-others.ensures.done

pub returns-clause-first : goal.returns-clause-first
returns-clause-first g c =
    let crew = c.in_ok-crew.crew in
    let news = c.work_together-others.new.posts.items in
    first_stays (λ p. p.seat) (λ p. p.finder) g.P.Finder.refusals crew.posts.items news crew.seats.rest.items crew.finders.rest.items c.muster.new.finders.items c.work_together-others.ensures.served.count
    c.in_ok-crew.ensures.first c.args.finders.now.items c.dismiss-whole.new.finders.items c.in_ok-crew.ensures.finders c.dismiss-whole.ensures.finders

pub returns-clause-used : goal.returns-clause-used
returns-clause-used g c =
    let crew = c.in_ok-crew.crew in
    let news = c.work_together-others.new.posts.items in
    finders_used (λ p. p.seat) (λ p. p.finder) g.P.Finder.refusals crew.posts.items news crew.seats.rest.items crew.finders.rest.items c.muster.new.finders.items c.work_together-others.ensures.served.count
    c.in_ok-crew.ensures.first c.args.finders.now.items c.dismiss-whole.new.finders.items c.in_ok-crew.ensures.finders c.dismiss-whole.ensures.finders
    (λ i d within. (c.work_together-others.ensures.served.each i d within).used)
