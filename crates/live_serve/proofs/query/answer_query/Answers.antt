use Rattle.std.proofs.Common.{refl}
use Rattle.std.proofs.lemmas.Result.{IfOk-weaker}
use Rattle.live_serve.proofs.QueryLemmas.{asked_reply, not_refused, on_err_any, queried, queried_unasked, synced}
use Rattle.live_serve.proofs.query.answer_query.Goals as goal

pub returns-in_ok-reply-in-Ask-clause-asked : goal.returns-in_ok-reply-in-Ask-clause-asked
returns-in_ok-reply-in-Ask-clause-asked g c = rw c.in-Ask.is (asked_reply c.args.program.now c.args.state.now _ _ _ c.in_ok-reply-in-Ask.reply c.in_ok-reply-in-Ask.ensures.answer c.in_ok-reply-in-Ask.ensures.printable)

pub returns-in_ok-reply-in-Ask-clause-unasked : goal.returns-in_ok-reply-in-Ask-clause-unasked
returns-in_ok-reply-in-Ask-clause-unasked g c = rw c.in-Ask.is refl

pub returns-in_err-reply-in-Ask-clause-refused : goal.returns-in_err-reply-in-Ask-clause-refused
returns-in_err-reply-in-Ask-clause-refused g c = rw c.in-Ask.is (on_err_any c.from_residual.result c.in_err-reply-in-Ask.ensures.stopped)

pub returns-in-Sync-clause-asked : goal.returns-in-Sync-clause-asked
returns-in-Sync-clause-asked g c = rw c.in-Sync.is (synced c.args.program.now c.args.state.now (g.P.Finder.refusals c.args.finder.now) c.version.result c.version.ensures.value)

pub returns-in-Sync-clause-unasked : goal.returns-in-Sync-clause-unasked
returns-in-Sync-clause-unasked g c = rw c.in-Sync.is refl

pub returns-in-Has-clause-asked : goal.returns-in-Has-clause-asked
returns-in-Has-clause-asked g c = rw c.in-Has.is (IfOk-weaker c.query_has.result _ _ (queried c.args.program.now c.args.state.now (g.P.Finder.refusals c.args.finder.now) _ refl) c.query_has.ensures)

pub returns-in-Has-clause-unasked : goal.returns-in-Has-clause-unasked
returns-in-Has-clause-unasked g c = rw c.in-Has.is (IfOk-weaker c.query_has.result _ _ (queried_unasked (g.P.Finder.refusals c.args.finder.now) c.args.state.now _ refl) c.query_has.ensures)

pub returns-in-Has-clause-refused : goal.returns-in-Has-clause-refused
returns-in-Has-clause-refused g c = on_err_any c.query_has.result (not_refused c.args.program.now (g.P.Finder.refusals c.args.finder.now) _)

pub returns-in-Rows-clause-asked : goal.returns-in-Rows-clause-asked
returns-in-Rows-clause-asked g c = rw c.in-Rows.is (IfOk-weaker c.query_rows.result _ _ (queried c.args.program.now c.args.state.now (g.P.Finder.refusals c.args.finder.now) _ refl) c.query_rows.ensures)

pub returns-in-Rows-clause-unasked : goal.returns-in-Rows-clause-unasked
returns-in-Rows-clause-unasked g c = rw c.in-Rows.is (IfOk-weaker c.query_rows.result _ _ (queried_unasked (g.P.Finder.refusals c.args.finder.now) c.args.state.now _ refl) c.query_rows.ensures)

pub returns-in-Rows-clause-refused : goal.returns-in-Rows-clause-refused
returns-in-Rows-clause-refused g c = on_err_any c.query_rows.result (not_refused c.args.program.now (g.P.Finder.refusals c.args.finder.now) _)

pub returns-in-Roles-clause-asked : goal.returns-in-Roles-clause-asked
returns-in-Roles-clause-asked g c = rw c.in-Roles.is (IfOk-weaker c.query_roles.result _ _ (queried c.args.program.now c.args.state.now (g.P.Finder.refusals c.args.finder.now) _ refl) c.query_roles.ensures)

pub returns-in-Roles-clause-unasked : goal.returns-in-Roles-clause-unasked
returns-in-Roles-clause-unasked g c = rw c.in-Roles.is (IfOk-weaker c.query_roles.result _ _ (queried_unasked (g.P.Finder.refusals c.args.finder.now) c.args.state.now _ refl) c.query_roles.ensures)

pub returns-in-Roles-clause-refused : goal.returns-in-Roles-clause-refused
returns-in-Roles-clause-refused g c = on_err_any c.query_roles.result (not_refused c.args.program.now (g.P.Finder.refusals c.args.finder.now) _)

pub returns-in-Users-clause-asked : goal.returns-in-Users-clause-asked
returns-in-Users-clause-asked g c = rw c.in-Users.is (IfOk-weaker c.query_users.result _ _ (queried c.args.program.now c.args.state.now (g.P.Finder.refusals c.args.finder.now) _ refl) c.query_users.ensures)

pub returns-in-Users-clause-unasked : goal.returns-in-Users-clause-unasked
returns-in-Users-clause-unasked g c = rw c.in-Users.is (IfOk-weaker c.query_users.result _ _ (queried_unasked (g.P.Finder.refusals c.args.finder.now) c.args.state.now _ refl) c.query_users.ensures)

pub returns-in-Users-clause-refused : goal.returns-in-Users-clause-refused
returns-in-Users-clause-refused g c = on_err_any c.query_users.result (not_refused c.args.program.now (g.P.Finder.refusals c.args.finder.now) _)

pub returns-in-History-clause-asked : goal.returns-in-History-clause-asked
returns-in-History-clause-asked g c = rw c.in-History.is (IfOk-weaker c.query_history.result _ _ (queried c.args.program.now c.args.state.now (g.P.Finder.refusals c.args.finder.now) _ refl) c.query_history.ensures)

pub returns-in-History-clause-unasked : goal.returns-in-History-clause-unasked
returns-in-History-clause-unasked g c = rw c.in-History.is (IfOk-weaker c.query_history.result _ _ (queried_unasked (g.P.Finder.refusals c.args.finder.now) c.args.state.now _ refl) c.query_history.ensures)

pub returns-in-History-clause-refused : goal.returns-in-History-clause-refused
returns-in-History-clause-refused g c = on_err_any c.query_history.result (not_refused c.args.program.now (g.P.Finder.refusals c.args.finder.now) _)
