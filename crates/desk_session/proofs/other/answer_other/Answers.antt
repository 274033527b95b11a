use Rattle.std.proofs.Common.{◌≡◌, true, false, ap, subst, sym, ◌∙◌}
use Rattle.policy_desk.specs.Desks.{Work}
use Rattle.script_read.specs.Said.{seen, syncs}
use Rattle.desk_session.specs.Steps.{IsPlainStep, is_request}
use Rattle.desk_session.proofs.LogLemmas.{on_err_of}
use Rattle.desk_session.proofs.OtherLemmas.{lent_step, on_ok_of}
use Rattle.desk_session.proofs.other.answer_other.Goals as goal

-- a request is not answered here
pub unreachable-requires : goal.unreachable-requires
unreachable-requires g c =
    let both : true ≡ false = sym (ap (λ item. is_request (seen item)) c.in-Ask.is) ∙ c.requires.other in
    absurd cc

pub returns-in-Has-clause-step : goal.returns-in-Has-clause-step
returns-in-Has-clause-step g c = rw c.in-Has.is (lent_step _ c.desk-in-Has.result.now (g.E.Editor.work c.args.editor.now) c.answer_has.result c.desk-in-Has.ensures.desk c.answer_has.ensures)

pub returns-in-Has-clause-beside : goal.returns-in-Has-clause-beside
returns-in-Has-clause-beside g c = rw c.in-Has.is (on_ok_of c.answer_has.result c.desk-in-Has.ensures.same)

pub returns-in-Has-clause-stays : goal.returns-in-Has-clause-stays
returns-in-Has-clause-stays g c = on_err_of c.answer_has.result c.desk-in-Has.ensures.same

pub returns-in-Rows-clause-step : goal.returns-in-Rows-clause-step
returns-in-Rows-clause-step g c = rw c.in-Rows.is (lent_step _ c.desk-in-Rows.result.now (g.E.Editor.work c.args.editor.now) c.answer_rows.result c.desk-in-Rows.ensures.desk c.answer_rows.ensures)

pub returns-in-Rows-clause-beside : goal.returns-in-Rows-clause-beside
returns-in-Rows-clause-beside g c = rw c.in-Rows.is (on_ok_of c.answer_rows.result c.desk-in-Rows.ensures.same)

pub returns-in-Rows-clause-stays : goal.returns-in-Rows-clause-stays
returns-in-Rows-clause-stays g c = on_err_of c.answer_rows.result c.desk-in-Rows.ensures.same

pub returns-in-Roles-clause-step : goal.returns-in-Roles-clause-step
returns-in-Roles-clause-step g c = rw c.in-Roles.is (lent_step _ c.desk-in-Roles.result.now (g.E.Editor.work c.args.editor.now) c.answer_roles.result c.desk-in-Roles.ensures.desk c.answer_roles.ensures)

pub returns-in-Roles-clause-beside : goal.returns-in-Roles-clause-beside
returns-in-Roles-clause-beside g c = rw c.in-Roles.is (on_ok_of c.answer_roles.result c.desk-in-Roles.ensures.same)

pub returns-in-Roles-clause-stays : goal.returns-in-Roles-clause-stays
returns-in-Roles-clause-stays g c = on_err_of c.answer_roles.result c.desk-in-Roles.ensures.same

pub returns-in-Users-clause-beside : goal.returns-in-Users-clause-beside
returns-in-Users-clause-beside g c = rw c.in-Users.is (on_ok_of c.answer_users.result c.answer_users.ensures.stays)

pub returns-in-Users-clause-stays : goal.returns-in-Users-clause-stays
returns-in-Users-clause-stays g c = on_err_of c.answer_users.result c.answer_users.ensures.stays

pub returns-in-History-clause-step : goal.returns-in-History-clause-step
returns-in-History-clause-step g c = rw c.in-History.is (lent_step _ c.desk-in-History.result.now (g.E.Editor.work c.args.editor.now) c.answer_history.result c.desk-in-History.ensures.desk c.answer_history.ensures)

pub returns-in-History-clause-beside : goal.returns-in-History-clause-beside
returns-in-History-clause-beside g c = rw c.in-History.is (on_ok_of c.answer_history.result c.desk-in-History.ensures.same)

pub returns-in-History-clause-stays : goal.returns-in-History-clause-stays
returns-in-History-clause-stays g c = on_err_of c.answer_history.result c.desk-in-History.ensures.same

pub returns-in-Sync-clause-step : goal.returns-in-Sync-clause-step
returns-in-Sync-clause-step g c = rw c.in-Sync.is (subst (λ (d : Work). IsPlainStep syncs d d c.answer_sync.result) c.desk.ensures.desk c.answer_sync.ensures)

pub returns-in-Edit-clause-beside : goal.returns-in-Edit-clause-beside
returns-in-Edit-clause-beside g c = rw c.in-Edit.is (on_ok_of c.answer_call.result c.answer_call.ensures.stays)

pub returns-in-Edit-clause-stays : goal.returns-in-Edit-clause-stays
returns-in-Edit-clause-stays g c = on_err_of c.answer_call.result c.answer_call.ensures.stays

pub returns-in-Keep-clause-step : goal.returns-in-Keep-clause-step
returns-in-Keep-clause-step g c = rw c.in-Keep.is c.answer_keep.ensures.step
