use Rattle.std.proofs.lemmas.Result.{err_from_is_err_and}
use Rattle.perm_base.specs.declared.shapes.Shapes.{Shapes}
use Rattle.policy_state.specs.States.{tables}
use Rattle.policy_table.specs.Tables.{Policy}
use Rattle.loaded_work.specs.Helps.TaskSteps.{IsShortReport}
use Rattle.loaded_work.proofs.RolesLemmas.{reported_over}
use Rattle.loaded_work.proofs.reports.report.Goals as goal

pub returns-in_err-push_all-clause-stopped : goal.returns-in_err-push_all-clause-stopped
returns-in_err-push_all-clause-stopped g c =
    let p = err_from_is_err_and c.from_residual-in_err-push_all.result c.from_residual-in_err-push_all.ensures.1 in
    let own = c.in_ok-text.text.items in
    let state = c.in_ok-state.state in
    let is = reported_over c.args.loaded.shapes state.shapes c.args.loaded.tables.policy (tables state) (λ (s : Shapes) (p : Policy). IsShortReport s p own) c.in_ok-state.ensures.shapes_are c.in_ok-state.ensures.policy_is c.in_ok-text.ensures.reported in
    rw (p.1, p.2) (record { text = own; is = is; took = rw c.deref.ensures.value at c.in_err-push_all.ensures.stopped }, c.in_err-push_all.ensures.failed)
