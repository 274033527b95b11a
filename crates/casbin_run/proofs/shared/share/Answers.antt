use Rattle.std.proofs.Common.{Err, Ok, ap, ◌∙◌}
use Rattle.std.proofs.lemmas.Result.{err_from_is_err_and}
use Rattle.policy_state.specs.States.{State, tables}
use Rattle.script_read.specs.Script.{IsScript}
use Rattle.casbin_run.specs.Helps.Shares.{stop_of}
use Rattle.casbin_run.proofs.FinderLemmas.{none_used}
use Rattle.casbin_run.proofs.SharedWork.{all_printed, shared_all, shared_out_of_memory, shared_over, shared_some, some_printed}
use Rattle.casbin_run.proofs.shared.share.Goals as goal

pub returns-in_err-opened-clause-shared : goal.returns-in_err-opened-clause-shared
returns-in_err-opened-clause-shared g c =
    let p = err_from_is_err_and c.from_residual.result c.from_residual.ensures.1 in
    rw (p.1, p.2) (shared_out_of_memory _ c.args.workers c.args.loaded _ _ _ (none_used _))

pub returns-in_err-desk-clause-shared : goal.returns-in_err-desk-clause-shared
returns-in_err-desk-clause-shared g c =
    let p = err_from_is_err_and c.from_residual-in_err-desk.result c.from_residual-in_err-desk.ensures.1 in
    rw (p.1, p.2) (shared_out_of_memory _ c.args.workers c.args.loaded _ _ _ (none_used _))

pub returns-in-Ok-clause-shared : goal.returns-in-Ok-clause-shared
returns-in-Ok-clause-shared g c =
    let is = c.in_ok-opened.ensures in
    let desk = c.in_ok-desk.desk in
    let same_shapes = ap (λ (s : State). s.shapes) c.in_ok-desk.ensures.state ∙ is.shapes_are in
    let same_policy = ap (λ (s : State). tables s) c.in_ok-desk.ensures.state ∙ is.policy_is in
    let items = c.requires.checked.0 in
    let says = c.requires.checked.1 in
    let all = c.in-Ok.ensures.shared items says in
    let printed = all_printed g.K.Sink.taken g.K.Sink.faults c.args.out.now all.lines c.run_shared.new.to all.taken in
    shared_over (IsScript c.args.json c.args.script.now) c.args.workers c.in_ok-opened.opened.program desk.state.shapes (tables desk.state) _ _ c.args.loaded _ _ (Ok tt) is.program_is same_shapes same_policy (shared_all _ _ _ _ _ _ _ items all.lines says all.are _ _ printed.0) tt printed.1 c.run_shared.ensures.used

pub returns-clause-shared : goal.returns-clause-shared
returns-clause-shared g c =
    let is = c.in_ok-opened.ensures in
    let desk = c.in_ok-desk.desk in
    let same_shapes = ap (λ (s : State). s.shapes) c.in_ok-desk.ensures.state ∙ is.shapes_are in
    let same_policy = ap (λ (s : State). tables s) c.in_ok-desk.ensures.state ∙ is.policy_is in
    let items = c.requires.checked.0 in
    let says = c.requires.checked.1 in
    let some = c.in-Err.ensures.amid items says in
    let printed = some_printed g.K.Sink.taken g.K.Sink.faults c.args.out.now some.lines c.run_shared.new.to c.in-Err.stop some.taken in
    rw c.stop_of.ensures
    (shared_over (IsScript c.args.json c.args.script.now) c.args.workers c.in_ok-opened.opened.program desk.state.shapes (tables desk.state) _ _ c.args.loaded _ _ (Err (stop_of c.in-Err.stop)) is.program_is same_shapes same_policy tt
    (shared_some _ _ _ _ _ _ _ items some.lines says some.are _ _ _ (stop_of c.in-Err.stop) printed.0) printed.1 c.run_shared.ensures.used)
