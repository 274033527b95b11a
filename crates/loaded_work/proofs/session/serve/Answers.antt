use Rattle.std.proofs.Common.{ap, ◌∙◌}
use Rattle.std.proofs.lemmas.Result.{err_from_is_err_and}
use Rattle.policy_state.specs.States.{State, tables}
use Rattle.regex_gate.proofs.CallerLemmas.{used_none}
use Rattle.script_read.specs.Script.{IsScript}
use Rattle.loaded_work.proofs.WorkLemmas.{answers_over, out_of_memory}
use Rattle.loaded_work.proofs.session.serve.Goals as goal

pub returns-in_err-desk : goal.returns-in_err-desk
returns-in_err-desk g c =
    let p = err_from_is_err_and c.from_residual-in_err-desk.result c.from_residual-in_err-desk.ensures.1 in
    rw (p.1, p.2) (out_of_memory _ c.args.loaded _ _ _ (used_none _))

pub returns : goal.returns
returns g c =
    let is = c.in_ok-opened.ensures in
    let desk = c.in_ok-desk.desk in
    let same_shapes = ap (λ (s : State). s.shapes) c.in_ok-desk.ensures.state ∙ is.shapes_are in
    let same_policy = ap (λ (s : State). tables s) c.in_ok-desk.ensures.state ∙ is.policy_is in
    answers_over (IsScript c.args.json c.args.script.now) c.in_ok-opened.opened.program desk.state.shapes (tables desk.state) _ _ c.args.loaded _ _ c.print_items.result is.program_is same_shapes same_policy
    c.print_items.ensures.printed c.print_items.ensures.stopped c.print_items.ensures.counted c.print_items.ensures.used
