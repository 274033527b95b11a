use Rattle.std.proofs.Common.{ℕ, ◌≤◌, List, length, inl, subst, arith}
use Rattle.policy_state.specs.States.{tables}
use Rattle.loaded_work.proofs.reports.report_text.Goals as goal

pub returns-in-Ok-clause-reported : goal.returns-in-Ok-clause-reported
returns-in-Ok-clause-reported c =
    let own = c.in-Ok.text.items in
    let within : length own ≤ 16777216 = omega (arith, c.in-Ok.ensures.within, c.limit.ensures) in
    (inl c.in-Ok.ensures.report, λ text is. subst (λ (t : List ℕ). length t ≤ 16777216) (c.relation_has_one_report.ensures.unique c.args.state.now.shapes (tables c.args.state.now) own text c.in-Ok.ensures.report is) within)
