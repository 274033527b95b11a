use Rattle.std.proofs.Common.{◌≡◌, ap, rules, ◌∙◌}
use Rattle.std.specs.Prelude.{string_bytes}
use Rattle.std.proofs.lemmas.Result.{IfOk-weaker}
use Rattle.demo_run.specs.Summary.{tally_text}
use Rattle.live_rounds.proofs.RoundsLemmas.{used_alike}
use Rattle.demo_run.proofs.DemoLemmas.{demo_is}
use Rattle.demo_run.proofs.demo.summarize.Goals as goal

pub returns-clause-told : goal.returns-clause-told
returns-clause-told g c =
    let same : c.from.result ≡ c.args.count = search rules in
    let tally = c.in_ok-tally.tally in
    IfOk-weaker c.summary.result _ _ (λ text is. demo_is c.args.count c.args.workers c.in_ok-session.session.program c.in_ok-session.session.desk (string_bytes c.in_ok-session.session.script) tally _ c.in_ok-session.ensures.session c.in_ok-tally.ensures.lines (is ∙ ap (λ n. tally_text n tally.items tally.counts) same)) c.summary.ensures

-- the finders, where memory ran out before they were lent
pub returns-in_err-session-clause-used : goal.returns-in_err-session-clause-used
returns-in_err-session-clause-used g c = used_alike _
