use Rattle.std.proofs.lemmas.Result.{err_from_is_err_and}
use Rattle.regex_gate.proofs.CallerLemmas.{used_none}
use Rattle.script_read.specs.Script.{IsRequests}
use Rattle.loaded_work.proofs.ExplainWork.{explain_memory, explain_over}
use Rattle.loaded_work.proofs.guide.explain.Goals as goal

pub returns-in_err-opened : goal.returns-in_err-opened
returns-in_err-opened g c =
    let p = err_from_is_err_and c.from_residual.result c.from_residual.ensures.1 in
    rw (p.1, p.2) (explain_memory (IsRequests c.args.json c.args.input.now) c.args.most _ _ _ _ _ (used_none _))

pub returns : goal.returns
returns g c = explain_over (IsRequests c.args.json c.args.input.now) c.args.loaded _ _ c.args.most _ _ _ _ c.explain_opened.result c.in_ok-opened.ensures c.explain_opened.ensures
