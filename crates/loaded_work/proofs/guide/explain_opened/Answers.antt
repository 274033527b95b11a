use Rattle.std.proofs.lemmas.Result.{err_from_is_err_and}
use Rattle.regex_gate.proofs.CallerLemmas.{used_none}
use Rattle.script_read.specs.Script.{IsRequests}
use Rattle.loaded_work.proofs.ExplainWork.{explain_memory}
use Rattle.loaded_work.proofs.guide.explain_opened.Goals as goal

pub returns-in_err-explainer : goal.returns-in_err-explainer
returns-in_err-explainer g c =
    let p = err_from_is_err_and c.from_residual.result c.from_residual.ensures.1 in
    rw (p.1, p.2) (explain_memory (IsRequests c.args.json c.args.input.now) c.args.most _ _ _ _ _ (used_none _))
