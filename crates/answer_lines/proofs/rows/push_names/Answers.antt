use Rattle.std.proofs.lemmas.Result.{on_err_weaker}
use Rattle.answer_lines.proofs.PushLemmas.{kept_behind}
use Rattle.answer_lines.proofs.rows.push_names.Goals as goal

pub returns-clause-kept : goal.returns-clause-kept
returns-clause-kept c = on_err_weaker c.push_fields.result (λ behind. kept_behind _ _ _ _ c.in_ok-push_counted.ensures.appended (kept_behind _ _ _ _ c.in_ok-push_str.ensures.bytes behind)) c.push_fields.ensures.kept
