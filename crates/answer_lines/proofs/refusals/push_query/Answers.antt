use Rattle.std.proofs.lemmas.Result.{on_ok_weaker}
use Rattle.answer_lines.proofs.PushLemmas.{appended_both}
use Rattle.answer_lines.proofs.refusals.push_query.Goals as goal

pub returns-in-FilterPlace-clause-appended : goal.returns-in-FilterPlace-clause-appended
returns-in-FilterPlace-clause-appended c = rw c.in-FilterPlace.is (on_ok_weaker c.push_text.result (appended_both _ _ _ _ _ c.in_ok-push_str.ensures.bytes) c.push_text.ensures.appended)

pub returns-in-Dropped-clause-appended : goal.returns-in-Dropped-clause-appended
returns-in-Dropped-clause-appended c = rw c.in-Dropped.is (on_ok_weaker c.push_at-in-Dropped.result (appended_both _ _ _ _ _ c.in_ok-push_str.ensures.bytes) c.push_at-in-Dropped.ensures.appended)
