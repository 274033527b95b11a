use Rattle.std.proofs.lemmas.Result.{on_ok_weaker}
use Rattle.answer_lines.proofs.PushLemmas.{appended_both}
use Rattle.answer_lines.proofs.refusals.push_fault.Goals as goal

pub returns-in-TooMany-clause-appended : goal.returns-in-TooMany-clause-appended
returns-in-TooMany-clause-appended c = rw c.in-TooMany.is (on_ok_weaker c.push_text.result (appended_both _ _ _ _ _ c.in_ok-push_str.ensures.bytes) c.push_text.ensures.appended)

pub returns-in-TooDeep-clause-appended : goal.returns-in-TooDeep-clause-appended
returns-in-TooDeep-clause-appended c = rw c.in-TooDeep.is (on_ok_weaker c.push_at-in-TooDeep.result (appended_both _ _ _ _ _ c.in_ok-push_str.ensures.bytes) c.push_at-in-TooDeep.ensures.appended)
