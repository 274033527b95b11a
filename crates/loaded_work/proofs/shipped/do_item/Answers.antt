use Rattle.std.proofs.Common.{sym, ◌∙◌}
use Rattle.script_read.specs.Said.{seen}
use Rattle.loaded_work.proofs.ShipLemmas.{done_unasked, passed_behind}
use Rattle.loaded_work.proofs.shipped.do_item.Goals as goal

pub returns-then-not-is_done-clause-behind : goal.returns-then-not-is_done-clause-behind
returns-then-not-is_done-clause-behind g c = passed_behind (seen c.args.item.now) c.args.desk.now (sym c.is_done.ensures ∙ c.if-not-is_done.true)

pub returns-in_err-_answer-clause-unasked : goal.returns-in_err-_answer-clause-unasked
returns-in_err-_answer-clause-unasked g c = done_unasked c.args.program.now _ _ (seen c.args.item.now) (sym c.is_done.ensures ∙ c.if-not-is_done.false) c.in_err-_answer.ensures.refused

pub returns-clause-unasked : goal.returns-clause-unasked
returns-clause-unasked g c = done_unasked c.args.program.now _ _ (seen c.args.item.now) (sym c.is_done.ensures ∙ c.if-not-is_done.false) c.in_ok-_answer.ensures.step.asked

pub returns-clause-behind : goal.returns-clause-behind
returns-clause-behind g c = c.in_ok-_answer.ensures.step.behind
