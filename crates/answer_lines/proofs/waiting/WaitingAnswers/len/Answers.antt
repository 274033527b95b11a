use Rattle.std.proofs.Common.{List, ap, length, ◌∙◌}
use Rattle.answer_lines.specs.Printed.{PrintedAnswer}
use Rattle.answer_lines.proofs.waiting.WaitingAnswers.len.Goals as goal

pub returns : goal.returns
returns c = c.len.ensures ∙ ap (λ (l : List PrintedAnswer). length l) c.self.view_is
