use Rattle.answer_lines.specs.LineText.{Appends}
use Rattle.demo_run.specs.DemoTexts.{user_line, lines_below}
use Rattle.demo_run.proofs.texts.push_users.Given as goal

abbrev pub invariant-loop-number : goal.invariant-loop-number
invariant-loop-number l = Appends l.initial.text l.text (lines_below user_line l.number)
