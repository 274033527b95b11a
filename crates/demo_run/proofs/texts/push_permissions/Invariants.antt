use Rattle.answer_lines.specs.LineText.{Appends}
use Rattle.demo_run.specs.DemoTexts.{permission_line, lines_below}
use Rattle.demo_run.proofs.texts.push_permissions.Given as goal

abbrev pub invariant-loop-number : goal.invariant-loop-number
invariant-loop-number l = Appends l.initial.text l.text (lines_below permission_line l.number)
