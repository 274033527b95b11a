use Rattle.std.proofs.Common.{◌≡◌, ◌++◌, drop, map}
use Rattle.answer_lines.specs.Helps.Marked.{shown_by_mark}
use Rattle.answer_lines.proofs.kept.push_shown.Given as goal

abbrev pub invariant-loop-mark : goal.invariant-loop-mark
invariant-loop-mark l = l.shown.items ++ map shown_by_mark (drop l.mark-index l.marks) ≡ l.initial.shown.items ++ map shown_by_mark l.marks
