use Rattle.std.proofs.Common.{◌≡◌, ◌++◌, drop}
use Rattle.std.specs.String.{string_bytes}
use Rattle.perm_base.specs.Fields.{IsBehind}
use Rattle.answer_lines.specs.LineText.{change_lines, further}
use Rattle.answer_lines.proofs.rows.push_changes.Given as goal

abbrev pub invariant-loop-change : goal.invariant-loop-change
invariant-loop-change l = (string_bytes l.text ++ further (change_lines (drop l.change-index l.changes)) ≡ string_bytes l.initial.text ++ further (change_lines l.changes)) × IsBehind (string_bytes l.initial.text) (string_bytes l.text)
