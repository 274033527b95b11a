use Rattle.std.proofs.Common.{◌≡◌, ◌++◌, drop}
use Rattle.std.specs.String.{string_bytes}
use Rattle.perm_base.specs.Fields.{IsBehind}
use Rattle.answer_lines.specs.LineText.{further, rule_lines}
use Rattle.answer_lines.proofs.rows.push_rows.Given as goal

abbrev pub invariant-loop-rule : goal.invariant-loop-rule
invariant-loop-rule l = (string_bytes l.text ++ further (rule_lines l.name (drop l.rule-index l.rules)) ≡ string_bytes l.initial.text ++ further (rule_lines l.name l.rules)) × IsBehind (string_bytes l.initial.text) (string_bytes l.text)
