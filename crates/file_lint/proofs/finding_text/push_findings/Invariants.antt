use Rattle.std.proofs.Common.{◌≡◌, ◌++◌, drop}
use Rattle.std.specs.Prelude.{string_bytes}
use Rattle.file_lint.specs.Findings.{finding_lines}
use Rattle.file_lint.proofs.finding_text.push_findings.Given as goal

abbrev pub invariant-loop-found : goal.invariant-loop-found
invariant-loop-found l = string_bytes l.text ++ finding_lines l.file (drop l.found-index l.findings) ≡ string_bytes l.fn.text ++ finding_lines l.file l.findings
