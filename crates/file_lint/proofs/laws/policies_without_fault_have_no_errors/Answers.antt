use Rattle.std.proofs.Common.{false}
use Rattle.policy_csv.specs.Lines.{policy_lines}
use Rattle.policy_table.specs.Tables.{without_rules}
use Rattle.file_lint.proofs.WarningLemmas.{no_errors, warned}
use Rattle.file_lint.proofs.laws.policies_without_fault_have_no_errors.Goals as goal

pub returns : goal.returns
returns c = λ model shapes bytes findings is. no_errors findings (warned model shapes (without_rules false) (policy_lines bytes) is.has.1.entries findings is.has.1.lines is.finds)
