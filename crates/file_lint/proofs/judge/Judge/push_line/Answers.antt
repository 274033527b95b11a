use Rattle.std.proofs.Common.{ℕ, subst}
use Rattle.policy_csv.specs.Faults.{IsTextFault}
use Rattle.file_lint.specs.Helps.Rows.{row_line}
use Rattle.file_lint.proofs.RowLemmas.{entry_judged, fault_judged}
use Rattle.file_lint.proofs.judge.Judge.push_line.Goals as goal

-- a rule that is kept with its warnings, or the line's own fault
pub returns-in-Ok : goal.returns-in-Ok
returns-in-Ok c =
    entry_judged c.args.self.now.model.now c.args.self.now.shapes.now (row_line c.args.row.now) c.args.seen.now.policy c.push_entry.new.seen.policy c.args.findings.now.items c.push_entry.new.findings.items c.in-Ok.entry c.push_entry.result
    c.in-Ok.ensures.found c.push_entry.ensures.kept c.push_entry.ensures.finds

pub returns-in-Err : goal.returns-in-Err
returns-in-Err c =
    let own = subst (λ (number : ℕ). IsTextFault c.args.self.now.shapes.now number c.args.row.now.text.now c.in-Err.why) c.given_number.ensures c.in-Err.ensures.fault in
    fault_judged c.args.self.now.model.now c.args.self.now.shapes.now (row_line c.args.row.now) c.args.seen.now.policy c.args.findings.now.items c.push_fault.new.findings.items c.in-Err.why c.push_fault.result own c.push_fault.ensures.known c.push_fault.ensures.grown
