use Rattle.std.proofs.Common.{sym, subst, ◌∙◌}
use Rattle.version_log.proofs.ReadLemmas.{stray_item, stray_line, taken_line}
use Rattle.version_log.specs.Helps.Items.{IsReadAs}
use Rattle.version_log.proofs.edit_read.take.Goals as goal

pub returns-in_default-clause-stray : goal.returns-in_default-clause-stray
returns-in_default-clause-stray c = λ front read.
    stray_line front c.args.reading.changes.items c.args.reading.place c.args.line.now read (subst (IsReadAs c.args.line.now) c.in_default.is c.in_ok-item.ensures)

pub returns-in_default-step-clause-stray : goal.returns-in_default-step-clause-stray
returns-in_default-step-clause-stray c = λ front read.
    let is = subst (IsReadAs c.args.line.now) c.in-Some.is c.in_ok-item.ensures in
    stray_item front c.args.reading.changes.items c.args.reading.place c.args.line.now c.in-Some.item read is.0 (sym c.step.ensures ∙ c.in_default-step.is)

pub returns-clause-taken : goal.returns-clause-taken
returns-clause-taken c = λ front read.
    let is = subst (IsReadAs c.args.line.now) c.in-Some.is c.in_ok-item.ensures in
    taken_line front c.args.reading.changes.items c.in_ok-changes.changes.items c.args.reading.place c.in-Some-step.place c.args.line.now c.in-Some.item c.in-Some-step.change read is c.requires (sym c.step.ensures ∙ c.in-Some-step.is) c.in_ok-changes.ensures
