use Rattle.version_log.proofs.ReadLemmas.{only_fault_from, only_from}
use Rattle.version_log.proofs.edit_read.read_edit.Goals as goal

pub returns-clause-only : goal.returns-clause-only
returns-clause-only c = λ changes is. only_from c.args.text.now c.edit_of.result changes c.edit_of.ensures.found c.edit_of.ensures.fault is

pub returns-clause-only_fault : goal.returns-clause-only_fault
returns-clause-only_fault c = λ first is. only_fault_from c.args.text.now c.edit_of.result first c.edit_of.ensures.found c.edit_of.ensures.fault is
