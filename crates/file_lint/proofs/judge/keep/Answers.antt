use Rattle.file_lint.proofs.KeptLemmas.{kept_by}
use Rattle.file_lint.proofs.judge.keep.Goals as goal

pub insert-requires-clause-table : goal.insert-requires-clause-table
insert-requires-clause-table c = c.requires.table

pub insert-requires-clause-few : goal.insert-requires-clause-few
insert-requires-clause-few c = c.requires.few c.args.entry.table

pub returns : goal.returns
returns c = kept_by c.args.entry c.args.seen.now.policy c.insert.new.self.policy c.in_ok-insert.field-0 c.in_ok-insert.ensures.inserted c.in_ok-insert.ensures.policy
