use Rattle.policy_csv.proofs.CallerLemmas.{place_known}
use Rattle.std.proofs.Common.{length}
use Rattle.file_lint.proofs.judge.Judge.push_entry.Goals as goal

pub keep-requires-clause-table : goal.keep-requires-clause-table
keep-requires-clause-table c = place_known c.args.self.now.shapes.now c.args.entry.table (length c.args.entry.rule) c.requires.valid.roles c.requires.says.columns
