use Rattle.std.proofs.Common.{sym}
use Rattle.perm_base.proofs.CallerLemmas.{plain_name}
use Rattle.answer_lines.proofs.rows.push_rules.Goals as goal

pub push_rows-requires : goal.push_rows-requires
push_rows-requires c = plain_name c.args.table c.in-Some.name.now (sym c.in-Some.ensures)
