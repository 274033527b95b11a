use Rattle.std.proofs.Common.{sym}
use Rattle.perm_base.proofs.CallerLemmas.{plain_name}
use Rattle.answer_lines.proofs.rows.push_signed.Goals as goal

pub push_row-requires : goal.push_row-requires
push_row-requires c = plain_name c.args.table c.in-Some.name.now (sym c.in-Some.ensures)
