use Rattle.std.proofs.Common.{sym}
use Rattle.perm_base.proofs.CallerLemmas.{plain_name}
use Rattle.version_log.proofs.edit_print.push_line.Goals as goal

pub push_named-requires : goal.push_named-requires
push_named-requires c = plain_name c.args.table c.in-Some.name.now (sym c.in-Some.ensures)
