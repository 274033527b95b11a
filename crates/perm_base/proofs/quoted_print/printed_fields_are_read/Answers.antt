use Rattle.perm_base.proofs.PrintLemmas.{printed_is}
use Rattle.perm_base.proofs.quoted_print.printed_fields_are_read.Goals as goal

pub returns : goal.returns
returns c = printed_is
