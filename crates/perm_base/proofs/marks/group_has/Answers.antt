use Rattle.std.proofs.Common.{eqb, arith}
use Rattle.perm_base.proofs.MarkLemmas.{group_any}
use Rattle.perm_base.proofs.marks.group_has.Goals as goal

pub returns : goal.returns
returns g c = group_any eqb c.args.byte c.args.at g.row.N c.args.bytes.now (omega arith) (omega arith)
