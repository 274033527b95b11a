use Rattle.perm_base.specs.declared.shapes.TableId.TheVariants.{P}
use Rattle.policy_table.specs.Tables.{rows}
use Rattle.policy_index.specs.Places.{has_text_at}
use Rattle.policy_index.proofs.OrderLemmas.{Keeps}
use Rattle.policy_index.proofs.order.keep_exact.Given as goal

abbrev pub invariant-loop-at : goal.invariant-loop-at
invariant-loop-at l = Keeps (has_text_at l.column l.text (rows l.tables.policy P)) l.fn.places.items l.places.items l.kept l.at
