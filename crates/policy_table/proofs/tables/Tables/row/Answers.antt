use Rattle.std.proofs.Common.{◌<◌, List, length, slice_get, arith, ap, sym, subst, ◌∙◌}
use Rattle.policy_table.specs.Tables.{Fields}
use Rattle.policy_table.proofs.TableLemmas.{found_rows, nowhere_rows}
use Rattle.policy_table.proofs.tables.Tables.row.Goals as goal

pub unreachable-requires : goal.unreachable-requires
unreachable-requires c = absurd (omega (arith, c.requires, ap length (nowhere_rows c.args.self.now.policy c.args.table (sym c.place.ensures ∙ c.in_default.is))))

pub row-requires : goal.row-requires
row-requires c =
    subst (λ (l : List Fields). c.args.at < length l) (found_rows c.args.table c.in-Some.there _ c.index-self-there.result c.self.invariant c.self.view_is c.place.ensures c.in-Some.is) c.requires

pub returns : goal.returns
returns c =
    ap (λ (l : List Fields). slice_get l c.args.at) (found_rows c.args.table c.in-Some.there _ c.index-self-there.result c.self.invariant c.self.view_is c.place.ensures c.in-Some.is) ∙ c.row.ensures
