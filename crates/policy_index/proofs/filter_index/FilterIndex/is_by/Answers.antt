use Rattle.std.proofs.Common.{ap, sym, ◌∙◌}
use Rattle.policy_table.proofs.CallerLemmas.{same_table}
use Rattle.policy_index.specs.Finders.{Sought}
use Rattle.policy_index.proofs.filter_index.FilterIndex.is_by.Goals as goal

pub returns-clause-table : goal.returns-clause-table
returns-clause-table c = λ same. ap (λ (f : Sought). f.table) (sym c.self.view_is) ∙ same_table c.self.inside.table c.args.table (sym c.is_table.ensures ∙ c.if-not-is_table.false)

pub returns-clause-columns : goal.returns-clause-columns
returns-clause-columns c = λ same.
    ap (λ (f : Sought). f.index.key.columns) (sym c.self.view_is) ∙ ap (λ k. k.columns) (sym c.key.ensures) ∙ sym c.columns.ensures ∙ c.are_same.ensures same
