use Rattle.std.proofs.Common.{ap, ◌∙◌}
use Rattle.policy_table.specs.Changes.{ranked_policy}
use Rattle.policy_table.specs.Held.{Held}
use Rattle.policy_table.proofs.RankedLemmas.{policy_ranked, tables_ranked}
use Rattle.policy_table.proofs.tables.Tables.ranked.Goals as goal

pub invariant_of-result : goal.invariant_of-result
invariant_of-result c = tables_ranked c.self.inside.ranked c.self.inside.tables c.rank.new.self c.index-tables-0.result c.self.invariant c.in_ok-rank.ensures.rules c.in_ok-rank.ensures.counted

pub returns : goal.returns
returns c =
    policy_ranked c.self.inside.ranked c.self.inside.tables c.rank.new.self c.index-tables-0.result c.self.invariant c.in_ok-rank.ensures.rules ∙ ap (λ (h : Held). ranked_policy h.policy) c.self.view_is
