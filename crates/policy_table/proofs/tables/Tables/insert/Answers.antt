use Rattle.std.proofs.Common.{sym, ◌∙◌, refl}
use Rattle.policy_table.specs.Helps.Rows.{policy_of}
use Rattle.policy_table.proofs.InsertLemmas.{IsAt, tables_inserted, policy_inserted, policy_refused}
use Rattle.policy_table.proofs.LawLemmas.{order_of}
use Rattle.policy_table.proofs.TableLemmas.{found_within, rise_here}
use Rattle.policy_table.proofs.tables.Tables.insert.Goals as goal

-- the place of the table
at_table : (c : goal.After-insert) → IsAt c.self.inside.ranked c.is_ranked-ranked.result c.self.inside.tables c.in-Some.at c.args.table c.args.self.now
at_table c = record {
  here = sym c.place.ensures ∙ c.in-Some.is;
  within = found_within c.args.table c.in-Some.at _ c.self.invariant c.place.ensures c.in-Some.is;
  told = c.is_ranked-ranked.ensures (policy_of c.self.inside.ranked c.self.inside.tables) refl;
  view = c.self.view_is;
}

pub insert-requires : goal.insert-requires
insert-requires c =
    rise_here c.self.inside.ranked c.is_ranked-ranked.result c.self.inside.tables c.in-Some.at c.index-self-at.result c.args.table (sym c.place.ensures ∙ c.in-Some.is)
    (found_within c.args.table c.in-Some.at _ c.self.invariant c.place.ensures c.in-Some.is) (order_of (policy_of c.self.inside.ranked c.self.inside.tables) c.self.invariant.kept)
    (c.is_ranked-ranked.ensures (policy_of c.self.inside.ranked c.self.inside.tables) refl)

pub invariant_of-self : goal.invariant_of-self
invariant_of-self c =
    tables_inserted c.self.inside.ranked c.is_ranked-ranked.result c.self.inside.tables c.in-Some.at c.args.table c.args.self.now (at_table c) c.args.rule _ _ c.insert.result
    c.insert.ensures.rules c.insert.ensures.refused c.insert.ensures.counted c.requires.few c.self.invariant

pub returns-clause-policy : goal.returns-clause-policy
returns-clause-policy c =
    policy_inserted c.self.inside.ranked c.is_ranked-ranked.result c.self.inside.tables c.in-Some.at c.args.table c.args.self.now (at_table c) c.args.rule _ _ c.insert.result
    c.insert.ensures.inserted c.insert.ensures.rules

pub returns-clause-refused : goal.returns-clause-refused
returns-clause-refused c =
    policy_refused c.self.inside.ranked c.is_ranked-ranked.result c.self.inside.tables c.in-Some.at c.args.table c.args.self.now (at_table c) c.args.rule _ _ c.insert.result c.insert.ensures.refused
