use Rattle.policy_index.specs.Found.{FindRows}
use Rattle.policy_table.specs.Filters.{fits_filter}
use Rattle.policy_table.specs.Tables.{Fields, rows}
use Rattle.edit_calls.specs.Found.{FindFitting}
use Rattle.policy_desk.proofs.DraftLemmas.{found_fitting, where_some}
use Rattle.policy_desk.proofs.drafts.Drafts.places.Goals as goal

pub invariant_of-self : goal.invariant_of-self
invariant_of-self c = c.seek.ensures c.self.invariant

pub find-requires : goal.find-requires
find-requires c = record { finders = c.seek.ensures c.self.invariant }

pub returns-clause-found : goal.returns-clause-found
returns-clause-found c =
    where_some c.find.result (λ places. FindRows (λ (rule : Fields). fits_filter rule c.args.at c.args.values.now) (rows c.self.inside.tables.policy c.args.table) places.items)
    (λ places. FindFitting c.args.at c.args.values.now (rows c.args.self.now c.args.table) places.items)
    (λ places finds. found_fitting c.args.at c.args.values.now c.self.inside.tables.policy c.args.self.now c.args.table places.items c.self.view_is finds) c.find.ensures
