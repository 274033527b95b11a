use Rattle.std.proofs.Common.{List, ℕ, Option, ap, subst, sym}
use Rattle.std.specs.Prelude.{IfSome}
use Rattle.policy_table.specs.Tables.{rows}
use Rattle.edit_calls.specs.Found.{FindFitting, KnownPlaces}
use Rattle.policy_desk.proofs.DraftLemmas.{some_items}
use Rattle.policy_desk.proofs.drafts.Drafts.known_by_filter.Goals as goal

pub returns-clause-known : goal.returns-clause-known
returns-clause-known c =
    subst (λ (k : KnownPlaces). IfSome k.rules (FindFitting c.args.at c.args.values.now (rows c.args.self.now c.args.table))) (sym c.new.ensures)
    (some_items c.places-places.result (λ places. places.items) (FindFitting c.args.at c.args.values.now (rows c.args.self.now c.args.table)) c.places-places.ensures.found)
