use Rattle.std.proofs.Common.{List, ℕ, ap, subst, sym}
use Rattle.std.specs.Prelude.{IfSome}
use Rattle.policy_table.specs.Tables.{Fields, rows}
use Rattle.edit_calls.specs.Found.{AreKnown, FindFitting}
use Rattle.edit_calls.specs.declared.call.Call.{Call}
use Rattle.policy_desk.proofs.DraftLemmas.{none_known}
use Rattle.policy_desk.proofs.drafts.Drafts.known.Goals as goal

pub returns-in-RemoveFiltered-clause-known : goal.returns-in-RemoveFiltered-clause-known
returns-in-RemoveFiltered-clause-known c =
    subst (AreKnown c.args.shapes.now c.args.self.now c.known_by_filter.result) (sym c.in-RemoveFiltered.is)
    (subst (λ (values : Fields). IfSome c.known_by_filter.result.rules (FindFitting c.in-RemoveFiltered.at values (rows c.args.self.now c.in-RemoveFiltered.table))) c.fields.ensures.value c.known_by_filter.ensures.known)

pub returns-in-UpdateFiltered-clause-known : goal.returns-in-UpdateFiltered-clause-known
returns-in-UpdateFiltered-clause-known c =
    subst (AreKnown c.args.shapes.now c.args.self.now c.known_by_filter-in-UpdateFiltered.result) (sym c.in-UpdateFiltered.is)
    (subst (λ (values : Fields). IfSome c.known_by_filter-in-UpdateFiltered.result.rules (FindFitting c.in-UpdateFiltered.at values (rows c.args.self.now c.in-UpdateFiltered.table))) c.fields-in-UpdateFiltered.ensures.value c.known_by_filter-in-UpdateFiltered.ensures.known)

pub returns-in-DeleteUser-clause-known : goal.returns-in-DeleteUser-clause-known
returns-in-DeleteUser-clause-known c =
    subst (AreKnown c.args.shapes.now c.args.self.now c.known_by_name.result) (sym c.in-DeleteUser.is) (c.known_by_name.ensures.links, c.known_by_name.ensures.subjects)

pub returns-in-DeleteRole-clause-known : goal.returns-in-DeleteRole-clause-known
returns-in-DeleteRole-clause-known c =
    subst (AreKnown c.args.shapes.now c.args.self.now c.known_by_name-in-DeleteRole.result) (sym c.in-DeleteRole.is) (c.known_by_name-in-DeleteRole.ensures.links, c.known_by_name-in-DeleteRole.ensures.subjects)

pub returns-in-Add-clause-known : goal.returns-in-Add-clause-known
returns-in-Add-clause-known c = none_known c.args.shapes.now c.args.self.now c.none.result c.args.call.now c.none.ensures
