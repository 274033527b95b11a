use Rattle.std.proofs.Common.{List, ℕ, Option, subst, sym}
use Rattle.std.specs.Prelude.{IfSome}
use Rattle.policy_table.specs.Tables.{rows}
use Rattle.edit_calls.specs.Found.{AreKnown, FindFitting}
use Rattle.edit_calls.proofs.edits.edit_by.Goals as goal

pub returns-in-Update : goal.returns-in-Update
returns-in-Update c = rw c.in-Update.is c.update.ensures

pub remove_filtered-requires-clause-known : goal.remove_filtered-requires-clause-known
remove_filtered-requires-clause-known c =
    subst (λ (o : Option (List ℕ)). IfSome o (FindFitting c.in-RemoveFiltered.at c.in-RemoveFiltered.values (rows c.args.tables.now.policy c.in-RemoveFiltered.table))) (sym c.rules-places.ensures)
    (subst (AreKnown c.args.shapes.now c.args.tables.now.policy c.args.known.now) c.in-RemoveFiltered.is c.requires.known)

pub update_filtered-requires-clause-known : goal.update_filtered-requires-clause-known
update_filtered-requires-clause-known c =
    subst (λ (o : Option (List ℕ)). IfSome o (FindFitting c.in-UpdateFiltered.at c.in-UpdateFiltered.values (rows c.args.tables.now.policy c.in-UpdateFiltered.table))) (sym c.rules-places.ensures)
    (subst (AreKnown c.args.shapes.now c.args.tables.now.policy c.args.known.now) c.in-UpdateFiltered.is c.requires.known)

pub delete_name-requires-clause-links : goal.delete_name-requires-clause-links
delete_name-requires-clause-links c = (subst (AreKnown c.args.shapes.now c.args.tables.now.policy c.args.known.now) c.in-DeleteUser.is c.requires.known).0

pub delete_name-requires-clause-subjects : goal.delete_name-requires-clause-subjects
delete_name-requires-clause-subjects c = (subst (AreKnown c.args.shapes.now c.args.tables.now.policy c.args.known.now) c.in-DeleteUser.is c.requires.known).1

pub delete_name-requires-in-DeleteRole-clause-links : goal.delete_name-requires-in-DeleteRole-clause-links
delete_name-requires-in-DeleteRole-clause-links c = (subst (AreKnown c.args.shapes.now c.args.tables.now.policy c.args.known.now) c.in-DeleteRole.is c.requires.known).0

pub delete_name-requires-in-DeleteRole-clause-subjects : goal.delete_name-requires-in-DeleteRole-clause-subjects
delete_name-requires-in-DeleteRole-clause-subjects c = (subst (AreKnown c.args.shapes.now c.args.tables.now.policy c.args.known.now) c.in-DeleteRole.is c.requires.known).1
