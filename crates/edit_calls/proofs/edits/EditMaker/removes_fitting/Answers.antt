use Rattle.std.proofs.Common.{◌≡◌, IfOk, List, ℕ, Option, subst}
use Rattle.std.specs.Borrow.{Bor}
use Rattle.std.specs.Option.{option_copied}
use Rattle.std.specs.Prelude.{IfSome}
use Rattle.policy_table.specs.Tables.{Fields, rows}
use Rattle.edit_calls.specs.Edits.{removes}
use Rattle.edit_calls.specs.Found.{FindFitting}
use Rattle.edit_calls.proofs.edits.EditMaker.removes_fitting.Goals as goal

pub removes_fitting_at-requires-clause-within : goal.removes_fitting_at-requires-clause-within
removes_fitting_at-requires-clause-within c =
    let all = rows c.args.self.now.tables.now.policy c.args.table in
    (subst (λ (o : Option (Bor (List ℕ))). IfSome (option_copied o) (FindFitting c.args.at c.args.values.now all)) c.in-Some.is c.requires.known).within

pub returns-in-Some : goal.returns-in-Some
returns-in-Some c =
    let all = rows c.args.self.now.tables.now.policy c.args.table in
    subst (λ (l : List Fields). IfOk c.removes_fitting_at.result (λ changes. changes.items ≡ removes c.args.table l))
    (subst (λ (o : Option (Bor (List ℕ))). IfSome (option_copied o) (FindFitting c.args.at c.args.values.now all)) c.in-Some.is c.requires.known).same c.removes_fitting_at.ensures
