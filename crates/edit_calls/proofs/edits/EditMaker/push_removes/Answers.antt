use Rattle.std.proofs.Common.{◌≡◌, ◌++◌, ◌∷◌, ◌∙◌, [], List, ℕ, OnOk, Option, ap, subst, sym}
use Rattle.std.specs.Borrow.{Bor}
use Rattle.std.specs.Option.{option_copied}
use Rattle.std.specs.Prelude.{IfSome}
use Rattle.policy_table.specs.Tables.{Fields, rows}
use Rattle.edit_calls.specs.Edits.{removes, rows_with}
use Rattle.edit_calls.specs.Found.{FindFitting, rules_at}
use Rattle.edit_calls.proofs.KnownLemmas.{named_at}
use Rattle.edit_calls.proofs.edits.EditMaker.push_removes.Goals as goal

pub push_removes_at-requires-clause-within : goal.push_removes_at-requires-clause-within
push_removes_at-requires-clause-within c =
    let all = rows c.args.self.now.tables.now.policy c.args.table in
    (subst (λ (o : Option (Bor (List ℕ))). IfSome (option_copied o) (FindFitting c.args.column (c.args.name.now ∷ []) all)) c.in-Some.is c.requires.known).within

pub returns-in-Some : goal.returns-in-Some
returns-in-Some c =
    let all = rows c.args.self.now.tables.now.policy c.args.table in
    let known = subst (λ (o : Option (Bor (List ℕ))). IfSome (option_copied o) (FindFitting c.args.column (c.args.name.now ∷ []) all)) c.in-Some.is c.requires.known in
    subst (λ (l : List Fields). OnOk c.push_removes_at.result (c.push_removes_at.new.changes.items ≡ c.args.changes.now.items ++ removes c.args.table l))
    (ap (λ (name : List ℕ). rows_with c.args.column name (rules_at all c.in-Some.places.now)) c.bytes-name.ensures.value ∙ named_at c.args.column c.args.name.now all c.in-Some.places.now c.requires.columns known) c.push_removes_at.ensures
