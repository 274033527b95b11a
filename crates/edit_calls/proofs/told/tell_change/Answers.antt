use Rattle.std.proofs.Common.{rules, ◌≡◌, Some, true, false}
use Rattle.policy_table.specs.Tables.{place, same}
use Rattle.edit_calls.proofs.StandingLemmas.{insert_told, remove_told, replace_same, replace_told}
use Rattle.edit_calls.proofs.told.tell_change.Goals as goal

pub returns-then-eq-clause-possible : goal.returns-then-eq-clause-possible
returns-then-eq-clause-possible c = λ after are.
    let here : place c.table-table.result ≡ Some c.in-Some.at = search rules in
    replace_same _ _ after are _ _ c.table-table.ensures _ here _ _ _ c.in-Replace.is (search rules)

pub returns-in_ok-tell_rule-in-Insert-clause-told :
    goal.returns-in_ok-tell_rule-in-Insert-clause-told
returns-in_ok-tell_rule-in-Insert-clause-told c = λ possible after are.
    let here : place c.table-table.result ≡ Some c.in-Some.at = search rules in
    let told = c.in_ok-tell_rule-in-Insert.ensures in
    insert_told _ _ after are _ _ c.table-table.ensures _ here _ _ _ _ c.in-Insert.is told.stood possible told.told

pub returns-in_ok-tell_rule-in-Remove-clause-told :
    goal.returns-in_ok-tell_rule-in-Remove-clause-told
returns-in_ok-tell_rule-in-Remove-clause-told c = λ possible after are.
    let here : place c.table-table.result ≡ Some c.in-Some.at = search rules in
    let told = c.in_ok-tell_rule-in-Remove.ensures in
    remove_told _ _ after are _ _ c.table-table.ensures _ here _ _ _ _ c.in-Remove.is told.stood possible told.told

pub returns-in_ok-tell_rule-in-Replace-2-clause-told :
    goal.returns-in_ok-tell_rule-in-Replace-2-clause-told
returns-in_ok-tell_rule-in-Replace-2-clause-told c = λ possible after are.
    let here : place c.table-table.result ≡ Some c.in-Some.at = search rules in
    let old = c.in_ok-tell_rule-in-Replace.ensures in
    let new = c.in_ok-tell_rule-in-Replace-2.ensures in
    let apart : same c.in-Replace.old c.in-Replace.new ≡ false = search rules in
    let stood : c.in_ok-tell_rule-in-Replace.field-0 ≡ true = search rules in
    replace_told _ _ after are _ _ c.table-table.ensures _ here _ _ _ c.in-Replace.is _ _ _ apart old.stood stood old.told new.stood _ possible new.told
